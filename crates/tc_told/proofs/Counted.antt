-- The blocks that are written are those of the Commit events, with the turns that the Turn events make.
use Rattle.std.proofs.Common.{◌≡◌, ℕ, ◌+◌, true, ◌==◌, List, [], ◌∷◌, ◌++◌, refl, sym, ap, subst, ◌∙◌, inl, inr, append-nil, append_assoc}
use Rattle.std.specs.Prelude.{Option, Some, None, is_some, if◌then◌else◌}
use Rattle.std.proofs.lemmas.Bool.Decides.{eqb_tells}
use Rattle.tc_core.proofs.Unfinished.{commit_may}
use Rattle.tc_elf.specs.Shown.{Shown}
use Rattle.tc_journal.specs.History.{schedule}
use Rattle.tc_journal.specs.declared.block.Block.{Block}
use Rattle.tc_journal.specs.declared.block.End.{End}
use Rattle.tc_core.specs.declared.event.Event.{Event}
use Rattle.tc_core.specs.declared.event.Event.TheVariants.{Turn, Commit}
use Rattle.tc_core.specs.declared.place.Course.{Course}
use Rattle.tc_core.specs.Core.{Core, Limits, first_core}
use Rattle.tc_core.specs.Events.{effect}
use Rattle.tc_core.specs.Stories.{AreEnabled, counts_on, blocks_from, blocks_of}
use Rattle.tc_core.proofs.Quiet.{Quiet, quiet_event, pick_mine, pick_other}
use Rattle.tc_told.specs.Written.{Beginning, Written, first_written, write, write_all, history_of}
use Rattle.tc_told.proofs.Front.{block_on}

schedule_more : (h : List Block) (b : Block) → schedule (h ++ b ∷ []) ≡ schedule h ++ (b.thread, b.turns) ∷ []
schedule_more [] b = refl
schedule_more (x ∷ h) b = ap (λ ps. (x.thread, x.turns) ∷ ps) (schedule_more h b)

one_more : (h : List Block) (w t : ℕ) (a : Beginning) (x : Course) (end : Option End) → is_some end ≡ true → schedule (block_on h w t a x end) ≡ schedule h ++ (t, x.turns) ∷ []
one_more h w t a x None e = absurd (cc)
one_more h w t a x (Some end) e = schedule_more h _

abbrev Counts : (ℕ → ℕ) → Core → Type 0
Counts counts c = (u : ℕ) → counts u ≡ (c.course u).turns

counts_turn : (image : Shown) (c : Core) (w t : ℕ) (counts : ℕ → ℕ) → Counts counts c → Counts (counts_on counts (Turn w t)) (effect image c (Turn w t))
unfolding effect
counts_turn image c w t counts same u = elim (eqb_tells u t) [
  | inl h ↦ subst (λ v. (if v == t then counts t + 1 else counts v) ≡ ((effect image c (Turn w t)).course v).turns) (sym h.1) (pick_mine t (counts t + 1) (counts t) ∙ ap (λ n. n + 1) (same t) ∙ sym (ap (λ (x : Course). x.turns) (pick_mine t _ (c.course t))))
  | inr h ↦ pick_other u t _ (counts u) h.1 ∙ same u ∙ sym (ap (λ (x : Course). x.turns) (pick_other u t _ (c.course u) h.1))
]

counts_commit : (image : Shown) (c : Core) (w t : ℕ) (counts : ℕ → ℕ) → Counts counts c → Counts (counts_on counts (Commit w t)) (effect image c (Commit w t))
unfolding effect
counts_commit image c w t counts same u = elim (eqb_tells u t) [
  | inl h ↦ subst (λ v. (if v == t then 0 else counts v) ≡ ((effect image c (Commit w t)).course v).turns) (sym h.1) (pick_mine t 0 (counts t) ∙ sym (ap (λ (x : Course). x.turns) (pick_mine t _ (c.course t))))
  | inr h ↦ pick_other u t _ (counts u) h.1 ∙ same u ∙ sym (ap (λ (x : Course). x.turns) (pick_other u t _ (c.course u) h.1))
]

-- an event that neither makes a turn nor commits
counted_quiet : (image : Shown) (e : Event) (es : List Event) (s : Written) (counts : ℕ → ℕ) → Quiet s.core (effect image s.core e) → (write image s e).history ≡ s.history → blocks_from counts es ≡ blocks_from counts (e ∷ es)
    → Counts counts s.core
    → (Counts counts (effect image s.core e) → schedule (write_all image (write image s e) es).history ≡ schedule (write image s e).history ++ blocks_from counts es)
    → schedule (write_all image s (e ∷ es)).history ≡ schedule s.history ++ blocks_from counts (e ∷ es)
counted_quiet image e es s counts quiet still none same rec =
    rec (λ u. same u ∙ sym (quiet.turns u)) ∙ (λ i. schedule (still i) ++ none i)

counted : (image : Shown) (limits : Limits) (events : List Event) (s : Written) (counts : ℕ → ℕ) → Counts counts s.core → AreEnabled image limits s.core events
    → schedule (write_all image s events).history ≡ schedule s.history ++ blocks_from counts events
counted image limits [] s counts same on = sym (append-nil (schedule s.history))
counted image limits (Turn w t ∷ es) s counts same on = counted image limits es (write image s (Turn w t)) (counts_on counts (Turn w t)) (counts_turn image s.core w t counts same) on.1
counted image limits (Commit w t ∷ es) s counts same on =
    counted image limits es (write image s (Commit w t)) (counts_on counts (Commit w t)) (counts_commit image s.core w t counts same) on.1
    ∙ ap (λ ps. ps ++ blocks_from (counts_on counts (Commit w t)) es)
    (one_more s.history w t (s.next t) (s.core.course t) (s.core.course t).ended (commit_may image limits s.core w t on.0) ∙ ap (λ n. schedule s.history ++ (t, n) ∷ []) (sym (same t)))
    ∙ append_assoc (schedule s.history) ((t, counts t) ∷ []) (blocks_from (counts_on counts (Commit w t)) es)
counted image limits (e ∷ es) s counts same on =
    counted_quiet image e es s counts (quiet_event image limits s.core e on.0 refl) refl refl same (λ k. counted image limits es (write image s e) counts k on.1)

-- of every list of events, each enabled when it comes
pub blocks_written : (image : Shown) (limits : Limits) (fuel : ℕ) (events : List Event) → AreEnabled image limits (first_core image fuel) events → schedule (history_of image fuel events) ≡ blocks_of events
blocks_written image limits fuel events on = counted image limits events (first_written image fuel) (λ t. 0) (λ u. refl) on
