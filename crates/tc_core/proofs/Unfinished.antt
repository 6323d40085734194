-- The finished blocks in commit order, and then the unfinished ones in order of thread, lead to the core's machine.
use Rattle.std.proofs.Common.{◌≡◌, ◌≢◌, ℕ, zero, suc, ◌+◌, ◌<◌, Bool, true, false, not, ◌&&◌, ◌==◌, List, [], ◌∷◌, refl, sym, ap, subst, ◌∙◌, arith, inl, inr}
use Rattle.std.specs.Prelude.{Option, Some, None, is_some, if◌then◌else◌, option_and_then}
use Rattle.std.proofs.lemmas.Bool.{and_parts}
use Rattle.std.proofs.lemmas.Bool.Decides.{eqb_tells}
use Rattle.tc_elf.specs.Shown.{Shown}
use Rattle.tc_journal.specs.declared.block.End.{End}
use Rattle.tc_turn.specs.Turn.{next_lock}
use Rattle.tc_mutex_spec.specs.Machine.{State, run_from}
use Rattle.tc_mutex_spec.specs.Blocks.{reach, end_at, Runs}
use Rattle.tc_mutex_spec.proofs.Folding.{turns-reach}
use Rattle.tc_core.specs.declared.event.Event.{Event}
use Rattle.tc_core.specs.declared.event.Event.TheVariants.{Turn, Commit}
use Rattle.tc_core.specs.Core.{Core, Limits, Course, Custody, Release, Loose, is_number, with_of}
use Rattle.tc_core.specs.Events.{is_enabled, effect, has_thread, custody_past, after_turn}
use Rattle.tc_core.specs.View.{IsSoundCore}
use Rattle.tc_core.specs.Stories.{AreEnabled, after_all, counts_on, blocks_from}
use Rattle.tc_core.specs.Theorem.{AreBlocks}
use Rattle.tc_core.proofs.Gathers.{Gathers, HasEnds}
use Rattle.tc_core.proofs.Quiet.{Quiet, owned, pick_mine, pick_other, quiet_event}
use Rattle.tc_core.proofs.Erasure.{MayTurn, may_turn, quiet_sound, take_facts, turn_can, turn_sound, turn_is, commit_sound, commit_machine, taken_other, taken_same, past_kept}
use Rattle.tc_core.proofs.Gathering.{Extends, Ends, extended, new_end, committed, other_ends}

unfoldable pub done_of : Core → ℕ → ℕ
done_of c t = (c.course t).turns

unfoldable pub ended_of : Core → ℕ → Option End
ended_of c t = (c.course t).ended

no_end : (o : Option End) → is_some o ≡ false → o ≡ None
no_end None e = refl
no_end (Some x) e = absurd (cc)

-- what is kept besides
pub record Keeps (image : Shown) (c : Core) (base : State) : Type 0 where
  pub sound : IsSoundCore c
  pub gathers : Gathers image c.machine base (owned c) (done_of c)
  pub ends : HasEnds image base (done_of c) (ended_of c)

pub keeps_quiet : (image : Shown) (c d : Core) (base : State) → Quiet c d → Keeps image c base → Keeps image d base
unfolding owned done_of ended_of
keeps_quiet image c d base quiet keeps =
    let o : owned d ≡ owned c = (λ i k. quiet.owned k i) in
    let n : done_of d ≡ done_of c = (λ i t. quiet.turns t i) in
    let e : ended_of d ≡ ended_of c = (λ i t. quiet.ended t i) in
    record {
      sound = quiet_sound c d quiet keeps.sound;
      gathers = subst (λ m. Gathers image m base (owned d) (done_of d)) (sym quiet.machine)
          (subst (λ f. Gathers image c.machine base f (done_of d)) (sym o) (subst (λ f. Gathers image c.machine base (owned c) f) (sym n) keeps.gathers));
      ends = subst (λ f. HasEnds image base f (ended_of d)) (sym n) (subst (λ f. HasEnds image base (done_of c) f) (sym e) keeps.ends);
    }

extends_core : (image : Shown) (c : Core) (t : ℕ) → IsSoundCore c → MayTurn image c t → Extends image c.machine t (owned c) (owned (after_turn image c t)) (done_of c) (done_of (after_turn image c t))
unfolding owned done_of
extends_core image c t owners may = record {
  can = turn_can image c t owners may;
  first = λ k e. (let f = take_facts image c t k may e in (f.0, f.1, taken_same (next_lock image (c.machine.threads t)) t k (c.custody k) e));
  same = λ k ne. ap (λ (p : Custody). with_of p.place) (taken_other (next_lock image (c.machine.threads t)) t k (c.custody k) ne);
  mine = ap (λ (s : Course). s.turns) (pick_mine t _ (c.course t));
  other = λ u ne. ap (λ (s : Course). s.turns) (pick_other u t _ (c.course u) ne);
}

pub keeps_turn : (image : Shown) (c : Core) (base : State) (t : ℕ) → MayTurn image c t → Keeps image c base → Keeps image (after_turn image c t) base
unfolding done_of ended_of
keeps_turn image c base t may keeps =
    let x = extends_core image c t keeps.sound may in
    let g = keeps.gathers in
    record {
      sound = turn_sound image c t keeps.sound may;
      gathers = extended image c.machine base t (owned c) (owned (after_turn image c t)) (done_of c) (done_of (after_turn image c t)) g x (λ k e. keeps.ends.ends t k e ∙ no_end _ may.open_block);
      ends = record {
        ends = λ u k e. elim (eqb_tells u t) [
          | inl h ↦ (let k_is : k ≡ done_of c t = (let s : k + 1 ≡ done_of (after_turn image c t) t = subst (λ v. k + 1 ≡ done_of (after_turn image c t) v) h.1 e in let m = x.mine in omega arith) in
              subst (λ v. end_at image base v k ≡ ended_of (after_turn image c t) v) (sym h.1)
              (subst (λ j. end_at image base t j ≡ ended_of (after_turn image c t) t) (sym k_is)
              (new_end image c.machine base t (owned c) (owned (after_turn image c t)) (done_of c) (done_of (after_turn image c t)) g x ∙ sym (ap (λ (s : Course). s.ended) (pick_mine t _ (c.course t))))))
          | inr h ↦ keeps.ends.ends u k (e ∙ x.other u h.1) ∙ sym (ap (λ (s : Course). s.ended) (pick_other u t _ (c.course u) h.1))
        ];
        none = λ u z. elim (eqb_tells u t) [
          | inl h ↦ absurd (let s : done_of (after_turn image c t) t ≡ 0 = subst (λ v. done_of (after_turn image c t) v ≡ 0) h.1 z in let m = x.mine in omega arith)
          | inr h ↦ ap (λ (s : Course). s.ended) (pick_other u t _ (c.course u) h.1) ∙ keeps.ends.none u (sym (x.other u h.1) ∙ z)
        ];
      };
    }

-- a commit

past_with : (w t u : ℕ) (held : Bool) (r : Option Release) (p : Custody) → with_of (custody_past w t held r p).place ≡ Some u → with_of p.place ≡ Some u
past_with w t u held r p =
    elim (is_number (with_of p.place) t && not held) as (λ b. with_of (if b then record p { place = Loose w; last = r } else p).place ≡ Some u → with_of p.place ≡ Some u) [
      | true ↦ λ e. absurd (cc)
      | false ↦ λ e. e
    ]

ends_core : (image : Shown) (c : Core) (base : State) (w t : ℕ) → Keeps image c base → Ends c.machine t (owned c) (owned (effect image c (Commit w t))) (done_of c) (done_of (effect image c (Commit w t)))
unfolding owned done_of effect
ends_core image c base w t keeps = record {
  keeps = λ k u e. past_with w t u _ _ (c.custody k) e;
  others = λ k u ne e. ap (λ (p : Custody). with_of p.place) (past_kept w t u _ _ (c.custody k) e (λ h. absurd (ne h))) ∙ e;
  held = λ k h. (let o = keeps.gathers.held t k h in ap (λ (p : Custody). with_of p.place) (past_kept w t t _ _ (c.custody k) o (λ s. h)) ∙ o);
  mine = ap (λ (s : Course). s.turns) (pick_mine t _ (c.course t));
  other = λ u ne. ap (λ (s : Course). s.turns) (pick_other u t _ (c.course u) ne);
}

commit_ended : (image : Shown) (c : Core) (w t : ℕ) → ((effect image c (Commit w t)).course t).ended ≡ None
unfolding effect
commit_ended image c w t = ap (λ (s : Course). s.ended) (pick_mine t _ (c.course t))

commit_ended_other : (image : Shown) (c : Core) (w t u : ℕ) → u ≢ t → ((effect image c (Commit w t)).course u).ended ≡ (c.course u).ended
unfolding effect
commit_ended_other image c w t u ne = ap (λ (s : Course). s.ended) (pick_other u t _ (c.course u) ne)

pub keeps_commit : (image : Shown) (c : Core) (base : State) (w t : ℕ) → Keeps image c base → Keeps image (effect image c (Commit w t)) (reach image base t (done_of c t))
unfolding ended_of
keeps_commit image c base w t keeps =
    let d = effect image c (Commit w t) in
    let x = ends_core image c base w t keeps in
    record {
      sound = commit_sound image c w t keeps.sound;
      gathers = subst (λ m. Gathers image m (reach image base t (done_of c t)) (owned d) (done_of d)) (sym (commit_machine image c w t))
          (committed image c.machine base t (owned c) (owned d) (done_of c) (done_of d) keeps.gathers x);
      ends = record {
        ends = λ u k e. elim (eqb_tells u t) [
          | inl h ↦ absurd (let s : k + 1 ≡ done_of d t = subst (λ v. k + 1 ≡ done_of d v) h.1 e in let m = x.mine in omega arith)
          | inr h ↦ other_ends image c.machine base t (owned c) (owned d) (done_of c) (done_of d) keeps.gathers x u k h.1 e
              ∙ keeps.ends.ends u k (e ∙ x.other u h.1) ∙ sym (commit_ended_other image c w t u h.1)
        ];
        none = λ u z. elim (eqb_tells u t) [
          | inl h ↦ ap (λ v. ((effect image c (Commit w t)).course v).ended) h.1 ∙ commit_ended image c w t
          | inr h ↦ commit_ended_other image c w t u h.1 ∙ keeps.ends.none u (sym (x.other u h.1) ∙ z)
        ];
      };
    }

-- the committed block is a whole one
some_end : (o : Option End) → is_some o ≡ true → (e : End) × (o ≡ Some e)
some_end None h = absurd (cc)
some_end (Some e) h = (e, refl)

pub commit_may : (image : Shown) (limits : Limits) (c : Core) (w t : ℕ) → is_enabled image limits c (Commit w t) ≡ true → is_some (c.course t).ended ≡ true
unfolding is_enabled
commit_may image limits c w t e = (and_parts (has_thread image limits c w t) _ e).1

pub block_runs : (image : Shown) (c : Core) (base : State) (t : ℕ) → Keeps image c base → is_some (c.course t).ended ≡ true → (end : End) × Runs image base t (done_of c t) end (reach image base t (done_of c t))
unfolding done_of ended_of
block_runs image c base t keeps some =
    let e = some_end (c.course t).ended some in (
      e.0,
      record {
        some = positive (c.course t).turns refl;
        defined = keeps.gathers.defined t;
        before = keeps.gathers.before t;
        ends = λ k h. keeps.ends.ends t k h ∙ e.1;
        last = refl;
      },
    )
  where
    positive : (n : ℕ) → done_of c t ≡ n → 0 < n
    positive zero h = absurd (let z = keeps.ends.none t h in let f : is_some (c.course t).ended ≡ false = ap is_some z in cc)
    positive (suc n) h = omega arith

-- the runs over all events

pub record Gathered (image : Shown) (c : Core) (events : List Event) (base : State) (pairs : List (ℕ × ℕ)) : Type 0 where
  pub to : State
  pub runs : run_from image base pairs ≡ Some to
  pub blocks : AreBlocks image base pairs
  pub keeps : Keeps image (after_all image c events) to

counts_turn : (image : Shown) (c : Core) (w t : ℕ) (done : ℕ → ℕ) → ((u : ℕ) → done u ≡ done_of c u) → (u : ℕ) → counts_on done (Turn w t) u ≡ done_of (effect image c (Turn w t)) u
unfolding done_of effect
counts_turn image c w t done same u = elim (eqb_tells u t) [
  | inl h ↦ subst (λ v. (if v == t then done t + 1 else done v) ≡ done_of (effect image c (Turn w t)) v) (sym h.1) (pick_mine t (done t + 1) (done t) ∙ ap (λ n. n + 1) (same t) ∙ sym (ap (λ (s : Course). s.turns) (pick_mine t _ (c.course t))))
  | inr h ↦ ap (λ b. if b then done t + 1 else done u) h.0 ∙ same u ∙ sym (ap (λ (s : Course). s.turns) (pick_other u t _ (c.course u) h.1))
]

counts_commit : (image : Shown) (c : Core) (w t : ℕ) (done : ℕ → ℕ) → ((u : ℕ) → done u ≡ done_of c u) → (u : ℕ) → counts_on done (Commit w t) u ≡ done_of (effect image c (Commit w t)) u
unfolding done_of effect
counts_commit image c w t done same u = elim (eqb_tells u t) [
  | inl h ↦ subst (λ v. (if v == t then 0 else done v) ≡ done_of (effect image c (Commit w t)) v) (sym h.1) (pick_mine t 0 (done t) ∙ sym (ap (λ (s : Course). s.turns) (pick_mine t _ (c.course t))))
  | inr h ↦ ap (λ b. if b then 0 else done u) h.0 ∙ same u ∙ sym (ap (λ (s : Course). s.turns) (pick_other u t _ (c.course u) h.1))
]

-- an event that changes no block
gathered_quiet : (image : Shown) (e : Event) (es : List Event) (c : Core) (base : State) (done : ℕ → ℕ) → Quiet c (effect image c e) → blocks_from done es ≡ blocks_from done (e ∷ es)
    → Keeps image c base → ((t : ℕ) → done t ≡ done_of c t)
    → (Keeps image (effect image c e) base → ((t : ℕ) → done t ≡ done_of (effect image c e) t) → Gathered image (effect image c e) es base (blocks_from done es))
    → Gathered image c (e ∷ es) base (blocks_from done (e ∷ es))
unfolding done_of
gathered_quiet image e es c base done quiet none keeps same rec =
    let r = rec (keeps_quiet image c (effect image c e) base quiet keeps) (λ t. same t ∙ sym (quiet.turns t)) in
    subst (λ pairs. Gathered image c (e ∷ es) base pairs) none (record { to = r.to; runs = r.runs; blocks = r.blocks; keeps = r.keeps })

pub gathered : (image : Shown) (limits : Limits) (events : List Event) (c : Core) (base : State) (done : ℕ → ℕ) → Keeps image c base → ((t : ℕ) → done t ≡ done_of c t)
    → AreEnabled image limits c events → Gathered image c events base (blocks_from done events)
gathered image limits [] c base done keeps same on = record { to = base; runs = refl; blocks = tt; keeps = keeps }
gathered image limits (Turn w t ∷ es) c base done keeps same on =
    let may = may_turn image limits c w t on.0 in
    let keeps' : Keeps image (effect image c (Turn w t)) base = subst (λ x. Keeps image x base) (sym (turn_is image c w t)) (keeps_turn image c base t may keeps) in
    let r = gathered image limits es (effect image c (Turn w t)) base (counts_on done (Turn w t)) keeps' (counts_turn image c w t done same) on.1 in
    record { to = r.to; runs = r.runs; blocks = r.blocks; keeps = r.keeps }
gathered image limits (Commit w t ∷ es) c base done keeps same on =
    let block = block_runs image c base t keeps (commit_may image limits c w t on.0) in
    let mid : State = reach image base t (done t) in
    let e = same t in
    let keeps' : Keeps image (effect image c (Commit w t)) mid = subst (λ n. Keeps image (effect image c (Commit w t)) (reach image base t n)) (sym e) (keeps_commit image c base w t keeps) in
    let r = gathered image limits es (effect image c (Commit w t)) mid (counts_on done (Commit w t)) keeps' (counts_commit image c w t done same) on.1 in
    let runs : Runs image base t (done t) block.0 mid = subst (λ n. Runs image base t n block.0 (reach image base t n)) (sym e) block.1 in
    record {
      to = r.to;
      runs = ap (option_and_then (λ n. run_from image n (blocks_from (counts_on done (Commit w t)) es))) (turns-reach image base t (done t) runs.defined) ∙ r.runs;
      blocks = (block.0, mid, runs, r.blocks);
      keeps = r.keeps;
    }
gathered image limits (e ∷ es) c base done keeps same on =
    gathered_quiet image e es c base done (quiet_event image limits c e on.0 refl) refl keeps same (λ k s. gathered image limits es _ base done k s on.1)
