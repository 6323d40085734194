-- Each history that tells a run and keeps the rules of its locks is one that events of the pure machine write.
use Rattle.std.proofs.Common.{◌≡◌, ℕ, ◌+◌, ◌<◌, Bool, true, ◌||◌, List, [], ◌∷◌, ◌++◌, length, map, refl, sym, ap, subst, ◌∙◌, append-nil, append_assoc, length-append, arith}
use Rattle.std.specs.Prelude.{Option, Some, nat_lt, if◌then◌else◌, All}
use Rattle.std.proofs.lemmas.Bool.Decides.{nat_tests}
use Rattle.std.specs.List.{range_with_len}
use Rattle.std.proofs.lemmas.List.Elements.{All-head, All-tail}
use Rattle.tc_elf.specs.Shown.{Shown}
use Rattle.tc_journal.specs.declared.block.Block.{Block}
use Rattle.tc_turn.specs.Turn.{is_running, thread_at_start, no_thread, next_lock}
use Rattle.tc_turn.proofs.Turns.{next_known}
use Rattle.tc_mutex_spec.specs.Machine.{State, start}
use Rattle.tc_mutex_spec.specs.Blocks.{TellsAfter, locks_of_block}
use Rattle.tc_core.specs.declared.place.ThreadPlace.TheVariants.{Ready, Done}
use Rattle.tc_core.specs.Core.{Limits}
use Rattle.tc_core.proofs.Erasure.{first_sound}
use Rattle.tc_core.proofs.Tracked.{first_tracked}
use Rattle.tc_told.specs.Written.{Written, first_written, IsWritten, KeepsRules}
use Rattle.tc_told.proofs.Leads.{Kept, Leads, stays, and_then}
use Rattle.tc_told.proofs.Front.{Front}
use Rattle.tc_told.proofs.Standing.{of_one}
use Rattle.tc_told.proofs.Small.{IsSmall}
use Rattle.tc_told.proofs.Ruling.{Rules, rule_now, rules_on}
use Rattle.tc_told.proofs.Committed.{Opened, IsNext}
use Rattle.tc_told.proofs.Back.{block_done}
use Rattle.tc_told.proofs.Openings.{opens}
use Rattle.tc_lemmas.proofs.Tests.{eq_self}

-- the lock that a block takes is one of its locks
pub takes_it : (held : ℕ → Bool) (k : ℕ) (o : Option ℕ) → o ≡ Some k → locks_of_block held o k ≡ true
takes_it held k o e = ap (λ x. locks_of_block held x k) e ∙ ap (λ v. v || held k) (eq_self k)

-- block by block
pub realized : (image : Shown) (limits : Limits) (seen h : List Block) (m last : State) → map (λ (b : Block). b.stamp) h ≡ range_with_len (length seen) (length h) → All IsSmall h → TellsAfter image seen m h last
    → All (λ (b : Block). b.worker < limits.workers) h → ((k : ℕ) → k < length image.guards → Rules of_one limits seen h k)
    → (s : Written) → Kept s.core → Front image limits seen m s → Leads image limits s (Front image limits (seen ++ h) last)
realized image limits seen [] m last stamps small tells workers rules s kept front = stays image limits s (Front image limits (seen ++ []) last) kept (subst (λ (y : List Block × State). Front image limits y.0 y.1 s) (λ i. (sym (append-nil seen) i, tells i)) front)
realized image limits seen (b ∷ h) m last stamps small tells workers rules s kept front =
    let to : State = tells.0 in
    let is : IsNext image limits seen m b to = record {
      stands = tells.1;
      stamp = (let e = stamps in cc);
      held = All-head IsSmall b h small;
      worker = All-head (λ (c : Block). c.worker < limits.workers) b h workers;
    } in
    let open_block = opens image limits seen m to b is s kept front (λ k e. rule_now of_one limits seen h b k (rules k (next_known image (m.threads b.thread) k e)) (is.stands.held k ∙ takes_it (m.threads b.thread).held k (next_lock image (m.threads b.thread)) e)) in
    let done = and_then image limits s (Opened image limits seen m b) (Front image limits (seen ++ b ∷ []) to) open_block (λ x after by. block_done image limits seen m to b is x after by) in
    let stamps_on : map (λ (c : Block). c.stamp) h ≡ range_with_len (length (seen ++ b ∷ [])) (length h) =
    (let e : map (λ (c : Block). c.stamp) h ≡ range_with_len (length seen + 1) (length h) = (let f = stamps in cc) in e ∙ ap (λ n. range_with_len n (length h)) (sym (length-append seen (b ∷ [])))) in
    let all = and_then image limits s (Front image limits (seen ++ b ∷ []) to) (Front image limits ((seen ++ b ∷ []) ++ h) last) done
    (λ x after by. realized image limits (seen ++ b ∷ []) h to last stamps_on (All-tail IsSmall b h small) tells.2 (All-tail (λ (c : Block). c.worker < limits.workers) b h workers) (λ k lt. rules_on of_one limits seen h b k (rules k lt)) x after by) in
    subst (λ hs. Leads image limits s (Front image limits hs last)) (append_assoc seen (b ∷ []) h) all

first_front : (image : Shown) (limits : Limits) (fuel : ℕ) → Front image limits [] (start image fuel) (first_written image fuel)
first_front image limits fuel = record {
  between = record { machine = refl; turns = λ u. refl; ended = λ u. refl; history = refl };
  rests = λ u lt. (let e : nat_lt u (length image.entries) ≡ true = grind (arith, nat_tests) in sym (ap (λ b. if is_running (if b then thread_at_start image fuel u else no_thread).status then Ready else Done) e));
  custody = λ k. record { place = refl; line = refl; left = refl; run = refl; last = λ b e. absurd (cc); worker = λ b e. absurd (cc) };
  next = λ u. refl;
}

-- from the start
pub leads_to : (image : Shown) (limits : Limits) (fuel : ℕ) (h : List Block) → All IsSmall h → (keeps : KeepsRules image limits fuel h) → Leads image limits (first_written image fuel) (Front image limits h keeps.last)
leads_to image limits fuel h small keeps =
    realized image limits [] h (start image fuel) keeps.last keeps.stamps small keeps.tells keeps.workers (λ k lt. record { obeys = keeps.obeys k lt; passes = keeps.passes k lt })
    (first_written image fuel) (record { sound = first_sound image fuel; tracks = first_tracked image fuel }) (first_front image limits fuel)

pub is_written : (image : Shown) (limits : Limits) (fuel : ℕ) (h : List Block) → All IsSmall h → KeepsRules image limits fuel h → IsWritten image limits fuel h
is_written image limits fuel h small keeps = (let r = leads_to image limits fuel h small keeps in record { events = r.events; enabled = r.enabled; writes = r.comes.between.history })
