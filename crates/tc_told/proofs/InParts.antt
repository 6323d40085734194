-- A history may be written in two parts, between which each thread rests.
use Rattle.std.proofs.Common.{◌≡◌, ℕ, ◌+◌, ◌<◌, List, [], ◌∷◌, ◌++◌, length, map, refl, sym, ap, subst, ◌∙◌, arith, append-nil, append_assoc}
use Rattle.std.specs.Prelude.{All}
use Rattle.std.specs.List.{range_with_len}
use Rattle.std.proofs.lemmas.List.{map-append}
use Rattle.std.proofs.lemmas.List.Elements.{All-cons, All-nil, All-head, All-tail, filter-append}
use Rattle.tc_isa.specs.Sets.{has}
use Rattle.tc_elf.specs.Shown.{Shown}
use Rattle.tc_journal.specs.Batch.{Obeys, ObeysAfter, PassesOn, PassesOnAfter}
use Rattle.tc_journal.specs.History.{of_lock}
use Rattle.tc_journal.specs.declared.block.Block.{Block}
use Rattle.tc_mutex_spec.specs.Machine.{State, start}
use Rattle.tc_mutex_spec.specs.Blocks.{TellsAfter}
use Rattle.tc_mutex_spec.proofs.Entries.{tells_end}
use Rattle.tc_core.specs.Core.{Core, Limits}
use Rattle.tc_told.specs.Written.{Written, first_written, write_all, as_of_one, KeepsRules, place_after, IsWrittenInParts}
use Rattle.tc_told.proofs.Leads.{enabled-append, write_all-append}
use Rattle.tc_told.proofs.Small.{IsSmall}
use Rattle.tc_told.proofs.Standing.{of_one}
use Rattle.tc_told.proofs.Adopters.{core_after}
use Rattle.tc_told.proofs.Realized.{realized, leads_to}

stamps_split : (a : ℕ) (front back : List Block) → map (λ (b : Block). b.stamp) (front ++ back) ≡ range_with_len a (length (front ++ back))
    → (map (λ (b : Block). b.stamp) front ≡ range_with_len a (length front)) × (map (λ (b : Block). b.stamp) back ≡ range_with_len (a + length front) (length back))
stamps_split a [] back e = (refl, e ∙ ap (λ n. range_with_len n (length back)) (let z : a ≡ a + 0 = omega arith in z))
stamps_split a (b ∷ front) back e =
    let first : b.stamp ≡ a = (let f = e in cc) in
    let rest : map (λ (c : Block). c.stamp) (front ++ back) ≡ range_with_len (a + 1) (length (front ++ back)) = (let f = e in cc) in
    let r = stamps_split (a + 1) front back rest in
    ((λ i. first i ∷ r.0 i), r.1 ∙ ap (λ n. range_with_len n (length back)) (let z : a + 1 + length front ≡ a + length (b ∷ front) = omega arith in z))

pub tells_split : (image : Shown) (seen front back : List Block) (m last : State) → TellsAfter image seen m (front ++ back) last
    → (mid : State) × TellsAfter image seen m front mid × TellsAfter image (seen ++ front) mid back last
tells_split image seen [] back m last tells = (m, refl, subst (λ xs. TellsAfter image xs m back last) (sym (append-nil seen)) tells)
tells_split image seen (b ∷ front) back m last tells =
    let r = tells_split image (seen ++ b ∷ []) front back tells.0 last tells.2 in
    (r.0, (tells.0, tells.1, r.1), subst (λ xs. TellsAfter image xs r.0 back last) (append_assoc seen (b ∷ []) front) r.2)

all_split : (P : Block → Type 0) (front back : List Block) → All P (front ++ back) → All P front × All P back
all_split P [] back all = (All-nil P, all)
all_split P (b ∷ front) back all = (let r = all_split P front back (All-tail P b (front ++ back) all) in (All-cons P b front (All-head P b (front ++ back) all) r.0, r.1))

obeys_split : (lock limit : ℕ) (before xs ys : List Block) → ObeysAfter lock limit before (xs ++ ys) → ObeysAfter lock limit before xs × ObeysAfter lock limit (before ++ xs) ys
obeys_split lock limit before [] ys obeys = (tt, subst (λ bs. ObeysAfter lock limit bs ys) (sym (append-nil before)) obeys)
obeys_split lock limit before (x ∷ xs) ys obeys =
    let r = obeys_split lock limit (before ++ x ∷ []) xs ys obeys.1 in
    ((obeys.0, r.0), subst (λ bs. ObeysAfter lock limit bs ys) (append_assoc before (x ∷ []) xs) r.1)

passes_split : (lock : ℕ) (before xs ys : List Block) → PassesOnAfter lock before (xs ++ ys) → PassesOnAfter lock before xs × PassesOnAfter lock (before ++ xs) ys
passes_split lock before [] ys passes = (tt, subst (λ bs. PassesOnAfter lock bs ys) (sym (append-nil before)) passes)
passes_split lock before (x ∷ xs) ys passes =
    let r = passes_split lock (before ++ x ∷ []) xs ys passes.1 in
    ((passes.0, r.0), subst (λ bs. PassesOnAfter lock bs ys) (append_assoc before (x ∷ []) xs) r.1)

module _ (image : Shown) (limits : Limits) (fuel : ℕ) (front back : List Block) (small : All IsSmall (front ++ back)) (keeps : KeepsRules image limits fuel (front ++ back)) where
  of_both : (k : ℕ) → of_lock (front ++ back) k ≡ of_lock front k ++ of_lock back k
  of_both k = filter-append (λ (b : Block). has b.held k) front back

  obeys : (k : ℕ) → k < length image.guards → Obeys k limits.batch (as_of_one (of_lock front k)) × ObeysAfter k limits.batch (as_of_one (of_lock front k)) (as_of_one (of_lock back k))
  obeys k lt = obeys_split k limits.batch [] (as_of_one (of_lock front k)) (as_of_one (of_lock back k))
      (subst (λ bs. Obeys k limits.batch bs) (ap as_of_one (of_both k) ∙ map-append of_one (of_lock front k) (of_lock back k)) (keeps.obeys k lt))

  passes : (k : ℕ) → k < length image.guards → PassesOn k (of_lock front k) × PassesOnAfter k (of_lock front k) (of_lock back k)
  passes k lt = passes_split k [] (of_lock front k) (of_lock back k) (subst (λ bs. PassesOn k bs) (of_both k) (keeps.passes k lt))

  pub written_in_parts : IsWrittenInParts image limits fuel front back
  written_in_parts =
      let stamps = stamps_split 0 front back keeps.stamps in
      let tells = tells_split image [] front back (start image fuel) keeps.last keeps.tells in
      let workers = all_split (λ (b : Block). b.worker < limits.workers) front back keeps.workers in
      let each = all_split IsSmall front back small in
      let from = first_written image fuel in
      let first = leads_to image limits fuel front each.0
      (record { last = tells.0; stamps = stamps.0; tells = tells.1; workers = workers.0; obeys = λ k lt. (obeys k lt).0; passes = λ k lt. (passes k lt).0 }) in
      let more = realized image limits front back tells.0 keeps.last (stamps.1 ∙ ap (λ n. range_with_len n (length back)) (let z : 0 + length front ≡ length front = omega arith in z)) each.1 tells.2 workers.1
      (λ k lt. record { obeys = (obeys k lt).1; passes = (passes k lt).1 }) (write_all image from first.events) first.kept first.comes in
      record {
        first = first.events;
        more = more.events;
        enabled = enabled-append image limits first.events more.events from first.enabled more.enabled;
        writes_front = first.comes.between.history;
        writes = ap (λ (x : Written). x.history) (write_all-append image first.events more.events from) ∙ more.comes.between.history;
        threads = λ t lt. ap (λ (c : Core). (c.course t).place) (sym (core_after image first.events from)) ∙ first.comes.rests t lt
            ∙ ap (λ m. place_after m front t) (tells_end image [] front (start image fuel) tells.0 tells.1);
      }
