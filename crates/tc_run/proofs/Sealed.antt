-- The history that a hall's packages and lock states follow is that of the blocks sealed in its order.
use Rattle.std.proofs.Common.{◌≡◌, ◌≢◌, ⊎_elim, ℕ, suc, ◌+◌, ◌%◌, ◌*◌, ◌<◌, ◌≤◌, List, [], ◌∷◌, ◌++◌, length, set, slice_index, get_or-set_other, get_or-set_same, length-append, refl, sym, ap, ◌∙◌, subst, arith, Option, Some, None}
use Rattle.std.proofs.lemmas.List.{append-nil, get_or-replicate}
use Rattle.std.proofs.lemmas.Nat.{mul-le}
use mathlib.Core.Option as maybe
use mathlib.Core.Option.{some, some-injective, some-ne-none}
use mathlib.Core.Logic.{dite}
use native.Mathlib.Decide.{ℕ_discrete}
use lib.ListN.{get_elem?}
use Rattle.tc_journal.specs.History.{of_lock, of_thread}
use Rattle.tc_journal.specs.declared.block.Block.{Block}
use Rattle.tc_segment.specs.View.{blocks_of, sealed_block}
use Rattle.tc_context.specs.View.{PackageView, bare, with_seal}
use Rattle.tc_law.proofs.Following.{blocks_are}
use Rattle.tc_mutex_spec.specs.Blocks.{end_after}
use Rattle.tc_hall.specs.declared.board.HallTerms.{HallTerms}
use Rattle.tc_hall.specs.declared.board.Knows.{Knows}
use Rattle.tc_hall.specs.declared.board.TheConstants.{CLOCK, STOP}
use Rattle.tc_hall.specs.declared.board.Cargo.TheVariants.{Package}
use Rattle.tc_hall.specs.Places.{slot_word}
use Rattle.tc_hall.specs.Lines.{line_word}
use Rattle.tc_hall.specs.Rule.{KeptHall, Lies, threads, words_of}
use Rattle.tc_hall.specs.Steps.{after_seal, dealt, fresh, gone, merged}
use Rattle.tc_hall.specs.Effects.{Hall}
use Rattle.tc_hall.specs.Order.{Operation, claim, take, miss, commit, put, free, line, look, stop, stopped, reach, lay, split, join, Made, MayDo, IsLegal, IsOpening, after_operation, hall_after}
use Rattle.tc_hall.specs.Shown.{PackageAt, in_slot, with_pass}
use Rattle.tc_hall.proofs.Cases.{not_empty, not_taken, same_package}
use Rattle.tc_hall.proofs.Ordering.{kept_by}
use Rattle.atomic_table.proofs.Lists.{at_last, at_longer, set_else, set_here}
use Rattle.tc_lemmas.proofs.Lists.{at_end, in_range, something_at}
use Rattle.tc_mutex_spec.proofs.ListLaws.{same_list, there}
use Rattle.tc_run.specs.Run.{sealed_by, sealed_in}
use Rattle.tc_run.proofs.Agree.{IsWrittenSo, Run, hall_at, written_at}
use Rattle.tc_run.proofs.Hands.{kept_at, set_stays, state_kept}
use Rattle.tc_hall.proofs.Words.{line_behind}

-- ---- the clock

-- the clock counts the blocks of an order whose last operation is o
abbrev Counts : HallTerms → Hall → ℕ → Knows → Operation → List Block → Type 0
Counts k s id v o bs = slice_index (after_operation k s id v o).words CLOCK ≡ length (bs ++ sealed_by v o)

still : (n : ℕ) (bs : List Block) → n ≡ length bs → n ≡ length (bs ++ [])
still n bs e = e ∙ ap length (sym (append-nil bs))

clock_counts : (k : HallTerms) (s : Hall) (rule : KeptHall k s) (id : ℕ) (v : Knows) (o : Operation) (bs : List Block) → slice_index s.words CLOCK ≡ length bs → MayDo k s id v o → Counts k s id v o bs
clock_counts k s rule id v (claim t word q) bs is may = get_or-set_other s.words (slot_word t) CLOCK _ 0 (λ e. omega arith) ∙ still _ bs is
clock_counts k s rule id v (take i l) bs is may = get_or-set_other s.words (slot_word (threads k + i)) CLOCK _ 0 (λ e. omega arith) ∙ still _ bs is
clock_counts k s rule id v (miss word wanted found) bs is may = set_stays s.words word found CLOCK may.0 ∙ still _ bs is
clock_counts k s rule id v (commit stamp b q) bs is may =
    let most : threads k * (k.fuel + 1) ≤ 32 * 65537 = mul-le (threads k) (k.fuel + 1) 32 65537 rule.told.limits.threads (omega (arith, rule.told.limits.fuel)) in
    let long = rule.words in
    let bound = rule.told.law.bound in
    let clock = rule.clock in
    let at = may.0 in
    let more : length (bs ++ sealed_block stamp v.worker b ∷ []) ≡ length bs + 1 = length-append bs (sealed_block stamp v.worker b ∷ []) in
    let new : slice_index (after_operation k s id v (commit stamp b q)).words CLOCK ≡ (stamp + 1) % 18446744073709551616 = get_or-set_same s.words CLOCK ((stamp + 1) % 18446744073709551616) 0 (omega (arith, long)) in
    omega (arith, new, most, bound, clock, at, is, more)
clock_counts k s rule id v (put q place) bs is may = get_or-set_other s.words (slot_word q.context.thread) CLOCK _ 0 (λ e. omega arith) ∙ still _ bs is
clock_counts k s rule id v (free l) bs is may = get_or-set_other s.words (slot_word (threads k + l.number)) CLOCK _ 0 (λ e. omega arith) ∙ still _ bs is
clock_counts k s rule id v (look t found) bs is may = set_stays s.words (slot_word t) found CLOCK may.1 ∙ still _ bs is
clock_counts k s rule id v stop bs is may = get_or-set_other s.words STOP CLOCK _ 0 (λ e. omega arith) ∙ still _ bs is
clock_counts k s rule id v (stopped found) bs is may = set_stays s.words STOP found CLOCK may ∙ still _ bs is
clock_counts k s rule id v (line i c) bs is may = (let b = line_behind k i c in get_or-set_other s.words (line_word k i c) CLOCK _ 0 (λ e. omega arith)) ∙ still _ bs is
clock_counts k s rule id v (reach slot) bs is may = set_stays s.words (slot_word slot) _ CLOCK refl ∙ still _ bs is
clock_counts k s rule id v (lay slot) bs is may = set_stays s.words (slot_word slot) _ CLOCK refl ∙ still _ bs is
clock_counts k s rule id v split bs is may = still _ bs is
clock_counts k s rule id v (join other w) bs is may = still _ bs is

clock_all : (k : HallTerms) (first : Hall) → IsOpening k first → (order : List Made) → IsLegal k first order → slice_index (hall_after k first order).words CLOCK ≡ length (sealed_in order)
clock_all k first opens [] legal = subst (λ (z : Hall). slice_index z.words CLOCK ≡ 0) (sym opens.is) (get_or-replicate (words_of k) CLOCK 0 0 (omega arith))
clock_all k first opens (m ∷ before) legal =
    clock_counts k (hall_after k first before) (kept_by k first opens before legal.1) m.pass m.knew m.operation (sealed_in before) (clock_all k first opens before legal.1) legal.0.may

-- so the stamp of each block is its place
abbrev InPlace : List Block → Type 0
InPlace bs = (i : ℕ) (x : Block) → get_elem? bs i ≡ some x → x.stamp ≡ i

in_place : (k : HallTerms) (first : Hall) → IsOpening k first → (order : List Made) → IsLegal k first order → InPlace (sealed_in order)
in_place k first opens [] legal j c e = absurd (some-ne-none c (sym e))
in_place k first opens (m ∷ before) legal j c e = by (λ i x f. in_place k first opens before legal.1 i x f) m.operation legal.0.may e
  where
    old : InPlace (sealed_in before) → get_elem? (sealed_in before ++ []) j ≡ some c → c.stamp ≡ j
    old front f = front j c (ap (λ (bs : List Block). get_elem? bs j) (sym (append-nil (sealed_in before))) ∙ f)

    by : InPlace (sealed_in before) → (o : Operation) → MayDo k (hall_after k first before) m.pass m.knew o → get_elem? (sealed_in before ++ sealed_by m.knew o) j ≡ some c → c.stamp ≡ j
    by front (commit stamp b q) may f = ⊎_elim
        (λ (z : get_elem? (sealed_in before) j ≡ some c). front j c z)
        (λ (z : (j ≡ length (sealed_in before)) × (sealed_block stamp m.knew.worker b ≡ c)). ap (λ (x : Block). x.stamp) (sym z.1) ∙ (sym may.0 ∙ (clock_all k first opens before legal.1 ∙ sym z.0)))
        (at_end (sealed_in before) (sealed_block stamp m.knew.worker b) c j f)
    by front (claim t word q) may f = old front f
    by front (take i l) may f = old front f
    by front (miss word wanted found) may f = old front f
    by front (put q place) may f = old front f
    by front (free l) may f = old front f
    by front (look t found) may f = old front f
    by front stop may f = old front f
    by front (stopped found) may f = old front f
    by front (line i d) may f = old front f
    by front (reach slot) may f = old front f
    by front (lay slot) may f = old front f
    by front split may f = old front f
    by front (join other w) may f = old front f

-- ---- each block that was sealed is in the list of a pass

record IsListed (vs : List Knows) (c : Block) : Type 0 where
  id : ℕ
  view : Knows
  pass : get_elem? vs id ≡ some view
  place : ℕ
  has : get_elem? view.sealed place ≡ some c

-- what one pass lists, another does
abbrev Passes : Knows → Knows → Block → Type 0
Passes v w c = (j : ℕ) → get_elem? v.sealed j ≡ some c → (i : ℕ) × (get_elem? w.sealed i ≡ some c)

back_at : (xs ys : List Block) (j : ℕ) (c : Block) → get_elem? ys j ≡ some c → (i : ℕ) × (get_elem? (xs ++ ys) i ≡ some c)
back_at [] ys j c e = (j, e)
back_at (x ∷ xs) ys j c e = (let r = back_at xs ys j c e in (suc r.0, r.1))

listed_set : (vs : List Knows) (id : ℕ) (v w : Knows) (c : Block) → get_elem? vs id ≡ some v → Passes v w c → IsListed vs c → IsListed (set vs id w) c
listed_set vs id v w c at passes is = dite (ℕ_discrete is.id id)
    (λ (same : is.id ≡ id).
    let e : v ≡ is.view = some-injective v is.view (sym at ∙ (ap (get_elem? vs) (sym same) ∙ is.pass)) in
    let p = passes is.place (ap (λ (z : Knows). get_elem? z.sealed is.place) e ∙ is.has) in
    record { id = id; view = w; pass = set_here vs id w (there vs id v v at).0; place = p.0; has = p.1 })
    (λ ne. record { id = is.id; view = is.view; pass = set_else vs id is.id w ne ∙ is.pass; place = is.place; has = is.has })

listed_join : (vs : List Knows) (id other : ℕ) (v w : Knows) (c : Block) → get_elem? vs id ≡ some v → get_elem? vs other ≡ some w → other ≢ id → IsListed vs c → IsListed (set (set vs id (merged v w)) other gone) c
listed_join vs id other v w c at there_at ne is = dite (ℕ_discrete is.id other)
    (λ (same : is.id ≡ other).
    let e : w ≡ is.view = some-injective w is.view (sym there_at ∙ (ap (get_elem? vs) (sym same) ∙ is.pass)) in
    let p = back_at v.sealed w.sealed is.place c (ap (λ (z : Knows). get_elem? z.sealed is.place) e ∙ is.has) in
    record { id = id; view = merged v w; pass = set_else (set vs id (merged v w)) other id gone (λ (z : id ≡ other). ne (sym z)) ∙ set_here vs id (merged v w) (there vs id v v at).0; place = p.0; has = p.1 })
    (λ far.
    dite (ℕ_discrete is.id id)
    (λ (mine : is.id ≡ id).
    let e : v ≡ is.view = some-injective v is.view (sym at ∙ (ap (get_elem? vs) (sym mine) ∙ is.pass)) in
    record {
      id = id;
      view = merged v w;
      pass = set_else (set vs id (merged v w)) other id gone (λ (z : id ≡ other). ne (sym z)) ∙ set_here vs id (merged v w) (there vs id v v at).0;
      place = is.place;
      has = at_longer v.sealed w.sealed is.place c (ap (λ (z : Knows). get_elem? z.sealed is.place) e ∙ is.has);
    })
    (λ else'. record { id = is.id; view = is.view; pass = set_else (set vs id (merged v w)) other is.id gone far ∙ (set_else vs id is.id (merged v w) else' ∙ is.pass); place = is.place; has = is.has }))

listed_on : (k : HallTerms) (s : Hall) (id : ℕ) (v : Knows) (o : Operation) (c : Block) → get_elem? s.views id ≡ some v → MayDo k s id v o → IsListed s.views c → IsListed (after_operation k s id v o).views c
listed_on k s id v (commit stamp b q) c at may is = listed_set s.views id v _ c at (λ j e. (j, at_longer v.sealed (sealed_block stamp v.worker b ∷ []) j c e)) is
listed_on k s id v split c at may is = (let r = listed_set s.views id v (dealt v) c at (λ j e. (j, e)) is in record { id = r.id; view = r.view; pass = at_longer (set s.views id (dealt v)) (fresh v ∷ []) r.id r.view r.pass; place = r.place; has = r.has })
listed_on k s id v (join other w) c at may is = listed_join s.views id other v w c at may.0 may.2 is
listed_on k s id v (claim t word q) c at may is = listed_set s.views id v _ c at (λ j e. (j, e)) is
listed_on k s id v (take i l) c at may is = listed_set s.views id v _ c at (λ j e. (j, e)) is
listed_on k s id v (miss word wanted found) c at may is = listed_set s.views id v _ c at (λ j e. (j, e)) is
listed_on k s id v (put q place) c at may is = listed_set s.views id v _ c at (λ j e. (j, e)) is
listed_on k s id v (free l) c at may is = listed_set s.views id v _ c at (λ j e. (j, e)) is
listed_on k s id v (look t found) c at may is = listed_set s.views id v _ c at (λ j e. (j, e)) is
listed_on k s id v stop c at may is = listed_set s.views id v _ c at (λ j e. (j, e)) is
listed_on k s id v (stopped found) c at may is = listed_set s.views id v _ c at (λ j e. (j, e)) is
listed_on k s id v (line i d) c at may is = listed_set s.views id v _ c at (λ j e. (j, e)) is
listed_on k s id v (reach slot) c at may is = listed_set s.views id v _ c at (λ j e. (j, e)) is
listed_on k s id v (lay slot) c at may is = listed_set s.views id v _ c at (λ j e. (j, e)) is

all_listed : (k : HallTerms) (first : Hall) (order : List Made) → IsLegal k first order → (j : ℕ) (c : Block) → get_elem? (sealed_in order) j ≡ some c → IsListed (hall_after k first order).views c
all_listed k first [] legal j c e = absurd (some-ne-none c (sym e))
all_listed k first (m ∷ before) legal j c e = by (λ i x f. all_listed k first before legal.1 i x f) m.operation legal.0.may e
  where
    old : ((i : ℕ) (x : Block) → get_elem? (sealed_in before) i ≡ some x → IsListed (hall_after k first before).views x) → (o : Operation) → MayDo k (hall_after k first before) m.pass m.knew o → get_elem? (sealed_in before) j ≡ some c
        → IsListed (after_operation k (hall_after k first before) m.pass m.knew o).views c
    old front o may f = listed_on k (hall_after k first before) m.pass m.knew o c legal.0.pass may (front j c f)

    none : get_elem? (sealed_in before ++ []) j ≡ some c → get_elem? (sealed_in before) j ≡ some c
    none f = ap (λ (bs : List Block). get_elem? bs j) (sym (append-nil (sealed_in before))) ∙ f

    by : ((i : ℕ) (x : Block) → get_elem? (sealed_in before) i ≡ some x → IsListed (hall_after k first before).views x) → (o : Operation) → MayDo k (hall_after k first before) m.pass m.knew o
        → get_elem? (sealed_in before ++ sealed_by m.knew o) j ≡ some c → IsListed (after_operation k (hall_after k first before) m.pass m.knew o).views c
    by front (commit stamp b q) may f = ⊎_elim
        (λ (z : get_elem? (sealed_in before) j ≡ some c). old front (commit stamp b q) may z)
        (λ (z : (j ≡ length (sealed_in before)) × (sealed_block stamp m.knew.worker b ≡ c)). subst (IsListed (after_operation k (hall_after k first before) m.pass m.knew (commit stamp b q)).views) z.1 record {
          id = m.pass;
          view = after_seal m.knew (sealed_block stamp m.knew.worker b) (with_seal stamp m.knew.worker q);
          pass = set_here (hall_after k first before).views m.pass _ (there (hall_after k first before).views m.pass m.knew m.knew legal.0.pass).0;
          place = length m.knew.sealed;
          has = at_last m.knew.sealed (sealed_block stamp m.knew.worker b) (length m.knew.sealed) refl;
        })
        (at_end (sealed_in before) (sealed_block stamp m.knew.worker b) c j f)
    by front (claim t word q) may f = old front (claim t word q) may (none f)
    by front (take i l) may f = old front (take i l) may (none f)
    by front (miss word wanted found) may f = old front (miss word wanted found) may (none f)
    by front (put q place) may f = old front (put q place) may (none f)
    by front (free l) may f = old front (free l) may (none f)
    by front (look t found) may f = old front (look t found) may (none f)
    by front stop may f = old front stop may (none f)
    by front (stopped found) may f = old front (stopped found) may (none f)
    by front (line i d) may f = old front (line i d) may (none f)
    by front (reach slot) may f = old front (reach slot) may (none f)
    by front (lay slot) may f = old front (lay slot) may (none f)
    by front split may f = old front split may (none f)
    by front (join other w) may f = old front (join other w) may (none f)

-- an operation that seals no block
pub sealed_none : (v : Knows) (o : Operation) → ((stamp : ℕ) (b : Block) (q : PackageView) → o ≢ commit stamp b q) → sealed_by v o ≡ []
sealed_none v (commit stamp b q) never = absurd (never stamp b q refl)
sealed_none v (claim t word q) never = refl
sealed_none v (take i l) never = refl
sealed_none v (miss word wanted found) never = refl
sealed_none v (put q place) never = refl
sealed_none v (free l) never = refl
sealed_none v (look t found) never = refl
sealed_none v stop never = refl
sealed_none v (stopped found) never = refl
sealed_none v (line i c) never = refl
sealed_none v (reach slot) never = refl
sealed_none v (lay slot) never = refl
sealed_none v split never = refl
sealed_none v (join other w) never = refl

-- ---- the history of packages and lock states

module _ (k : HallTerms) (r : Run k) where
  abbrev rule : KeptHall k (hall_at k r)
  rule = kept_at k r

  told_at : (j : ℕ) (c : Block) → get_elem? (sealed_in r.order) j ≡ some c → get_elem? rule.told.history j ≡ some c
  told_at j c e =
      let l = all_listed k r.first r.order r.legal j c e in
      ap (get_elem? rule.told.history) (sym (in_place k r.first r.opens r.order r.legal j c e)) ∙ (rule.passes l.id l.view l.pass).sealed l.place c l.has

  told_is : rule.told.history ≡ sealed_in r.order
  told_is = same_list rule.told.history (sealed_in r.order) back told_at
    where
      back : (i : ℕ) (c : Block) → get_elem? rule.told.history i ≡ some c → get_elem? (sealed_in r.order) i ≡ some c
      back i c e =
          let lt = in_range rule.told.history i c e in
          let s = something_at (sealed_in r.order) i (let x = rule.clock in let y = clock_all k r.first r.opens r.order r.legal in omega (arith, lt, x, y)) in
          s.1 ∙ (sym (told_at i s.0 s.1) ∙ e)

  -- a package is that of its last commit
  pub package_kept : (t : ℕ) (p : PackageView) → t < threads k → PackageAt (hall_at k r) t p → (x : PackageView) × (get_elem? rule.told.places t ≡ some x) × (bare p ≡ bare x)
  package_kept t p below (with_pass id v at has) = (p, (rule.placed.owned id v t p at has).1, refl)
  package_kept t p below (in_slot h) = (let x = something_at rule.told.places t (omega (arith, rule.told.law.all_packages, below)) in (x.0, x.1, by x.0 (rule.placed.holder t) (rule.placed.each t x.0 x.1)))
    where
      by : (x : PackageView) (o : maybe.Option ℕ) → Lies (hall_at k r).words (hall_at k r).homes (hall_at k r).views t x o → bare p ≡ bare x
      by x maybe.none lies = ap bare (sym (same_package (get_elem? (hall_at k r).homes t) lies.context p lies.slot h)) ∙ ap bare lies.same
      by x (some id) lies = absurd (out lies.view.open_slot refl)
        where
          out : (o : Option ℕ) → lies.view.open_slot ≡ o → ⊥
          out None e = not_empty (get_elem? (hall_at k r).homes t) (Package p) (lies.slot (λ f. let g : None ≡ Some t = sym e ∙ f in let n : ⊥ = cc g in n)) h
          out (Some j) e = dite (ℕ_discrete j t)
              (λ (f : j ≡ t). not_taken (get_elem? (hall_at k r).homes t) (Package p) (lies.held (e ∙ ap (λ (z : ℕ). Some z) f)) h)
              (λ ne. not_empty (get_elem? (hall_at k r).homes t) (Package p) (lies.slot (λ f. let g : Some j ≡ Some t = sym e ∙ f in ne (cc g))) h)

  -- so it is its thread's, and has the thread's blocks
  pub number_is : (t : ℕ) (p : PackageView) → t < threads k → PackageAt (hall_at k r) t p → p.context.thread ≡ t
  number_is t p below at = (let x = package_kept t p below at in ap (λ (z : PackageView). z.context.thread) x.2 ∙ (rule.told.law.packages_after t x.0 x.1).follows.number)

  log_is : (t : ℕ) (p : PackageView) → t < threads k → PackageAt (hall_at k r) t p → p.log ≡ of_thread rule.told.history t
  log_is t p below at = (let x = package_kept t p below at in ap (λ (z : PackageView). z.log) x.2 ∙ (rule.told.law.packages_after t x.0 x.1).follows.log)

  -- so what was written so far is what they follow, if it is what was sealed
  pub written_so : (written_at k r).history ≡ sealed_in r.order → IsWrittenSo k r
  written_so sealed =
      let same : rule.told.history ≡ (written_at k r).history = told_is ∙ sym sealed in
      record {
        clock = rule.clock ∙ ap length same;
        logs = λ t p below at. log_is t p below at ∙ ap (λ (h : List Block). of_thread h t) same;
        journals = λ i l y below at. (let x = state_kept k (hall_at k r) rule i l y below at in
            ap blocks_of x.2
            ∙ (blocks_are k.image.value k.fuel k.limit rule.told.history (end_after k.image.value k.fuel rule.told.history) i x.0 (rule.told.law.states_after i x.0 x.1).follows
            ∙ ap (λ (h : List Block). of_lock h i) same));
        sealed = sealed;
      }
