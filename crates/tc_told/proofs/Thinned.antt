-- The blocks of a history that pass a test: where the first and the last of them stand in it.
use Rattle.std.proofs.Common.{◌≡◌, suc, ◌-◌, Bool, true, false, cond, List, [], ◌∷◌, ◌++◌, length, filter, refl, sym, ap, subst, ◌∙◌, append_assoc, append-nil, arith}
use Rattle.std.specs.Prelude.{Option, Some, None, slice_get}
use Rattle.std.proofs.lemmas.List.Elements.{filter-append}
use Rattle.tc_journal.specs.Batch.{last_of}
use Rattle.tc_journal.specs.Handing.{EachBehind}
use Rattle.tc_journal.specs.declared.block.Block.{Block}
use Rattle.tc_journal.proofs.Batching.{last_more}
use Rattle.tc_told.specs.Handover.{first_of}

-- the first block that passes, and those that pass behind it
pub record First (f : Block → Bool) (bs : List Block) (b : Block) (others : List Block) : Type 0 where
  pub sooner : List Block
  pub later : List Block
  pub place : bs ≡ sooner ++ b ∷ later
  pub none : filter f sooner ≡ []
  pub passes : f b ≡ true
  pub more : filter f later ≡ others

-- the last block that passes
pub record Last (f : Block → Bool) (bs : List Block) (b : Block) : Type 0 where
  pub sooner : List Block
  pub later : List Block
  pub place : bs ≡ sooner ++ b ∷ later
  pub none : filter f later ≡ []
  pub passes : f b ≡ true

last_deeper : (x y : Block) (bs : List Block) → last_of (x ∷ y ∷ bs) ≡ last_of (y ∷ bs)
last_deeper x y bs =
    let here : length (x ∷ y ∷ bs) - 1 ≡ suc (length bs) = omega arith in
    let there : length bs ≡ length (y ∷ bs) - 1 = omega arith in
    ap (slice_get (x ∷ y ∷ bs)) here ∙ ap (slice_get (y ∷ bs)) there

pub no_last : (bs : List Block) → last_of bs ≡ None → bs ≡ []
no_last [] e = refl
no_last (x ∷ []) e = absurd (cc)
no_last (x ∷ y ∷ bs) e = absurd (let none = no_last (y ∷ bs) (sym (last_deeper x y bs) ∙ e) in cc)

pub first_some : (bs : List Block) (b : Block) → first_of bs ≡ Some b → (more : List Block) × (bs ≡ b ∷ more)
first_some [] b e = absurd (cc)
first_some (x ∷ bs) b e = (bs, let same : x ≡ b = cc in ap (λ y. y ∷ bs) same)

module _ (f : Block → Bool) where
  pub with_it : (b : Block) (bs : List Block) → f b ≡ true → filter f (b ∷ bs) ≡ b ∷ filter f bs
  with_it b bs e = ap (λ v. cond v (b ∷ filter f bs) (filter f bs)) e

  pub without_it : (b : Block) (bs : List Block) → f b ≡ false → filter f (b ∷ bs) ≡ filter f bs
  without_it b bs e = ap (λ v. cond v (b ∷ filter f bs) (filter f bs)) e

  pub around_it : (sooner : List Block) (b : Block) (later : List Block) → f b ≡ true → filter f (sooner ++ b ∷ later) ≡ filter f sooner ++ b ∷ filter f later
  around_it sooner b later e = filter-append f sooner (b ∷ later) ∙ ap (λ bs. filter f sooner ++ bs) (with_it b later e)

  -- behind blocks of which none passes
  pub behind_none : (sooner later : List Block) → filter f sooner ≡ [] → filter f (sooner ++ later) ≡ filter f later
  behind_none sooner later none = filter-append f sooner later ∙ ap (λ bs. bs ++ filter f later) none

  pub none_of : (b : Block) (bs : List Block) → filter f (b ∷ bs) ≡ [] → (f b ≡ false) × (filter f bs ≡ [])
  none_of b bs none = (elim (f b) as (λ v. f b ≡ v → cond v (b ∷ filter f bs) (filter f bs) ≡ [] → (f b ≡ false) × (filter f bs ≡ [])) [
    | true ↦ λ e h. absurd (cc)
    | false ↦ λ e h. (e, h)
  ]) refl none

  pub not_in_none : (sooner : List Block) (b : Block) (later : List Block) → filter f (sooner ++ b ∷ later) ≡ [] → f b ≡ false
  not_in_none [] b later none = (none_of b later none).0
  not_in_none (x ∷ sooner) b later none = not_in_none sooner b later (none_of x (sooner ++ b ∷ later) none).1

  pub first_is : (bs : List Block) (b : Block) (more : List Block) → filter f bs ≡ b ∷ more → First f bs b more
  first_is [] b more e = absurd (cc)
  first_is (x ∷ bs) b more e = (elim (f x) as (λ v. f x ≡ v → cond v (x ∷ filter f bs) (filter f bs) ≡ b ∷ more → First f (x ∷ bs) b more) [
    | true ↦ λ is h. (let same : x ≡ b = cc in record { sooner = []; later = bs; place = ap (λ y. y ∷ bs) same; none = refl; passes = ap f (sym same) ∙ is; more = cc })
    | false ↦ λ is h. (let r = first_is bs b more h in record { sooner = x ∷ r.sooner; later = r.later; place = ap (λ ys. x ∷ ys) r.place; none = without_it x r.sooner is ∙ r.none; passes = r.passes; more = r.more })
  ]) refl e

  pub last_is : (bs : List Block) (b : Block) → last_of (filter f bs) ≡ Some b → Last f bs b
  last_is [] b e = absurd (cc)
  last_is (x ∷ bs) b e = (elim (filter f bs) as (λ l. filter f bs ≡ l → last_of (cond (f x) (x ∷ l) l) ≡ Some b → (last_of l ≡ Some b → Last f bs b) → Last f (x ∷ bs) b) [
    | [] ↦ λ none h rec. (elim (f x) as (λ v. f x ≡ v → last_of (cond v (x ∷ []) []) ≡ Some b → Last f (x ∷ bs) b) [
      | true ↦ λ is g. (let same : x ≡ b = cc in record { sooner = []; later = bs; place = ap (λ y. y ∷ bs) same; none = none; passes = ap f (sym same) ∙ is })
      | false ↦ λ is g. absurd (cc)
    ]) refl h
    | y ∷ ys ↦ λ some h rec.
        (let r = rec ((elim (f x) as (λ v. last_of (cond v (x ∷ y ∷ ys) (y ∷ ys)) ≡ Some b → last_of (y ∷ ys) ≡ Some b) [ true ↦ λ g. sym (last_deeper x y ys) ∙ g | false ↦ λ g. g ]) h) in
        record { sooner = x ∷ r.sooner; later = r.later; place = ap (λ zs. x ∷ zs) r.place; none = r.none; passes = r.passes })
  ]) refl e (λ h. last_is bs b h)

  -- the last one, where none behind it passes
  pub last_there : (sooner : List Block) (b : Block) (later : List Block) → f b ≡ true → filter f later ≡ [] → last_of (filter f (sooner ++ b ∷ later)) ≡ Some b
  last_there sooner b later e none = ap last_of (around_it sooner b later e ∙ ap (λ bs. filter f sooner ++ b ∷ bs) none) ∙ last_more (filter f sooner) b

-- the last block that passes the one test is the last that passes the other, where each of them passes both
pub same_last : (f g : Block → Bool) (s later t after : List Block) (p q : Block) → s ++ p ∷ later ≡ t ++ q ∷ after → filter f later ≡ [] → f q ≡ true → filter g after ≡ [] → g p ≡ true → (p ≡ q) × (later ≡ after)
same_last f g [] later [] after p q e none is last too = (cc, cc)
same_last f g [] later (y ∷ t) after p q e none is last too = absurd (let rest : later ≡ t ++ q ∷ after = cc in let not_there = not_in_none f t q after (ap (filter f) (sym rest) ∙ none) in cc)
same_last f g (x ∷ s) later [] after p q e none is last too = absurd (let rest : after ≡ s ++ p ∷ later = cc in let not_there = not_in_none g s p later (ap (filter g) (sym rest) ∙ last) in cc)
same_last f g (x ∷ s) later (y ∷ t) after p q e none is last too = (let rest : s ++ p ∷ later ≡ t ++ q ∷ after = cc in same_last f g s later t after p q rest none is last too)

each_at : (Stands : Option Block → Block → Type 0) (before bs : List Block) (b : Block) (after : List Block) → EachBehind Stands before (bs ++ b ∷ after) → Stands (last_of (before ++ bs)) b
each_at Stands before [] b after each = subst (λ l. Stands (last_of l) b) (sym (append-nil before)) each.0
each_at Stands before (x ∷ bs) b after each = subst (λ l. Stands (last_of l) b) (append_assoc before (x ∷ []) bs) (each_at Stands (before ++ x ∷ []) bs b after each.1)

-- a block of those that pass stands so to the last one before it
pub stands_behind : (Stands : Option Block → Block → Type 0) (f : Block → Bool) (h before : List Block) (b : Block) (after : List Block) → EachBehind Stands [] (filter f h) → h ≡ before ++ b ∷ after → f b ≡ true → Stands (last_of (filter f before)) b
stands_behind Stands f h before b after each place is =
    each_at Stands [] (filter f before) b (filter f after) (subst (EachBehind Stands []) (ap (filter f) place ∙ around_it f before b after is) each)
