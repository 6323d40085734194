-- Packages that were granted a lock, and packages that are put.
use Rattle.std.proofs.Common.{◌∷◌, ◌||◌, ◌≡◌, ◌≢◌, inl, inr, ⊎_elim, ℕ, ◌+◌, Bool, true, false, if◌then◌else◌, List, refl, sym, ap, ◌∙◌, subst, arith, Option, Some, None, IfSome, is_some}
use Rattle.tc_combiner.proofs.Vocabulary.{Block, Cut, DidGrant, DidTake, End, Gets, Grant, HallView, HasNoOther, HasOnlyHeld, IsAt, IsGood, IsGoodFor, IsInOrder, IsInRange, IsPlain, IsSoundPackage, IsWaiter, IsWaiting, Item, Kind, Knows, LockView, MayGive, Pack, PackageView, PassView, Place, Runs, Shown, Slept, Taken}
use Rattle.tc_combiner.proofs.Vocabulary.{Unlocked, Wants, Wants_lock, blocks_of, code_of, dite, ends_section, ends_thread, fits_granted, fits_in, fits_of, granted_lock, grants_adopted, has, is_cut, is_running, last_of, locks, may_begin, next_lock, run_of, thread_in, threads, unlocks, ℕ_discrete}
use Rattle.tc_journal.specs.Batch.{allows_of}
use Rattle.tc_journal.specs.declared.block.End.TheVariants.{Exit, Fault, Spent}
use Rattle.tc_context.proofs.Staging.{wants_uncut}
use Rattle.tc_hall.proofs.Behind.{unpinned}
use Rattle.tc_combiner.proofs.Owning.{place_here, place_other}

taken_begins : (k limit run w : ℕ) (o : Option Block) → IfSome o (λ b. ends_section k b ≡ true) → may_begin k limit o run Taken w ≡ true
taken_begins k limit run w None h = refl
taken_begins k limit run w (Some b) h = h

pub taken_allowed : (k limit w : ℕ) (bs : List Block) → IfSome (last_of bs) (λ b. ends_section k b ≡ true) → allows_of k limit bs Taken w ≡ true
unfolding allows_of
taken_allowed k limit w bs h = taken_begins k limit (run_of k bs) w (last_of bs) h

pub only_held : (p : PackageView) → HasNoOther p → p.granted ≡ None → HasOnlyHeld p
only_held p h free i l e = ⊎_elim (λ y. y) (λ y. let f : granted_lock p.granted ≡ None = ap granted_lock free in let n : ⊥ = cc in absurd n) (h i l e)

pub no_other : (p : PackageView) → HasOnlyHeld p → HasNoOther p
no_other p h i l e = inl (h i l e)

-- a package has its held locks and the one that was granted to it
pub granted_own : (l : LockView) (k : Kind) (n : ℕ) (p q : PackageView) → DidGrant l k n p q → HasOnlyHeld p → HasNoOther q
granted_own l k n p q d h i m e = dite (ℕ_discrete i l.number)
    (λ (s : i ≡ l.number). inr (ap (λ (c : PackageView). granted_lock c.granted) d.is ∙ ap (λ (j : ℕ). Some j) (sym s)))
    (λ (ne : i ≢ l.number). inl (ap (λ (c : PackageView). has c.context.guest.held i) d.is ∙ h i m (sym (place_other l.number (Some l) p q d.locks i ne) ∙ e)))

pub granted_good : (l : LockView) (k : Kind) (n w : ℕ) (image : Shown) (p q : PackageView) → DidGrant l k n p q → p.image ≡ image → p.pending ≡ None → Runs p → HasOnlyHeld p
    → allows_of l.number l.journal.limit (blocks_of l) k w ≡ true → IsGood q image w
granted_good l k n w image p q d of s r h a = record {
  of = ap (λ (c : PackageView). c.image) d.is ∙ of;
  settled = ap (λ (c : PackageView). c.pending) d.is ∙ s;
  runs = ap (λ (c : PackageView). is_running c.context.guest.status) d.is ∙ r;
  locks = granted_own l k n p q d h;
  fits = ap (λ (g : Option Grant). fits_granted q.context g w) (ap (λ (c : PackageView). c.granted) d.is)
      ∙ (ap (λ (o : Option LockView). fits_in o l.number k w) (place_here l.number (Some l) p q d.locks) ∙ a);
}

pub taken_good : (i : ℕ) (l : LockView) (n m w : ℕ) (image : Shown) (p q : PackageView) → DidTake i l n p q → p.image ≡ image → IsPlain m p → Runs p → IsGood q image w
taken_good i l n m w image p q d of h r = granted_good l Taken n w image p q d.grant of h.settled r h.locks
    (taken_allowed l.number l.journal.limit w (blocks_of l) (subst (λ (k : ℕ). IfSome (last_of (blocks_of l)) (λ b. ends_section k b ≡ true)) (sym d.rest.number) d.rest.ended))

-- a thread that wants a lock runs
pub wants_runs : (q : PackageView) (i : ℕ) → Wants_lock q i → Runs q
wants_runs q i w = elim (is_running q.context.guest.status) as (λ (b : Bool). is_running q.context.guest.status ≡ b → b ≡ true) [
  | true ↦ λ e. refl
  | false ↦ λ e. let f : Some i ≡ None = sym w ∙ ap (λ (x : Bool). if x then next_lock q.image (thread_in q.context) else None) e in let n : ⊥ = cc in absurd n
] refl

pub not_some : {A : Type 0} (o : Option A) → is_some o ≡ false → o ≡ None
not_some None e = refl
not_some (Some a) e = let n : ⊥ = cc in absurd n

pub waiter_good : (l : LockView) (k : Kind) (t n w : ℕ) (image : Shown) (p q : PackageView) → IsWaiter t l.number image p → DidGrant l k n p q → allows_of l.number l.journal.limit (blocks_of l) k w ≡ true → IsGood q image w
waiter_good l k t n w image p q h d a = granted_good l k n w image p q d h.of h.waits.pending h.runs (only_held p h.locks h.waits.granted) a

pub good_order : (q : PackageView) (image : Shown) (w : ℕ) → IsGood q image w → IsInOrder 0 q
good_order q image w h = record {
  ended = λ e. let k : ⊥ = omega arith in absurd k;
  runs = λ ne. h.runs;
  own = h.locks;
  waits = λ i e. let k : ⊥ = omega arith in absurd k;
  ready = λ g e. refl;
}

pub ungranted_fits : (q : PackageView) (w : ℕ) → q.granted ≡ None → fits_of q w ≡ true
ungranted_fits q w e = ap (λ (g : Option Grant). fits_granted q.context g w) e

pub plain_good : (n : ℕ) (q : PackageView) (v : Knows) → IsPlain n q → Runs q → q.image ≡ v.image → IsGoodFor v q
plain_good n q v h r e = record { of = e; settled = h.settled; runs = r; locks = no_other q h.locks; fits = ungranted_fits q v.worker h.granted }

-- the package that `adopt` gives waits for the lock
pub is_waiter : (t i : ℕ) (q : PackageView) (v w : Knows) → Gets (256 + i) t q v w → IsWaiting q i → IsSoundPackage q → IsWaiter t i v.image q
is_waiter t i q v w g waits sound = record { thread = g.thread; of = g.of; waits = waits; uncut = wants_uncut q i sound waits.want; runs = g.order.runs (λ e. let n : ⊥ = omega arith in n); locks = g.order.own }

-- an end that ends a section is no cut
pub releases_uncut : (i : ℕ) (e : End) → (unlocks i e || ends_thread e) ≡ true → is_cut e ≡ false
releases_uncut i (Wants k) r = refl
releases_uncut i (Unlocked k) r = refl
releases_uncut i Slept r = refl
releases_uncut i Cut r = absurd (let n : ⊥ = cc in n)
releases_uncut i Exit r = refl
releases_uncut i (Fault f) r = refl
releases_uncut i Spent r = refl

-- a plain package that is out may be put where its order allows
pub plain_gives : (hall : HallView) (to : Place) (q : PackageView) (xs : List Item) (p : PassView) (a : Option PackageView) → IsAt hall (Pack q ∷ xs) p a → IsPlain (threads hall.terms) q → IsInRange (locks hall.terms) to → IsInOrder (code_of to) q → MayGive hall p to q
plain_gives hall to q xs p a at m place order = record { own = at.own; thread = m.thread; place = place; out = at.out.1.0; order = order; free = unpinned q (ap grants_adopted m.granted) m.uncut; fits = ungranted_fits q p.knows.worker m.granted }
