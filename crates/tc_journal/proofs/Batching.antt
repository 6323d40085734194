-- The batch rule by cases.
use Rattle.std.proofs.Common.{◌≡◌, ℕ, ◌-◌, ◌<◌, ◌≤◌, ◌^◌, Bool, true, false, not, ◌&&◌, ◌||◌, List, [], ◌∷◌, ◌++◌, length, length-append, append-nil, append_assoc, refl, sym, ap, subst, ◌∙◌, arith, inl, inr}
use Rattle.std.specs.Prelude.{Option, Some, None, nat_lt, nat_le, slice_get, if◌then◌else◌}
use Rattle.std.proofs.lemmas.Bool.Decides.{eqb_tells, nat_tests}
use Rattle.std.proofs.lemmas.List.Elements.{filter-append}
use Rattle.std.proofs.Math.Pow.{pow_mono}
use Rattle.tc_isa.specs.Sets.{has}
use Rattle.tc_journal.specs.declared.block.Block.{Block}
use Rattle.tc_journal.specs.declared.block.End.{End}
use Rattle.tc_journal.specs.declared.block.End.TheVariants.{Wants, Unlocked, Slept, Cut, Exit, Fault, Spent}
use Rattle.tc_journal.specs.declared.block.Kind.{Kind}
use Rattle.tc_journal.specs.declared.block.Kind.TheVariants.{Start, On, Taken, Adopted, Granted}
use Rattle.tc_journal.specs.Batch.{is_adopted, ends_thread, unlocks, ends_section, is_only, may_adopt, has_cause, last_of, run_of, run_from, run_after, may_begin, allows_of, may_follow, ObeysAfter, passes_on, PassesOnAfter}
use Rattle.tc_journal.specs.History.{of_lock}

-- below the limit or not
limit_or : (run limit : ℕ) → not (nat_lt run limit) ≡ nat_le limit run
limit_or run limit = grind (arith, nat_tests)

causes : (u e o l g : Bool) → (u || e) ≡ true → (u ≡ true → e ≡ false) → not l ≡ g → not (u && o && l) ≡ (g || e || not o)
causes true true o l g ends one same = absurd (let no = one refl in cc)
causes true false true l g ends one same = same ∙ (elim g as (λ b. b ≡ (b || false || false)) [ true ↦ refl | false ↦ refl ])
causes true false false l g ends one same = elim g as (λ b. true ≡ (b || false || true)) [ true ↦ refl | false ↦ refl ]
causes false true o l g ends one same = elim g as (λ b. true ≡ (b || true || not o)) [ true ↦ refl | false ↦ refl ]
causes false false o l g ends one same = absurd (cc)

-- an end that releases a lock ends no thread
unlocks_only : (lock : ℕ) (e : End) → unlocks lock e ≡ true → ends_thread e ≡ false
unlocks_only lock (Wants k) is = refl
unlocks_only lock (Unlocked k) is = refl
unlocks_only lock Slept is = refl
unlocks_only lock Cut is = refl
unlocks_only lock Exit is = absurd (cc)
unlocks_only lock (Fault f) is = absurd (cc)
unlocks_only lock Spent is = absurd (cc)

-- where a section ended, a worker may adopt just where nothing keeps it from that
pub cause_or : (b : Block) (lock run limit : ℕ) → ends_section lock b ≡ true → not (may_adopt b lock run limit) ≡ has_cause b lock run limit
cause_or b lock run limit ends =
    causes (unlocks lock b.end) (ends_thread b.end) (is_only b.held lock) (nat_lt run limit) (nat_le limit run) ends (unlocks_only lock b.end) (limit_or run limit)

begin_any : (lock limit : ℕ) (last : Option Block) (run : ℕ) (kind : Kind) (w u : ℕ) → is_adopted kind ≡ false → may_begin lock limit last run kind w ≡ may_begin lock limit last run kind u
begin_any lock limit last run Start w u other = refl
begin_any lock limit last run On w u other = refl
begin_any lock limit None run Taken w u other = refl
begin_any lock limit (Some b) run Taken w u other = refl
begin_any lock limit last run Adopted w u other = absurd (cc)
begin_any lock limit None run Granted w u other = refl
begin_any lock limit (Some b) run Granted w u other = refl

-- what is allowed to one worker, and isn't Adopted, is allowed to all
pub any_worker : (lock limit : ℕ) (bs : List Block) (kind : Kind) (w u : ℕ) → is_adopted kind ≡ false → allows_of lock limit bs kind w ≡ allows_of lock limit bs kind u
unfolding allows_of
any_worker lock limit bs kind w u other = begin_any lock limit (last_of bs) (run_of lock bs) kind w u other

-- a lock past the last is no set's only one
pub no_set : (held lock : ℕ) → held < 2 ^ 32 → 32 ≤ lock → is_only held lock ≡ false
no_set held lock small past = elim (eqb_tells held (2 ^ lock)) [
  | inl e ↦ absurd (omega (arith, e.1, pow_mono past))
  | inr e ↦ e.0
]

-- ---- the last block

at_end : (bs : List Block) (b : Block) → slice_get (bs ++ b ∷ []) (length bs) ≡ Some b
at_end [] b = refl
at_end (x ∷ bs) b = at_end bs b

pub last_more : (bs : List Block) (b : Block) → last_of (bs ++ b ∷ []) ≡ Some b
last_more bs b = ap (slice_get (bs ++ b ∷ [])) (let e : length (bs ++ b ∷ []) - 1 ≡ length bs = omega (arith, length-append bs (b ∷ [])) in e) ∙ at_end bs b

-- ---- one block more

pub of_lock-more : (h : List Block) (b : Block) (lock : ℕ) (v : Bool) → has b.held lock ≡ v → of_lock (h ++ b ∷ []) lock ≡ of_lock h lock ++ (if v then b ∷ [] else [])
of_lock-more h b lock v e = filter-append (λ (c : Block). has c.held lock) h (b ∷ []) ∙ ap (λ w. of_lock h lock ++ (if w then b ∷ [] else [])) e

pub run_from-more : (lock n : ℕ) (bs : List Block) (b : Block) → run_from lock n (bs ++ b ∷ []) ≡ run_after lock (run_from lock n bs) b
run_from-more lock n [] b = refl
run_from-more lock n (x ∷ bs) b = run_from-more lock (run_after lock n x) bs b

pub obeys-more : (lock limit : ℕ) (before bs : List Block) (b : Block) → ObeysAfter lock limit before bs → may_follow lock limit (before ++ bs) b ≡ true → ObeysAfter lock limit before (bs ++ b ∷ [])
obeys-more lock limit before [] b obeys next = (rw append-nil at next, tt)
obeys-more lock limit before (x ∷ bs) b obeys next =
    (obeys.0, obeys-more lock limit (before ++ x ∷ []) bs b obeys.1 (subst (λ xs. may_follow lock limit xs b ≡ true) (sym (append_assoc before (x ∷ []) bs)) next))

pub passes-more : (lock : ℕ) (before bs : List Block) (b : Block) → PassesOnAfter lock before bs → passes_on lock (before ++ bs) b ≡ true → PassesOnAfter lock before (bs ++ b ∷ [])
passes-more lock before [] b passes next = (rw append-nil at next, tt)
passes-more lock before (x ∷ bs) b passes next =
    (passes.0, passes-more lock (before ++ x ∷ []) bs b passes.1 (subst (λ xs. passes_on lock xs b ≡ true) (sym (append_assoc before (x ∷ []) bs)) next))
