-- What a step makes of the standing of a pass at a lock, and of those of the others.
use Rattle.std.proofs.Common.{◌≡◌, ◌≢◌, ◌⊎◌, ⊎_elim, ℕ, suc, ◌+◌, ◌<◌, ◌==◌, ◌&&◌, ◌||◌, not, Bool, true, false, if◌then◌else◌, List, [], ◌∷◌, ◌++◌, length, slice_index, set, refl, sym, ap, ◌∙◌, subst, arith, eq-eqb, Option, Some, None}
use Rattle.std.specs.Option.{option_map}
use Rattle.std.specs.Prelude.{is_some, slice_index_or}
use mathlib.Core.Option.{some}
use mathlib.Core.Logic.{dite}
use native.Mathlib.Decide.{ℕ_discrete}
use lib.ListN.{get_elem?}
use Rattle.atomic_table.proofs.Lists.{set_else, set_here}
use Rattle.tc_mutex_spec.proofs.ListLaws.{there}
use Rattle.tc_mutex_spec.specs.Machine.{State, start}
use Rattle.tc_mutex_spec.proofs.OptionLaws.{some_of}
use Rattle.tc_isa.specs.Sets.{has}
use Rattle.tc_journal.specs.Batch.{ends_section, is_adopted, is_section, may_adopt, run_of}
use Rattle.tc_journal.specs.History.{of_lock}
use Rattle.tc_journal.specs.declared.block.Block.{Block}
use Rattle.tc_journal.specs.declared.block.End.{End}
use Rattle.tc_journal.specs.declared.block.Kind.{Kind}
use Rattle.tc_journal.specs.declared.block.Kind.TheVariants.{Adopted, On}
use Rattle.tc_journal.specs.declared.block.Kind.TheVariants as kind
use Rattle.tc_turn.specs.Turn.{Thread, next_lock}
use Rattle.tc_segment.specs.View.{LockView, blocks_of, kept}
use Rattle.tc_context.specs.declared.package.Grant.{Grant}
use Rattle.tc_context.specs.Locks.{lock_in}
use Rattle.tc_context.specs.View.{EndsWith, IsAfter, IsLeft, PackageView, bare, number_in, with_seal}
use Rattle.tc_context.proofs.Running.{seal_set}
use Rattle.tc_queue.specs.declared.turn.Turn.{Turn}
use Rattle.tc_core.specs.Core.{Core, is_free_lock, is_number, with_of}
use Rattle.tc_core.specs.Lines.{is_in_line}
use Rattle.tc_core.specs.Events.{custody_on, custody_past, entered as line_entered, held_past}
use Rattle.tc_core.specs.declared.place.Custody.{Custody}
use Rattle.tc_core.specs.declared.place.LockPlace.{LockPlace}
use Rattle.tc_core.specs.declared.place.LockPlace.TheVariants.{Free, Granted, Loose, With}
use Rattle.tc_core.specs.declared.place.Release.{Release}
use Rattle.tc_core.proofs.Standing.{first_stands, stands_all}
use Rattle.tc_core.proofs.Tracked.{Tracks}
use Rattle.tc_told.specs.Written.{first_written}
use Rattle.tc_told.specs.declared.writer.Beginning.{Beginning}
use Rattle.tc_told.proofs.Ruled.{Ruled}
use Rattle.tc_told.proofs.Standing.{IsGranted, IsLockAt, Rule, Stand, behind, stand_of}
use Rattle.tc_hall.specs.declared.board.Cargo.TheVariants.{Lock}
use Rattle.tc_hall.specs.declared.board.HallTerms.{HallTerms}
use Rattle.tc_hall.specs.declared.board.Knows.{Knows}
use Rattle.tc_hall.specs.declared.board.PassCall.{PassCall}
use Rattle.tc_hall.specs.declared.place.Place.{Place}
use Rattle.tc_hall.specs.declared.place.Place.TheVariants.{Parked, Ready, Waiting}
use Rattle.tc_hall.specs.declared.place.TheConstants.{PARKED, READY, WAITING}
use Rattle.tc_hall.specs.Places.{place_of, slot_word}
use Rattle.tc_hall.specs.Rule.{Has, HasLock, IsOwn, locked_in, locks, threads}
use Rattle.tc_hall.specs.Standing.{Standing, away, closed, entered, followed, granted as granted_at, held as held_at, loose as loose_at, IsRunAs, is_of, kind_at, past_passing, past_section, past_waiting, stand_from, stand_in, standing_of, stands_in, turn_in}
use Rattle.tc_hall.specs.Steps.{Seals, add_all, after_claim, claim_call, fresh, given_of, kind_passed, passed_after, passed_kind}
use Rattle.tc_hall.specs.Effects.{Hall}
use Rattle.tc_hall.specs.Lift.{IsLifted, start_of}
use Rattle.tc_hall.specs.Order.{MayClaim}
use Rattle.tc_hall.specs.Shown.{PackageAt}
use Rattle.tc_hall.specs.Ties.{Shows, machine_limits}
use Rattle.tc_hall.proofs.Cases.{home_out, out_inside, same_out}
use Rattle.tc_hall.proofs.Lifting.{lifting}
use Rattle.tc_hall.proofs.LockLists.{add_all-else, add_all-has}
use Rattle.tc_hall.proofs.Moves.{AtHome, at_home_of}
use Rattle.tc_hall.proofs.Standing.{claimed_in, claimed_out, own_held, standing_last, stand_more, shows_some}
use Rattle.tc_hall.proofs.Taking.{lock_at_home}
use Rattle.tc_hall.proofs.Telling.{place_codes}
use Rattle.tc_run.specs.Run.{beats_of, events_in, threads_of}
use Rattle.tc_run.proofs.Queues.{get_front, turn_in_line}
use Rattle.tc_told.proofs.Conversely.{first_ruled, ruled_all}
use Rattle.tc_run.proofs.Hands.{core_is, kept_at, one_pass, ruled_at, same_hall}
use Rattle.tc_run.proofs.Lifting.{lifts_on}
use Rattle.tc_run.proofs.After.{fresh_free}
use Rattle.tc_run.proofs.Agree.{Agrees, InSlot, IsTrue, Live, Run, StandsTrue, Step, Truth, core_at, custody_at, hall_at, has_lock, line_at, then_run, thread_of, written_at}
use Rattle.tc_core.proofs.Quiet.{pick_mine}

-- ---- the truth of a standing

pub truth_as : (k : HallTerms) (r : Run k) (w j : ℕ) (s : Standing) (x : Custody) (us : List Turn) (f : ℕ → Beginning) → custody_at k r j ≡ x → line_at k r j ≡ us → (written_at k r).next ≡ f → IsTrue w x us f s → Truth k r w j s
truth_as k r w j s x us f custody turns next so =
    subst (λ (y : Custody). IsTrue w y (line_at k r j) (written_at k r).next s) (sym custody)
    (subst (λ (vs : List Turn). IsTrue w x vs (written_at k r).next s) (sym turns)
    (subst (λ (g : ℕ → Beginning). IsTrue w x us g s) (sym next) so))

-- of the next blocks, it says how that of the turn begins to which the lock was granted
pub next_true : (w : ℕ) (x : Custody) (us : List Turn) (f g : ℕ → Beginning) (s : Standing) → ((u : Turn) (how : Kind) → s ≡ granted_at u how → g u.thread ≡ f u.thread) → IsTrue w x us f s → IsTrue w x us g s
next_true w x us f g away same so = tt
next_true w x us f g (entered u None) same so = so
next_true w x us f g (entered u (Some b)) same so = so
next_true w x us f g (granted_at u how) same so = (so.0, so.1, so.2, ap (λ (z : Beginning). z.kind) (same u how refl) ∙ so.3)
next_true w x us f g (held_at u) same so = so
next_true w x us f g (loose_at u) same so = so
next_true w x us f g (followed u y) same so = so
next_true w x us f g (closed u) same so = so

-- without the lock, of the custody only that nobody has it, and of the line only who is before the turn
pub lockless_true : (w : ℕ) (x y : Custody) (us vs : List Turn) (f g : ℕ → Beginning) (s : Standing) → (has_lock s ≡ true → ⊥)
    → ((u : Turn) → s ≡ entered u None → get_elem? us 0 ≡ some u → (is_free_lock x.place || x.left) ≡ true → ⊥)
    → ((u b : Turn) (n : ℕ) → s ≡ entered u (Some b) → get_elem? us n ≡ some b → get_elem? us (suc n) ≡ some u → (m : ℕ) × (get_elem? vs m ≡ some b) × (get_elem? vs (suc m) ≡ some u)) → IsTrue w x us f s → IsTrue w y vs g s
lockless_true w x y us vs f g away out first later so = tt
lockless_true w x y us vs f g (entered u None) out first later so = absurd (first u refl so.0 so.1)
lockless_true w x y us vs f g (entered u (Some b)) out first later so = later u b so.0 refl so.1 so.2
lockless_true w x y us vs f g (granted_at u how) out first later so = absurd (out refl)
lockless_true w x y us vs f g (held_at u) out first later so = absurd (out refl)
lockless_true w x y us vs f g (loose_at u) out first later so = absurd (out refl)
lockless_true w x y us vs f g (followed u z) out first later so = absurd (out refl)
lockless_true w x y us vs f g (closed u) out first later so = absurd (out refl)

-- one more in the line changes none
pub more_true : (w : ℕ) (x : Custody) (us : List Turn) (u : Turn) (f : ℕ → Beginning) (s : Standing) → IsTrue w x us f s → IsTrue w (line_entered x u.thread) (us ++ u ∷ []) f s
more_true w x us u f away so = tt
more_true w x us u f (entered y None) so = (get_front us (u ∷ []) 0 y so.0, so.1)
more_true w x us u f (entered y (Some b)) so = (so.0, get_front us (u ∷ []) so.0 b so.1, get_front us (u ∷ []) (suc so.0) y so.2)
more_true w x us u f (granted_at y how) so = (so.0, so.1, get_front us (u ∷ []) 0 y so.2, so.3)
more_true w x us u f (held_at y) so = (so.0, so.1, get_front us (u ∷ []) 0 y so.2)
more_true w x us u f (loose_at y) so = (so.0, so.1, get_front us (u ∷ []) 0 y so.2)
more_true w x us u f (followed y z) so = (so.0, so.1, get_front us (u ∷ []) 0 y so.2, get_front us (u ∷ []) 1 z so.3)
more_true w x us u f (closed y) so = so

-- whose thread a standing is of
pub of_thread : (s : Standing) (u t : ℕ) → thread_of s ≡ Some u → is_of t s ≡ false → u ≢ t
of_thread away u t e out same = absurd (cc e)
of_thread (entered y before) u t e out same = (let f : y.thread ≡ u = cc e in let c : true ≡ false = sym (eq-eqb y.thread t (f ∙ same)) ∙ out in absurd (cc c))
of_thread (granted_at y how) u t e out same = (let f : y.thread ≡ u = cc e in let c : true ≡ false = sym (eq-eqb y.thread t (f ∙ same)) ∙ out in absurd (cc c))
of_thread (held_at y) u t e out same = (let f : y.thread ≡ u = cc e in let c : true ≡ false = sym (eq-eqb y.thread t (f ∙ same)) ∙ out in absurd (cc c))
of_thread (loose_at y) u t e out same = (let f : y.thread ≡ u = cc e in let c : true ≡ false = sym (eq-eqb y.thread t (f ∙ same)) ∙ out in absurd (cc c))
of_thread (followed y z) u t e out same = (let f : y.thread ≡ u = cc e in let c : true ≡ false = sym (eq-eqb y.thread t (f ∙ same)) ∙ out in absurd (cc c))
of_thread (closed y) u t e out same = absurd (cc e)

-- ---- a lock in a package

inside_lock : (u : Turn) (holds : Bool) (o : Option Kind) → has_lock (stands_in u holds o) ≡ true
inside_lock u holds (Some how) = refl
inside_lock u true None = refl
inside_lock u false None = refl

inside_thread : (u : Turn) (holds : Bool) (o : Option Kind) → thread_of (stands_in u holds o) ≡ Some u.thread
inside_thread u holds (Some how) = refl
inside_thread u true None = refl
inside_thread u false None = refl

inside_true : (w z : ℕ) (x : Custody) (us : List Turn) (f : ℕ → Beginning) (u : Turn) (holds : Bool) (o : Option Kind) → (o ≡ None → holds ≡ true) → IsTrue z x us f (stands_in u holds o) → IsTrue w x us f (stands_in u holds o)
inside_true w z x us f u holds (Some how) is so = so
inside_true w z x us f u true None is so = so
inside_true w z x us f u false None is so = (let e = is refl in let n : ⊥ = cc e in absurd n)

not_granted : (u y : Turn) (holds : Bool) (how : Kind) → stands_in u holds None ≡ granted_at y how → ⊥
not_granted u y true how e = absurd (cc e)
not_granted u y false how e = absurd (cc e)

-- any worker stands so, if the thread has the lock or was granted it
pub shown_true : (w z : ℕ) (x : Custody) (us : List Turn) (f : ℕ → Beginning) (q : PackageView) (i : ℕ) (l : LockView) → locked_in q i ≡ Some l → IsOwn q i → IsTrue z x us f (stand_in q i) → IsTrue w x us f (stand_in q i)
shown_true w z x us f q i l e own so =
    let is = shows_some q i l e in
    subst (IsTrue w x us f) (sym is) (inside_true w z x us f (turn_in q i) (has q.context.guest.held i) (kind_at i (given_of q)) (own_held q i own) (subst (IsTrue z x us f) is so))

-- a package that was granted nothing shows no grant
pub shows_no_grant : (q : PackageView) (i : ℕ) (l : LockView) → locked_in q i ≡ Some l → q.granted ≡ None → (u : Turn) (how : Kind) → stand_in q i ≡ granted_at u how → ⊥
shows_no_grant q i l e none u how is =
    let shown : stand_in q i ≡ stands_in (turn_in q i) (has q.context.guest.held i) None = shows_some q i l e ∙ ap (λ (o : Option Grant). stands_in (turn_in q i) (has q.context.guest.held i) (kind_at i (option_map (λ (g : Grant). record { lock = g.lock; kind = g.kind; number = number_in q g.lock }) o))) none in
    not_granted (turn_in q i) u (has q.context.guest.held i) how (sym shown ∙ is)

-- ---- what a pass has out

pub packages_more : (ps : List (Option PackageView)) (u t : ℕ) (p q : PackageView) → get_elem? ps t ≡ some (Some p) → (o : PackageView) × (get_elem? (set ps u (Some q)) t ≡ some (Some o))
packages_more ps u t p q has = dite (ℕ_discrete t u)
    (λ (same : t ≡ u). (q, subst (λ (z : ℕ). get_elem? (set ps z (Some q)) t ≡ some (Some q)) same (set_here ps t (Some q) (there ps t (Some p) (Some p) has).0)))
    (λ (ne : t ≢ u). (p, set_else ps u t (Some q) ne ∙ has))

pub locks_more : (ls slots : List (Option LockView)) (i : ℕ) (l : LockView) → get_elem? ls i ≡ some (Some l) → (y : LockView) × (get_elem? (add_all ls slots) i ≡ some (Some y))
locks_more ls slots i l has = by (lock_in slots i) refl
  where
    by : (o : Option LockView) → lock_in slots i ≡ o → (y : LockView) × (get_elem? (add_all ls slots) i ≡ some (Some y))
    by None e = (l, add_all-else ls slots i e ∙ has)
    by (Some y) e = (kept y, add_all-has ls slots i y (there ls i (Some l) (Some l) has).0 e)

pub stands_so : (k : HallTerms) (r : Run k) (v : Knows) (j : ℕ) (s : Standing) → standing_of j v.calls ≡ s → Truth k r v.worker j s
    → (has_lock s ≡ true → (l : LockView) × HasLock v j l) → ((l : LockView) → HasLock v j l → has_lock s ≡ true) → ((t : ℕ) → thread_of s ≡ Some t → (p : PackageView) × Has v t p) → StandsTrue k r v j
stands_so k r v j s e so lock stands hand = record {
  so = subst (Truth k r v.worker j) (sym e) so;
  lock = λ h. lock (ap has_lock (sym e) ∙ h);
  stands = λ l h. ap has_lock e ∙ stands l h;
  hand = λ t h. hand t (ap thread_of (sym e) ∙ h);
}

-- a pass that stands nowhere and has no lock
pub stands_away : (k : HallTerms) (r : Run k) (v : Knows) (j : ℕ) → standing_of j v.calls ≡ away → ((l : LockView) → HasLock v j l → ⊥) → StandsTrue k r v j
stands_away k r v j e out = stands_so k r v j away e tt (λ h. let n : ⊥ = cc h in absurd n) (λ l h. absurd (out l h)) (λ t h. let n : ⊥ = cc h in absurd n)

-- so does one that was made
pub stands_fresh : (k : HallTerms) (r : Run k) (v : Knows) (j : ℕ) → StandsTrue k r (fresh v) j
stands_fresh k r v j = stands_away k r (fresh v) j refl (λ l h. fresh_free v j l h)

-- two lists of which neither stands at the lock
pub both_away : (i : ℕ) (xs ys : List PassCall) → standing_of i xs ≡ away → standing_of i ys ≡ away → standing_of i (xs ++ ys) ≡ away
both_away i xs ys e f = stand_more i xs ys away ∙ (ap (stand_from i ys) e ∙ f)

module _ (k : HallTerms) (r : Run k) where
  -- a lock is out with one pass
  pub lock_apart : (id j i : ℕ) (v x : Knows) (l y : LockView) → Live k r id v → Live k r j x → HasLock v i l → HasLock x i y → id ≡ j
  lock_apart id j i v x l y live its has also =
      let placed = (kept_at k r).locks_placed in
      same_out (placed.spot i) id j (placed.owned id v i l live.pass has).0 (placed.owned j x i y its.pass also).0

  -- a package is
  pub package_apart : (id j t : ℕ) (v x : Knows) (p o : PackageView) → Live k r id v → Live k r j x → Has v t p → Has x t o → id ≡ j
  package_apart id j t v x p o live its has also = (one_pass k (hall_at k r) (kept_at k r) id j t v x p o live.pass its.pass has also).0

  -- a lock in its slot is out with none
  pub slot_apart : (id i : ℕ) (v : Knows) (l y : LockView) → i < locks k → slice_index (hall_at k r).words (slot_word (threads k + i)) ≡ 0 → get_elem? (hall_at k r).homes (threads k + i) ≡ some (some (Some (Lock l))) → Live k r id v → HasLock v i y → ⊥
  slot_apart id i v l y below word slot live has = home_out ((kept_at k r).locks_placed.spot i) id (lock_at_home k (hall_at k r) (kept_at k r) i l below word slot).spot ((kept_at k r).locks_placed.owned id v i y live.pass has).0

  -- and one in a package in its slot
  pub inside_apart : (id i t : ℕ) (v : Knows) (l y : LockView) (q : PackageView) → Live k r id v → HasLock v i l → t < threads k → InSlot k r t q → locked_in q i ≡ Some y → ⊥
  inside_apart id i t v l y q live has below slot inside =
      let placed = (kept_at k r).locks_placed in
      out_inside id t (placed.spot i) (placed.owned id v i l live.pass has).0 (placed.packed t q i y below slot inside).0

-- ---- the package that a pass claims

abbrev pub claimed_by : Knows → ℕ → ℕ → PackageView → Knows
claimed_by v t word q = record (after_claim v word q) { open_slot = Some t }

pub record IsClaimed (word t : ℕ) (q : PackageView) : Type 0 where
  pub thread : q.context.thread ≡ t
  pub own : (i : ℕ) (l : LockView) → locked_in q i ≡ Some l → IsOwn q i
  pub ready : (g : Grant) → q.granted ≡ Some g → word ≡ READY

-- one that waited was granted nothing
pub waiting_ungranted : (word t i : ℕ) (q : PackageView) → IsClaimed word t q → place_of word ≡ Waiting i → q.granted ≡ None
waiting_ungranted word t i q is waits = by q.granted refl
  where
    by : (o : Option Grant) → q.granted ≡ o → q.granted ≡ None
    by None e = e
    by (Some g) e = (let c : Waiting i ≡ Ready = sym waits ∙ (ap place_of (is.ready g e) ∙ place_codes Ready) in absurd (cc c))

-- a claim of one that doesn't wait, or waits for another lock, is of the package alone
pub past_plain : (j : ℕ) (place : Place) (o : Option Kind) (s : Standing) → (place ≡ Ready) ⊎ (place ≡ Parked) → past_waiting j place o s ≡ s
past_plain j place o s plain = ⊎_elim (λ (e : place ≡ Ready). ap (λ (z : Place). past_waiting j z o s) e) (λ (e : place ≡ Parked). ap (λ (z : Place). past_waiting j z o s) e) plain

-- that of one that waits is by its lock
pub past_passed : (v : Knows) (i : ℕ) (place : Place) (l : LockView) (own u : Turn) (s : Standing) → place ≡ Waiting i → HasLock v i l → s ≡ followed own u → past_waiting i place (kind_passed v place) s ≡ granted_at u (passed_kind l)
past_passed v i place l own u s waits has stands =
    let found : slice_index_or v.locks i None ≡ Some l = (there v.locks i (Some l) None has).1 in
    ap (λ (z : Place). past_waiting i z (kind_passed v z) s) waits
    ∙ (pick_mine i (past_passing (kind_passed v (Waiting i)) s) s ∙ (λ j. past_passing (option_map passed_kind (found j)) (stands j)))

module _ (k : HallTerms) (r : Run k) (id : ℕ) (v : Knows) (live : Live k r id v) where
  pub claimed_so : (t word : ℕ) (q : PackageView) → MayClaim k (hall_at k r) v t word q → IsClaimed word t q
  claimed_so t word q may = record {
    thread = ap (λ (z : PackageView). z.context.thread) (sym at_home.same) ∙ at_home.thread;
    own = subst (λ (z : PackageView). (i : ℕ) (l : LockView) → locked_in z i ≡ Some l → IsOwn z i) at_home.same at_home.home.order.own;
    ready = λ g e. sym may.found ∙ at_home.home.order.ready g (ap (λ (z : PackageView). z.granted) at_home.same ∙ e);
  }
    where
      few : locks k < 33
      few = (let f = (kept_at k r).told.limits.locks in omega (arith, f))

      low : slice_index (hall_at k r).words (slot_word t) < 512
      low = (let found = may.found in ⊎_elim
          (λ (e : word ≡ READY). omega (arith, found, e))
          (λ z. ⊎_elim (λ (e : word ≡ PARKED). omega (arith, found, e)) (λ (y : (i : ℕ) × (i < locks k) × (word ≡ WAITING + i)). let below = y.1 in let e = y.2 in omega (arith, found, e, below, few)) z)
          may.can)

      at_home : AtHome k (hall_at k r) (kept_at k r) t q
      at_home = at_home_of k (hall_at k r) (kept_at k r) t q may.below low may.slot

  sized : length v.locks ≡ locks k
  sized = (kept_at k r).locks_placed.sized id v live.pass live.live

  wide : length v.packages ≡ threads k
  wide = (kept_at k r).placed.sized id v live.pass live.live

  pub claimed_here : (t word : ℕ) (q : PackageView) → q.context.thread ≡ t → t < threads k → Has (claimed_by v t word q) t (bare q)
  claimed_here t word q thread below = subst (λ (z : ℕ). get_elem? (set v.packages z (Some (bare q))) t ≡ some (Some (bare q))) (sym thread) (set_here v.packages t (Some (bare q)) (omega (arith, wide, below)))

  -- at a lock in it, the pass stands as the package shows
  pub claim_inside : (r' : Run k) (t word j : ℕ) (q : PackageView) (l : LockView) → IsClaimed word t q → t < threads k → j < locks k → locked_in q j ≡ Some l → Truth k r' v.worker j (stand_in q j) → StandsTrue k r' (claimed_by v t word q) j
  claim_inside r' t word j q l is below under e so =
      let u = turn_in q j in
      let holds = has q.context.guest.held j in
      let how = kind_at j (given_of q) in
      stands_so k r' (claimed_by v t word q) j (stand_in q j) (standing_last j v.calls (claim_call v q word) ∙ claimed_in v q word j l (standing_of j v.calls) e (is.own j l e)) so
      (λ h. (kept l, add_all-has v.locks q.context.locks j l (omega (arith, sized, under)) e))
      (λ y h. ap has_lock (shows_some q j l e) ∙ inside_lock u holds how)
      (λ x h. let f : Some q.context.thread ≡ Some x = sym (ap thread_of (shows_some q j l e) ∙ inside_thread u holds how) ∙ h in let g : q.context.thread ≡ x = cc f in
      (bare q, subst (λ (z : ℕ). Has (claimed_by v t word q) z (bare q)) (sym is.thread ∙ g) (claimed_here t word q is.thread below)))

  -- at another it stands as before, or so
  pub claim_outside : (r' : Run k) (t word j : ℕ) (q : PackageView) (s : Standing) → locked_in q j ≡ None → past_waiting j (place_of word) (kind_passed v (place_of word)) (standing_of j v.calls) ≡ s → Truth k r' v.worker j s
      → StandsTrue k r v j → has_lock s ≡ has_lock (standing_of j v.calls) → ((u : ℕ) → thread_of s ≡ Some u → (p : PackageView) × Has (claimed_by v t word q) u p) → StandsTrue k r' (claimed_by v t word q) j
  claim_outside r' t word j q s e is so st lock hand = stands_so k r' (claimed_by v t word q) j s (standing_last j v.calls (claim_call v q word) ∙ (claimed_out v q word j (standing_of j v.calls) e ∙ is)) so
      (λ h. let y = st.lock (sym lock ∙ h) in locks_more v.locks q.context.locks j y.0 y.1)
      (λ y h. lock ∙ st.stands y (sym (add_all-else v.locks q.context.locks j e) ∙ h))
      hand

-- how the lock is passed on is by the batch rule
pub kind_rule : (l : LockView) (o : Option Block) → passed_after l o ≡ (if is_adopted (passed_after l o) then Adopted else kind.Granted)
kind_rule l None = refl
kind_rule l (Some b) = by (may_adopt b l.number (run_of l.number (blocks_of l)) l.journal.limit)
  where
    by : (x : Bool) → (if x then Adopted else kind.Granted) ≡ (if is_adopted (if x then Adopted else kind.Granted) then Adopted else kind.Granted)
    by true = refl
    by false = refl

-- ---- the package whose block a pass seals

-- who ran with the lock has it, and it is neither free nor left
pub run_lock : (b : Block) (s : Standing) → IsRunAs b s → has_lock s ≡ true
run_lock b (granted_at u how) runs = refl
run_lock b (held_at u) runs = refl
run_lock b away runs = absurd runs
run_lock b (entered u before) runs = absurd runs
run_lock b (loose_at u) runs = absurd runs
run_lock b (followed u y) runs = absurd runs
run_lock b (closed u) runs = absurd runs

pub run_shut : (w : ℕ) (x : Custody) (us : List Turn) (f : ℕ → Beginning) (b : Block) (s : Standing) → IsRunAs b s → IsTrue w x us f s → (is_free_lock x.place || x.left) ≡ false
run_shut w x us f b (granted_at u how) runs so = λ j. is_free_lock (so.0 j) || so.1 j
run_shut w x us f b (held_at u) runs so = λ j. is_free_lock (so.0 j) || so.1 j
run_shut w x us f b away runs so = absurd runs
run_shut w x us f b (entered u before) runs so = absurd runs
run_shut w x us f b (loose_at u) runs so = absurd runs
run_shut w x us f b (followed u y) runs so = absurd runs
run_shut w x us f b (closed u) runs so = absurd runs

-- a lock that the thread has, or takes now, is with it
pub on_with : (o : Option ℕ) (t j : ℕ) (x : Custody) → (x.place ≡ With t) ⊎ (o ≡ Some j) → ((custody_on o t j x).place ≡ With t) × ((custody_on o t j x).left ≡ x.left)
on_with None t j x how = (⊎_elim (λ (e : x.place ≡ With t). e) (λ (e : None ≡ Some j). absurd (cc e)) how, refl)
on_with (Some lock) t j x how = by (j == lock) refl
  where
    by : (b : Bool) → (j == lock) ≡ b → ((if b then record x { place = With t } else x).place ≡ With t) × ((if b then record x { place = With t } else x).left ≡ x.left)
    by true e = (refl, refl)
    by false e = (⊎_elim (λ (f : x.place ≡ With t). f) (λ (f : Some lock ≡ Some j). let same : lock ≡ j = cc f in let c : true ≡ false = sym (eq-eqb j lock (sym same)) ∙ e in absurd (cc c)) how, refl)

-- and it is loose after the block, if the thread doesn't hold it then
pub past_with : (w t : ℕ) (held : Bool) (o : Option Release) (x : Custody) → x.place ≡ With t → ((custody_past w t held o x).place ≡ (if held then With t else Loose w)) × ((custody_past w t held o x).left ≡ x.left)
past_with w t held o x with =
    let test : (is_number (with_of x.place) t && not held) ≡ not held = ap (λ (p : LockPlace). is_number (with_of p) t && not held) with ∙ ap (λ (b : Bool). b && not held) (eq-eqb t t refl) in (
      ap (λ (b : Bool). (if b then record x { place = Loose w; last = o } else x).place) test ∙ placed held,
      ap (λ (b : Bool). (if b then record x { place = Loose w; last = o } else x).left) test ∙ left held,
    )
  where
    placed : (b : Bool) → (if not b then record x { place = Loose w; last = o } else x).place ≡ (if b then With t else Loose w)
    placed true = with
    placed false = refl

    left : (b : Bool) → (if not b then record x { place = Loose w; last = o } else x).left ≡ x.left
    left true = refl
    left false = refl

pub with_if : (b : Bool) (t w : ℕ) → is_number (with_of (if b then With t else Loose w)) t ≡ b
with_if true t w = eq-eqb t t refl
with_if false t w = refl

-- after a block with the lock its turn has it, or has released it
pub section_true : (w : ℕ) (x : Custody) (us : List Turn) (f : ℕ → Beginning) (ends : Bool) (u : Turn) → x.place ≡ (if not ends then With u.thread else Loose w) → x.left ≡ false → get_elem? us 0 ≡ some u → IsTrue w x us f (past_section ends u)
section_true w x us f true u place left first = (place, left, first)
section_true w x us f false u place left first = (place, left, first)

pub section_lock : (ends : Bool) (u : Turn) → has_lock (past_section ends u) ≡ true
section_lock true u = refl
section_lock false u = refl

pub section_thread : (ends : Bool) (u : Turn) → thread_of (past_section ends u) ≡ Some u.thread
section_thread true u = refl
section_thread false u = refl

-- the block is of locks that the pass has
pub seal_back : (v : Knows) (q : PackageView) (stamp j : ℕ) (y : LockView) → Seals v q → get_elem? (add_all v.locks (with_seal stamp v.worker q).context.locks) j ≡ some (Some y) → (l : LockView) × HasLock v j l
seal_back v q stamp j y seals e = by (locked_in (with_seal stamp v.worker q) j) refl
  where
    by : (o : Option LockView) → locked_in (with_seal stamp v.worker q) j ≡ o → (l : LockView) × HasLock v j l
    by None f = (y, sym (add_all-else v.locks (with_seal stamp v.worker q).context.locks j f) ∙ e)
    by (Some z) f =
        let here : true ≡ is_some (locked_in seals.before j) = sym (ap is_some f) ∙ (seal_set stamp v.worker q j ∙ seals.ran.runs.keeps.set j) in
        let l = some_of (locked_in seals.before j) (sym here) in
        (kept l.0, seals.locks j l.0 l.1)

-- and after it the thread holds those whose section it doesn't end
pub seal_held : (v : Knows) (q : PackageView) (seals : Seals v q) (j : ℕ) → has q.context.guest.held j ≡ (has seals.ran.block.held j && not (ends_section j seals.ran.block))
seal_held v q seals j = is.held j
  where
    is : IsAfter q.image q.context seals.ran.block
    is = subst (IsLeft q.image q.context) (subst (EndsWith q.log) seals.ran.pending seals.ran.sound.log) seals.ran.sound.left

-- ---- a lock by the rule of its blocks

module _ (k : HallTerms) (r : Run k) (a : Agrees k r) where
  abbrev stand_at : ℕ → Stand
  stand_at = stand_of k.image.value (ruled_at k r a).0 (written_at k r)

  ruled_lock : (i : ℕ) → IsLockAt k.limit i (of_lock (written_at k r).history i) stand_at (custody_at k r i)
  ruled_lock i = subst (λ (c : Core). IsLockAt k.limit i (of_lock (written_at k r).history i) stand_at (c.custody i)) (core_is k r) ((ruled_at k r a).1.locks i)

  abbrev rule_at : ℕ → LockPlace → Type 0
  rule_at i p = Rule k.limit i (of_lock (written_at k r).history i) stand_at (custody_at k r i) p

  pub free_left : (i : ℕ) → (custody_at k r i).place ≡ Free → (custody_at k r i).left ≡ false
  free_left i e = (subst (rule_at i) e (ruled_lock i).rule).0

  -- a thread that was granted a lock takes it next
  pub granted_next : (i t : ℕ) → (custody_at k r i).place ≡ Granted t → next_lock k.image.value ((core_at k r).machine.threads t) ≡ Some i
  granted_next i t e = ap (λ (c : Core). next_lock k.image.value (c.machine.threads t)) (sym (core_is k r)) ∙ (subst (rule_at i) e (ruled_lock i).rule).2.next

  -- so it is not in the line of another that is free
  pub one_wanted : (i j n : ℕ) (u : Turn) → (custody_at k r i).line ≡ threads_of (line_at k r i) → (custody_at k r i).place ≡ Free → get_elem? (line_at k r i) n ≡ some u → (custody_at k r j).place ≡ Granted u.thread → i ≡ j
  one_wanted i j n u turns free at granted =
      let x = custody_at k r i in
      let inside : is_in_line (behind x.left x.line x.place) u.thread ≡ true = ap (λ (p : LockPlace). is_in_line (behind x.left x.line p) u.thread) free ∙ (ap (λ (z : List ℕ). is_in_line z u.thread) turns ∙ turn_in_line (line_at k r i) n u at) in
      let e : Some i ≡ Some j = sym ((ruled_lock i).waits u.thread inside).next ∙ (subst (rule_at j) granted (ruled_lock j).rule).2.next in
      cc e

-- ---- after a step

module _ (k : HallTerms) (r : Run k) (a : Agrees k r) (m : Step k r) where
  abbrev next_run : Run k
  next_run = then_run k r m

  lifted_next : IsLifted k r.first (beats_of k next_run.order)
  lifted_next = lifting k r.first r.opens (beats_of k next_run.order) (lifts_on k r a m)

  pub shown_next : Shows k (hall_at k next_run) (core_at k next_run)
  shown_next = subst (λ (s : Hall). Shows k s (core_at k next_run)) (same_hall k r.first next_run.order) lifted_next.shows

  ruled_next : (base : State) × Ruled k.image.value (machine_limits k) k.fuel base (written_at k next_run)
  ruled_next =
      ruled_all k.image.value (machine_limits k) k.fuel (events_in k next_run.order) (start k.image.value k.fuel) (first_written k.image.value k.fuel) lifted_next.enabled r.opens.limits.locks (first_ruled k.image.value (machine_limits k) k.fuel)

  pub tracks_next : Tracks (core_at k next_run)
  tracks_next = (stands_all k.image.value (machine_limits k) (events_in k next_run.order) (start_of k) (first_stands k.image.value (machine_limits k) k.fuel) lifted_next.enabled).tracks

  -- the locks that are with a thread are those that its package holds
  pub held_next : (t j : ℕ) (p : PackageView) → t < threads k → PackageAt (hall_at k next_run) t p → has p.context.guest.held j ≡ is_number (with_of (custody_at k next_run j).place) t
  held_next t j p below at =
      let c : Core = core_at k next_run in
      sym (ap (λ (z : Thread). z.held j) (shown_next.shown.thread t p below at).thread)
      ∙ (sym (tracks_next.kept t j) ∙ (ap (λ (e : Option End). has (held_past (c.course t).held e) j) (shown_next.between t).1 ∙ tracks_next.with t j))

  -- a thread that was granted a lock then is not in the midst of a section
  pub section_next : (i t : ℕ) → (custody_at k next_run i).place ≡ Granted t → ((written_at k next_run).next t).kind ≡ On → ⊥
  section_next i t e on =
      let at : ℕ → Stand = stand_of k.image.value ruled_next.0 (written_at k next_run) in
      let bs : List Block = of_lock (written_at k next_run).history i in
      let is : IsLockAt k.limit i bs at (custody_at k next_run i) = subst (λ (c : Core). IsLockAt k.limit i bs at (c.custody i)) (core_is k next_run) (ruled_next.1.locks i) in
      let g : IsGranted i (at t) = (subst (Rule k.limit i bs at (custody_at k next_run i)) e is.rule).2 in
      let c : true ≡ false = sym g.kind ∙ ap is_section on in
      cc c
