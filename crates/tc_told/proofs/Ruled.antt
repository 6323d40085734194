-- Whatever enabled events write tells a run and keeps the rules: event by event.
use Rattle.std.proofs.Common.{◌≡◌, ◌≢◌, ℕ, ◌+◌, ◌<◌, Bool, true, false, not, ◌&&◌, ◌==◌, List, refl, sym, ap, subst, ◌∙◌, arith, inl, inr}
use Rattle.std.specs.Cmp.Derive.{both_true}
use Rattle.std.specs.Prelude.{Option, Some, None, All, is_some, if◌then◌else◌}
use Rattle.std.proofs.lemmas.Bool.{eqb-true, and_parts, not-true}
use Rattle.std.proofs.lemmas.Bool.Decides.{eqb_tells}
use Rattle.tc_isa.specs.Sets.{has}
use Rattle.tc_elf.specs.Shown.{Shown}
use Rattle.tc_journal.specs.Batch.{is_section, is_lock, may_adopt, Obeys, PassesOn, run_of}
use Rattle.tc_journal.specs.History.{IsInOrder, of_lock}
use Rattle.tc_journal.specs.declared.block.Block.{Block}
use Rattle.tc_journal.specs.declared.block.Kind.{Kind}
use Rattle.tc_journal.specs.declared.block.Kind.TheVariants as kind
use Rattle.tc_turn.specs.Turn.{Thread, next_lock}
use Rattle.tc_mutex_spec.specs.Machine.{State}
use Rattle.tc_mutex_spec.specs.Blocks.{locks_of_block, reach, is_first, has_block, Tells}
use Rattle.tc_mutex_spec.proofs.Local.{turn_apart}
use Rattle.tc_mutex_spec.proofs.BlocksAlike.{covers_block}
use Rattle.tc_core.specs.declared.event.Event.{Event}
use Rattle.tc_core.specs.declared.event.Event.TheVariants.{Turn, Enter, Take, Adopt, Grant, Leave, Free}
use Rattle.tc_core.specs.declared.place.LockPlace.{LockPlace}
use Rattle.tc_core.specs.declared.place.LockPlace.TheVariants.{With, Granted, Loose}
use Rattle.tc_core.specs.declared.place.LockPlace.TheVariants as place
use Rattle.tc_core.specs.declared.place.Course.{Course}
use Rattle.tc_core.specs.declared.place.Custody.{Custody}
use Rattle.tc_core.specs.Lines.{is_in_line, is_second}
use Rattle.tc_core.specs.Lines as line
use Rattle.tc_core.specs.Core.{Limits, is_free_lock, is_granted, is_loose}
use Rattle.tc_core.specs.Events.{is_enabled, effect, has_thread, has_lock, is_thread, is_between, may_pass, adopts, is_adoptable, held_with, entered, taken_by, passed_to, left_by_all, freed, custody_on, after_turn, end_here, course_on}
use Rattle.tc_core.specs.Events as events
use Rattle.tc_core.proofs.Gathering.{from_set, takes}
use Rattle.tc_core.proofs.Quiet.{Quiet, is_quiet, quiet_event, pick_mine, pick_other, lock_is_loose}
use Rattle.tc_core.proofs.Erasure.{MayTurn, may_turn, take_facts, taken_other, turn_is}
use Rattle.tc_core.proofs.Parts.{no_end}
use Rattle.tc_core.proofs.Tracked.{Tracks, tracked_after}
use Rattle.tc_core.proofs.Unfinished.{Keeps, done_of, keeps_quiet, keeps_turn}
use Rattle.tc_core.proofs.Standing.{first_in}
use Rattle.tc_told.specs.Written.{Beginning, Written, write, as_of_one}
use Rattle.tc_told.proofs.Committed.{held_with_has, is_lock_other, taken_is}
use Rattle.tc_told.proofs.Standing.{Stand, stand_of, Rule, Waits, IsGranted, is_fresh, IsReleased, IsLockAt, PassesBy, stays_so, entered_so, free_waits, second_waits, released_is, taken_so, passed_so, locked_so, left_so, freed_so}
use Rattle.tc_lemmas.proofs.Tests.{eq_self}

-- a thread whose last block but this led to d, with the held set and the pc of its block
pub record IsThreadAt (image : Shown) (seen : List Block) (custody : ℕ → Custody) (t held pc : ℕ) (d : Thread) (a : Stand) : Type 0 where
  pub from : pc ≡ d.regs.pc
  pub starts : is_section a.kind ≡ false → is_first a.kind ≡ not (has_block seen t)
  pub locks : 0 < a.turns → (k : ℕ) → has held k ≡ locks_of_block d.held a.first k
  pub section : 0 < a.turns → is_section a.kind ≡ is_some a.first
  pub granted : a.turns ≡ 0 → is_section a.kind ≡ true → (k : ℕ) × ((custody k).place ≡ Granted t)

-- the blocks that were written lead to base, and all stands so that each block that comes keeps the rules
pub record Ruled (image : Shown) (limits : Limits) (fuel : ℕ) (base : State) (s : Written) : Type 0 where
  pub keeps : Keeps image s.core base
  pub tracks : Tracks s.core
  pub stamps : IsInOrder s.history
  pub tells : Tells image fuel s.history base
  pub workers : All (λ (b : Block). b.worker < limits.workers) s.history
  pub obeys : (k : ℕ) → Obeys k limits.batch (as_of_one (of_lock s.history k))
  pub passes : (k : ℕ) → PassesOn k (of_lock s.history k)
  pub threads : (t : ℕ) → IsThreadAt image s.history s.core.custody t (s.core.course t).held (s.next t).pc (base.threads t) (stand_of image base s t)
  pub locks : (k : ℕ) → IsLockAt limits.batch k (of_lock s.history k) (stand_of image base s) (s.core.custody k)

-- ---- events that change neither a block nor what was written

pub thread_still : (image : Shown) {seen more : List Block} (was now : ℕ → Custody) (t : ℕ) {held held' pc pc' : ℕ} (d : Thread) {a b : Stand} → has_block more t ≡ has_block seen t → held' ≡ held → pc' ≡ pc → b ≡ a
    → ((k : ℕ) → (was k).place ≡ Granted t → (now k).place ≡ Granted t) → IsThreadAt image seen was t held pc d a → IsThreadAt image more now t held' pc' d b
thread_still image was now t d same_seen same_held same_pc same still is = record {
  from = same_pc ∙ is.from;
  starts = λ e. ap (λ (x : Stand). is_first x.kind) same ∙ is.starts (ap (λ (x : Stand). is_section x.kind) (sym same) ∙ e) ∙ ap not (sym same_seen);
  locks = λ some k. ap (λ h. has h k) same_held ∙ is.locks (subst (λ (x : Stand). 0 < x.turns) same some) k ∙ ap (λ (x : Stand). locks_of_block d.held x.first k) (sym same);
  section = λ some. ap (λ (x : Stand). is_section x.kind) same ∙ is.section (subst (λ (x : Stand). 0 < x.turns) same some) ∙ ap (λ (x : Stand). is_some x.first) (sym same);
  granted = λ none e. (let g = is.granted (ap (λ (x : Stand). x.turns) (sym same) ∙ none) (ap (λ (x : Stand). is_section x.kind) (sym same) ∙ e) in (g.0, still g.0 g.1));
}

-- one lock changed
lock_changed : (P : ℕ → Custody → Type 0) (f : ℕ → Custody) (lock : ℕ) (y : Custody) → P lock y → ((k : ℕ) → k ≢ lock → P k (f k)) → (k : ℕ) → P k (if k == lock then y else f k)
lock_changed P f lock y here others k = elim (eqb_tells k lock) [
  | inl h ↦ subst (λ j. P j (if j == lock then y else f j)) (sym h.1) (subst (P lock) (sym (pick_mine lock y (f lock))) here)
  | inr h ↦ subst (P k) (sym (pick_other k lock y (f k) h.1)) (others k h.1)
]

granted_still : (f : ℕ → Custody) (lock : ℕ) (y : Custody) (t : ℕ) → ((f lock).place ≡ Granted t → y.place ≡ Granted t) → (k : ℕ) → (f k).place ≡ Granted t → (if k == lock then y else f k).place ≡ Granted t
granted_still f lock y t still k e = elim (eqb_tells k lock) [
  | inl h ↦ ap (λ b. (if b then y else f k).place) h.0 ∙ still (ap (λ j. (f j).place) (sym h.1) ∙ e)
  | inr h ↦ ap (λ b. (if b then y else f k).place) h.0 ∙ e
]

free_grants : (p : LockPlace) (t : ℕ) {A : Type 0} → is_free_lock p ≡ true → p ≡ Granted t → A
free_grants p t free e = absurd (let f : is_free_lock (Granted t) ≡ true = ap is_free_lock (sym e) ∙ free in cc)

loose_grants : (p : LockPlace) (w t : ℕ) {A : Type 0} → is_loose p w ≡ true → p ≡ Granted t → A
loose_grants p w t loose e = absurd (let f : is_loose (Granted t) w ≡ true = ap (λ q. is_loose q w) (sym e) ∙ loose in cc)

module _ (image : Shown) (limits : Limits) (fuel : ℕ) (base : State) (s : Written) (is : Ruled image limits fuel base s) where
  abbrev at : ℕ → Stand
  at = stand_of image base s

  abbrev Now : Written → Type 0
  Now = Ruled image limits fuel base

  abbrev AreThreads : Written → Type 0
  AreThreads x = (t : ℕ) → IsThreadAt image x.history x.core.custody t (x.core.course t).held (x.next t).pc (base.threads t) (stand_of image base x t)

  abbrev AreLocks : Written → Type 0
  AreLocks x = (k : ℕ) → IsLockAt limits.batch k (of_lock x.history k) (stand_of image base x) (x.core.custody k)

  quiet_ruled : (e : Event) → is_enabled image limits s.core e ≡ true → is_quiet e ≡ true → (write image s e).history ≡ s.history → AreThreads (write image s e) → AreLocks (write image s e) → Now (write image s e)
  quiet_ruled e on q same threads locks = record {
    keeps = keeps_quiet image s.core (effect image s.core e) base (quiet_event image limits s.core e on q) is.keeps;
    tracks = tracked_after image limits s.core e on is.keeps.sound is.tracks;
    stamps = subst IsInOrder (sym same) is.stamps;
    tells = subst (λ h. Tells image fuel h base) (sym same) is.tells;
    workers = subst (λ h. All (λ (b : Block). b.worker < limits.workers) h) (sym same) is.workers;
    obeys = λ k. subst (λ h. Obeys k limits.batch (as_of_one (of_lock h k))) (sym same) (is.obeys k);
    passes = λ k. subst (λ h. PassesOn k (of_lock h k)) (sym same) (is.passes k);
    threads = threads;
    locks = locks;
  }

  -- where no thread's beginning changes
  module _ (e : Event) (on : is_enabled image limits s.core e ≡ true) (q : is_quiet e ≡ true) (same : (write image s e).history ≡ s.history) (next : (write image s e).next ≡ s.next) where
    quiet : Quiet s.core (effect image s.core e)
    quiet = quiet_event image limits s.core e on q

    stands : stand_of image base (write image s e) ≡ at
    stands = λ i t. record { turns = quiet.turns t i; next = next_lock image ((quiet.machine i).threads t); first = next_lock image (base.threads t); kind = (next i t).kind }

    threads_still : ((t k : ℕ) → (s.core.custody k).place ≡ Granted t → ((effect image s.core e).custody k).place ≡ Granted t) → AreThreads (write image s e)
    threads_still still t =
        thread_still image s.core.custody (effect image s.core e).custody t (base.threads t) (ap (λ h. has_block h t) same) (quiet.held t) (λ i. (next i t).pc) (λ i. stands i t) (still t) (is.threads t)

    locks_still : ((k : ℕ) → IsLockAt limits.batch k (of_lock s.history k) at ((effect image s.core e).custody k)) → AreLocks (write image s e)
    locks_still locks k =
        subst (λ (y : List Block × (ℕ → Stand)). IsLockAt limits.batch k (of_lock y.0 k) y.1 ((effect image s.core e).custody k)) (λ i. (sym same i, sym stands i)) (locks k)

    -- an event of a thread's place
    pub moved : (effect image s.core e).custody ≡ s.core.custody → Now (write image s e)
    moved custody =
        quiet_ruled e on q same (threads_still (λ t k h. ap (λ f. (f k).place) custody ∙ h)) (locks_still (λ k. subst (λ f. IsLockAt limits.batch k (of_lock s.history k) at (f k)) (sym custody) (is.locks k)))

    -- an event of a lock
    shifted : (lock : ℕ) (y : Custody) → (effect image s.core e).custody ≡ (λ k. if k == lock then y else s.core.custody k) → ((t : ℕ) → (s.core.custody lock).place ≡ Granted t → y.place ≡ Granted t)
        → IsLockAt limits.batch lock (of_lock s.history lock) at y → Now (write image s e)
    shifted lock y custody still here =
        quiet_ruled e on q same (threads_still (λ t k h. ap (λ f. (f k).place) custody ∙ granted_still s.core.custody lock y t (still t) k h))
        (locks_still (λ k. subst (λ f. IsLockAt limits.batch k (of_lock s.history k) at (f k)) (sym custody)
        (lock_changed (λ j z. IsLockAt limits.batch j (of_lock s.history j) at z) s.core.custody lock y here (λ j ne. is.locks j) k)))

  -- where a lock is granted to a thread that wants it
  module _ (e : Event) (on : is_enabled image limits s.core e ≡ true) (q : is_quiet e ≡ true) (same : (write image s e).history ≡ s.history)
      (t lock : ℕ) (kd : Kind) (y : Custody) (custody : (effect image s.core e).custody ≡ (λ k. if k == lock then y else s.core.custody k))
      (next : (write image s e).next ≡ (λ k. if k == t then record (s.next t) { kind = kd } else s.next k))
      (was : (u : ℕ) → (s.core.custody lock).place ≡ Granted u → ⊥) (place_is : y.place ≡ Granted t) (section : is_section kd ≡ true) (wants : Waits lock (at t)) where
    abbrev to : ℕ → Stand
    to = stand_of image base (write image s e)

    quiet_grant : Quiet s.core (effect image s.core e)
    quiet_grant = quiet_event image limits s.core e on q

    next_other : (u : ℕ) → u ≢ t → (write image s e).next u ≡ s.next u
    next_other u ne = (λ i. next i u) ∙ pick_other u t _ (s.next u) ne

    next_mine : (write image s e).next t ≡ record (s.next t) { kind = kd }
    next_mine = (λ i. next i t) ∙ pick_mine t _ (s.next t)

    others : (u : ℕ) → u ≢ t → to u ≡ at u
    others u ne = λ i. record { turns = quiet_grant.turns u i; next = next_lock image ((quiet_grant.machine i).threads u); first = next_lock image (base.threads u); kind = (next_other u ne i).kind }

    mine : to t ≡ record (at t) { kind = kd }
    mine = λ i. record { turns = quiet_grant.turns t i; next = next_lock image ((quiet_grant.machine i).threads t); first = next_lock image (base.threads t); kind = (next_mine i).kind }

    none : (to t).turns ≡ 0
    none = quiet_grant.turns t ∙ wants.turns

    apart : (k : ℕ) → k ≢ lock → PassesBy k (s.core.custody k) t at to
    apart k ne = record {
      others = others;
      waits = λ w. (let f : Some lock ≡ Some k = sym wants.next ∙ w.next in ne (let g : lock ≡ k = cc in sym g));
      granted = λ g. (let f : true ≡ false = sym g.kind ∙ wants.kind in cc);
      fresh = λ h. ap (λ n. not (n == 0) && is_lock (at t).first k) (quiet_grant.turns t);
      kind = λ h f. absurd (let g : true ≡ false = sym f ∙ ap (λ n. not (n == 0) && is_lock (at t).first k) wants.turns in cc);
    }

    placed : (k : ℕ) → ((effect image s.core e).custody k) ≡ (if k == lock then y else s.core.custody k)
    placed k = λ i. custody i k

    thread_now : (u : ℕ) → IsThreadAt image (write image s e).history (effect image s.core e).custody u ((effect image s.core e).course u).held ((write image s e).next u).pc (base.threads u) (to u)
    thread_now u = elim (eqb_tells u t) [
      | inl h ↦ subst (λ v. IsThreadAt image (write image s e).history (effect image s.core e).custody v ((effect image s.core e).course v).held ((write image s e).next v).pc (base.threads v) (to v)) (sym h.1) (record {
        from = ap (λ (b : Beginning). b.pc) next_mine ∙ (is.threads t).from;
        starts = λ f. absurd (let g : true ≡ false = sym section ∙ ap (λ (a : Stand). is_section a.kind) (sym mine) ∙ f in cc);
        locks = λ some. absurd (omega (arith, some, none));
        section = λ some. absurd (omega (arith, some, none));
        granted = λ f g. (lock, ap (λ (z : Custody). z.place) (placed lock ∙ pick_mine lock y (s.core.custody lock)) ∙ place_is);
      })
      | inr h ↦ thread_still image s.core.custody (effect image s.core e).custody u (base.threads u) (ap (λ h. has_block h u) same) (quiet_grant.held u) (ap (λ (b : Beginning). b.pc) (next_other u h.1)) (others u h.1)
          (λ k g. ap (λ (z : Custody). z.place) (placed k) ∙ granted_still s.core.custody lock y u (λ f. absurd (was u f)) k g) (is.threads u)
    ]

    granted_to : ((f : ℕ → Stand) → ((u : ℕ) → u ≢ t → f u ≡ at u) → f t ≡ record (at t) { kind = kd } → IsLockAt limits.batch lock (of_lock s.history lock) f y) → Now (write image s e)
    granted_to here = quiet_ruled e on q same thread_now (λ k. subst (λ (z : List Block × Custody). IsLockAt limits.batch k (of_lock z.0 k) to z.1) (λ i. (sym same i, sym (placed k) i))
        (lock_changed (λ j z. IsLockAt limits.batch j (of_lock s.history j) to z) s.core.custody lock y (here to others mine) (λ j ne. stays_so limits.batch j (of_lock s.history j) (s.core.custody j) t at to (apart j ne) (is.locks j)) k))

  -- a thread that was granted a lock
  granted_is : (t k : ℕ) → (s.core.custody k).place ≡ Granted t → (line.is_first (s.core.custody k).line t ≡ true) × IsGranted k (at t)
  granted_is t k e = (let r = subst (λ p. Rule limits.batch k (of_lock s.history k) at (s.core.custody k) p) e (is.locks k).rule in (r.1, r.2))

  -- whose next turn takes a lock has no other one granted
  no_section : (t : ℕ) → (at t).turns ≡ 0 → ((k : ℕ) → IsGranted k (at t) → line.is_first (s.core.custody k).line t ≡ true → ⊥) → is_section (at t).kind ≡ false
  no_section t none never = go (is_section (at t).kind) refl
    where
      go : (b : Bool) → is_section (at t).kind ≡ b → is_section (at t).kind ≡ false
      go true e = absurd (let g = (is.threads t).granted none e in let r = granted_is t g.0 g.1 in never g.0 r.1 r.0)
      go false e = e

  -- ---- the quiet events

  abbrev x_of : ℕ → Custody
  x_of lock = s.core.custody lock

  has_it : (w lock : ℕ) → has_lock image limits s.core w lock ≡ true → is_loose (x_of lock).place w ≡ true
  has_it w lock e = lock_is_loose image limits s.core w lock e

  pub on_enter : (w t lock : ℕ) → is_enabled image limits s.core (Enter w t lock) ≡ true → Now (write image s (Enter w t lock))
  unfolding effect is_enabled
  on_enter w t lock on =
      let p = and_parts (has_thread image limits s.core w t) _ on in let q = and_parts (events.is_lock image lock) _ p.1 in
      let r = and_parts (events.runs s.core t) _ q.1 in let u = and_parts (is_between s.core t) _ r.1 in let v = and_parts _ _ u.1 in
      let none : (at t).turns ≡ 0 = eqb-true (s.core.course t).turns 0 u.0 in
      let next : (at t).next ≡ Some lock = from_set _ lock v.0 in
      let out : is_in_line (x_of lock).line t ≡ false = not-true _ v.1 in
      let wants : Waits lock (at t) = record {
        turns = none;
        next = next;
        kind = no_section t none (λ k g first. (let f : Some k ≡ Some lock = sym g.next ∙ next in let same : k ≡ lock = cc in
            let h : true ≡ false = sym (first_in (x_of k).line t first) ∙ ap (λ j. is_in_line (x_of j).line t) same ∙ out in cc));
      } in
      shifted (Enter w t lock) on refl refl refl lock (entered (x_of lock) t) refl (λ k e. e) (entered_so limits.batch lock (of_lock s.history lock) at (x_of lock) (is.locks lock) t out wants)

  pub on_leave : (w lock : ℕ) → is_enabled image limits s.core (Leave w lock) ≡ true → Now (write image s (Leave w lock))
  unfolding effect is_enabled
  on_leave w lock on =
      let p = and_parts (has_lock image limits s.core w lock) _ on in
      shifted (Leave w lock) on refl refl refl lock (left_by_all (x_of lock)) refl (λ k e. e) (left_so limits.batch lock (of_lock s.history lock) at (x_of lock) (is.locks lock) w (has_it w lock p.0))

  pub on_free : (w lock : ℕ) → is_enabled image limits s.core (Free w lock) ≡ true → Now (write image s (Free w lock))
  unfolding effect is_enabled
  on_free w lock on =
      let p = and_parts (has_lock image limits s.core w lock) _ on in
      shifted (Free w lock) on refl refl refl lock (freed (x_of lock)) refl (λ k e. loose_grants (x_of lock).place w k (has_it w lock p.0) e) (freed_so limits.batch lock (of_lock s.history lock) at (x_of lock) (is.locks lock) w (has_it w lock p.0) p.1)

  pub on_take : (w t lock : ℕ) → is_enabled image limits s.core (Take w t lock) ≡ true → Now (write image s (Take w t lock))
  unfolding effect is_enabled
  on_take w t lock on =
      let p = and_parts (has_thread image limits s.core w t) _ on in let q = and_parts (events.is_lock image lock) _ p.1 in
      let r = and_parts (line.is_first (x_of lock).line t) _ q.1 in
      granted_to (Take w t lock) on refl refl t lock kind.Taken (taken_by (x_of lock) t) refl refl (λ u e. free_grants (x_of lock).place u r.1 e) refl refl
      (free_waits limits.batch lock (of_lock s.history lock) at (x_of lock) (is.locks lock) t r.1 r.0)
      (λ f others mine. taken_so limits.batch lock (of_lock s.history lock) at (x_of lock) (is.locks lock) t f others mine r.1 r.0)

  -- what passing a lock on asks
  abbrev Passes : ℕ → ℕ → ℕ → Type 0
  Passes w t lock = (is_loose (x_of lock).place w ≡ true) × ((x_of lock).left ≡ false) × (is_second (x_of lock).line t ≡ true)

  passes_it : (w t lock : ℕ) → may_pass image limits s.core w t lock ≡ true → Passes w t lock
  passes_it w t lock e =
      let p = and_parts (has_lock image limits s.core w lock) _ e in let q = and_parts _ _ p.1 in let r = and_parts (is_thread image t) _ q.1 in
      (has_it w lock p.0, not-true _ q.0, (and_parts _ _ r.1).0)

  released : (w t lock : ℕ) → Passes w t lock → IsReleased lock (of_lock s.history lock) (x_of lock)
  released w t lock may = released_is limits.batch lock (of_lock s.history lock) at (x_of lock) (is.locks lock) w may.0

  -- the rule as the core has it
  rule_is : (lock : ℕ) (r : IsReleased lock (of_lock s.history lock) (x_of lock)) → adopts limits s.core lock ≡ may_adopt r.block lock (run_of lock (of_lock s.history lock)) limits.batch
  rule_is lock r = λ i. is_adoptable limits lock (r.run i) (r.release i)

  pub on_adopt : (w t lock : ℕ) → is_enabled image limits s.core (Adopt w t lock) ≡ true → Now (write image s (Adopt w t lock))
  unfolding effect is_enabled
  on_adopt w t lock on =
      let p = and_parts (may_pass image limits s.core w t lock) (adopts limits s.core lock) on in
      let may = passes_it w t lock p.0 in
      let r = released w t lock may in
      granted_to (Adopt w t lock) on refl refl t lock kind.Adopted (passed_to (x_of lock) t ((x_of lock).run + 1)) refl refl (λ u e. loose_grants (x_of lock).place w u may.0 e) refl refl
      (second_waits limits.batch lock (of_lock s.history lock) at (x_of lock) (is.locks lock) w t may.0 may.1 may.2)
      (λ f others mine. passed_so limits.batch lock (of_lock s.history lock) at (x_of lock) (is.locks lock) t f others w ((x_of lock).run + 1) kind.Adopted r refl mine may.0 may.1 may.2
      (ap (λ b. b && true) (sym (rule_is lock r) ∙ p.1)) (ap (λ n. n + 1) r.run))

  pub on_grant : (w t lock : ℕ) → is_enabled image limits s.core (Grant w t lock) ≡ true → Now (write image s (Grant w t lock))
  unfolding effect is_enabled
  on_grant w t lock on =
      let p = and_parts (may_pass image limits s.core w t lock) (not (adopts limits s.core lock)) on in
      let may = passes_it w t lock p.0 in
      let r = released w t lock may in
      granted_to (Grant w t lock) on refl refl t lock kind.Granted (passed_to (x_of lock) t 0) refl refl (λ u e. loose_grants (x_of lock).place w u may.0 e) refl refl
      (second_waits limits.batch lock (of_lock s.history lock) at (x_of lock) (is.locks lock) w t may.0 may.1 may.2)
      (λ f others mine. passed_so limits.batch lock (of_lock s.history lock) at (x_of lock) (is.locks lock) t f others w 0 kind.Granted r refl mine may.0 may.1 may.2
      (both_true r.ends (ap not (sym (rule_is lock r)) ∙ p.1)) refl)

  -- ---- a turn

  -- a thread between its blocks is as its blocks left it
  pub base_thread : (u : ℕ) → (at u).turns ≡ 0 → base.threads u ≡ s.core.machine.threads u
  unfolding done_of
  base_thread u e = ap (λ n. (reach image base u n).threads u) (sym e) ∙ (is.keeps.gathers.part u).thread

  module _ (w t : ℕ) (on : is_enabled image limits s.core (Turn w t) ≡ true) where
    abbrev taken : Option ℕ
    taken = next_lock image (s.core.machine.threads t)

    abbrev turned : Written
    turned = record { core = after_turn image s.core t; next = s.next; history = s.history }

    abbrev later : ℕ → Stand
    later = stand_of image base turned

    may : MayTurn image s.core t
    may = may_turn image limits s.core w t on

    course_mine : turned.core.course t ≡ course_on (s.core.course t) taken (end_here image s.core t)
    course_mine = pick_mine t _ (s.core.course t)

    course_other : (u : ℕ) → u ≢ t → turned.core.course u ≡ s.core.course u
    course_other u ne = pick_other u t _ (s.core.course u) ne

    others_turn : (u : ℕ) → u ≢ t → later u ≡ at u
    others_turn u ne =
        let same = (turn_apart image s.core.machine t _ (covers_block image (s.core.machine.threads t))).threads u ne in
        (λ i. record { turns = (course_other u ne i).turns; next = next_lock image (same i); first = next_lock image (base.threads u); kind = (s.next u).kind })

    more : (later t).turns ≡ (at t).turns + 1
    more = ap (λ (y : Course). y.turns) course_mine

    some_turn : ((later t).turns == 0) ≡ false
    some_turn = elim (eqb_tells (later t).turns 0) [ inl h ↦ absurd (omega (arith, h.1, more)) | inr h ↦ h.0 ]

    granted_it : (k : ℕ) → taken ≡ Some k → is_granted (x_of k).place t ≡ true
    granted_it k e = (and_parts (is_between s.core t) _ (ap (λ o. events.may_take o t s.core) (sym e) ∙ may.take)).1

    first_is : (at t).turns ≡ 0 → (at t).first ≡ taken
    first_is e = ap (next_lock image) (base_thread t e)

    -- a later turn takes no lock
    none_later : 0 < (at t).turns → taken ≡ None
    none_later some = go taken refl
      where
        go : (o : Option ℕ) → taken ≡ o → taken ≡ None
        go None e = e
        go (Some k) e = absurd (let z = (take_facts image s.core t k may e).0 in omega (arith, z, some))

    lock_now : (k : ℕ) → IsLockAt limits.batch k (of_lock s.history k) later (custody_on taken t k (x_of k))
    lock_now k = elim (takes taken k) [
      | inl e ↦ (let z = (take_facts image s.core t k may e).0 in
          subst (λ y. IsLockAt limits.batch k (of_lock s.history k) later y) (sym (taken_is taken t k (x_of k) e))
          (locked_so limits.batch k (of_lock s.history k) at (x_of k) (is.locks k) t later others_turn (granted_it k e)
          ((λ i. not (some_turn i) && is_lock ((first_is z ∙ e) i) k) ∙ eq_self k) refl))
      | inr ne ↦ subst (λ y. IsLockAt limits.batch k (of_lock s.history k) later y) (sym (taken_other taken t k (x_of k) ne))
          (stays_so limits.batch k (of_lock s.history k) (x_of k) t at later
          (record { others = others_turn; waits = λ v. ne v.next; granted = λ g. ne g.next; fresh = λ h. same_fresh k ne; kind = λ h f. refl }) (is.locks k))
    ]
      where
        same_fresh : (k : ℕ) → taken ≢ Some k → is_fresh k (later t) ≡ is_fresh k (at t)
        same_fresh k ne = ap (λ b. not b && is_lock (at t).first k) some_turn ∙ (elim (eqb_tells (at t).turns 0) [
          | inl h ↦ ap (λ o. is_lock o k) (first_is h.1) ∙ is_lock_other taken k ne ∙ sym (ap (λ b. not b && is_lock (at t).first k) h.0)
          | inr h ↦ sym (ap (λ b. not b && is_lock (at t).first k) h.0)
        ])

    held_now : (k : ℕ) → has (turned.core.course t).held k ≡ locks_of_block (base.threads t).held (at t).first k
    held_now k = ap (λ (y : Course). has y.held k) course_mine ∙ (elim (eqb_tells (at t).turns 0) [
      | inl h ↦ held_with_has (s.core.course t).held (base.threads t).held taken k (before h.1) ∙ ap (λ o. locks_of_block (base.threads t).held o k) (sym (first_is h.1))
      | inr h ↦ (let some : 0 < (at t).turns = omega (arith, h.1) in ap (λ o. has (held_with (s.core.course t).held o) k) (none_later some) ∙ (is.threads t).locks some k)
    ])
      where
        before : (at t).turns ≡ 0 → has (s.core.course t).held k ≡ (base.threads t).held k
        before e = ap (λ o. has (events.held_past (s.core.course t).held o) k) (sym (no_end (s.core.course t).ended may.open_block)) ∙ is.tracks.kept t k ∙ ap (λ (d : Thread). d.held k) (sym (base_thread t e))

    section_now : is_section (at t).kind ≡ is_some (at t).first
    section_now = elim (eqb_tells (at t).turns 0) [ inl h ↦ go h.1 taken refl | inr h ↦ (is.threads t).section (omega (arith, h.1)) ]
      where
        granted_place : (p : LockPlace) → is_granted p t ≡ true → p ≡ Granted t
        granted_place place.Free e = absurd (cc)
        granted_place (With u) e = absurd (cc)
        granted_place (Granted u) e = elim (eqb_tells u t) [ inl h ↦ ap Granted h.1 | inr h ↦ absurd (let f : true ≡ false = sym e ∙ h.0 in cc) ]
        granted_place (Loose v) e = absurd (cc)

        go : (at t).turns ≡ 0 → (o : Option ℕ) → taken ≡ o → is_section (at t).kind ≡ is_some (at t).first
        go none None e = no_section t none (λ k g first. (let f : None ≡ Some k = sym e ∙ g.next in cc)) ∙ sym (ap is_some (first_is none ∙ e))
        go none (Some k) e = (granted_is t k (granted_place (x_of k).place (granted_it k e))).1.kind ∙ sym (ap is_some (first_is none ∙ e))

    thread_turned : (u : ℕ) → IsThreadAt image s.history turned.core.custody u (turned.core.course u).held (s.next u).pc (base.threads u) (later u)
    thread_turned u = elim (eqb_tells u t) [
      | inl h ↦ subst (λ v. IsThreadAt image s.history turned.core.custody v (turned.core.course v).held (s.next v).pc (base.threads v) (later v)) (sym h.1) (record {
        from = (is.threads t).from;
        starts = (is.threads t).starts;
        locks = λ some. held_now;
        section = λ some. section_now;
        granted = λ none f. absurd (omega (arith, none, more));
      })
      | inr h ↦ thread_still image s.core.custody turned.core.custody u (base.threads u) refl (ap (λ (y : Course). y.held) (course_other u h.1)) refl (others_turn u h.1) (still u h.1) (is.threads u)
    ]
      where
        still : (u : ℕ) → u ≢ t → (k : ℕ) → (x_of k).place ≡ Granted u → (custody_on taken t k (x_of k)).place ≡ Granted u
        still u ne k e = elim (takes taken k) [
          | inl f ↦ absurd (let g : is_granted (Granted u) t ≡ true = ap (λ p. is_granted p t) (sym e) ∙ granted_it k f in ne (eqb-true u t g))
          | inr f ↦ ap (λ (y : Custody). y.place) (taken_other taken t k (x_of k) f) ∙ e
        ]

    ruled_turned : Now turned
    ruled_turned = record {
      keeps = keeps_turn image s.core base t may is.keeps;
      tracks = subst (λ y. Tracks y) (turn_is image s.core w t) (tracked_after image limits s.core (Turn w t) on is.keeps.sound is.tracks);
      stamps = is.stamps;
      tells = is.tells;
      workers = is.workers;
      obeys = is.obeys;
      passes = is.passes;
      threads = thread_turned;
      locks = lock_now;
    }

    pub on_turn : Now (write image s (Turn w t))
    unfolding effect
    on_turn = ruled_turned
