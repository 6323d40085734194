-- What running a block makes of a package, and sealing it.
use Rattle.tc_context.proofs.Vocabulary.{◌≡◌, ℕ, ◌-◌, ◌<◌, Bool, true, false, not, ◌||◌, ◌&&◌, List, [], ◌∷◌, ◌++◌, map, length, refl, sym, ap, subst, ◌∙◌, inl, inr, set, arith, Option, Some, None, is_some, if◌then◌else◌, length-set, option_map, has, Shown, is_section, begins, is_lock, takes_of, last_of, may_go_on, ends_section, Block, Thread, is_running}
use Rattle.tc_context.proofs.Vocabulary.{next_lock, LockView, IsStrict, Journal, block_in, blocks_of, with_journal, sealed_block, sealed_as, Entry, map_some, some_map, next_free, State, locks_of_block, reach, Runs, record_takes, block_survives, block_gives, block_inside, in_block, DidRun, slept_at, map-append}
use Rattle.tc_context.proofs.Vocabulary.{length-map, slice_get_within, eq_self, Context, lock_in, when_in, Changed, sealed_all, sealed_in, EachHeld, CanSeal, thread_in, whole, set_of, AreEnded, journal_in, CanGo, RunsAs, entry_of, with_entry, entered, Journals, IsReady, AreReady, PackageView, granted_lock, kind_of, waiting_in, IsReserved, IsPending, IsStored, IsAfter, IsLeft}
use Rattle.tc_context.proofs.Vocabulary.{MayTake, IsSoundPackage, Allows, fits_in, fits_granted, fits_of, WantIsGranted, IsAt, EndsWith, sealed_log, with_seal, Running, last_more, closes_sealed, EachLock, IsUnsealed, Opened, Registers, closed_all, closed_with, entry_from, sealed_with}
use Rattle.tc_journal.specs.Batch.{allows_of, passes_on, may_follow}
use Rattle.tc_mutex_spec.proofs.Leaving.{block_runs, block_next, block_cut, block_releases, block_covered}
use Rattle.tc_journal.specs.History.{IsBlock}
use Rattle.tc_context.proofs.Staging.{both_ways, left_few, rests_as, are_of, idle_at, closed_none, grant_of, goes_on, mapped_at, when_field, locks_ext}
use Rattle.tc_mutex_spec.proofs.Few.{block_few}
use Rattle.tc_context.proofs.Blocked.{record_is}
use Rattle.tc_journal.proofs.Lists.{get-set_same}

-- what a package needs for a block, beside room
pub record MayRun (image : Shown) (p : PackageView) : Type 0 where
  pub is : p.image ≡ image
  pub sound : IsSoundPackage p
  pub rest : p.pending ≡ None
  pub running : p.context.guest.status ≡ Running
  pub want : WantIsGranted image p

entered_stage : (b : Bool) (block : Block) (e : Entry) (i : Journal) → e.block ≡ block → i.opened ≡ None → option_map block_in i.closed ≡ None → (((entered b e i).opened ≡ None) × (option_map block_in (entered b e i).closed ≡ (if b then Some block else None)))
entered_stage b block e i is o c = grind arith

pub entered_rest : (b : Bool) (e : Entry) (i : Journal) → ((entered b e i).sealed ≡ i.sealed) × ((entered b e i).limit ≡ i.limit) × ((entered b e i).strict ≡ i.strict)
entered_rest b e i = (when_field (λ (j : Journal). j.sealed) b (with_entry e) i refl, when_field (λ (j : Journal). j.limit) b (with_entry e) i refl, when_field (λ (j : Journal). j.strict) b (with_entry e) i refl)

-- a lock that isn't of the block wasn't held before it
not_before : (held : ℕ → Bool) (next : Option ℕ) (k : ℕ) → locks_of_block held next k ≡ false → held k ≡ false
not_before held next k out = grind arith

begun_is : (o : Option ℕ) (k : ℕ) → is_lock o k ≡ true → o ≡ Some k
begun_is o k h = grind arith

module _ (image : Shown) (p : PackageView) (m : MayRun image p) where
  abbrev takes : Option ℕ
  takes = next_lock image (thread_in p.context)

  granted_next : (k : ℕ) → takes ≡ Some k → granted_lock p.granted ≡ Some k
  granted_next k next = m.want k (ap (λ s. if is_running s then takes else None) m.running ∙ next)

  -- the locks of the block have rest and room
  pub ready_from : IsReserved p → AreReady p.context
  ready_from reserved k j e =
      let l = map_some journal_in (lock_in p.context.locks k) j e in
      let s = m.sound.stored k l.0 l.1 in
      subst IsReady (sym l.2) (record {
        opened = s.opened;
        closed = closed_none l.0.journal.closed (s.closed ∙ ap (λ o. waiting_in o k) m.rest);
        entry = reserved.entries k l.0 l.1;
        words = reserved.words k l.0 l.1;
      })

  pub can_go : CanGo image p.context
  can_go = grind (arith, are_of)

  -- the kind of a block tells whether it begins a section
  pub kind_section : is_section (kind_of p.granted p.log) ≡ is_some takes
  kind_section = grind arith

  -- a block that begins no section was granted nothing
  no_grant : is_section (kind_of p.granted p.log) ≡ false → kind_of p.granted p.log ≡ kind_of None p.log
  no_grant out = grind arith

  module _ (new : Context) (b : Block) (log : List Block) (slept : ℕ) (places : length new.locks ≡ 32) (runs : RunsAs image p.context new b.turns b.end) (journals : Journals image p.context new b)
      (thread : b.thread ≡ p.context.thread) (kind : b.kind ≡ kind_of p.granted p.log) (logged : log ≡ p.log ++ b ∷ []) where
    abbrev t : ℕ
    t = p.context.thread

    abbrev last : State
    last = reach image (whole p.context) t b.turns

    abbrev ran : PackageView
    ran = record p { context = new; granted = None; pending = Some b; log = log; log_room = p.log_room - 1; slept = slept }

    alone : Runs image (whole p.context) t b.turns b.end last
    alone = (let r = runs.block (whole p.context) (record { thread = refl; locks = λ k h. refl }) in subst (λ x. Runs image (whole p.context) t b.turns b.end x) r.1.last r.1)

    thread_is : thread_in new ≡ last.threads t
    thread_is = (let r = runs.block (whole p.context) (record { thread = refl; locks = λ k h. refl }) in r.2.thread ∙ ap (λ (m : State). m.threads t) r.1.last)

    held_is : (k : ℕ) → has new.guest.held k ≡ (last.threads t).held k
    held_is k = ap (λ (d : Thread). d.held k) thread_is

    held_locks : (k : ℕ) → has new.guest.held k ≡ true → has b.held k ≡ true
    held_locks k h = journals.held k ∙ block_covered image (whole p.context) last t b.turns b.end alone k (sym (held_is k) ∙ h)

    -- what is held after the block is what the block had and didn't give up
    held_after : (k : ℕ) → has new.guest.held k ≡ (has b.held k && not (ends_section k b))
    held_after k = by (has b.held k) (has new.guest.held k) refl refl
      where
        by : (v w : Bool) → has b.held k ≡ v → has new.guest.held k ≡ w → w ≡ (v && not (ends_section k b))
        by false false out free = refl
        by false true out h = absurd (both_ways _ out (held_locks k h))
        by true true mine h = (let s = block_survives image (whole p.context) last t b.turns b.end alone k (sym (held_is k) ∙ h) in λ i. not (sym s.0 i || sym s.1 i))
        by true false mine free = ap not (sym (block_gives image (whole p.context) last t b.turns b.end alone k (sym (journals.held k) ∙ mine) (sym (held_is k) ∙ free)))

    ran_after : IsAfter p.image new b
    ran_after = record {
      thread = thread ∙ sym runs.keeps.thread;
      runs = ap (λ (d : Thread). is_running d.status) thread_is ∙ block_runs image (whole p.context) last t b.turns b.end alone;
      next = λ k e. (λ i. next_lock (m.is i) (thread_is i)) ∙ block_next image (whole p.context) last t b.turns b.end alone k e;
      cut = λ e. (λ i. next_lock (m.is i) (thread_is i)) ∙ block_cut image (whole p.context) last t b.turns b.end alone e;
      held = held_after;
      released = λ k e. journals.held k ∙ block_releases image (whole p.context) last t b.turns b.end alone k e;
      few = block_few image (thread_in p.context) b.held journals.held (left_few p.image p.context (last_of p.log) m.sound.left);
    }

    section : is_section b.kind ≡ is_some takes
    section = ap is_section kind ∙ kind_section

    begun_next : (k : ℕ) → begins k b ≡ true → takes ≡ Some k
    begun_next k begun = sym (record_takes image (whole p.context) b (record_is image p.context b can_go journals.held section)) ∙ begun_is (takes_of b) k begun

    -- lock k of the package as it was before
    was : (k : ℕ) (l : LockView) → lock_in new.locks k ≡ Some l → (x : LockView) × (lock_in p.context.locks k ≡ Some x) × (l.journal ≡ entered (has b.held k) (entry_of image k (whole p.context) b) x.journal)
    was k l e = grind arith

    sealed_was : (k : ℕ) (l x : LockView) → l.journal ≡ entered (has b.held k) (entry_of image k (whole p.context) b) x.journal → (l.journal.sealed ≡ x.journal.sealed) × (l.journal.limit ≡ x.journal.limit) × (l.journal.strict ≡ x.journal.strict)
    sealed_was k l x e = (let rest = entered_rest (has b.held k) (entry_of image k (whole p.context) b) x.journal in (ap (λ (j : Journal). j.sealed) e ∙ rest.0, ap (λ (j : Journal). j.limit) e ∙ rest.1, ap (λ (j : Journal). j.strict) e ∙ rest.2))

    -- a lock that was passed on was so by its grant
    passed : (k : ℕ) (x : LockView) → lock_in p.context.locks k ≡ Some x → IsStrict x → (w : Bool) → begins k b ≡ w → passes_on k (blocks_of x) b ≡ true
    unfolding passes_on
    passed k x e strict w out = grind (arith, begun_next)

    pending_at : (k : ℕ) (l x : LockView) → lock_in p.context.locks k ≡ Some x → l.journal.sealed ≡ x.journal.sealed → l.journal.strict ≡ x.journal.strict → IsPending b k l
    pending_at k l x e sealed same = record {
      rests = λ out. rests_as k x l sealed ((idle_at p k x m.sound m.rest e).rests (not_before (has p.context.guest.held) takes k (sym (journals.held k) ∙ out)));
      on = λ h none.
          (let held : has p.context.guest.held k ≡ true = elim (in_block (has p.context.guest.held) takes k (sym (journals.held k) ∙ h)) [
            | inl before ↦ before
            | inr took ↦ absurd (both_ways _ (ap (λ o. is_lock o k) (sym (record_takes image (whole p.context) b (record_is image p.context b can_go journals.held section) ∙ took)) ∙ none) (eq_self k))
          ] in
          (λ i. may_go_on k (last_of (map block_in (sealed i))) (thread i)) ∙ goes_on p k x m.sound m.rest held e);
      passes = λ strict h. ap (λ y. passes_on k (map block_in y) b) sealed ∙ passed k x e (sym same ∙ strict) (begins k b) refl;
    }

    ran_stored : (k : ℕ) (l : LockView) → lock_in new.locks k ≡ Some l → IsStored ran k l
    ran_stored k l e =
        let x = was k l e in
        let s = m.sound.stored k x.0 x.1 in
        let of = runs.keeps.of p.image (are_of p m.sound) k l e in
        let stage = entered_stage (has b.held k) b (entry_of image k (whole p.context) b) x.0.journal refl s.opened (s.closed ∙ ap (λ o. waiting_in o k) m.rest) in
        record {
          number = of.number;
          known = of.known;
          of = of.of;
          turn = s.turn;
          opened = ap (λ (i : Journal). i.opened) x.2 ∙ stage.0;
          closed = ap (λ (i : Journal). option_map block_in i.closed) x.2 ∙ stage.1;
          at = (let same = sealed_was k l x.0 x.2 in pending_at k l x.0 x.1 same.0 same.2);
        }

    pub last_is : last_of log ≡ Some b
    last_is = ap last_of logged ∙ last_more p.log b

    pub sound_ran : IsSoundPackage ran
    sound_ran = record {
      few = m.sound.few;
      places = (places, m.sound.places.1);
      thread = rw runs.keeps.thread m.sound.thread;
      held = λ k h. runs.keeps.set k ∙ block_inside image (set_of p.context) (thread_in p.context) can_go.covers k (sym (journals.held k) ∙ held_locks k h);
      stored = ran_stored;
      left = subst (IsLeft p.image new) (sym last_is) ran_after;
      grant = tt;
      log = last_is;
      alone = λ h. refl;
    }

    -- the last entry of each lock that the thread still holds is the block's
    pub ran_ended : AreEnded new
    ran_ended k l found h = grind (arith, thread_is)

    -- a package that fits a worker runs a block that the batch rule allows with this worker
    fits_allows : (worker : ℕ) → fits_of p worker ≡ true → Allows new b worker
    unfolding allows_of
    fits_allows worker fits k l begun found =
        let g = grant_of p.image p.context p.granted k m.sound.grant (granted_next k (begun_next k begun)) in
        let x = was k l found in
        let same = sealed_was k l x.0 x.2 in
        (λ i. allows_of k (same.1 i) (map block_in (same.0 i)) ((kind ∙ ap (λ o. kind_of o p.log) g.1) i) worker)
        ∙ (λ i. fits_in (sym x.1 i) k g.0.kind worker) ∙ ap (λ n. fits_in (lock_in p.context.locks n) n g.0.kind worker) (sym g.2)
        ∙ ap (λ o. fits_granted p.context o worker) (sym g.1) ∙ fits

    pub did_run : (old : PackageView) → p ≡ old → b.pc ≡ (thread_in p.context).regs.pc → IsBlock b → slept ≡ slept_at image (whole p.context) p.context.thread (b.turns - 1) → DidRun image old ran
    did_run old same at bounds sleeps = subst (λ v. DidRun image v ran) same (record {
      block = b;
      pending = refl;
      bounds = bounds;
      thread = thread;
      kind = kind;
      first = λ out. kind ∙ no_grant (ap is_section (sym kind) ∙ out);
      section = section;
      pc = at;
      held = journals.held;
      covers = can_go.covers;
      rests = λ k l next e. (idle_at p k l m.sound m.rest e).rests (next_free image (thread_in p.context) k next);
      sound = sound_ran;
      runs = runs;
      journals = journals;
      slept = sleeps;
      fits = fits_allows;
      log = logged;
      granted = refl;
      image_is = refl;
      numbers = refl;
      turns = refl;
      room = refl;
    })

-- the pending block is the last of the log
pub record IsLast (p : PackageView) : Type 0 where
  pub block : Block
  pub pending : p.pending ≡ Some block
  pub last : last_of p.log ≡ Some block
  pub some : 0 < length p.log

pub pending_last : (p : PackageView) → IsSoundPackage p → is_some p.pending ≡ true → IsLast p
pending_last p sound some = grind (arith, slice_get_within)

-- the batch rule lets the pending block follow, where it allows the section that the block began
pub block_follows : (p : PackageView) (b : Block) (stamp worker : ℕ) → IsSoundPackage p → p.pending ≡ Some b → Allows p.context b worker → (k : ℕ) (l : LockView) → lock_in p.context.locks k ≡ Some l → has b.held k ≡ true
    → may_follow k l.journal.limit (blocks_of l) (sealed_block stamp worker b) ≡ true
unfolding may_follow
block_follows p b stamp worker sound pending allows k l found h =
    let ran : IsPending b k l = subst (λ x. IsAt x p k l) pending (sound.stored k l found).at in
    let before = blocks_of l in
    (elim (begins k b) as (λ v. begins k b ≡ v → (if v then allows_of k l.journal.limit before b.kind worker else may_go_on k (last_of before) b.thread) ≡ true) [ true ↦ λ begun. allows k l begun found | false ↦ ran.on h ]) refl

-- its stamp and worker don't count for the section that was passed on to it
pub block_passes : (p : PackageView) (b : Block) (stamp worker : ℕ) → IsSoundPackage p → p.pending ≡ Some b → (k : ℕ) (l : LockView) → lock_in p.context.locks k ≡ Some l → IsStrict l → has b.held k ≡ true → passes_on k (blocks_of l) (sealed_block stamp worker b) ≡ true
unfolding passes_on
block_passes p b stamp worker sound pending k l found strict h = (subst (λ x. IsAt x p k l) pending (sound.stored k l found).at).passes strict h

-- so the entry of each of its locks may be sealed
pub may_seal : (p : PackageView) (b : Block) (stamp worker : ℕ) (regs : Registers) (locks : List (Option LockView)) → IsSoundPackage p → p.pending ≡ Some b → p.context.locks ≡ closed_all b regs locks → EachLock (IsUnsealed b regs) locks → Allows p.context b worker
    → EachHeld (has b.held) (CanSeal (sealed_block stamp worker b) regs) locks
may_seal p b stamp worker regs locks sound pending is unsealed allows k l found h =
    let u = unsealed k l found in
    let x : LockView = with_journal (closed_with b regs) l in
    let seen : lock_in p.context.locks k ≡ Some x = ap (λ s. lock_in s k) is ∙ mapped_at (with_journal (closed_with b regs)) locks k ∙ ap (option_map (with_journal (closed_with b regs))) found in
    let s = sound.stored k x seen in
    record {
      opened = u.opened h;
      ended = u.ended h;
      closes = λ o e. closes_sealed stamp worker l b regs o (u.closes h o e);
      follows = λ e has_e. (let c = entry_block (sealed_block stamp worker b) regs l.journal.opened e has_e in λ i. may_follow (s.number i) l.journal.limit (blocks_of l) (sealed_block stamp worker (c i))) ∙ block_follows p b stamp worker sound pending allows k x seen h;
      passes = λ e has_e strict. (let c = entry_block (sealed_block stamp worker b) regs l.journal.opened e has_e in λ i. passes_on (s.number i) (blocks_of l) (c i)) ∙ block_passes p b stamp worker sound pending k x seen strict h;
    }
  where
    entry_block : (c : Block) (regs : Registers) (o : Option Opened) (e : Entry) → option_map (entry_from c regs) o ≡ Some e → e.block ≡ c
    entry_block c regs o e is = grind arith

pub sealed_at : (stamp worker : ℕ) (locks : List (Option LockView)) (k : ℕ) → lock_in (sealed_all stamp worker locks) k ≡ option_map (with_journal (sealed_as stamp worker)) (lock_in locks k)
sealed_at stamp worker locks = mapped_at (with_journal (sealed_as stamp worker)) locks

pub seal_set : (stamp worker : ℕ) (p : PackageView) (k : ℕ) → set_of (with_seal stamp worker p).context k ≡ set_of p.context k
seal_set stamp worker p k = ap is_some (sealed_at stamp worker p.context.locks k) ∙ some_map (with_journal (sealed_as stamp worker)) (lock_in p.context.locks k)

last_set : (xs : List Block) (b y : Block) → last_of xs ≡ Some b → last_of (set xs (length xs - 1) y) ≡ Some y
last_set xs b y is = grind (arith, length-set, get-set_same, slice_get_within)

module _ (p : PackageView) (b : Block) (stamp worker : ℕ) (sound : IsSoundPackage p) (pending : p.pending ≡ Some b) where
  abbrev q : PackageView
  q = with_seal stamp worker p

  abbrev c : Block
  c = sealed_block stamp worker b

  -- it is the last of the log
  pub seal_last : last_of q.log ≡ Some c
  seal_last = ap (λ o. last_of (sealed_log stamp worker p.log o)) pending ∙ last_set p.log b c (subst (EndsWith p.log) pending sound.log)

  abbrev seal : LockView → LockView
  seal = with_journal (sealed_as stamp worker)

  left_was : IsAfter p.image p.context b
  left_was = subst (IsLeft p.image p.context) (subst (EndsWith p.log) pending sound.log) sound.left

  -- and of each of its locks
  last_there : (k : ℕ) (x : LockView) → IsStored p k x → has b.held k ≡ true → last_of (blocks_of (seal x)) ≡ Some c
  last_there k x s h = grind (arith, map-append, last_more)

  sealed_here : (k : ℕ) (x : LockView) → IsStored p k x → IsStored q k (seal x)
  sealed_here k x s = grind (arith, seal_last, last_there)

  pub sealed_sound : IsSoundPackage q
  sealed_sound = record {
    few = sound.few;
    places = (length-map p.context.locks (option_map seal) ∙ sound.places.0, sound.places.1);
    thread = sound.thread;
    held = λ k h. seal_set stamp worker p k ∙ sound.held k h;
    stored = λ k l e. (let x = map_some seal (lock_in p.context.locks k) l (sym (sealed_at stamp worker p.context.locks k) ∙ e) in subst (IsStored q k) (sym x.2) (sealed_here k x.0 (sound.stored k x.0 x.1)));
    left = subst (IsLeft p.image q.context) (sym seal_last) (record { thread = left_was.thread; runs = left_was.runs; next = left_was.next; cut = left_was.cut; held = left_was.held; released = left_was.released; few = left_was.few });
    grant = subst (MayTake p.image q.context) (sym (sound.alone (ap is_some pending))) tt;
    log = tt;
    alone = λ h. absurd (cc);
  }

-- the locks of the pending block are closed and sealed at once, which is to seal what is seen as closed; in another one no entry is open
module _ (b : Block) (stamp worker : ℕ) (regs : Registers) (old new : List (Option LockView)) (unsealed : EachLock (IsUnsealed b regs) old) (changed : Changed (sealed_in (has b.held) (sealed_block stamp worker b) regs) old new) where
  one : (k : ℕ) (l : LockView) → IsUnsealed b regs k l → (v : Bool) → has b.held k ≡ v → when_in v (with_journal (sealed_with (sealed_block stamp worker b) regs)) l ≡ with_journal (sealed_as stamp worker) (with_journal (closed_with b regs) l)
  one k l u v h = grind arith

  each : (k : ℕ) (o : Option LockView) → lock_in old k ≡ o → option_map (sealed_in (has b.held) (sealed_block stamp worker b) regs k) o ≡ option_map (with_journal (sealed_as stamp worker)) (option_map (with_journal (closed_with b regs)) o)
  each k o e = grind (arith, one)

  pub seal_each : Changed (λ k. with_journal (sealed_as stamp worker)) (closed_all b regs old) new
  seal_each k = changed k ∙ each k (lock_in old k) refl ∙ ap (option_map (with_journal (sealed_as stamp worker))) (sym (mapped_at (with_journal (closed_with b regs)) old k))

-- with its locks and its log sealed, the package is sealed
pub seal_is : (p : PackageView) (l : IsLast p) (stamp worker len room : ℕ) (log : List Block) (locks : List (Option LockView)) → IsSoundPackage p → len ≡ length p.log → length locks ≡ 32
    → Changed (λ k. with_journal (sealed_as stamp worker)) p.context.locks locks → log ≡ set p.log (len - 1) (sealed_block stamp worker l.block) → room ≡ p.log_room
    → record p { context = record { thread = p.context.thread; guest = p.context.guest; locks = locks }; pending = None; log = log; log_room = room } ≡ with_seal stamp worker p
seal_is p l stamp worker len room log locks sound count places changed logged roomy =
    let same = locks_ext locks (sealed_all stamp worker p.context.locks) (places ∙ sym sound.places.0 ∙ sym (length-map p.context.locks (option_map (with_journal (sealed_as stamp worker))))) (λ k. changed k ∙ sym (sealed_at stamp worker p.context.locks k)) in
    λ i. record p { context = record { thread = p.context.thread; guest = p.context.guest; locks = same i }; pending = None; log = (logged ∙ ap (λ n. set p.log (n - 1) (sealed_block stamp worker l.block)) count ∙ ap (sealed_log stamp worker p.log) (sym l.pending)) i; log_room = roomy i }
