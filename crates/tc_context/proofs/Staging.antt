-- What a package keeps, through each of its calls.
use Rattle.std.proofs.Common.{◌≡◌, ℕ, ◌<◌, ◌≤◌, true, false, not, ◌||◌, ◌&&◌, ◌==◌, List, map, filter, length, refl, sym, ap, subst, ◌∙◌, arith, inl, inr, Option, Some, None, IfSome, is_some, slice_index_or, set, if◌then◌else◌, length-set, get_or-set_same, get_or-set_other, vec_len, vec_capacity}
use Rattle.tc_context.proofs.Vocabulary.{option_map, has, Shown, is_section, last_of, may_go_on, ends_section, Block, Thread, is_running, next_lock, LockView, IsAtRest, kept, block_in, blocks_of, Context, lock_in, AreOf, Changed, IsPlaced, SameLocks, thread_in, set_of, PackageView, granted_lock, eqb_tells, Entry, locks_of, next_free, next_known, next_by_own, Grant}
use Rattle.tc_context.proofs.Vocabulary.{running_is, eq_self, Kind, want_of, number_in, waiting_in, IsNumber, IsFresh, EndsSection, IsIdle, IsAt, IsStored, IsLeft, EndsWith, IsGranted, MayPassTo, MayTake, IsSoundPackage, IsWanted, LastIsSealed, IsWaiting, IsRoomier, with_grant, without_lock, guest_in, locks_with, pending_in, context_with, view_of, view_with, KeptPackage, AreEnded, EachLock}
use Rattle.tc_context.proofs.Vocabulary.{HasRoomFor, MAX_TURNS, IsUnsealed, Closes, Registers, closed_with, shut, with_journal, length-map, MAX_HELD, Contents}
use Rattle.std.specs.List.{range_with_len}
use Rattle.tc_turn.proofs.Few.{fewer}
pub use Rattle.std.proofs.lemmas.Bool.{and_parts, both_ways}
use Rattle.tc_journal.specs.Handing.{was_cut}
pub use Rattle.tc_mutex_spec.proofs.OptionLaws.{map_some, some_map, some_of, option_map-twice, then_some, else_some}
pub use Rattle.tc_context.proofs.LockList.{mapped_at, with_locks, put_place, locks_ext, when_field}

-- the contents of a box are those that the package shows
pub record Shows (a : Contents) (v : PackageView) : Type 0 where
  pub is : view_of a ≡ v
  pub kept : KeptPackage a

pub shows : {a b : Contents} {v : PackageView} → a ≡ b → view_of b ≡ v → KeptPackage b → Shows a v
shows same is kept = record { is = ap view_of same ∙ is; kept = subst KeptPackage (sym same) kept }

-- contents in which no block is pending, as they are seen
pub record Rests (a : Contents) (v : PackageView) : Type 0 where
  pub none : pending_in a.pending a.log.items ≡ None
  pub is : view_with None a ≡ v
  pub sound : IsSoundPackage (view_with None a)
  pub ended : AreEnded (context_with None a)

pub rests : {a : Contents} {v : PackageView} → Shows a v → v.pending ≡ None → Rests a v
rests {a} {v} s rest = grind arith

-- contents whose thread has its own memory, as they are
abbrev pub bare_view : Contents → PackageView
bare_view a = record (view_with None a) { context = a.context }

pub bare : (a : Contents) → a.first ≡ None → bare_view a ≡ view_with None a
bare a none = ap (λ first. record (view_with None a) { context = record { thread = a.context.thread; guest = guest_in first a.context.guest; locks = a.context.locks } }) (sym none)

-- contents with room for a block, in which the thread has its own memory
pub record Ready (a : Contents) (v : PackageView) : Type 0 where
  pub none : a.first ≡ None
  pub room : vec_len a.log < vec_capacity a.log
  pub is : bare_view a ≡ v
  pub sound : IsSoundPackage (bare_view a)
  pub next : a.next ≡ next_lock a.of.value (thread_in a.context)
  pub ended : AreEnded a.context

pub ready : (a : Contents) (v : PackageView) → Shows a v → v.pending ≡ None → 0 < v.log_room → Ready a v
ready a v s rest reserved =
    let some = subst (λ (v : PackageView). 0 < v.log_room) (sym s.is) reserved in
    let room : vec_len a.log < vec_capacity a.log = omega (arith, some) in
    let none = s.kept.own room in
    let r = rests s rest in
    record {
      none = none;
      room = room;
      is = bare a none ∙ r.is;
      sound = subst IsSoundPackage (sym (bare a none)) r.sound;
      next = s.kept.next ∙ next_by_own a.of.value _ (thread_in a.context);
      ended = subst (λ (x : PackageView). AreEnded x.context) (sym (bare a none)) r.ended;
    }

-- so is what a block makes of them, as it is seen
pub ran_seen : (P : PackageView → Type 0) (a : Contents) (new : Context) (b : Block) (log : List Block) (room now slept : ℕ) → a.first ≡ None → now ≡ room → last_of log ≡ Some b
    → P (record (bare_view a) { context = shut b new; granted = None; pending = Some b; log = log; log_room = room; slept = slept })
    → P (record (bare_view a) { context = record { thread = new.thread; guest = guest_in a.first new.guest; locks = locks_with (last_of log) new.guest.regs new.locks }; granted = None; pending = last_of log; log = log; log_room = now; slept = slept })
ran_seen P a new b log room now slept none same last ran = grind arith

-- a lock rests by its sealed entries alone
pub rests_as : (k : ℕ) (x l : LockView) → l.journal.sealed ≡ x.journal.sealed → EndsSection k x → EndsSection k l
rests_as k x l e rests = subst (λ s. IfSome (last_of (map block_in s)) (λ b. ends_section k b ≡ true)) (sym e) rests

-- what follows from what a package keeps
pub are_of : (p : PackageView) → IsSoundPackage p → AreOf p.image p.context.locks
are_of p sound k l e = (let s = sound.stored k l e in record { number = s.number; known = s.known; of = s.of })

-- each lock in it has a place
pub place_small : (p : PackageView) (k : ℕ) → IsSoundPackage p → set_of p.context k ≡ true → k < 32
place_small p k sound here = (let l = some_of (lock_in p.context.locks k) here in let known = (sound.stored k l.0 l.1).known in omega (arith, known, sound.few))

-- where no block is pending
pub idle_at : (p : PackageView) (k : ℕ) (l : LockView) → IsSoundPackage p → p.pending ≡ None → lock_in p.context.locks k ≡ Some l → IsIdle p k l
idle_at p k l sound rest e = subst (λ x. IsAt x p k l) rest (sound.stored k l e).at

pub last_sealed : (p : PackageView) → IsSoundPackage p → LastIsSealed p
last_sealed p sound rest none b is k l e h = (idle_at p k l sound rest e).last b is h (λ f. (let g : None ≡ Some k = ap granted_lock (sym none) ∙ f in cc))

pub closed_none : (o : Option Entry) → option_map block_in o ≡ None → o ≡ None
closed_none o e = grind arith

-- a lock that the thread doesn't hold may lie at home
pub at_rest : (p : PackageView) (k : ℕ) (l : LockView) → IsSoundPackage p → p.pending ≡ None → has p.context.guest.held k ≡ false → lock_in p.context.locks k ≡ Some l → IsAtRest p.image k l
at_rest p k l sound rest free e =
    let s = sound.stored k l e in
    record { number = s.number; of = s.of; opened = s.opened; closed = closed_none l.journal.closed (s.closed ∙ ap (λ o. waiting_in o k) rest); ended = (idle_at p k l sound rest e).rests free }

pub wanted : (p : PackageView) → IsSoundPackage p → (k : ℕ) → want_of p.image p.context ≡ Some k → IsWanted p k
wanted p sound k e =
    let w = then_some (is_running p.context.guest.status) (next_lock p.image (thread_in p.context)) k e in
    let known = next_known p.image (thread_in p.context) k w.1 in
    record { runs = running_is p.context.guest.status w.0; free = next_free p.image (thread_in p.context) k w.1; known = known; small = omega (arith, known, sound.few) }

-- the grant of a lock that was granted
pub grant_of : (image : Shown) (p : Context) (o : Option Grant) (k : ℕ) → MayTake image p o → granted_lock o ≡ Some k → (g : Grant) × (o ≡ Some g) × (g.lock ≡ k) × IsGranted image p g
grant_of image p o k may e = grind arith

-- the thread is in the middle of the section of each lock that it holds
pub goes_on : (p : PackageView) (k : ℕ) (l : LockView) → IsSoundPackage p → p.pending ≡ None → has p.context.guest.held k ≡ true → lock_in p.context.locks k ≡ Some l → may_go_on k (last_of (blocks_of l)) p.context.thread ≡ true
goes_on p k l sound rest h e = by (last_of p.log) refl sound.left
  where
    by : (o : Option Block) → last_of p.log ≡ o → IsLeft p.image p.context o → may_go_on k (last_of (blocks_of l)) p.context.thread ≡ true
    by None is left = absurd (both_ways _ (left.held k) h)
    by (Some b) is left =
        let parts = and_parts (has b.held k) (not (ends_section k b)) (sym (left.held k) ∙ h) in
        let ungranted = λ (f : granted_lock p.granted ≡ Some k). (let g = grant_of p.image p.context p.granted k sound.grant f in both_ways _ (next_free p.image (thread_in p.context) k (g.3.next ∙ ap Some g.2)) h) in
        ap (λ o. may_go_on k o p.context.thread) ((idle_at p k l sound rest e).last b is parts.0 ungranted)
        ∙ (λ i. parts.1 i && (left.thread i == p.context.thread)) ∙ eq_self p.context.thread

-- the thread of a package holds no more locks than a thread may hold
pub left_few : (image : Shown) (p : Context) (o : Option Block) → IsLeft image p o → length (filter (has p.guest.held) (range_with_len 0 32)) ≤ MAX_HELD
unfolding locks_of
left_few image p None l =
    let le = fewer (has p.guest.held) (λ k. false) (λ k h. absurd (let free = l.held k in cc)) (range_with_len 0 32) in
    let none : length (filter (λ (k : ℕ). false) (range_with_len 0 32)) ≡ 0 = refl in
    omega arith
left_few image p (Some b) l =
    let le = fewer (has p.guest.held) (has b.held) (λ k h. (and_parts _ _ (sym (l.held k) ∙ h)).0) (range_with_len 0 32) in
    let few = l.few in
    omega arith

-- a package in which nothing ran
pub fresh_sound : (image : Shown) (t fuel : ℕ) (p : PackageView) → IsFresh image t fuel p → t < length image.entries → length image.guards ≤ 32 → length p.context.locks ≡ 32 → length p.numbers ≡ 32 → IsSoundPackage p
fresh_sound image t fuel p fresh lt few places numbers =
    let none : (k : ℕ) → has p.context.guest.held k ≡ false = (λ k. ap (λ (d : Thread). d.held k) fresh.thread) in
    record {
      few = rw fresh.image_is few;
      places = (places, numbers);
      thread = rw fresh.image_is (rw fresh.number lt);
      held = λ k h. absurd (both_ways _ (none k) h);
      stored = λ k l e. absurd (let f : None ≡ Some l = sym (fresh.locks k) ∙ e in cc);
      left = subst (λ x. IsLeft p.image p.context (last_of x)) (sym fresh.log) (record { runs = ap (λ (d : Thread). d.status) fresh.thread; held = none });
      grant = subst (λ x. MayTake p.image p.context x) (sym fresh.granted) tt;
      log = subst (λ x. EndsWith p.log x) (sym fresh.pending) tt;
      alone = λ h. fresh.granted;
    }

-- what wants a lock was not cut
pub wants_uncut : (q : PackageView) (k : ℕ) → IsSoundPackage q → want_of q.image q.context ≡ Some k → was_cut (last_of q.log) ≡ false
wants_uncut q k sound want = grind arith

-- with other locks
left_as : (image : Shown) (p : Context) (locks : List (Option LockView)) (o : Option Block) → IsLeft image p o → IsLeft image (with_locks p locks) o
left_as image p locks o left = grind arith

-- with other rooms
abbrev pub with_rooms : PackageView → List (Option LockView) → ℕ → ℕ → PackageView
with_rooms p locks room turns = record p { context = with_locks p.context locks; log_room = room; turns = turns }

pub changed_set : (f : ℕ → LockView → LockView) (old new : List (Option LockView)) → Changed f old new → (k : ℕ) → is_some (lock_in new k) ≡ is_some (lock_in old k)
changed_set f old new changed k = ap is_some (changed k) ∙ some_map (f k) (lock_in old k)

-- one lock more, or less
pub set_with : (n m : ℕ) (l : LockView) (old new : List (Option LockView)) (was now : ℕ) → m ≡ n → IsPlaced n (Some l) old new → ((k : ℕ) → has now k ≡ ((k == m) || has was k)) → ((k : ℕ) → is_some (lock_in old k) ≡ has was k)
    → (k : ℕ) → is_some (lock_in new k) ≡ has now k
set_with n m l old new was now is placed plus same k = grind arith

pub set_without : (n : ℕ) (old new : List (Option LockView)) (was now : ℕ) → IsPlaced n None old new → ((k : ℕ) → has now k ≡ (not (k == n) && has was k)) → ((k : ℕ) → is_some (lock_in old k) ≡ has was k)
    → (k : ℕ) → is_some (lock_in new k) ≡ has now k
set_without n old new was now placed less same k = grind arith

pub lock_was : (o p : Option LockView) (l : LockView) → option_map kept p ≡ option_map kept o → p ≡ Some l → (x : LockView) × (o ≡ Some x) × (kept l ≡ kept x)
lock_was o p l same e = map_some kept o (kept l) (sym same ∙ ap (option_map kept) e)

-- the same locks are there
pub same_set : (old new : List (Option LockView)) → SameLocks old new → (k : ℕ) → is_some (lock_in new k) ≡ is_some (lock_in old k)
same_set old new same k = sym (some_map kept (lock_in new k)) ∙ ap is_some (same k) ∙ some_map kept (lock_in old k)

pub roomier_set : (p q : PackageView) (k : ℕ) → IsRoomier p q → set_of q.context k ≡ set_of p.context k
roomier_set p q k roomier = same_set p.context.locks q.context.locks roomier.locks k

-- so it is as they are seen
pub same_seen : (o : Option Block) (regs : Registers) (old new : List (Option LockView)) → SameLocks old new → SameLocks (locks_with o regs old) (locks_with o regs new)
same_seen None regs old new same k = same k
same_seen (Some b) regs old new same k =
    let g = with_journal (closed_with b regs) in
    let outer = option_map-twice g kept (λ l. kept (g l)) in
    let inner = option_map-twice kept g (λ l. kept (g l)) in
    ap (option_map kept) (mapped_at g new k) ∙ outer (lock_in new k) (λ l. refl) ∙ sym (inner (lock_in new k) (λ l. refl)) ∙ ap (option_map g) (same k)
    ∙ inner (lock_in old k) (λ l. refl) ∙ sym (outer (lock_in old k) (λ l. refl)) ∙ sym (ap (option_map kept) (mapped_at g old k))

pub seen_places : (o : Option Block) (regs : Registers) (locks : List (Option LockView)) → length locks ≡ 32 → length (locks_with o regs locks) ≡ 32
seen_places o regs locks full = grind (arith, length-map)

-- what each lock has room for it has room for as it is seen
pub roomy_seen : (o : Option Block) (regs : Registers) (locks : List (Option LockView)) → EachLock (λ k l. HasRoomFor MAX_TURNS l.journal) locks → EachLock (λ k l. HasRoomFor MAX_TURNS l.journal) (locks_with o regs locks)
roomy_seen None regs locks each k l e = each k l e
roomy_seen (Some b) regs locks each k l e =
    let g = with_journal (closed_with b regs) in
    let x = map_some g (lock_in locks k) l (sym (mapped_at g locks k) ∙ e) in
    let room = each k x.0 x.1 in
    subst (λ (y : LockView). HasRoomFor MAX_TURNS y.journal) (sym x.2) (record { entry = room.entry; words = room.words })

-- nor does a block that isn't sealed ask more of them
unsealed_as : (b : Block) (regs : Registers) (k : ℕ) (x l : LockView) → kept l ≡ kept x → IsUnsealed b regs k x → IsUnsealed b regs k l
unsealed_as b regs k x l same u = record {
  closed = ap (λ (y : LockView). y.journal.closed) same ∙ u.closed;
  others = λ out. ap (λ (y : LockView). y.journal.opened) same ∙ u.others out;
  opened = λ h. ap (λ (y : LockView). is_some y.journal.opened) same ∙ u.opened h;
  ended = λ h e. ap (λ (y : LockView). y.broken) same ∙ u.ended h e;
  closes = λ h o e.
      (let c = u.closes h o (sym (ap (λ (y : LockView). y.journal.opened) same) ∙ e) in
      let d = subst (λ (y : LockView). Closes y b regs o) (sym same) (record { replays = c.replays; lock = c.lock }) in
      record { replays = d.replays; lock = d.lock });
}

pub unsealed_rooms : (b : Block) (was now : Registers) (old new : List (Option LockView)) → now ≡ was → SameLocks old new → EachLock (IsUnsealed b was) old → EachLock (IsUnsealed b now) new
unsealed_rooms b was now old new is same each k l e =
    let x = lock_was (lock_in old k) (lock_in new k) l (same k) e in
    subst (λ regs. IsUnsealed b regs k l) (sym is) (unsealed_as b was k x.0 l x.2 (each k x.0 x.1))

-- nor does the number of queue turns count
pub sound_rooms : (p : PackageView) (locks : List (Option LockView)) (room turns : ℕ) → length locks ≡ 32 → SameLocks p.context.locks locks → IsSoundPackage p → IsSoundPackage (with_rooms p locks room turns)
sound_rooms p locks room turns places same sound = record {
  few = sound.few;
  places = (places, sound.places.1);
  thread = sound.thread;
  held = λ k h. same_set p.context.locks locks same k ∙ sound.held k h;
  stored = λ k l e.
      (let x = lock_was (lock_in p.context.locks k) (lock_in locks k) l (same k) e in
      let was = sound.stored k x.0 x.1 in
      record {
        number = ap (λ (y : LockView). y.number) x.2 ∙ was.number;
        known = was.known;
        of = ap (λ (y : LockView). y.journal.image) x.2 ∙ was.of;
        turn = was.turn;
        opened = ap (λ (y : LockView). y.journal.opened) x.2 ∙ was.opened;
        closed = ap (λ (y : LockView). option_map block_in y.journal.closed) x.2 ∙ was.closed;
        at = at p.pending k x.0 l (ap (λ (y : LockView). y.journal.sealed) x.2) (ap (λ (y : LockView). y.journal.strict) x.2) was.at;
      });
  left = left_as p.image p.context locks (last_of p.log) sound.left;
  grant = taking p.granted sound.grant;
  log = sound.log;
  alone = sound.alone;
}
  where
    taking : (o : Option Grant) → MayTake p.image p.context o → MayTake p.image (with_locks p.context locks) o
    taking o may = grind arith

    at : (b : Option Block) (k : ℕ) (x l : LockView) → l.journal.sealed ≡ x.journal.sealed → l.journal.strict ≡ x.journal.strict → IsAt b p k x → IsAt b (with_rooms p locks room turns) k l
    at b k x l s is idle = grind arith

-- the lock at each place
pub placed : (p : PackageView) (n : ℕ) (o : Option LockView) → IsSoundPackage p → n < 32 → (k : ℕ) → lock_in (set p.context.locks n o) k ≡ (if k == n then o else lock_in p.context.locks k)
placed p n o sound lt k = (let full = sound.places.0 in put_place p.context.locks n o k (omega (arith, full, lt)))

-- a lock that stays in a package where nothing is granted
stays_stored : (p : PackageView) (locks : List (Option LockView)) (granted : Option Grant) (numbers : List ℕ) (k : ℕ) (l : LockView) → p.granted ≡ None → p.pending ≡ None → slice_index_or numbers k 0 ≡ number_in p k → IsStored p k l → IsStored (record p { context = with_locks p.context locks; granted = granted; numbers = numbers }) k l
stays_stored p locks granted numbers k l none rest number s = grind arith

pub granted_sound : (p : PackageView) (lock : LockView) (kind : Kind) (number : ℕ) → IsSoundPackage p → IsWaiting p lock.number → IsAtRest p.image lock.number lock → is_section kind ≡ true → MayPassTo lock kind p.context.thread → IsNumber number → IsSoundPackage (with_grant lock kind number p)
granted_sound p lock kind number sound waiting rest section passes small =
    let n = lock.number in
    let q = with_grant lock kind number p in
    let want = wanted p sound n waiting.want in
    let next = (then_some (is_running p.context.guest.status) (next_lock p.image (thread_in p.context)) n waiting.want).1 in
    let at = placed p n (Some lock) sound want.small in
    let here : (k : ℕ) → (k == n) ≡ true → lock_in q.context.locks k ≡ Some lock = (λ k e. at k ∙ ap (λ v. if v then Some lock else lock_in p.context.locks k) e) in
    let there : (k : ℕ) → (k == n) ≡ false → lock_in q.context.locks k ≡ lock_in p.context.locks k = (λ k ne. at k ∙ ap (λ v. if v then Some lock else lock_in p.context.locks k) ne) in
    let few : n < length p.numbers = (let full = sound.places.1 in let lt = want.small in omega (arith, full, lt)) in
    record {
      few = sound.few;
      places = (length-set p.context.locks n (Some lock) ∙ sound.places.0, length-set p.numbers n number ∙ sound.places.1);
      thread = sound.thread;
      held = λ k h. (elim (eqb_tells k n) [ inl f ↦ ap is_some (here k f.0) | inr f ↦ ap is_some (there k f.0) ∙ sound.held k h ]);
      stored = λ k l e. elim (eqb_tells k n) [
        | inl f ↦
            let same : Some lock ≡ Some l = sym (here k f.0) ∙ e in
            let is : lock ≡ l = cc in
            subst (λ (z : ℕ × LockView). IsStored q z.0 z.1) (λ i. (sym f.1 i, is i)) (record {
              number = refl;
              known = want.known;
              of = rest.of;
              turn = subst IsNumber (sym (get_or-set_same p.numbers n number 0 few)) small;
              opened = rest.opened;
              closed = ap (option_map block_in) rest.closed ∙ sym (ap (λ o. waiting_in o n) waiting.pending);
              at = subst (λ o. IsAt o q n lock) (sym waiting.pending) (record { rests = λ free. rest.ended; last = λ b e' h not. absurd (not refl) });
            })
        | inr f ↦ stays_stored p q.context.locks q.granted q.numbers k l waiting.granted waiting.pending (get_or-set_other p.numbers n k number 0 f.1) (sound.stored k l (sym (there k f.0) ∙ e))
      ];
      left = left_as p.image p.context q.context.locks (last_of p.log) sound.left;
      grant = record { next = next; here = ap is_some (here n (eq_self n)); section = section; passes = λ l e. (let same : Some lock ≡ Some l = sym (here n (eq_self n)) ∙ e in let is : lock ≡ l = cc in subst (λ x. MayPassTo x kind p.context.thread) is passes) };
      log = sound.log;
      alone = λ h. absurd (both_ways _ (ap is_some waiting.pending) h);
    }

pub taken_sound : (p : PackageView) (lock : ℕ) → IsSoundPackage p → p.pending ≡ None → p.granted ≡ None → has p.context.guest.held lock ≡ false → lock < 32 → IsSoundPackage (without_lock lock p)
taken_sound p lock sound rest ungranted free small =
    let q = without_lock lock p in
    let at = placed p lock None sound small in
    record {
      few = sound.few;
      places = (length-set p.context.locks lock None ∙ sound.places.0, sound.places.1);
      thread = sound.thread;
      held = λ k h. (grind arith);
      stored = λ k l e. stays_stored p q.context.locks p.granted p.numbers k l ungranted rest refl (sound.stored k l (else_some (k == lock) (lock_in p.context.locks k) l (sym (at k) ∙ e)));
      left = left_as p.image p.context q.context.locks (last_of p.log) sound.left;
      grant = subst (MayTake p.image q.context) (sym ungranted) tt;
      log = sound.log;
      alone = sound.alone;
    }
