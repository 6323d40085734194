-- A whole block: from journals at rest to journals with an entry more.
use Rattle.tc_context.proofs.Vocabulary.{◌≡◌, ℕ, arith, Bool, true, false, List, refl, sym, ap, subst, ◌∙◌, Option, Some, None, is_some, option_map, has, MAX_TURNS, Shown, is_section, ends_thread, Block, Thread, Mutex, next_lock, LockView, Journal, Opened, Closes, lock_of, with_journal, opened_at, noted, entry_from, closed_with, lock_in}
use Rattle.tc_context.proofs.Vocabulary.{mutex_of, mutex_or, when_in, Changed, EachLock, IsReady, IsUnsealed, shut, Entry, Replays, replay_entry, ended, unowned, Registers, State, locks_of_block, reach, Runs, IsRecord, replays, replay_is, block_broken, slept_at, End, Kind, Agree, Apart, agree_at, apart_at, DidTurns, MayRunBlock, opened_in, Context}
use Rattle.tc_context.proofs.Vocabulary.{thread_in, mutex_at, whole, journal_at, Keeps, CanGo, RunsAs, block_locks, entry_of, with_entry, entered, Journals, noted_when, words_of, MayTurn}
use Rattle.tc_context.specs.declared.context.Turns.{Turns}
use Rattle.tc_context.proofs.LockList.{mapped_at, with_locks}
use Rattle.tc_context.proofs.Moved.{journals_changed}
use Rattle.tc_context.proofs.Partway.{keeps_all}

-- the two packages are the same part of the machine
pub record SamePart (a b : Context) : Type 0 where
  pub keeps : Keeps a b
  pub machine : whole b ≡ whole a

-- so their next block has the same locks
same_block : (image : Shown) (a b : Context) → SamePart a b → ((k : ℕ) → block_locks image b k ≡ block_locks image a k)
same_block image a b same k = (let d : thread_in b ≡ thread_in a = ap (λ (m : State). m.threads a.thread) same.machine in ap (λ (x : Thread). locks_of_block x.held (next_lock image x) k) d)

runs_from : (image : Shown) (a b new : Context) (turns : ℕ) (end : End) → SamePart a b → RunsAs image b new turns end → RunsAs image a new turns end
runs_from image a b new turns end same runs =
    let x = block_locks image a in
    let y = block_locks image b in
    let locks = same_block image a b same in
    record {
      keeps = keeps_all a b new same.keeps runs.keeps;
      block = λ m agree.
          let r = runs.block m (subst (λ w. Agree b.thread y w m) (sym same.machine) (agree_at a.thread b.thread x y (whole a) m (sym same.keeps.thread) (λ k. sym (locks k)) agree)) in (
            r.0,
            subst (λ t. Runs image m t turns end r.0) same.keeps.thread r.1,
            agree_at b.thread a.thread y x (whole new) r.0 same.keeps.thread locks r.2,
            apart_at b.thread a.thread y x m r.0 same.keeps.thread locks r.3,
          );
      others = λ k out. runs.others k (locks k ∙ out) ∙ ap (λ (m : State). m.locks k) same.machine;
    }

pub runs_to : (image : Shown) (a b c : Context) (turns : ℕ) (end : End) → SamePart b c → RunsAs image a b turns end → RunsAs image a c turns end
runs_to image a b c turns end same runs = record {
  keeps = keeps_all a b c runs.keeps same.keeps;
  block = λ m agree. (let r = runs.block m agree in (r.0, r.1, subst (λ x. Agree a.thread (block_locks image a) x r.0) (sym same.machine) r.2, r.3));
  others = λ k out. ap (λ (m : State). m.locks k) same.machine ∙ runs.others k out;
}

same_part : (p : Context) (f : ℕ → LockView → LockView) (locks : List (Option LockView)) → ((k : ℕ) (l : LockView) → ((f k l).number ≡ l.number) × ((f k l).journal.image ≡ l.journal.image)) → Changed f p.locks locks
    → ((t k : ℕ) (b : Bool) (l : LockView) → lock_in p.locks k ≡ Some l → mutex_of t b (f k l) ≡ mutex_of t b l) → SamePart p (with_locks p locks)
same_part p f locks identifies changed each = grind arith

-- the record of a package's next block has its held set and its kind
pub record_is : (image : Shown) (p : Context) (b : Block) → CanGo image p → ((k : ℕ) → has b.held k ≡ block_locks image p k) → is_section b.kind ≡ is_some (next_lock image (thread_in p)) → IsRecord image (whole p) b
record_is image p b go held section = grind arith

-- in a journal that is ready no entry is open, and none is closed
not_closed : (b : Block) (regs : Registers) (j : Journal) → IsReady j → closed_with b regs j ≡ j
not_closed b regs j ready = grind arith

-- the entries of the next block are open, and these are its locks
pub record Begins (image : Shown) (old : Context) (held : ℕ) (locks : List (Option LockView)) : Type 0 where
  pub is : (k : ℕ) → has held k ≡ block_locks image old k
  pub opens : Changed (opened_in (has held) old.guest.regs old.guest.fuel) old.locks locks

pub begins_from : (image : Shown) (old : Context) (held : ℕ) (locks : List (Option LockView)) {was fuel : ℕ} {takes : Option ℕ} {regs : Registers} → takes ≡ next_lock image (thread_in old) → was ≡ old.guest.held → regs ≡ old.guest.regs → fuel ≡ old.guest.fuel
    → ((k : ℕ) → has held k ≡ locks_of_block (has was) takes k) → Changed (opened_in (locks_of_block (has was) takes) regs fuel) old.locks locks → Begins image old held locks
begins_from image old held locks {was} {fuel} {takes} {regs} next before start left is opens = grind arith

module _ {image decoded : Shown} {kind : Kind} {takes : Option ℕ} {old : Context} (may : MayRunBlock image decoded kind takes old) {held : ℕ} {locks : List (Option LockView)} (begins : Begins image old held locks) where
  abbrev pub begun : Context
  begun = with_locks old locks

  begun_part : SamePart old begun
  begun_part = grind arith

  abbrev opening : ℕ → Journal → Journal
  opening k = when_in (has held k) (opened_at (unowned (mutex_at old k)) old.guest.regs old.guest.fuel)

  begun_journals : (k : ℕ) → journal_at begun k ≡ option_map (opening k) (journal_at old k)
  begun_journals = grind arith

  -- the journal of a lock of the block as it was, and as it is begun
  begun_was : (k : ℕ) (j : Journal) → journal_at begun k ≡ Some j → has held k ≡ true → (x : Journal) × (journal_at old k ≡ Some x) × (j ≡ opened_at (unowned (mutex_at old k)) old.guest.regs old.guest.fuel x)
  begun_was k j at h = grind arith

  -- so its turns may come
  pub begun_may : MayTurn image (has held) MAX_TURNS begun
  begun_may = grind (arith, begun_was)

  module _ (pc : ℕ) {ran : Context} {t : Turns} (did : DidTurns image (has held) begun ran t) where
    abbrev pub made : Block
    made = record { stamp = 0; thread = old.thread; turns = t.count; held = held; kind = kind; worker = 0; pc = pc; end = t.end }

    pub old_runs : RunsAs image old ran t.count t.end
    old_runs = runs_from image old begun ran t.count t.end begun_part did.runs

    -- the package alone, as the machine where the block runs
    abbrev alone : (to : State) × (Runs image (whole old) old.thread t.count t.end to) × (Agree old.thread (block_locks image old) (whole ran) to) × (Apart old.thread (block_locks image old) (whole old) to)
    alone = old_runs.block (whole old) (record { thread = refl; locks = λ k h. refl })

    -- what its last turn slept for is seen from the package as it was
    pub old_slept : (n : ℕ) → slept_at image (whole begun) begun.thread n ≡ slept_at image (whole old) old.thread n
    old_slept n = ap (λ m. slept_at image m old.thread n) begun_part.machine

    finish_is : ran.guest.regs ≡ ((reach image (whole old) old.thread t.count).threads old.thread).regs
    finish_is = ap (λ (d : Thread). d.regs) alone.2.thread ∙ ap (λ (m : State). (m.threads old.thread).regs) alone.1.last

    abbrev words : ℕ → List ℕ
    words k = words_of image begun k t.count

    -- the open entry of a lock of the block, at the block's end
    abbrev filled : ℕ → Opened
    filled k = record { start = old.guest.regs; fuel = old.guest.fuel; from = unowned (mutex_at old k); foreign = words k }

    words_is : (k : ℕ) → words k ≡ words_of image old k t.count
    words_is k = ap (λ (m : State). (entry_of image k m made).foreign) begun_part.machine

    entry_is : (k : ℕ) → entry_of image k (whole old) made ≡ entry_from made ran.guest.regs (filled k)
    entry_is k = (let f = finish_is in let w = words_is k in λ i. record { block = made; start = old.guest.regs; fuel = old.guest.fuel; finish = sym f i; foreign = sym w i })

    -- the journal of each lock, as it was before the block and is at its end
    was_noted : (k : ℕ) (l : LockView) → lock_in ran.locks k ≡ Some l → (j : Journal) × (journal_at old k ≡ Some j) × (l.journal ≡ noted_when (has held k) (words k) (opening k j))
    was_noted k l found = grind (arith, begun_journals)

    was_ready : (k : ℕ) (l : LockView) → lock_in ran.locks k ≡ Some l → has held k ≡ true
        → (j : Journal) × (journal_at old k ≡ Some j) × (l.journal ≡ noted (words k) (opened_at (unowned (mutex_at old k)) old.guest.regs old.guest.fuel j))
    was_ready k l found h = grind arith

    -- the lock as the machine has it at the block's end
    lock_is : (k : ℕ) (l : LockView) → lock_in ran.locks k ≡ Some l → has held k ≡ true → unowned ((reach image (whole old) old.thread t.count).locks k) ≡ lock_of l
    lock_is k l found h =
        let some : block_locks image old k ≡ true = sym (begins.is k) ∙ h in
        ap (λ (m : State). unowned (m.locks k)) (sym alone.1.last) ∙ ap unowned (sym (alone.2.locks k some)) ∙ ap (λ x. unowned (mutex_or ran.thread (has ran.guest.held k) x)) found

    closes : (k : ℕ) (l : LockView) → lock_in ran.locks k ≡ Some l → has held k ≡ true → (o : Opened) → l.journal.opened ≡ Some o → Closes l made ran.guest.regs o
    closes k l found h o e =
        let of = old_runs.keeps.of image may.go.of k l found in
        let some : Some (filled k) ≡ Some o = sym (ap (λ (x : Journal). x.opened) (was_ready k l found h).2) ∙ e in
        let same : filled k ≡ o = cc in
        let entry : entry_of image k (whole old) made ≡ entry_from made ran.guest.regs o = entry_is k ∙ ap (entry_from made ran.guest.regs) same in
        let from : unowned (mutex_at old k) ≡ o.from = ap (λ (x : Opened). x.from) same in
        record {
          replays = subst (λ (x : Shown × ℕ × Entry × Mutex). Replays x.0 x.1 x.2 x.3) (λ i. (sym of.of i, sym of.number i, entry i, from i)) (replays image k (whole old) made alone.0 alone.1 (record_is image old made may.go begins.is may.section));
          lock = (λ i. replay_entry (of.of i) (of.number i) (sym entry i) (sym from i)) ∙ replay_is image k (whole old) made alone.0 alone.1 (record_is image old made may.go begins.is may.section) ∙ ap (ended t.end) (lock_is k l found h);
        }

    is_broken : (k : ℕ) (l : LockView) → lock_in ran.locks k ≡ Some l → has held k ≡ true → ends_thread t.end ≡ true → l.broken ≡ true
    is_broken k l found h ends =
        sym (ap (λ (m : Mutex). m.broken) (lock_is k l found h)) ∙ block_broken image (whole old) alone.0 old.thread t.count t.end alone.1 k (sym (begins.is k) ∙ h) ends

    -- so the block may close it
    pub unsealed : EachLock (IsUnsealed made ran.guest.regs) ran.locks
    unsealed k l found =
        let w = was_noted k l found in
        let ready = may.ready k w.0 w.1 in
        record {
          closed = (grind arith);
          others = λ out. ap (λ (x : Journal). x.opened) (w.2 ∙ ap (λ v. noted_when v (words k) (when_in v (opened_at (unowned (mutex_at old k)) old.guest.regs old.guest.fuel) w.0)) out) ∙ ready.opened;
          opened = λ h. ap (λ (x : Journal). is_some x.opened) (was_ready k l found h).2;
          ended = is_broken k l found;
          closes = closes k l found;
        }

    abbrev shuts : LockView → LockView
    shuts = with_journal (closed_with made ran.guest.regs)

    pub finished_runs : RunsAs image old (shut made ran) t.count t.end
    finished_runs = runs_to image old ran (shut made ran) t.count t.end (same_part ran (λ k. shuts) (shut made ran).locks (λ k l. (refl, refl)) (mapped_at shuts ran.locks) (λ n k b l e. refl)) old_runs

    all_three : (k : ℕ) (o : Option Journal) → journal_at old k ≡ o
        → option_map (closed_with made ran.guest.regs) (option_map (noted_when (has held k) (words k)) (option_map (opening k) o))
        ≡ option_map (entered (has held k) (entry_of image k (whole old) made)) o
    all_three k None is = refl
    all_three k (Some j) is =
        ap Some (elim (has held k) as (λ b. closed_with made ran.guest.regs (noted_when b (words k) (when_in b (opened_at (unowned (mutex_at old k)) old.guest.regs old.guest.fuel) j)) ≡ entered b (entry_of image k (whole old) made) j) [
          | true ↦ ap (λ x. with_entry x j) (sym (entry_is k))
          | false ↦ not_closed made ran.guest.regs j (may.ready k j is)
        ])

    pub finished_journals : Journals image old (shut made ran) made
    finished_journals = record {
      held = begins.is;
      entries = λ k.
          journals_changed (λ n. shuts) (λ n. closed_with made ran.guest.regs) ran (shut made ran) (mapped_at shuts ran.locks) (λ n l e. refl) k
          ∙ ap (option_map (closed_with made ran.guest.regs)) (did.journals k ∙ ap (option_map (noted_when (has held k) (words k))) (begun_journals k))
          ∙ all_three k (journal_at old k) refl;
    }
