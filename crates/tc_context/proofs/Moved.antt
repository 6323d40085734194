-- One turn of a package: what its thread and its locks are after it, and the words that its journals note.
use Rattle.std.proofs.Common.{◌≡◌, ℕ, ◌≤◌, Bool, true, false, ◌&&◌, ◌==◌, List, length, refl, sym, ap, subst, ◌∙◌, arith, [], ◌∷◌, ◌++◌, Option, Some, None, is_some, if◌then◌else◌, IfSome}
use Rattle.tc_context.proofs.Vocabulary.{option_map, has, Shown, Thread, act_with, thread_after, mutex_after, next_lock, answer_to, LockView, Journal, with_journal, noted, lock_in, mutex_or, IsLockOf, takes_word, word_of, words_now, Region, done_of, wants_of, IsAct}
use Rattle.tc_context.proofs.Vocabulary.{IsPut, Put, Want, Covers, next_act, act_some, act_takes, next_known, Act, Done, DoneFits, AreOf, when_in, turned, TurnReady, StoreReady, TurnFits, StoreFits, Changed, noted_in, Context, mutex_at, journal_in, journal_at, Keeps, thread_in, set_of, act_in, noted_when, IsTurn, AreOpen, DidTurn, Lock, Exit, Nothing}
use Rattle.tc_exec.proofs.Cases.{act_told}
use Rattle.tc_exec.proofs.Laws.{put_is_held}
use Rattle.tc_exec.specs.declared.outcome.Act.TheVariants.{Next, Called, Faulted}
pub use Rattle.tc_mutex_spec.proofs.OptionLaws.{map_some, some_map, option_map-twice}
use Rattle.std.proofs.Math.Bool.{and-false}
use Rattle.tc_context.proofs.LockList.{when_field, unchanged}
use Rattle.tc_segment.proofs.Inside.{guard_has}
use Rattle.tc_segment.proofs.Words.{noted_nil, noted_more, more_some}
use Rattle.tc_elf.specs.declared.image.Region.TheVariants as region

-- a change of each lock leaves which lock it is
abbrev pub Identifies : (ℕ → LockView → LockView) → Type 0
Identifies f = (k : ℕ) (l : LockView) → ((f k l).number ≡ l.number) × ((f k l).journal.image ≡ l.journal.image)

pub identifies_when : (b : Bool) (f : LockView → LockView) (l : LockView) → (f l).number ≡ l.number → (f l).journal.image ≡ l.journal.image → ((when_in b f l).number ≡ l.number) × ((when_in b f l).journal.image ≡ l.journal.image)
identifies_when b f l p q = (when_field (λ x. x.number) b f l p, when_field (λ x. x.journal.image) b f l q)

pub of_changed : (f : ℕ → LockView → LockView) (old new : List (Option LockView)) → Identifies f → Changed f old new → (image : Shown) → AreOf image old → AreOf image new
of_changed f old new same changed image of k l found = grind arith

pub keeps_changed : (f : ℕ → LockView → LockView) (old new : Context) → Identifies f → Changed f old.locks new.locks → new.thread ≡ old.thread → Keeps old new
keeps_changed f old new same changed thread = record { thread = thread; set = λ k. ap is_some (changed k) ∙ some_map (f k) (lock_in old.locks k); of = of_changed f old.locks new.locks same changed }

pub journals_changed : (f : ℕ → LockView → LockView) (g : ℕ → Journal → Journal) (old new : Context) → Changed f old.locks new.locks
    → ((k : ℕ) (l : LockView) → lock_in old.locks k ≡ Some l → (f k l).journal ≡ g k l.journal) → (k : ℕ) → journal_at new k ≡ option_map (g k) (journal_at old k)
journals_changed f g old new changed each k = grind arith

abbrev IsSame : LockView → LockView → Type 0
IsSame l x = (x.number ≡ l.number) × (x.journal ≡ l.journal)

pub same_turned : (held : ℕ → Bool) (a : Option Done) (k : ℕ) (l : LockView) → IsSame l (turned held a k l)
same_turned held a k l = grind arith

-- what a turn asks of the locks
put_ready : (image : Shown) (held : ℕ → Bool) (put : Put) (place : Region) (k : ℕ) (l : LockView) → put.region ≡ place → IsPut image held put → IsLockOf image k l
    → (held k ≡ true → is_some l.journal.opened ≡ true) → ((lock : ℕ) → put.region ≡ region.Guard lock → held lock ≡ true) → StoreReady place k put.addr put.width l
put_ready image held put place k l e is of opened holds = grind (arith, guard_has)

pub turn_ready : (image : Shown) (block : ℕ → Bool) (d : Thread) (answer : ℕ) (a : Option Act) → act_with image d answer ≡ a → Covers image block d
    → (k : ℕ) (l : LockView) → IsLockOf image k l → (block k ≡ true → is_some l.journal.opened ≡ true) → TurnReady d.held (option_map done_of a) k l
turn_ready image block d answer None e covers k l of opened = λ h. opened (covers.held k h)
turn_ready image block d answer (Some (Next regs (Some put))) e covers k l of opened =
    let act = act_some image d answer (Next regs (Some put)) e in
    put_ready image d.held put put.region k l refl (subst (λ x. IsAct image d.held d.regs x) act (act_told image d.held d.regs answer)) of (λ h. opened (covers.held k h))
    (λ lock place. put_is_held image d.held d.regs answer regs put lock act place)
turn_ready image block d answer (Some (Called (Lock lock) regs)) e covers k l of opened = λ same. opened (ap block same ∙ covers.next lock (act_takes image d answer lock regs e))
turn_ready image block d answer (Some (Called Exit regs)) e covers k l of opened = λ h. opened (covers.held k h)
turn_ready image block d answer (Some (Faulted f)) e covers k l of opened = λ h. opened (covers.held k h)
turn_ready image block d answer _ e covers k l of opened = tt

put_fits : (image : Shown) (held : ℕ → Bool) (put : Put) (place : Region) → put.region ≡ place → IsPut image held put → length image.guards ≤ 32 → StoreFits place put.width
put_fits image held put (region.Guard lock) e is few = (let g = guard_has image lock put.addr put.width (sym is.lies ∙ e) in (omega (arith, g.known, few), is.width_fits))
put_fits image held put _ e is few = tt

pub turn_fits : (image : Shown) (d : Thread) (answer : ℕ) (a : Option Act) → act_with image d answer ≡ a → length image.guards ≤ 32 → TurnFits (option_map done_of a)
turn_fits image d answer (Some (Next regs (Some put))) e few =
    put_fits image d.held put put.region refl (subst (λ x. IsAct image d.held d.regs x) (act_some image d answer (Next regs (Some put)) e) (act_told image d.held d.regs answer)) few
turn_fits image d answer (Some (Called (Lock lock) regs)) e few = (let known = next_known image d lock (act_takes image d answer lock regs e) in omega (arith, known, few))
turn_fits image d answer _ e few = tt

-- words noted in a journal
pub when_nil : (b : Bool) (j : Journal) → noted_when b [] j ≡ j
when_nil b j = when_field (λ x. x) b (noted []) j (noted_nil j)

pub when_more : (b : Bool) (ws vs : List ℕ) (j : Journal) → noted_when b vs (noted_when b ws j) ≡ noted_when b (ws ++ vs) j
when_more b ws vs j = grind (arith, noted_more)

pub when_open : (b : Bool) (ws : List ℕ) (j : Journal) → is_some (noted_when b ws j).opened ≡ is_some j.opened
when_open b ws j = when_field (λ x. is_some x.opened) b (noted ws) j (more_some ws j.opened)

-- the word of a turn, noted where there is one
noted_journal : (spent b t : Bool) (value : ℕ) (l : LockView) → (when_in ((if spent then false else b) && t) (with_journal (noted (value ∷ []))) l).journal ≡ noted_when b (if spent then [] else (if t then value ∷ [] else [])) l.journal
noted_journal spent b t value l = grind (arith, noted_nil)

pub noting_block : (spent b n : Bool) → n ≡ (if spent then false else b) → n ≡ true → b ≡ true
noting_block spent b n e h = grind arith

same_lock : (noting : ℕ → Bool) (wanted : Want) (next : Option ℕ) (answer : ℕ) → Identifies (noted_in noting wanted next answer)
same_lock noting wanted next answer k l = identifies_when (noting k && takes_word k wanted next) (with_journal (noted (answer ∷ []))) l refl refl

-- where nothing is wanted, nothing is noted
pub none_noted : (noting : ℕ → Bool) (answer : ℕ) (locks : List (Option LockView)) → Changed (noted_in noting Nothing None answer) locks locks
none_noted noting answer locks = unchanged (λ k. noting k && false) (λ k. with_journal (noted (answer ∷ []))) locks (λ k. and-false (noting k))

-- a lock whose word is noted is one of the image, and its entry is open as before
pub noted_lock : (image : Shown) (block noting : ℕ → Bool) (old : Context) (mid : List (Option LockView)) (wanted : Want) (next : Option ℕ) (answer : ℕ) → AreOf image old.locks → AreOpen block old
    → Changed (noted_in noting wanted next answer) old.locks mid → (k : ℕ) (l : LockView) → lock_in mid k ≡ Some l → IsLockOf image k l × (block k ≡ true → is_some l.journal.opened ≡ true)
noted_lock image block noting old mid wanted next answer of opened changed k l found =
    let x = map_some (noted_in noting wanted next answer k) (lock_in old.locks k) l (sym (changed k) ∙ found) in (
      of_changed (noted_in noting wanted next answer) old.locks mid (same_lock noting wanted next answer) changed image of k l found,
      λ h. ap (λ (y : LockView). is_some y.journal.opened) x.2 ∙ when_field (λ y. is_some y.journal.opened) (noting k && takes_word k wanted next) (with_journal (noted (answer ∷ []))) x.0 (more_some (answer ∷ []) x.0.journal.opened) ∙ opened k x.0.journal (ap (option_map journal_in) x.1) h,
    )

-- the turn, from what its parts make of each lock
module _ (image : Shown) (block noting : ℕ → Bool) (old new : Context) (mid : List (Option LockView)) (wanted : Want) (next : Option ℕ) (answer : ℕ) where
  abbrev held : ℕ → Bool
  held = has old.guest.held

  abbrev did : Option Done
  did = option_map done_of (act_in image old)

  abbrev note : ℕ → LockView → LockView
  note = noted_in noting wanted next answer

  abbrev change : ℕ → LockView → LockView
  change k l = turned held did k (note k l)

  mutex : AreOf image old.locks → (k : ℕ) → set_of old k ≡ true → (o : Option LockView) → lock_in old.locks k ≡ o
      → mutex_or old.thread ((thread_after (thread_in old) (act_in image old)).held k) (option_map (change k) o) ≡ mutex_after image old.thread held (act_in image old) k (mutex_or old.thread (held k) o)
  mutex of k some o e = grind arith

  pub turn_from : AreOf image old.locks → wanted ≡ wants_of image held old.guest.regs → next ≡ next_lock image (thread_in old) → answer ≡ answer_to image wanted next (thread_in old).own (mutex_at old)
      → ((k : ℕ) → noting k ≡ (if old.guest.fuel == 0 then false else block k)) → Changed note old.locks mid → Changed (turned held did) mid new.locks → new.thread ≡ old.thread → thread_in new ≡ thread_after (thread_in old) (act_in image old) → IsTurn image block old new
  turn_from of w n a notes first second number thread =
      let changed : Changed change old.locks new.locks = λ k. second k ∙ ap (option_map (turned held did k)) (first k) ∙ option_map-twice (note k) (turned held did k) (change k) (lock_in old.locks k) (λ l. refl) in
      record {
        keeps = keeps_changed change old new (λ k l. (let s = same_turned held did k (note k l) in let m = same_lock noting wanted next answer k l in (s.0 ∙ m.0, ap (λ (j : Journal). j.image) s.1 ∙ m.1))) changed number;
        thread = thread;
        locks = λ k some. (λ i. mutex_or (number i) ((thread i).held k) (changed k i)) ∙ mutex of k some (lock_in old.locks k) refl;
        journals = journals_changed change (λ k. noted_when (block k) (word_of image k (thread_in old) (mutex_at old))) old new changed
            (λ k l e. (same_turned held did k (note k l)).1 ∙ ap (λ v. (when_in (v && takes_word k wanted next) (with_journal (noted (answer ∷ []))) l).journal) (notes k) ∙ noted_journal (old.guest.fuel == 0) (block k) (takes_word k wanted next) answer l
            ∙ ap (λ ws. noted_when (block k) ws l.journal) (words_now image (thread_in old) (mutex_at old) k wanted next answer w n a));
      }

  -- and from what it did with the answer that it got
  pub did_turn : (n : ℕ) (d : Option Done) → AreOf image old.locks → wanted ≡ wants_of image held old.guest.regs → next ≡ next_lock image (thread_in old) → answer ≡ answer_to image wanted next (thread_in old).own (mutex_at old)
      → ((k : ℕ) → noting k ≡ (if old.guest.fuel == 0 then false else block k)) → Changed note old.locks mid → n ≡ old.guest.held → d ≡ option_map done_of (act_with image (thread_in old) answer) → IfSome d DoneFits → Changed (turned (has n) d) mid new.locks
      → new.thread ≡ old.thread → thread_in new ≡ thread_after (thread_in old) (act_with image (thread_in old) answer) → DidTurn image block old new d
  unfolding next_act
  did_turn n d of w x a notes first h e fits second number thread = grind (arith, turn_from)
