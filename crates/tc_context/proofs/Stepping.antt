-- A turn of a run, whatever fuel there is, is a turn of the package.
use Rattle.tc_context.proofs.Vocabulary.{◌≡◌, ℕ, suc, ◌-◌, ◌<◌, ◌≤◌, Bool, true, false, ◌==◌, List, refl, sym, ap, subst, ◌∙◌, arith, Option, Some, None, is_some, if◌then◌else◌, Next, option_map, has, Shown, Thread, Guest, thread_of, thread_after, outcome_of, answer_to, LockView, lock_in, Context, AreOf, Changed, EachHeld, TurnFits, TurnReady, noted_in, turned, thread_in, mutex_at, journal_in}
use Rattle.tc_context.proofs.Vocabulary.{act_in, GoesOn, IsStep, nat_tests, option_map-id, Registers, with_register, region_of, Region, load_width, store_width, extended, put_at, at_next, done_of, act_of, wants_of, taken_by, Put, Want, open_want, open_load, open_store, IsPlain, IsLoad, IsStore, IsOwnLoad, IsOwnStore, Covers, answer_of, own_after, MayRun, IsGone, HasGone, fuelled}
use Rattle.tc_isa.specs.declared.instr.LoadKind.{LoadKind}
use Rattle.tc_isa.specs.declared.instr.StoreKind.{StoreKind}
use Rattle.tc_elf.specs.declared.image.Region.TheVariants as region
use Rattle.tc_exec.specs.Flow.{set}
use Rattle.tc_exec.specs.Touch.{is_own, IsTouched}
use Rattle.tc_exec.specs.declared.outcome.Done.TheVariants as done
use Rattle.tc_exec.specs.declared.outcome.Want.TheVariants as want
use Rattle.tc_exec.specs.declared.touch.Touched.{Touched}
use Rattle.tc_exec.specs.declared.touch.Touched.TheVariants as touched
use Rattle.tc_exec.proofs.Loaded.{set_steps}
use Rattle.tc_turn.proofs.OwnTurns.{none_next, next_is, own_answer, own_put}
use Rattle.tc_context.specs.declared.run.Way.TheVariants as way
use Rattle.tc_context.proofs.Partway.{may_more}
use Rattle.tc_context.proofs.Moved.{none_noted, turn_from, turn_ready, turn_fits}

-- a turn that changes no lock
went_in : (held : ℕ → Bool) (locks : List (Option LockView)) → Changed (turned held (Some done.Went)) locks locks
went_in held locks k = sym (option_map-id (turned held (Some done.Went) k) (lock_in locks k) (λ l. refl))

-- nor does a store in the thread's own memory
own_turned : (place : Region) (held : ℕ → Bool) (addr width value : ℕ) (locks : List (Option LockView)) → is_own place ≡ true → Changed (turned held (Some (done.Stored (put_at place addr width value)))) locks locks
own_turned place held addr width value locks e = grind arith

-- a number of the thread's own memory is noted wherever it is
own_noted : (place : Region) (block : ℕ → Bool) (addr width number : ℕ) (old new : List (Option LockView)) → is_own place ≡ true → Changed (noted_in block (want.Load region.Private 0 1) None number) old new
    → Changed (noted_in block (want.Load place addr width) None number) old new
own_noted place block addr width number old new e changed = grind arith

-- with fuel there is a next turn
filled : (left : ℕ) → 0 < left → (left == 0) ≡ false
filled left some = grind (arith, nat_tests)

-- the package, with another thread of the same number and other locks
abbrev pub with_both : Context → Guest → List (Option LockView) → Context
with_both p h locks = record { thread = p.thread; guest = h; locks = locks }

gone : (image : Shown) (block : ℕ → Bool) (p : Context) (h : Guest) (wanted : Want) (answer : ℕ) (put : Option Put) (mid locks : List (Option LockView)) → AreOf image p.locks
    → wants_of image (has p.guest.held) p.guest.regs ≡ wanted → answer ≡ answer_to image wanted None (thread_in p).own (mutex_at p)
    → act_of image (has p.guest.held) p.guest.regs answer ≡ Next h.regs put → taken_by (act_of image (has p.guest.held) p.guest.regs 0) ≡ None
    → thread_of h ≡ record (thread_of p.guest) { regs = h.regs; own = own_after put (thread_of p.guest).own }
    → Changed (noted_in block wanted None answer) p.locks mid → Changed (turned (has p.guest.held) (Some (done_of (Next h.regs put)))) mid locks → IsGone image block p (with_both p h locks)
gone image block p h wanted answer put mid locks of wants found act free after noted changed = record {
  step = λ left some.
      (let old = fuelled left p in
      let new : Context = fuelled (left - 1) (with_both p h locks) in
      let d = thread_in old in
      let full = filled left some in
      let none = none_next image d full free in
      let got : answer_of image d (mutex_at old) ≡ answer = (λ i. answer_to image (wants i) (none i) d.own (mutex_at old)) ∙ sym found in
      let is : act_in image old ≡ Some (Next h.regs put) = next_is image d (mutex_at old) (Next h.regs put) full (ap (act_of image d.held d.regs) got ∙ act) in
      let behind : thread_in new ≡ thread_after d (Some (Next h.regs put)) = ap (λ (e : Thread). record { regs = e.regs; own = e.own; fuel = left - 1; status = e.status; held = e.held }) after in
      record {
        none = none;
        turn = turn_from image block block old new mid wanted None answer of (sym wants) (sym none) found (λ k. ap (λ b. if b then false else block k) (sym full)) noted
            (subst (λ o. Changed (turned (has p.guest.held) o) mid locks) (sym (ap (option_map done_of) is)) changed) refl (behind ∙ ap (thread_after d) (sym is));
        went = ap outcome_of is;
      });
  fuel = ap (λ (e : Thread). e.fuel) after;
}

-- the kinds of turns
pub plain_gone : (image : Shown) (block : ℕ → Bool) (p : Context) (h : Guest) → AreOf image p.locks → IsPlain image p.guest h → IsGone image block p (with_both p h p.locks)
plain_gone image block p h of is =
    gone image block p h want.Nothing 0 None p.locks p.locks of is.want refl (is.act 0) (ap taken_by (is.act 0)) (ap thread_of is.rest) (none_noted block 0 p.locks) (went_in (has p.guest.held) p.locks)

pub load_gone : (image : Shown) (block : ℕ → Bool) (p : Context) (h : Guest) (kind : LoadKind) (rd addr number : ℕ) (at : Touched) (locks : List (Option LockView)) → AreOf image p.locks → IsLoad image p.guest kind rd addr
    → IsTouched image (has p.guest.held) addr (load_width kind) at → number ≡ answer_to image (want.Load (region_of image addr (load_width kind)) addr (load_width kind)) None (thread_in p).own (mutex_at p)
    → h ≡ record p.guest { regs = at_next (with_register p.guest.regs rd (extended kind number)) } → Changed (noted_in block (want.Load (region_of image addr (load_width kind)) addr (load_width kind)) None number) p.locks locks
    → HasGone image block p (with_both p h locks) way.Next
load_gone image block p h kind rd addr number at locks of load is found after noted =
    let held = has p.guest.held in
    let regs = ap (λ (g : Guest). g.regs) after in
    let act : (answer : ℕ) → act_of image held p.guest.regs answer ≡ set p.guest.regs rd (extended kind answer) = λ answer. load.act answer ∙ open_load image held p.guest.regs answer kind rd addr at is in (
      gone image block p h (want.Load (region_of image addr (load_width kind)) addr (load_width kind)) number None locks locks of (load.want ∙ open_want image held kind addr at is) found
          (act number ∙ ap (λ r. Next r None) (sym regs)) (ap taken_by (act 0)) (ap thread_of after ∙ ap (λ r. record (thread_of p.guest) { regs = r }) (sym regs)) noted (went_in held locks),
      ap (λ (r : Registers). r.pc) regs ∙ set_steps p.guest.regs rd (extended kind number),
    )

pub own_loaded : (image : Shown) (block : ℕ → Bool) (p : Context) (h : Guest) (kind : LoadKind) (rd addr number : ℕ) (locks : List (Option LockView)) → AreOf image p.locks → IsLoad image p.guest kind rd addr
    → IsOwnLoad image kind rd addr p.guest h number → Changed (noted_in block (want.Load region.Private 0 1) None number) p.locks locks → HasGone image block p (with_both p h locks) way.Next
own_loaded image block p h kind rd addr number locks of load is noted =
    let width = load_width kind in
    let place = region_of image addr width in
    load_gone image block p h kind rd addr number touched.Own locks of load is.own (is.number ∙ sym (own_answer image place addr width None (thread_in p) (mutex_at p) is.own.lies)) is.after
    (own_noted place block addr width number p.locks locks is.own.lies noted)

-- what a store does, where its place is known
pub stored_act : (image : Shown) (p : Context) (kind : StoreKind) (addr value : ℕ) (put : Put) (at : Touched) → IsStore image p.guest kind addr value → IsTouched image (has p.guest.held) addr (store_width kind) at
    → put_at (region_of image addr (store_width kind)) addr (store_width kind) value ≡ put → (answer : ℕ) → act_of image (has p.guest.held) p.guest.regs answer ≡ Next (at_next p.guest.regs) (Some put)
stored_act image p kind addr value put at store is puts answer = store.act answer ∙ open_store image (has p.guest.held) p.guest.regs kind addr value at is ∙ ap (λ q. Next (at_next p.guest.regs) (Some q)) puts

pub store_gone : (image : Shown) (block : ℕ → Bool) (p : Context) (h : Guest) (kind : StoreKind) (addr value : ℕ) (put : Put) (at : Touched) (locks : List (Option LockView)) → AreOf image p.locks → IsStore image p.guest kind addr value
    → IsTouched image (has p.guest.held) addr (store_width kind) at → put_at (region_of image addr (store_width kind)) addr (store_width kind) value ≡ put
    → thread_of h ≡ record (thread_of p.guest) { regs = at_next p.guest.regs; own = own_after (Some put) (thread_of p.guest).own } → Changed (turned (has p.guest.held) (Some (done.Stored put))) p.locks locks
    → HasGone image block p (with_both p h locks) way.Next
store_gone image block p h kind addr value put at locks of store is puts after changed =
    let regs = ap (λ (d : Thread). d.regs) after in
    let act = stored_act image p kind addr value put at store is puts in (
      gone image block p h want.Nothing 0 (Some put) p.locks locks of store.want refl (act 0 ∙ ap (λ r. Next r (Some put)) (sym regs)) (ap taken_by (act 0))
          (after ∙ ap (λ r. record (thread_of p.guest) { regs = r; own = own_after (Some put) (thread_of p.guest).own }) (sym regs)) (none_noted block 0 p.locks) changed,
      ap (λ (r : Registers). r.pc) regs,
    )

pub own_stored : (image : Shown) (block : ℕ → Bool) (p : Context) (h : Guest) (kind : StoreKind) (addr value : ℕ) → AreOf image p.locks → IsStore image p.guest kind addr value → IsOwnStore image kind addr value p.guest h
    → HasGone image block p (with_both p h p.locks) way.Next
own_stored image block p h kind addr value of store is =
    let width = store_width kind in
    let place = region_of image addr width in
    store_gone image block p h kind addr value (put_at place addr width value) touched.Own p.locks of store is.own refl
    (is.after ∙ ap (λ (o : ℕ → Option ℕ). record (thread_of p.guest) { regs = at_next p.guest.regs; own = o }) (sym (own_put place (thread_of p.guest).own addr width value is.own.lies)))
    (own_turned place (has p.guest.held) addr width value p.locks is.own.lies)

-- what a store in a guard asks of the locks
pub store_may : (image : Shown) (block : ℕ → Bool) (n : ℕ) (p : Context) (next : Registers) (put : Put) → MayRun image block n p → ((answer : ℕ) → act_of image (has p.guest.held) p.guest.regs answer ≡ Next next (Some put))
    → TurnFits (Some (done_of (Next next (Some put)))) × ((k : ℕ) (l : LockView) → lock_in p.locks k ≡ Some l → TurnReady (has p.guest.held) (Some (done_of (Next next (Some put)))) k l)
store_may image block n p next put may acts =
    let d = thread_in (fuelled 1 p) in
    let act = ap Some (acts 0) in
    let covers : Covers image block d = record { held = may.held; next = λ k e. absurd (let no = sym (none_next image d refl (ap taken_by (acts 0))) ∙ e in cc) } in (
      turn_fits image d 0 (Some (Next next (Some put))) act may.guards,
      λ k l found. turn_ready image block d 0 (Some (Next next (Some put))) act covers k l (may.of k l found) (λ h. may.opened k l.journal (ap (option_map journal_in) found) h),
    )

-- one turn more
pub run_more : (image : Shown) (block : ℕ → Bool) (n f : ℕ) (p mid last : Context) → n < f → GoesOn image block n p (fuelled (f - n) mid) → IsGone image block mid last → GoesOn image block (suc n) p (fuelled (f - suc n) last)
run_more image block n f p mid last low run gone =
    let less : f - n - 1 ≡ f - suc n = omega arith in
    (fuelled (f - n) mid, run, subst (λ left. IsStep image block (fuelled (f - n) mid) (fuelled left last)) less (gone.step (f - n) (omega arith)))

-- what so many turns ask, fewer do
pub may_less : (image : Shown) (block : ℕ → Bool) (m n : ℕ) (p : Context) → n ≤ m → MayRun image block m p → MayRun image block n p
may_less image block m n p low may = record { guards = may.guards; of = may.of; held = may.held; opened = may.opened; room = λ k j at h. (let r = may.room k j at h in omega (arith, r, low)) }

-- it asks the same of the locks that the thread holds
pub may_held : (image : Shown) (block : ℕ → Bool) (n : ℕ) (p : Context) → MayRun image block n p → MayRun image (has p.guest.held) n p
may_held image block n p may = record { guards = may.guards; of = may.of; held = λ k h. h; opened = λ k j at h. may.opened k j at (may.held k h); room = λ k j at h. may.room k j at (may.held k h) }

-- what the turns that are left ask
pub may_gone : (image : Shown) (block : ℕ → Bool) (n : ℕ) (p q : Context) → MayRun image block (suc n) p → IsGone image block p q → MayRun image block n q
may_gone image block n p q may gone =
    let step = gone.step 1 (omega arith) in
    let covers : Covers image block (thread_in (fuelled 1 p)) = record { held = may.held; next = λ k e. absurd (let no = sym step.none ∙ e in cc) } in
    let after = may_more n (record { guards = may.guards; of = may.of; held = may.held; opened = may.opened; room = may.room }) step.turn covers in
    record { guards = after.guards; of = after.of; held = after.held; opened = after.opened; room = after.room }

-- there is an open entry, with room, for a word of the turn
pub note_may : (image : Shown) (block : ℕ → Bool) (p : Context) → MayRun image block 1 p → EachHeld block (λ l. is_some l.journal.opened ≡ true) p.locks × EachHeld block (λ l. 0 < l.journal.word_room) p.locks
note_may image block p may = (
  λ k l found h. may.opened k l.journal (ap (option_map journal_in) found) h,
  λ k l found h. (let r = may.room k l.journal (ap (option_map journal_in) found) h in omega (arith, r)),
)
