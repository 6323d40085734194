-- What lies in the slots after one operation more: each package lay there before, or was put; and what it shows of a lock stays true where its thread's part of the lock and of the line stays.
use Rattle.std.proofs.Common.{◌≡◌, ◌≢◌, ◌⊎◌, inl, inr, ⊎_elim, ℕ, suc, ◌+◌, ◌<◌, Bool, true, false, List, set, slice_index, get_or-set_other, get_or-set_same, arith, refl, sym, ap, ◌∙◌, subst, eq-eqb, Option, Some, None}
use mathlib.Core.Option as maybe
use mathlib.Core.Option.{none, some, some-ne-none}
use lib.ListN.{get_elem?}
use Rattle.atomic_table.proofs.Lists.{at_set}
use Rattle.tc_isa.specs.Sets.{has}
use Rattle.tc_journal.specs.declared.block.Kind.{Kind}
use Rattle.tc_segment.specs.View.{LockView}
use Rattle.tc_context.specs.View.{PackageView}
use Rattle.tc_queue.specs.declared.turn.Turn.{Turn}
use Rattle.tc_core.specs.declared.place.Custody.{Custody}
use Rattle.tc_core.specs.declared.place.LockPlace.{LockPlace}
use Rattle.tc_core.specs.declared.place.LockPlace.TheVariants.{Loose}
use Rattle.tc_told.specs.declared.writer.Beginning.{Beginning}
use Rattle.tc_hall.specs.declared.board.HallTerms.{HallTerms}
use Rattle.tc_hall.specs.declared.board.Knows.{Knows}
use Rattle.tc_hall.specs.declared.board.Cargo.{Cargo}
use Rattle.tc_hall.specs.declared.board.Cargo.TheVariants.{Lock, Package}
use Rattle.tc_hall.specs.declared.board.TheConstants.{CLOCK, STOP}
use Rattle.tc_hall.specs.declared.place.Place.{Place}
use Rattle.tc_hall.specs.declared.place.Place.TheVariants.{Waiting}
use Rattle.tc_hall.specs.Places.{code_of, place_of, slot_word}
use Rattle.tc_hall.specs.Lines.{line_word}
use Rattle.tc_hall.specs.Rule.{Has, Homes, IsOwn, Lies, locked_in, locks, threads}
use Rattle.tc_hall.specs.Steps.{given_of}
use Rattle.tc_hall.specs.Standing.{granted, held, kind_at, last_turn, stand_in, stands_in, turn_in}
use Rattle.tc_hall.specs.Effects.{Hall}
use Rattle.tc_hall.specs.Order.{Operation, claim, take, miss, commit, put, free, line, look, stop, stopped, reach, lay, split, join, after_operation}
use Rattle.tc_hall.specs.Ties.{is_with}
use Rattle.tc_hall.proofs.Cases.{not_empty, not_taken}
use Rattle.tc_hall.proofs.Moves.{AtHome, at_home_of, is_out}
use Rattle.tc_hall.proofs.Telling.{place_codes}
use Rattle.tc_lemmas.proofs.Lists.{something_at}
use Rattle.tc_run.proofs.Hands.{kept_at, set_stays}
use Rattle.tc_run.proofs.Agree.{Agrees, InSlot, IsShownIn, IsTrue, Run, Step, Waits, custody_at, hall_at, line_at, then_run, written_at, may_do}
use Rattle.tc_hall.proofs.Standing.{not_named, shows_some}
use Rattle.tc_run.proofs.Sealed.{number_is}
use Rattle.tc_hall.specs.Shown.{in_slot}
use Rattle.tc_hall.proofs.Words.{line_behind}

-- ---- a package in its slot

-- it is out with no pass
pub not_out : (k : HallTerms) (r : Run k) (id t : ℕ) (v : Knows) (p q : PackageView) → get_elem? (hall_at k r).views id ≡ some v → Has v t p → InSlot k r t q → ⊥
not_out k r id t v p q at has slot =
    let o = is_out k (hall_at k r) (kept_at k r) id t v p at has in
    not_empty (get_elem? (hall_at k r).homes t) (Package q) (o.4 (λ is. not_taken (get_elem? (hall_at k r).homes t) (Package q) (o.5 is) slot)) slot

its_home : (k : HallTerms) (r : Run k) (t : ℕ) (q : PackageView) → t < threads k → InSlot k r t q → AtHome k (hall_at k r) (kept_at k r) t q
its_home k r t q below slot =
    let rule = kept_at k r in
    let p = something_at rule.told.places t (omega (arith, rule.told.law.all_packages, below)) in
    at_home_of k (hall_at k r) rule t q below (low p.0 (rule.placed.holder t) (rule.placed.each t p.0 p.1)) slot
  where
    low : (p : PackageView) (o : maybe.Option ℕ) → Lies (hall_at k r).words (hall_at k r).homes (hall_at k r).views t p o → slice_index (hall_at k r).words (slot_word t) < 512
    low p none lies = lies.word
    low p (some id) lies = absurd (not_out k r id t lies.view p q lies.pass lies.has slot)

-- its locks are its own
slot_own : (k : HallTerms) (r : Run k) (t : ℕ) (q : PackageView) → t < threads k → InSlot k r t q → (i : ℕ) (l : LockView) → locked_in q i ≡ Some l → IsOwn q i
slot_own k r t q below slot = (let h = its_home k r t q below slot in subst (λ (z : PackageView). (i : ℕ) (l : LockView) → locked_in z i ≡ Some l → IsOwn z i) h.same h.home.order.own)

-- ---- what it shows of a lock

-- the lock is where it was, and so is the first of its line
pub record Rests (x x' : Custody) (us us' : List Turn) : Type 0 where
  pub place : x'.place ≡ x.place
  pub left : x'.left ≡ x.left
  pub first : (u : Turn) → get_elem? us 0 ≡ some u → get_elem? us' 0 ≡ some u

-- a lock of its own was granted to its thread, or is held by it
own_stands : (q : PackageView) (i : ℕ) (l : LockView) → locked_in q i ≡ Some l → IsOwn q i → ((kind : Kind) × (stand_in q i ≡ granted (turn_in q i) kind)) ⊎ (stand_in q i ≡ held (turn_in q i))
own_stands q i l e own = by (has q.context.guest.held i) (kind_at i (given_of q)) refl refl
  where
    owned : IsOwn q i → has q.context.guest.held i ≡ false → kind_at i (given_of q) ≡ None → ⊥
    owned (inl h) shut without = (let c : true ≡ false = sym h ∙ shut in absurd (cc c))
    owned (inr g) shut without = not_named q i q.granted g without

    by : (b : Bool) (kind : Option Kind) → has q.context.guest.held i ≡ b → kind_at i (given_of q) ≡ kind → ((kind : Kind) × (stand_in q i ≡ granted (turn_in q i) kind)) ⊎ (stand_in q i ≡ held (turn_in q i))
    by b (Some kind) f g = inl (kind, shows_some q i l e ∙ (λ j. stands_in (turn_in q i) (f j) (g j)))
    by true None f g = inr (shows_some q i l e ∙ (λ j. stands_in (turn_in q i) (f j) (g j)))
    by false None f g = absurd (owned own f g)

-- what is shown of it is as true of a lock that rests, for any worker
pub own_stays : (w w' : ℕ) (x x' : Custody) (us us' : List Turn) (next next' : ℕ → Beginning) (q : PackageView) (i : ℕ) (l : LockView) → locked_in q i ≡ Some l → IsOwn q i
    → (is_with x.place q.context.thread ≡ true → Rests x x' us us') → next' q.context.thread ≡ next q.context.thread → IsTrue w x us next (stand_in q i) → IsTrue w' x' us' next' (stand_in q i)
own_stays w w' x x' us us' next next' q i l e own rests same so = ⊎_elim by_grant by_hold (own_stands q i l e own)
  where
    t : ℕ
    t = q.context.thread

    by_grant : (kind : Kind) × (stand_in q i ≡ granted (turn_in q i) kind) → IsTrue w' x' us' next' (stand_in q i)
    by_grant g =
        let was = subst (IsTrue w x us next) g.1 so in
        let now = rests (ap (λ (z : LockPlace). is_with z t) was.0 ∙ eq-eqb t t refl) in
        subst (IsTrue w' x' us' next') (sym g.1) (now.place ∙ was.0, now.left ∙ was.1, now.first (turn_in q i) was.2, ap (λ (z : Beginning). z.kind) same ∙ was.3)

    by_hold : stand_in q i ≡ held (turn_in q i) → IsTrue w' x' us' next' (stand_in q i)
    by_hold g =
        let was = subst (IsTrue w x us next) g so in
        let now = rests (ap (λ (z : LockPlace). is_with z t) was.0 ∙ eq-eqb t t refl) in
        subst (IsTrue w' x' us' next') (sym g) (now.place ∙ was.0, now.left ∙ was.1, now.first (turn_in q i) was.2)

pub not_loose : (p : LockPlace) (w t : ℕ) → p ≡ Loose w → is_with p t ≡ true → ⊥
not_loose p w t at with = (let c : false ≡ true = sym (ap (λ (z : LockPlace). is_with z t) at) ∙ with in cc c)

-- ---- one operation more

-- a package that lies in a slot after another item was put somewhere, or a slot emptied, lay there before, elsewhere
pub lies_else : (hs : Homes) (slot t : ℕ) (b : maybe.Option (Option Cargo)) (q : PackageView) → (b ≡ some (Some (Package q)) → ⊥) → get_elem? (set hs slot b) t ≡ some (some (Some (Package q))) → (t ≢ slot) × (get_elem? hs t ≡ some (some (Some (Package q))))
lies_else hs slot t b q other h =
    ⊎_elim
    (λ (z : (t ≡ slot) × (b ≡ some (Some (Package q)))). absurd (other z.1))
    (λ (z : (t ≢ slot) × (get_elem? hs t ≡ some (some (Some (Package q))))). z)
    (at_set hs slot t b (some (Some (Package q))) h)

no_cargo : (q : PackageView) → maybe.none ≡ some (Some (Package q)) → ⊥
no_cargo q e = some-ne-none (Some (Package q)) (sym e)

module _ (k : HallTerms) (r : Run k) (m : Step k r) where
  abbrev r' : Run k
  r' = then_run k r m

  abbrev v : Knows
  v = m.made.knew

  abbrev Is : Operation → Type 0
  Is o = m.made.operation ≡ o

  abbrev hall_by : Operation → Hall
  hall_by o = after_operation k (hall_at k r) m.made.pass v o

  abbrev WasPut : ℕ → PackageView → Type 0
  WasPut t q = (place : Place) × Is (put q place) × (q.context.thread ≡ t)

  -- a package in a slot lay there before, or was put
  pub lay_before : (t : ℕ) (q : PackageView) → InSlot k r' t q → InSlot k r t q ⊎ WasPut t q
  lay_before t q h = by m.made.operation refl h
    where
      Lay : Operation → Type 0
      Lay o = get_elem? (hall_by o).homes t ≡ some (some (Some (Package q)))

      by : (o : Operation) → Is o → Lay o → InSlot k r t q ⊎ WasPut t q
      by (put p place) is h =
          ⊎_elim
          (λ (z : (t ≡ p.context.thread) × (some (Some (Package p)) ≡ some (Some (Package q)))).
          (let same : p ≡ q = (let e = z.1 in cc e) in inr (place, subst (λ (y : PackageView). Is (put y place)) same is, ap (λ (y : PackageView). y.context.thread) (sym same) ∙ sym z.0)))
          (λ (z : (t ≢ p.context.thread) × InSlot k r t q). inl z.1)
          (at_set (hall_at k r).homes p.context.thread t (some (Some (Package p))) (some (Some (Package q))) h)
      by (claim u word p) is h = inl (lies_else (hall_at k r).homes u t none q (no_cargo q) h).1
      by (take i l) is h = inl (lies_else (hall_at k r).homes (threads k + i) t none q (no_cargo q) h).1
      by (free l) is h = inl (lies_else (hall_at k r).homes (threads k + l.number) t (some (Some (Lock l))) q (λ e. let n : ⊥ = cc e in n) h).1
      by (reach slot) is h = inl (lies_else (hall_at k r).homes slot t none q (no_cargo q) h).1
      by (lay slot) is h = inl (lies_else (hall_at k r).homes slot t (some None) q (λ e. let n : ⊥ = cc e in n) h).1
      by (miss word wanted found) is h = inl h
      by (commit stamp b p) is h = inl h
      by (look u found) is h = inl h
      by stop is h = inl h
      by (stopped found) is h = inl h
      by (line i c) is h = inl h
      by split is h = inl h
      by (join other w) is h = inl h

  -- a package that was claimed lies in no slot: one that does is of another thread
  pub not_claimed : (u word t : ℕ) (p q : PackageView) → Is (claim u word p) → InSlot k r' t q → t ≢ u
  not_claimed u word t p q is h = (lies_else (hall_at k r).homes u t none q (no_cargo q) (ap (λ (o : Operation). get_elem? (hall_by o).homes t) (sym is) ∙ h)).0

  -- the word of a thread whose package lies in its slot before and after is as before
  word_stays : (t : ℕ) (q : PackageView) → t < threads k → InSlot k r t q → InSlot k r' t q → slice_index (hall_at k r').words (slot_word t) ≡ slice_index (hall_at k r).words (slot_word t)
  word_stays t q below was now = by m.made.operation refl
    where
      ws : List ℕ
      ws = (hall_at k r).words

      its : (o : Operation) → Is o → slice_index (hall_by o).words (slot_word t) ≡ slice_index ws (slot_word t) → slice_index (hall_at k r').words (slot_word t) ≡ slice_index ws (slot_word t)
      its o is e = ap (λ (z : Operation). slice_index (hall_by z).words (slot_word t)) is ∙ e

      else_word : (word left : ℕ) → word ≢ slot_word t → slice_index (set ws word left) (slot_word t) ≡ slice_index ws (slot_word t)
      else_word word left ne = get_or-set_other ws word (slot_word t) left 0 (λ e. ne (omega (arith, e)))

      by : (o : Operation) → Is o → slice_index (hall_at k r').words (slot_word t) ≡ slice_index ws (slot_word t)
      by (claim u word p) is = (let ne = not_claimed u word t p q is now in its (claim u word p) is (else_word (slot_word u) _ (λ e. ne (omega (arith, e)))))
      by (put p place) is = its (put p place) is (else_word (slot_word p.context.thread) _ (λ e. (let same : t ≡ p.context.thread = omega (arith, e) in
          not_out k r m.made.pass p.context.thread v _ q m.may.pass (may_do k r m (put p place) is).may.has (subst (λ (z : ℕ). InSlot k r z q) same was))))
      by (take i l) is = its (take i l) is (else_word (slot_word (threads k + i)) _ (λ e. omega (arith, e, below)))
      by (free l) is = its (free l) is (else_word (slot_word (threads k + l.number)) _ (λ e. omega (arith, e, below)))
      by (commit stamp b p) is = its (commit stamp b p) is (else_word CLOCK _ (λ e. omega (arith, e)))
      by (miss word wanted found) is = its (miss word wanted found) is (set_stays ws word found (slot_word t) (may_do k r m (miss word wanted found) is).0)
      by (look u found) is = its (look u found) is (set_stays ws (slot_word u) found (slot_word t) (may_do k r m (look u found) is).1)
      by stop is = its stop is (else_word STOP _ (λ e. omega (arith, e)))
      by (stopped found) is = its (stopped found) is (set_stays ws STOP found (slot_word t) (may_do k r m (stopped found) is))
      by (line i c) is = (let b = line_behind k i c in its (line i c) is (else_word (line_word k i c) _ (λ e. omega (arith, e, below, b))))
      by (reach slot) is = its (reach slot) is (set_stays ws (slot_word slot) _ (slot_word t) refl)
      by (lay slot) is = its (lay slot) is (set_stays ws (slot_word slot) _ (slot_word t) refl)
      by split is = its split is refl
      by (join other w) is = its (join other w) is refl

  -- the word of a thread whose package was put is of the place
  pub put_where : (p : PackageView) (place : Place) → p.context.thread < threads k → Is (put p place) → (i : ℕ) → Waits k r' p.context.thread i → place ≡ Waiting i
  put_where p place low is i waits =
      let ws : List ℕ = (hall_at k r).words in
      let word : slice_index (hall_at k r').words (slot_word p.context.thread) ≡ code_of place = ap (λ (o : Operation). slice_index (hall_by o).words (slot_word p.context.thread)) is
      ∙ get_or-set_same ws (slot_word p.context.thread) (code_of place) 0 (omega (arith, (kept_at k r).words, low)) in
      sym (place_codes place) ∙ (ap place_of (sym word ∙ waits) ∙ place_codes (Waiting i))

  -- of a lock and its line, what is of thread t stays: the lock that it has, and its turn behind another's
  pub record Stays (t j : ℕ) : Type 0 where
    pub own : is_with (custody_at k r j).place t ≡ true → Rests (custody_at k r j) (custody_at k r' j) (line_at k r j) (line_at k r' j)
    pub behind : (n : ℕ) (u : Turn) → u.thread ≡ t → get_elem? (line_at k r j) (suc n) ≡ some u → (e : ℕ) × (get_elem? (line_at k r' j) (suc e) ≡ some u)
    pub next : (written_at k r').next t ≡ (written_at k r).next t

  -- all of it, if lock and line are as they were
  pub all_stays : (t j : ℕ) → (custody_at k r' j ≡ custody_at k r j) × (line_at k r' j ≡ line_at k r j) → (written_at k r').next t ≡ (written_at k r).next t → Stays t j
  all_stays t j same next = record {
    own = λ with. record { place = ap (λ (z : Custody). z.place) same.0; left = ap (λ (z : Custody). z.left) same.0; first = λ u e. ap (λ (z : List Turn). get_elem? z 0) same.1 ∙ e };
    behind = λ n u of e. (n, ap (λ (z : List Turn). get_elem? z (suc n)) same.1 ∙ e);
    next = next;
  }

  -- if the line is as it was and the thread doesn't have the lock
  pub line_stays : (t j : ℕ) → (is_with (custody_at k r j).place t ≡ true → ⊥) → line_at k r' j ≡ line_at k r j → (written_at k r').next t ≡ (written_at k r).next t → Stays t j
  line_stays t j without same next = record { own = λ with. absurd (without with); behind = λ n u of e. (n, ap (λ (z : List Turn). get_elem? z (suc n)) same ∙ e); next = next }

  shown_stays : Agrees k r → (t j : ℕ) (q : PackageView) → t < threads k → j < locks k → InSlot k r t q → InSlot k r' t q → Stays t j → IsShownIn k r' t q j
  shown_stays a t j q low below was now stays =
      let old = a.slots t j q low below was in
      let of = number_is k r t q low (in_slot was) in
      record {
        here = λ l e. own_stays 0 0 (custody_at k r j) (custody_at k r' j) (line_at k r j) (line_at k r' j) (written_at k r).next (written_at k r').next q j l e (slot_own k r t q low was j l e)
            (λ with. stays.own (ap (is_with (custody_at k r j).place) (sym of) ∙ with)) (subst (λ (z : ℕ). (written_at k r').next z ≡ (written_at k r).next z) (sym of) stays.next) (old.here l e);
        waits = λ e. (let w = old.waits (sym (word_stays t q low was now) ∙ e) in stays.behind w.0 (last_turn q) of w.1);
      }

  -- the slots, by what stays and by what is put
  pub slots_by : Agrees k r → ((t j : ℕ) (q : PackageView) → t < threads k → j < locks k → InSlot k r t q → InSlot k r' t q → Stays t j)
      → ((t j : ℕ) (q : PackageView) (place : Place) → t < threads k → j < locks k → InSlot k r' t q → Is (put q place) → q.context.thread ≡ t → IsShownIn k r' t q j)
      → (t j : ℕ) (q : PackageView) → t < threads k → j < locks k → InSlot k r' t q → IsShownIn k r' t q j
  slots_by a stays puts t j q low below now =
      ⊎_elim
      (λ (was : InSlot k r t q). shown_stays a t j q low below was now (stays t j q low below was now))
      (λ (z : WasPut t q). puts t j q z.0 low below now z.1 z.2)
      (lay_before t q now)
