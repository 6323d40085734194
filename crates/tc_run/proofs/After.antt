-- What an operation makes of the machine and of the next blocks, as a function of the operation.
use Rattle.std.proofs.Common.{◌≡◌, ◌≢◌, ℕ, zero, suc, ◌+◌, ◌==◌, Bool, true, false, if◌then◌else◌, List, [], ◌∷◌, ◌++◌, replicate, length, set, ⊎_elim, ◌⊎◌, inl, inr, refl, sym, ap, ◌∙◌, eq-eqb, ne_eqb, eqb-true, Option, Some, None}
use Rattle.std.proofs.lemmas.List.{append-nil}
use Rattle.tc_isa.specs.Sets.{has}
use Rattle.tc_elf.specs.Shown.{Shown}
use Rattle.tc_journal.specs.declared.block.Block.{Block}
use Rattle.tc_segment.specs.View.{LockView}
use Rattle.tc_context.specs.View.{PackageView}
use Rattle.tc_queue.specs.declared.turn.Turn.{Turn}
use Rattle.tc_queue.specs.declared.turn.Entered.{Entered}
use Rattle.tc_queue.specs.Order.{Plain, plain_after}
use Rattle.tc_queue.specs.declared.turn.Leave.TheVariants.{Left, Followed}
use Rattle.tc_queue.specs.declared.turn.QueueCall.{QueueCall}
use Rattle.tc_queue.specs.declared.turn.QueueCall.TheVariants.{Enter as Did_enter, Link as Did_link, Next as Did_ask, Leave as Did_leave}
use Rattle.tc_core.specs.Core.{Core}
use Rattle.tc_core.specs.Events.{adopts, effect, entered as line_entered, freed, left_by_all, passed_to, taken_by}
use Rattle.tc_core.specs.declared.place.Custody.{Custody}
use Rattle.tc_core.specs.declared.event.Event.{Event}
use Rattle.tc_core.specs.declared.event.Event.TheVariants.{Enter, Leave, Free, Adopt, Grant as Grant_to, Claim, Turn as Turn_of, Commit}
use Rattle.tc_told.specs.declared.writer.Beginning.{Beginning}
use Rattle.tc_journal.specs.declared.block.Kind.TheVariants.{Adopted, Granted, On}
use Rattle.tc_told.specs.Written.{Written, first_written, write, write_all}
use Rattle.tc_told.proofs.Leads.{write_all-append}
use Rattle.tc_hall.specs.declared.board.HallTerms.{HallTerms}
use Rattle.tc_hall.specs.declared.board.Knows.{Knows}
use Rattle.tc_hall.specs.declared.place.Place.{Place}
use Rattle.tc_hall.specs.declared.place.Place.TheVariants.{Ready, Parked, Waiting, Done}
use Rattle.tc_hall.specs.Places.{place_of}
use Rattle.tc_hall.specs.Standing.{Standing, away, entered, granted, held, loose, followed, closed}
use Rattle.tc_hall.specs.Order.{Operation, claim, take, miss, commit, put, free, line, look, stop, stopped, reach, lay, split, join, Made, after_operation, line_after}
use Rattle.tc_hall.specs.Ties.{after_events, machine_limits}
use Rattle.tc_hall.specs.Lift.{Beat, operation, events_of, start_of}
use mathlib.Core.Option.{some, some-injective, some-ne-none}
use lib.ListN.{get_elem?}
use Rattle.atomic_table.proofs.Lists.{at_set}
use Rattle.tc_hall.specs.Effects.{Hall}
use Rattle.tc_hall.specs.Rule.{HasLock}
use Rattle.tc_hall.specs.Steps.{dealt, fresh, gone, merged}
use Rattle.tc_run.specs.Run.{beats_of, claim_events, core_in, entered_by, events_at, events_in, line_beats, line_past, put_event, take_events, queue_past, waits_at, without_first}
use Rattle.tc_core.proofs.Parts.{on_line}
use Rattle.tc_core.proofs.Quiet.{pick_mine}
use Rattle.tc_hall.proofs.Through.{after_more}

-- ---- what an operation concerns

-- the line of lock i, or where the lock is
abbrev pub concerns : ℕ → Operation → Bool
concerns i (claim t word q) = waits_at i (place_of word)
concerns i (take j l) = j == i
concerns i (commit stamp b q) = has b.held i
concerns i (free l) = l.number == i
concerns i (line j c) = j == i
concerns i o = false

-- its events, and those of its call on a line
abbrev pub steps_of : HallTerms → Core → Knows → Operation → List Event
steps_of k c v (line i (Did_enter u e)) = Enter v.worker u.thread i ∷ []
steps_of k c v (line i (Did_leave u Left)) = Leave v.worker i ∷ []
steps_of k c v o = events_at k c v o

events_by : (k : HallTerms) (m : Made) (c : Core) (o : Operation) (bs : List Beat) → events_of (line_beats m.knew.worker o ++ operation m (events_at k c m.knew o) ∷ bs) ≡ events_of bs ++ steps_of k c m.knew o
events_by k m c (line i (Did_enter u e)) bs = ap (λ (es : List Event). es ++ Enter m.knew.worker u.thread i ∷ []) (append-nil (events_of bs))
events_by k m c (line i (Did_leave u Left)) bs = ap (λ (es : List Event). es ++ Leave m.knew.worker i ∷ []) (append-nil (events_of bs))
events_by k m c (line i (Did_leave u (Followed tail))) bs = refl
events_by k m c (line i (Did_link b u)) bs = refl
events_by k m c (line i (Did_ask u x)) bs = refl
events_by k m c (claim t word q) bs = refl
events_by k m c (take i l) bs = refl
events_by k m c (miss word wanted found) bs = refl
events_by k m c (commit stamp b q) bs = refl
events_by k m c (put q place) bs = refl
events_by k m c (free l) bs = refl
events_by k m c (look t found) bs = refl
events_by k m c stop bs = refl
events_by k m c (stopped found) bs = refl
events_by k m c (reach slot) bs = refl
events_by k m c (lay slot) bs = refl
events_by k m c split bs = refl
events_by k m c (join other w) bs = refl

pub core_then : (k : HallTerms) (m : Made) (before : List Made) → core_in k (m ∷ before) ≡ after_events k (core_in k before) (steps_of k (core_in k before) m.knew m.operation)
core_then k m before =
    ap (after_events k (start_of k)) (events_by k m (core_in k before) m.operation (beats_of k before))
    ∙ after_more k.image.value (start_of k) (events_in k before) (steps_of k (core_in k before) m.knew m.operation)

pub written_then : (k : HallTerms) (m : Made) (before : List Made) → write_all k.image.value (first_written k.image.value k.fuel) (events_in k (m ∷ before)) ≡ write_all k.image.value (write_all k.image.value (first_written k.image.value k.fuel) (events_in k before)) (steps_of k (core_in k before) m.knew m.operation)
written_then k m before =
    ap (write_all k.image.value (first_written k.image.value k.fuel)) (events_by k m (core_in k before) m.operation (beats_of k before))
    ∙ write_all-append k.image.value (events_in k before) (steps_of k (core_in k before) m.knew m.operation) (first_written k.image.value k.fuel)

-- ---- tests

pub if_not : {A : Type 0} (b : Bool) (x y : A) → b ≡ false → (if b then x else y) ≡ y
if_not {A} b x y e = ap (λ (z : Bool). if z then x else y) e

pub other_way : (i j : ℕ) → (j == i) ≡ false → (i == j) ≡ false
other_way i j e = ne_eqb i j (λ (same : i ≡ j). let f : true ≡ false = sym (eq-eqb j i (sym same)) ∙ e in let n : ⊥ = cc f in n)

pub either : {A : Type 0} (b : Bool) (x : A) → (if b then x else x) ≡ x
either true x = refl
either false x = refl

-- ---- a lock that it doesn't concern

pass_else : (k : HallTerms) (c : Core) (w t i j : ℕ) (b : Bool) → (j == i) ≡ false → (after_events k c (if b then Adopt w t j ∷ [] else Grant_to w t j ∷ Claim w t ∷ [])).custody i ≡ c.custody i
unfolding effect
pass_else k c w t i j true e = if_not (i == j) (passed_to (c.custody j) t ((c.custody j).run + 1)) (c.custody i) (other_way i j e)
pass_else k c w t i j false e = if_not (i == j) (passed_to (c.custody j) t 0) (c.custody i) (other_way i j e)

claim_else : (k : HallTerms) (c : Core) (w t i : ℕ) (place : Place) → waits_at i place ≡ false → (after_events k c (claim_events k c w t place)).custody i ≡ c.custody i
unfolding effect
claim_else k c w t i Ready e = refl
claim_else k c w t i Parked e = refl
claim_else k c w t i Done e = refl
claim_else k c w t i (Waiting j) e = pass_else k c w t i j (adopts (machine_limits k) c j) e

take_else : (k : HallTerms) (c : Core) (w i j : ℕ) (s : Standing) → (j == i) ≡ false → (after_events k c (take_events w j s)).custody i ≡ c.custody i
unfolding effect
take_else k c w i j (entered u None) e = if_not (i == j) _ (c.custody i) (other_way i j e)
take_else k c w i j (entered u (Some b)) e = refl
take_else k c w i j away e = refl
take_else k c w i j (granted u kind) e = refl
take_else k c w i j (held u) e = refl
take_else k c w i j (loose u) e = refl
take_else k c w i j (followed u x) e = refl
take_else k c w i j (closed u) e = refl

put_else : (k : HallTerms) (c : Core) (w t i : ℕ) (place : Place) → (after_events k c (put_event w t place ∷ [])).custody i ≡ c.custody i
unfolding effect
put_else k c w t i Ready = refl
put_else k c w t i Parked = refl
put_else k c w t i Done = refl
put_else k c w t i (Waiting j) = refl

abbrev pub IsCommit : Operation → Type 0
IsCommit o = (stamp : ℕ) × (b : Block) × (q : PackageView) × (o ≡ commit stamp b q)

pub custody_else : (k : HallTerms) (c : Core) (v : Knows) (o : Operation) (i : ℕ) → (IsCommit o → ⊥) → concerns i o ≡ false → (after_events k c (steps_of k c v o)).custody i ≡ c.custody i
unfolding effect
custody_else k c v (claim t word q) i seals e = claim_else k c v.worker t i (place_of word) e
custody_else k c v (take j l) i seals e = take_else k c v.worker i j _ e
custody_else k c v (commit stamp b q) i seals e = absurd (seals (stamp, b, q, refl))
custody_else k c v (put q place) i seals e = put_else k c v.worker q.context.thread i place
custody_else k c v (free l) i seals e = if_not (i == l.number) _ (c.custody i) (other_way i l.number e)
custody_else k c v (line j (Did_enter u a)) i seals e = if_not (i == j) _ (c.custody i) (other_way i j e)
custody_else k c v (line j (Did_leave u Left)) i seals e = if_not (i == j) _ (c.custody i) (other_way i j e)
custody_else k c v (line j (Did_leave u (Followed tail))) i seals e = refl
custody_else k c v (line j (Did_link b u)) i seals e = refl
custody_else k c v (line j (Did_ask u x)) i seals e = refl
custody_else k c v (miss word wanted found) i seals e = refl
custody_else k c v (look t found) i seals e = refl
custody_else k c v stop i seals e = refl
custody_else k c v (stopped found) i seals e = refl
custody_else k c v (reach slot) i seals e = refl
custody_else k c v (lay slot) i seals e = refl
custody_else k c v split i seals e = refl
custody_else k c v (join other w) i seals e = refl

pub line_else : (o : Operation) (i : ℕ) (us : List Turn) → ((IsCommit o → ⊥) → concerns i o ≡ false) → line_past i o us ≡ us
line_else (claim t word q) i us e = if_not (waits_at i (place_of word)) (without_first us) us (e (λ s. let f = s.3 in let n : ⊥ = cc f in n))
line_else (line j c) i us e = if_not (j == i) (queue_past c us) us (e (λ s. let f = s.3 in let n : ⊥ = cc f in n))
line_else (take j l) i us e = refl
line_else (commit stamp b q) i us e = refl
line_else (put q place) i us e = refl
line_else (free l) i us e = refl
line_else (miss word wanted found) i us e = refl
line_else (look t found) i us e = refl
line_else stop i us e = refl
line_else (stopped found) i us e = refl
line_else (reach slot) i us e = refl
line_else (lay slot) i us e = refl
line_else split i us e = refl
line_else (join other w) i us e = refl

-- ---- the lock that it does

pub take_custody : (k : HallTerms) (c : Core) (w i : ℕ) (u : Turn) → (after_events k c (take_events w i (entered u None))).custody i ≡ taken_by (c.custody i) u.thread
unfolding effect
take_custody k c w i u = pick_mine i (taken_by (c.custody i) u.thread) (c.custody i)

pub free_custody : (k : HallTerms) (c : Core) (w i : ℕ) → (after_events k c (Free w i ∷ [])).custody i ≡ freed (c.custody i)
unfolding effect
free_custody k c w i = pick_mine i (freed (c.custody i)) (c.custody i)

pub enter_custody : (k : HallTerms) (c : Core) (w t i : ℕ) → (after_events k c (Enter w t i ∷ [])).custody i ≡ line_entered (c.custody i) t
unfolding effect
enter_custody k c w t i = pick_mine i (line_entered (c.custody i) t) (c.custody i)

pub leave_custody : (k : HallTerms) (c : Core) (w i : ℕ) → (after_events k c (Leave w i ∷ [])).custody i ≡ left_by_all (c.custody i)
unfolding effect
leave_custody k c w i = pick_mine i (left_by_all (c.custody i)) (c.custody i)

-- what a claim of one that waits makes of the lock and of the thread's next block
pub record Passing (k : HallTerms) (c : Core) (s : Written) (t i : ℕ) (rule : Bool) (es : List Event) : Type 0 where
  pub run : ℕ
  pub custody : (after_events k c es).custody i ≡ passed_to (c.custody i) t run
  pub kind : ((write_all k.image.value s es).next t).kind ≡ (if rule then Adopted else Granted)

pub pass_custody : (k : HallTerms) (c : Core) (s : Written) (w t i : ℕ) (rule : Bool) → Passing k c s t i rule (if rule then Adopt w t i ∷ [] else Grant_to w t i ∷ Claim w t ∷ [])
unfolding effect
pass_custody k c s w t i true = record {
  run = (c.custody i).run + 1;
  custody = pick_mine i (passed_to (c.custody i) t ((c.custody i).run + 1)) (c.custody i);
  kind = ap (λ (z : Beginning). z.kind) (pick_mine t (record (s.next t) { kind = Adopted }) (s.next t));
}
pass_custody k c s w t i false = record {
  run = 0;
  custody = pick_mine i (passed_to (c.custody i) t 0) (c.custody i);
  kind = ap (λ (z : Beginning). z.kind) (pick_mine t (record (s.next t) { kind = Granted }) (s.next t));
}

-- ---- the next blocks

pub next_of_take : (image : Shown) (s : Written) (w t i : ℕ) (st : Standing) → ((u : Turn) → st ≡ entered u None → u.thread ≢ t) → (write_all image s (take_events w i st)).next t ≡ s.next t
next_of_take image s w t i (entered u None) not = if_not (t == u.thread) _ (s.next t) (ne_eqb t u.thread (λ (e : t ≡ u.thread). not u refl (sym e)))
next_of_take image s w t i (entered u (Some b)) not = refl
next_of_take image s w t i away not = refl
next_of_take image s w t i (granted u kind) not = refl
next_of_take image s w t i (held u) not = refl
next_of_take image s w t i (loose u) not = refl
next_of_take image s w t i (followed u x) not = refl
next_of_take image s w t i (closed u) not = refl

pub next_of_claim : (k : HallTerms) (c : Core) (s : Written) (w u t : ℕ) (place : Place) → ((i : ℕ) → place ≡ Waiting i → u ≢ t) → (write_all k.image.value s (claim_events k c w u place)).next t ≡ s.next t
next_of_claim k c s w u t Ready not = refl
next_of_claim k c s w u t Parked not = refl
next_of_claim k c s w u t Done not = refl
next_of_claim k c s w u t (Waiting j) not = by (adopts (machine_limits k) c j)
  where
    by : (b : Bool) → (write_all k.image.value s (if b then Adopt w u j ∷ [] else Grant_to w u j ∷ Claim w u ∷ [])).next t ≡ s.next t
    by true = if_not (t == u) _ (s.next t) (ne_eqb t u (λ (e : t ≡ u). not j refl (sym e)))
    by false = if_not (t == u) _ (s.next t) (ne_eqb t u (λ (e : t ≡ u). not j refl (sym e)))

pub next_of_put : (image : Shown) (s : Written) (w t : ℕ) (place : Place) → (write_all image s (put_event w t place ∷ [])).next ≡ s.next
next_of_put image s w t Ready = refl
next_of_put image s w t Parked = refl
next_of_put image s w t Done = refl
next_of_put image s w t (Waiting j) = refl

pub next_of_block : (image : Shown) (s : Written) (w u t n : ℕ) → u ≢ t → (write_all image s (replicate n (Turn_of w u) ++ Commit w u ∷ [])).next t ≡ s.next t
next_of_block image s w u t zero not = if_not (t == u) _ (s.next t) (ne_eqb t u (λ (e : t ≡ u). not (sym e)))
next_of_block image s w u t (suc n) not = next_of_block image (write image s (Turn_of w u)) w u t n not

pub next_by_block : (image : Shown) (s : Written) (w u n : ℕ) → ((write_all image s (replicate n (Turn_of w u) ++ Commit w u ∷ [])).next u).kind ≡ On
next_by_block image s w u zero = ap (λ (z : Beginning). z.kind) (pick_mine u (record { kind = On; pc = (s.core.machine.threads u).regs.pc }) (s.next u))
next_by_block image s w u (suc n) = next_by_block image (write image s (Turn_of w u)) w u n

-- ---- the lines

-- a turn that an operation adds to those that entered, if any
pub entered_none : (i : ℕ) (o : Operation) → ((u : Turn) (e : Entered) → o ≢ line i (Did_enter u e)) → entered_by i o ≡ []
entered_none i (line j (Did_enter u e)) never = by (j == i) refl
  where
    by : (b : Bool) → (j == i) ≡ b → (if b then u ∷ [] else []) ≡ []
    by true same = absurd (never u e (ap (λ (z : ℕ). line z (Did_enter u e)) (eqb-true j i same)))
    by false other = refl
entered_none i (line j (Did_link b u)) never = either (j == i) []
entered_none i (line j (Did_ask u x)) never = either (j == i) []
entered_none i (line j (Did_leave u x)) never = either (j == i) []
entered_none i (claim t word q) never = refl
entered_none i (take j l) never = refl
entered_none i (commit stamp b q) never = refl
entered_none i (put q place) never = refl
entered_none i (free l) never = refl
entered_none i (miss word wanted found) never = refl
entered_none i (look t found) never = refl
entered_none i stop never = refl
entered_none i (stopped found) never = refl
entered_none i (reach slot) never = refl
entered_none i (lay slot) never = refl
entered_none i split never = refl
entered_none i (join other w) never = refl

pub plain_else : (i : ℕ) (o : Operation) (q : Plain) → ((c : QueueCall) → o ≢ line i c) → line_after i o q ≡ q
plain_else i (line j c) q never = by (j == i) refl
  where
    by : (b : Bool) → (j == i) ≡ b → (if b then plain_after q c else q) ≡ q
    by true same = absurd (never c (ap (λ (z : ℕ). line z c) (eqb-true j i same)))
    by false other = refl
plain_else i (claim t word p) q never = refl
plain_else i (take j l) q never = refl
plain_else i (commit stamp b p) q never = refl
plain_else i (put p place) q never = refl
plain_else i (free l) q never = refl
plain_else i (miss word wanted found) q never = refl
plain_else i (look t found) q never = refl
plain_else i stop q never = refl
plain_else i (stopped found) q never = refl
plain_else i (reach slot) q never = refl
plain_else i (lay slot) q never = refl
plain_else i split q never = refl
plain_else i (join other w) q never = refl

-- a lock with the line of another, at another's place, has its own
line_if : (custody : ℕ → Custody) (x : Custody) (i j : ℕ) → x.line ≡ (custody j).line → (if i == j then x else custody i).line ≡ (custody i).line
line_if custody x i j e = by (i == j) refl
  where
    by : (b : Bool) → (i == j) ≡ b → (if b then x else custody i).line ≡ (custody i).line
    by true same = e ∙ ap (λ (z : ℕ). (custody z).line) (sym (eqb-true i j same))
    by false other = refl

pub take_line : (k : HallTerms) (c : Core) (w i j : ℕ) (s : Standing) → ((after_events k c (take_events w j s)).custody i).line ≡ (c.custody i).line
unfolding effect
take_line k c w i j (entered u None) = line_if c.custody (taken_by (c.custody j) u.thread) i j refl
take_line k c w i j (entered u (Some b)) = refl
take_line k c w i j away = refl
take_line k c w i j (granted u kind) = refl
take_line k c w i j (held u) = refl
take_line k c w i j (loose u) = refl
take_line k c w i j (followed u x) = refl
take_line k c w i j (closed u) = refl

pub free_line : (k : HallTerms) (c : Core) (w i j : ℕ) → ((after_events k c (Free w j ∷ [])).custody i).line ≡ (c.custody i).line
unfolding effect
free_line k c w i j = line_if c.custody (freed (c.custody j)) i j refl

past_line : (b : Bool) (x y : Custody) → y.line ≡ x.line → (if b then y else x).line ≡ x.line
past_line true x y e = e
past_line false x y e = refl

pub block_line : (k : HallTerms) (w t n i : ℕ) (c : Core) → ((after_events k c (replicate n (Turn_of w t) ++ Commit w t ∷ [])).custody i).line ≡ (c.custody i).line
unfolding effect
block_line k w t zero i c = past_line _ (c.custody i) _ refl
block_line k w t (suc n) i c = block_line k w t n i (effect k.image.value c (Turn_of w t)) ∙ on_line _ t i (c.custody i)

-- ---- the history

pub history_of_take : (image : Shown) (s : Written) (w i : ℕ) (st : Standing) → (write_all image s (take_events w i st)).history ≡ s.history
history_of_take image s w i (entered u None) = refl
history_of_take image s w i (entered u (Some b)) = refl
history_of_take image s w i away = refl
history_of_take image s w i (granted u kind) = refl
history_of_take image s w i (held u) = refl
history_of_take image s w i (loose u) = refl
history_of_take image s w i (followed u x) = refl
history_of_take image s w i (closed u) = refl

pub history_of_claim : (k : HallTerms) (c : Core) (s : Written) (w t : ℕ) (place : Place) → (write_all k.image.value s (claim_events k c w t place)).history ≡ s.history
history_of_claim k c s w t Ready = refl
history_of_claim k c s w t Parked = refl
history_of_claim k c s w t Done = refl
history_of_claim k c s w t (Waiting j) = by (adopts (machine_limits k) c j)
  where
    by : (b : Bool) → (write_all k.image.value s (if b then Adopt w t j ∷ [] else Grant_to w t j ∷ Claim w t ∷ [])).history ≡ s.history
    by true = refl
    by false = refl

pub history_of_put : (image : Shown) (s : Written) (w t : ℕ) (place : Place) → (write_all image s (put_event w t place ∷ [])).history ≡ s.history
history_of_put image s w t Ready = refl
history_of_put image s w t Parked = refl
history_of_put image s w t Done = refl
history_of_put image s w t (Waiting j) = refl

-- ---- the passes

view_more : (vs : List Knows) (w : Knows) (j : ℕ) (x : Knows) → get_elem? (vs ++ w ∷ []) j ≡ some x → (get_elem? vs j ≡ some x) ⊎ (w ≡ x)
view_more [] w zero x e = inr (some-injective w x e)
view_more [] w (suc j) x e = absurd (some-ne-none x (sym e))
view_more (y ∷ vs) w zero x e = inl e
view_more (y ∷ vs) w (suc j) x e = view_more vs w j x e

view_else : (vs : List Knows) (id j : ℕ) (w x : Knows) → j ≢ id → get_elem? (set vs id w) j ≡ some x → get_elem? vs j ≡ some x
view_else vs id j w x ne e = ⊎_elim (λ (z : (j ≡ id) × (w ≡ x)). absurd (ne z.0)) (λ (z : (j ≢ id) × (get_elem? vs j ≡ some x)). z.1) (at_set vs id j w x e)

-- another pass that is live after an operation was there before it, as it is, or is the one that was made
pub other_view : (k : HallTerms) (s : Hall) (id : ℕ) (v : Knows) (o : Operation) (j : ℕ) (x : Knows) → j ≢ id → x.spent ≡ false → get_elem? (after_operation k s id v o).views j ≡ some x → (get_elem? s.views j ≡ some x) ⊎ (fresh v ≡ x)
other_view k s id v split j x ne live e = ⊎_elim (λ (z : get_elem? (set s.views id (dealt v)) j ≡ some x). inl (view_else s.views id j (dealt v) x ne z)) (λ (z : fresh v ≡ x). inr z) (view_more (set s.views id (dealt v)) (fresh v) j x e)
other_view k s id v (join other w) j x ne live e = ⊎_elim
    (λ (z : (j ≡ other) × (gone ≡ x)). (let c : true ≡ false = ap (λ (y : Knows). y.spent) z.1 ∙ live in let n : ⊥ = cc c in absurd n))
    (λ (z : (j ≢ other) × (get_elem? (set s.views id (merged v w)) j ≡ some x)). inl (view_else s.views id j (merged v w) x ne z.1))
    (at_set (set s.views id (merged v w)) other j gone x e)
other_view k s id v (claim t word q) j x ne live e = inl (view_else s.views id j _ x ne e)
other_view k s id v (take i l) j x ne live e = inl (view_else s.views id j _ x ne e)
other_view k s id v (miss word wanted found) j x ne live e = inl (view_else s.views id j _ x ne e)
other_view k s id v (commit stamp b q) j x ne live e = inl (view_else s.views id j _ x ne e)
other_view k s id v (put q place) j x ne live e = inl (view_else s.views id j _ x ne e)
other_view k s id v (free l) j x ne live e = inl (view_else s.views id j _ x ne e)
other_view k s id v (look t found) j x ne live e = inl (view_else s.views id j _ x ne e)
other_view k s id v stop j x ne live e = inl (view_else s.views id j _ x ne e)
other_view k s id v (stopped found) j x ne live e = inl (view_else s.views id j _ x ne e)
other_view k s id v (line i c) j x ne live e = inl (view_else s.views id j _ x ne e)
other_view k s id v (reach slot) j x ne live e = inl (view_else s.views id j _ x ne e)
other_view k s id v (lay slot) j x ne live e = inl (view_else s.views id j _ x ne e)

no_locks : (n j : ℕ) (l : LockView) → get_elem? (replicate n None) j ≡ some (Some l) → ⊥
no_locks zero j l e = some-ne-none (Some l) (sym e)
no_locks (suc n) zero l e = (let f : None ≡ Some l = some-injective None (Some l) e in let n : ⊥ = cc f in n)
no_locks (suc n) (suc j) l e = no_locks n j l e

-- the one that was made has no lock
pub fresh_free : (v : Knows) (j : ℕ) (l : LockView) → HasLock (fresh v) j l → ⊥
fresh_free v j l h = no_locks (length v.locks) j l h

pub view_own : (vs : List Knows) (id : ℕ) (w x : Knows) → get_elem? (set vs id w) id ≡ some x → w ≡ x
view_own vs id w x e = ⊎_elim (λ (z : (id ≡ id) × (w ≡ x)). z.1) (λ (z : (id ≢ id) × (get_elem? vs id ≡ some x)). absurd (z.0 refl)) (at_set vs id id w x e)

pub lock_else : (ls : List (Option LockView)) (i j : ℕ) (w : Option LockView) (x : Option LockView) → j ≢ i → get_elem? (set ls i w) j ≡ some x → get_elem? ls j ≡ some x
lock_else ls i j w x ne e = ⊎_elim (λ (z : (j ≡ i) × (w ≡ x)). absurd (ne z.0)) (λ (z : (j ≢ i) × (get_elem? ls j ≡ some x)). z.1) (at_set ls i j w x e)

pub lock_gone : (ls : List (Option LockView)) (i : ℕ) (l : LockView) → get_elem? (set ls i None) i ≡ some (Some l) → ⊥
lock_gone ls i l e = ⊎_elim (λ (z : (i ≡ i) × (None ≡ Some l)). let f = z.1 in let n : ⊥ = cc f in n) (λ (z : (i ≢ i) × (get_elem? ls i ≡ some (Some l))). z.0 refl) (at_set ls i i None (Some l) e)
