-- The tie of lines over a whole order of a queue's calls and the machine's events.
use Rattle.std.proofs.Common.{◌≡◌, ◌⊎◌, ℕ, suc, ◌+◌, ◌==◌, not, Bool, true, false, cond, List, [], ◌∷◌, ◌++◌, length, length-append, refl, sym, ap, ◌∙◌, subst, ⊎_elim, inl, inr, append_assoc, append-nil, arith, Option, Some, None, eqb-true}
use Rattle.std.proofs.lemmas.Bool.{and_parts}
use Rattle.std.proofs.lemmas.List.{map-append}
use Rattle.std.proofs.lemmas.Option.{none-some, same_Some}
use mathlib.Core.Option.{some, some-ne-none}
use lib.ListN.{get_elem?}
use Rattle.atomic_table.proofs.Lists.{at_longer, at_last, at_snoc}
use Rattle.tc_elf.specs.Shown.{Shown}
use Rattle.tc_turn.specs.Turn.{next_lock}
use Rattle.tc_core.specs.Core.{Core, Limits}
use Rattle.tc_core.specs.declared.place.Custody.{Custody}
use Rattle.tc_core.specs.Lines.{is_second, rest_of}
use Rattle.tc_core.specs.Events.{is_enabled, effect, has_lock, is_thread, may_pass, adopts, entered, taken_by, passed_to, left_by_all, freed}
use Rattle.tc_core.specs.Stories.{AreEnabled, after_all}
use Rattle.tc_core.specs.declared.event.Event.{Event}
use Rattle.tc_core.specs.declared.event.Event.TheVariants.{Claim, Turn as Event_turn, Commit, Enter, Take, Ship, Adopt, Grant, Leave, Free, HandBack, Park, Finish}
use Rattle.tc_core.proofs.Lines.{enabled_front, enabled_back}
use Rattle.tc_core.proofs.Parts.{on_line, past_line}
use Rattle.tc_queue.specs.declared.turn.Turn.{Turn}
use Rattle.tc_queue.specs.declared.turn.Entered.TheVariants.{Behind}
use Rattle.tc_queue.specs.declared.turn.Leave.TheVariants.{Left, Followed}
use Rattle.tc_queue.specs.declared.turn.QueueCall.{QueueCall}
use Rattle.tc_queue.specs.declared.turn.QueueCall.TheVariants.{Enter as Did_enter, Link as Did_link, Next as Did_ask, Leave as Did_leave}
use Rattle.tc_queue.specs.Calls.{answer_to_enter, is_last}
use Rattle.tc_queue.specs.Laws as queue
use Rattle.tc_queue.specs.Laws.{Shows}
use Rattle.tc_queue.specs.Order.{Plain, Made, IsLegal, MayCome, queue_after, plain_after, calls_of}
use Rattle.tc_queue.proofs.Orders.{WasEntered, served, threads_of}
use Rattle.tc_combiner.specs.Ties.{line_of}
use Rattle.tc_combiner.proofs.Ties.{entered_line, left_line, enter_ties, leave_ties}
use Rattle.tc_lemmas.proofs.Tests.{eq_self}
use Rattle.tc_queue.specs.declared.board.SeatLog.{SeatLog}
use Rattle.tc_combiner.specs.Tails.{is_call, passes_on, events_of_call, Beat, Call, Other, events_of, calls_in, core_after, GoTogether, without_first, turns_past, turns_in, entry_of, entries_of, PassTie, OrderTie, TurnsTie, NextTie}
use Rattle.tc_hall.proofs.Turns.{tail_followed, turn_second}
use Rattle.tc_hall.proofs.Through.{after_more}

-- ---- what events do to a line

-- the custody of one lock changed
one_changed : (c : Core) (lock k : ℕ) (x : Custody) (f : List ℕ → List ℕ) → x.line ≡ f (line_of c k) → (cond (lock == k) x (c.custody lock)).line ≡ cond (lock == k) (f (line_of c lock)) (line_of c lock)
one_changed c lock k x f same = by_lock (lock == k) refl
  where
    by_lock : (b : Bool) → (lock == k) ≡ b → (cond b x (c.custody lock)).line ≡ cond b (f (line_of c lock)) (line_of c lock)
    by_lock true is = same ∙ ap (λ (j : ℕ). f (line_of c j)) (sym (eqb-true lock k is))
    by_lock false is = refl

either : (b : Bool) (l : List ℕ) → cond b l l ≡ l
either true l = refl
either false l = refl

-- but for Enter and Leave an event takes the front out, or leaves the line as it is
other_line : (image : Shown) (c : Core) (lock : ℕ) (e : Event) → is_call lock e ≡ false → line_of (effect image c e) lock ≡ cond (passes_on lock e) (rest_of (line_of c lock)) (line_of c lock)
unfolding effect
other_line image c lock (Claim w t) other = refl
other_line image c lock (Event_turn w t) other = on_line (next_lock image (c.machine.threads t)) t lock (c.custody lock)
other_line image c lock (Commit w t) other = past_line w t _ _ (c.custody lock)
other_line image c lock (Enter w t k) other = ap (λ (b : Bool). (cond b (entered (c.custody k) t) (c.custody lock)).line) other
other_line image c lock (Take w t k) other = one_changed c lock k (taken_by (c.custody k) t) (λ l. l) refl ∙ either (lock == k) (line_of c lock)
other_line image c lock (Ship w t k) other = refl
other_line image c lock (Adopt w t k) other = one_changed c lock k (passed_to (c.custody k) t ((c.custody k).run + 1)) rest_of refl
other_line image c lock (Grant w t k) other = one_changed c lock k (passed_to (c.custody k) t 0) rest_of refl
other_line image c lock (Leave w k) other = ap (λ (b : Bool). (cond b (left_by_all (c.custody k)) (c.custody lock)).line) other
other_line image c lock (Free w k) other = one_changed c lock k (freed (c.custody k)) (λ l. l) refl ∙ either (lock == k) (line_of c lock)
other_line image c lock (HandBack w t) other = refl
other_line image c lock (Park w t) other = refl
other_line image c lock (Finish w t) other = refl

-- who may be passed a lock is the second of its line
second_of : (image : Shown) (limits : Limits) (c : Core) (w t lock : ℕ) → may_pass image limits c w t lock ≡ true → is_second (line_of c lock) t ≡ true
second_of image limits c w t lock e =
    let a = (and_parts (has_lock image limits c w lock) _ e).1 in
    let b = (and_parts (not (c.custody lock).left) _ a).1 in
    let d = (and_parts (is_thread image t) _ b).1 in
    (and_parts (is_second (line_of c lock) t) _ d).0

passed_second : (image : Shown) (limits : Limits) (c : Core) (e : Event) (lock : ℕ) → passes_on lock e ≡ true → is_enabled image limits c e ≡ true → (t : ℕ) × (is_second (line_of c lock) t ≡ true)
unfolding is_enabled
passed_second image limits c (Adopt w t k) lock here on =
    (t, ap (λ (j : ℕ). is_second (line_of c j) t) (eqb-true lock k here) ∙ second_of image limits c w t k (and_parts (may_pass image limits c w t k) (adopts limits c k) on).0)
passed_second image limits c (Grant w t k) lock here on =
    (t, ap (λ (j : ℕ). is_second (line_of c j) t) (eqb-true lock k here) ∙ second_of image limits c w t k (and_parts (may_pass image limits c w t k) (not (adopts limits c k)) on).0)
passed_second image limits c e lock here on = absurd (let n : ⊥ = cc in n)

-- a tail that shows a line of two or more shows it without its first
shows_rest : (tail : Option Turn) (line : List ℕ) (t : ℕ) → is_second line t ≡ true → Shows tail line → Shows tail (rest_of line)
shows_rest tail [] t two is = absurd (let n : ⊥ = cc in n)
shows_rest tail (a ∷ []) t two is = absurd (let n : ⊥ = cc in n)
shows_rest None (a ∷ b ∷ line) t two is = absurd (cc is)
shows_rest (Some u) (a ∷ b ∷ line) t two ([], same) = absurd (cc same)
shows_rest (Some u) (a ∷ b ∷ line) t two (x ∷ front, same) = (front, ap rest_of same)

not_call : (lock : ℕ) (e : Event) → passes_on lock e ≡ true → is_call lock e ≡ false
not_call lock (Adopt w t k) here = refl
not_call lock (Grant w t k) here = refl
not_call lock e here = absurd (let n : ⊥ = cc in n)

pub pass_tie : PassTie
pass_tie image limits c e lock tail here on shows =
    let two = passed_second image limits c e lock here on in
    subst (Shows tail) (sym (other_line image c lock e (not_call lock e here) ∙ ap (λ (b : Bool). cond b (rest_of (line_of c lock)) (line_of c lock)) here)) (shows_rest tail (line_of c lock) two.0 two.1 shows)

-- ---- a whole order

-- what is so of a list of beats is so of those before the latest
without_call : (image : Shown) (limits : Limits) (c : Core) (n lock w : ℕ) (m : Made) (before : List Beat) → GoTogether image limits c n lock (Call w m ∷ before) → GoTogether image limits c n lock before
without_call image limits c n lock w m before g = record { empty = g.empty; legal = g.legal.1; enabled = enabled_front image limits (events_of lock before) (events_of_call lock w m.call) c g.enabled; others = g.others }

without_other : (image : Shown) (limits : Limits) (c : Core) (n lock : ℕ) (e : Event) (before : List Beat) → GoTogether image limits c n lock (Other e ∷ before) → GoTogether image limits c n lock before
without_other image limits c n lock e before g = record { empty = g.empty; legal = g.legal; enabled = enabled_front image limits (events_of lock before) (e ∷ []) c g.enabled; others = g.others.1 }

pub order_tie : queue.EnterTie → queue.LeaveTie → OrderTie
order_tie enter leave image limits c n lock [] g = g.empty
order_tie enter leave image limits c n lock (Call w m ∷ before) g =
    subst (λ (d : Core). Shows (plain_after q m.call).tail (line_of d lock)) (sym (after_more image c (events_of lock before) (events_of_call lock w m.call)))
    (by_call m.call g.legal.0 (enabled_back image limits (events_of lock before) (events_of_call lock w m.call) c g.enabled) (order_tie enter leave image limits c n lock before (without_call image limits c n lock w m before g)))
  where
    q : Plain
    q = queue_after (calls_in before)

    core : Core
    core = core_after image c lock before

    v : SeatLog
    v = record { threads = n; calls = [] }

    by_call : (a : QueueCall) → MayCome n q (calls_of m.seat (calls_in before)) a → AreEnabled image limits core (events_of_call lock w a) → Shows q.tail (line_of core lock) → Shows (plain_after q a).tail (line_of (after_all image core (events_of_call lock w a)) lock)
    by_call (Did_enter u a) may on is = (enter_ties enter image limits core w lock u q.tail v is on.0).shows
    by_call (Did_link b u) may on is = is
    by_call (Did_ask u a) may on is = is
    by_call (Did_leave u Left) may on is = leave_ties leave image limits core w lock u q.tail v is on.0 (sym may.1)
    by_call (Did_leave u (Followed found)) may on is = subst (λ (z : Option Turn). Shows z (line_of core lock)) (sym (tail_followed u q.tail found may.1)) is
order_tie enter leave image limits c n lock (Other e ∷ before) g =
    subst (λ (d : Core). Shows (queue_after (calls_in before)).tail (line_of d lock)) (sym (after_more image c (events_of lock before) (e ∷ [])))
    (by_pass (passes_on lock e) refl (order_tie enter leave image limits c n lock before (without_other image limits c n lock e before g)))
  where
    core : Core
    core = core_after image c lock before

    by_pass : (b : Bool) → passes_on lock e ≡ b → Shows (queue_after (calls_in before)).tail (line_of core lock) → Shows (queue_after (calls_in before)).tail (line_of (effect image core e) lock)
    by_pass true here is = pass_tie image limits core e lock (queue_after (calls_in before)).tail here (enabled_back image limits (events_of lock before) (e ∷ []) c g.enabled).0 is
    by_pass false here is = subst (Shows (queue_after (calls_in before)).tail) (sym (other_line image core lock e g.others.0 ∙ ap (λ (b : Bool). cond b (rest_of (line_of core lock)) (line_of core lock)) here)) is

-- ---- the turns in the line

rest_is : (us : List Turn) → rest_of (threads_of us) ≡ threads_of (without_first us)
rest_is [] = refl
rest_is (u ∷ us) = refl

pub turns_tie : TurnsTie
turns_tie image limits c n lock [] g = g.empty
turns_tie image limits c n lock (Call w m ∷ before) g =
    ap (λ (d : Core). line_of d lock) (after_more image c (events_of lock before) (events_of_call lock w m.call)) ∙ by_call m.call (turns_tie image limits c n lock before (without_call image limits c n lock w m before g))
  where
    core : Core
    core = core_after image c lock before

    us : List Turn
    us = turns_in lock before

    by_call : (a : QueueCall) → line_of core lock ≡ threads_of us → line_of (after_all image core (events_of_call lock w a)) lock ≡ threads_of (turns_past a us)
    by_call (Did_enter u a) is = entered_line image core w u.thread lock ∙ (ap (λ (l : List ℕ). l ++ u.thread ∷ []) is ∙ sym (map-append (λ (x : Turn). x.thread) us (u ∷ [])))
    by_call (Did_link b u) is = is
    by_call (Did_ask u a) is = is
    by_call (Did_leave u Left) is = left_line image core w lock
    by_call (Did_leave u (Followed found)) is = is
turns_tie image limits c n lock (Other e ∷ before) g =
    ap (λ (d : Core). line_of d lock) (after_more image c (events_of lock before) (e ∷ []))
    ∙ (other_line image core lock e g.others.0 ∙ by_pass (passes_on lock e) (turns_tie image limits c n lock before (without_other image limits c n lock e before g)))
  where
    core : Core
    core = core_after image c lock before

    us : List Turn
    us = turns_in lock before

    by_pass : (b : Bool) → line_of core lock ≡ threads_of us → cond b (rest_of (line_of core lock)) (line_of core lock) ≡ threads_of (cond b (without_first us) us)
    by_pass true is = ap rest_of is ∙ rest_is us
    by_pass false is = is

-- ---- who entered behind whom

-- the turn at the tail entered last
entered_last : (n : ℕ) (order : List Made) (t : Turn) → IsLegal n order → (queue_after order).tail ≡ Some t → (front : List Turn) × (entries_of order ≡ front ++ t ∷ [])
entered_last n [] t legal e = absurd (none-some t e)
entered_last n (m ∷ before) t legal e = by_call m.call e (entered_last n before t legal.1)
  where
    q : Plain
    q = queue_after before

    by_call : (a : QueueCall) → (plain_after q a).tail ≡ Some t → (q.tail ≡ Some t → (front : List Turn) × (entries_of before ≡ front ++ t ∷ [])) → (front : List Turn) × (entries_of before ++ entry_of a ≡ front ++ t ∷ [])
    by_call (Did_enter u a) is earlier = (entries_of before, ap (λ (x : Turn). entries_of before ++ x ∷ []) (same_Some u t is))
    by_call (Did_link b u) is earlier = let r = earlier is in (r.0, append-nil (entries_of before) ∙ r.1)
    by_call (Did_ask u a) is earlier = let r = earlier is in (r.0, append-nil (entries_of before) ∙ r.1)
    by_call (Did_leave u a) is earlier = by_last (is_last u q.tail) is
      where
        by_last : (b : Bool) → cond b None q.tail ≡ Some t → (front : List Turn) × (entries_of before ++ [] ≡ front ++ t ∷ [])
        by_last true none = absurd (none-some t none)
        by_last false still = let r = earlier still in (r.0, append-nil (entries_of before) ∙ r.1)

was_before : (m : Made) (before : List Made) (u b : Turn) → WasEntered (m ∷ before) u b → WasEntered before u b ⊎ (m.call ≡ Did_enter u (Behind b))
was_before m before u b (id, (i, at)) = by_seat (m.seat == id) at
  where
    by_seat : (v : Bool) → get_elem? (cond v (calls_of id before ++ m.call ∷ []) (calls_of id before)) i ≡ some (Did_enter u (Behind b)) → WasEntered before u b ⊎ (m.call ≡ Did_enter u (Behind b))
    by_seat true here = ⊎_elim
        (λ (h : get_elem? (calls_of id before) i ≡ some (Did_enter u (Behind b))). inl (id, (i, h)))
        (λ (h : m.call ≡ Did_enter u (Behind b)). inr h)
        (at_snoc (calls_of id before) m.call (Did_enter u (Behind b)) i here)
    by_seat false here = inl (id, (i, here))

tail_found : (tail : Option Turn) (b : Turn) → Behind b ≡ answer_to_enter tail → tail ≡ Some b
tail_found None b e = absurd (cc e)
tail_found (Some x) b e = cc e

-- who entered behind another stands right behind it among those who entered
abbrev pub AreNeighbours : List Turn → Turn → Turn → Type 0
AreNeighbours us b u = (i : ℕ) × (get_elem? us i ≡ some b) × (get_elem? us (suc i) ≡ some u)

neighbours : (n : ℕ) (order : List Made) (u b : Turn) → IsLegal n order → WasEntered order u b → AreNeighbours (entries_of order) b u
neighbours n [] u b legal was = absurd (some-ne-none (Did_enter u (Behind b)) (sym was.1.1))
neighbours n (m ∷ before) u b legal was = ⊎_elim
    (λ (h : WasEntered before u b).
    let r = neighbours n before u b legal.1 h in
    (r.0, at_longer (entries_of before) (entry_of m.call) r.0 b r.1, at_longer (entries_of before) (entry_of m.call) (suc r.0) u r.2))
    (λ (h : m.call ≡ Did_enter u (Behind b)).
    let may = subst (MayCome n (queue_after before) (calls_of m.seat before)) h legal.0 in
    let last = entered_last n before b legal.1 (tail_found (queue_after before).tail b may.1) in
    let list : entries_of before ++ entry_of m.call ≡ (last.0 ++ b ∷ []) ++ u ∷ [] = (λ i. last.1 i ++ entry_of (h i)) in (
      length last.0,
      ap (λ (l : List Turn). get_elem? l (length last.0)) list ∙ at_longer (last.0 ++ b ∷ []) (u ∷ []) (length last.0) b (at_last last.0 b (length last.0) refl),
      ap (λ (l : List Turn). get_elem? l (suc (length last.0))) list ∙ at_last (last.0 ++ b ∷ []) u (suc (length last.0)) (length-append last.0 (b ∷ []) ∙ omega arith),
    ))
    (was_before m before u b was)

-- ---- whom `next` answers

-- those who stand in the line are the last of those who entered
in_line : (lock : ℕ) (beats : List Beat) → (front : List Turn) × (front ++ turns_in lock beats ≡ entries_of (calls_in beats))
in_line lock [] = ([], refl)
in_line lock (Call w m ∷ before) = by_call m.call (in_line lock before)
  where
    us : List Turn
    us = turns_in lock before

    all : List Turn
    all = entries_of (calls_in before)

    by_call : (a : QueueCall) → (front : List Turn) × (front ++ us ≡ all) → (front : List Turn) × (front ++ turns_past a us ≡ all ++ entry_of a)
    by_call (Did_enter u a) is = (is.0, sym (append_assoc is.0 us (u ∷ [])) ∙ ap (λ (l : List Turn). l ++ u ∷ []) is.1)
    by_call (Did_link b u) is = (is.0, is.1 ∙ sym (append-nil all))
    by_call (Did_ask u a) is = (is.0, is.1 ∙ sym (append-nil all))
    by_call (Did_leave u Left) is = (all, refl)
    by_call (Did_leave u (Followed found)) is = (is.0, is.1 ∙ sym (append-nil all))
in_line lock (Other e ∷ before) = by_pass (passes_on lock e) (turns_in lock before) (in_line lock before)
  where
    all : List Turn
    all = entries_of (calls_in before)

    by_pass : (b : Bool) (us : List Turn) → (front : List Turn) × (front ++ us ≡ all) → (front : List Turn) × (front ++ cond b (without_first us) us ≡ all)
    by_pass true [] is = is
    by_pass true (u ∷ us) is = (is.0 ++ u ∷ [], append_assoc is.0 (u ∷ []) us ∙ is.1)
    by_pass false us is = is

at_shift : (front us : List Turn) (i : ℕ) → get_elem? (front ++ us) (length front + i) ≡ get_elem? us i
at_shift [] us i = let e : 0 + i ≡ i = omega arith in ap (get_elem? us) e
at_shift (x ∷ front) us i = let e : suc (length front) + i ≡ suc (length front + i) = omega arith in ap (get_elem? (x ∷ front ++ us)) e ∙ at_shift front us i

pub next_tie : NextTie
next_tie image limits c n lock w m before g once u x asked first =
    let order = calls_in before in
    let said : get_elem? (calls_of m.seat (m ∷ order)) (length (calls_of m.seat order)) ≡ some (Did_ask u (Some x)) =
    ap (λ (b : Bool). get_elem? (cond b (calls_of m.seat order ++ m.call ∷ []) (calls_of m.seat order)) (length (calls_of m.seat order))) (eq_self m.seat)
    ∙ (at_last (calls_of m.seat order) m.call (length (calls_of m.seat order)) refl ∙ ap some asked) in
    let r = neighbours n (m ∷ order) x u g.legal (served n (m ∷ order) m.seat (length (calls_of m.seat order)) u x g.legal said) in
    let same : entries_of (m ∷ order) ≡ entries_of order = ap (λ (a : QueueCall). entries_of order ++ entry_of a) asked ∙ append-nil (entries_of order) in
    let line = in_line lock before in
    let at : (i : ℕ) → get_elem? (entries_of order) (length line.0 + i) ≡ get_elem? (turns_in lock before) i = λ i. ap (λ (l : List Turn). get_elem? l (length line.0 + i)) (sym line.1) ∙ at_shift line.0 (turns_in lock before) i in
    let here : r.0 ≡ length line.0 + 0 = once r.0 (length line.0 + 0) u (ap (λ (l : List Turn). get_elem? l r.0) (sym same) ∙ r.1) (at 0 ∙ first) in
    let later : length line.0 + 1 ≡ suc r.0 = (let h = here in omega arith) in
    let second : get_elem? (turns_in lock before) 1 ≡ some x = sym (at 1) ∙ (ap (get_elem? (entries_of order)) later ∙ (ap (λ (l : List Turn). get_elem? l (suc r.0)) (sym same) ∙ r.2)) in
    ap (λ (l : List ℕ). is_second l x.thread) (turns_tie image limits c n lock before (without_call image limits c n lock w m before g)) ∙ turn_second (turns_in lock before) x second
