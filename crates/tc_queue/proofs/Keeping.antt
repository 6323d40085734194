-- Each kind of step keeps the rule of the queue.
use Rattle.std.proofs.Common.{◌≡◌, ◌≢◌, ℕ, ◌+◌, ◌<◌, ◌==◌, Bool, cond, List, [], ◌∷◌, ◌++◌, All, length, set, sym, refl, ap, ◌∙◌, subst, ⊎_elim, arith, Option, Some, slice_index, length-set, length-append, get_or-set_other, get_or-set_same, eq-eqb, ne_eqb}
use Rattle.std.proofs.lemmas.List.Elements.{All-cons}
use mathlib.Core.Logic.{dite}
use mathlib.Core.Option.{none, some}
use native.Mathlib.Decide.{ℕ_discrete}
use prog.Atomic.{either}
use lib.ListN.{get_elem?}
use lib.Seq.{set-get_or}
use Rattle.atomic_table.specs.Table.{State, step, keeps, Allows, Splits}
use Rattle.atomic_table.proofs.Lists.{at_set, set_again}
use Rattle.tc_queue.specs.declared.turn.Turn.{Turn}
use Rattle.tc_queue.specs.declared.turn.QueueCall.{QueueCall}
use Rattle.tc_queue.specs.declared.turn.QueueCall.TheVariants.{Link}
use Rattle.tc_queue.specs.declared.board.SeatLog.{SeatLog}
use Rattle.tc_queue.specs.declared.words.Linked.{Linked}
use Rattle.tc_queue.specs.Words.{IsTurn, turn_at, turn_word, link_at, link_word}
use Rattle.tc_queue.specs.Calls.{answer_to_enter, answer_to_next, answer_to_leave, tail_without, with_call, IsTail, IsLink, MayLink}
use Rattle.tc_queue.specs.Order.{Plain, Made, plain_after, queue_after, calls_of, MayCome, tail_word, word_of_link, AreWords, log_beside, IsOrdered}
use Rattle.tc_queue.specs.Asked.{Ask, answered, enter, link, next, leave}
use Rattle.tc_queue.specs.Steps.{Asks}
use Rattle.tc_queue.proofs.Packed.{tail_back, link_back, word_without}
use Rattle.tc_queue.proofs.Orders.{IsSound, sound_after, no_calls}
use Rattle.tc_lemmas.proofs.Lists.{in_range, at_end}

-- ---- one call more

module _ (n : ℕ) (s : State ℕ SeatLog) (r : IsOrdered n s) (id : ℕ) (v : SeatLog) (at : get_elem? s.views id ≡ some v) where
  -- what the seat's list is by the order
  pub log_is : v ≡ record { threads = n; calls = calls_of id r.order }
  log_is = r.seats id v at

  pub sound : IsSound n (queue_after r.order)
  sound = sound_after n r.order r.legal

  pub adds : (c : QueueCall) (words : List ℕ) → MayCome n (queue_after r.order) v.calls c → AreWords n words (plain_after (queue_after r.order) c) → IsOrdered n record { words = words; homes = s.homes; views = set s.views id (with_call v c) }
  adds c words may are = record {
    few = r.few;
    order = made ∷ r.order;
    legal = (subst (λ (l : List QueueCall). MayCome n (queue_after r.order) l c) (ap (λ (z : SeatLog). z.calls) log_is) may, r.legal);
    words = are;
    seats = seats;
    made = All-cons (λ (m : Made). m.seat < length (set s.views id (with_call v c))) made r.order (subst (λ (k : ℕ). id < k) (sym (length-set s.views id (with_call v c))) (in_range s.views id v at)) (subst (λ (k : ℕ). All (λ (m : Made). m.seat < k) r.order) (sym (length-set s.views id (with_call v c))) r.made);
  }
    where
      made : Made
      made = record { seat = id; call = c }

      seats : (j : ℕ) (x : SeatLog) → get_elem? (set s.views id (with_call v c)) j ≡ some x → x ≡ record { threads = n; calls = calls_of j (made ∷ r.order) }
      seats j x e = ⊎_elim
          (λ (o : (j ≡ id) × (with_call v c ≡ x)). sym o.1
          ∙ (ap (λ (z : SeatLog). with_call z c) log_is
          ∙ (ap (λ (b : Bool). record { threads = n; calls = cond b (calls_of id r.order ++ c ∷ []) (calls_of id r.order) }) (sym (eq-eqb id id refl))
          ∙ ap (λ (k : ℕ). record { threads = n; calls = calls_of k (made ∷ r.order) }) (sym o.0))))
          (λ (o : (j ≢ id) × (get_elem? s.views j ≡ some x)). r.seats j x o.1
          ∙ ap (λ (b : Bool). record { threads = n; calls = cond b (calls_of j r.order ++ c ∷ []) (calls_of j r.order) }) (sym (ne_eqb id j (λ g. o.0 (sym g)))))
          (at_set s.views id j (with_call v c) x e)

-- ---- the words after a step

with_tail : (n : ℕ) (words : List ℕ) (q : Plain) (tail : Option Turn) (word : ℕ) → word ≡ tail_word tail → AreWords n words q → AreWords n (set words 0 word) (record q { tail = tail })
with_tail n words q tail word is are = record {
  count = length-set words 0 word ∙ are.count;
  tail = get_or-set_same words 0 word 0 (let c = are.count in omega arith) ∙ is;
  links = λ t h. get_or-set_other words 0 (t + 1) word 0 (λ e. omega arith) ∙ are.links t h;
}

with_link : (n : ℕ) (words : List ℕ) (q : Plain) (b u : Turn) (word : ℕ) → b.thread < n → word ≡ link_word (record { before = b.number; behind = u }) → AreWords n words q → AreWords n (set words (b.thread + 1) word) (plain_after q (Link b u))
with_link n words q b u word low is are = record {
  count = length-set words (b.thread + 1) word ∙ are.count;
  tail = get_or-set_other words (b.thread + 1) 0 word 0 (λ e. omega arith) ∙ are.tail;
  links = λ t h. dite (ℕ_discrete t b.thread)
      (λ (e : t ≡ b.thread). ap (λ (k : ℕ). slice_index (set words (b.thread + 1) word) (k + 1)) e
      ∙ (get_or-set_same words (b.thread + 1) word 0 (let c = are.count in omega arith)
      ∙ (is ∙ ap (λ (v : Bool). word_of_link (cond v (Some (record { before = b.number; behind = u })) (q.links t))) (sym (eq-eqb t b.thread e)))))
      (λ (ne : t ≢ b.thread). get_or-set_other words (b.thread + 1) (t + 1) word 0 (λ e. ne (omega arith))
      ∙ (are.links t h ∙ ap (λ (v : Bool). word_of_link (cond v (Some (record { before = b.number; behind = u })) (q.links t))) (sym (ne_eqb t b.thread ne))));
}

-- ---- the steps

module _ (n slots id : ℕ) (v : SeatLog) (c : List (ℕ × ℕ)) (ask : Ask) (u : Turn) where
  -- what is read of the tail and of a link is there
  module _ (s : State ℕ SeatLog) (r : IsOrdered n s) (at : get_elem? s.views id ≡ some v) where
    counted : n ≡ v.threads
    counted = sym (ap (λ (z : SeatLog). z.threads) (log_is n s r id v at))

    tail_read : turn_at (slice_index s.words 0) ≡ (queue_after r.order).tail
    tail_read = ap turn_at r.words.tail ∙ tail_back n (queue_after r.order).tail r.few (sound n s r id v at).tail

    tail_found : IsTail v.threads (turn_at (slice_index s.words 0))
    tail_found = subst (λ (z : ℕ × Option Turn). IsTail z.0 z.1) (λ i. (counted i, sym tail_read i)) (sound n s r id v at).tail

    link_read : u.thread < n → link_at (slice_index s.words (u.thread + 1)) ≡ (queue_after r.order).links u.thread
    link_read low = ap link_at (r.words.links u.thread low) ∙ link_back n ((queue_after r.order).links u.thread) r.few ((sound n s r id v at).links u.thread)

    link_found : u.thread < n → IsLink v.threads (link_at (slice_index s.words (u.thread + 1)))
    link_found low = subst (λ (z : ℕ × Option Linked). IsLink z.0 z.1) (λ i. (counted i, sym (link_read low) i)) ((sound n s r id v at).links u.thread)

  abbrev pub EntersAt : ℕ → Ask → Type 0
  EntersAt word a = Allows (IsOrdered n) slots id (v, c) 0 (λ _. word) (Asks a (step slots 0 word 0 none) (v, c))

  pub enters : (word : ℕ) → ask ≡ enter u → IsTurn n u → word ≡ turn_word u → EntersAt word ask
  enters word asked turn is = subst (EntersAt word) (sym asked) (λ s r deep at small.
      let call : QueueCall = answered (enter u) (slice_index s.words 0) in (
        with_call v call,
        keeps,
        tt,
        adds n s r id v at call (set s.words 0 word) (turn, ap answer_to_enter (tail_read s r at)) (with_tail n s.words (queue_after r.order) (Some u) word is r.words),
        record { now = refl; found = tail_found s r at },
      ))

  abbrev pub LeavesAt : ℕ → Ask → Type 0
  LeavesAt word a = Allows (IsOrdered n) slots id (v, c) 0 (λ k. either (k == word) 0 k) (Asks a (step slots 0 word 0 none) (v, c))

  pub leaves : (word : ℕ) → ask ≡ leave u → IsTurn n u → word ≡ turn_word u → LeavesAt word ask
  leaves word asked turn is = subst (LeavesAt word) (sym asked) (λ s r deep at small.
      let tail = (queue_after r.order).tail in
      let found : ℕ = slice_index s.words 0 in
      let call : QueueCall = answered (leave u) found in
      let left : either (found == word) 0 found ≡ tail_word (tail_without u tail) = ap (λ (z : ℕ × ℕ). either (z.0 == z.1) 0 z.0) (λ i. (r.words.tail i, is i)) ∙ word_without n tail u r.few (sound n s r id v at).tail turn in (
        with_call v call,
        keeps,
        tt,
        adds n s r id v at call (set s.words 0 (either (found == word) 0 found)) (turn, ap (answer_to_leave u) (tail_read s r at)) (with_tail n s.words (queue_after r.order) (tail_without u tail) (either (found == word) 0 found) left r.words),
        record { now = refl; found = tail_found s r at },
      ))

  abbrev pub LooksAt : ℕ → Ask → Type 0
  LooksAt place a = Allows (IsOrdered n) slots id (v, c) place (λ k. k) (Asks a (step slots place 0 0 none) (v, c))

  pub looks : (place : ℕ) → ask ≡ next u → IsTurn n u → place ≡ u.thread + 1 → LooksAt place ask
  looks place asked turn is = subst (λ (z : ℕ × Ask). LooksAt z.0 z.1) (λ i. (sym is i, sym asked i)) (λ s r deep at small.
      let call : QueueCall = answered (next u) (slice_index s.words (u.thread + 1)) in (
        with_call v call,
        keeps,
        tt,
        adds n s r id v at call (set s.words (u.thread + 1) (slice_index s.words (u.thread + 1))) (turn, ap (answer_to_next u) (link_read s r at turn.thread)) (subst (λ (l : List ℕ). AreWords n l (queue_after r.order)) (sym (set-get_or s.words (u.thread + 1) 0)) r.words),
        record { now = refl; found = link_found s r at turn.thread },
      ))

  abbrev pub LinksAt : ℕ → ℕ → Ask → Type 0
  LinksAt place word a = Allows (IsOrdered n) slots id (v, c) place (λ _. word) (λ _. Asks a (step slots place word 0 none) (v, c) word)

  pub links : (b : Turn) (place word : ℕ) → ask ≡ link b u → IsTurn n b → IsTurn n u → MayLink v.calls u b → place ≡ b.thread + 1 → word ≡ link_word (record { before = b.number; behind = u }) → LinksAt place word ask
  links b place word asked before turn may is holds = subst (λ (z : ℕ × Ask). LinksAt z.0 word z.1) (λ i. (sym is i, sym asked i)) (λ s r deep at small. (
    with_call v (Link b u),
    keeps,
    tt,
    adds n s r id v at (Link b u) (set s.words (b.thread + 1) word) (before, turn, may) (with_link n s.words (queue_after r.order) b u word before.thread holds r.words),
    record { now = refl; found = tt },
  ))

-- ---- a seat more

pub deals : (n id : ℕ) (v : SeatLog) → Splits (IsOrdered n) id v v (log_beside v)
deals n id v s r at =
    let w : SeatLog = log_beside v in
    let threads : v.threads ≡ n = ap (λ (z : SeatLog). z.threads) (r.seats id v at) in
    subst (λ (l : List SeatLog). IsOrdered n record { words = s.words; homes = s.homes; views = l ++ w ∷ [] }) (sym (set_again s.views id v at)) record {
      few = r.few;
      order = r.order;
      legal = r.legal;
      words = r.words;
      seats = λ j x e. ⊎_elim (λ (o : get_elem? s.views j ≡ some x). r.seats j x o)
          (λ (o : (j ≡ length s.views) × (w ≡ x)). sym o.1 ∙ (λ i. record { threads = threads i; calls = sym (ap (λ (k : ℕ). calls_of k r.order) o.0 ∙ no_calls (length s.views) r.order r.made) i }))
          (at_end s.views w x j e);
      made = λ k d h. let low = r.made k d h in let more = length-append s.views (w ∷ []) in let one : length (w ∷ []) ≡ 1 = refl in omega arith;
    }
