-- Where the words of the locks' lines are, and what a call leaves there.
use Rattle.std.proofs.Common.{◌≡◌, ◌≢◌, ℕ, ◌+◌, ◌*◌, ◌<◌, ◌≤◌, ◌==◌, Bool, true, false, cond, ◌⊎◌, inl, inr, List, length, set, sym, refl, ap, ◌∙◌, subst, arith, Option, Some, slice_index, if◌then◌else◌, get_or-set_other, get_or-set_same, eq-eqb, ne_eqb}
use Rattle.tc_hall.proofs.Vocabulary.{AreInRange, HallTerms, Operation, QueueCall, Turn, claim, commit, free, join, lay, line, line_word, look, miss, put, reach, split, stop, stopped, take, link_word_of, locks, plain_at, slot_word, tail_word_of, threads, words_of}
use Rattle.std.proofs.lemmas.Option.{same_Some}
use mathlib.Core.Logic.{dite}
use native.Mathlib.Decide.{ℕ_discrete}
use lib.Seq.{set-get_or}
use Rattle.tc_queue.specs.declared.turn.QueueCall.TheVariants.{Enter, Link, Next, Leave}
use Rattle.tc_queue.specs.declared.words.Linked.{Linked}
use Rattle.tc_queue.specs.Words.{IsTurn, IsLinked, turn_at, turn_word, link_at, link_word}
use Rattle.tc_queue.specs.Calls.{IsLink, tail_without}
use Rattle.tc_queue.specs.Asked.{left_by}
use Rattle.tc_queue.specs.Order.{Plain, MayCome, plain_after, tail_word}
use Rattle.tc_queue.proofs.Packed.{turns_packed, links_packed, in_wider, tail_back}
use Rattle.tc_queue.proofs.Orders.{still_tail}
use Rattle.tc_hall.specs.Order.{ShowsLine, line_after}

-- ---- the queue that is shown, and another

-- what is in range for one queue is so for the words that show it
pub in_range_by : (k : HallTerms) (j : ℕ) (ws : List ℕ) (q : Plain) → ShowsLine k j ws q → AreInRange (threads k) q → AreInRange (threads k) (plain_at k j ws)
in_range_by k j ws q shows is = record { tail = λ u e. is.tail u (sym shows.tail ∙ e); links = λ t b l e. is.links t b l (sym (shows.links t b) ∙ e) }

-- a call keeps it in range
pub in_range_after : (n : ℕ) (q : Plain) (calls : List QueueCall) (c : QueueCall) → MayCome n q calls c → AreInRange n q → AreInRange n (plain_after q c)
in_range_after n q calls (Enter u a) may is = record { tail = λ x e. subst (IsTurn n) (same_Some u x e) may.0; links = is.links }
in_range_after n q calls (Link b u) may is = record { tail = is.tail; links = λ t low. by_thread (t == b.thread) t low }
  where
    by_thread : (v : Bool) (t : ℕ) → t < n → IsLink n (cond v (Some (record { before = b.number; behind = u })) (q.links t))
    by_thread true t low l e = subst (IsLinked n) (same_Some _ l e) (record { numbered = may.0.numbered; small = may.0.small; behind = may.1 })
    by_thread false t low l e = is.links t low l e
in_range_after n q calls (Next u a) may is = is
in_range_after n q calls (Leave u a) may is = record { tail = still_tail n q.tail u is.tail; links = is.links }

-- queues that are alike are alike after a call
pub alike_after : (k : HallTerms) (j : ℕ) (ws ws' : List ℕ) (q : Plain) (c : QueueCall) → ShowsLine k j ws q → ShowsLine k j ws' (plain_after (plain_at k j ws) c) → ShowsLine k j ws' (plain_after q c)
alike_after k j ws ws' q (Enter u a) was is = record { tail = is.tail; links = λ t b. is.links t b ∙ was.links t b }
alike_after k j ws ws' q (Link b u) was is = record { tail = is.tail ∙ was.tail; links = λ t low. is.links t low ∙ ap (cond (t == b.thread) (Some (record { before = b.number; behind = u }))) (was.links t low) }
alike_after k j ws ws' q (Next u a) was is = record { tail = is.tail ∙ was.tail; links = λ t b. is.links t b ∙ was.links t b }
alike_after k j ws ws' q (Leave u a) was is = record { tail = is.tail ∙ ap (tail_without u) was.tail; links = λ t b. is.links t b ∙ was.links t b }

-- an operation is a call on a line, or leaves all lines as they are
pub line_or_quiet : (j : ℕ) (o : Operation) → ((i : ℕ) × (c : QueueCall) × (o ≡ line i c)) ⊎ ((q : Plain) → line_after j o q ≡ q)
line_or_quiet j (line i c) = inl (i, c, refl)
line_or_quiet j (claim t word p) = inr (λ q. refl)
line_or_quiet j (take i l) = inr (λ q. refl)
line_or_quiet j (put p place) = inr (λ q. refl)
line_or_quiet j (free l) = inr (λ q. refl)
line_or_quiet j (commit stamp b p) = inr (λ q. refl)
line_or_quiet j stop = inr (λ q. refl)
line_or_quiet j (miss word wanted found) = inr (λ q. refl)
line_or_quiet j (look u found) = inr (λ q. refl)
line_or_quiet j (stopped found) = inr (λ q. refl)
line_or_quiet j (reach slot) = inr (λ q. refl)
line_or_quiet j (lay slot) = inr (λ q. refl)
line_or_quiet j split = inr (λ q. refl)
line_or_quiet j (join other w) = inr (λ q. refl)

module _ (k : HallTerms) where
  -- ---- where the words are

  -- the word of a call is behind those of the slots
  pub line_behind : (i : ℕ) (c : QueueCall) → slot_word (threads k + locks k) ≤ line_word k i c
  line_behind i (Enter u a) = omega arith
  line_behind i (Link b u) = omega arith
  line_behind i (Next u a) = omega arith
  line_behind i (Leave u a) = omega arith

  pub all_words : k.lined ≡ true → words_of k ≡ slot_word (threads k + locks k + 2 * locks k)
  all_words lined = ap (λ (b : Bool). slot_word (threads k + locks k + (if b then 2 * locks k else 0))) lined

  pub tail_below : (i : ℕ) → k.lined ≡ true → i < locks k → tail_word_of k i < words_of k
  tail_below i lined below = let all = all_words lined in omega arith

  pub link_below : (i t : ℕ) → k.lined ≡ true → i < locks k → t < 32 → link_word_of k i t < words_of k
  link_below i t lined below low = let all = all_words lined in omega arith

  -- ---- what a step leaves

  -- where no word of a line changes, the line is as it was
  pub line_stays : (j : ℕ) (ws ws' : List ℕ) → ((w : ℕ) → slot_word (threads k + locks k) ≤ w → slice_index ws' w ≡ slice_index ws w) → ShowsLine k j ws' (plain_at k j ws)
  line_stays j ws ws' same = record { tail = ap turn_at (same (tail_word_of k j) (omega arith)); links = λ t b. ap link_at (same (link_word_of k j t) (omega arith)) }

  pub set_before : (j : ℕ) (ws : List ℕ) (word left : ℕ) → word < slot_word (threads k + locks k) → ShowsLine k j (set ws word left) (plain_at k j ws)
  set_before j ws word left low = line_stays j ws (set ws word left) (λ w h. get_or-set_other ws word w left 0 (λ e. omega arith))

  -- the word stays
  pub set_same : (j : ℕ) (ws : List ℕ) (word left : ℕ) → slice_index ws word ≡ left → ShowsLine k j (set ws word left) (plain_at k j ws)
  set_same j ws word left is = line_stays j ws (set ws word left) (λ w h. ap (λ (l : List ℕ). slice_index l w) (ap (set ws word) (sym is) ∙ set-get_or ws word 0))

  -- the line of another lock is as it was
  pub other_line : (i j : ℕ) (ws : List ℕ) (left : ℕ) (c : QueueCall) → i ≢ j → threads k ≤ 32 → (calls : List QueueCall) (q : Plain) → MayCome (threads k) q calls c → ShowsLine k j (set ws (line_word k i c) left) (plain_at k j ws)
  other_line i j ws left (Enter u a) ne few calls q may = record {
    tail = ap turn_at (get_or-set_other ws (tail_word_of k i) (tail_word_of k j) left 0 (λ e. ne (omega arith)));
    links = λ t b. ap link_at (get_or-set_other ws (tail_word_of k i) (link_word_of k j t) left 0 (λ e. omega arith));
  }
  other_line i j ws left (Link b u) ne few calls q may = let low = may.0.thread in record {
    tail = ap turn_at (get_or-set_other ws (link_word_of k i b.thread) (tail_word_of k j) left 0 (λ e. omega arith));
    links = λ t below. ap link_at (get_or-set_other ws (link_word_of k i b.thread) (link_word_of k j t) left 0 (λ e. ne (omega arith)));
  }
  other_line i j ws left (Next u a) ne few calls q may = let low = may.0.thread in record {
    tail = ap turn_at (get_or-set_other ws (link_word_of k i u.thread) (tail_word_of k j) left 0 (λ e. omega arith));
    links = λ t below. ap link_at (get_or-set_other ws (link_word_of k i u.thread) (link_word_of k j t) left 0 (λ e. ne (omega arith)));
  }
  other_line i j ws left (Leave u a) ne few calls q may = record {
    tail = ap turn_at (get_or-set_other ws (tail_word_of k i) (tail_word_of k j) left 0 (λ e. ne (omega arith)));
    links = λ t b. ap link_at (get_or-set_other ws (tail_word_of k i) (link_word_of k j t) left 0 (λ e. omega arith));
  }

  module _ (i : ℕ) (ws : List ℕ) (count : length ws ≡ words_of k) (lined : k.lined ≡ true) (lock : i < locks k) (few : threads k ≤ 32) where
    -- the tail is set
    tail_set : (left : ℕ) (tail : Option Turn) → turn_at left ≡ tail → ShowsLine k i (set ws (tail_word_of k i) left) (record (plain_at k i ws) { tail = tail })
    tail_set left tail is = record {
      tail = ap turn_at (get_or-set_same ws (tail_word_of k i) left 0 (let below = tail_below i lined lock in omega arith)) ∙ is;
      links = λ t b. ap link_at (get_or-set_other ws (tail_word_of k i) (link_word_of k i t) left 0 (λ e. omega arith));
    }

    link_set : (b u : Turn) → IsTurn (threads k) b → IsTurn (threads k) u → ShowsLine k i (set ws (link_word_of k i b.thread) (link_word (record { before = b.number; behind = u }))) (plain_after (plain_at k i ws) (Link b u))
    link_set b u before turn =
        let l : Linked = record { before = b.number; behind = u } in
        let word : ℕ = link_word_of k i b.thread in
        let low = before.thread in
        let back : link_at (link_word l) ≡ Some l = links_packed.there l (record { numbered = before.numbered; small = before.small; behind = in_wider (threads k) u (omega arith) turn }) in
        record {
          tail = ap turn_at (get_or-set_other ws word (tail_word_of k i) (link_word l) 0 (λ e. omega arith));
          links = λ t below. dite (ℕ_discrete t b.thread)
              (λ (e : t ≡ b.thread). ap (λ (z : ℕ). link_at (slice_index (set ws word (link_word l)) (link_word_of k i z))) e
              ∙ (ap link_at (get_or-set_same ws word (link_word l) 0 (let deep = link_below i b.thread lined lock (omega arith) in omega arith))
              ∙ (back ∙ sym (ap (λ (v : Bool). cond v (Some l) ((plain_at k i ws).links t)) (eq-eqb t b.thread e)))))
              (λ (ne : t ≢ b.thread). ap link_at (get_or-set_other ws word (link_word_of k i t) (link_word l) 0 (λ e. ne (omega arith)))
              ∙ sym (ap (λ (v : Bool). cond v (Some l) ((plain_at k i ws).links t)) (ne_eqb t b.thread ne)));
        }

    -- a call leaves the words of the queue after it
    pub line_moves : (c : QueueCall) (calls : List QueueCall) → MayCome (threads k) (plain_at k i ws) calls c → AreInRange (threads k) (plain_at k i ws)
        → ShowsLine k i (set ws (line_word k i c) (left_by c (slice_index ws (line_word k i c)))) (plain_after (plain_at k i ws) c)
    line_moves (Enter u a) calls may range = tail_set (turn_word u) (Some u) (turns_packed.there u (in_wider (threads k) u (omega arith) may.0))
    line_moves (Link b u) calls may range = link_set b u may.0 may.1
    line_moves (Next u a) calls may range = set_same i ws (link_word_of k i u.thread) (slice_index ws (link_word_of k i u.thread)) refl
    line_moves (Leave u a) calls may range =
        let left : Option Turn = tail_without u (plain_at k i ws).tail in
        tail_set (tail_word left) left (tail_back (threads k) left (omega arith) (still_tail (threads k) (plain_at k i ws).tail u range.tail))
