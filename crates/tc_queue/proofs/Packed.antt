-- Turns and links come back from their words.
use Rattle.std.proofs.Common.{◌≡◌, ◌≢◌, ℕ, ◌<◌, ◌≤◌, ◌==◌, ◌&&◌, Bool, true, false, cond, sym, refl, ap, ◌∙◌, subst, arith, Option, Some, None, rules, eq-eqb, ne_eqb}
use mathlib.Core.Logic.{dite}
use native.Mathlib.Decide.{ℕ_discrete}
use Rattle.tc_queue.specs.declared.turn.Turn.{Turn}
use Rattle.tc_queue.specs.declared.words.Linked.{Linked}
use Rattle.tc_queue.specs.Words.{IsTurn, turn_word, turn_at, link_at, PacksTurns, PacksLinks}
use Rattle.tc_queue.specs.Calls.{IsTail, IsLink, is_last, tail_without}
use Rattle.tc_queue.specs.Order.{tail_word, word_of_link}

pub turns_packed : PacksTurns
turns_packed = search rules

pub links_packed : PacksLinks
links_packed = search rules

-- a turn of a smaller queue
pub in_wider : (n : ℕ) (u : Turn) → n ≤ 64 → IsTurn n u → IsTurn 64 u
in_wider n u few is = record { thread = (let t = is.thread in omega arith); numbered = is.numbered; small = is.small }

pub tail_back : (n : ℕ) (tail : Option Turn) → n ≤ 64 → IsTail n tail → turn_at (tail_word tail) ≡ tail
tail_back n None few is = refl
tail_back n (Some u) few is = turns_packed.there u (in_wider n u few (is u refl))

pub link_back : (n : ℕ) (link : Option Linked) → n ≤ 64 → IsLink n link → link_at (word_of_link link) ≡ link
link_back n None few is = refl
link_back n (Some l) few is = let i = is l refl in links_packed.there l (record { numbered = i.numbered; small = i.small; behind = in_wider n l.behind few i.behind })

same_word : (last u : Turn) → last.thread < 64 → u.thread < 64 → (turn_word last == turn_word u) ≡ is_last u (Some last)
same_word last u low low' = dite (ℕ_discrete last.thread u.thread)
    (λ (e : last.thread ≡ u.thread). dite (ℕ_discrete last.number u.number)
    (λ (e' : last.number ≡ u.number). eq-eqb (turn_word last) (turn_word u) (omega arith) ∙ sym (ap (λ (b : Bool). b && (last.number == u.number)) (eq-eqb last.thread u.thread e) ∙ eq-eqb last.number u.number e'))
    (λ (ne : last.number ≢ u.number). ne_eqb (turn_word last) (turn_word u) (λ w. ne (omega arith)) ∙ sym (ap (λ (b : Bool). b && (last.number == u.number)) (eq-eqb last.thread u.thread e) ∙ ne_eqb last.number u.number ne)))
    (λ (ne : last.thread ≢ u.thread). ne_eqb (turn_word last) (turn_word u) (λ w. ne (omega arith)) ∙ sym (ap (λ (b : Bool). b && (last.number == u.number)) (ne_eqb last.thread u.thread ne)))

-- what a compare-and-swap of the tail leaves
pub word_without : (n : ℕ) (tail : Option Turn) (u : Turn) → n ≤ 64 → IsTail n tail → IsTurn n u → cond (tail_word tail == turn_word u) 0 (tail_word tail) ≡ tail_word (tail_without u tail)
word_without n None u few is turn = let some_number = turn.numbered in ap (λ (b : Bool). cond b 0 0) (ne_eqb 0 (turn_word u) (λ e. omega arith))
word_without n (Some last) u few is turn =
    let i = is last refl in
    let a = i.thread in
    let b = turn.thread in
    let e = same_word last u (omega arith) (omega arith) in
    ap (λ (v : Bool). cond v 0 (turn_word last)) e ∙ by_test (is_last u (Some last)) last
  where
    by_test : (v : Bool) (last : Turn) → cond v 0 (turn_word last) ≡ tail_word (cond v None (Some last))
    by_test true last = refl
    by_test false last = refl
