-- What is so after a legal order of calls.
use Rattle.std.proofs.Common.{◌≡◌, ◌≢◌, ℕ, ◌<◌, ◌==◌, Bool, true, false, cond, List, [], ◌∷◌, ◌++◌, All, map, sym, refl, ap, ◌∙◌, subst, ⊎_elim, arith, Option, Some, None, eqb-true, eq-eqb, ne_eqb}
use Rattle.std.proofs.lemmas.List.Elements.{All-tail}
use Rattle.std.proofs.lemmas.Option.{none-some, same_Some}
use mathlib.Core.Logic.{dite}
use mathlib.Core.Option.{some, some-ne-none}
use native.Mathlib.Decide.{ℕ_discrete}
use lib.ListN.{get_elem?}
use Rattle.atomic_table.proofs.Lists.{at_longer, at_snoc}
use Rattle.tc_queue.specs.declared.turn.Turn.{Turn}
use Rattle.tc_queue.specs.declared.turn.QueueCall.{QueueCall}
use Rattle.tc_queue.specs.declared.turn.QueueCall.TheVariants.{Enter, Link, Next, Leave}
use Rattle.tc_queue.specs.declared.turn.Entered.TheVariants.{Behind}
use Rattle.tc_queue.specs.declared.words.Linked.{Linked}
use Rattle.tc_queue.specs.Words.{IsTurn, IsLinked}
use Rattle.tc_queue.specs.Calls.{IsTail, IsLink, HasEntered, is_last, tail_without, answer_to_next}
use Rattle.tc_queue.specs.Order.{Plain, Made, plain_after, queue_after, calls_of, MayCome, IsLegal}

-- ---- what is there is in range

-- the tail and the links of a queue for n threads
pub record IsSound (n : ℕ) (q : Plain) : Type 0 where
  pub tail : IsTail n q.tail
  pub links : (t : ℕ) → IsLink n (q.links t)

pub still_tail : (n : ℕ) (tail : Option Turn) (u : Turn) → IsTail n tail → IsTail n (tail_without u tail)
still_tail n None u is = is
still_tail n (Some last) u is = by_test (is_last u (Some last))
  where
    by_test : (v : Bool) → IsTail n (cond v None (Some last))
    by_test true x e = absurd (none-some x e)
    by_test false x e = is x e

pub sound_after : (n : ℕ) (order : List Made) → IsLegal n order → IsSound n (queue_after order)
sound_after n [] legal = record { tail = λ u e. absurd (none-some u e); links = λ t l e. absurd (none-some l e) }
sound_after n (m ∷ before) legal = by_call m.call legal.0 (sound_after n before legal.1)
  where
    q : Plain
    q = queue_after before

    by_call : (c : QueueCall) → MayCome n q (calls_of m.seat before) c → IsSound n q → IsSound n (plain_after q c)
    by_call (Enter u a) may is = record { tail = λ x e. subst (IsTurn n) (same_Some u x e) may.0; links = is.links }
    by_call (Link b u) may is = record { tail = is.tail; links = λ t. by_thread (t == b.thread) t }
      where
        by_thread : (v : Bool) (t : ℕ) → IsLink n (cond v (Some (record { before = b.number; behind = u })) (q.links t))
        by_thread true t l e = subst (IsLinked n) (same_Some _ l e) (record { numbered = may.0.numbered; small = may.0.small; behind = may.1 })
        by_thread false t l e = is.links t l e
    by_call (Next u a) may is = is
    by_call (Leave u a) may is = record { tail = still_tail n q.tail u is.tail; links = is.links }

-- ---- the threads of turns

abbrev pub threads_of : List Turn → List ℕ
threads_of us = map (λ (u : Turn). u.thread) us

-- ---- the calls of a seat

-- a seat that is not there yet has made no call
pub no_calls : (id : ℕ) (order : List Made) → All (λ (m : Made). m.seat < id) order → calls_of id order ≡ []
no_calls id [] all = refl
no_calls id (m ∷ before) all =
    let low : m.seat < id = all 0 m (omega arith) in
    ap (λ (b : Bool). cond b (calls_of id before ++ m.call ∷ []) (calls_of id before)) (ne_eqb m.seat id (λ e. omega arith)) ∙ no_calls id before (All-tail (λ (m : Made). m.seat < id) m before all)

-- ---- what is linked was entered

-- the order has an `enter` of u that answered Behind b
abbrev pub WasEntered : List Made → Turn → Turn → Type 0
WasEntered order u b = (id : ℕ) × HasEntered (calls_of id order) u b

pub still_entered : (m : Made) (before : List Made) (u b : Turn) → WasEntered before u b → WasEntered (m ∷ before) u b
still_entered m before u b was = (was.0, (was.1.0, by_seat (m.seat == was.0)))
  where
    by_seat : (v : Bool) → get_elem? (cond v (calls_of was.0 before ++ m.call ∷ []) (calls_of was.0 before)) was.1.0 ≡ some (Enter u (Behind b))
    by_seat true = at_longer (calls_of was.0 before) (m.call ∷ []) was.1.0 (Enter u (Behind b)) was.1.1
    by_seat false = was.1.1

-- the turn of this thread and number
abbrev pub turn_with : ℕ → ℕ → Turn
turn_with thread number = record { thread = thread; number = number }

linked_now : (n : ℕ) (m : Made) (before : List Made) (t : ℕ) (l : Linked) → ((queue_after before).links t ≡ Some l → WasEntered before l.behind (turn_with t l.before)) → (c : QueueCall) → MayCome n (queue_after before) (calls_of m.seat before) c → (plain_after (queue_after before) c).links t ≡ Some l → WasEntered before l.behind (turn_with t l.before)
linked_now n m before t l earlier (Enter u a) may e = earlier e
linked_now n m before t l earlier (Link b u) may e = dite (ℕ_discrete t b.thread)
    (λ (same : t ≡ b.thread).
    let new : Linked = record { before = b.number; behind = u } in
    let pair : new ≡ l = same_Some new l (sym (ap (λ (v : Bool). cond v (Some new) ((queue_after before).links t)) (eq-eqb t b.thread same)) ∙ e) in
    subst (λ (z : Linked). WasEntered before z.behind (turn_with t z.before)) pair
    (subst (λ (k : ℕ). WasEntered before u (turn_with k b.number)) (sym same) (m.seat, (may.2.0, may.2.1))))
    (λ (ne : t ≢ b.thread). earlier (sym (ap (λ (v : Bool). cond v (Some (record { before = b.number; behind = u })) ((queue_after before).links t)) (ne_eqb t b.thread ne)) ∙ e))
linked_now n m before t l earlier (Next u a) may e = earlier e
linked_now n m before t l earlier (Leave u a) may e = earlier e

pub linked_was_entered : (n : ℕ) (order : List Made) (t : ℕ) (l : Linked) → IsLegal n order → (queue_after order).links t ≡ Some l → WasEntered order l.behind (turn_with t l.before)
linked_was_entered n [] t l legal e = absurd (none-some l e)
linked_was_entered n (m ∷ before) t l legal e = still_entered m before l.behind (turn_with t l.before) (linked_now n m before t l (linked_was_entered n before t l legal.1) m.call legal.0 e)

-- ---- what `next` answered was entered

pub answered : (u : Turn) (link : Option Linked) (x : Turn) → answer_to_next u link ≡ Some x → (l : Linked) × (link ≡ Some l) × (l.before ≡ u.number) × (l.behind ≡ x)
answered u None x e = absurd (none-some x e)
answered u (Some l) x e = by_test (l.before == u.number) refl
  where
    by_test : (v : Bool) → (l.before == u.number) ≡ v → (k : Linked) × (Some l ≡ Some k) × (k.before ≡ u.number) × (k.behind ≡ x)
    by_test true is = (l, refl, eqb-true l.before u.number is, same_Some l.behind x (sym (ap (λ (b : Bool). cond b (Some l.behind) None) is) ∙ e))
    by_test false is = absurd (none-some x (sym (ap (λ (b : Bool). cond b (Some l.behind) None) is) ∙ e))

same_next : (u w : Turn) (a b : Option Turn) → Next u a ≡ Next w b → (u ≡ w) × (a ≡ b)
same_next u w a b e = (cc e, cc e)

served_now : (n : ℕ) (m : Made) (before : List Made) (b u : Turn) → IsLegal n (m ∷ before) → m.call ≡ Next b (Some u) → WasEntered before u b
served_now n m before b u legal is =
    let may = subst (MayCome n (queue_after before) (calls_of m.seat before)) is legal.0 in
    let said = answered b ((queue_after before).links b.thread) u (sym may.1) in
    subst (λ (z : Turn × Turn). WasEntered before z.0 z.1) (λ k. (said.3 k, record { thread = b.thread; number = said.2 k })) (linked_was_entered n before b.thread said.0 legal.1 said.1)

pub served : (n : ℕ) (order : List Made) (id i : ℕ) (b u : Turn) → IsLegal n order → get_elem? (calls_of id order) i ≡ some (Next b (Some u)) → WasEntered order u b
served n [] id i b u legal e = absurd (some-ne-none (Next b (Some u)) (sym e))
served n (m ∷ before) id i b u legal e = still_entered m before u b (by_seat (m.seat == id) (served n before id i b u legal.1) e)
  where
    by_seat : (v : Bool) → (get_elem? (calls_of id before) i ≡ some (Next b (Some u)) → WasEntered before u b) → get_elem? (cond v (calls_of id before ++ m.call ∷ []) (calls_of id before)) i ≡ some (Next b (Some u)) → WasEntered before u b
    by_seat true earlier at = ⊎_elim earlier (served_now n m before b u legal) (at_snoc (calls_of id before) m.call (Next b (Some u)) i at)
    by_seat false earlier at = earlier at
