-- Where each thread has one turn at a time, the line refuses nobody, and the cells suffice.
use Rattle.std.proofs.Common.{◌≡◌, ◌≢◌, ◌⊎◌, ℕ, ◌+◌, ◌^◌, ◌≤◌, ◌<◌, ◌==◌, ◌||◌, Bool, true, false, cond, List, [], ◌∷◌, ◌++◌, length, length-append, map, sym, refl, ap, ◌∙◌, subst, ⊎_elim, inl, inr, append_assoc, append-nil, arith, Option, Some, None, eqb, eqb-true, eq-eqb, ne_eqb}
use Rattle.std.specs.List.{list_any, IsDistinct, AllByRecursion}
use Rattle.std.proofs.lemmas.List.{map-append, length-map, append_cancel_left}
use Rattle.std.proofs.lemmas.List.Elements.{All-cons, All-nil}
use Rattle.std.proofs.lemmas.Bool.{eqb-false, or_parts, or_left, or_right}
use Rattle.std.proofs.lemmas.Map.Steps.{length-le_from_distinct_below}
use Rattle.std.proofs.lemmas.Option.{none-some, same_Some}
use Rattle.tc_queue.specs.declared.turn.Turn.{Turn}
use Rattle.tc_queue.specs.declared.turn.Departure.TheVariants.{Left, Followed}
use Rattle.tc_queue.proofs.Orders.{threads_of}
use Rattle.tc_nodes.specs.declared.line.Waiter.{Waiter}
use Rattle.tc_nodes.specs.declared.cells.Placed.{Placed}
use Rattle.tc_nodes.specs.declared.step.Entered.TheVariants.{First, Behind}
use Rattle.tc_nodes.specs.declared.step.LineStep.{LineStep}
use Rattle.tc_nodes.specs.declared.step.LineStep.TheVariants.{Enter, Link, Take, Read, Next, Stay, Leave, Back}
use Rattle.tc_nodes.specs.declared.board.Stand.{Stand}
use Rattle.tc_nodes.specs.declared.board.NodeTerms.{NodeTerms}
use Rattle.tc_nodes.specs.Line.{is_turn, has_turn, is_refused, newcomer, line_without, line_after, picked, passed_over, first_of, or_else}
use Rattle.tc_nodes.specs.Order.{Plain, Made, plain_after, queue_after, calls_of, MayCome, IsLegal, pick_of}
use Rattle.tc_nodes.specs.declared.picks.Op.{Op}
use Rattle.tc_nodes.specs.declared.picks.Op.TheVariants.{Arrive, Pick}
use Rattle.tc_nodes.specs.Picks.{arriving}
use Rattle.tc_nodes.specs.Served.{waits_on, is_waiting, OneATime, HasRoom, RefusesNone, op_of, ops_of, entry_of, entries_of, KeepsRoom}
use Rattle.tc_nodes.proofs.Ran.{arriving-append}
use Rattle.tc_nodes.proofs.Turns.{falsely, turn_self, turn_same}
use Rattle.tc_nodes.proofs.Served.{turns_of, let_in}
use Rattle.tc_nodes.proofs.Sound.{sound_after}
use Rattle.tc_nodes.proofs.Arriving.{Entrant, IsFiled, names, reads, filed_none, filed_step}

-- ---- numbers in a list

abbrev pub is_in : ℕ → List ℕ → Bool
is_in t ts = list_any (eqb t) ts

-- no number is in the list twice
abbrev pub AreApart : List ℕ → Type 0
AreApart [] = Unit {0}
AreApart (t ∷ ts) = (is_in t ts ≡ false) × AreApart ts

all_other : (t : ℕ) (ts : List ℕ) → is_in t ts ≡ false → AllByRecursion (λ y. eqb t y ≡ false) ts
all_other t [] e = tt
all_other t (u ∷ us) e = let two = or_parts (t == u) (is_in t us) e in (two.0, all_other t us two.1)

distinct : (ts : List ℕ) → AreApart ts → IsDistinct eqb ts
unfolding IsDistinct
distinct [] are = tt
distinct (t ∷ ts) are = (all_other t ts are.0, distinct ts are.1)

in_front : (t : ℕ) (xs ys : List ℕ) → is_in t (xs ++ ys) ≡ false → (is_in t xs ≡ false) × (is_in t ys ≡ false)
in_front t [] ys e = (refl, e)
in_front t (x ∷ xs) ys e =
    let two = or_parts (t == x) (is_in t (xs ++ ys)) e in
    let rest = in_front t xs ys two.1 in
    (ap (λ (b : Bool). b || is_in t xs) two.0 ∙ rest.0, rest.1)

-- what is in a list with one more at its end is in the list, or that one
in_more : (t u : ℕ) (ts : List ℕ) → is_in t (ts ++ u ∷ []) ≡ true → (is_in t ts ≡ true) ⊎ ((t == u) ≡ true)
in_more t u [] e = by_test (t == u) e
  where
    by_test : (b : Bool) → (b || false) ≡ true → (false ≡ true) ⊎ (b ≡ true)
    by_test true is = inr refl
    by_test false is = inl is
in_more t u (x ∷ xs) e = by_test (t == x) (in_more t u xs) e
  where
    by_test : (b : Bool) → (is_in t (xs ++ u ∷ []) ≡ true → (is_in t xs ≡ true) ⊎ ((t == u) ≡ true)) → (b || is_in t (xs ++ u ∷ [])) ≡ true → ((b || is_in t xs) ≡ true) ⊎ ((t == u) ≡ true)
    by_test true rest is = inl refl
    by_test false rest is = rest is

other_way : (t u : ℕ) → (t == u) ≡ false → (u == t) ≡ false
other_way t u e = ne_eqb u t (λ same. eqb-false t u e (sym same))

apart_more : (t : ℕ) (ts : List ℕ) → AreApart ts → is_in t ts ≡ false → AreApart (ts ++ t ∷ [])
apart_more t [] are out = (refl, tt)
apart_more t (u ∷ us) are out =
    let two = or_parts (t == u) (is_in t us) out in
    (not_in us are.0, apart_more t us are.1 two.1)
  where
    not_in : (l : List ℕ) → is_in u l ≡ false → is_in u (l ++ t ∷ []) ≡ false
    not_in [] e = ap (λ (b : Bool). b || false) (other_way t u (or_parts (t == u) (is_in t us) out).0)
    not_in (x ∷ l) e =
        let two = or_parts (u == x) (is_in u l) e in
        ap (λ (b : Bool). b || is_in u (l ++ t ∷ [])) two.0 ∙ not_in l two.1

-- one in the middle is not in front
apart_middle : (xs : List ℕ) (t : ℕ) (ys : List ℕ) → AreApart (xs ++ t ∷ ys) → is_in t xs ≡ false
apart_middle [] t ys are = refl
apart_middle (x ∷ xs) t ys are =
    let later = (in_front x xs (t ∷ ys) are.0).1 in
    let ne = (or_parts (x == t) (is_in x ys) later).0 in
    ap (λ (b : Bool). b || is_in t xs) (other_way x t ne) ∙ apart_middle xs t ys are.1

-- ---- the threads of turns

has_thread : (u : Turn) (ws : List Waiter) → has_turn u ws ≡ true → is_in u.thread (threads_of (turns_of ws)) ≡ true
has_thread u [] e = absurd (falsely (sym e))
has_thread u (w ∷ ws) e = by_test (is_turn u w.turn) refl (has_thread u ws) e
  where
    by_test : (b : Bool) → is_turn u w.turn ≡ b → (has_turn u ws ≡ true → is_in u.thread (threads_of (turns_of ws)) ≡ true) → (b || has_turn u ws) ≡ true → is_in u.thread (threads_of (turns_of (w ∷ ws))) ≡ true
    by_test true same rest is = or_left (u.thread == w.turn.thread) _ (eq-eqb u.thread w.turn.thread (ap (λ (x : Turn). x.thread) (turn_same u w.turn same)))
    by_test false other rest is = or_right (u.thread == w.turn.thread) _ (rest is)

-- who is picked is in the line
first_in : (node : ℕ) (ws : List Waiter) (u : Turn) → first_of node ws ≡ Some u → has_turn u ws ≡ true
first_in node [] u e = absurd (none-some u e)
first_in node (w ∷ ws) u e = by_test (w.node == node) (first_in node ws u) e
  where
    by_test : (b : Bool) → (first_of node ws ≡ Some u → has_turn u ws ≡ true) → cond b (Some w.turn) (first_of node ws) ≡ Some u → has_turn u (w ∷ ws) ≡ true
    by_test true rest said = or_left (is_turn u w.turn) (has_turn u ws) (ap (is_turn u) (same_Some w.turn u said) ∙ turn_self u)
    by_test false rest said = or_right (is_turn u w.turn) (has_turn u ws) (rest said)

picked_in : (most node : ℕ) (ws : List Waiter) (u : Turn) → picked most node ws ≡ Some u → has_turn u ws ≡ true
picked_in most node [] u e = absurd (none-some u e)
picked_in most node (o ∷ ws) u e = by_test (o.passes == most) (first_of node (o ∷ ws)) refl e
  where
    oldest : Some o.turn ≡ Some u → has_turn u (o ∷ ws) ≡ true
    oldest said = or_left (is_turn u o.turn) (has_turn u ws) (ap (is_turn u) (same_Some o.turn u said) ∙ turn_self u)

    by_test : (b : Bool) (z : Option Turn) → first_of node (o ∷ ws) ≡ z → cond b (Some o.turn) (or_else z o.turn) ≡ Some u → has_turn u (o ∷ ws) ≡ true
    by_test true z is said = oldest said
    by_test false None is said = oldest said
    by_test false (Some x) is said = first_in node (o ∷ ws) u (is ∙ said)

-- the threads of the line and of those behind it, when one has gone: they are apart, and it is not among them
abbrev pub HasGone : ℕ → List ℕ → List ℕ → Type 0
HasGone x now before = AreApart now × ((t : ℕ) → is_in t now ≡ true → ((t == x) ≡ false) × (is_in t before ≡ true))

gone : (x : Turn) (ws : List Waiter) (more : List ℕ) → AreApart (threads_of (turns_of ws) ++ more) → has_turn x ws ≡ true → HasGone x.thread (threads_of (turns_of (line_without x ws)) ++ more) (threads_of (turns_of ws) ++ more)
gone x [] more are here = absurd (falsely (sym here))
gone x (w ∷ ws) more are here = by_test (is_turn x w.turn) refl (gone x ws more are.1) here
  where
    rest : List ℕ
    rest = threads_of (turns_of ws) ++ more

    -- one that is in the list behind w is another than w's
    other : (t u : ℕ) → is_in u rest ≡ false → is_in t rest ≡ true → (t == u) ≡ false
    other t u out is = by_same (t == u) refl
      where
        by_same : (b : Bool) → (t == u) ≡ b → b ≡ false
        by_same true same = absurd (falsely (sym is ∙ (ap (λ (n : ℕ). is_in n rest) (eqb-true t u same) ∙ out)))
        by_same false same = refl

    by_test : (b : Bool) → is_turn x w.turn ≡ b → (has_turn x ws ≡ true → HasGone x.thread (threads_of (turns_of (line_without x ws)) ++ more) rest) → (b || has_turn x ws) ≡ true → HasGone x.thread (threads_of (turns_of (cond b ws (passed_over w ∷ line_without x ws))) ++ more) (w.turn.thread ∷ rest)
    by_test true same later is =
        let thread : x.thread ≡ w.turn.thread = ap (λ (u : Turn). u.thread) (turn_same x w.turn same) in
        (are.1, λ t there. (other t x.thread (ap (λ (n : ℕ). is_in n rest) thread ∙ are.0) there, or_right (t == w.turn.thread) (is_in t rest) there))
    by_test false different later is =
        let r = later is in
        let mine : is_in x.thread (threads_of (turns_of ws)) ≡ true = has_thread x ws is in
        let ne : (w.turn.thread == x.thread) ≡ false = other_way x.thread w.turn.thread (other x.thread w.turn.thread are.0 (in_longer x.thread (threads_of (turns_of ws)) mine)) in
        ((not_there r.1, r.0), λ t there. by_own t (t == w.turn.thread) refl ne (r.1 t) there)
      where
        left : List ℕ
        left = threads_of (turns_of (line_without x ws)) ++ more

        in_longer : (t : ℕ) (l : List ℕ) → is_in t l ≡ true → is_in t (l ++ more) ≡ true
        in_longer t [] e = absurd (falsely (sym e))
        in_longer t (y ∷ l) e = by_first (t == y) (in_longer t l) e
          where
            by_first : (b : Bool) → (is_in t l ≡ true → is_in t (l ++ more) ≡ true) → (b || is_in t l) ≡ true → (b || is_in t (l ++ more)) ≡ true
            by_first true go e' = refl
            by_first false go e' = go e'

        not_there : ((t : ℕ) → is_in t left ≡ true → ((t == x.thread) ≡ false) × (is_in t rest ≡ true)) → is_in w.turn.thread left ≡ false
        not_there all = by_in (is_in w.turn.thread left) refl
          where
            by_in : (b : Bool) → is_in w.turn.thread left ≡ b → b ≡ false
            by_in true there = absurd (falsely (sym (all w.turn.thread there).1 ∙ are.0))
            by_in false there = refl

        by_own : (t : ℕ) (b : Bool) → (t == w.turn.thread) ≡ b → (w.turn.thread == x.thread) ≡ false → (is_in t left ≡ true → ((t == x.thread) ≡ false) × (is_in t rest ≡ true)) → (b || is_in t left) ≡ true → ((t == x.thread) ≡ false) × ((b || is_in t rest) ≡ true)
        by_own t true own ne go there = (ap (λ (n : ℕ). n == x.thread) (eqb-true t w.turn.thread own) ∙ ne, refl)
        by_own t false own ne go there = go there

-- ---- who waits in the line, and who entered and was not read yet

abbrev pub standing : List Waiter → List Turn → List ℕ
standing ws ns = threads_of (turns_of ws) ++ threads_of ns

-- they are of threads below n, no two of one, and these wait
pub record AreAlone (n : ℕ) (ws : List Waiter) (ns : List Turn) (waits : ℕ → Bool) : Type 0 where
  pub apart : AreApart (standing ws ns)
  pub held : (t : ℕ) → is_in t (standing ws ns) ≡ true → (waits t ≡ true) × (t < n)

few_stand : (n : ℕ) (ws : List Waiter) (ns : List Turn) (waits : ℕ → Bool) → AreAlone n ws ns waits → length ws + length ns ≤ n
few_stand n ws ns waits are =
    let most = length-le_from_distinct_below (standing ws ns) n (distinct (standing ws ns) are.apart) (λ q h. (are.held q h).1) in
    let a = length-append (threads_of (turns_of ws)) (threads_of ns) in
    let b = length-map (turns_of ws) (λ (u : Turn). u.thread) in
    let c = length-map ws (λ (w : Waiter). w.turn) in
    let d = length-map ns (λ (u : Turn). u.thread) in
    omega arith

same_standing : (n : ℕ) (ws ws' : List Waiter) (ns ns' : List Turn) (waits : ℕ → Bool) → standing ws ns ≡ standing ws' ns' → AreAlone n ws ns waits → AreAlone n ws' ns' waits
same_standing n ws ws' ns ns' waits same are = record { apart = subst AreApart same are.apart; held = λ t h. are.held t (ap (is_in t) same ∙ h) }

one_enters : (n : ℕ) (ws : List Waiter) (ns : List Turn) (u : Turn) (waits : ℕ → Bool) → waits u.thread ≡ false → u.thread < n → AreAlone n ws ns waits → AreAlone n ws (ns ++ u ∷ []) (λ t. (t == u.thread) || waits t)
one_enters n ws ns u waits out low are =
    let list : standing ws (ns ++ u ∷ []) ≡ standing ws ns ++ u.thread ∷ [] =
    ap (λ (l : List ℕ). threads_of (turns_of ws) ++ l) (map-append (λ (x : Turn). x.thread) ns (u ∷ [])) ∙ sym (append_assoc (threads_of (turns_of ws)) (threads_of ns) (u.thread ∷ [])) in
    record {
      apart = subst AreApart (sym list) (apart_more u.thread (standing ws ns) are.apart (not_there (is_in u.thread (standing ws ns)) refl));
      held = λ t h. ⊎_elim
          (λ (there : is_in t (standing ws ns) ≡ true). let r = are.held t there in (or_right (t == u.thread) (waits t) r.0, r.1))
          (λ (same : (t == u.thread) ≡ true). (or_left (t == u.thread) (waits t) same, (let e = eqb-true t u.thread same in omega arith)))
          (in_more t u.thread (standing ws ns) (ap (is_in t) (sym list) ∙ h));
    }
  where
    not_there : (b : Bool) → is_in u.thread (standing ws ns) ≡ b → b ≡ false
    not_there true there = absurd (falsely (sym (are.held u.thread there).0 ∙ out))
    not_there false there = refl

one_read : (n : ℕ) (ws : List Waiter) (ns : List Turn) (u : Turn) (node : ℕ) (waits : ℕ → Bool) → AreAlone n ws (u ∷ ns) waits → AreAlone n (ws ++ newcomer u node ∷ []) ns waits
one_read n ws ns u node waits are = same_standing n ws (ws ++ newcomer u node ∷ []) (u ∷ ns) ns waits
    (sym (append_assoc (threads_of (turns_of ws)) (u.thread ∷ []) (threads_of ns))
    ∙ ap (λ (l : List ℕ). l ++ threads_of ns) (sym (ap threads_of (map-append (λ (w : Waiter). w.turn) ws (newcomer u node ∷ [])) ∙ map-append (λ (x : Turn). x.thread) (turns_of ws) (u ∷ []))))
    are

one_picked : (n : ℕ) (ws : List Waiter) (ns : List Turn) (x : Turn) (waits : ℕ → Bool) → has_turn x ws ≡ true → AreAlone n ws ns waits → AreAlone n (line_without x ws) ns (λ t. cond (t == x.thread) false (waits t))
one_picked n ws ns x waits here are =
    let r = gone x ws (threads_of ns) are.apart here in
    record {
      apart = r.0;
      held = λ t h.
          let two = r.1 t h in
          let old = are.held t two.1 in
          (ap (λ (b : Bool). cond b false (waits t)) two.0 ∙ old.0, old.1);
    }

-- ---- all steps

reads_same : (ops : List Op) (ns ns' entries : List Turn) → reads ops ++ ns ≡ entries → reads (ops ++ []) ++ ns' ≡ entries ++ [] → ns' ≡ ns
reads_same ops ns ns' entries was now = append_cancel_left (reads ops) ns' ns (ap (λ (l : List Op). reads l ++ ns') (sym (append-nil ops)) ∙ (now ∙ (append-nil entries ∙ sym was)))

reads_picked : (ops : List Op) (node : ℕ) (ns ns' entries : List Turn) → reads ops ++ ns ≡ entries → reads (ops ++ Pick node ∷ []) ++ ns' ≡ entries ++ [] → ns' ≡ ns
reads_picked ops node ns ns' entries was now =
    append_cancel_left (reads ops) ns' ns (ap (λ (l : List Placed). map (λ (p : Placed). p.turn) l ++ ns') (sym (arriving-append ops (Pick node ∷ []) ∙ append-nil (arriving ops))) ∙ (now ∙ (append-nil entries ∙ sym was)))

reads_one : (ops : List Op) (u : Turn) (node : ℕ) (ns ns' entries : List Turn) → reads ops ++ ns ≡ entries → reads (ops ++ Arrive u node ∷ []) ++ ns' ≡ entries ++ [] → u ∷ ns' ≡ ns
reads_one ops u node ns ns' entries was now =
    append_cancel_left (reads ops) (u ∷ ns') ns
    (sym (append_assoc (reads ops) (u ∷ []) ns')
    ∙ (ap (λ (l : List Turn). l ++ ns') (sym (ap (map (λ (p : Placed). p.turn)) (arriving-append ops (Arrive u node ∷ [])) ∙ map-append (λ (p : Placed). p.turn) (arriving ops) (record { turn = u; node = node } ∷ [])))
    ∙ (now ∙ (append-nil entries ∙ sym was))))

reads_entry : (ops : List Op) (u : Turn) (ns ns' entries : List Turn) → reads ops ++ ns ≡ entries → reads (ops ++ []) ++ ns' ≡ entries ++ u ∷ [] → ns' ≡ ns ++ u ∷ []
reads_entry ops u ns ns' entries was now =
    append_cancel_left (reads ops) ns' (ns ++ u ∷ [])
    (ap (λ (l : List Op). reads l ++ ns') (sym (append-nil ops)) ∙ (now ∙ (ap (λ (l : List Turn). l ++ u ∷ []) (sym was) ∙ append_assoc (reads ops) ns (u ∷ []))))

-- a step leaves them so, and refuses nobody
pub record StaysAlone (n : ℕ) (ws : List Waiter) (ns : List Turn) (waits : ℕ → Bool) (c : LineStep) : Type 0 where
  pub are : AreAlone n ws ns waits
  pub takes : (number : ℕ) (p : Placed) → c ≢ Read number (Some p) false

not_refused : (n : ℕ) (h : Stand) (u : Turn) (ns : List Turn) (waits : ℕ → Bool) → h.line.threads ≡ n → AreAlone n h.line.waiting (u ∷ ns) waits → is_refused u h.line ≡ false
not_refused n h u ns waits threads are =
    ap (λ (b : Bool). b || has_turn u h.line.waiting) (ne_eqb (length h.line.waiting) h.line.threads (λ e. let f = few_stand n h.line.waiting (u ∷ ns) waits are in omega arith))
    ∙ not_there (has_turn u h.line.waiting) refl
  where
    not_there : (b : Bool) → has_turn u h.line.waiting ≡ b → b ≡ false
    not_there true there = absurd (falsely (sym (has_thread u h.line.waiting there) ∙ apart_middle (threads_of (turns_of h.line.waiting)) u.thread (threads_of ns) are.apart))
    not_there false there = refl

alone_step : (k : NodeTerms) (m : Made) (before : List Made) (ns ns' : List Turn) → IsLegal k (m ∷ before) → ((u : Turn) (place : ℕ) → m.call ≡ Enter u (Behind place) → is_waiting u.thread before ≡ false)
    → AreAlone k.threads (queue_after k before).stand.line.waiting ns (λ t. is_waiting t before) → reads (ops_of before) ++ ns ≡ entries_of before → reads (ops_of (m ∷ before)) ++ ns' ≡ entries_of (m ∷ before)
    → StaysAlone k.threads (queue_after k (m ∷ before)).stand.line.waiting ns' (λ t. is_waiting t (m ∷ before)) m.call
alone_step k m before ns ns' legal one are was now = by_call m.call legal.0 one now
  where
    q : Plain
    q = queue_after k before

    ws : List Waiter
    ws = q.stand.line.waiting

    ops : List Op
    ops = ops_of before

    entries : List Turn
    entries = entries_of before

    Goal : LineStep → Type 0
    Goal c = StaysAlone k.threads (plain_after q m.seat c).stand.line.waiting ns' (λ t. waits_on t c (is_waiting t before)) c

    still : ns' ≡ ns → AreAlone k.threads ws ns' (λ t. is_waiting t before)
    still same = subst (λ (l : List Turn). AreAlone k.threads ws l (λ t. is_waiting t before)) (sym same) are

    by_call : (c : LineStep) → MayCome k q m.seat (calls_of m.seat before) c → ((u : Turn) (place : ℕ) → c ≡ Enter u (Behind place) → is_waiting u.thread before ≡ false) → reads (ops ++ op_of c) ++ ns' ≡ entries ++ entry_of c → Goal c
    by_call (Enter u First) may alone list = record { are = still (reads_same ops ns ns' entries was list); takes = λ number p e. cc e }
    by_call (Enter u (Behind place)) may alone list = record {
      are = subst (λ (l : List Turn). AreAlone k.threads ws l (λ t. (t == u.thread) || is_waiting t before)) (sym (reads_entry ops u ns ns' entries was list)) (one_enters k.threads ws ns u (λ t. is_waiting t before) (alone u place refl) may.0.thread are);
      takes = λ number p e. cc e;
    }
    by_call (Link place u node) may alone list = record { are = still (reads_same ops ns ns' entries was list); takes = λ number p e. cc e }
    by_call (Take true) may alone list = record { are = still (reads_same ops ns ns' entries was list); takes = λ number p e. cc e }
    by_call (Take false) may alone list = record { are = still (reads_same ops ns ns' entries was list); takes = λ number p e. cc e }
    by_call (Read number None took) may alone list = record { are = still (reads_same ops ns ns' entries was list); takes = λ n p e. cc e }
    by_call (Read number (Some p) took) may alone list =
        let front : p.turn ∷ ns' ≡ ns = reads_one ops p.turn p.node ns ns' entries was list in
        let here : AreAlone k.threads ws (p.turn ∷ ns') (λ t. is_waiting t before) = subst (λ (l : List Turn). AreAlone k.threads ws l (λ t. is_waiting t before)) (sym front) are in
        let fine = not_refused k.threads q.stand p.turn ns' (λ t. is_waiting t before) (sound_after k before legal.1).line.of_threads here in
        let took_it : took ≡ true = may.3 ∙ ap (λ (b : Bool). cond b false true) fine in
        let none : (n : ℕ) (d : Placed) → Read number (Some p) took ≢ Read n (Some d) false = λ n d e. (let no : took ≡ false = cc e in falsely (sym took_it ∙ no)) in
        record {
          are = subst (λ (l : List Waiter). AreAlone k.threads l ns' (λ t. is_waiting t before)) (sym (let_in p.turn p.node q.stand number took may.3 none)) (one_read k.threads ws ns' p.turn p.node (λ t. is_waiting t before) here);
          takes = none;
        }
    by_call (Next u node a) may alone list = record {
      are = subst (λ (z : Option Turn). AreAlone k.threads (line_after z ws) ns' (λ t. waits_on t (Next u node a) (is_waiting t before))) may.2 (by_answer a may.2);
      takes = λ number p e. cc e;
    }
      where
        by_answer : (z : Option Turn) → z ≡ pick_of node q.stand → AreAlone k.threads (line_after z ws) ns' (λ t. waits_on t (Next u node z) (is_waiting t before))
        by_answer None said = still (reads_picked ops node ns ns' entries was list)
        by_answer (Some x) said = one_picked k.threads ws ns' x (λ t. is_waiting t before) (picked_in q.stand.line.bound node ws x (sym said)) (still (reads_picked ops node ns ns' entries was list))
    by_call (Stay u) may alone list = record { are = still (reads_same ops ns ns' entries was list); takes = λ number p e. cc e }
    by_call (Leave u Left) may alone list = record { are = still (reads_same ops ns ns' entries was list); takes = λ number p e. cc e }
    by_call (Leave u Followed) may alone list = record { are = still (reads_same ops ns ns' entries was list); takes = λ number p e. cc e }
    by_call Back may alone list = record { are = still (reads_same ops ns ns' entries was list); takes = λ number p e. cc e }

pub record IsAlone (k : NodeTerms) (order : List Made) : Type 0 where
  pub filed : IsFiled (queue_after k order) order (ops_of order) (entries_of order)
  pub are : AreAlone k.threads (queue_after k order).stand.line.waiting (names filed.unread) (λ t. is_waiting t order)
  pub room : HasRoom k order
  pub takes : RefusesNone order

few_unread : (k : NodeTerms) (order : List Made) (f : IsFiled (queue_after k order) order (ops_of order) (entries_of order)) → AreAlone k.threads (queue_after k order).stand.line.waiting (names f.unread) (λ t. is_waiting t order) → length f.unread ≤ k.threads
few_unread k order f are =
    let a = few_stand k.threads (queue_after k order).stand.line.waiting (names f.unread) (λ t. is_waiting t order) are in
    let b = length-map f.unread (λ (x : Entrant). x.0) in
    omega arith

alone_after : (k : NodeTerms) (order : List Made) → k.threads ≤ 64 → IsLegal k order → length order < 2 ^ 64 → OneATime order → IsAlone k order
alone_after k [] few legal low one = record {
  filed = filed_none k;
  are = record { apart = tt; held = λ t h. absurd (falsely (sym h)) };
  room = tt;
  takes = All-nil (λ (m : Made). (number : ℕ) (p : Placed) → m.call ≢ Read number (Some p) false);
}
alone_after k (m ∷ before) few legal low one =
    let was = alone_after k before few legal.1 (omega arith) one.1 in
    let least = few_unread k before was.filed was.are in
    let f = filed_step k m before legal low was.filed (omega arith) in
    let s = alone_step k m before (names was.filed.unread) (names f.unread) legal one.0 was.are was.filed.list f.list in
    let now = few_unread k (m ∷ before) f s.are in
    record {
      filed = f;
      are = s.are;
      room = (
        ⊎_elim
            (λ (h : ((queue_after k (m ∷ before)).entered ≡ 0) × ((queue_after k (m ∷ before)).stand.read ≡ 0) × (f.unread ≡ [])). let z = h.0 in omega arith)
            (λ (h : (queue_after k (m ∷ before)).entered ≡ (queue_after k (m ∷ before)).stand.read + length f.unread + 1). omega arith)
            f.are.count,
        was.room,
      );
      takes = All-cons (λ (x : Made). (number : ℕ) (p : Placed) → x.call ≢ Read number (Some p) false) m before s.takes was.takes;
    }

pub keeps_room : KeepsRoom
keeps_room k s r low one =
    let a = alone_after k r.order r.few r.legal low one in
    (a.room, a.takes)
