-- Each kind of step keeps the rule of the queue.
use Rattle.std.proofs.Common.{◌≡◌, ◌≢◌, ℕ, ◌+◌, ◌%◌, ◌^◌, ◌<◌, ◌≤◌, ◌==◌, Bool, true, false, cond, List, [], ◌∷◌, ◌++◌, All, length, set, sym, refl, ap, ◌∙◌, subst, ⊎_elim, arith, Option, Some, None, slice_index, length-set, length-append, get_or-set_other, get_or-set_same, eqb-true, eq-eqb, ne_eqb}
use Rattle.std.proofs.lemmas.List.Elements.{All-cons, All-tail}
use mathlib.Core.Logic.{dite}
use mathlib.Core.Option as maybe
use mathlib.Core.Option.{none, some, some-injective, some-ne-none}
use native.Mathlib.Decide.{ℕ_discrete}
use prog.Atomic.{either}
use lib.ListN.{get_elem?}
use Rattle.atomic_table.specs.Table.{State, step, Act, keeps, takes, gives, Valid, stepped, carried_after, Allows, Splits}
use Rattle.atomic_table.proofs.Lists.{at_set, set_again}
use Rattle.tc_queue.specs.declared.turn.Turn.{Turn}
use Rattle.tc_queue.specs.declared.turn.Departure.{Departure}
use Rattle.tc_queue.specs.declared.turn.Departure.TheVariants.{Left, Followed}
use Rattle.tc_queue.specs.Words.{IsTurn}
use Rattle.tc_nodes.specs.declared.cells.Placed.{Placed}
use Rattle.tc_nodes.specs.declared.step.LineStep.{LineStep}
use Rattle.tc_nodes.specs.declared.step.LineStep.TheVariants.{Enter, Link, Take, Read, Next, Stay, Leave, Back}
use Rattle.tc_nodes.specs.declared.board.Stand.{Stand}
use Rattle.tc_nodes.specs.declared.board.NodeTerms.{NodeTerms}
use Rattle.tc_nodes.specs.declared.board.Known.{Known}
use Rattle.tc_nodes.specs.Cells.{cell_word, cell_at, word_of_cell}
use Rattle.tc_nodes.specs.Order.{next_to, answer_to_enter, answer_to_leave, takes_in, stand_after, pick_of, without_pick, stand_left, entered_left, home_with, Plain, plain_after, with_cell, MayLink, is_home, MayCome, Made, calls_of, queue_after, line_word, AreWords, slot_of, hand_of, known_of, known_beside, IsOrdered}
use Rattle.tc_nodes.specs.Steps.{with_call, with_hand, IsFound, took, missed, did_read, did_next, did_stay, did_leave, did_put_back, Enters, Links, Takes, Reads, Returns, Stays, Leaves, PutsBack}
use Rattle.tc_nodes.proofs.Sound.{IsSound, sound_after, cell_back}
use Rattle.tc_lemmas.proofs.Lists.{in_range, at_end}

-- ---- hands

-- a seat that has not the line out has nothing in hand
away : (j id : ℕ) (o : Option ℕ) (h : Stand) → j ≢ id → o ≡ Some id → hand_of j o h ≡ None
away j id o h ne e = ap (λ (z : Option ℕ). hand_of j z h) e ∙ ap (λ (b : Bool). cond b (Some h) None) (ne_eqb id j (λ g. ne (sym g)))

here : (id : ℕ) (o : Option ℕ) (h : Stand) → o ≡ Some id → hand_of id o h ≡ Some h
here id o h e = ap (λ (z : Option ℕ). hand_of id z h) e ∙ ap (λ (b : Bool). cond b (Some h) None) (eq-eqb id id refl)

nobody : (j : ℕ) (o : Option ℕ) (h : Stand) → true ≡ is_home o → hand_of j o h ≡ None
nobody j None h e = refl
nobody j (Some id) h e = absurd (cc e)

-- who has something in hand has the line out
holding : (id : ℕ) (o : Option ℕ) (h g : Stand) → hand_of id o h ≡ Some g → (o ≡ Some id) × (h ≡ g)
holding id None h g e = absurd (cc e)
holding id (Some x) h g e = by_test (x == id) refl e
  where
    by_test : (b : Bool) → (x == id) ≡ b → cond b (Some h) None ≡ Some g → (Some x ≡ Some id) × (h ≡ g)
    by_test true is said = (ap Some (eqb-true x id is), cc said)
    by_test false is said = absurd (cc said)

-- a step changes no other hand
others : (k : NodeTerms) (q : Plain) (id : ℕ) (calls : List LineStep) (c : LineStep) (j : ℕ) → j ≢ id → MayCome k q id calls c → hand_of j (plain_after q id c).holder (plain_after q id c).stand ≡ hand_of j q.holder q.stand
others k q id calls (Enter u a) j ne may = refl
others k q id calls (Link place u node) j ne may = refl
others k q id calls (Take true) j ne may = away j id (Some id) q.stand ne refl ∙ sym (nobody j q.holder q.stand may)
others k q id calls (Take false) j ne may = refl
others k q id calls (Read number found took_in) j ne may = away j id q.holder (stand_after found q.stand) ne may.0 ∙ sym (away j id q.holder q.stand ne may.0)
others k q id calls (Next u node a) j ne may = sym (away j id q.holder q.stand ne may.0)
others k q id calls (Stay u) j ne may = sym (away j id q.holder q.stand ne may.0)
others k q id calls (Leave u d) j ne may = away j id q.holder (stand_left d q.stand) ne may.0 ∙ sym (away j id q.holder q.stand ne may.0)
others k q id calls Back j ne may = sym (away j id q.holder q.stand ne may)

-- ---- the words after a step

with_line : (words : List ℕ) (q : Plain) (o : Option ℕ) (h : Stand) (word : ℕ) → word ≡ line_word o → AreWords words q → AreWords (set words 1 word) (record q { holder = o; stand = h })
with_line words q o h word is are = record {
  count = length-set words 1 word ∙ are.count;
  entered = get_or-set_other words 1 0 word 0 (λ e. omega arith) ∙ are.entered;
  line = get_or-set_same words 1 word 0 (let c = are.count in omega arith) ∙ is;
  cells = λ j low. get_or-set_other words 1 (j + 2) word 0 (λ e. omega arith) ∙ are.cells j low;
}

with_entered : (words : List ℕ) (q : Plain) (n : ℕ) (h : Stand) (word : ℕ) → word ≡ n → AreWords words q → AreWords (set words 0 word) (record q { entered = n; stand = h })
with_entered words q n h word is are = record {
  count = length-set words 0 word ∙ are.count;
  entered = get_or-set_same words 0 word 0 (let c = are.count in omega arith) ∙ is;
  line = get_or-set_other words 0 1 word 0 (λ e. omega arith) ∙ are.line;
  cells = λ j low. get_or-set_other words 0 (j + 2) word 0 (λ e. omega arith) ∙ are.cells j low;
}

with_cell_word : (words : List ℕ) (q : Plain) (i : ℕ) (c : Option Placed) (h : Stand) (word : ℕ) → i < 64 → word ≡ word_of_cell c → AreWords words q → AreWords (set words (i + 2) word) (record (with_cell i c q) { stand = h })
with_cell_word words q i c h word low is are = record {
  count = length-set words (i + 2) word ∙ are.count;
  entered = get_or-set_other words (i + 2) 0 word 0 (λ e. omega arith) ∙ are.entered;
  line = get_or-set_other words (i + 2) 1 word 0 (λ e. omega arith) ∙ are.line;
  cells = λ j below. dite (ℕ_discrete j i)
      (λ (e : j ≡ i). ap (λ (n : ℕ). slice_index (set words (i + 2) word) (n + 2)) e
      ∙ (get_or-set_same words (i + 2) word 0 (let c = are.count in omega arith)
      ∙ (is ∙ ap (λ (b : Bool). word_of_cell (cond b c (q.cells j))) (sym (eq-eqb j i e)))))
      (λ (ne : j ≢ i). get_or-set_other words (i + 2) (j + 2) word 0 (λ e. ne (omega arith))
      ∙ (are.cells j below ∙ ap (λ (b : Bool). word_of_cell (cond b c (q.cells j))) (sym (ne_eqb j i ne))));
}

-- ---- one step more

module _ (k : NodeTerms) (s : State Stand Known) (r : IsOrdered k s) (id : ℕ) (v : Known) (at : get_elem? s.views id ≡ some v) where
  abbrev pub plain : Plain
  plain = queue_after k r.order

  log_is : v ≡ known_of k plain (calls_of id r.order) id
  log_is = r.seats id v at

  hand_is : v.hand ≡ hand_of id plain.holder plain.stand
  hand_is = ap (λ (z : Known). z.hand) log_is

  sound : IsSound v.threads v.bound plain
  sound = subst (λ (z : Known). IsSound z.threads z.bound plain) (sym log_is) (sound_after k r.order r.legal)

  -- the seat after a step, by what it has in hand then
  is_known : (c : LineStep) (q : Plain) (hand : Option Stand) → hand ≡ hand_of id q.holder q.stand → with_hand hand (with_call v c) ≡ known_of k q (v.calls ++ c ∷ []) id
  is_known c q hand e = λ i. record { threads = (log_is i).threads; bound = (log_is i).bound; calls = v.calls ++ c ∷ []; hand = e i }

  adds : (c : LineStep) (words : List ℕ) (homes : List (maybe.Option Stand)) (w : Known) → MayCome k plain id v.calls c → AreWords words (plain_after plain id c)
      → homes ≡ slot_of (plain_after plain id c).holder (plain_after plain id c).stand ∷ [] → w ≡ known_of k (plain_after plain id c) (v.calls ++ c ∷ []) id
      → IsOrdered k record { words = words; homes = homes; views = set s.views id w }
  adds c words homes w may are slot known = record {
    few = r.few;
    order = made ∷ r.order;
    legal = (subst (λ (l : List LineStep). MayCome k plain id l c) (ap (λ (z : Known). z.calls) log_is) may, r.legal);
    words = are;
    slot = slot;
    seats = seats;
    made = All-cons (λ (m : Made). m.seat < length (set s.views id w)) made r.order (subst (λ (n : ℕ). id < n) (sym (length-set s.views id w)) (in_range s.views id v at)) (subst (λ (n : ℕ). All (λ (m : Made). m.seat < n) r.order) (sym (length-set s.views id w)) r.made);
  }
    where
      made : Made
      made = record { seat = id; call = c }

      after : Plain
      after = plain_after plain id c

      seats : (j : ℕ) (x : Known) → get_elem? (set s.views id w) j ≡ some x → x ≡ known_of k after (calls_of j (made ∷ r.order)) j
      seats j x e = ⊎_elim
          (λ (o : (j ≡ id) × (w ≡ x)). sym o.1
          ∙ (known
          ∙ (ap (λ (z : Known). known_of k after (z.calls ++ c ∷ []) id) log_is
          ∙ (ap (λ (b : Bool). known_of k after (cond b (calls_of id r.order ++ c ∷ []) (calls_of id r.order)) id) (sym (eq-eqb id id refl))
          ∙ ap (λ (n : ℕ). known_of k after (calls_of n (made ∷ r.order)) n) (sym o.0)))))
          (λ (o : (j ≢ id) × (get_elem? s.views j ≡ some x)). r.seats j x o.1
          ∙ (λ i. record {
            threads = k.threads;
            bound = k.bound;
            calls = cond (sym (ne_eqb id j (λ g. o.0 (sym g))) i) (calls_of j r.order ++ c ∷ []) (calls_of j r.order);
            hand = sym (others k plain id v.calls c j o.0 may) i;
          }))
          (at_set s.views id j w x e)

-- ---- taking the line

module _ (k : NodeTerms) (slots id : ℕ) (v : Known) (c : List (ℕ × Stand)) where
  abbrev pub TakesAt : Type 0
  TakesAt = Allows (IsOrdered k) slots id (v, c) 1 (λ n. either (n == 0) 1 n) (Takes (step slots 1 0 1 none) (v, c))

  pub takes_line : TakesAt
  takes_line s r deep at small = by_holder (plain k s r id v at).holder refl
    where
      q : Plain
      q = plain k s r id v at

      found : ℕ
      found = slice_index s.words 1

      Goal : Type 0
      Goal = (w : Known) × (a : Act Stand) × Valid s.homes c a × IsOrdered k (stepped s 1 (either (found == 0) 1 found) id c w a) × Takes (step slots 1 0 1 none) (v, c) found (w, carried_after c a)

      by_holder : (o : Option ℕ) → q.holder ≡ o → Goal
      by_holder None is =
          let zero_found : found ≡ 0 = r.words.line ∙ ap line_word is in
          let home : s.homes ≡ some q.stand ∷ [] = r.slot ∙ ap (λ (z : Option ℕ). slot_of z q.stand ∷ []) is in
          let left : either (found == 0) 1 found ≡ 1 = ap (λ (b : Bool). either b 1 found) (eq-eqb found 0 zero_found) in (
            took q.stand v,
            takes 0 q.stand,
            ap (λ (l : List (maybe.Option Stand)). get_elem? l 0) home,
            adds k s r id v at (Take true) (set s.words 1 (either (found == 0) 1 found)) (set s.homes 0 none) (took q.stand v) (sym (ap is_home is)) (with_line s.words q (Some id) q.stand (either (found == 0) 1 found) left r.words)
                (ap (λ (l : List (maybe.Option Stand)). set l 0 none) home) (is_known k s r id v at (Take true) (record q { holder = Some id }) (Some q.stand) (sym (here id (Some id) q.stand refl))),
            record {
              place = refl;
              words = (refl, refl);
              here = λ e. record { stand = q.stand; line = (sound k s r id v at).line; now = refl };
              away = λ ne. absurd (ne zero_found);
            },
          )
      by_holder (Some j) is =
          let one_found : found ≡ 1 = r.words.line ∙ ap line_word is in
          let same : either (found == 0) 1 found ≡ line_word q.holder = ap (λ (b : Bool). either b 1 found) (ne_eqb found 0 (λ e. omega arith)) ∙ r.words.line in (
            missed v,
            keeps,
            tt,
            adds k s r id v at (Take false) (set s.words 1 (either (found == 0) 1 found)) s.homes (missed v) (sym (ap is_home is)) (with_line s.words q q.holder q.stand (either (found == 0) 1 found) same r.words)
                r.slot (is_known k s r id v at (Take false) q v.hand (hand_is k s r id v at)),
            record {
              place = refl;
              words = (refl, refl);
              here = λ e. absurd (omega arith);
              away = λ ne. refl;
            },
          )

-- ---- steps of a seat that has the line out

module _ (k : NodeTerms) (slots id : ℕ) (v : Known) (h : Stand) (hand : v.hand ≡ Some h) where
  -- the line is out with this seat, and is what it has in hand
  has : (s : State Stand Known) (r : IsOrdered k s) (at : get_elem? s.views id ≡ some v) → ((plain k s r id v at).holder ≡ Some id) × ((plain k s r id v at).stand ≡ h)
  has s r at = holding id (plain k s r id v at).holder (plain k s r id v at).stand h (sym (hand_is k s r id v at) ∙ hand)

  abbrev pub ReadsAt : List (ℕ × Stand) → ℕ → Type 0
  ReadsAt c place = Allows (IsOrdered k) slots id (v, c) place (λ _. 0) (Reads (step slots place 0 0 none) (v, c))

  pub reads_cell : (c : List (ℕ × Stand)) (place : ℕ) → place ≡ next_to h.read % 64 + 2 → ReadsAt c place
  reads_cell c place is = subst (ReadsAt c) (sym is) (λ s r deep at small.
      let q = plain k s r id v at in
      let mine = has s r at in
      let j : ℕ = next_to h.read % 64 in
      let word : ℕ = slice_index s.words (j + 2) in
      let low : j < 64 = omega arith in
      let n = ap (λ (z : Known). z.threads) (log_is k s r id v at) in
      let few : v.threads ≤ 64 = subst (λ (m : ℕ). m ≤ 64) (sym n) r.few in
      let found : cell_at word ≡ q.cells j = ap cell_at (r.words.cells j low) ∙ cell_back v.threads (q.cells j) few ((sound k s r id v at).cells j) in
      let call : LineStep = Read (next_to h.read) (cell_at word) (takes_in (cell_at word) h) in
      let after : stand_after (cell_at word) q.stand ≡ stand_after (cell_at word) h = ap (stand_after (cell_at word)) mine.1 in (
        did_read (cell_at word) h v,
        keeps,
        tt,
        adds k s r id v at call (set s.words (j + 2) 0) s.homes (did_read (cell_at word) h v)
            (mine.0, ap (λ (g : Stand). next_to g.read) (sym mine.1), found, ap (takes_in (cell_at word)) (sym mine.1))
            (with_cell_word s.words q j None (stand_after (cell_at word) q.stand) 0 low refl r.words)
            (r.slot ∙ (ap (λ (z : Option ℕ). slot_of z q.stand ∷ []) mine.0 ∙ sym (ap (λ (z : Option ℕ). slot_of z (stand_after (cell_at word) q.stand) ∷ []) mine.0)))
            (is_known k s r id v at call (plain_after q id call) (Some (stand_after (cell_at word) h)) (ap Some (sym after) ∙ sym (here id q.holder (stand_after (cell_at word) q.stand) mine.0))),
        record {
          stand = h;
          hand = hand;
          place = refl;
          left = refl;
          in_range = subst (IsFound v.threads) (sym found) ((sound k s r id v at).cells j);
          now = refl;
        },
      ))

  -- ---- putting it back

  -- with g in the slot, after a step that puts it back so
  puts : (s : State Stand Known) (r : IsOrdered k s) (at : get_elem? s.views id ≡ some v) (call : LineStep) (g : Stand) → MayCome k (plain k s r id v at) id v.calls call → plain_after (plain k s r id v at) id call ≡ home_with g (plain k s r id v at)
      → IsOrdered k (stepped s 1 0 id ((0, g) ∷ []) (with_hand None (with_call v call)) gives)
  puts s r at call g may is =
      let q = plain k s r id v at in
      let mine = has s r at in
      let out : s.homes ≡ none ∷ [] = r.slot ∙ ap (λ (z : Option ℕ). slot_of z q.stand ∷ []) mine.0 in
      adds k s r id v at call (set s.words 1 0) (set s.homes 0 (some g)) (with_hand None (with_call v call)) may
      (subst (AreWords (set s.words 1 0)) (sym is) (with_line s.words q None g 0 refl r.words))
      (ap (λ (l : List (maybe.Option Stand)). set l 0 (some g)) out ∙ ap (λ (p : Plain). slot_of p.holder p.stand ∷ []) (sym is))
      (is_known k s r id v at call (plain_after q id call) None (ap (λ (p : Plain). hand_of id p.holder p.stand) (sym is)))

  abbrev pub ReturnsAt : Turn → ℕ → Stand → Type 0
  ReturnsAt u node g = Allows (IsOrdered k) slots id (v, (0, g) ∷ []) 1 (λ _. 0) (λ _. Returns u node (step slots 1 0 0 none) (v, (0, g) ∷ []) 0)

  pub returns_line : (u : Turn) (node : ℕ) (g : Stand) → IsTurn k.threads u → g ≡ without_pick node h → ReturnsAt u node g
  returns_line u node g turn is s r deep at small =
      let q = plain k s r id v at in
      let mine = has s r at in
      let call : LineStep = Next u node (pick_of node h) in (
        did_next u node h v,
        gives,
        tt,
        puts s r at call g (mine.0, turn, ap (pick_of node) (sym mine.1)) (ap (λ (z : Stand). home_with z q) (ap (without_pick node) mine.1 ∙ sym is)),
        record { stand = h; hand = hand; place = refl; left = refl; now = refl },
      )

  abbrev pub StaysAt : Turn → Stand → Type 0
  StaysAt u g = Allows (IsOrdered k) slots id (v, (0, g) ∷ []) 1 (λ _. 0) (λ _. Stays u (step slots 1 0 0 none) (v, (0, g) ∷ []) 0)

  pub stays_line : (u : Turn) (g : Stand) → IsTurn k.threads u → g ≡ h → h.line.waiting ≢ [] → StaysAt u g
  stays_line u g turn is some_one s r deep at small =
      let q = plain k s r id v at in
      let mine = has s r at in (
        did_stay u v,
        gives,
        tt,
        puts s r at (Stay u) g (mine.0, turn, (λ e. some_one (ap (λ (z : Stand). z.line.waiting) (sym mine.1) ∙ e))) (ap (λ (z : Stand). home_with z q) (mine.1 ∙ sym is)),
        record { place = refl; left = refl; now = refl },
      )

  abbrev pub PutsBackAt : Stand → Type 0
  PutsBackAt g = Allows (IsOrdered k) slots id (v, (0, g) ∷ []) 1 (λ _. 0) (λ _. PutsBack (step slots 1 0 0 none) (v, (0, g) ∷ []) 0)

  pub puts_back : (g : Stand) → g ≡ h → PutsBackAt g
  puts_back g is s r deep at small =
      let q = plain k s r id v at in
      let mine = has s r at in (
        did_put_back v,
        gives,
        tt,
        puts s r at Back g mine.0 (ap (λ (z : Stand). home_with z q) (mine.1 ∙ sym is)),
        record { place = refl; left = refl; now = refl },
      )

  -- ---- the exchange of `leave`

  abbrev pub LeavesAt : Turn → List (ℕ × Stand) → ℕ → Type 0
  LeavesAt u c old = Allows (IsOrdered k) slots id (v, c) 0 (λ n. either (n == old) 0 n) (Leaves u (step slots 0 old 0 none) (v, c))

  either_left : (b : Bool) (n : ℕ) → either b 0 n ≡ entered_left (cond b Left Followed) n
  either_left true n = refl
  either_left false n = refl

  pub leaves_queue : (u : Turn) (c : List (ℕ × Stand)) (old : ℕ) → IsTurn k.threads u → h.line.waiting ≡ [] → old ≡ next_to h.read → LeavesAt u c old
  leaves_queue u c old turn none_waits is = subst (LeavesAt u c) (sym is) (λ s r deep at small.
      let q = plain k s r id v at in
      let mine = has s r at in
      let found : ℕ = slice_index s.words 0 in
      let d : Departure = answer_to_leave found h in
      let call : LineStep = Leave u d in
      let after : stand_left d q.stand ≡ stand_left d h = ap (stand_left d) mine.1 in
      let same : d ≡ answer_to_leave q.entered q.stand = (λ i. answer_to_leave (r.words.entered i) (sym mine.1 i)) in
      let word : either (found == next_to h.read) 0 found ≡ entered_left d q.entered = either_left (found == next_to h.read) found ∙ ap (entered_left d) r.words.entered in (
        did_leave u d h v,
        keeps,
        tt,
        adds k s r id v at call (set s.words 0 (either (found == next_to h.read) 0 found)) s.homes (did_leave u d h v)
            (mine.0, turn, ap (λ (z : Stand). z.line.waiting) mine.1 ∙ none_waits, same)
            (with_entered s.words q (entered_left d q.entered) (stand_left d q.stand) (either (found == next_to h.read) 0 found) word r.words)
            (r.slot ∙ (ap (λ (z : Option ℕ). slot_of z q.stand ∷ []) mine.0 ∙ sym (ap (λ (z : Option ℕ). slot_of z (stand_left d q.stand) ∷ []) mine.0)))
            (is_known k s r id v at call (plain_after q id call) (Some (stand_left d h)) (ap Some (sym after) ∙ sym (here id q.holder (stand_left d q.stand) mine.0))),
        record { stand = h; hand = hand; place = refl; words = (refl, refl); now = refl },
      ))

-- ---- `enter` and `link`

module _ (k : NodeTerms) (slots id : ℕ) (v : Known) (c : List (ℕ × Stand)) where
  abbrev pub EntersAt : Turn → Type 0
  EntersAt u = Allows (IsOrdered k) slots id (v, c) 0 (λ n. (n + 1) % 2 ^ 64) (Enters u (step slots 0 1 0 none) (v, c))

  pub enters_queue : (u : Turn) → IsTurn k.threads u → EntersAt u
  enters_queue u turn s r deep at small =
      let q = plain k s r id v at in
      let found : ℕ = slice_index s.words 0 in
      let call : LineStep = Enter u (answer_to_enter found) in (
        with_call v call,
        keeps,
        tt,
        adds k s r id v at call (set s.words 0 (next_to found)) s.homes (with_call v call) (turn, ap answer_to_enter r.words.entered)
            (with_entered s.words q (next_to q.entered) q.stand (next_to found) (ap next_to r.words.entered) r.words) r.slot (is_known k s r id v at call (plain_after q id call) v.hand (hand_is k s r id v at)),
        record { place = refl; amount = refl; now = refl },
      )

  abbrev pub LinksAt : ℕ → Turn → ℕ → ℕ → ℕ → Type 0
  LinksAt place u node cell word = Allows (IsOrdered k) slots id (v, c) cell (λ _. word) (λ _. Links place u node (step slots cell word 0 none) (v, c) word)

  pub links_turn : (place : ℕ) (u : Turn) (node cell word : ℕ) → IsTurn k.threads u → node < 8 → MayLink v.calls u place → cell ≡ place % 64 + 2 → word ≡ cell_word (record { turn = u; node = node }) → LinksAt place u node cell word
  links_turn place u node cell word turn low may is left = subst (λ (z : ℕ). LinksAt place u node z word) (sym is) (λ s r deep at small.
      let q = plain k s r id v at in
      let call : LineStep = Link place u node in (
        with_call v call,
        keeps,
        tt,
        adds k s r id v at call (set s.words (place % 64 + 2) word) s.homes (with_call v call) (turn, low, may)
            (with_cell_word s.words q (place % 64) (Some (record { turn = u; node = node })) q.stand word (omega arith) left r.words) r.slot (is_known k s r id v at call (plain_after q id call) v.hand (hand_is k s r id v at)),
        record { cell = refl; word_left = left; now = refl },
      ))

-- ---- a seat more

-- a seat that is not there yet has made no step
pub no_calls : (id : ℕ) (order : List Made) → All (λ (m : Made). m.seat < id) order → calls_of id order ≡ []
no_calls id [] all = refl
no_calls id (m ∷ before) all =
    let low : m.seat < id = all 0 m (omega arith) in
    ap (λ (b : Bool). cond b (calls_of id before ++ m.call ∷ []) (calls_of id before)) (ne_eqb m.seat id (λ e. omega arith)) ∙ no_calls id before (All-tail (λ (m : Made). m.seat < id) m before all)

-- who has the line out has made a step
holder_made : (k : NodeTerms) (order : List Made) (n id : ℕ) → All (λ (m : Made). m.seat < n) order → (queue_after k order).holder ≡ Some id → id < n
holder_made k [] n id all e = absurd (cc e)
holder_made k (m ∷ before) n id all e = by_call m.call (holder_made k before n id (All-tail (λ (m : Made). m.seat < n) m before all)) e
  where
    low : m.seat < n
    low = all 0 m (omega arith)

    by_call : (c : LineStep) → ((queue_after k before).holder ≡ Some id → id < n) → (plain_after (queue_after k before) m.seat c).holder ≡ Some id → id < n
    by_call (Enter u a) earlier is = earlier is
    by_call (Link place u node) earlier is = earlier is
    by_call (Take true) earlier is = let same : m.seat ≡ id = cc is in let l : m.seat < n = low in omega arith
    by_call (Take false) earlier is = earlier is
    by_call (Read number found took_in) earlier is = earlier is
    by_call (Next u node a) earlier is = absurd (cc is)
    by_call (Stay u) earlier is = absurd (cc is)
    by_call (Leave u d) earlier is = earlier is
    by_call Back earlier is = absurd (cc is)

none_new : (n : ℕ) (o : Option ℕ) (h : Stand) → ((id : ℕ) → o ≡ Some id → id < n) → hand_of n o h ≡ None
none_new n None h low = refl
none_new n (Some id) h low = ap (λ (b : Bool). cond b (Some h) None) (ne_eqb id n (λ e. let l = low id refl in omega arith))

pub deals : (k : NodeTerms) (id : ℕ) (v : Known) → Splits (IsOrdered k) id v v (known_beside v)
deals k id v s r at =
    let w : Known = known_beside v in
    let q = queue_after k r.order in
    let n : ℕ = length s.views in
    let threads : v.threads ≡ k.threads = ap (λ (z : Known). z.threads) (r.seats id v at) in
    let bound : v.bound ≡ k.bound = ap (λ (z : Known). z.bound) (r.seats id v at) in
    let calls : calls_of n r.order ≡ [] = no_calls n r.order r.made in
    let hand : hand_of n q.holder q.stand ≡ None = none_new n q.holder q.stand (λ j e. holder_made k r.order n j r.made e) in
    subst (λ (l : List Known). IsOrdered k record { words = s.words; homes = s.homes; views = l ++ w ∷ [] }) (sym (set_again s.views id v at)) record {
      few = r.few;
      order = r.order;
      legal = r.legal;
      words = r.words;
      slot = r.slot;
      seats = λ j x e. ⊎_elim (λ (o : get_elem? s.views j ≡ some x). r.seats j x o)
          (λ (o : (j ≡ n) × (w ≡ x)). sym o.1 ∙ ((λ i. record { threads = threads i; bound = bound i; calls = sym calls i; hand = sym hand i })
          ∙ ap (λ (m : ℕ). known_of k q (calls_of m r.order) m) (sym o.0)))
          (at_end s.views w x j e);
      made = λ j d h. let low = r.made j d h in let more = length-append s.views (w ∷ []) in let one : length (w ∷ []) ≡ 1 = refl in omega arith;
    }
