-- Turns are read from the cells in the order in which they entered.
use Rattle.std.proofs.Common.{◌≡◌, ◌≢◌, ◌⊎◌, ℕ, zero, suc, ◌+◌, ◌^◌, ◌%◌, ◌≤◌, ◌<◌, ◌==◌, Bool, true, false, cond, List, [], ◌∷◌, ◌++◌, length, length-append, map, sym, refl, ap, ◌∙◌, subst, ⊎_elim, inl, inr, append_assoc, append-nil, arith, Option, Some, None, eqb-true}
use Rattle.std.proofs.lemmas.List.{map-append}
use Rattle.std.proofs.lemmas.List.Elements.{All-tail}
use Rattle.std.proofs.lemmas.Bool.{eqb-false}
use Rattle.std.proofs.lemmas.Option.{none-some, same_Some}
use mathlib.Core.Option.{some, some-injective, some-ne-none}
use lib.ListN.{get_elem?}
use Rattle.atomic_table.proofs.Lists.{at_longer, at_last}
use Rattle.tc_queue.specs.declared.turn.Turn.{Turn}
use Rattle.tc_queue.specs.declared.turn.Departure.TheVariants.{Left, Followed}
use Rattle.tc_nodes.specs.declared.cells.Placed.{Placed}
use Rattle.tc_nodes.specs.declared.picks.Op.{Op}
use Rattle.tc_nodes.specs.declared.picks.Op.TheVariants.{Arrive, Pick}
use Rattle.tc_nodes.specs.declared.step.Entered.TheVariants.{First, Behind}
use Rattle.tc_nodes.specs.declared.step.LineStep.{LineStep}
use Rattle.tc_nodes.specs.declared.step.LineStep.TheVariants.{Enter, Link, Take, Read, Next, Stay, Leave, Back}
use Rattle.tc_nodes.specs.declared.board.NodeTerms.{NodeTerms}
use Rattle.tc_nodes.specs.Picks.{arriving}
use Rattle.tc_nodes.specs.Order.{Plain, Made, next_to, answer_to_enter, answer_to_leave, plain_after, queue_after, calls_of, MayLink, MayCome, IsLegal, with_cell}
use Rattle.tc_nodes.specs.Served.{op_of, ops_of, answers_of, served, entry_of, entries_of, HasRoom, AreOnNode, KeepsArrivals, KeepsEntry}
use Rattle.tc_nodes.proofs.Ran.{arriving-append}
use Rattle.tc_nodes.proofs.Served.{turns_of, served_after, oldest_after, PicksOldest}
use Rattle.tc_lemmas.proofs.Lists.{in_range, at_end}

-- ---- who may be linked

-- who may be linked after a step might be before it, and the step was no link of it; or the step is its entry
may_before : (calls : List LineStep) (c : LineStep) (u : Turn) (place : ℕ) → MayLink (calls ++ c ∷ []) u place → (MayLink calls u place × ((other node : ℕ) → c ≢ Link other u node)) ⊎ (c ≡ Enter u (Behind place))
may_before calls c u place may = ⊎_elim
    (λ (h : get_elem? calls may.0 ≡ some (Enter u (Behind place))). inl (
      (may.0, h, λ j other node later e. may.2 j other node later (at_longer calls (c ∷ []) j (Link other u node) e)),
      λ other node e. may.2 (length calls) other node (in_range calls may.0 (Enter u (Behind place)) h) (at_last calls c (length calls) refl ∙ ap some e),
    ))
    (λ (h : (may.0 ≡ length calls) × (c ≡ Enter u (Behind place))). inr h.1)
    (at_end calls c (Enter u (Behind place)) may.0 may.1)

may_made : (m : Made) (before : List Made) (id : ℕ) (u : Turn) (place : ℕ) → MayLink (calls_of id (m ∷ before)) u place
    → (MayLink (calls_of id before) u place × (m.seat ≡ id → (other node : ℕ) → m.call ≢ Link other u node)) ⊎ ((m.seat ≡ id) × (m.call ≡ Enter u (Behind place)))
may_made m before id u place = by_seat (m.seat == id) refl
  where
    by_seat : (b : Bool) → (m.seat == id) ≡ b → MayLink (cond b (calls_of id before ++ m.call ∷ []) (calls_of id before)) u place
        → (MayLink (calls_of id before) u place × (m.seat ≡ id → (other node : ℕ) → m.call ≢ Link other u node)) ⊎ ((m.seat ≡ id) × (m.call ≡ Enter u (Behind place)))
    by_seat true is may = ⊎_elim
        (λ (h : MayLink (calls_of id before) u place × ((other node : ℕ) → m.call ≢ Link other u node)). inl (h.0, λ _. h.1))
        (λ (h : m.call ≡ Enter u (Behind place)). inr (eqb-true m.seat id is, h))
        (may_before (calls_of id before) m.call u place may)
    by_seat false is may = inl (may, λ e. absurd (eqb-false m.seat id is e))

-- ---- who entered and was not read yet

-- each with the seat that entered it
abbrev pub Entrant : Type 0
Entrant = Turn × ℕ

-- the entrant with this number is in its cell, and nobody may link to its place any more
pub record IsInCell (read : ℕ) (may : ℕ → Turn → ℕ → Type 0) (us : List Entrant) (j : ℕ) (p : Placed) : Type 0 where
  pub number : ℕ
  pub seat : ℕ
  pub at : get_elem? us number ≡ some (p.turn, seat)
  pub cell : j ≡ (read + 1 + number) % 64
  pub closed : (id : ℕ) (u : Turn) (place : ℕ) → may id u place → place ≢ read + 1 + number

-- who may link is one of them, with the seat and the place of its entry
pub record IsOpen (read : ℕ) (us : List Entrant) (id : ℕ) (u : Turn) (place : ℕ) : Type 0 where
  pub number : ℕ
  pub at : get_elem? us number ≡ some (u, id)
  pub place_is : place ≡ read + 1 + number

pub record AreUnread (entered read : ℕ) (cells : ℕ → Option Placed) (may : ℕ → Turn → ℕ → Type 0) (us : List Entrant) : Type 0 where
  pub count : ((entered ≡ 0) × (read ≡ 0) × (us ≡ [])) ⊎ (entered ≡ read + length us + 1)
  pub in_cells : (j : ℕ) (p : Placed) → cells j ≡ Some p → IsInCell read may us j p
  pub open_ones : (id : ℕ) (u : Turn) (place : ℕ) → may id u place → IsOpen read us id u place

abbrev pub may_in : List Made → ℕ → Turn → ℕ → Type 0
may_in order id u place = MayLink (calls_of id order) u place

abbrev pub UnreadIn : Plain → List Made → List Entrant → Type 0
UnreadIn q order us = AreUnread q.entered q.stand.read q.cells (may_in order) us

-- what may be linked may be before
abbrev pub Narrows : List Made → List Made → Type 0
Narrows order before = (id : ℕ) (u : Turn) (place : ℕ) → may_in order id u place → may_in before id u place

narrows : (m : Made) (before : List Made) → ((u : Turn) (place : ℕ) → m.call ≢ Enter u (Behind place)) → Narrows (m ∷ before) before
narrows m before other id u place may = ⊎_elim
    (λ (h : MayLink (calls_of id before) u place × (m.seat ≡ id → (o node : ℕ) → m.call ≢ Link o u node)). h.0)
    (λ (h : (m.seat ≡ id) × (m.call ≡ Enter u (Behind place))). absurd (other u place h.1))
    (may_made m before id u place may)

still_in : (read : ℕ) (order before : List Made) (us : List Entrant) (j : ℕ) (p : Placed) → Narrows order before → IsInCell read (may_in before) us j p → IsInCell read (may_in order) us j p
still_in read order before us j p less is = record { number = is.number; seat = is.seat; at = is.at; cell = is.cell; closed = λ id u place may. is.closed id u place (less id u place may) }

-- a step that enters nobody, reads nobody and links nobody
still : (entered read : ℕ) (cells cells' : ℕ → Option Placed) (order before : List Made) (us : List Entrant) → Narrows order before → ((j : ℕ) (p : Placed) → cells' j ≡ Some p → cells j ≡ Some p)
    → AreUnread entered read cells (may_in before) us → AreUnread entered read cells' (may_in order) us
still entered read cells cells' order before us less fewer is = record {
  count = is.count;
  in_cells = λ j p e. still_in read order before us j p less (is.in_cells j p (fewer j p e));
  open_ones = λ id u place may. is.open_ones id u place (less id u place may);
}

-- ---- an entry

none_found : (n : ℕ) → First ≡ answer_to_enter n → n ≡ 0
none_found n = by_test (n == 0) refl
  where
    by_test : (b : Bool) → (n == 0) ≡ b → First ≡ cond b First (Behind n) → n ≡ 0
    by_test true is e = eqb-true n 0 is
    by_test false is e = absurd (cc e)

some_found : (n place : ℕ) → Behind place ≡ answer_to_enter n → (n ≢ 0) × (place ≡ n)
some_found n place = by_test (n == 0) refl
  where
    by_test : (b : Bool) → (n == 0) ≡ b → Behind place ≡ cond b First (Behind n) → (n ≢ 0) × (place ≡ n)
    by_test true is e = absurd (cc e)
    by_test false is e = (eqb-false n 0 is, cc e)

enters_first : (q : Plain) (m : Made) (before : List Made) (u : Turn) (us : List Entrant) → m.call ≡ Enter u First → q.entered ≡ 0 → UnreadIn q before us → AreUnread (next_to q.entered) q.stand.read q.cells (may_in (m ∷ before)) us
enters_first q m before u us is none r =
    let s = still q.entered q.stand.read q.cells q.cells (m ∷ before) before us (narrows m before (λ v place e. absurd (cc (sym is ∙ e)))) (λ j p e. e) r in
    record {
      count = ⊎_elim
          (λ (h : (q.entered ≡ 0) × (q.stand.read ≡ 0) × (us ≡ [])). let a = h.1 in let l : length us ≡ 0 = ap length h.2 in inr (omega arith))
          (λ (h : q.entered ≡ q.stand.read + length us + 1). absurd (omega arith))
          r.count;
      in_cells = s.in_cells;
      open_ones = s.open_ones;
    }

enters_behind : (q : Plain) (m : Made) (before : List Made) (u : Turn) (place : ℕ) (us : List Entrant) → m.call ≡ Enter u (Behind place) → q.entered ≢ 0 → place ≡ q.entered → q.entered + 1 < 2 ^ 64 → UnreadIn q before us
    → AreUnread (next_to q.entered) q.stand.read q.cells (may_in (m ∷ before)) (us ++ (u, m.seat) ∷ [])
enters_behind q m before u place us is some_one found low r = record {
  count = (let c = counted in let l = length-append us ((u, m.seat) ∷ []) in inr (omega arith));
  in_cells = λ j p e.
      let i = r.in_cells j p e in record {
        number = i.number;
        seat = i.seat;
        at = at_longer us ((u, m.seat) ∷ []) i.number (p.turn, i.seat) i.at;
        cell = i.cell;
        closed = λ id v at may. ⊎_elim
            (λ (h : may_in before id v at × (m.seat ≡ id → (o node : ℕ) → m.call ≢ Link o v node)). i.closed id v at h.0)
            (λ (h : (m.seat ≡ id) × (m.call ≡ Enter v (Behind at))). λ same.
            let here : place ≡ at = cc (sym is ∙ h.1) in
            let n = in_range us i.number (p.turn, i.seat) i.at in
            let c = counted in
            omega arith)
            (may_made m before id v at may);
      };
  open_ones = λ id v at may. ⊎_elim
      (λ (h : may_in before id v at × (m.seat ≡ id → (o node : ℕ) → m.call ≢ Link o v node)).
      let o = r.open_ones id v at h.0 in
      record { number = o.number; at = at_longer us ((u, m.seat) ∷ []) o.number (v, id) o.at; place_is = o.place_is })
      (λ (h : (m.seat ≡ id) × (m.call ≡ Enter v (Behind at))).
      let same : u ≡ v = cc (sym is ∙ h.1) in
      let here : place ≡ at = cc (sym is ∙ h.1) in
      let c = counted in
      record { number = length us; at = at_last us (u, m.seat) (length us) refl ∙ (λ i. some (same i, h.0 i)); place_is = omega arith })
      (may_made m before id v at may);
}
  where
    counted : q.entered ≡ q.stand.read + length us + 1
    counted = ⊎_elim (λ (h : (q.entered ≡ 0) × (q.stand.read ≡ 0) × (us ≡ [])). absurd (some_one h.0)) (λ (h : q.entered ≡ q.stand.read + length us + 1). h) r.count

-- ---- a link

same_seat : (us : List Entrant) (i : ℕ) (u v : Turn) (s t : ℕ) → get_elem? us i ≡ some (u, s) → get_elem? us i ≡ some (v, t) → (u ≡ v) × (s ≡ t)
same_seat us i u v s t e f =
    let same : (u, s) ≡ (v, t) = some-injective (u, s) (v, t) (sym e ∙ f) in
    (ap (λ (x : Entrant). x.0) same, ap (λ (x : Entrant). x.1) same)

links : (q : Plain) (m : Made) (before : List Made) (u : Turn) (place node : ℕ) (us : List Entrant) → m.call ≡ Link place u node → may_in before m.seat u place → UnreadIn q before us
    → AreUnread q.entered q.stand.read (with_cell (place % 64) (Some (record { turn = u; node = node })) q).cells (may_in (m ∷ before)) us
links q m before u place node us is may r = record {
  count = r.count;
  in_cells = λ j p. by_cell j p (j == place % 64) refl;
  open_ones = λ id v at maybe. r.open_ones id v at (less id v at maybe);
}
  where
    less : Narrows (m ∷ before) before
    less = narrows m before (λ v at e. absurd (cc (sym is ∙ e)))

    by_cell : (j : ℕ) (p : Placed) (b : Bool) → (j == place % 64) ≡ b → cond b (Some (record { turn = u; node = node })) (q.cells j) ≡ Some p → IsInCell q.stand.read (may_in (m ∷ before)) us j p
    by_cell j p true here e =
        let o = r.open_ones m.seat u place may in
        let same : u ≡ p.turn = ap (λ (d : Placed). d.turn) (same_Some _ p e) in
        record {
          number = o.number;
          seat = m.seat;
          at = o.at ∙ ap (λ (v : Turn). some (v, m.seat)) same;
          cell = eqb-true j (place % 64) here ∙ ap (λ (n : ℕ). n % 64) o.place_is;
          closed = λ id v at maybe there. ⊎_elim
              (λ (h : may_in before id v at × (m.seat ≡ id → (x n : ℕ) → m.call ≢ Link x v n)).
              let w = r.open_ones id v at h.0 in
              let number : w.number ≡ o.number = (let a = w.place_is in omega arith) in
              let two = same_seat us o.number u v m.seat id o.at (ap (get_elem? us) (sym number) ∙ w.at) in
              h.1 two.1 place node (is ∙ ap (λ (x : Turn). Link place x node) two.0))
              (λ (h : (m.seat ≡ id) × (m.call ≡ Enter v (Behind at))). cc (sym is ∙ h.1))
              (may_made m before id v at maybe);
        }
    by_cell j p false here e = still_in q.stand.read (m ∷ before) before us j p less (r.in_cells j p e)

-- ---- a cell is read

finds : (q : Plain) (m : Made) (before : List Made) (p : Placed) (number : ℕ) (took : Bool) (us : List Entrant) → m.call ≡ Read number (Some p) took → number ≡ q.stand.read + 1 → Some p ≡ q.cells (number % 64) → length us ≤ 64 → UnreadIn q before us
    → (seat : ℕ) × (rest : List Entrant) × (us ≡ (p.turn, seat) ∷ rest) × AreUnread q.entered number (with_cell (number % 64) None q).cells (may_in (m ∷ before)) rest
finds q m before p number took us is next there few r = by_list us refl
  where
    less : Narrows (m ∷ before) before
    less = narrows m before (λ v at e. absurd (cc (sym is ∙ e)))

    here : IsInCell q.stand.read (may_in before) us (number % 64) p
    here = r.in_cells (number % 64) p (sym there)

    front : here.number ≡ 0
    front = let n = in_range us here.number (p.turn, here.seat) here.at in let c = here.cell in omega arith

    by_list : (l : List Entrant) → us ≡ l → (seat : ℕ) × (rest : List Entrant) × (us ≡ (p.turn, seat) ∷ rest) × AreUnread q.entered number (with_cell (number % 64) None q).cells (may_in (m ∷ before)) rest
    by_list [] e = absurd (let n = in_range us here.number (p.turn, here.seat) here.at in let l : length us ≡ 0 = ap length e in omega arith)
    by_list (x ∷ rest) e =
        let at : some x ≡ some (p.turn, here.seat) = (λ i. get_elem? (sym e i) (sym front i)) ∙ here.at in (
          here.seat,
          rest,
          e ∙ ap (λ (y : Entrant). y ∷ rest) (some-injective x (p.turn, here.seat) at),
          record {
            count = ⊎_elim
                (λ (h : (q.entered ≡ 0) × (q.stand.read ≡ 0) × (us ≡ [])). absurd (let a : length us ≡ 0 = ap length h.2 in let b : length us ≡ suc (length rest) = ap length e in omega arith))
                (λ (h : q.entered ≡ q.stand.read + length us + 1). let b : length us ≡ suc (length rest) = ap length e in inr (omega arith))
                r.count;
            in_cells = λ j d. by_cell j d (j == number % 64) refl;
            open_ones = λ id v place may.
                let o = r.open_ones id v place (less id v place may) in
                open_later id v place o.number o.place_is (ap (λ (l : List Entrant). get_elem? l o.number) (sym e) ∙ o.at) (less id v place may);
          },
        )
      where
        open_later : (id : ℕ) (v : Turn) (place i : ℕ) → place ≡ q.stand.read + 1 + i → get_elem? (x ∷ rest) i ≡ some (v, id) → may_in before id v place → IsOpen number rest id v place
        open_later id v place zero at said may = absurd (here.closed id v place may (let f = front in omega arith))
        open_later id v place (suc i) at said may = record { number = i; at = said; place_is = omega arith }

        cell_later : (j : ℕ) (d : Placed) (i seat : ℕ) → get_elem? (x ∷ rest) i ≡ some (d.turn, seat) → j ≢ number % 64 → j ≡ (q.stand.read + 1 + i) % 64 → ((id : ℕ) (v : Turn) (place : ℕ) → may_in (m ∷ before) id v place → place ≢ q.stand.read + 1 + i) → IsInCell number (may_in (m ∷ before)) rest j d
        cell_later j d zero seat said other cell closed = absurd (other (cell ∙ (omega arith)))
        cell_later j d (suc i) seat said other cell closed = record { number = i; seat = seat; at = said; cell = cell ∙ ap (λ (n : ℕ). n % 64) (omega arith); closed = λ id v place may same. closed id v place may (omega arith) }

        by_cell : (j : ℕ) (d : Placed) (b : Bool) → (j == number % 64) ≡ b → cond b None (q.cells j) ≡ Some d → IsInCell number (may_in (m ∷ before)) rest j d
        by_cell j d true out found = absurd (none-some d found)
        by_cell j d false out found =
            let i = still_in q.stand.read (m ∷ before) before us j d less (r.in_cells j d found) in
            cell_later j d i.number i.seat (ap (λ (l : List Entrant). get_elem? l i.number) (sym e) ∙ i.at) (eqb-false j (number % 64) out) i.cell i.closed

-- ---- the last one leaves

all_left : (q : Plain) → Left ≡ answer_to_leave q.entered q.stand → q.entered ≡ next_to q.stand.read
all_left q = by_test (q.entered == next_to q.stand.read) refl
  where
    by_test : (b : Bool) → (q.entered == next_to q.stand.read) ≡ b → Left ≡ cond b Left Followed → q.entered ≡ next_to q.stand.read
    by_test true is e = eqb-true q.entered (next_to q.stand.read) is
    by_test false is e = absurd (cc e)

leaves : (q : Plain) (m : Made) (before : List Made) (u : Turn) (us : List Entrant) → m.call ≡ Leave u Left → q.entered ≡ next_to q.stand.read → q.entered < 2 ^ 64 → UnreadIn q before us
    → (us ≡ []) × AreUnread 0 0 q.cells (may_in (m ∷ before)) us
leaves q m before u us is all low r = by_list us refl
  where
    less : Narrows (m ∷ before) before
    less = narrows m before (λ v at e. absurd (cc (sym is ∙ e)))

    none : (i : ℕ) (x : Entrant) → us ≡ [] → get_elem? us i ≡ some x → ⊥
    none i x e at = some-ne-none x (sym (ap (λ (l : List Entrant). get_elem? l i) (sym e) ∙ at))

    by_list : (l : List Entrant) → us ≡ l → (us ≡ []) × AreUnread 0 0 q.cells (may_in (m ∷ before)) us
    by_list [] e = (
      e,
      record {
        count = inl (refl, refl, e);
        in_cells = λ j p found. let i = r.in_cells j p found in absurd (none i.number (p.turn, i.seat) e i.at);
        open_ones = λ id v place may. let o = r.open_ones id v place (less id v place may) in absurd (none o.number (v, id) e o.at);
      },
    )
    by_list (x ∷ rest) e = absurd (let a : length us ≡ suc (length rest) = ap length e in ⊎_elim
        (λ (h : (q.entered ≡ 0) × (q.stand.read ≡ 0) × (us ≡ [])). let b : length us ≡ 0 = ap length h.2 in omega arith)
        (λ (h : q.entered ≡ q.stand.read + length us + 1). omega arith)
        r.count)

-- ---- all steps

-- no more entered than there are steps
entered_low : (k : NodeTerms) (order : List Made) → (queue_after k order).entered ≤ length order
entered_low k [] = omega arith
entered_low k (m ∷ before) = by_call m.call (entered_low k before)
  where
    q : Plain
    q = queue_after k before

    by_call : (c : LineStep) → q.entered ≤ length before → (plain_after q m.seat c).entered ≤ suc (length before)
    by_call (Enter u a) low = omega arith
    by_call (Link place u node) low = omega arith
    by_call (Take true) low = omega arith
    by_call (Take false) low = omega arith
    by_call (Read number found took) low = omega arith
    by_call (Next u node a) low = omega arith
    by_call (Stay u) low = omega arith
    by_call (Leave u Left) low = omega arith
    by_call (Leave u Followed) low = omega arith
    by_call Back low = omega arith

abbrev pub names : List Entrant → List Turn
names us = map (λ (x : Entrant). x.0) us

abbrev pub reads : List Op → List Turn
reads ops = map (λ (p : Placed). p.turn) (arriving ops)

-- those who were read, and behind them those who were not yet, are those who entered
pub record IsFiled (q : Plain) (order : List Made) (ops : List Op) (entries : List Turn) : Type 0 where
  pub unread : List Entrant
  pub are : UnreadIn q order unread
  pub list : reads ops ++ names unread ≡ entries

few_unread : (k : NodeTerms) (order : List Made) (us : List Entrant) → HasRoom k order → UnreadIn (queue_after k order) order us → length us ≤ 64
few_unread k [] us room r = ⊎_elim
    (λ (h : (zero ≡ 0) × (zero ≡ 0) × (us ≡ [])). let a : length us ≡ 0 = ap length h.2 in omega arith)
    (λ (h : 0 ≡ 0 + length us + 1). absurd (omega arith))
    r.count
few_unread k (m ∷ before) us room r =
    let a = room.0 in
    ⊎_elim
    (λ (h : ((queue_after k (m ∷ before)).entered ≡ 0) × ((queue_after k (m ∷ before)).stand.read ≡ 0) × (us ≡ [])). let b : length us ≡ 0 = ap length h.2 in omega arith)
    (λ (h : (queue_after k (m ∷ before)).entered ≡ (queue_after k (m ∷ before)).stand.read + length us + 1). omega arith)
    r.count

none_more : (ops : List Op) (us : List Entrant) (entries : List Turn) → reads ops ++ names us ≡ entries → reads (ops ++ []) ++ names us ≡ entries ++ []
none_more ops us entries is = ap (λ (l : List Op). reads l ++ names us) (append-nil ops) ∙ (is ∙ sym (append-nil entries))

one_enters : (ops : List Op) (us : List Entrant) (x : Entrant) (entries : List Turn) → reads ops ++ names us ≡ entries → reads (ops ++ []) ++ names (us ++ x ∷ []) ≡ entries ++ x.0 ∷ []
one_enters ops us x entries is =
    (λ i. reads (append-nil ops i) ++ map-append (λ (y : Entrant). y.0) us (x ∷ []) i)
    ∙ (sym (append_assoc (reads ops) (names us) (x.0 ∷ [])) ∙ ap (λ (l : List Turn). l ++ x.0 ∷ []) is)

one_read : (ops : List Op) (u : Turn) (node : ℕ) (seat : ℕ) (us rest : List Entrant) (entries : List Turn) → us ≡ (u, seat) ∷ rest → reads ops ++ names us ≡ entries → reads (ops ++ Arrive u node ∷ []) ++ names rest ≡ entries ++ []
one_read ops u node seat us rest entries front is =
    ap (λ (l : List Turn). l ++ names rest) (ap (map (λ (p : Placed). p.turn)) (arriving-append ops (Arrive u node ∷ [])) ∙ map-append (λ (p : Placed). p.turn) (arriving ops) (record { turn = u; node = node } ∷ []))
    ∙ (append_assoc (reads ops) (u ∷ []) (names rest)
    ∙ (ap (λ (l : List Entrant). reads ops ++ names l) (sym front) ∙ (is ∙ sym (append-nil entries))))

one_picks : (ops : List Op) (node : ℕ) (us : List Entrant) (entries : List Turn) → reads ops ++ names us ≡ entries → reads (ops ++ Pick node ∷ []) ++ names us ≡ entries ++ []
one_picks ops node us entries is =
    ap (λ (l : List Placed). map (λ (p : Placed). p.turn) l ++ names us) (arriving-append ops (Pick node ∷ []) ∙ append-nil (arriving ops)) ∙ (is ∙ sym (append-nil entries))

abbrev pub filed_none : (k : NodeTerms) → IsFiled (queue_after k []) [] [] []
filed_none k = record {
  unread = [];
  are = record { count = inl (refl, refl, refl); in_cells = λ j p e. absurd (none-some p e); open_ones = λ id u place may. absurd (some-ne-none (Enter u (Behind place)) (sym may.1)) };
  list = refl;
}

-- a step more, where the cells suffice before it
pub filed_step : (k : NodeTerms) (m : Made) (before : List Made) → IsLegal k (m ∷ before) → suc (length before) < 2 ^ 64 → (f : IsFiled (queue_after k before) before (ops_of before) (entries_of before)) → length f.unread ≤ 64
    → IsFiled (queue_after k (m ∷ before)) (m ∷ before) (ops_of (m ∷ before)) (entries_of (m ∷ before))
filed_step k m before legal low f room = by_call m.call refl legal.0 f.unread f.are f.list room
  where
    q : Plain
    q = queue_after k before

    ops : List Op
    ops = ops_of before

    entries : List Turn
    entries = entries_of before

    fewer : q.entered ≤ length before
    fewer = entered_low k before

    Goal : LineStep → Type 0
    Goal c = IsFiled (plain_after q m.seat c) (m ∷ before) (ops ++ op_of c) (entries ++ entry_of c)

    quiet : (us : List Entrant) (cells : ℕ → Option Placed) → ((u : Turn) (place : ℕ) → m.call ≢ Enter u (Behind place)) → ((j : ℕ) (p : Placed) → cells j ≡ Some p → q.cells j ≡ Some p) → UnreadIn q before us
        → AreUnread q.entered q.stand.read cells (may_in (m ∷ before)) us
    quiet us cells other less r = still q.entered q.stand.read q.cells cells (m ∷ before) before us (narrows m before other) less r

    emptied : (i j : ℕ) (p : Placed) → (with_cell i None q).cells j ≡ Some p → q.cells j ≡ Some p
    emptied i j p = by_test (j == i)
      where
        by_test : (b : Bool) → cond b None (q.cells j) ≡ Some p → q.cells j ≡ Some p
        by_test true e = absurd (none-some p e)
        by_test false e = e

    by_call : (c : LineStep) → m.call ≡ c → MayCome k q m.seat (calls_of m.seat before) c → (us : List Entrant) → UnreadIn q before us → reads ops ++ names us ≡ entries → length us ≤ 64 → Goal c
    by_call (Enter u First) is may us r list few = record { unread = us; are = enters_first q m before u us is (none_found q.entered may.1) r; list = none_more ops us entries list }
    by_call (Enter u (Behind place)) is may us r list few =
        let found = some_found q.entered place may.1 in
        record { unread = us ++ (u, m.seat) ∷ []; are = enters_behind q m before u place us is found.0 found.1 (let g = fewer in let l = low in omega arith) r; list = one_enters ops us (u, m.seat) entries list }
    by_call (Link place u node) is may us r list few = record { unread = us; are = links q m before u place node us is may.2 r; list = none_more ops us entries list }
    by_call (Take true) is may us r list few = record { unread = us; are = quiet us q.cells (λ v at e. absurd (cc (sym is ∙ e))) (λ j p e. e) r; list = none_more ops us entries list }
    by_call (Take false) is may us r list few = record { unread = us; are = quiet us q.cells (λ v at e. absurd (cc (sym is ∙ e))) (λ j p e. e) r; list = none_more ops us entries list }
    by_call (Read number None took) is may us r list few = record { unread = us; are = quiet us (with_cell (number % 64) None q).cells (λ v at e. absurd (cc (sym is ∙ e))) (emptied (number % 64)) r; list = none_more ops us entries list }
    by_call (Read number (Some p) took) is may us r list few =
        let next : number ≡ q.stand.read + 1 = may.1 ∙ low_read in
        let f = finds q m before p number took us is next may.2 few r in
        record { unread = f.1; are = subst (λ (n : ℕ). AreUnread q.entered n (with_cell (number % 64) None q).cells (may_in (m ∷ before)) f.1) may.1 f.3; list = one_read ops p.turn p.node f.0 us f.1 entries f.2 list }
      where
        low_read : next_to q.stand.read ≡ q.stand.read + 1
        low_read = ⊎_elim
            (λ (h : (q.entered ≡ 0) × (q.stand.read ≡ 0) × (us ≡ [])). let a = h.1 in omega arith)
            (λ (h : q.entered ≡ q.stand.read + length us + 1). let g = fewer in let l = low in omega arith)
            r.count
    by_call (Next u node a) is may us r list few = record { unread = us; are = quiet us q.cells (λ v at e. absurd (cc (sym is ∙ e))) (λ j p e. e) r; list = one_picks ops node us entries list }
    by_call (Stay u) is may us r list few = record { unread = us; are = quiet us q.cells (λ v at e. absurd (cc (sym is ∙ e))) (λ j p e. e) r; list = none_more ops us entries list }
    by_call (Leave u Left) is may us r list few = record { unread = us; are = (leaves q m before u us is (all_left q may.3) (let g = fewer in let l = low in omega arith) r).1; list = none_more ops us entries list }
    by_call (Leave u Followed) is may us r list few = record { unread = us; are = quiet us q.cells (λ v at e. absurd (cc (sym is ∙ e))) (λ j p e. e) r; list = none_more ops us entries list }
    by_call Back is may us r list few = record { unread = us; are = quiet us q.cells (λ v at e. absurd (cc (sym is ∙ e))) (λ j p e. e) r; list = none_more ops us entries list }

filed_after : (k : NodeTerms) (order : List Made) → IsLegal k order → length order < 2 ^ 64 → HasRoom k order → IsFiled (queue_after k order) order (ops_of order) (entries_of order)
filed_after k [] legal low room = filed_none k
filed_after k (m ∷ before) legal low room =
    let f = filed_after k before legal.1 (omega arith) room.1 in
    filed_step k m before legal low f (few_unread k before f.unread room.1 f.are)

pub keeps_arrivals : KeepsArrivals
keeps_arrivals k s r low room =
    let f = filed_after k r.order r.legal low room in
    (names f.unread, f.list)

-- ---- who is served

legal_before : (k : NodeTerms) (upper lower : List Made) → IsLegal k (upper ++ lower) → IsLegal k lower
legal_before k [] lower legal = legal
legal_before k (m ∷ upper) lower legal = legal_before k upper lower legal.1

on_before : (node : ℕ) (upper lower : List Made) → AreOnNode node (upper ++ lower) → AreOnNode node lower
on_before node [] lower on = on
on_before node (m ∷ upper) lower on = on_before node upper lower (All-tail (λ (x : Made). (place other : ℕ) (u : Turn) → x.call ≡ Link place u other → other ≡ node) m (upper ++ lower) on)

pub keeps_entry : KeepsEntry
keeps_entry k s r low room takes none_preferred =
    let arrived = keeps_arrivals k s r low room in
    let is = served_after k r.order r.legal takes (λ lower upper e. oldest lower upper e) in (
      turns_of (queue_after k r.order).stand.line.waiting ++ arrived.0,
      sym (append_assoc (served (answers_of r.order)) (turns_of (queue_after k r.order).stand.line.waiting) arrived.0) ∙ (ap (λ (l : List Turn). l ++ arrived.0) (sym is) ∙ arrived.1),
    )
  where
    oldest : (lower upper : List Made) → r.order ≡ upper ++ lower → PicksOldest k.bound (queue_after k lower).stand.line.waiting
    oldest lower upper e = oldest_after k lower (legal_before k upper lower (subst (IsLegal k) e r.legal)) (⊎_elim
        (λ (h : k.bound ≡ 0). inl h)
        (λ (h : (node : ℕ) × AreOnNode node r.order). inr (h.0, on_before h.0 upper lower (subst (AreOnNode h.0) e h.1)))
        none_preferred)
