-- What is so after a legal order of steps, and the packing of cells.
use Rattle.std.proofs.Common.{◌≡◌, ℕ, ◌+◌, ◌/◌, ◌%◌, ◌≤◌, ◌==◌, Bool, true, false, cond, List, [], ◌∷◌, ◌++◌, sym, refl, ap, ◌∙◌, subst, arith, Option, Some, None}
use Rattle.std.proofs.lemmas.Option.{none-some, same_Some}
use Rattle.tc_queue.specs.declared.turn.Turn.{Turn}
use Rattle.tc_queue.specs.declared.turn.Departure.TheVariants.{Left, Followed}
use Rattle.tc_queue.specs.Words.{IsTurn, turn_word, turn_at}
use Rattle.tc_queue.proofs.Packed.{turns_packed, in_wider}
use Rattle.tc_nodes.specs.declared.line.Waiter.{Waiter}
use Rattle.tc_nodes.specs.declared.cells.Placed.{Placed}
use Rattle.tc_nodes.specs.declared.step.LineStep.{LineStep}
use Rattle.tc_nodes.specs.declared.step.LineStep.TheVariants.{Enter, Link, Take, Read, Next, Stay, Leave, Back}
use Rattle.tc_nodes.specs.declared.board.Stand.{Stand}
use Rattle.tc_nodes.specs.declared.board.NodeTerms.{NodeTerms}
use Rattle.tc_nodes.specs.Line.{is_turn, is_refused, newcomer, line_without, line_after, with_waiting, IsSteady, picked}
use Rattle.tc_nodes.specs.Cells.{IsPlaced, cell_word, cell_at, word_of_cell, with_node}
use Rattle.tc_nodes.specs.Order.{Plain, Made, plain_after, queue_after, calls_of, MayCome, IsLegal, stand_after, without_pick, pick_of, with_cell}
use Rattle.tc_nodes.specs.Steps.{AreTurns, IsFound, IsLineFor}
use Rattle.tc_nodes.proofs.Steady.{steady_more, steady_picked}

-- ---- the packing

word_apart : (p : Placed) → IsPlaced 64 p → (cell_word p / 8 ≡ turn_word p.turn) × (cell_word p % 8 ≡ p.node)
word_apart p is = let n = is.node in (omega arith, omega arith)

pub cell_back : (n : ℕ) (c : Option Placed) → n ≤ 64 → IsFound n c → cell_at (word_of_cell c) ≡ c
cell_back n None few is = refl
cell_back n (Some p) few is =
    let i = is p refl in
    let turn = in_wider n p.turn few i.turn in
    let apart = word_apart p (record { turn = turn; node = i.node }) in
    (λ j. with_node (apart.1 j) (turn_at (apart.0 j))) ∙ ap (with_node p.node) (turns_packed.there p.turn turn)

-- ---- what is there is in range

turns_more : (n : ℕ) (u : Turn) (node : ℕ) (ws : List Waiter) → AreTurns n ws → IsTurn n u → AreTurns n (ws ++ newcomer u node ∷ [])
turns_more n u node [] are is = (is, tt)
turns_more n u node (w ∷ ws) are is = (are.0, turns_more n u node ws are.1 is)

turns_without : (n : ℕ) (u : Turn) (ws : List Waiter) → AreTurns n ws → AreTurns n (line_without u ws)
turns_without n u [] are = tt
turns_without n u (w ∷ ws) are = by_test (is_turn u w.turn) (turns_without n u ws are.1)
  where
    by_test : (b : Bool) → AreTurns n (line_without u ws) → AreTurns n (cond b ws (record w { passes = w.passes + 1 } ∷ line_without u ws))
    by_test true rest = are.1
    by_test false rest = (are.0, rest)

pub turns_after : (n : ℕ) (a : Option Turn) (ws : List Waiter) → AreTurns n ws → AreTurns n (line_after a ws)
turns_after n None ws are = are
turns_after n (Some u) ws are = turns_without n u ws are

turns_arrived : (n : ℕ) (found : Option Placed) (h : Stand) → IsFound n found → AreTurns n h.line.waiting → AreTurns n (stand_after found h).line.waiting
turns_arrived n None h is are = are
turns_arrived n (Some p) h is are = by_test (is_refused p.turn h.line)
  where
    by_test : (b : Bool) → AreTurns n (cond b h.line (with_waiting (h.line.waiting ++ newcomer p.turn p.node ∷ []) h.line)).waiting
    by_test true = are
    by_test false = turns_more n p.turn p.node h.line.waiting are (is p refl).turn

pub line_read : (n b : ℕ) (found : Option Placed) (h : Stand) → IsFound n found → IsLineFor n b h.line → IsLineFor n b (stand_after found h).line
line_read n b None h is of = of
line_read n b (Some p) h is of = by_test (is_refused p.turn h.line)
  where
    by_test : (v : Bool) → IsLineFor n b (cond v h.line (with_waiting (h.line.waiting ++ newcomer p.turn p.node ∷ []) h.line))
    by_test true = of
    by_test false = record { of_threads = of.of_threads; of_bound = of.of_bound; turns = turns_more n p.turn p.node h.line.waiting of.turns (is p refl).turn; steady = steady_more b p.turn p.node h.line.waiting of.steady }

line_picked : (n b node : ℕ) (h : Stand) → IsLineFor n b h.line → IsLineFor n b (without_pick node h).line
line_picked n b node h of = record {
  of_threads = of.of_threads;
  of_bound = of.of_bound;
  turns = turns_after n (pick_of node h) h.line.waiting of.turns;
  steady = subst (λ (m : ℕ). IsSteady b (line_after (picked m node h.line.waiting) h.line.waiting)) (sym of.of_bound) (steady_picked b node h.line.waiting of.steady);
}

-- the cells and the line are those of a queue for n threads with this bound
pub record IsSound (n b : ℕ) (q : Plain) : Type 0 where
  pub cells : (j : ℕ) → IsFound n (q.cells j)
  pub line : IsLineFor n b q.stand.line

cell_set : (n : ℕ) (q : Plain) (i : ℕ) (c : Option Placed) → ((j : ℕ) → IsFound n (q.cells j)) → IsFound n c → (j : ℕ) → IsFound n ((with_cell i c q).cells j)
cell_set n q i c all is j = by_test (j == i)
  where
    by_test : (b : Bool) → IsFound n (cond b c (q.cells j))
    by_test true = is
    by_test false = all j

pub sound_after : (k : NodeTerms) (order : List Made) → IsLegal k order → IsSound k.threads k.bound (queue_after k order)
sound_after k [] legal = record { cells = λ j p e. absurd (none-some p e); line = record { of_threads = refl; of_bound = refl; turns = tt; steady = tt } }
sound_after k (m ∷ before) legal = by_call m.call legal.0 (sound_after k before legal.1)
  where
    n : ℕ
    n = k.threads

    q : Plain
    q = queue_after k before

    by_call : (c : LineStep) → MayCome k q m.seat (calls_of m.seat before) c → IsSound n k.bound q → IsSound n k.bound (plain_after q m.seat c)
    by_call (Enter u a) may is = record { cells = is.cells; line = is.line }
    by_call (Link place u node) may is = record {
      cells = cell_set n q (place % 64) _ is.cells (λ p e. subst (IsPlaced n) (same_Some _ p e) (record { turn = may.0; node = may.1 }));
      line = is.line;
    }
    by_call (Take true) may is = record { cells = is.cells; line = is.line }
    by_call (Take false) may is = is
    by_call (Read number found took) may is = record {
      cells = cell_set n q (number % 64) None is.cells (λ p e. absurd (none-some p e));
      line = line_read n k.bound found q.stand (subst (IsFound n) (sym may.2) (is.cells (number % 64))) is.line;
    }
    by_call (Next u node a) may is = record { cells = is.cells; line = line_picked n k.bound node q.stand is.line }
    by_call (Stay u) may is = record { cells = is.cells; line = is.line }
    by_call (Leave u Left) may is = record { cells = is.cells; line = is.line }
    by_call (Leave u Followed) may is = record { cells = is.cells; line = is.line }
    by_call Back may is = record { cells = is.cells; line = is.line }
