-- Rows of seats on nodes, while queues are made.
use Rattle.std.proofs.Common.{◌≡◌, ℕ, ◌%◌, List, [], ◌∷◌, ◌++◌, All, length, map, sym, ap, ◌∙◌, subst, arith}
use Rattle.std.proofs.lemmas.List.{map-append}
use Rattle.std.proofs.lemmas.List.Elements.{All-push}
use Rattle.tc_mutex_spec.proofs.ListLaws.{there}
use Rattle.tc_nodes.specs.Lines.{queue_as}
use Rattle.tc_nodes.specs.View.{NodeQueueView, NodeSeatView, AreNewSeats}
use Rattle.tc_workers.specs.Rows.{AreDealtOut}
use Rattle.tc_workers.proofs.Rows.{row_by_row}
use Rattle.tc_main.specs.Orders.{AreOnNodes}

-- ---- before there is a queue

pub none_on : {X : Type 0} (nodes : ℕ) (seats : X → List NodeSeatView) (rows : List X) → All (λ row. seats row ≡ []) rows → AreOnNodes nodes seats rows
none_on nodes seats rows all = record {
  each = λ w row e k d lt.
      let place = there rows w row row e in
      let none : seats row ≡ [] = subst (λ r. seats r ≡ []) place.1 (all w row place.0) in
      absurd (omega (arith, ap length none, lt));
}

-- ---- a queue more

pub on_more : {X : Type 0} (nodes : ℕ) (items : X → List NodeSeatView) (q : NodeQueueView) (rows : List X) (seats : List NodeSeatView) (more : List X) → AreOnNodes nodes items rows → AreNewSeats q nodes seats
    → length seats ≡ length rows → AreDealtOut items rows seats more → AreOnNodes nodes items more
on_more nodes items q rows seats more on new same dealt = record {
  each = row_by_row items rows seats more (λ w row. All (λ (s : NodeSeatView). s.node ≡ w % nodes) row) dealt same
      (λ w row s e f. All-push (λ (t : NodeSeatView). t.node ≡ w % nodes) (items row) s (on.each w row e) (new w s f).node);
}

pub bounds_more : (bound : ℕ) (qs more : List NodeQueueView) (q : NodeQueueView) → All (λ (r : NodeQueueView). r.bound ≡ bound) qs → q.bound ≡ bound → more ≡ qs ++ q ∷ [] → All (λ (r : NodeQueueView). r.bound ≡ bound) more
bounds_more bound qs more q all new is = subst (All (λ (r : NodeQueueView). r.bound ≡ bound)) (sym is) (All-push (λ (r : NodeQueueView). r.bound ≡ bound) qs q all new)

pub views_more : (qs more : List NodeQueueView) (q : NodeQueueView) → more ≡ qs ++ q ∷ [] → map queue_as more ≡ map queue_as qs ++ queue_as q ∷ []
views_more qs more q is = ap (map queue_as) is ∙ map-append queue_as qs (q ∷ [])
