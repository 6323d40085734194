use Rattle.std.proofs.Common.{rules, ◌≡◌, ◌-◌, ℕ, List, length, take, drop, sym, ap, ◌∙◌, arith}
use Rattle.std.specs.Prelude.{decimal}
use Rattle.tc_main.proofs.Spelled.{if_none, same_workers}
use Rattle.tc_main.proofs.words.nodes_of.Goals as goal

pub returns-in_err-nodes-clause-none : goal.returns-in_err-nodes-clause-none
returns-in_err-nodes-clause-none c = if_none c.from_residual-in_err-nodes.result _ (λ nodes bound o asks.
    let workers : c.in_ok-options.options.workers ≡ o.workers = same_workers c.in_ok-options.options o (sym c.in_ok-options.ensures.some ∙ ap (λ (words : List (List ℕ)). take (length words - 3) (drop 3 words)) asks.1) in
    let item : c.nodes-item.result ≡ decimal nodes = search (rules, asks.1) in
    c.in_err-nodes.ensures.none nodes asks.0.0 (omega (arith, asks.0.1, workers)) item)
