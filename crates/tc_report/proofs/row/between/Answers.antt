use Rattle.std.proofs.Common.{rules, ◌≡◌, ◌-◌, true, false, List, length, drop, take, length-drop, nat_lt, ap, subst, ◌∙◌, arith}
use Rattle.std.proofs.lemmas.List.{take_all}
use Rattle.std.proofs.lemmas.List.Sorted.{IsNonDecreasingBy-drop, IsNonDecreasingBy-take, IsPartitionPoint-from_clause, IsPartitionedBy-ltb}
use Rattle.std.specs.List.Sorted.{IsPartitionPoint}
use Rattle.tc_journal.specs.declared.block.Block.{Block}
use Rattle.tc_report.proofs.Rows.{between_is}
use Rattle.tc_report.proofs.row.between.Goals as goal

pub returns : goal.returns
returns c =
    let log : List Block = c.args.log.now in
    let from = c.args.from in
    let to = c.args.to in
    let i = c.partition_point-first.result in
    let j = c.partition_point.result in
    let n = length log - i in
    let cut : List Block = take n (drop i log) in
    let whole : cut ≡ drop i log = take_all n (drop i log) (omega (arith, length-drop i log)) in
    let rises = IsNonDecreasingBy-take (λ (b : Block). b.stamp) n (drop i log) (IsNonDecreasingBy-drop (λ (b : Block). b.stamp) i log c.requires) in
    let one = IsPartitionPoint-from_clause (λ b. nat_lt b.stamp from) log i c.partition_point-first.ensures.partitioned (IsPartitionedBy-ltb (λ b. b.stamp) log from c.requires) (λ a r q k. search rules) in
    let two = IsPartitionPoint-from_clause (λ b. nat_lt b.stamp to) cut j c.partition_point.ensures.partitioned (IsPartitionedBy-ltb (λ b. b.stamp) cut to rises) (λ a r q k. search rules) in
    let point : List Block → Type 0 = λ l. IsPartitionPoint (λ b. nat_lt b.stamp to ≡ true) (λ b. nat_lt b.stamp to ≡ false) l j in
    ap (take j) whole ∙ between_is from to log i j c.partition_point-first.ensures.bound (omega (arith, c.partition_point.ensures.bound, ap (λ (l : List Block). length l) whole)) one (subst point whole two)
