use Rattle.std.proofs.Common.{◌≡◌, ◌+◌, Bool, List, Bor, filter, length, map, take, sym, ap, subst, ◌∙◌, arith}
use Rattle.std.specs.Prelude.{All}
use Rattle.std.proofs.lemmas.List.{length-map, take_all}
use Rattle.std.proofs.lemmas.List.Elements.{filter-append}
use Rattle.tc_journal.specs.declared.block.Block.{Block}
use Rattle.tc_report.specs.Logs.{blocks_in, is_between, put_from}
use Rattle.tc_report.proofs.Rows.{HasPlace, blocks_more, full_row, have_places, put_more}
use Rattle.tc_report.proofs.row.fill_row.Goals as goal

pub place-requires : goal.place-requires
place-requires c =
    let from = c.args.from in
    let n = length c.args.row.now in
    let places : All (HasPlace from n) c.between.result.now = subst (All (HasPlace from n)) (sym c.between.ensures) (have_places from n c.log-item.result.now) in
    subst (λ k. All (HasPlace from k) c.between.result.now) (sym c.loop-log.auto.row) places

pub loop-log-preserved : goal.loop-log-preserved
loop-log-preserved c =
    let from = c.args.from in
    let n = length c.args.row.now in
    let i = c.loop-log.log-index in
    let logs : List (Bor (List Block)) = c.args.logs.now in
    let row : List Block = map (λ (b : Bor Block). b.now) c.args.row.now in
    let here : Block → Bool = is_between from (from + n) in
    let done : List Block = blocks_in (take i logs) in
    let log : List Block = c.log-item.result.now in
    let put : map (λ (b : Bor Block). b.now) c.place.new.row ≡ put_from from (put_from from row (filter here done)) (filter here log) =
    c.place.ensures ∙ (λ k. put_from from (c.loop-log.invariant k) (c.between.ensures k)) in
    put
    ∙ put_more from row (filter here done) (filter here log)
    ∙ ap (put_from from row) (sym (filter-append here done log) ∙ ap (filter here) (sym (blocks_more logs i c.log-item.result c.loop-log-test.true c.log-item.is)))

pub returns : goal.returns
returns c =
    let from = c.args.from in
    let n = length c.args.row.now in
    let row : List Block = map (λ (b : Bor Block). b.now) c.args.row.now in
    let all : take c.loop-log.log-index c.args.logs.now ≡ c.args.logs.now = take_all c.loop-log.log-index c.args.logs.now (omega arith) in
    c.loop-log.invariant
    ∙ ap (λ logs. put_from from row (filter (is_between from (from + n)) (blocks_in logs))) all
    ∙ full_row row (blocks_in c.args.logs.now) from n (length-map c.args.row.now (λ (b : Bor Block). b.now)) c.requires.logs.stamps c.requires.within
