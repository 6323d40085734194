use Rattle.std.proofs.Common.{◌≡◌, ◌∙◌, ◌∷◌, ◌++◌, [], List, refl, sym, subst, ap}
use Rattle.tc_journal.specs.declared.block.Block.{Block}
use Rattle.tc_replay.specs.Rejected.{IsRejected}
use Rattle.tc_replay.specs.Taken.{CheckerView, HasTaken}
use Rattle.tc_replay.specs.declared.reason.Reason.{Reason}
use Rattle.tc_replay.specs.declared.reason.Rejected.{Rejected}
use Rattle.tc_replay.proofs.Whole.{stands_read}
use Rattle.tc_replay.proofs.Through.{next_stamp, take_more, some_there, none_there, told_rejection, told_acceptance, rejected_by, whole_by, cut_short, accepted_by}
use Rattle.tc_replay.proofs.checking.checked.Goals as goal

pub loop-i-init : goal.loop-i-init
loop-i-init c = record { taken = c.in_ok-checker.ensures.taken; image = c.in_ok-checker.ensures.image; terms = c.in_ok-checker.ensures.terms }

pub take-requires-clause-image : goal.take-requires-clause-image
take-requires-clause-image c = c.loop-i.invariant.image

pub take-requires-clause-stamp : goal.take-requires-clause-stamp
take-requires-clause-stamp c =
    λ on. next_stamp c.loop-i.checker c.args.history.now c.loop-i.i c.index-history-i.result (stands_read c.args.history.now c.loop-i.i c.index-history-i.result c.loop-i-test.true c.index-history-i.is) c.loop-i.invariant.taken c.requires

pub returns-in-Err-Wrong-clause-rejected : goal.returns-in-Err-Wrong-clause-rejected
returns-in-Err-Wrong-clause-rejected c r e =
    let inv = c.loop-i.invariant in
    let h = c.args.history.now in
    let here = stands_read h c.loop-i.i c.index-history-i.result c.loop-i-test.true c.index-history-i.is in
    let told = told_rejection _ _ _ r refl refl e in
    let reason : c.in-Err-Wrong.reason ≡ r.reason = (let is = c.in-Err-Wrong.reason-is in let same = ap (λ (x : Rejected). x.reason) told in cc) in
    let wrong = c.take.ensures.wrong c.in-Err-Wrong.reason (let is = c.in-Err-Wrong.is in let field = c.in-Err-Wrong.field-0-is in cc) inv.taken.on in
    subst (λ (x : Reason). IsRejected c.args.image.now c.args.terms h r.line x) reason
    (rejected_by c.loop-i.checker c.args.image.now c.args.terms h inv.image inv.terms c.keeps.ensures c.loop-i.i c.index-history-i.result here inv.taken c.in-Err-Wrong.reason wrong r.line (sym (ap (λ (x : Rejected). x.line) told)))

pub loop-i-preserved : goal.loop-i-preserved
loop-i-preserved c =
    let inv = c.loop-i.invariant in
    let h = c.args.history.now in
    let here = stands_read h c.loop-i.i c.index-history-i.result c.loop-i-test.true c.index-history-i.is in
    record {
      taken = subst (HasTaken c.take.new.self) (ap (λ (l : List Block). l ++ c.index-history-i.result ∷ []) inv.taken.taken ∙ take_more c.loop-i.checker h c.loop-i.i c.index-history-i.result here) c.in-Ok.ensures.taken;
      image = c.take.ensures.same.0 ∙ inv.image;
      terms = c.take.ensures.same.1 ∙ inv.terms;
    }

pub unfinished-requires : goal.unfinished-requires
unfinished-requires c = c.loop-i.invariant.taken.on

pub returns-then-is_some-clause-rejected : goal.returns-then-is_some-clause-rejected
returns-then-is_some-clause-rejected c r e =
    let inv = c.loop-i.invariant in
    let h = c.args.history.now in
    let one = some_there c.unfinished.result (sym c.is_some.ensures ∙ c.if-is_some.true) in
    subst (λ (x : Rejected). IsRejected c.args.image.now c.args.terms h x.line x.reason) (told_rejection _ _ _ r refl refl e)
    (cut_short c.loop-i.checker c.args.image.now c.args.terms h inv.image inv.terms c.keeps-2.ensures c.loop-i.i c.loop-i-test.false inv.taken one.0 (c.unfinished.ensures.some one.0 one.1))

pub returns-clause-accepted : goal.returns-clause-accepted
returns-clause-accepted c other e =
    let inv = c.loop-i.invariant in
    accepted_by c.loop-i.checker c.args.image.now c.args.terms c.args.history.now inv.image inv.terms c.keeps-2.ensures c.loop-i.i c.loop-i-test.false inv.taken
    (c.unfinished.ensures.none (none_there c.unfinished.result (sym c.is_some.ensures ∙ c.if-is_some.false)))

pub returns-clause-taken : goal.returns-clause-taken
returns-clause-taken c other e =
    let inv = c.loop-i.invariant in
    subst (λ (v : CheckerView). HasTaken v c.args.history.now) (told_acceptance _ _ _ other refl refl e)
    (whole_by c.loop-i.checker c.args.image.now c.args.terms c.args.history.now inv.image inv.terms c.keeps-2.ensures c.loop-i.i c.loop-i-test.false inv.taken)

pub returns-clause-made : goal.returns-clause-made
returns-clause-made c other e =
    let inv = c.loop-i.invariant in
    subst (λ (v : CheckerView). (v.image ≡ c.args.image.now) × (v.terms ≡ c.args.terms)) (told_acceptance _ _ _ other refl refl e) (inv.image, inv.terms)
