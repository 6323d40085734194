use Rattle.std.proofs.Common.{◌∙◌, List, ℕ, length, take, drop, inr, sym, subst, ap, arith}
use Rattle.std.specs.Prelude.{Ok}
use Rattle.tc_elf.specs.Loading.{subset}
use Rattle.tc_journal.specs.History.{IsInOrder}
use Rattle.tc_journal.specs.Reading.{IsTextOf}
use Rattle.tc_journal.specs.Told.{told}
use Rattle.tc_journal.specs.declared.block.Block.{Block}
use Rattle.tc_replay.specs.Rejected.{IsCompleteRun, IsRejected}
use Rattle.tc_replay.specs.Taken.{HasTaken}
use Rattle.tc_replay.proofs.Telling.{accepted_run}
use Rattle.tc_replay.proofs.Through.{in_order_from}
use Rattle.tc_main.specs.Replayed.{HasHistory}
use Rattle.tc_main.proofs.replay.replayed.Goals as goal

pub checked-requires : goal.checked-requires
checked-requires c =
    subst IsInOrder (sym c.deref-2.ensures.value) (in_order_from 0 c.in_ok-history.history.items c.in_ok-history.ensures.text.history)

pub returns-in-Accepted-clause-replayed : goal.returns-in-Accepted-clause-replayed
returns-in-Accepted-clause-replayed c =
    let o = c.args.options in
    let image = c.in_ok-image.image in
    let same = c.deref-2.ensures.value in
    let is = c.in_ok-checker.was ∙ ap (λ v. Ok v) c.in-Accepted.is in
    let run : IsCompleteRun image o c.deref-2.result.now =
    accepted_run image o c.deref-2.result.now (c.checked.ensures.accepted c.in-Accepted.checker is) in
    let made = c.checked.ensures.made c.in-Accepted.checker is in
    record {
      run = subst (IsCompleteRun image o) same run;
      taken = subst (HasTaken c.in-Accepted.checker) same (c.checked.ensures.taken c.in-Accepted.checker is);
      ended = c.checked.ensures.ended c.in-Accepted.checker is;
      image = made.0;
      terms = made.1;
    }

pub returns-in-Rejected-clause-wrong : goal.returns-in-Rejected-clause-wrong
returns-in-Rejected-clause-wrong c =
    let o = c.args.options in
    let image = c.in_ok-image.image in
    let r = c.in-Rejected.rejected in
    let bytes = c.args.bytes.items in
    let same = c.deref-2.ensures.value in
    let is = c.in_ok-checker.was ∙ ap (λ v. Ok v) c.in-Rejected.is in
    let guest : subset (take c.args.size bytes) image =
    subst (λ (file : List ℕ). subset file image) (c.split_at.ensures.front ∙ ap (take c.args.size) c.deref.ensures.value) c.in_ok-image.ensures.guest in
    let text : IsTextOf told (drop c.args.size bytes) c.in_ok-history.history.items =
    subst (λ (t : List ℕ). IsTextOf told t c.in_ok-history.history.items) (c.split_at.ensures.back ∙ ap (drop c.args.size) c.deref.ensures.value) c.in_ok-history.ensures.text in
    let history : HasHistory c.args.size bytes image c.in_ok-history.history.items = record {
      enough = omega (arith, c.split_at.ensures.back_len, ap length c.deref.ensures.value);
      guest = guest;
      text = text;
    } in
    let wrong : IsRejected image o c.deref-2.result.now r.line r.reason = c.checked.ensures.rejected r is in
    inr (record {
      image = image;
      history = c.in_ok-history.history.items;
      is = history;
      rejected = subst (λ (h : List Block). IsRejected image o h r.line r.reason) same wrong;
    })
