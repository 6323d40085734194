use Rattle.std.proofs.Common.{rules, ◌≤◌, List, ℕ, length, take, refl, sym, subst, ap, arith}
use Rattle.tc_elf.specs.declared.limits.TheConstants.{MAX_FILE}
use Rattle.tc_mutex_spec.specs.Blocks.{end_after}
use Rattle.tc_mutex_spec.proofs.Journals.{has_journal}
use Rattle.tc_main.specs.Replayed.{HasRun}
use Rattle.tc_main.specs.Top.{IsTextOf}
use Rattle.tc_report.specs.Written.{Wrote}
use Rattle.tc_main.specs.Words.{FitsInput}
use Rattle.tc_main.specs.Wrong.{IsWrong, IsWrongFile, IsWrongInput}
use Rattle.tc_main.specs.declared.words.Command.{Command}
use Rattle.tc_main.specs.declared.words.Command.TheVariants.{Run, Replay, Profile}
use Rattle.tc_main.specs.declared.wrong.Wrong.{Wrong}
use Rattle.tc_main.proofs.Guests.{guest_few}
use Rattle.tc_main.proofs.Replaying.{asked_wrong, run_wrong}
use Rattle.tc_main.proofs.answer.write_asked.Goals as goal

pub guest_of-requires : goal.guest_of-requires
guest_of-requires g c =
    let few : FitsInput (Run c.in-Run.order c.in-Run.options) c.args.bytes.items = subst (λ (a : Command). FitsInput a c.args.bytes.items) c.in-Run.is c.requires.few in
    let count : length c.args.bytes.items ≤ MAX_FILE = few in
    omega (arith, count, ap length c.deref.ensures.value)

pub returns-in_err-image-in-Run-clause-wrong : goal.returns-in_err-image-in-Run-clause-wrong
returns-in_err-image-in-Run-clause-wrong g c =
    let few : FitsInput (Run c.in-Run.order c.in-Run.options) c.args.bytes.items = subst (λ (a : Command). FitsInput a c.args.bytes.items) c.in-Run.is c.requires.few in
    let of : (w : Wrong) → IsWrongFile c.deref.result.now w → IsWrong c.args.asked c.args.bytes.items w = λ w wrong.
    subst (λ (a : Command). IsWrong a c.args.bytes.items w) (sym c.in-Run.is) (run_wrong c.in-Run.order c.in-Run.options c.args.bytes.items w few (subst (λ (f : List ℕ). IsWrongFile f w) c.deref.ensures.value wrong)) in
    search (rules, of)

pub returns-in_err-replay-in-Replay-clause-wrong : goal.returns-in_err-replay-in-Replay-clause-wrong
returns-in_err-replay-in-Replay-clause-wrong g c =
    let few : FitsInput (Replay c.in-Replay.size c.in-Replay.options) c.args.bytes.items = subst (λ (a : Command). FitsInput a c.args.bytes.items) c.in-Replay.is c.requires.few in
    let of : (w : Wrong) → IsWrongInput c.in-Replay.size c.in-Replay.options c.args.bytes.items w → IsWrong c.args.asked c.args.bytes.items w = λ w wrong.
    subst (λ (a : Command). IsWrong a c.args.bytes.items w) (sym c.in-Replay.is) (asked_wrong (Replay c.in-Replay.size c.in-Replay.options) c.in-Replay.size c.in-Replay.options c.args.bytes.items w refl few wrong) in
    search (rules, of)

pub returns-in_err-replay-in-Profile-clause-wrong : goal.returns-in_err-replay-in-Profile-clause-wrong
returns-in_err-replay-in-Profile-clause-wrong g c =
    let few : FitsInput (Profile c.in-Profile.size c.in-Profile.options) c.args.bytes.items = subst (λ (a : Command). FitsInput a c.args.bytes.items) c.in-Profile.is c.requires.few in
    let of : (w : Wrong) → IsWrongInput c.in-Profile.size c.in-Profile.options c.args.bytes.items w → IsWrong c.args.asked c.args.bytes.items w = λ w wrong.
    subst (λ (a : Command). IsWrong a c.args.bytes.items w) (sym c.in-Profile.is) (asked_wrong (Profile c.in-Profile.size c.in-Profile.options) c.in-Profile.size c.in-Profile.options c.args.bytes.items w refl few wrong) in
    search (rules, of)

pub returns-in_ok-report-in-Replay-clause-wrote : goal.returns-in_ok-report-in-Replay-clause-wrote
returns-in_ok-report-in-Replay-clause-wrote g c =
    let r = c.in_ok-replay-in-Replay.replay in
    let report = c.in_ok-report-in-Replay.report.items in
    let run : HasRun c.in-Replay.size c.in-Replay.options c.args.bytes.items = record {
      image = r.image;
      history = r.history.items;
      is = c.in_ok-replay-in-Replay.ensures.history;
      run = c.in_ok-replay-in-Replay.ensures.replayed.run;
    } in
    let few = (guest_few (take c.in-Replay.size c.args.bytes.items) r.image run.is.guest).1 in
    let text : IsTextOf (Replay c.in-Replay.size c.in-Replay.options) c.args.bytes.items report = record {
      run = run;
      journals = λ k lt. has_journal r.image c.in-Replay.options.fuel r.history.items (end_after r.image c.in-Replay.options.fuel r.history.items) k few run.run.tells;
      printed = c.in_ok-report-in-Replay.ensures;
    } in
    let wrote : Wrote (g.K.Sink.stream c.args.sink.now) (g.K.Sink.stream c.write_text-in-Replay.new.sink) report c.write_text-in-Replay.result = search rules in
    (report, subst (λ (a : Command). IsTextOf a c.args.bytes.items report) (sym c.in-Replay.is) text, wrote)

pub returns-in_ok-profile-in-Profile-clause-wrote : goal.returns-in_ok-profile-in-Profile-clause-wrote
returns-in_ok-profile-in-Profile-clause-wrote g c =
    let r = c.in_ok-replay-in-Profile.replay in
    let profile = c.in_ok-profile-in-Profile.profile.items in
    let run : HasRun c.in-Profile.size c.in-Profile.options c.args.bytes.items = record {
      image = r.image;
      history = r.history.items;
      is = c.in_ok-replay-in-Profile.ensures.history;
      run = c.in_ok-replay-in-Profile.ensures.replayed.run;
    } in
    let text : IsTextOf (Profile c.in-Profile.size c.in-Profile.options) c.args.bytes.items profile = (run, c.in_ok-profile-in-Profile.ensures) in
    let wrote : Wrote (g.K.Sink.stream c.args.sink.now) (g.K.Sink.stream c.write_text-in-Profile.new.sink) profile c.write_text-in-Profile.result = search rules in
    (profile, subst (λ (a : Command). IsTextOf a c.args.bytes.items profile) (sym c.in-Profile.is) text, wrote)
