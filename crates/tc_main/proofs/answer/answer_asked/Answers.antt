use Rattle.std.proofs.Common.{◌≡◌, ◌≢◌, ℕ, ◌+◌, List, length, refl, sym, subst, ap, arith}
use Rattle.std.specs.Prelude.{Err}
use Rattle.std.proofs.lemmas.Result.{IfOk-weaker, on_err_weaker}
use Rattle.tc_io.specs.Stream.{Stream}
use Rattle.tc_io.specs.Taken.{FailsWithin, TakesCount}
use Rattle.tc_main.specs.Refusals.{too_large}
use Rattle.tc_main.specs.Words.{AskFor, Needs, Nothing, most_of, needs_of}
use Rattle.tc_main.specs.Top.{HasRead, IsRefusedFor}
use Rattle.tc_main.specs.Ends.{Comes, Verdict}
use Rattle.tc_report.specs.Written.{Wrote}
use Rattle.tc_main.specs.declared.status.Status.{Status}
use Rattle.tc_main.specs.declared.status.Status.TheVariants.{Done, Usage, ReadFault, Refused, WriteFault, OutOfMemory, Rejected}
use Rattle.tc_main.specs.declared.words.Command.{Command}
use Rattle.tc_main.proofs.Refusing.{enough, has_read, large, refused_some}
use Rattle.tc_main.proofs.answer.answer_asked.Goals as goal

-- what the bytes that were read for what is asked come to
of_verdict : (words : List (List ℕ)) (before now : Stream) (asked : Command) (bytes : List ℕ) → AskFor words asked → HasRead (needs_of asked) before now bytes
    → (P : List ℕ → Type 0) (text : List ℕ) (s : Status) → Verdict asked bytes text s → P text → Comes words before now P s
of_verdict words before now asked bytes asks read P text Done v p = (text, record { asked = asked; bytes = bytes; asks = asks; read = read; made = v }, p)
of_verdict words before now asked bytes asks read P text Usage v p = absurd v
of_verdict words before now asked bytes asks read P text ReadFault v p = absurd v
of_verdict words before now asked bytes asks read P text (Refused k) v p = (
  v.0,
  v.2,
  record {
    needs = needs_of asked;
    bytes = bytes;
    asks = record { asked = asked; asks = asks; needs_are = refl; some = some };
    read = enough (needs_of asked) before now bytes some read;
    refused = v.1;
  },
  subst P v.3 p,
)
  where
    some : needs_of asked ≢ Nothing
    some = refused_some (needs_of asked) before now bytes v.0 read v.1
of_verdict words before now asked bytes asks read P text WriteFault v p = absurd v
of_verdict words before now asked bytes asks read P text OutOfMemory v p = absurd v
of_verdict words before now asked bytes asks read P text (Rejected r) v p = (record { asked = asked; bytes = bytes; asks = asks; read = read; rejected = v.0 }, subst P v.1 p)

pub answer_bytes-requires-clause-few : goal.answer_bytes-requires-clause-few
answer_bytes-requires-clause-few g c = λ lives outlive. omega (arith, ap length c.new.ensures.items)

pub returns-in_default-clause-answer : goal.returns-in_default-clause-answer
returns-in_default-clause-answer g c = λ words asks.
    let none : needs_of c.args.asked ≡ Nothing = rw c.in_default.is at c.limit_of.ensures.none in
    let read : HasRead (needs_of c.args.asked) (g.S.Source.stream c.args.source.now) (g.S.Source.stream c.args.source.now) c.new.result.items =
    subst (λ (n : Needs). HasRead n (g.S.Source.stream c.args.source.now) (g.S.Source.stream c.args.source.now) c.new.result.items) (sym none) (refl, c.new.ensures.items) in
    IfOk-weaker c.answer_bytes.result _ _ (λ a v. of_verdict words _ _ c.args.asked c.new.result.items asks read (λ text. Wrote (g.K.Sink.stream c.args.sink.now) (g.K.Sink.stream c.answer_bytes.new.sink) text a.written) v.0 a.status v.1 v.2) c.answer_bytes.ensures.answer

pub answer_bytes-requires-in-Ok-clause-few : goal.answer_bytes-requires-in-Ok-clause-few
answer_bytes-requires-in-Ok-clause-few g c = λ lives outlive.
    let for = rw c.in-Some.is at c.limit_of.ensures.some in
    omega (arith, c.in-Ok.ensures.limit, for.1)

pub returns-in-Ok-clause-answer : goal.returns-in-Ok-clause-answer
returns-in-Ok-clause-answer g c = λ words asks.
    let for = rw c.in-Some.is at c.limit_of.ensures.some in
    let read : HasRead (needs_of c.args.asked) (g.S.Source.stream c.args.source.now) (g.S.Source.stream c.read_all.new.source) c.in-Ok.bytes.items =
    has_read (needs_of c.args.asked) _ _ c.in-Ok.bytes.items for.0 (record { few = omega (arith, c.in-Ok.ensures.limit, for.1); read = c.in-Ok.ensures.ok }) in
    IfOk-weaker c.answer_bytes-in-Ok.result _ _ (λ a v. of_verdict words _ _ c.args.asked c.in-Ok.bytes.items asks read (λ text. Wrote (g.K.Sink.stream c.args.sink.now) (g.K.Sink.stream c.answer_bytes-in-Ok.new.sink) text a.written) v.0 a.status v.1 v.2) c.answer_bytes-in-Ok.ensures.answer

pub returns-in-Err-Fault-clause-answer : goal.returns-in-Err-Fault-clause-answer
returns-in-Err-Fault-clause-answer g c = λ words asks.
    let for = rw c.in-Some.is at c.limit_of.ensures.some in
    let before = g.S.Source.stream c.args.source.now in
    let now = g.S.Source.stream c.read_all.new.source in
    let fails = c.in-Err-Fault.ensures.fault (ap Err c.in-Err-Fault.field-0-is) in
    ((needs_of c.args.asked, record { asked = c.args.asked; asks = asks; needs_are = refl; some = for.0 }, subst (FailsWithin before now) for.1 fails), c.write_text.ensures.wrote)

pub returns-in-Err-OverLimit-clause-answer : goal.returns-in-Err-OverLimit-clause-answer
returns-in-Err-OverLimit-clause-answer g c = λ words asks.
    let for = rw c.in-Some.is at c.limit_of.ensures.some in
    let before = g.S.Source.stream c.args.source.now in
    let now = g.S.Source.stream c.read_all.new.source in
    let over : TakesCount before now (most_of (needs_of c.args.asked) + 1) = subst (λ n. TakesCount before now (n + 1)) for.1 (c.in-Err-OverLimit.ensures.over (ap Err c.in-Err-OverLimit.field-0-is)) in
    let refused : IsRefusedFor words before now too_large = record {
      needs = needs_of c.args.asked;
      bytes = over.0;
      asks = record { asked = c.args.asked; asks = asks; needs_are = refl; some = for.0 };
      read = record { read = over.2; most = omega (arith, over.1); end = λ few. absurd (omega (arith, over.1, few)) };
      refused = large (needs_of c.args.asked) over.0 (omega (arith, over.1));
    } in
    IfOk-weaker c.refused.result _ _
    (λ a is. subst (Comes words before now (λ text. Wrote (g.K.Sink.stream c.args.sink.now) (g.K.Sink.stream c.refused.new.sink) text a.written)) (sym is.0)
    (too_large, refl, refused, is.1)) c.refused.ensures.answer

-- ---- how far was read, where memory is wanting

pub returns-in_default-clause-further : goal.returns-in_default-clause-further
returns-in_default-clause-further g c =
    let none : needs_of c.args.asked ≡ Nothing = rw c.in_default.is at c.limit_of.ensures.none in
    on_err_weaker c.answer_bytes.result (λ unwritten some. absurd (some none)) c.answer_bytes.ensures.memory
