use Rattle.std.proofs.Common.{◌≡◌, ℕ, ◌+◌, ◌-◌, ◌<◌, List, length, take, drop, ◌++◌, arith, sym, subst, ap, ◌∙◌, take-add, length-drop}
use Rattle.std.proofs.KnownBytes.{Appends-trans}
use Rattle.std.specs.Prelude.{Result, Ok, Err}
use Rattle.std.specs.Io.KnownBytes.{Appends}
use Rattle.std.proofs.lemmas.Grind.{common_steps}
use Rattle.std.proofs.lemmas.List.{take_all, drop_all, drop-drop}
use Rattle.std.proofs.lemmas.Result.{err_from_is_err_and}
use Rattle.tc_io.specs.Calls.{Writes, none, some, failed}
use Rattle.tc_io.specs.declared.source.Failed.{Failed}
use Rattle.tc_io.proofs.all.write_all.Goals as goal

-- the piece that is given is all that is left
rest_is : (xs : List ℕ) (i : ℕ) → take (length xs - i) (drop i xs) ≡ drop i xs
rest_is xs i = take_all (length xs - i) (drop i xs) (omega (arith, length-drop i xs))

-- the part that was written, and the next one
more_written : (xs : List ℕ) (i j : ℕ) → take i xs ++ take j (take (length xs - i) (drop i xs)) ≡ take (i + j) xs
more_written xs i j = ap (λ ys. take i xs ++ take j ys) (rest_is xs i) ∙ sym (take-add i j xs)

module _ {K : Type 0} (gives : K → List ℕ → Result ℕ Failed → K → Type 0) (xs : List ℕ) (i : ℕ) (k m : K) (left : i < length xs) where
  write_more : (n : ℕ) (result : Result (Unit {0}) Failed) (l : K) → gives k (take (length xs - i) (drop i xs)) (Ok n) m
      → Writes gives (drop (i + n) xs) m result l → Writes gives (drop i xs) k result l
  write_more n result l call rest =
      let C : List ℕ → Type 0 = λ piece. gives k piece (Ok n) m in
      let R : List ℕ → Type 0 = λ bytes. Writes gives bytes m result l in
      some (omega (arith, length-drop i xs)) (subst C (rest_is xs i) call) (subst R (sym (drop-drop n i xs)) rest)

  write_fails : (e : Failed) → gives k (take (length xs - i) (drop i xs)) (Err e) m → Writes gives (drop i xs) k (Err e) m
  write_fails e call =
      let C : List ℕ → Type 0 = λ piece. gives k piece (Err e) m in
      failed (omega (arith, length-drop i xs)) (subst C (rest_is xs i) call)

pub returns-in_err-done-clause-writes : goal.returns-in_err-done-clause-writes
returns-in_err-done-clause-writes g c =
    let p = err_from_is_err_and c.from_residual.result c.from_residual.ensures.1 in
    rw (p.1, p.2) (c.loop-done.invariant.writes _ _ (write_fails g.K.Sink.write_gives _ _ _ _ c.loop-done-test.true _ c.in_err-done.ensures.call))

pub loop-done-preserved : goal.loop-done-preserved
loop-done-preserved g c =
    let P : List ℕ → Type 0 = Appends (g.K.Sink.stream c.args.sink.now).bytes (g.K.Sink.stream c.write.new.self).bytes in
    record {
      within = grind (arith, common_steps);
      gives = record {
        given = subst P (more_written c.args.bytes.now c.loop-done.done c.in_ok-done.field-0)
            (Appends-trans _ _ _ _ _ c.loop-done.invariant.gives.given c.in_ok-done.ensures.bytes);
        quiet = c.in_ok-done.ensures.cause.quiet ∙ c.loop-done.invariant.gives.quiet;
      };
      writes = λ result k rest. c.loop-done.invariant.writes result k (write_more g.K.Sink.write_gives _ _ _ _ c.loop-done-test.true _ result k c.in_ok-done.ensures.call rest);
    }

pub returns-clause-writes : goal.returns-clause-writes
returns-clause-writes g c =
    let R : List ℕ → Type 0 = λ bytes. Writes g.K.Sink.write_gives bytes c.loop-done.sink (Ok tt) c.loop-done.sink in
    c.loop-done.invariant.writes _ _ (subst R (sym (drop_all c.loop-done.done c.args.bytes.now (omega (arith, c.loop-done-test.false)))) none)
