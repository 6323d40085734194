use Rattle.std.proofs.Common.{◌≡◌, ℕ, suc, ◌+◌, ◌≤◌, List, ◌++◌, take, arith, refl, sym, subst, ◌∙◌}
use Rattle.std.specs.Prelude.{Result}
use Rattle.std.specs.Io.KnownBytes.{Consumes}
use Rattle.std.proofs.KnownBytes.{Consumes-nil, Consumes-trans}
use Rattle.std.proofs.lemmas.Grind.{common_steps}
use Rattle.std.proofs.lemmas.Result.{err_from_is_err_and}
use Rattle.tc_io.specs.Calls.{ReadsWithin}
use Rattle.tc_io.specs.declared.source.Failed.{Failed}
use Rattle.tc_io.proofs.all.read_all.Goals as goal

-- one read more
read_more : {S : Type 0} (gives : S → ℕ → Result ℕ Failed → S → Type 0) (few most : ℕ) (s m t : S) (room : ℕ) (result : Result ℕ Failed) → ReadsWithin gives few s m → gives m room result t → few + 1 ≤ most → ReadsWithin gives most s t
read_more gives few most s m t room result reads call le = (suc reads.0, omega (arith, reads.1), (m, reads.2, (room, result, call)))

pub loop-bytes-init : goal.loop-bytes-init
loop-bytes-init g c = record {
  within = omega (arith, c.new-bytes.ensures.len);
  same_limit = refl;
  takes = record {
    taken = let P : List ℕ → Type 0 = Consumes (g.S.Source.stream c.args.source.now).bytes (g.S.Source.stream c.args.source.now).bytes in
        subst P (sym c.new-bytes.ensures.items) (Consumes-nil _);
    quiet = refl;
  };
  reads = (0, omega arith, refl);
}

pub returns-in_err-count-clause-reads : goal.returns-in_err-count-clause-reads
returns-in_err-count-clause-reads g c =
    let p = err_from_is_err_and c.from_residual.result c.from_residual.ensures.1 in
    rw p.1 (read_more _ _ _ _ _ _ _ _ c.loop-bytes.invariant.reads c.read.ensures.call (omega (arith, c.loop-bytes.invariant.within)))

pub returns-in_err-count-clause-stops : goal.returns-in_err-count-clause-stops
returns-in_err-count-clause-stops g c = λ _. (
  c.loop-bytes.source,
  _,
  _,
  (c.loop-bytes.invariant.reads.0, omega (arith, c.loop-bytes.invariant.within, c.loop-bytes.invariant.reads.1), c.loop-bytes.invariant.reads.2),
  c.in_err-count.ensures.call,
)

pub returns-then-count-eq0-clause-reads : goal.returns-then-count-eq0-clause-reads
returns-then-count-eq0-clause-reads g c = read_more _ _ _ _ _ _ _ _ c.loop-bytes.invariant.reads c.read.ensures.call (omega arith)

pub returns-in_err-extend_from_slice-clause-memory : goal.returns-in_err-extend_from_slice-clause-memory
returns-in_err-extend_from_slice-clause-memory g c = λ _. (
  c.loop-bytes.bytes.items ++ take c.in_ok-count.count c.read.new.buf,
  grind (arith, common_steps),
  record {
    taken = Consumes-trans _ _ _ _ _ c.loop-bytes.invariant.takes.taken c.in_ok-count.ensures.bytes.0;
    quiet = c.in_ok-count.ensures.cause.quiet ∙ c.loop-bytes.invariant.takes.quiet;
  },
)

pub returns-in_err-extend_from_slice-clause-reads : goal.returns-in_err-extend_from_slice-clause-reads
returns-in_err-extend_from_slice-clause-reads g c =
    let p = err_from_is_err_and c.from_residual-in_err-extend_from_slice.result c.from_residual-in_err-extend_from_slice.ensures.1 in
    rw p.1 (read_more _ _ _ _ _ _ _ _ c.loop-bytes.invariant.reads c.read.ensures.call (omega (arith, c.loop-bytes.invariant.within)))

pub returns-then-len-limit-clause-reads : goal.returns-then-len-limit-clause-reads
returns-then-len-limit-clause-reads g c = read_more _ _ _ _ _ _ _ _ c.loop-bytes.invariant.reads c.read.ensures.call (omega (arith, c.loop-bytes.invariant.within))

pub loop-bytes-preserved : goal.loop-bytes-preserved
loop-bytes-preserved g c =
    let items : c.extend_from_slice.new.self.items ≡ c.loop-bytes.bytes.items ++ take c.in_ok-count.count c.read.new.buf = grind (arith, common_steps) in
    record {
      within = grind (arith, common_steps);
      same_limit = refl;
      takes = record {
        taken = let P : List ℕ → Type 0 = Consumes (g.S.Source.stream c.args.source.now).bytes (g.S.Source.stream c.read.new.self).bytes in
            subst P (sym items) (Consumes-trans _ _ _ _ _ c.loop-bytes.invariant.takes.taken c.in_ok-count.ensures.bytes.0);
        quiet = c.in_ok-count.ensures.cause.quiet ∙ c.loop-bytes.invariant.takes.quiet;
      };
      reads = read_more _ _ _ _ _ _ _ _ c.loop-bytes.invariant.reads c.read.ensures.call (grind (arith, common_steps));
    }
