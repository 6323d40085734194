use Rattle.tc_exec.proofs.code.Code.stretch.Given as goal

abbrev pub invariant-parts : goal.invariant-parts
invariant-parts l = Unit {0}
