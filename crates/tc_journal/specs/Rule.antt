-- The rule for where a block ends.
use Rattle.std.specs.Prelude.{ℕ, ◌==◌, if◌then◌else◌, Option, Some, None}
use Rattle.tc_isa.specs.declared.limits.TheConstants.{MAX_TURNS}
use Rattle.tc_journal.specs.declared.block.End.{End}
use Rattle.tc_journal.specs.declared.block.End.TheVariants as end
use Rattle.tc_journal.specs.declared.rule.Outcome.{Outcome}
use Rattle.tc_journal.specs.declared.rule.Outcome.TheVariants.{Went, Unlocked, Slept, Exited, Faulted, Spent}

-- how a block ends after a last step with this outcome and this number, if the next step would take this lock, or
-- none: the thread's end has priority, then an unlock or a sleep, then a lock that the thread wants, then a cut
abbrev pub end_rule : Outcome → ℕ → Option ℕ → Option End
end_rule Exited turns next = Some end.Exit
end_rule (Faulted fault) turns next = Some (end.Fault fault)
end_rule Spent turns next = Some end.Spent
end_rule (Unlocked lock) turns next = Some (end.Unlocked lock)
end_rule Slept turns next = Some end.Slept
end_rule Went turns (Some lock) = Some (end.Wants lock)
end_rule Went turns None = if turns == MAX_TURNS then Some end.Cut else None
