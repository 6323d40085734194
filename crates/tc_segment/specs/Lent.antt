-- An entry that a lock state lends.
use Rattle.tc_turn.specs.Replay.{Entry as ReplayEntry}
use Rattle.tc_segment.specs.declared.entry.Entry.{Entry}

abbrev pub entry_lent : Entry → ReplayEntry
entry_lent e = record { block = e.block; start = e.start; fuel = e.fuel; finish = e.end; foreign = e.foreign.now }
