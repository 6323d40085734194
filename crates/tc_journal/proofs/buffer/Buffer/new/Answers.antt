use Rattle.std.proofs.Common.{◌≡◌, [], drop, arith}
use Rattle.std.proofs.Math.ListN.{drop_of_length-le}
use Rattle.std.proofs.lemmas.Str.{IsUtf8-from_ascii}
use Rattle.std.proofs.lemmas.Str.Ascii.{IsAscii-nil}
use Rattle.tc_journal.specs.declared.buffer.TheConstants.{ROOM}
use Rattle.tc_journal.proofs.buffer.Buffer.new.Goals as goal

pub invariant_of-result : goal.invariant_of-result
invariant_of-result c =
    let none : drop ROOM c.args.bytes.now ≡ [] = drop_of_length-le c.args.bytes.now {i = ROOM} (omega arith) in
    (omega arith, omega arith, ∣ rw none (IsUtf8-from_ascii [] IsAscii-nil) ∣₁)

pub returns : goal.returns
returns c = drop_of_length-le c.args.bytes.now {i = ROOM} (omega arith)
