-- What crosses threads: passes and packages, and halls that are lent.
use denote.Param.Send.{IsSend, IsSync, sendable, view_send, view_sync}
use denote.Param.SendFields.{declared_send, declared_sync}
use Rattle.std.proofs.Crossing.{crosses}
use Rattle.atomic_table.proofs.shared.Seat.TheSendSync as Seat_moves
use Rattle.atomic_table.proofs.owned.Table.TheSendSync as Table_moves
use Rattle.tc_elf.proofs.image.Image.TheSendSync as Image_moves
use Rattle.tc_exec.proofs.code.Part.TheSendSync as Part_moves
use Rattle.tc_isa.proofs.held.Held.TheSendSync as Held_moves
use Rattle.tc_journal.proofs.block.Block.TheSendSync as Block_moves
use Rattle.tc_turn.proofs.memory.Memory.TheSendSync as Memory_moves
use Rattle.tc_turn.proofs.thread.GuestThread.TheSendSync as Guest_moves
use Rattle.tc_segment.proofs.edges.Edges.TheSendSync as Edges_moves
use Rattle.tc_context.proofs.context.Edge.TheSendSync as Edge_moves
use Rattle.tc_context.proofs.package.Grant.TheSendSync as Grant_moves
use Rattle.tc_elf.specs.contracts.image.Image as Image
use Rattle.tc_exec.specs.contracts.code.Code as Code
use Rattle.tc_segment.specs.contracts.record.Record as Record
use Rattle.tc_segment.specs.contracts.state.Contents as LockContents
use Rattle.tc_segment.specs.contracts.state.LockState as LockState
use Rattle.tc_context.specs.contracts.locks.LockSet as LockSet
use Rattle.tc_context.specs.contracts.context.Context as Context
use Rattle.tc_context.specs.contracts.package.Contents as Contents
use Rattle.tc_context.specs.contracts.package.Package as Package
use Rattle.tc_hall.specs.contracts.board.Cargo as Cargo
use Rattle.tc_hall.specs.contracts.board.Slot as Slot
use Rattle.tc_hall.specs.contracts.board.Slot.TheInside as SlotInside
use Rattle.tc_hall.specs.contracts.hall.Hall as Hall
use Rattle.tc_hall.specs.contracts.hall.Hall.TheInside as Inside
use Rattle.tc_hall.specs.contracts.pass.Pass as Pass

pub image_sync : IsSync Image.the_row
image_sync = Image_moves.the_sync

code_send : IsSend Code.the_row
code_send = search (sendable, crosses, Part_moves.the_send) depth 20

code_sync : IsSync Code.the_row
code_sync = search (sendable, crosses, Part_moves.the_sync) depth 20

record_send : IsSend Record.the_row
record_send = search (sendable, crosses, Held_moves.the_send) depth 40 fits 20000

record_sync : IsSync Record.the_row
record_sync = search (sendable, crosses, Held_moves.the_sync) depth 40 fits 20000

lock_contents_send : IsSend LockContents.the_row
lock_contents_send = search (sendable, crosses, Edges_moves.the_send, record_send) depth 30

lock_contents_sync : IsSync LockContents.the_row
lock_contents_sync = search (sendable, crosses, Edges_moves.the_sync, record_sync) depth 30

lock_send : IsSend LockState.the_row
lock_send = search (sendable, crosses, lock_contents_send) depth 20

lock_sync : IsSync LockState.the_row
lock_sync = search (sendable, crosses, lock_contents_sync) depth 20

locks_send : IsSend LockSet.the_row
locks_send = search (sendable, crosses, lock_send) depth 20

locks_sync : IsSync LockSet.the_row
locks_sync = search (sendable, crosses, lock_sync) depth 20

context_send : IsSend Context.the_row
context_send = search (sendable, crosses, Guest_moves.the_send, locks_send) depth 20

context_sync : IsSync Context.the_row
context_sync = search (sendable, crosses, Guest_moves.the_sync, locks_sync) depth 20

ruleset lent = (sendable, crosses)

ruleset code_crosses = (lent, code_send, code_sync)

ruleset memory_crosses = (lent, Memory_moves.the_send, Memory_moves.the_sync)

ruleset parts_send = (sendable, Grant_moves.the_send, Block_moves.the_send, Edge_moves.the_send)

ruleset parts_sync = (sendable, Grant_moves.the_sync, Block_moves.the_sync, Edge_moves.the_sync)

-- field by field, since one search for all is too long
contents_send : IsSend Contents.the_row
contents_send = declared_send Contents.the_type (search crosses, (search code_crosses, (search memory_crosses depth 20, (context_send, (search lent depth 20, (search lent depth 20, (search parts_send depth 20, (search parts_send depth 20, (search (lent, Block_moves.the_send), (search sendable, (search sendable, (search sendable, (search sendable, (search parts_send depth 20, tt))))))))))))))

contents_sync : IsSync Contents.the_row
contents_sync = declared_sync Contents.the_type (search crosses, (search code_crosses, (search memory_crosses depth 20, (context_sync, (search lent depth 20, (search lent depth 20, (search parts_sync depth 20, (search parts_sync depth 20, (search (lent, Block_moves.the_sync), (search sendable, (search sendable, (search sendable, (search sendable, (search parts_sync depth 20, tt))))))))))))))

pub package_send : IsSend Package.the_row
package_send = search (sendable, crosses, contents_send) depth 20

package_sync : IsSync Package.the_row
package_sync = search (sendable, crosses, contents_sync) depth 20

cargo_send : IsSend Cargo.the_row
cargo_send = search (sendable, package_send, lock_send) depth 20

slot_send : IsSend Slot.the_row
slot_send =
    let inside : IsSend SlotInside.the_row = declared_send SlotInside.the_type (search (sendable, crosses, cargo_send) depth 20, tt) in
    view_send _ _ _ _ _ inside

pub pass_send : IsSend Pass.the_row
pass_send = search (sendable, Seat_moves.the_send, slot_send) depth 20

pub hall_sync : IsSync Hall.the_row
hall_sync =
    let inside : IsSync Inside.the_row = declared_sync Inside.the_type (search (sendable, crosses, Table_moves.the_field_sync, slot_send) depth 20, (search sendable, (search sendable, (search (sendable, crosses, package_sync), (search (sendable, crosses, lock_sync), tt))))) in
    view_sync _ _ _ _ _ inside
