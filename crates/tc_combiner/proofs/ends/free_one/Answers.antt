use Rattle.std.proofs.Common.{List, [], ◌∷◌, arith, refl, true}
use Rattle.tc_combiner.proofs.Vocabulary.{PassCall, DidTakeOut, LeftAs, LockView, Turn, by_parts, change, turn_of}
use Rattle.tc_combiner.proofs.Acting.{acts_none, asked_none}
use Rattle.tc_combiner.proofs.PassedOn.{frees, released_free, taken_free}
use Rattle.tc_combiner.proofs.Looking.{looks_none, looks_within}
use Rattle.tc_hall.specs.Standing.{FreesAs}
use Rattle.tc_hall.proofs.Stops.{after_stop}
use Rattle.tc_combiner.proofs.ends.free_one.Goals as goal

pub take_out-state-requires-clause-released : goal.take_out-state-requires-clause-released
take_out-state-requires-clause-released c = released_free c.args.«package».now c.args.released.block.now c.args.released.lock c.keeps.ensures.sound c.requires.may.release.last c.requires.may.release.released

pub free-requires-clause-may : goal.free-requires-clause-may
free-requires-clause-may c =
    let d : DidTakeOut c.args.released.lock c.take_out-state.result c.args.«package».now c.take_out-state.new.self = record { was = c.take_out-state.ensures.lock; is = c.take_out-state.ensures.is; locks = c.take_out-state.ensures.locks; rest = c.take_out-state.ensures.rest } in
    taken_free c.args.hall.now _ c.args.released.lock c.take_out-state.result c.args.«package».now c.take_out-state.new.self c.args.parts.now.pass c.args.parts.now.pass c.args.parts.now.aside d c.requires.may.release.lock c.requires.may.parts.at (acts_none c.args.parts.now.pass [])

pub free-requires-clause-stands : goal.free-requires-clause-stands
free-requires-clause-stands c = after_stop c.args.hall.now.terms c.args.parts.now.pass.knows (FreesAs c.args.parts.now.pass.knows c.take_out-state.result.number) c.requires.stop

pub returns : goal.returns
returns c =
    let d : DidTakeOut c.args.released.lock c.take_out-state.result c.args.«package».now c.take_out-state.new.self = record { was = c.take_out-state.ensures.lock; is = c.take_out-state.ensures.is; locks = c.take_out-state.ensures.locks; rest = c.take_out-state.ensures.rest } in
    λ s.
    let x = by_parts c.args.hall.now.terms c.args.«package».now (change s s) (change c.args.parts.now c.args.parts.now) in
    frees c.args.hall.now.terms [] c.args.released.lock c.take_out-state.result (turn_of c.args.«package».now c.args.released.lock) c.args.«package».now c.take_out-state.new.self s s c.args.parts.now _ c.args.parts.now.pass
    (λ (u : Turn) (l : LockView) (cs : List PassCall). LeftAs x l c.args.released.block.now u cs true true) d refl (asked_none (turn_of c.args.«package».now c.args.released.lock) s).0
    (looks_within 0 1 c.args.parts.now.pass.knows c.args.parts.now.pass.knows (s ∷ []) (s ∷ []) (omega arith) (looks_none c.args.parts.now.pass.knows (s ∷ []))) (acts_none c.args.parts.now.pass []) c.free.ensures.acts refl refl refl (refl, refl)
