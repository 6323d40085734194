use Rattle.tc_context.proofs.Vocabulary.{◌≡◌, ◌∙◌, ap, sym, subst, None, Guard, Load, has, Guest, Changed, noted_in, answer_to, thread_in, mutex_at, with_register, region_of, extended, load_width, at_next, load_ends, HasLoaded, IsAccess}
use Rattle.tc_exec.specs.declared.touch.Touched.TheVariants as touched
use Rattle.tc_context.proofs.Stepping.{with_both, load_gone, own_loaded, note_may}
use Rattle.tc_context.proofs.context.Context.load_by.Goals as goal

pub note_own-requires : goal.note_own-requires
note_own-requires c = (let may = note_may c.args.image.now (has c.args.block) c.args.self.now c.requires.may in record { opened = may.0; room = may.1 })

pub returns-in-Own : goal.returns-in-Own
returns-in-Own c =
    let p = c.args.self.now in
    own_loaded c.args.image.now (has c.args.block) p c.load.new.self c.args.kind c.args.rd c.args.addr c.in-Own.number c.note_own.new.self c.requires.may.of c.requires.load
    (subst (HasLoaded c.args.image.now c.args.kind c.args.rd c.args.addr p.guest c.load.new.self) c.in-Own.is c.load.ensures) c.note_own.ensures

pub guard_number-number-requires : goal.guard_number-number-requires
guard_number-number-requires c =
    let is = subst (HasLoaded c.args.image.now c.args.kind c.args.rd c.args.addr c.args.self.now.guest c.load.new.self) c.in-Guard.is c.load.ensures in
    let ends = load_ends c.args.kind c.args.addr c.ranges.addr.fits is.guard.aligned in
    subst (IsAccess c.args.addr) (sym is.width) (record { fits = ends.0; small = ends.1 })

pub note_each-requires : goal.note_each-requires
note_each-requires c = (let may = note_may c.args.image.now (has c.args.block) c.args.self.now c.requires.may in record { opened = may.0; room = may.1 })

pub returns-in-Guard : goal.returns-in-Guard
returns-in-Guard c =
    let image = c.args.image.now in
    let p = c.args.self.now in
    let i = c.in-Guard in
    let is = subst (HasLoaded image c.args.kind c.args.rd c.args.addr p.guest c.load.new.self) i.is c.load.ensures in
    let number = c.guard_number-number.result in
    let want : Load (Guard i.lock) c.args.addr i.width ≡ Load (region_of image c.args.addr (load_width c.args.kind)) c.args.addr (load_width c.args.kind) = λ j. Load (sym is.guard.lies.0 j) c.args.addr (is.width j) in
    load_gone image (has c.args.block) p c.finish.new.self c.args.kind c.args.rd c.args.addr number (touched.Guard i.lock) c.note_each.new.self c.requires.may.of c.requires.load is.guard
    ((subst (λ (g : Guest). number ≡ answer_to image (Load (Guard i.lock) c.args.addr i.width) None (thread_in (with_both p g p.locks)).own (mutex_at (with_both p g p.locks))) is.rest c.guard_number-number.ensures) ∙ (λ j. answer_to image (want j) None (thread_in p).own (mutex_at p)))
    (c.finish.ensures ∙ ap (λ (g : Guest). record g { regs = at_next (with_register g.regs c.args.rd (extended c.args.kind number)) }) is.rest)
    (subst (λ w. Changed (noted_in (has c.args.block) w None number) p.locks c.note_each.new.self) want c.note_each.ensures)
