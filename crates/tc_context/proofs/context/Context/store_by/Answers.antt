use Rattle.tc_context.proofs.Vocabulary.{◌≡◌, ◌∙◌, ap, sym, subst, Some, Guard, Stored, has, Guest, thread_of, Changed, TurnReady, turned, region_of, store_width, put_at, at_next, Put, HasStored}
use Rattle.tc_exec.specs.declared.touch.Touched.TheVariants as touched
use Rattle.tc_context.proofs.Stepping.{own_stored, store_gone, stored_act, store_may}
use Rattle.tc_context.proofs.context.Context.store_by.Goals as goal

pub returns-in-Own : goal.returns-in-Own
returns-in-Own c block =
    own_stored c.args.image.now block c.args.self.now c.store.new.self c.args.kind c.args.addr c.args.value c.requires.may.of c.requires.store
    (subst (HasStored c.args.image.now c.args.kind c.args.addr c.args.value c.args.self.now.guest c.store.new.self) c.in-Own.is c.store.ensures)

pub take_turn-requires : goal.take_turn-requires
take_turn-requires c =
    let image = c.args.image.now in
    let p = c.args.self.now in
    let i = c.in-Guard in
    let is = subst (HasStored image c.args.kind c.args.addr c.args.value p.guest c.store.new.self) i.is c.store.ensures in
    let put : Put = record { region = Guard i.lock; addr = c.args.addr; width = i.width; value = i.number } in
    let puts : put_at (region_of image c.args.addr (store_width c.args.kind)) c.args.addr (store_width c.args.kind) c.args.value ≡ put = λ j. record { region = is.guard.lies.0 j; addr = c.args.addr; width = sym is.width j; value = sym is.number j } in
    let may = store_may image (has p.guest.held) 1 p (at_next p.guest.regs) put c.requires.may (stored_act image p c.args.kind c.args.addr c.args.value put (touched.Guard i.lock) c.requires.store is.guard puts) in
    record { fits = may.0; ready = λ k l found. subst (λ n. TurnReady (has n) (Some (Stored put)) k l) (sym (c.held-held.ensures ∙ ap (λ (g : Guest). g.held) is.rest)) (may.1 k l found) }

pub returns-in-Guard : goal.returns-in-Guard
returns-in-Guard c block =
    let image = c.args.image.now in
    let p = c.args.self.now in
    let i = c.in-Guard in
    let is = subst (HasStored image c.args.kind c.args.addr c.args.value p.guest c.store.new.self) i.is c.store.ensures in
    let put : Put = record { region = Guard i.lock; addr = c.args.addr; width = i.width; value = i.number } in
    let puts : put_at (region_of image c.args.addr (store_width c.args.kind)) c.args.addr (store_width c.args.kind) c.args.value ≡ put = λ j. record { region = is.guard.lies.0 j; addr = c.args.addr; width = sym is.width j; value = sym is.number j } in
    store_gone image block p c.go_on.new.self c.args.kind c.args.addr c.args.value put (touched.Guard i.lock) c.take_turn.new.self c.requires.may.of c.requires.store is.guard puts
    (ap thread_of (c.go_on.ensures ∙ ap (λ (g : Guest). record g { regs = at_next g.regs }) is.rest)) (subst (λ n. Changed (turned (has n) (Some (Stored put))) p.locks c.take_turn.new.self) (c.held-held.ensures ∙ ap (λ (g : Guest). g.held) is.rest) c.take_turn.ensures)
