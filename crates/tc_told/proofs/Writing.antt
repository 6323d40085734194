-- What the program's writer does in a step, as what events write.
use Rattle.std.proofs.Common.{◌≡◌, ℕ, ◌<◌, Bool, true, List, [], length, sym, ap, subst, ◌∙◌}
use Rattle.std.specs.Prelude.{Option, IfSome}
use Rattle.std.proofs.lemmas.Bool.{and_parts}
use Rattle.tc_elf.specs.Shown.{Shown}
use Rattle.tc_journal.specs.declared.block.Block.{Block}
use Rattle.tc_journal.specs.declared.block.Kind.TheVariants.{Start}
use Rattle.tc_core.specs.declared.event.Event.{Event}
use Rattle.tc_core.specs.declared.event.Event.TheVariants.{Claim, Turn, Commit, Enter, Take, Ship, Adopt, Grant, Leave, Free, HandBack, Park, Finish}
use Rattle.tc_core.specs.Core.{Core, Limits, first_core}
use Rattle.tc_core.specs.Events.{is_enabled, has_thread}
use Rattle.tc_core.specs.View.{CoreView, core_of, limits_of, Stepped}
use Rattle.tc_core.proofs.Known.{known, of_thread}
use Rattle.tc_told.specs.Written.{Beginning, Written, said_by, with_said, block_by, with_block, first_written}
use Rattle.tc_told.specs.View.{WriterView, beginning_at, written_of, DidWrite}

abbrev IsKnown : Shown → Option (ℕ × Beginning) → Type 0
IsKnown image said = IfSome said (λ p. p.0 < length image.entries)

-- an event that is enabled says something of threads that there are
pub said_known : (image : Shown) (limits : Limits) (s : Written) (e : Event) → is_enabled image limits s.core e ≡ true → IsKnown image (said_by s e)
unfolding is_enabled
said_known image limits s (Claim w t) on = tt
said_known image limits s (Turn w t) on = tt
said_known image limits s (Commit w t) on = known image limits s.core (Commit w t) on
said_known image limits s (Enter w t lock) on = tt
said_known image limits s (Take w t lock) on = of_thread image limits s.core w t (and_parts (has_thread image limits s.core w t) _ on).0
said_known image limits s (Ship w t lock) on = tt
said_known image limits s (Adopt w t lock) on = (known image limits s.core (Adopt w t lock) on).0
said_known image limits s (Grant w t lock) on = (known image limits s.core (Grant w t lock) on).0
said_known image limits s (Leave w lock) on = tt
said_known image limits s (Free w lock) on = tt
said_known image limits s (HandBack w t) on = tt
said_known image limits s (Park w t) on = tt
said_known image limits s (Finish w t) on = tt

-- what a step of the program's core answered, where it is true
stepped : (image : Shown) (old new : CoreView) (e : Event) (enabled : Bool) → enabled ≡ true → Stepped image old e enabled new → Stepped image old e true new
stepped image old new e enabled on did = subst (λ b. Stepped image old e b new) on did

-- so what is noted is of threads that there are
pub said_fits : (image : Shown) (v : WriterView) (e : Event) (enabled : Bool) (core : CoreView) (said : Option (ℕ × Beginning)) (next : List Beginning) → length v.next ≡ length image.entries → next ≡ v.next
    → said ≡ said_by (written_of v) e → enabled ≡ true → Stepped image v.core e enabled core → IfSome said (λ s. s.0 < length next)
said_fits image v e enabled core said next long same is on did =
    subst (λ n. IfSome said (λ s. s.0 < n)) (sym (ap length same ∙ long))
    (subst (IsKnown image) (sym is) (said_known image (limits_of v.core) (written_of v) e (stepped image v.core core e enabled on did).0))

-- core, beginnings and history after the event
pub did_write : (image : Shown) (old v : WriterView) (e : Event) (enabled : Bool) (core : CoreView) (said : Option (ℕ × Beginning)) (block : Option Block) (next : List Beginning) (history : List Block)
    → v ≡ old → enabled ≡ true → Stepped image v.core e enabled core → said ≡ said_by (written_of v) e → block ≡ block_by (written_of v) e
    → ((t : ℕ) → beginning_at next t ≡ with_said (beginning_at v.next) said t) → history ≡ with_block v.history block
    → DidWrite image old e enabled (record { core = core; next = next; history = history })
did_write image old v e enabled core said block next history same on did said_is block_is begins wrote =
    let s = stepped image v.core core e enabled on did in
    subst (λ o. DidWrite image o e enabled (record { core = core; next = next; history = history })) same
    (subst (λ b. DidWrite image v e b (record { core = core; next = next; history = history })) (sym on) (
      s.0,
      λ i. record {
        core = s.1 i;
        next = λ t. (begins t ∙ ap (λ o. with_said (beginning_at v.next) o t) said_is) i;
        history = (wrote ∙ ap (with_block v.history) block_is) i;
      },
      s.2,
    ))

-- and at the start
pub starts : (image : Shown) (fuel : ℕ) (core : CoreView) (next : List Beginning) (history : List Block) → core_of core ≡ first_core image fuel
    → ((t : ℕ) → beginning_at next t ≡ record { kind = Start; pc = ((core_of core).machine.threads t).regs.pc }) → history ≡ []
    → written_of (record { core = core; next = next; history = history }) ≡ first_written image fuel
starts image fuel core next history is begins empty = λ i. record {
  core = is i;
  next = λ t. (begins t ∙ ap (λ (c : Core). record { kind = Start; pc = (c.machine.threads t).regs.pc }) is) i;
  history = empty i;
}
