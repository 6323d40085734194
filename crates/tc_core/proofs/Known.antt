-- What is known of the numbers of an event that is enabled.
use Rattle.std.proofs.Common.{◌≡◌, ℕ, ◌<◌, true, false, length, subst, arith}
use Rattle.std.proofs.lemmas.Bool.{and_parts}
use Rattle.std.proofs.lemmas.Bool.Decides.{nat_tests}
use Rattle.tc_elf.specs.Shown.{Shown}
use Rattle.tc_core.specs.declared.event.Event.{Event}
use Rattle.tc_core.specs.declared.event.Event.TheVariants.{Claim, Turn, Commit, Enter, Take, Ship, Adopt, Grant, Leave, Free, HandBack, Park, Finish}
use Rattle.tc_core.specs.Lines.{is_in_line}
use Rattle.tc_core.specs.Core.{Core, Limits}
use Rattle.tc_core.specs.Events.{has_thread, may_pass, adopts, is_enabled}
use Rattle.tc_core.proofs.Batch.{below}

abbrev pub IsKnown : Shown → Limits → Core → Event → Type 0
IsKnown image limits c (Enter w t lock) = (t < length image.entries) × (lock < length image.guards) × (is_in_line (c.custody lock).line t ≡ false)
IsKnown image limits c (Take w t lock) = lock < length image.guards
IsKnown image limits c (Adopt w t lock) = (t < length image.entries) × (lock < length image.guards) × ((c.custody lock).run < limits.batch)
IsKnown image limits c (Grant w t lock) = (t < length image.entries) × (lock < length image.guards)
IsKnown image limits c (Leave w lock) = lock < length image.guards
IsKnown image limits c (Free w lock) = lock < length image.guards
IsKnown image limits c (Claim w t) = t < length image.entries
IsKnown image limits c (Turn w t) = t < length image.entries
IsKnown image limits c (Commit w t) = t < length image.entries
IsKnown image limits c (Ship w t lock) = t < length image.entries
IsKnown image limits c (HandBack w t) = t < length image.entries
IsKnown image limits c (Park w t) = t < length image.entries
IsKnown image limits c (Finish w t) = t < length image.entries

pub of_thread : (image : Shown) (limits : Limits) (c : Core) (w t : ℕ) → has_thread image limits c w t ≡ true → t < length image.entries
of_thread image limits c w t e = grind (arith, nat_tests)

of_pass : (image : Shown) (limits : Limits) (c : Core) (w t lock : ℕ) → may_pass image limits c w t lock ≡ true → (t < length image.entries) × (lock < length image.guards)
of_pass image limits c w t lock e = grind (arith, nat_tests)

pub known : (image : Shown) (limits : Limits) (c : Core) (e : Event) → is_enabled image limits c e ≡ true → IsKnown image limits c e
unfolding is_enabled
known image limits c (Adopt w t lock) on =
    (let p = and_parts (may_pass image limits c w t lock) (adopts limits c lock) on in let q = of_pass image limits c w t lock p.0 in
    (q.0, q.1, below limits lock (c.custody lock).run (c.custody lock).last p.1))
known image limits c e on = grind (arith, nat_tests)

pub known_as : (image : Shown) (limits : Limits) (c : Core) {e f : Event} → e ≡ f → is_enabled image limits c e ≡ true → IsKnown image limits c f
known_as image limits c {e = e} same on = subst (λ x. IsKnown image limits c x) same (known image limits c e on)
