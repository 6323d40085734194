-- Each line has each thread once at most, and none but the image's.
use Rattle.std.proofs.Common.{◌≡◌, ℕ, true, false, ◌==◌, List, [], ◌∷◌, ◌++◌, length, sym, subst}
use Rattle.std.specs.Prelude.{if◌then◌else◌}
use Rattle.tc_elf.specs.Shown.{Shown}
use Rattle.tc_turn.specs.Turn.{next_lock}
use Rattle.tc_core.specs.declared.event.Event.{Event}
use Rattle.tc_core.specs.declared.event.Event.TheVariants.{Claim, Turn, Commit, Enter, Take, Ship, Adopt, Grant, Leave, Free, HandBack, Park, Finish}
use Rattle.tc_core.specs.Core.{Core, Limits, Custody, first_core}
use Rattle.tc_core.specs.Events.{is_enabled, effect}
use Rattle.tc_core.specs.View.{IsLine}
use Rattle.tc_core.specs.Stories.{AreEnabled, after_all}
use Rattle.tc_core.proofs.Known.{known}
use Rattle.tc_core.proofs.Numbers.{line_more, line_rest, line_none}
use Rattle.tc_core.proofs.Parts.{on_line, past_line}

abbrev pub HasLines : Shown → Core → Type 0
HasLines image c = (k : ℕ) → IsLine (length image.entries) (c.custody k).line

-- one line changed
line_at : (image : Shown) (c : Core) (k j : ℕ) (x : Custody) → HasLines image c → IsLine (length image.entries) x.line → IsLine (length image.entries) (if j == k then x else c.custody j).line
line_at image c k j x lines is = elim (j == k) as (λ b. IsLine (length image.entries) (if b then x else c.custody j).line) [ true ↦ is | false ↦ lines j ]

pub lines_after : (image : Shown) (limits : Limits) (c : Core) (e : Event) → is_enabled image limits c e ≡ true → HasLines image c → HasLines image (effect image c e)
unfolding effect
lines_after image limits c (Claim w t) on lines j = lines j
lines_after image limits c (Turn w t) on lines j = subst (IsLine (length image.entries)) (sym (on_line (next_lock image (c.machine.threads t)) t j (c.custody j))) (lines j)
lines_after image limits c (Commit w t) on lines j = subst (IsLine (length image.entries)) (sym (past_line w t _ _ (c.custody j))) (lines j)
lines_after image limits c (Enter w t k) on lines j =
    (let numbers = known image limits c (Enter w t k) on in line_at image c k j _ lines (line_more (length image.entries) t (c.custody k).line (lines k) numbers.0 numbers.2))
lines_after image limits c (Take w t k) on lines j = line_at image c k j _ lines (lines k)
lines_after image limits c (Ship w t k) on lines j = lines j
lines_after image limits c (Adopt w t k) on lines j = line_at image c k j _ lines (line_rest (length image.entries) (c.custody k).line (lines k))
lines_after image limits c (Grant w t k) on lines j = line_at image c k j _ lines (line_rest (length image.entries) (c.custody k).line (lines k))
lines_after image limits c (Leave w k) on lines j = line_at image c k j _ lines (line_none (length image.entries))
lines_after image limits c (Free w k) on lines j = line_at image c k j _ lines (lines k)
lines_after image limits c (HandBack w t) on lines j = lines j
lines_after image limits c (Park w t) on lines j = lines j
lines_after image limits c (Finish w t) on lines j = lines j

pub first_lines : (image : Shown) (fuel : ℕ) → HasLines image (first_core image fuel)
first_lines image fuel k = line_none (length image.entries)

pub lines_all : (image : Shown) (limits : Limits) (es : List Event) (c : Core) → HasLines image c → AreEnabled image limits c es → HasLines image (after_all image c es)
lines_all image limits [] c lines on = lines
lines_all image limits (e ∷ es) c lines on = lines_all image limits es (effect image c e) (lines_after image limits c e on.0 lines) on.1

-- ---- lists of events joined

pub enabled_front : (image : Shown) (limits : Limits) (xs ys : List Event) (c : Core) → AreEnabled image limits c (xs ++ ys) → AreEnabled image limits c xs
enabled_front image limits [] ys c on = tt
enabled_front image limits (x ∷ xs) ys c on = (on.0, enabled_front image limits xs ys (effect image c x) on.1)

pub enabled_back : (image : Shown) (limits : Limits) (xs ys : List Event) (c : Core) → AreEnabled image limits c (xs ++ ys) → AreEnabled image limits (after_all image c xs) ys
enabled_back image limits [] ys c on = on
enabled_back image limits (x ∷ xs) ys c on = enabled_back image limits xs ys (effect image c x) on.1
