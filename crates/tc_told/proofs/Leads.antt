-- Events that come one after the other, and what stays as they come.
use Rattle.std.proofs.Common.{◌≡◌, true, List, [], ◌∷◌, ◌++◌, refl, sym, subst}
use Rattle.tc_elf.specs.Shown.{Shown}
use Rattle.tc_core.specs.declared.event.Event.{Event}
use Rattle.tc_core.specs.Core.{Core, Limits}
use Rattle.tc_core.specs.Events.{is_enabled}
use Rattle.tc_core.specs.View.{IsSoundCore}
use Rattle.tc_core.specs.Stories.{AreEnabled}
use Rattle.tc_core.proofs.Erasure.{sound_after}
use Rattle.tc_core.proofs.Tracked.{Tracks, tracked_after}
use Rattle.tc_told.specs.Written.{Written, write, write_all}

-- what every core has that events lead to
pub record Kept (c : Core) : Type 0 where
  pub sound : IsSoundCore c
  pub tracks : Tracks c

-- events lead from here to something of which P holds
pub record Leads (image : Shown) (limits : Limits) (s : Written) (P : Written → Type 0) : Type 0 where
  pub events : List Event
  pub enabled : AreEnabled image limits s.core events
  pub comes : P (write_all image s events)
  pub kept : Kept (write_all image s events).core

pub enabled-append : (image : Shown) (limits : Limits) (es fs : List Event) (s : Written) → AreEnabled image limits s.core es → AreEnabled image limits (write_all image s es).core fs → AreEnabled image limits s.core (es ++ fs)
enabled-append image limits [] fs s p q = q
enabled-append image limits (e ∷ es) fs s p q = (p.0, enabled-append image limits es fs (write image s e) p.1 q)

pub write_all-append : (image : Shown) (es fs : List Event) (s : Written) → write_all image s (es ++ fs) ≡ write_all image (write_all image s es) fs
write_all-append image [] fs s = refl
write_all-append image (e ∷ es) fs s = write_all-append image es fs (write image s e)

pub stays : (image : Shown) (limits : Limits) (s : Written) (P : Written → Type 0) → Kept s.core → P s → Leads image limits s P
stays image limits s P kept p = record { events = []; enabled = tt; comes = p; kept = kept }

pub comes : (image : Shown) (limits : Limits) (s : Written) (P : Written → Type 0) (e : Event) → Kept s.core → is_enabled image limits s.core e ≡ true → P (write image s e) → Leads image limits s P
comes image limits s P e kept on p = record {
  events = e ∷ [];
  enabled = (on, tt);
  comes = p;
  kept = record { sound = sound_after image limits s.core e on kept.sound; tracks = tracked_after image limits s.core e on kept.sound kept.tracks };
}

pub and_then : (image : Shown) (limits : Limits) (s : Written) (P Q : Written → Type 0) → Leads image limits s P → ((x : Written) → Kept x.core → P x → Leads image limits x Q) → Leads image limits s Q
and_then image limits s P Q first next =
    let x = write_all image s first.events in
    let r = next x first.kept first.comes in
    let same = sym (write_all-append image first.events r.events s) in
    record {
      events = first.events ++ r.events;
      enabled = enabled-append image limits first.events r.events s first.enabled r.enabled;
      comes = subst Q same r.comes;
      kept = subst (λ (y : Written). Kept y.core) same r.kept;
    }
