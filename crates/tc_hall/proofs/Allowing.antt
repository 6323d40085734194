-- Where the lines allow the events of an operation, and what else they ask holds, they are enabled.
use Rattle.std.proofs.Common.{◌≡◌, ℕ, zero, suc, ◌+◌, ◌<◌, ◌==◌, true, not, List, [], ◌∷◌, ◌++◌, replicate, sym, refl, ap, ◌∙◌, subst, arith, Option, Some, None}
use Rattle.tc_hall.proofs.Vocabulary.{AreEnabled, Commit, Core, Course, End, Event, Hall, HallTerms, IsBetween, Knows, Operation, PackageView, Parked, Place, Ready, State, Waiting, Done, after_events, claim, commit, free, is_claimable, join, lay, line, look, machine_limits, miss, next_lock, put, reach, split, stop, stopped, take, turns_by}
use Rattle.std.specs.Cmp.Derive.{both_true}
use Rattle.std.specs.Prelude.{is_some}
use Rattle.std.proofs.lemmas.Bool.{and_parts}
use Rattle.tc_turn.proofs.Turns.{goes_on}
use Rattle.tc_turn.specs.Turn.{no_thread}
use Rattle.tc_core.specs.Core.{is_granted}
use Rattle.tc_core.specs.Events.{is_enabled, effect, may_pass, may_take, may_go_back}
use Rattle.tc_core.specs.declared.event.Event.TheVariants.{Turn, HandBack}
use Rattle.tc_hall.specs.Ties.{may_come, CanPass, IsPut, IsOf, Asks, AreAsked, RunsThrough, alone, adopted, granted}
use Rattle.tc_hall.specs.Lift.{IsNext, HasNotEntered, LinesAllow, LinesAllowAll}
use Rattle.tc_hall.proofs.Cases.{clash}
use Rattle.tc_hall.proofs.Outlines.{if_here}
use Rattle.tc_hall.proofs.Through.{partway}

module _ (k : HallTerms) where
  abbrev Come : Core → List Event → Type 0
  Come c es = AreEnabled k.image.value (machine_limits k) c es

  -- ---- one event, and Grant with the Claim behind it

  passes : (c : Core) (w t lock : ℕ) → CanPass k w t lock c → IsNext c t lock → may_pass k.image.value (machine_limits k) c w t lock ≡ true
  passes c w t lock can next = both_true can.0 (both_true (ap not next.0) (both_true can.1 (both_true next.1 can.2)))

  goes_back : (c : Core) (w t : ℕ) → IsBetween c → Asks k c (HandBack w t) → HasNotEntered k c t → may_go_back k.image.value (machine_limits k) c w t ≡ true
  goes_back c w t between asks lines = both_true asks.0 (both_true asks.1 (both_true (ap (λ (n : ℕ). n == 0) (between t).0) (ap not lines)))

  -- ---- the turns of a block and its Commit

  -- n times an event that may come each time, and then another
  repeated : (e x : Event) (n : ℕ) (c : Core) → ((j : ℕ) → j < n → may_come k (after_events k c (replicate j e)) e ≡ true) → may_come k (after_events k c (replicate n e)) x ≡ true → Come c (replicate n e ++ x ∷ [])
  repeated e x zero c each last = (last, tt)
  repeated e x (suc n) c each last = (each 0 (omega arith), repeated e x n (effect k.image.value c e) (λ j lt. each (suc j) (omega arith)) last)

  lines_at : (e : Event) (es : List Event) (n j : ℕ) (c : Core) → j < n → LinesAllowAll k c (replicate n e ++ es) → LinesAllow k (after_events k c (replicate j e)) e
  lines_at e es zero j c lt lines = absurd (omega arith)
  lines_at e es (suc n) zero c lt lines = lines.0
  lines_at e es (suc n) (suc j) c lt lines = lines_at e es n j (effect k.image.value c e) (omega arith) lines.1

  takes : (c : Core) (t : ℕ) (o : Option ℕ) → ((lock : ℕ) → o ≡ Some lock → (c.course t).turns ≡ 0) → ((lock : ℕ) → o ≡ Some lock → is_granted (c.custody lock).place t ≡ true) → may_take o t c ≡ true
  takes c t None first given = refl
  takes c t (Some lock) first given = both_true (ap (λ (n : ℕ). n == 0) (first lock refl)) (given lock refl)

  module _ (c : Core) (w t n : ℕ) (end : End) (between : IsBetween c) (through : RunsThrough k w t n end c) where
    -- only the first turn of a block takes a lock
    begins : (j : ℕ) → j < n → (lock : ℕ) → next_lock k.image.value ((after_events k c (turns_by w t j)).machine.threads t) ≡ Some lock → ((after_events k c (turns_by w t j)).course t).turns ≡ 0
    begins zero lt lock next = (between t).0
    begins (suc i) lt lock next =
        let part = partway k.image.value c t w between (suc i) in
        absurd (clash _ lock (goes_on no_thread _ (i + 1) _ (sym part.ended ∙ through.goes_on (suc i) lt)).0 (ap (λ (m : State). next_lock k.image.value (m.threads t)) (sym part.machine) ∙ next))

    turn_comes : (j : ℕ) → j < n → LinesAllow k (after_events k c (turns_by w t j)) (Turn w t) → may_come k (after_events k c (turns_by w t j)) (Turn w t) ≡ true
    unfolding is_enabled
    turn_comes j lt lines =
        both_true (through.here j (omega arith)) (both_true (through.runs j lt) (both_true (ap (λ (o : Option End). not (is_some o)) (through.goes_on j lt)) (takes _ t _ (begins j lt) lines)))

    block_comes : LinesAllowAll k c (turns_by w t n ++ Commit w t ∷ []) → Come c (turns_by w t n ++ Commit w t ∷ [])
    unfolding is_enabled
    block_comes lines =
        repeated (Turn w t) (Commit w t) n c (λ j lt. turn_comes j lt (lines_at (Turn w t) (Commit w t ∷ []) n j c lt lines))
        (both_true (through.here n (omega arith)) (ap is_some through.ends))

  -- ---- each operation

  -- what holds of these events
  of_these : (c : Core) (Asked : List Event → Type 0) (es these : List Event) → es ≡ these → (Asked these → LinesAllowAll k c these → Come c these) → Asked es → LinesAllowAll k c es → Come c es
  of_these c Asked es these same = subst (λ (z : List Event). Asked z → LinesAllowAll k c z → Come c z) (sym same)

  module _ (s : Hall) (c : Core) (v : Knows) (between : IsBetween c) where
    put_comes : (q : PackageView) (place : Place) (es : List Event) → IsPut k c v q place es → AreAsked k c v (put q place) es → LinesAllowAll k c es → Come c es
    unfolding is_enabled
    put_comes q Ready es is = of_these c (AreAsked k c v (put q Ready)) es _ is.1 (λ asks lines. (goes_back c v.worker q.context.thread between asks lines.0, tt))
    put_comes q (Waiting lock) es is = of_these c (AreAsked k c v (put q (Waiting lock))) es _ is.1 (λ asks lines. (both_true asks.0 (both_true asks.1 (both_true lines.0.0 (ap not lines.0.1))), tt))
    put_comes q Parked es is = of_these c (AreAsked k c v (put q Parked)) es _ is.2 (λ asks lines. (both_true (goes_back c v.worker q.context.thread between (asks.0, asks.1) lines.0) asks.2, tt))
    put_comes q Done es is = of_these c (AreAsked k c v (put q Done)) es _ is.1 (λ asks lines. (asks, tt))

    pub allowed : (o : Operation) (es : List Event) → IsOf k s c v o es → AreAsked k c v o es → LinesAllowAll k c es → Come c es
    unfolding is_enabled effect
    allowed (claim t word q) es (alone o) asks lines = (asks, tt)
    allowed (claim t word q) es (adopted lock l is has loose) asks lines = (both_true (passes c v.worker t lock asks lines.0.0) lines.0.1, tt)
    allowed (claim t word q) es (granted lock l is has loose) asks lines = (
      both_true (passes c v.worker t lock asks lines.0.0) (ap not lines.0.1),
      (both_true (and_parts _ _ asks.0).0 (both_true asks.1 (ap (λ (x : Course). is_claimable x.place) (if_here _ _ t t refl))), tt),
    )
    allowed (take i l) es is asks lines = of_these c (AreAsked k c v (take i l)) es _ is.3 (λ asks lines. (both_true asks.0 (both_true asks.1 (both_true lines.0 asks.2)), tt)) asks lines
    allowed (commit stamp b q) es is asks lines = subst (Come c) (sym is) (block_comes c v.worker q.context.thread b.turns b.end between asks (subst (LinesAllowAll k c) is lines))
    allowed (put q place) es is asks lines = put_comes q place es is asks lines
    allowed (free l) es is asks lines = of_these c (AreAsked k c v (free l)) es _ is.1 (λ asks lines. (both_true asks lines.0, tt)) asks lines
    allowed (miss word wanted found) es is asks lines = subst (Come c) (sym is) tt
    allowed (look t found) es is asks lines = subst (Come c) (sym is) tt
    allowed stop es is asks lines = subst (Come c) (sym is) tt
    allowed (stopped found) es is asks lines = subst (Come c) (sym is) tt
    allowed (line i d) es is asks lines = subst (Come c) (sym is) tt
    allowed (reach slot) es is asks lines = subst (Come c) (sym is) tt
    allowed (lay slot) es is asks lines = subst (Come c) (sym is) tt
    allowed split es is asks lines = subst (Come c) (sym is) tt
    allowed (join other w) es is asks lines = subst (Come c) (sym is) tt
