-- Where no thread is given back in vain, or each one that is claimed takes a turn first, so many events come at most.
use Rattle.std.proofs.Common.{◌≡◌, ◌≢◌, ℕ, ◌≤◌, Bool, true, false, ◌||◌, ◌==◌, List, [], ◌∷◌, ◌++◌, length, refl, sym, ap, subst, ◌∙◌, append_assoc, inl, inr}
use Rattle.std.specs.Prelude.{Some, if◌then◌else◌}
use Rattle.std.proofs.lemmas.Bool.{false_from_ne_true, and_parts, both_ways}
use Rattle.std.proofs.lemmas.Bool.Decides.{eqb_tells}
use Rattle.tc_elf.specs.Shown.{Shown}
use Rattle.tc_core.specs.declared.event.Event.{Event}
use Rattle.tc_core.specs.declared.event.Event.TheVariants.{Claim, Turn, Commit, Enter, Take, Ship, Adopt, Grant, Leave, Free, HandBack, Park, Finish}
use Rattle.tc_core.specs.Lines.{is_in_line}
use Rattle.tc_core.specs.Core.{Core, Limits, Course, Ready, Parked, is_at, is_number, first_core}
use Rattle.tc_core.specs.Events.{is_enabled, effect, has_thread, may_go_back}
use Rattle.tc_core.specs.Stories.{AreEnabled, Story, turn_of, turns_of}
use Rattle.tc_core.specs.Alive.{given_back, worked_on, is_worked_on, NoneInVain, AreClaimsUsed, most_events}
use Rattle.tc_core.proofs.Quiet.{pick_other}
use Rattle.tc_core.proofs.Work.{number_is, thread_at}
use Rattle.tc_core.proofs.Ending.{rest_on, NoneAgain, few_events}
use Rattle.std.proofs.lemmas.Option.{same_Some}

-- ---- something is done with each thread before it is given back again

-- the thread was given back in what came so far, and nothing was done with it since
record IsBack (came : List Event) (t : ℕ) : Type 0 where
  back : Event
  before : List Event
  between : List Event
  all : came ≡ before ++ back ∷ between
  gave : given_back back ≡ Some t
  none : is_worked_on between t ≡ false

worked_more : (es : List Event) (e : Event) (t : ℕ) → is_number (worked_on e) t ≡ false → is_worked_on es t ≡ false → is_worked_on (es ++ e ∷ []) t ≡ false
worked_more [] e t out none = ap (λ b. b || false) out
worked_more (x ∷ es) e t out none = (elim (is_number (worked_on x) t) as (λ b. (b || is_worked_on es t) ≡ false → (b || is_worked_on (es ++ e ∷ []) t) ≡ false) [
  | true ↦ λ h. absurd (cc)
  | false ↦ λ h. worked_more es e t out h
]) none

-- every thread that rests was
abbrev RestBack : (ℕ → Bool) → List Event → Type 0
RestBack rests came = (t : ℕ) → rests t ≡ true → IsBack came t

back_after : (rests : ℕ → Bool) (came : List Event) (e : Event) → RestBack rests came → RestBack (rest_on rests e) (came ++ e ∷ [])
back_after rests came e inv t r = go (is_number (given_back e) t) (is_number (worked_on e) t) refl refl r
  where
    still : is_number (worked_on e) t ≡ false → IsBack came t → IsBack (came ++ e ∷ []) t
    still out is = record {
      back = is.back;
      before = is.before;
      between = is.between ++ e ∷ [];
      all = ap (λ xs. xs ++ e ∷ []) is.all ∙ append_assoc is.before (is.back ∷ is.between) (e ∷ []);
      gave = is.gave;
      none = worked_more is.between e t out is.none;
    }

    go : (b w : Bool) → is_number (given_back e) t ≡ b → is_number (worked_on e) t ≡ w → (if b then true else if w then false else rests t) ≡ true → IsBack (came ++ e ∷ []) t
    go true w g out h = record { back = e; before = came; between = []; all = refl; gave = number_is (given_back e) t g; none = refl }
    go false true g out h = absurd (cc)
    go false false g out h = still out (inv t h)

none_again : (es : List Event) (rests : ℕ → Bool) (came all : List Event) → came ++ es ≡ all → NoneInVain all → RestBack rests came → NoneAgain rests es
none_again [] rests came all whole used inv = tt
none_again (e ∷ es) rests came all whole used inv = (
  λ t back. false_from_ne_true (rests t) (λ r. (let is = inv t r in both_ways _ is.none (used t is.before is.between es is.back e (sym whole ∙ ap (λ xs. xs ++ e ∷ es) is.all) is.gave back))),
  none_again es (rest_on rests e) (came ++ e ∷ []) all (append_assoc came (e ∷ []) es ∙ whole) used (back_after rests came e inv),
)

pub busy : (s : Story) → NoneInVain s.events → length s.events ≤ most_events s
busy s used = few_events s (none_again s.events (λ t. false) [] s.events refl used (λ t r. absurd (cc)))

-- ---- each thread takes a turn after it is claimed

-- the thread was claimed in what came so far, and took no turn since
record IsClaimed (came : List Event) (t : ℕ) : Type 0 where
  worker : ℕ
  before : List Event
  between : List Event
  all : came ≡ before ++ Claim worker t ∷ between
  none : is_in_line (turns_of between) t ≡ false

-- ---- one event more

turns_more : (es : List Event) (e : Event) (t : ℕ) → is_in_line (turn_of e) t ≡ false → is_in_line (turns_of es) t ≡ false → is_in_line (turns_of (es ++ e ∷ [])) t ≡ false
turns_more [] (Turn w u) t out none = out
turns_more [] e t out none = refl
turns_more (Turn w u ∷ es) e t out none = (elim (u == t) as (λ b. (b || is_in_line (turns_of es) t) ≡ false → (b || is_in_line (turns_of (es ++ e ∷ [])) t) ≡ false) [
  | true ↦ λ h. absurd (cc)
  | false ↦ λ h. turns_more es e t out h
]) none
turns_more (x ∷ es) e t out none = turns_more es e t out none

more : (came : List Event) (e : Event) (t : ℕ) → is_in_line (turn_of e) t ≡ false → IsClaimed came t → IsClaimed (came ++ e ∷ []) t
more came e t out is = record {
  worker = is.worker;
  before = is.before;
  between = is.between ++ e ∷ [];
  all = ap (λ xs. xs ++ e ∷ []) is.all ∙ append_assoc is.before (Claim is.worker t ∷ is.between) (e ∷ []);
  none = turns_more is.between e t out is.none;
}

-- something is done with a thread: another one rests as before
worked : (u t : ℕ) (rests : ℕ → Bool) → (if u == t then false else rests t) ≡ true → (t ≢ u) × (rests t ≡ true)
worked u t rests r = elim (eqb_tells u t) [
  | inl e ↦ absurd (both_ways _ (ap (λ b. if b then false else rests t) e.0) r)
  | inr e ↦ ((λ same. e.1 (sym same)), sym (ap (λ b. if b then false else rests t) e.0) ∙ r)
]

-- a thread is given back: so it is at no worker, and another one rests as before
backed : (u t : ℕ) (rests : ℕ → Bool) → t ≢ u → (if u == t then true else rests t) ≡ true → rests t ≡ true
backed u t rests ne r = elim (eqb_tells u t) [ inl e ↦ absurd (ne (sym e.1)) | inr e ↦ sym (ap (λ b. if b then true else rests t) e.0) ∙ r ]

-- a thread that rests and is at a worker was claimed since it was given back
abbrev RestClaimed : Core → (ℕ → Bool) → List Event → Type 0
RestClaimed c rests came = (t v : ℕ) → rests t ≡ true → is_at (c.course t).place v ≡ true → IsClaimed came t

module _ (image : Shown) (c : Core) (rests : ℕ → Bool) (came : List Event) (inv : RestClaimed c rests came) where
  -- another thread's place
  other : (t u v : ℕ) (x : Course) → t ≢ u → is_at (if t == u then x else c.course t).place v ≡ true → is_at (c.course t).place v ≡ true
  other t u v x ne at = sym (ap (λ (y : Course). is_at y.place v) (pick_other t u x (c.course t) ne)) ∙ at

  -- a thread that is given back is at no worker
  given : (e : Event) (u t v : ℕ) (x : Course) → is_in_line (turn_of e) t ≡ false → is_at x.place v ≡ false → (if u == t then true else rests t) ≡ true → is_at (if t == u then x else c.course t).place v ≡ true → IsClaimed (came ++ e ∷ []) t
  given e u t v x out away r at = elim (eqb_tells t u) [
    | inl h ↦ absurd (both_ways _ (ap (λ b. is_at (if b then x else c.course t).place v) h.0 ∙ away) at)
    | inr h ↦ more came e t out (inv t v (backed u t rests h.1 r) (other t u v x h.1 at))
  ]

  done : (e : Event) (u t v : ℕ) → is_in_line (turn_of e) t ≡ false → (if u == t then false else rests t) ≡ true → is_at (c.course t).place v ≡ true → IsClaimed (came ++ e ∷ []) t
  done e u t v out r at = more came e t out (inv t v (worked u t rests r).1 at)

  claimed_after : (e : Event) → RestClaimed (effect image c e) (rest_on rests e) (came ++ e ∷ [])
  unfolding effect
  claimed_after (Claim w u) t v r at = elim (eqb_tells t u) [
    | inl h ↦ subst (IsClaimed (came ++ Claim w u ∷ [])) (sym h.1) (record { worker = w; before = came; between = []; all = refl; none = refl })
    | inr h ↦ more came (Claim w u) t refl (inv t v r (other t u v _ h.1 at))
  ]
  claimed_after (Turn w u) t v r at =
      (let o = worked u t rests r in
      let out : (u == t || false) ≡ false = elim (eqb_tells u t) [ inl h ↦ absurd (o.0 (sym h.1)) | inr h ↦ ap (λ b. b || false) h.0 ] in
      more came (Turn w u) t out (inv t v o.1 (other t u v _ o.0 at)))
  claimed_after (Commit w u) t v r at = done (Commit w u) u t v refl r (other t u v _ (worked u t rests r).0 at)
  claimed_after (Enter w u k) t v r at = done (Enter w u k) u t v refl r at
  claimed_after (Take w u k) t v r at = done (Take w u k) u t v refl r at
  claimed_after (Ship w u k) t v r at = done (Ship w u k) u t v refl r (other t u v _ (worked u t rests r).0 at)
  claimed_after (Adopt w u k) t v r at = done (Adopt w u k) u t v refl r (other t u v _ (worked u t rests r).0 at)
  claimed_after (Grant w u k) t v r at = done (Grant w u k) u t v refl r (other t u v _ (worked u t rests r).0 at)
  claimed_after (Leave w k) t v r at = more came (Leave w k) t refl (inv t v r at)
  claimed_after (Free w k) t v r at = more came (Free w k) t refl (inv t v r at)
  claimed_after (HandBack w u) t v r at = given (HandBack w u) u t v (record (c.course u) { place = Ready }) refl refl r at
  claimed_after (Park w u) t v r at = given (Park w u) u t v (record (c.course u) { place = Parked }) refl refl r at
  claimed_after (Finish w u) t v r at = done (Finish w u) u t v refl r (other t u v _ (worked u t rests r).0 at)

-- ---- all events

back_at : (image : Shown) (limits : Limits) (c : Core) (e : Event) (t : ℕ) → is_enabled image limits c e ≡ true → given_back e ≡ Some t → (w : ℕ) × (is_at (c.course t).place w ≡ true)
unfolding is_enabled
back_at image limits c (HandBack w u) t on e =
    (w, subst (λ n. is_at (c.course n).place w ≡ true) (same_Some u t e) (thread_at image limits c w u (and_parts (has_thread image limits c w u) _ on).0))
back_at image limits c (Park w u) t on e =
    (let may = (and_parts (may_go_back image limits c w u) _ on).0 in
    (w, subst (λ n. is_at (c.course n).place w ≡ true) (same_Some u t e) (thread_at image limits c w u (and_parts (has_thread image limits c w u) _ may).0)))
back_at image limits c e t on is = absurd (cc)

not_yet : (image : Shown) (limits : Limits) (c : Core) (rests : ℕ → Bool) (came es all : List Event) (e : Event) → came ++ e ∷ es ≡ all → AreClaimsUsed all → is_enabled image limits c e ≡ true → RestClaimed c rests came
    → (t : ℕ) → given_back e ≡ Some t → rests t ≡ false
not_yet image limits c rests came es all e whole used on inv t back = false_from_ne_true (rests t) (λ r. (
    let at = back_at image limits c e t on back in
    let is = inv t at.0 r at.1 in
    both_ways _ is.none (used is.worker t is.before is.between es e (sym whole ∙ ap (λ xs. xs ++ e ∷ es) is.all) back)))

claimed_again : (image : Shown) (limits : Limits) (es : List Event) (c : Core) (rests : ℕ → Bool) (came all : List Event) → came ++ es ≡ all → AreClaimsUsed all → AreEnabled image limits c es → RestClaimed c rests came → NoneAgain rests es
claimed_again image limits [] c rests came all whole used on inv = tt
claimed_again image limits (e ∷ es) c rests came all whole used on inv = (
  not_yet image limits c rests came es all e whole used on.0 inv,
  claimed_again image limits es (effect image c e) (rest_on rests e) (came ++ e ∷ []) all (append_assoc came (e ∷ []) es ∙ whole) used on.1 (claimed_after image c rests came inv e),
)

pub claims : (s : Story) → AreClaimsUsed s.events → length s.events ≤ most_events s
claims s used = few_events s (claimed_again s.image s.limits s.events (first_core s.image s.fuel) (λ t. false) [] s.events refl used s.enabled (λ t v r at. absurd (cc)))
