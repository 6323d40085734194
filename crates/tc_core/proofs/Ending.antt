-- Who never gives a thread back comes to the end of all.
use Rattle.std.proofs.Common.{◌≡◌, ◌⊎◌, ℕ, zero, suc, ◌+◌, ◌*◌, ◌<◌, ◌≤◌, ◌≢◌, Bool, true, false, ◌==◌, List, [], ◌∷◌, length, refl, sym, ap, subst, ◌∙◌, arith, inl, inr}
use Rattle.std.specs.Prelude.{Some, if◌then◌else◌}
use Rattle.std.proofs.lemmas.Bool.{and_parts}
use Rattle.std.proofs.lemmas.Bool.Decides.{eqb_tells}
use Rattle.tc_elf.specs.Shown.{Shown}
use Rattle.tc_elf.specs.declared.limits.TheConstants.{MAX_GUARDS}
use Rattle.tc_turn.specs.Turn.{next_lock}
use Rattle.tc_mutex_spec.proofs.Sums.{sum_to, sums_le, sums_one, sums_more, sums_most, at_most}
use Rattle.tc_core.specs.declared.event.Event.{Event}
use Rattle.tc_core.specs.declared.event.Event.TheVariants.{Claim, Turn, Commit, Enter, Take, Ship, Adopt, Grant, Leave, Free, HandBack, Park, Finish}
use Rattle.tc_core.specs.Core.{Core, Limits, Course, ThreadPlace, Ready, Waiting, Parked, Done, At, is_claimable, is_number, with_custody, with_place, first_core}
use Rattle.tc_core.specs.Events.{is_enabled, effect, is_worker, is_thread, course_on, course_past, end_here, passed_to}
use Rattle.tc_core.specs.Stories.{AreEnabled, Story, after_all, last_core}
use Rattle.tc_core.specs.Alive.{is_work, work_of, most_onward, is_back, backs_of, given_back, worked_on, most_events, IsOver, CanGo, Step, CanEnd}
use Rattle.tc_core.proofs.Quiet.{pick_mine, pick_other, changed_same}
use Rattle.tc_core.proofs.Known.{known}
use Rattle.tc_core.proofs.Work.{one_if, one_most, left_of, takes, left_in}
use Rattle.tc_core.proofs.Standing.{Stands, stands_after, story_stands}
use Rattle.tc_core.proofs.Moves.{Goes, over_or_goes}
use Rattle.tc_lemmas.proofs.Tests.{eq_self}

-- ---- how many threads may be claimed

abbrev claim_left : Course → ℕ
claim_left x = one_if (is_claimable x.place)

abbrev claim_sum : Shown → Core → ℕ
claim_sum image c = sum_to (λ t. claim_left (c.course t)) (length image.entries)

-- one thread comes to a place
claim_place : (image : Shown) (c : Core) (u : ℕ) (at : ThreadPlace) → claim_sum image (with_place c u at) ≤ claim_sum image c + 1
claim_place image c u at =
    sums_more (λ t. claim_left ((with_place c u at).course t)) (λ t. claim_left (c.course t)) 1 u (length image.entries)
    (λ t ne. at_most _ _ (ap (λ (x : Course). claim_left x) (pick_other t u (record (c.course u) { place = at }) (c.course t) ne)))
    (let m = one_most (is_claimable ((with_place c u at).course u).place) in omega arith)

-- and no other place
claim_same : (image : Shown) (c : Core) (u : ℕ) (x : Course) → x.place ≡ (c.course u).place → sum_to (λ t. claim_left (if t == u then x else c.course t)) (length image.entries) ≤ claim_sum image c
claim_same image c u x e =
    sums_le (λ t. claim_left (if t == u then x else c.course t)) (λ t. claim_left (c.course t)) (length image.entries)
    (λ t lt. at_most _ _ (changed_same c.course (λ (y : Course). claim_left y) u x t (ap (λ p. one_if (is_claimable p)) e)))

claim_claimed : (image : Shown) (c : Core) (w u : ℕ) → u < length image.entries → is_claimable (c.course u).place ≡ true → claim_sum image (with_place c u (At w)) + 1 ≤ claim_sum image c
claim_claimed image c w u lt e =
    let old : claim_left (c.course u) ≡ 1 = ap one_if e in
    let r = sums_one (λ t. claim_left ((with_place c u (At w)).course t)) (λ t. claim_left (c.course t)) 1 0 u (length image.entries)
    (λ t ne. at_most _ _ (ap (λ (x : Course). claim_left x) (pick_other t u (record (c.course u) { place = At w }) (c.course t) ne)))
    (subst (λ (x : Course). claim_left x + 1 ≤ claim_left (c.course u) + 0) (sym (pick_mine u (record (c.course u) { place = At w }) (c.course u))) (omega (arith, old)))
    lt in
    omega (arith, r)

claims : (image : Shown) (c : Core) (e : Event) → claim_sum image (effect image c e) ≤ claim_sum image c + 1
unfolding effect
claims image c (Claim w u) = claim_place image c u (At w)
claims image c (Turn w u) = (let r = claim_same image c u (course_on (c.course u) (next_lock image (c.machine.threads u)) (end_here image c u)) refl in omega (arith, r))
claims image c (Commit w u) = (let r = claim_same image c u (course_past (c.course u)) refl in omega (arith, r))
claims image c (Enter w u k) = omega arith
claims image c (Take w u k) = omega arith
claims image c (Ship w u k) = claim_place image c u (Waiting k)
claims image c (Adopt w u k) = claim_place image (with_custody c k (passed_to (c.custody k) u ((c.custody k).run + 1))) u (At w)
claims image c (Grant w u k) = claim_place image (with_custody c k (passed_to (c.custody k) u 0)) u Ready
claims image c (Leave w k) = omega arith
claims image c (Free w k) = omega arith
claims image c (HandBack w u) = claim_place image c u Ready
claims image c (Park w u) = claim_place image c u Parked
claims image c (Finish w u) = claim_place image c u Done

-- ---- what is left

spare : Shown → Core → ℕ
spare image c = 2 * left_of image c + claim_sum image c

-- work takes two of it, and adds one claim at most
work_spares : (image : Shown) (limits : Limits) (c : Core) (e : Event) → is_enabled image limits c e ≡ true → is_work e ≡ true → spare image (effect image c e) + 1 ≤ spare image c
unfolding spare
work_spares image limits c e on work =
    let t : left_of image (effect image c e) + 1 ≤ left_of image c = subst (λ b. left_of image (effect image c e) + (if b then 1 else 0) ≤ left_of image c) work (takes image limits c e on) in
    let n = claims image c e in
    omega (arith, t, n)

claim_spares : (image : Shown) (limits : Limits) (c : Core) (w u : ℕ) → is_enabled image limits c (Claim w u) ≡ true → spare image (effect image c (Claim w u)) + 1 ≤ spare image c
unfolding spare effect is_enabled
claim_spares image limits c w u on =
    let t = takes image limits c (Claim w u) on in
    let n = claim_claimed image c w u (known image limits c (Claim w u) on) (and_parts (is_thread image u) _ (and_parts (is_worker limits w) _ on).1).1 in
    omega (arith, t, n)

-- who gives a thread back adds one claim
back_spares : (image : Shown) (limits : Limits) (c : Core) (e : Event) → is_enabled image limits c e ≡ true → spare image (effect image c e) ≤ spare image c + 1
unfolding spare
back_spares image limits c e on = (let t = takes image limits c e on in let n = claims image c e in omega (arith, t, n))

spares : (image : Shown) (limits : Limits) (c : Core) (e : Event) → is_enabled image limits c e ≡ true → spare image (effect image c e) + 1 ≤ spare image c + 2 * (if is_back e then 1 else 0)
spares image limits c (Claim w u) on = (let h = claim_spares image limits c w u on in omega (arith, h))
spares image limits c (HandBack w u) on = (let h = back_spares image limits c (HandBack w u) on in omega (arith, h))
spares image limits c (Park w u) on = (let h = back_spares image limits c (Park w u) on in omega (arith, h))
spares image limits c e on = (let h = work_spares image limits c e on refl in omega (arith, h))

spares_all : (image : Shown) (limits : Limits) (es : List Event) (c : Core) → AreEnabled image limits c es → length es ≤ spare image c + 2 * backs_of es
spares_all image limits [] c on = omega arith
spares_all image limits (e ∷ es) c on = (let r = spares_all image limits es (effect image c e) on.1 in let h = spares image limits c e on.0 in omega (arith, r, h))

-- an event that gives no thread back takes from it
onward_spares : (image : Shown) (limits : Limits) (c : Core) (e : Event) → is_enabled image limits c e ≡ true → is_back e ≡ false → spare image (effect image c e) + 1 ≤ spare image c
onward_spares image limits c e on onward =
    (let h : spare image (effect image c e) + 1 ≤ spare image c + 2 * (if false then 1 else 0) = subst (λ b. spare image (effect image c e) + 1 ≤ spare image c + 2 * (if b then 1 else 0)) onward (spares image limits c e on) in omega (arith, h))

spare_in : (s : Story) → spare s.image (last_core s) ≤ most_onward s
unfolding spare
spare_in s =
    let l = left_in s in
    let n = sums_most (λ t. claim_left ((last_core s).course t)) 1 (length s.image.entries) (λ t. one_most (is_claimable ((last_core s).course t).place)) in
    omega (arith, l, n)

pub ceases : (s : Story) (events : List Event) → AreEnabled s.image s.limits (last_core s) events → length events ≤ most_onward s + 2 * backs_of events
ceases s events on = (let r = spares_all s.image s.limits events (last_core s) on in let l = spare_in s in omega (arith, r, l))

-- ---- something may come

pub goes : (s : Story) → CanGo s → IsOver s.image (last_core s) ⊎ Step s
goes s can = elim (over_or_goes s.image s.limits (last_core s) (story_stands s) can.worker can.guards) [
  | inl over ↦ inl over
  | inr g ↦ inr (record { event = g.event; enabled = g.enabled; onward = g.onward })
]

-- ---- the end

record Ends (image : Shown) (limits : Limits) (c : Core) : Type 0 where
  events : List Event
  enabled : AreEnabled image limits c events
  onward : backs_of events ≡ 0
  over : IsOver image (after_all image c events)

no_more : (n : ℕ) → n ≡ 0 → 0 + n ≡ 0
no_more n e = omega arith

ends_more : (image : Shown) (limits : Limits) (c : Core) (g : Goes image limits c) → Ends image limits (effect image c g.event) → Ends image limits c
ends_more image limits c g r = record { events = g.event ∷ r.events; enabled = (g.enabled, r.enabled); onward = ap (λ b. (if b then 1 else 0) + backs_of r.events) g.onward ∙ no_more _ r.onward; over = r.over }

ends_now : (image : Shown) (limits : Limits) (c : Core) → IsOver image c → Ends image limits c
ends_now image limits c over = record { events = []; enabled = tt; onward = refl; over = over }

ends_from : (image : Shown) (limits : Limits) → 0 < limits.workers → length image.guards ≤ MAX_GUARDS → (n : ℕ) (c : Core) → Stands image limits c → spare image c ≤ n → Ends image limits c
ends_from image limits some few zero c s le = elim (over_or_goes image limits c s some few) [
  | inl over ↦ ends_now image limits c over
  | inr g ↦ absurd (let h = onward_spares image limits c g.event g.enabled g.onward in omega arith)
]
ends_from image limits some few (suc n) c s le = elim (over_or_goes image limits c s some few) [
  | inl over ↦ ends_now image limits c over
  | inr g ↦ ends_more image limits c g (ends_from image limits some few n (effect image c g.event) (stands_after image limits c g.event g.enabled s) (let h = onward_spares image limits c g.event g.enabled g.onward in omega arith))
]

pub can_end : (s : Story) → CanGo s → CanEnd s
can_end s can =
    let r = ends_from s.image s.limits can.worker can.guards (spare s.image (last_core s)) (last_core s) (story_stands s) (omega arith) in
    record { events = r.events; enabled = r.enabled; onward = r.onward; short = (let h = ceases s r.events r.enabled in let z = r.onward in omega (arith, h, z)); over = r.over }

-- ---- nothing in vain

-- which threads rest: they were given back, and nothing was done with them since
abbrev pub rest_on : (ℕ → Bool) → Event → ℕ → Bool
rest_on rests e t = if is_number (given_back e) t then true else if is_number (worked_on e) t then false else rests t

-- no thread that rests is given back again
abbrev pub NoneAgain : (ℕ → Bool) → List Event → Type 0
NoneAgain rests [] = Unit {0}
NoneAgain rests (e ∷ es) = ((t : ℕ) → given_back e ≡ Some t → rests t ≡ false) × NoneAgain (rest_on rests e) es

rest_sum : Shown → (ℕ → Bool) → ℕ
rest_sum image rests = sum_to (λ t. one_if (rests t)) (length image.entries)

other_rests : (u t : ℕ) (b : Bool) (rests : ℕ → Bool) → t ≢ u → (if u == t then b else rests t) ≡ rests t
other_rests u t b rests ne = elim (eqb_tells u t) [ inl h ↦ absurd (ne (sym h.1)) | inr h ↦ ap (λ y. if y then b else rests t) h.0 ]

-- something is done with a thread
rest_work : (image : Shown) (rests : ℕ → Bool) (u : ℕ) → rest_sum image rests ≤ rest_sum image (λ t. if u == t then false else rests t) + 1
unfolding rest_sum
rest_work image rests u =
    sums_more (λ t. one_if (rests t)) (λ t. one_if (if u == t then false else rests t)) 1 u (length image.entries)
    (λ t ne. at_most _ _ (ap one_if (sym (other_rests u t false rests ne)))) (let m = one_most (rests u) in omega arith)

-- a thread that does not rest is given back
rest_back : (image : Shown) (rests : ℕ → Bool) (u : ℕ) → u < length image.entries → rests u ≡ false → rest_sum image rests + 1 ≤ rest_sum image (λ t. if u == t then true else rests t)
unfolding rest_sum
rest_back image rests u lt none =
    let old : one_if (rests u) ≡ 0 = ap one_if none in
    let new : one_if (if u == u then true else rests u) ≡ 1 = ap (λ b. one_if (if b then true else rests u)) (eq_self u) in
    let r = sums_one (λ t. one_if (rests t)) (λ t. one_if (if u == t then true else rests t)) 1 0 u (length image.entries)
    (λ t ne. at_most _ _ (ap one_if (sym (other_rests u t true rests ne)))) (omega (arith, old, new)) lt in
    omega (arith, r)

rest_step : (image : Shown) (limits : Limits) (c : Core) (rests : ℕ → Bool) (e : Event) → is_enabled image limits c e ≡ true → ((t : ℕ) → given_back e ≡ Some t → rests t ≡ false)
    → (if is_back e then 1 else 0) + rest_sum image rests ≤ (if is_work e then 1 else 0) + rest_sum image (rest_on rests e)
rest_step image limits c rests (HandBack w u) on not_yet = (let h = rest_back image rests u (known image limits c (HandBack w u) on) (not_yet u refl) in omega (arith, h))
rest_step image limits c rests (Park w u) on not_yet = (let h = rest_back image rests u (known image limits c (Park w u) on) (not_yet u refl) in omega (arith, h))
rest_step image limits c rests (Claim w u) on not_yet = omega arith
rest_step image limits c rests (Turn w u) on not_yet = (let h = rest_work image rests u in omega (arith, h))
rest_step image limits c rests (Commit w u) on not_yet = (let h = rest_work image rests u in omega (arith, h))
rest_step image limits c rests (Enter w u k) on not_yet = (let h = rest_work image rests u in omega (arith, h))
rest_step image limits c rests (Take w u k) on not_yet = (let h = rest_work image rests u in omega (arith, h))
rest_step image limits c rests (Ship w u k) on not_yet = (let h = rest_work image rests u in omega (arith, h))
rest_step image limits c rests (Adopt w u k) on not_yet = (let h = rest_work image rests u in omega (arith, h))
rest_step image limits c rests (Grant w u k) on not_yet = (let h = rest_work image rests u in omega (arith, h))
rest_step image limits c rests (Leave w k) on not_yet = omega arith
rest_step image limits c rests (Free w k) on not_yet = omega arith
rest_step image limits c rests (Finish w u) on not_yet = (let h = rest_work image rests u in omega (arith, h))

rest_most : (image : Shown) (rests : ℕ → Bool) → rest_sum image rests ≤ length image.entries
unfolding rest_sum
rest_most image rests = (let h = sums_most (λ t. one_if (rests t)) 1 (length image.entries) (λ t. one_most (rests t)) in omega (arith, h))

few_backs : (image : Shown) (limits : Limits) (es : List Event) (c : Core) (rests : ℕ → Bool) → AreEnabled image limits c es → NoneAgain rests es → backs_of es + rest_sum image rests ≤ work_of es + length image.entries
few_backs image limits [] c rests on none = (let h = rest_most image rests in omega (arith, h))
few_backs image limits (e ∷ es) c rests on none =
    (let r = few_backs image limits es (effect image c e) (rest_on rests e) on.1 none.1 in let h = rest_step image limits c rests e on.0 none.0 in omega (arith, r, h))

pub few_events : (s : Story) → NoneAgain (λ t. false) s.events → length s.events ≤ most_events s
few_events s none =
    let all = ceases (record { image = s.image; limits = s.limits; fuel = s.fuel; events = []; enabled = tt }) s.events s.enabled in
    let backs = few_backs s.image s.limits s.events (first_core s.image s.fuel) (λ t. false) s.enabled none in
    let work = left_in s in
    omega (arith, all, backs, work)
