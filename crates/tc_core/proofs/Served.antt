-- Each entry into a line is given the lock once at most, and takes it once at most, in the order of entry.
use Rattle.std.proofs.Common.{◌≡◌, ◌≢◌, ◌⊎◌, ℕ, Bool, true, false, not, ◌&&◌, ◌==◌, List, [], ◌∷◌, ◌++◌, refl, sym, ap, subst, ◌∙◌, append_assoc, append-nil, arith, inl, inr}
use Rattle.std.specs.Prelude.{Option, Some, None, if◌then◌else◌}
use Rattle.std.proofs.lemmas.Bool.{and_parts, not-true}
use Rattle.std.proofs.lemmas.Bool.Decides.{eqb_tells}
use Rattle.tc_elf.specs.Shown.{Shown}
use Rattle.tc_turn.specs.Turn.{next_lock}
use Rattle.tc_core.specs.declared.event.Event.{Event}
use Rattle.tc_core.specs.declared.event.Event.TheVariants.{Claim, Turn, Commit, Enter, Take, Ship, Adopt, Grant, Leave, Free, HandBack, Park, Finish}
use Rattle.tc_core.specs.declared.place.LockPlace.TheVariants as place
use Rattle.tc_core.specs.Lines.{is_first, is_second, is_single, rest_of, IsFrontOf}
use Rattle.tc_core.specs.Core.{Core, Limits, Custody, LockPlace, Release, With, Granted, Loose, is_free_lock, is_loose, is_granted, is_number, with_of, with_custody, first_core}
use Rattle.tc_core.specs.Events.{is_enabled, effect, has_thread, has_lock, is_lock, is_between, may_take, may_pass, adopts, custody_on, custody_past, passed_to}
use Rattle.tc_core.specs.Stories.{AreEnabled, after_all, Story, lock_by, locks_by, locks_of, enter_of, enters_of, grant_of, grants_of}
use Rattle.tc_core.proofs.Quiet.{Passes, passes, pick_mine, pick_other, lock_is_loose}
use Rattle.tc_core.proofs.Erasure.{may_turn}

-- ---- how far a line is

-- by the lock's place: the entries that have left the line, those that were given the lock, those that took it
abbrev pub Stage : LockPlace → Bool → List ℕ → List ℕ → List ℕ → List ℕ → Type 0
Stage place.Free left line gone granted locked = (left ≡ false) × (granted ≡ gone) × (locked ≡ gone)
Stage (Granted t) left line gone granted locked = (left ≡ false) × (is_first line t ≡ true) × (granted ≡ gone ++ t ∷ []) × (locked ≡ gone)
Stage (With t) left line gone granted locked = (left ≡ false) × (is_first line t ≡ true) × (granted ≡ gone ++ t ∷ []) × (locked ≡ gone ++ t ∷ [])
Stage (Loose w) true line gone granted locked = (granted ≡ gone) × (locked ≡ gone)
Stage (Loose w) false line gone granted locked = (t : ℕ) × (is_first line t ≡ true) × (granted ≡ gone ++ t ∷ []) × (locked ≡ gone ++ t ∷ [])

pub record Served (x : Custody) (granted locked entered : List ℕ) : Type 0 where
  pub gone : List ℕ
  pub all : entered ≡ gone ++ x.line
  pub stage : Stage x.place x.left x.line gone granted locked

-- a line that begins with t
first_is : (line : List ℕ) (t : ℕ) → is_first line t ≡ true → line ≡ t ∷ rest_of line
first_is [] t e = absurd (cc)
first_is (u ∷ us) t e = elim (eqb_tells u t) [ inl h ↦ ap (λ v. v ∷ us) h.1 | inr h ↦ absurd (let f = h.0 in cc) ]

pub first_more : (line : List ℕ) (t u : ℕ) → is_first line t ≡ true → is_first (line ++ u ∷ []) t ≡ true
first_more line t u e = grind arith

ahead : (gone line entered xs : List ℕ) (t : ℕ) → entered ≡ gone ++ line → is_first line t ≡ true → xs ≡ gone ++ t ∷ [] → IsFrontOf xs entered
ahead gone line entered xs t all e l =
    (rest_of line, ap (λ x. x ++ rest_of line) l ∙ append_assoc gone (t ∷ []) (rest_of line) ∙ ap (λ x. gone ++ x) (sym (first_is line t e)) ∙ sym all)

behind : (gone line entered xs : List ℕ) → entered ≡ gone ++ line → xs ≡ gone → IsFrontOf xs entered
behind gone line entered xs all l = (line, ap (λ x. x ++ line) l ∙ sym all)

-- both lists are fronts
fronts : (x : Custody) (granted locked entered : List ℕ) → Served x granted locked entered → IsFrontOf granted entered × IsFrontOf locked entered
fronts x granted locked entered s = go x.place x.left x.line s.all s.stage
  where
    go : (at : LockPlace) (left : Bool) (line : List ℕ) → entered ≡ s.gone ++ line → Stage at left line s.gone granted locked → IsFrontOf granted entered × IsFrontOf locked entered
    go place.Free left line all st = (behind s.gone line entered granted all st.1, behind s.gone line entered locked all st.2)
    go (Granted t) left line all st = (ahead s.gone line entered granted t all st.1 st.2, behind s.gone line entered locked all st.3)
    go (With t) left line all st = (ahead s.gone line entered granted t all st.1 st.2, ahead s.gone line entered locked t all st.1 st.3)
    go (Loose w) true line all st = (behind s.gone line entered granted all st.0, behind s.gone line entered locked all st.1)
    go (Loose w) false line all st = (ahead s.gone line entered granted st.0 all st.1 st.2, ahead s.gone line entered locked st.0 all st.1 st.3)

-- ---- what each event does to the lock's custody

entered_now : (x : Custody) (granted locked enters : List ℕ) (t : ℕ) → Served x granted locked enters → Served (record x { line = x.line ++ t ∷ [] }) granted locked (enters ++ t ∷ [])
entered_now x granted locked enters t s = record {
  gone = s.gone;
  all = ap (λ l. l ++ t ∷ []) s.all ∙ append_assoc s.gone x.line (t ∷ []);
  stage = go x.place x.left s.stage;
}
  where
    go : (at : LockPlace) (left : Bool) → Stage at left x.line s.gone granted locked → Stage at left (x.line ++ t ∷ []) s.gone granted locked
    go place.Free left st = st
    go (Granted u) left st = (st.0, first_more x.line u t st.1, st.2, st.3)
    go (With u) left st = (st.0, first_more x.line u t st.1, st.2, st.3)
    go (Loose w) true st = st
    go (Loose w) false st = (st.0, first_more x.line st.0 t st.1, st.2, st.3)

taken_now : (x : Custody) (granted locked enters : List ℕ) (t : ℕ) → is_free_lock x.place ≡ true → is_first x.line t ≡ true → Served x granted locked enters
    → Served (record x { place = Granted t; run = 0 }) (granted ++ t ∷ []) locked enters
taken_now x granted locked enters t free first s = record { gone = s.gone; all = s.all; stage = go x.place free s.stage }
  where
    go : (at : LockPlace) → is_free_lock at ≡ true → Stage at x.left x.line s.gone granted locked → Stage (Granted t) x.left x.line s.gone (granted ++ t ∷ []) locked
    go place.Free h st = (st.0, first, ap (λ l. l ++ t ∷ []) st.1, st.2)
    go (Granted u) h st = absurd (cc)
    go (With u) h st = absurd (cc)
    go (Loose w) h st = absurd (cc)

locked_now : (x : Custody) (granted locked enters : List ℕ) (t : ℕ) → is_granted x.place t ≡ true → Served x granted locked enters → Served (record x { place = With t }) granted (locked ++ t ∷ []) enters
locked_now x granted locked enters t was s = record { gone = s.gone; all = s.all; stage = go x.place was s.stage }
  where
    go : (at : LockPlace) → is_granted at t ≡ true → Stage at x.left x.line s.gone granted locked → Stage (With t) x.left x.line s.gone granted (locked ++ t ∷ [])
    go place.Free h st = absurd (cc)
    go (Granted u) h st = elim (eqb_tells u t) [
      | inl e ↦ (st.0, subst (λ v. is_first x.line v ≡ true) e.1 st.1, subst (λ v. granted ≡ s.gone ++ v ∷ []) e.1 st.2, ap (λ l. l ++ t ∷ []) st.3)
      | inr e ↦ absurd (let f = e.0 in cc)
    ]
    go (With u) h st = absurd (cc)
    go (Loose w) h st = absurd (cc)

loose_now : (x : Custody) (granted locked enters : List ℕ) (w t : ℕ) (held : Bool) (r : Option Release) → Served x granted locked enters → Served (custody_past w t held r x) granted locked enters
loose_now x granted locked enters w t held r s = go x.place refl s.stage
  where
    same : (p : LockPlace) → x.place ≡ p → with_of p ≡ None → Served (custody_past w t held r x) granted locked enters
    same p e none = subst (λ y. Served y granted locked enters) (sym (ap (λ o. if is_number o t && not held then record x { place = Loose w; last = r } else x) (ap with_of e ∙ none))) s

    go : (at : LockPlace) → x.place ≡ at → Stage at x.left x.line s.gone granted locked → Served (custody_past w t held r x) granted locked enters
    go place.Free e st = same place.Free e refl
    go (Granted u) e st = same (Granted u) e refl
    go (Loose v) e st = same (Loose v) e refl
    go (With u) e st = elim (is_number (with_of x.place) t && not held) as (λ b. Served (if b then record x { place = Loose w; last = r } else x) granted locked enters) [
      | true ↦ record { gone = s.gone; all = s.all; stage = subst (λ b. Stage (Loose w) b x.line s.gone granted locked) (sym st.0) (u, st.1, st.2, st.3) }
      | false ↦ s
    ]

passed_now : (x : Custody) (granted locked enters : List ℕ) (w t run : ℕ) → is_loose x.place w ≡ true → x.left ≡ false → is_second x.line t ≡ true → Served x granted locked enters
    → Served (passed_to x t run) (granted ++ t ∷ []) locked enters
passed_now x granted locked enters w t run loose left second s = go x.place x.line loose second s.all (subst (λ b. Stage x.place b x.line s.gone granted locked) left s.stage)
  where
    go : (at : LockPlace) (line : List ℕ) → is_loose at w ≡ true → is_second line t ≡ true → enters ≡ s.gone ++ line → Stage at false line s.gone granted locked
        → Served (record x { place = Granted t; line = rest_of line; run = run }) (granted ++ t ∷ []) locked enters
    go place.Free line h sec all st = absurd (cc)
    go (Granted u) line h sec all st = absurd (cc)
    go (With u) line h sec all st = absurd (cc)
    go (Loose v) [] h sec all st = absurd (cc)
    go (Loose v) (y ∷ ys) h sec all st = (
        let e : y ∷ ys ≡ st.0 ∷ ys = first_is (y ∷ ys) st.0 st.1 in
        record {
          gone = s.gone ++ st.0 ∷ [];
          all = all ∙ ap (λ l. s.gone ++ l) e ∙ sym (append_assoc s.gone (st.0 ∷ []) ys);
          stage = (left, sec, ap (λ l. l ++ t ∷ []) st.2, st.3);
        })

left_now : (x : Custody) (granted locked enters : List ℕ) (w : ℕ) → is_loose x.place w ≡ true → x.left ≡ false → is_single x.line ≡ true → Served x granted locked enters
    → Served (record x { line = []; left = true }) granted locked enters
left_now x granted locked enters w loose left single s = go x.place x.line loose single s.all (subst (λ b. Stage x.place b x.line s.gone granted locked) left s.stage)
  where
    go : (at : LockPlace) (line : List ℕ) → is_loose at w ≡ true → is_single line ≡ true → enters ≡ s.gone ++ line → Stage at false line s.gone granted locked
        → Served (record x { place = at; line = []; left = true }) granted locked enters
    go place.Free line h one all st = absurd (cc)
    go (Granted u) line h one all st = absurd (cc)
    go (With u) line h one all st = absurd (cc)
    go (Loose v) [] h one all st = absurd (cc)
    go (Loose v) (y ∷ z ∷ zs) h one all st = absurd (cc)
    go (Loose v) (y ∷ []) h one all st = (
        let e : y ∷ [] ≡ st.0 ∷ [] = first_is (y ∷ []) st.0 st.1 in
        record { gone = s.gone ++ st.0 ∷ []; all = all ∙ ap (λ l. s.gone ++ l) e ∙ sym (append-nil _); stage = (st.2, st.3) })

freed_now : (x : Custody) (granted locked enters : List ℕ) (w : ℕ) → is_loose x.place w ≡ true → x.left ≡ true → Served x granted locked enters → Served (record x { place = place.Free; left = false }) granted locked enters
freed_now x granted locked enters w loose left s = record { gone = s.gone; all = s.all; stage = go x.place loose (subst (λ b. Stage x.place b x.line s.gone granted locked) left s.stage) }
  where
    go : (at : LockPlace) → is_loose at w ≡ true → Stage at true x.line s.gone granted locked → Stage place.Free false x.line s.gone granted locked
    go place.Free h st = absurd (cc)
    go (Granted u) h st = absurd (cc)
    go (With u) h st = absurd (cc)
    go (Loose v) h st = (refl, st.0, st.1)

-- ---- one event

served_by : {x y : Custody} {g g' l l' e e' : List ℕ} → y ≡ x → g' ≡ g → l' ≡ l → e' ≡ e → Served x g l e → Served y g' l' e'
served_by {x = x} {y = y} {g = g} {g' = g'} {l = l} {l' = l'} {e = e} p q r t s =
    subst (λ a. Served y g' l' a) (sym t) (subst (λ a. Served y g' a e) (sym r) (subst (λ a. Served y a l e) (sym q) (subst (λ a. Served a g l e) (sym p) s)))

none : (xs : List ℕ) → xs ++ [] ≡ xs
none xs = append-nil xs

-- an event that leaves the lock's custody and its lists
stay : {x : Custody} {g l e : List ℕ} → Served x g l e → Served x (g ++ []) (l ++ []) (e ++ [])
stay {g = g} {l = l} {e = e} s = served_by refl (none g) (none l) (none e) s

here : (lock : ℕ) (xs : List ℕ) (t : ℕ) → xs ++ (if lock == lock then t ∷ [] else []) ≡ xs ++ t ∷ []
here lock xs t = ap (λ ys. xs ++ ys) (pick_mine lock (t ∷ []) [])

there : (k lock : ℕ) (xs : List ℕ) (t : ℕ) → k ≢ lock → xs ++ (if k == lock then t ∷ [] else []) ≡ xs
there k lock xs t ne = ap (λ ys. xs ++ ys) (pick_other k lock (t ∷ []) [] ne) ∙ none xs

-- an event about another lock
elsewhere : (k lock : ℕ) (x y : Custody) → k ≢ lock → (if lock == k then x else y) ≡ y
elsewhere k lock x y ne = pick_other lock k x y (λ e. ne (sym e))

abbrev After : Shown → ℕ → Core → Event → List ℕ → List ℕ → List ℕ → Type 0
After image lock c e granted locked entered =
    Served ((effect image c e).custody lock) (granted ++ grant_of lock e) (locked ++ lock_by image lock c e) (entered ++ enter_of lock e)

module _ (image : Shown) (limits : Limits) (lock : ℕ) (c : Core) (granted locked entered : List ℕ) (s : Served (c.custody lock) granted locked entered) where
  turned : (t : ℕ) (o : Option ℕ) → may_take o t c ≡ true
      → Served (custody_on o t lock (c.custody lock)) (granted ++ []) (locked ++ (if is_number o lock then t ∷ [] else [])) (entered ++ [])
  turned t None may = stay s
  turned t (Some k) may = elim (eqb_tells k lock) [
    | inl h ↦ subst (λ j. is_granted (c.custody j).place t ≡ true → Served (custody_on (Some j) t lock (c.custody lock)) (granted ++ []) (locked ++ (if j == lock then t ∷ [] else [])) (entered ++ [])) (sym h.1)
        (λ was. served_by (pick_mine lock _ _) (none granted) (here lock locked t) (none entered) (locked_now (c.custody lock) granted locked entered t was s))
        (and_parts (is_between c t) _ may).1
    | inr h ↦ served_by (elsewhere k lock _ _ h.1) (none granted) (there k lock locked t h.1) (none entered) s
  ]

  serves_enter : (w t k : ℕ) → After image lock c (Enter w t k) granted locked entered
  unfolding effect
  serves_enter w t k = elim (eqb_tells k lock) [
    | inl h ↦ subst (λ j. After image lock c (Enter w t j) granted locked entered) (sym h.1)
        (served_by (pick_mine lock _ _) (none granted) (none locked) (here lock entered t) (entered_now (c.custody lock) granted locked entered t s))
    | inr h ↦ served_by (elsewhere k lock _ _ h.1) (none granted) (none locked) (there k lock entered t h.1) s
  ]

  serves_take : (w t k : ℕ) → is_first (c.custody k).line t ≡ true → is_free_lock (c.custody k).place ≡ true → After image lock c (Take w t k) granted locked entered
  unfolding effect
  serves_take w t k first free = elim (eqb_tells k lock) [
    | inl h ↦ subst (λ j. is_first (c.custody j).line t ≡ true → is_free_lock (c.custody j).place ≡ true → After image lock c (Take w t j) granted locked entered) (sym h.1)
        (λ first free. served_by (pick_mine lock _ _) (here lock granted t) (none locked) (none entered) (taken_now (c.custody lock) granted locked entered t free first s)) first free
    | inr h ↦ served_by (elsewhere k lock _ _ h.1) (there k lock granted t h.1) (none locked) (none entered) s
  ]

  -- lock k is passed on to t
  abbrev Passed : ℕ → ℕ → ℕ → Type 0
  Passed t run k =
      Served ((with_custody c k (passed_to (c.custody k) t run)).custody lock) (granted ++ (if k == lock then t ∷ [] else [])) (locked ++ []) (entered ++ [])

  serves_pass : (w t k run : ℕ) → Passes c w t k → Passed t run k
  serves_pass w t k run may = elim (eqb_tells k lock) [
    | inl h ↦ subst (λ j. Passes c w t j → Passed t run j) (sym h.1)
        (λ (p : Passes c w t lock). served_by (pick_mine lock _ _) (here lock granted t) (none locked) (none entered)
        (passed_now (c.custody lock) granted locked entered w t run p.loose p.left p.second s)) may
    | inr h ↦ served_by (elsewhere k lock _ _ h.1) (there k lock granted t h.1) (none locked) (none entered) s
  ]

  serves_leave : (w k : ℕ) → is_loose (c.custody k).place w ≡ true → (c.custody k).left ≡ false → is_single (c.custody k).line ≡ true → After image lock c (Leave w k) granted locked entered
  unfolding effect
  serves_leave w k loose left single = elim (eqb_tells k lock) [
    | inl h ↦ subst (λ j. is_loose (c.custody j).place w ≡ true → (c.custody j).left ≡ false → is_single (c.custody j).line ≡ true → After image lock c (Leave w j) granted locked entered) (sym h.1)
        (λ loose left single. served_by (pick_mine lock _ _) (none granted) (none locked) (none entered) (left_now (c.custody lock) granted locked entered w loose left single s)) loose left single
    | inr h ↦ served_by (elsewhere k lock _ _ h.1) (none granted) (none locked) (none entered) s
  ]

  serves_free : (w k : ℕ) → is_loose (c.custody k).place w ≡ true → (c.custody k).left ≡ true → After image lock c (Free w k) granted locked entered
  unfolding effect
  serves_free w k loose left = elim (eqb_tells k lock) [
    | inl h ↦ subst (λ j. is_loose (c.custody j).place w ≡ true → (c.custody j).left ≡ true → After image lock c (Free w j) granted locked entered) (sym h.1)
        (λ loose left. served_by (pick_mine lock _ _) (none granted) (none locked) (none entered) (freed_now (c.custody lock) granted locked entered w loose left s)) loose left
    | inr h ↦ served_by (elsewhere k lock _ _ h.1) (none granted) (none locked) (none entered) s
  ]

  serves : (e : Event) → is_enabled image limits c e ≡ true → After image lock c e granted locked entered
  unfolding effect is_enabled
  serves (Claim w t) on = stay s
  serves (Turn w t) on = turned t (next_lock image (c.machine.threads t)) (may_turn image limits c w t on).take
  serves (Commit w t) on = stay (loose_now (c.custody lock) granted locked entered w t _ _ s)
  serves (Enter w t k) on = serves_enter w t k
  serves (Take w t k) on =
      (let p = and_parts (is_lock image k) _ (and_parts (has_thread image limits c w t) _ on).1 in let q = and_parts _ _ p.1 in serves_take w t k q.0 q.1)
  serves (Ship w t k) on = stay s
  serves (Adopt w t k) on = serves_pass w t k _ (passes image limits c w t k (and_parts (may_pass image limits c w t k) (adopts limits c k) on).0)
  serves (Grant w t k) on = serves_pass w t k 0 (passes image limits c w t k (and_parts (may_pass image limits c w t k) (not (adopts limits c k)) on).0)
  serves (Leave w k) on =
      (let p = and_parts (has_lock image limits c w k) _ on in let q = and_parts _ _ p.1 in
      serves_leave w k (lock_is_loose image limits c w k p.0) (not-true _ q.0) q.1)
  serves (Free w k) on = (let p = and_parts (has_lock image limits c w k) _ on in serves_free w k (lock_is_loose image limits c w k p.0) p.1)
  serves (HandBack w t) on = stay s
  serves (Park w t) on = stay s
  serves (Finish w t) on = stay s

-- ---- all events

served_all : (image : Shown) (limits : Limits) (lock : ℕ) (es : List Event) (c : Core) (granted locked entered : List ℕ) → Served (c.custody lock) granted locked entered → AreEnabled image limits c es
    → IsFrontOf (granted ++ grants_of lock es) (entered ++ enters_of lock es) × IsFrontOf (locked ++ locks_by image lock c es) (entered ++ enters_of lock es)
served_all image limits lock [] c granted locked entered s on =
    let f = fronts (c.custody lock) granted locked entered s in (
      (f.0.0, ap (λ x. x ++ f.0.0) (none granted) ∙ f.0.1 ∙ sym (none entered)),
      (f.1.0, ap (λ x. x ++ f.1.0) (none locked) ∙ f.1.1 ∙ sym (none entered)),
    )
served_all image limits lock (e ∷ es) c granted locked entered s on =
    let g = grant_of lock e in let l = lock_by image lock c e in let n = enter_of lock e in
    let r = served_all image limits lock es (effect image c e) (granted ++ g) (locked ++ l) (entered ++ n) (serves image limits lock c granted locked entered s e on.0) on.1 in (
      (r.0.0, ap (λ x. x ++ r.0.0) (sym (append_assoc granted g (grants_of lock es))) ∙ r.0.1 ∙ append_assoc entered n (enters_of lock es)),
      (r.1.0, ap (λ x. x ++ r.1.0) (sym (append_assoc locked l (locks_by image lock (effect image c e) es))) ∙ r.1.1 ∙ append_assoc entered n (enters_of lock es)),
    )

pub in_order : (s : Story) (lock : ℕ) → IsFrontOf (grants_of lock s.events) (enters_of lock s.events) × IsFrontOf (locks_of lock s) (enters_of lock s.events)
in_order s lock =
    served_all s.image s.limits lock s.events (first_core s.image s.fuel) [] [] [] (record { gone = []; all = refl; stage = (refl, refl, refl) }) s.enabled

-- ---- how far a line is after a list of events

pub served_after : (image : Shown) (limits : Limits) (lock : ℕ) (es : List Event) (c : Core) (granted locked entered : List ℕ) → Served (c.custody lock) granted locked entered → AreEnabled image limits c es
    → Served ((after_all image c es).custody lock) (granted ++ grants_of lock es) (locked ++ locks_by image lock c es) (entered ++ enters_of lock es)
served_after image limits lock [] c granted locked entered s on = stay s
served_after image limits lock (e ∷ es) c granted locked entered s on =
    let g = grant_of lock e in let l = lock_by image lock c e in let n = enter_of lock e in
    served_by refl (sym (append_assoc granted g (grants_of lock es))) (sym (append_assoc locked l (locks_by image lock (effect image c e) es))) (sym (append_assoc entered n (enters_of lock es)))
    (served_after image limits lock es (effect image c e) (granted ++ g) (locked ++ l) (entered ++ n) (serves image limits lock c granted locked entered s e on.0) on.1)

-- those that entered and were not given the lock yet are the line, or the line without its first
pub record Owed (x : Custody) (granted entered : List ℕ) : Type 0 where
  pub rest : List ℕ
  pub all : granted ++ rest ≡ entered
  pub line : (rest ≡ x.line) ⊎ (rest ≡ rest_of x.line)

pub owed : (x : Custody) (granted locked entered : List ℕ) → Served x granted locked entered → Owed x granted entered
owed x granted locked entered s = go x.place x.left s.stage
  where
    none_given : granted ≡ s.gone → Owed x granted entered
    none_given e = record { rest = x.line; all = ap (λ xs. xs ++ x.line) e ∙ sym s.all; line = inl refl }

    first_given : (t : ℕ) → is_first x.line t ≡ true → granted ≡ s.gone ++ t ∷ [] → Owed x granted entered
    first_given t first e = record {
      rest = rest_of x.line;
      all = ap (λ xs. xs ++ rest_of x.line) e ∙ append_assoc s.gone (t ∷ []) (rest_of x.line) ∙ ap (λ xs. s.gone ++ xs) (sym (first_is x.line t first)) ∙ sym s.all;
      line = inr refl;
    }

    go : (at : LockPlace) (left : Bool) → Stage at left x.line s.gone granted locked → Owed x granted entered
    go place.Free left st = none_given st.1
    go (Granted t) left st = first_given t st.1 st.2
    go (With t) left st = first_given t st.1 st.2
    go (Loose w) true st = none_given st.0
    go (Loose w) false st = first_given st.0 st.1 st.2
