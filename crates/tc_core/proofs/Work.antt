-- Each event but Claim, HandBack and Park takes from what is left to do, and no event adds to it.
use Rattle.std.proofs.Common.{◌≡◌, ◌≢◌, ℕ, ◌+◌, ◌*◌, ◌<◌, ◌≤◌, Bool, true, false, not, ◌&&◌, ◌||◌, ◌==◌, List, [], ◌∷◌, ◌++◌, length, length-append, refl, sym, ap, subst, ◌∙◌, arith, inl, inr}
use Rattle.std.specs.Prelude.{Option, Some, None, is_some, if◌then◌else◌}
use Rattle.std.proofs.lemmas.Bool.{and_parts, not-true}
use Rattle.std.proofs.lemmas.Bool.Decides.{eqb_tells}
use Rattle.tc_elf.specs.Shown.{Shown}
use Rattle.tc_turn.specs.Turn.{next_lock}
use Rattle.tc_mutex_spec.specs.Machine.{after}
use Rattle.tc_mutex_spec.proofs.Local.{turn_apart}
use Rattle.tc_mutex_spec.proofs.BlocksAlike.{covers_block}
use Rattle.tc_mutex_spec.proofs.Sums.{sum_to, sums_le, sums_one, sums_more, sums_most, at_most}
use Rattle.tc_mutex_spec.proofs.Progress.{turns_sum, turns_turn, first_turns}
use Rattle.tc_core.specs.declared.event.Event.{Event}
use Rattle.tc_core.specs.declared.event.Event.TheVariants.{Claim, Turn, Commit, Enter, Take, Ship, Adopt, Grant, Leave, Free, HandBack, Park, Finish}
use Rattle.tc_core.specs.declared.place.LockPlace.TheVariants as place
use Rattle.tc_core.specs.Lines.{is_in_line, is_first, is_single, rest_of}
use Rattle.tc_core.specs.Core.{Core, Limits, Course, Custody, LockPlace, ThreadPlace, Release, Ready, Waiting, Parked, Done, At, With, Granted, Loose, is_at, is_claimable, is_waiting, is_free_lock, is_loose, is_number, with_of, with_custody, with_place, first_core}
use Rattle.tc_core.specs.Events.{is_enabled, effect, is_worker, is_thread, is_lock, has_thread, has_lock, runs, is_between, may_pass, may_go_back, adopts, course_on, course_past, custody_on, custody_past, end_here, release_of, taken_by, freed, left_by_all, after_turn}
use Rattle.tc_core.specs.Stories.{AreEnabled, Story, after_all, turn_of, turns_of}
use Rattle.tc_core.specs.Alive.{is_work, work_of, most_work, IsBounded}
use Rattle.tc_core.proofs.Quiet.{passes, pick_mine, pick_other, changed_same, lock_is_loose}
use Rattle.tc_core.proofs.Erasure.{MayTurn, may_turn}
use Rattle.tc_core.proofs.Known.{known}
use Rattle.tc_core.proofs.Parts.{turn_thread, on_line, past_line}

abbrev pub one_if : Bool → ℕ
one_if true = 1
one_if false = 0

pub one_most : (b : Bool) → one_if b ≤ 1
one_most true = omega arith
one_most false = omega arith

-- ---- what is left to do

-- a Commit
abbrev pub ended_left : Course → ℕ
ended_left x = one_if (is_some x.ended)

-- an Enter: the thread is not in the line of the lock that its next turn takes
abbrev pub enter_left : Option ℕ → Core → ℕ → ℕ
enter_left None c t = 1
enter_left (Some k) c t = if is_in_line (c.custody k).line t then 0 else 1

-- a Ship, and a Finish
abbrev pub place_left : ThreadPlace → ℕ
place_left Ready = 2
place_left (Waiting k) = 1
place_left Parked = 2
place_left Done = 0
place_left (At w) = 2

-- a Take, or a Leave and a Free; four where an Adopt or a Grant may come, since after it a thread is no longer shipped, and another may enter
abbrev pub lock_left : LockPlace → Bool → ℕ
lock_left place.Free left = 1
lock_left (With t) left = 4
lock_left (Granted t) left = 0
lock_left (Loose w) true = 2
lock_left (Loose w) false = 4

-- each is at most
enter_most : (o : Option ℕ) (c : Core) (t : ℕ) → enter_left o c t ≤ 1
enter_most None c t = omega arith
enter_most (Some k) c t = elim (is_in_line (c.custody k).line t) as (λ b. (if b then 0 else 1) ≤ 1) [ true ↦ omega arith | false ↦ omega arith ]

lock_most : (p : LockPlace) (left : Bool) → lock_left p left ≤ 4
lock_most place.Free left = omega arith
lock_most (With t) left = omega arith
lock_most (Granted t) left = omega arith
lock_most (Loose w) true = omega arith
lock_most (Loose w) false = omega arith

-- who may enter goes by the lines alone
enter_lines : (o : Option ℕ) (c d : Core) (u : ℕ) → ((k : ℕ) → (d.custody k).line ≡ (c.custody k).line) → enter_left o d u ≡ enter_left o c u
enter_lines None c d u same = refl
enter_lines (Some j) c d u same = ap (λ l. if is_in_line l u then 0 else 1) (same j)

-- ---- over all threads and locks

abbrev pub ended_sum : Shown → Core → ℕ
ended_sum image c = sum_to (λ t. ended_left (c.course t)) (length image.entries)

abbrev pub enter_sum : Shown → Core → ℕ
enter_sum image c = sum_to (λ t. enter_left (next_lock image (c.machine.threads t)) c t) (length image.entries)

abbrev pub place_sum : Shown → Core → ℕ
place_sum image c = sum_to (λ t. place_left (c.course t).place) (length image.entries)

abbrev pub lock_sum : Shown → Core → ℕ
lock_sum image c = sum_to (λ k. lock_left (c.custody k).place (c.custody k).left) (length image.guards)

unfoldable pub left_of : Shown → Core → ℕ
left_of image c = 7 * turns_sum image c.machine + ended_sum image c + enter_sum image c + place_sum image c + lock_sum image c

-- ---- one thread comes to a place

at_two : (p : ThreadPlace) (w : ℕ) → is_at p w ≡ true → place_left p ≡ 2
at_two Ready w e = absurd (cc)
at_two (Waiting k) w e = absurd (cc)
at_two Parked w e = absurd (cc)
at_two Done w e = absurd (cc)
at_two (At v) w e = refl

claimed_two : (p : ThreadPlace) → is_claimable p ≡ true → place_left p ≡ 2
claimed_two Ready e = refl
claimed_two (Waiting k) e = absurd (cc)
claimed_two Parked e = refl
claimed_two Done e = absurd (cc)
claimed_two (At v) e = absurd (cc)

waiting_one : (p : ThreadPlace) (k : ℕ) → is_waiting p k ≡ true → place_left p ≡ 1
waiting_one Ready k e = absurd (cc)
waiting_one (Waiting j) k e = refl
waiting_one Parked k e = absurd (cc)
waiting_one Done k e = absurd (cc)
waiting_one (At v) k e = absurd (cc)

pub thread_at : (image : Shown) (limits : Limits) (c : Core) (w t : ℕ) → has_thread image limits c w t ≡ true → is_at (c.course t).place w ≡ true
thread_at image limits c w t e = (and_parts (is_thread image t) _ (and_parts (is_worker limits w) _ e).1).1

place_moves : (image : Shown) (c : Core) (t : ℕ) (at : ThreadPlace) (a b : ℕ) → t < length image.entries → place_left at + a ≤ place_left (c.course t).place + b → place_sum image (with_place c t at) + a ≤ place_sum image c + b
place_moves image c t at a b lt here =
    sums_one (λ u. place_left ((with_place c t at).course u).place) (λ u. place_left (c.course u).place) a b t (length image.entries)
    (λ u ne. at_most _ _ (ap (λ (x : Course). place_left x.place) (pick_other u t (record (c.course t) { place = at }) (c.course u) ne)))
    (subst (λ (x : Course). place_left x.place + a ≤ place_left (c.course t).place + b) (sym (pick_mine t (record (c.course t) { place = at }) (c.course t))) here)
    lt

ended_place : (image : Shown) (c : Core) (t : ℕ) (at : ThreadPlace) → ended_sum image (with_place c t at) ≤ ended_sum image c
ended_place image c t at =
    sums_le (λ u. ended_left ((with_place c t at).course u)) (λ u. ended_left (c.course u)) (length image.entries)
    (λ u lt. at_most _ _ (changed_same c.course (λ (x : Course). ended_left x) t _ u refl))

-- no line is changed
enters_place : (image : Shown) (c : Core) (t : ℕ) (at : ThreadPlace) → enter_sum image (with_place c t at) ≤ enter_sum image c
enters_place image c t at =
    sums_le (λ u. enter_left (next_lock image (c.machine.threads u)) (with_place c t at) u) (λ u. enter_left (next_lock image (c.machine.threads u)) c u) (length image.entries)
    (λ u lt. at_most _ _ (enter_lines (next_lock image (c.machine.threads u)) c (with_place c t at) u (λ k. refl)))

only_place : (image : Shown) (c : Core) (t : ℕ) (at : ThreadPlace) (a : ℕ) → t < length image.entries → place_left at + a ≤ place_left (c.course t).place → left_of image (with_place c t at) + a ≤ left_of image c
unfolding left_of
only_place image c t at a lt here =
    (let p = place_moves image c t at a 0 lt (omega arith) in
    let e = ended_place image c t at in
    let n = enters_place image c t at in
    omega (arith, p, e, n))

-- ---- one lock comes to a custody

lock_moves : (image : Shown) (c : Core) (k : ℕ) (x : Custody) (a b : ℕ) → k < length image.guards → lock_left x.place x.left + a ≤ lock_left (c.custody k).place (c.custody k).left + b
    → lock_sum image (with_custody c k x) + a ≤ lock_sum image c + b
lock_moves image c k x a b lt here =
    sums_one (λ j. lock_left ((with_custody c k x).custody j).place ((with_custody c k x).custody j).left) (λ j. lock_left (c.custody j).place (c.custody j).left) a b k (length image.guards)
    (λ j ne. at_most _ _ (ap (λ (y : Custody). lock_left y.place y.left) (pick_other j k x (c.custody j) ne)))
    (subst (λ (y : Custody). lock_left y.place y.left + a ≤ lock_left (c.custody k).place (c.custody k).left + b) (sym (pick_mine k x (c.custody k))) here)
    lt

enter_custody : (o : Option ℕ) (c : Core) (k : ℕ) (x : Custody) (u : ℕ) → is_in_line x.line u ≡ is_in_line (c.custody k).line u → enter_left o (with_custody c k x) u ≡ enter_left o c u
enter_custody None c k x u e = refl
enter_custody (Some j) c k x u e = ap (λ b. if b then 0 else 1) (changed_same c.custody (λ (y : Custody). is_in_line y.line u) k x j e)

enters_same : (image : Shown) (c : Core) (k : ℕ) (x : Custody) → ((u : ℕ) → is_in_line x.line u ≡ is_in_line (c.custody k).line u) → enter_sum image (with_custody c k x) ≤ enter_sum image c
enters_same image c k x same =
    sums_le (λ u. enter_left (next_lock image (c.machine.threads u)) (with_custody c k x) u) (λ u. enter_left (next_lock image (c.machine.threads u)) c u) (length image.entries)
    (λ u lt. at_most _ _ (enter_custody (next_lock image (c.machine.threads u)) c k x u (same u)))

-- all but one are in the line as before
enters_more : (image : Shown) (c : Core) (k h : ℕ) (x : Custody) → ((u : ℕ) → u ≢ h → is_in_line x.line u ≡ is_in_line (c.custody k).line u) → enter_sum image (with_custody c k x) ≤ enter_sum image c + 1
enters_more image c k h x same =
    sums_more (λ u. enter_left (next_lock image (c.machine.threads u)) (with_custody c k x) u) (λ u. enter_left (next_lock image (c.machine.threads u)) c u) 1 h (length image.entries)
    (λ u ne. at_most _ _ (enter_custody (next_lock image (c.machine.threads u)) c k x u (same u ne)))
    (let m = enter_most (next_lock image (c.machine.threads h)) (with_custody c k x) h in omega arith)

-- one that is not in the line enters it
enters_less : (image : Shown) (c : Core) (k t : ℕ) (x : Custody) → t < length image.entries → next_lock image (c.machine.threads t) ≡ Some k → is_in_line (c.custody k).line t ≡ false → is_in_line x.line t ≡ true
    → ((u : ℕ) → u ≢ t → is_in_line x.line u ≡ is_in_line (c.custody k).line u) → enter_sum image (with_custody c k x) + 1 ≤ enter_sum image c
enters_less image c k t x lt next out is same =
    let new : enter_left (next_lock image (c.machine.threads t)) (with_custody c k x) t ≡ 0 =
    ap (λ o. enter_left o (with_custody c k x) t) next ∙ ap (λ (y : Custody). if is_in_line y.line t then 0 else 1) (pick_mine k x (c.custody k)) ∙ ap (λ b. if b then 0 else 1) is in
    let old : enter_left (next_lock image (c.machine.threads t)) c t ≡ 1 = ap (λ o. enter_left o c t) next ∙ ap (λ b. if b then 0 else 1) out in
    let r = sums_one (λ u. enter_left (next_lock image (c.machine.threads u)) (with_custody c k x) u) (λ u. enter_left (next_lock image (c.machine.threads u)) c u) 1 0 t (length image.entries)
    (λ u ne. at_most _ _ (enter_custody (next_lock image (c.machine.threads u)) c k x u (same u ne))) (omega (arith, new, old)) lt in
    omega (arith, r)

-- ---- lines

in_more : (line : List ℕ) (t : ℕ) → is_in_line (line ++ t ∷ []) t ≡ true
in_more [] t = elim (eqb_tells t t) [ inl h ↦ rw h.0 | inr h ↦ absurd (h.1 refl) ]
in_more (v ∷ vs) t = elim (v == t) as (λ b. (b || is_in_line (vs ++ t ∷ []) t) ≡ true) [ true ↦ refl | false ↦ in_more vs t ]

in_more_other : (line : List ℕ) (t u : ℕ) → u ≢ t → is_in_line (line ++ t ∷ []) u ≡ is_in_line line u
in_more_other [] t u ne = elim (eqb_tells t u) [ inl h ↦ absurd (ne (sym h.1)) | inr h ↦ rw h.0 ]
in_more_other (v ∷ vs) t u ne = ap (λ b. (v == u) || b) (in_more_other vs t u ne)

abbrev head_of : List ℕ → ℕ
head_of [] = 0
head_of (u ∷ us) = u

rest_in : (line : List ℕ) (u : ℕ) → u ≢ head_of line → is_in_line (rest_of line) u ≡ is_in_line line u
rest_in [] u ne = refl
rest_in (v ∷ vs) u ne = elim (eqb_tells v u) [ inl h ↦ absurd (ne (sym h.1)) | inr h ↦ ap (λ b. b || is_in_line vs u) (sym h.0) ]

single_in : (line : List ℕ) (u : ℕ) → is_single line ≡ true → u ≢ head_of line → is_in_line [] u ≡ is_in_line line u
single_in [] u one ne = refl
single_in (v ∷ []) u one ne = elim (eqb_tells v u) [ inl h ↦ absurd (ne (sym h.1)) | inr h ↦ ap (λ b. b || false) (sym h.0) ]
single_in (v ∷ w ∷ ws) u one ne = absurd (cc)

-- ---- where a lock is

free_one : (p : LockPlace) (left : Bool) → is_free_lock p ≡ true → lock_left p left ≡ 1
free_one place.Free left e = refl
free_one (With t) left e = absurd (cc)
free_one (Granted t) left e = absurd (cc)
free_one (Loose w) left e = absurd (cc)

loose_is : (p : LockPlace) (w : ℕ) (left b : Bool) → is_loose p w ≡ true → left ≡ b → lock_left p left ≡ lock_left (Loose w) b
loose_is place.Free w left b e f = absurd (cc)
loose_is (With t) w left b e f = absurd (cc)
loose_is (Granted t) w left b e f = absurd (cc)
loose_is (Loose v) w true b e f = ap (lock_left (Loose w)) f
loose_is (Loose v) w false b e f = ap (lock_left (Loose w)) f

with_four : (p : LockPlace) (left : Bool) (t : ℕ) → is_number (with_of p) t ≡ true → lock_left p left ≡ 4
with_four place.Free left t e = absurd (cc)
with_four (With u) left t e = refl
with_four (Granted u) left t e = absurd (cc)
with_four (Loose w) left t e = absurd (cc)

past_lock : (w t : ℕ) (held : Bool) (r : Option Release) (x : Custody) → lock_left (custody_past w t held r x).place (custody_past w t held r x).left ≤ lock_left x.place x.left
past_lock w t held r x = go (is_number (with_of x.place) t && not held) refl
  where
    go : (b : Bool) → (is_number (with_of x.place) t && not held) ≡ b
        → lock_left (if b then record x { place = Loose w; last = r } else x).place (if b then record x { place = Loose w; last = r } else x).left ≤ lock_left x.place x.left
    go true e =
        (let f = with_four x.place x.left t (and_parts (is_number (with_of x.place) t) (not held) e).0 in let m = lock_most (Loose w) x.left in omega arith)
    go false e = omega arith

-- ---- a turn

locks_turn : (image : Shown) (c : Core) (t : ℕ) (o : Option ℕ) → sum_to (λ k. lock_left (custody_on o t k (c.custody k)).place (custody_on o t k (c.custody k)).left) (length image.guards) ≤ lock_sum image c + 4
locks_turn image c t None = omega arith
locks_turn image c t (Some j) =
    sums_more (λ k. lock_left (custody_on (Some j) t k (c.custody k)).place (custody_on (Some j) t k (c.custody k)).left) (λ k. lock_left (c.custody k).place (c.custody k).left) 4 j (length image.guards)
    (λ k ne. at_most _ _ (ap (λ (y : Custody). lock_left y.place y.left) (pick_other k j (record (c.custody k) { place = With t }) (c.custody k) ne)))
    (let m = lock_most (custody_on (Some j) t j (c.custody j)).place (custody_on (Some j) t j (c.custody j)).left in omega arith)

turn_takes : (image : Shown) (c : Core) (t : ℕ) → MayTurn image c t → left_of image (after_turn image c t) + 1 ≤ left_of image c
unfolding left_of
turn_takes image c t may =
    let m = c.machine in
    let d = m.threads t in
    let x : Course = course_on (c.course t) (next_lock image d) (end_here image c t) in
    let n = length image.entries in
    let turns = turns_turn image m t (turn_thread image c t may) may.running in
    let ended = sums_more (λ u. ended_left ((after_turn image c t).course u)) (λ u. ended_left (c.course u)) 1 t n
    (λ u ne. at_most _ _ (ap (λ (y : Course). ended_left y) (pick_other u t x (c.course u) ne)))
    (let h = one_most (is_some ((after_turn image c t).course t).ended) in omega arith) in
    let enters = sums_more (λ u. enter_left (next_lock image ((after image m t).threads u)) (after_turn image c t) u) (λ u. enter_left (next_lock image (m.threads u)) c u) 1 t n
    (λ u ne. at_most _ _ (ap (λ y. enter_left (next_lock image y) (after_turn image c t) u) ((turn_apart image m t _ (covers_block image d)).threads u ne)
    ∙ enter_lines (next_lock image (m.threads u)) c (after_turn image c t) u (λ k. on_line (next_lock image d) t k (c.custody k))))
    (let h = enter_most (next_lock image ((after image m t).threads t)) (after_turn image c t) t in omega arith) in
    let places = sums_le (λ u. place_left ((after_turn image c t).course u).place) (λ u. place_left (c.course u).place) n
    (λ u lt. at_most _ _ (changed_same c.course (λ (y : Course). place_left y.place) t x u refl)) in
    let locks = locks_turn image c t (next_lock image d) in
    omega (arith, turns, ended, enters, places, locks)

-- ---- a commit

commit_takes : (image : Shown) (c : Core) (w t : ℕ) → t < length image.entries → is_some (c.course t).ended ≡ true → left_of image (effect image c (Commit w t)) + 1 ≤ left_of image c
unfolding left_of effect
commit_takes image c w t lt some =
    let x : Course = course_past (c.course t) in
    let n = length image.entries in
    let old : ended_left (c.course t) ≡ 1 = ap one_if some in
    let ended = sums_one (λ u. ended_left (if u == t then x else c.course u)) (λ u. ended_left (c.course u)) 1 0 t n
    (λ u ne. at_most _ _ (ap (λ (y : Course). ended_left y) (pick_other u t x (c.course u) ne)))
    (subst (λ (y : Course). ended_left y + 1 ≤ ended_left (c.course t) + 0) (sym (pick_mine t x (c.course t))) (omega (arith, old)))
    lt in
    let enters = sums_le (λ u. enter_left (next_lock image (c.machine.threads u)) (effect image c (Commit w t)) u) (λ u. enter_left (next_lock image (c.machine.threads u)) c u) n
    (λ u below. at_most _ _ (enter_lines (next_lock image (c.machine.threads u)) c (effect image c (Commit w t)) u (λ k. past_line w t _ _ (c.custody k)))) in
    let places = sums_le (λ u. place_left (if u == t then x else c.course u).place) (λ u. place_left (c.course u).place) n
    (λ u below. at_most _ _ (changed_same c.course (λ (y : Course). place_left y.place) t x u refl)) in
    let locks = sums_le (λ k. lock_left ((effect image c (Commit w t)).custody k).place ((effect image c (Commit w t)).custody k).left) (λ k. lock_left (c.custody k).place (c.custody k).left) (length image.guards)
    (λ k below. past_lock w t ((c.machine.threads t).held k) (release_of (c.course t)) (c.custody k)) in
    omega (arith, ended, enters, places, locks)

-- ---- the other events

pub number_is : (o : Option ℕ) (k : ℕ) → is_number o k ≡ true → o ≡ Some k
number_is None k e = absurd (cc)
number_is (Some j) k e = elim (eqb_tells j k) [ inl h ↦ ap Some h.1 | inr h ↦ absurd (let f = h.0 in cc) ]

enter_takes : (image : Shown) (c : Core) (t k : ℕ) → t < length image.entries → k < length image.guards → next_lock image (c.machine.threads t) ≡ Some k → is_in_line (c.custody k).line t ≡ false
    → left_of image (with_custody c k (record (c.custody k) { line = (c.custody k).line ++ t ∷ [] })) + 1 ≤ left_of image c
unfolding left_of
enter_takes image c t k lt low next out =
    let x : Custody = record (c.custody k) { line = (c.custody k).line ++ t ∷ [] } in
    let enters = enters_less image c k t x lt next out (in_more (c.custody k).line t) (λ u ne. in_more_other (c.custody k).line t u ne) in
    let locks = lock_moves image c k x 0 0 low (omega arith) in
    omega (arith, enters, locks)

-- a lock that comes nearer to its end, where one thread may enter its line anew
custody_takes : (image : Shown) (c : Core) (k : ℕ) (x : Custody) (a : ℕ) → k < length image.guards → lock_left x.place x.left + a ≤ lock_left (c.custody k).place (c.custody k).left → ((u : ℕ) → is_in_line x.line u ≡ is_in_line (c.custody k).line u)
    → left_of image (with_custody c k x) + a ≤ left_of image c
unfolding left_of
custody_takes image c k x a low here same =
    let enters = enters_same image c k x same in
    let locks = lock_moves image c k x a 0 low (omega (arith, here)) in
    omega (arith, enters, locks)

line_takes : (image : Shown) (c : Core) (k h : ℕ) (x : Custody) (a : ℕ) → k < length image.guards → lock_left x.place x.left + (a + 1) ≤ lock_left (c.custody k).place (c.custody k).left
    → ((u : ℕ) → u ≢ h → is_in_line x.line u ≡ is_in_line (c.custody k).line u) → left_of image (with_custody c k x) + a ≤ left_of image c
unfolding left_of
line_takes image c k h x a low here same =
    let enters = enters_more image c k h x same in
    let locks = lock_moves image c k x (a + 1) 0 low (omega (arith, here)) in
    omega (arith, enters, locks)

-- a thread that is no longer shipped
more_place : (image : Shown) (d : Core) (t : ℕ) (at : ThreadPlace) → t < length image.entries → place_left at ≤ place_left (d.course t).place + 1 → left_of image (with_place d t at) ≤ left_of image d + 1
unfolding left_of
more_place image d t at lt here =
    (let p = place_moves image d t at 0 1 lt (omega arith) in
    let e = ended_place image d t at in
    let n = enters_place image d t at in
    omega (arith, p, e, n))

pass_takes : (image : Shown) (limits : Limits) (c : Core) (w t k run : ℕ) (at : ThreadPlace) → may_pass image limits c w t k ≡ true → t < length image.entries → k < length image.guards → place_left at ≡ 2
    → left_of image (with_place (with_custody c k (record (c.custody k) { place = Granted t; line = rest_of (c.custody k).line; run = run })) t at) + 1 ≤ left_of image c
pass_takes image limits c w t k run at e lt low two =
    let p = passes image limits c w t k e in
    let x : Custody = record (c.custody k) { place = Granted t; line = rest_of (c.custody k).line; run = run } in
    let four = loose_is (c.custody k).place w (c.custody k).left false p.loose p.left in
    let one = waiting_one (c.course t).place k p.waiting in
    let lock : left_of image (with_custody c k x) + 3 ≤ left_of image c =
    line_takes image c k (head_of (c.custody k).line) x 3 low (omega (arith, four)) (λ u ne. rest_in (c.custody k).line u ne) in
    let thread = more_place image (with_custody c k x) t at lt (omega (arith, two, one)) in
    omega (arith, lock, thread)

pub takes : (image : Shown) (limits : Limits) (c : Core) (e : Event) → is_enabled image limits c e ≡ true → left_of image (effect image c e) + (if is_work e then 1 else 0) ≤ left_of image c
unfolding is_enabled effect
takes image limits c (Claim w t) on =
    (let two = claimed_two (c.course t).place (and_parts (is_thread image t) _ (and_parts (is_worker limits w) _ on).1).1 in
    only_place image c t (At w) 0 (known image limits c (Claim w t) on) (omega (arith, two)))
takes image limits c (Turn w t) on = turn_takes image c t (may_turn image limits c w t on)
takes image limits c (Commit w t) on = commit_takes image c w t (known image limits c (Commit w t) on) (and_parts (has_thread image limits c w t) _ on).1
takes image limits c (Enter w t k) on =
    let p = and_parts (has_thread image limits c w t) _ on in let q = and_parts (is_lock image k) _ p.1 in
    let r = and_parts (runs c t) _ q.1 in let s = and_parts (is_between c t) _ r.1 in let u = and_parts _ _ s.1 in
    let numbers = known image limits c (Enter w t k) on in
    enter_takes image c t k numbers.0 numbers.1 (number_is (next_lock image (c.machine.threads t)) k u.0) (not-true _ u.1)
takes image limits c (Take w t k) on =
    let p = and_parts (is_lock image k) _ (and_parts (has_thread image limits c w t) _ on).1 in let q = and_parts (is_first (c.custody k).line t) _ p.1 in
    let one = free_one (c.custody k).place (c.custody k).left q.1 in
    custody_takes image c k (taken_by (c.custody k) t) 1 (known image limits c (Take w t k) on) (omega (arith, one)) (λ u. refl)
takes image limits c (Ship w t k) on =
    let two = at_two (c.course t).place w (thread_at image limits c w t (and_parts (has_thread image limits c w t) _ on).0) in
    only_place image c t (Waiting k) 1 (known image limits c (Ship w t k) on) (omega (arith, two))
takes image limits c (Adopt w t k) on =
    let numbers = known image limits c (Adopt w t k) on in
    pass_takes image limits c w t k ((c.custody k).run + 1) (At w) (and_parts (may_pass image limits c w t k) (adopts limits c k) on).0 numbers.0 numbers.1 refl
takes image limits c (Grant w t k) on =
    let numbers = known image limits c (Grant w t k) on in
    pass_takes image limits c w t k 0 Ready (and_parts (may_pass image limits c w t k) _ on).0 numbers.0 numbers.1 refl
takes image limits c (Leave w k) on =
    let p = and_parts (has_lock image limits c w k) _ on in let q = and_parts _ _ p.1 in
    let four = loose_is (c.custody k).place w (c.custody k).left false (lock_is_loose image limits c w k p.0) (not-true _ q.0) in
    let two = loose_is (c.custody k).place w true true (lock_is_loose image limits c w k p.0) refl in
    line_takes image c k (head_of (c.custody k).line) (left_by_all (c.custody k)) 1 (known image limits c (Leave w k) on) (omega (arith, four, two)) (λ u ne. single_in (c.custody k).line u q.1 ne)
takes image limits c (Free w k) on =
    let p = and_parts (has_lock image limits c w k) _ on in
    let two = loose_is (c.custody k).place w (c.custody k).left true (lock_is_loose image limits c w k p.0) p.1 in
    custody_takes image c k (freed (c.custody k)) 1 (known image limits c (Free w k) on) (omega (arith, two)) (λ u. refl)
takes image limits c (HandBack w t) on =
    let two = at_two (c.course t).place w (thread_at image limits c w t (and_parts (has_thread image limits c w t) _ on).0) in
    only_place image c t Ready 0 (known image limits c (HandBack w t) on) (omega (arith, two))
takes image limits c (Park w t) on =
    let has = (and_parts (has_thread image limits c w t) _ (and_parts (may_go_back image limits c w t) _ on).0).0 in
    let two = at_two (c.course t).place w (thread_at image limits c w t has) in
    only_place image c t Parked 0 (known image limits c (Park w t) on) (omega (arith, two))
takes image limits c (Finish w t) on =
    let two = at_two (c.course t).place w (thread_at image limits c w t (and_parts (has_thread image limits c w t) _ on).0) in
    only_place image c t Done 1 (known image limits c (Finish w t) on) (omega (arith, two))

-- ---- all events

works : (image : Shown) (limits : Limits) (es : List Event) (c : Core) → AreEnabled image limits c es → work_of es + left_of image (after_all image c es) ≤ left_of image c
works image limits [] c on = omega arith
works image limits (e ∷ es) c on = (let r = works image limits es (effect image c e) on.1 in let h = takes image limits c e on.0 in omega arith)

-- turns alone
turns_less : (image : Shown) (limits : Limits) (c : Core) (e : Event) → is_enabled image limits c e ≡ true → turns_sum image (effect image c e).machine + length (turn_of e) ≤ turns_sum image c.machine
unfolding effect
turns_less image limits c (Turn w t) on = (let may = may_turn image limits c w t on in let r = turns_turn image c.machine t (turn_thread image c t may) may.running in omega (arith, r))
turns_less image limits c (Claim w t) on = omega arith
turns_less image limits c (Commit w t) on = omega arith
turns_less image limits c (Enter w t k) on = omega arith
turns_less image limits c (Take w t k) on = omega arith
turns_less image limits c (Ship w t k) on = omega arith
turns_less image limits c (Adopt w t k) on = omega arith
turns_less image limits c (Grant w t k) on = omega arith
turns_less image limits c (Leave w k) on = omega arith
turns_less image limits c (Free w k) on = omega arith
turns_less image limits c (HandBack w t) on = omega arith
turns_less image limits c (Park w t) on = omega arith
turns_less image limits c (Finish w t) on = omega arith

turns_all : (image : Shown) (limits : Limits) (es : List Event) (c : Core) → AreEnabled image limits c es → length (turns_of es) + turns_sum image (after_all image c es).machine ≤ turns_sum image c.machine
turns_all image limits [] c on = omega arith
turns_all image limits (e ∷ es) c on =
    (let r = turns_all image limits es (effect image c e) on.1 in let h = turns_less image limits c e on.0 in let l = length-append (turn_of e) (turns_of es) in omega arith)

-- ---- at the start

first_left : (image : Shown) (fuel : ℕ) → left_of image (first_core image fuel) ≤ 7 * (length image.entries * (fuel + 1)) + 3 * length image.entries + length image.guards
unfolding left_of
first_left image fuel =
    let n = length image.entries in
    let c = first_core image fuel in
    let turns = first_turns image fuel in
    let ended = sums_most (λ u. ended_left (c.course u)) 0 n (λ u. omega arith) in
    let enters = sums_most (λ u. enter_left (next_lock image (c.machine.threads u)) c u) 1 n (λ u. enter_most (next_lock image (c.machine.threads u)) c u) in
    let places = sums_most (λ u. place_left (c.course u).place) 2 n (λ u. omega arith) in
    let locks = sums_most (λ k. lock_left (c.custody k).place (c.custody k).left) 1 (length image.guards) (λ k. omega arith) in
    omega (arith, turns, ended, enters, places, locks)

pub left_in : (s : Story) → work_of s.events + left_of s.image (after_all s.image (first_core s.image s.fuel) s.events) ≤ most_work s
left_in s = (let r = works s.image s.limits s.events (first_core s.image s.fuel) s.enabled in let f = first_left s.image s.fuel in omega arith)

pub is_bounded : (s : Story) → IsBounded s
is_bounded s = record {
  turns = (let r = turns_all s.image s.limits s.events (first_core s.image s.fuel) s.enabled in let f = first_turns s.image s.fuel in omega arith);
  work = (let r = left_in s in omega arith);
}
