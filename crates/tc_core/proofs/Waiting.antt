-- Who has entered a line is passed by nobody: so each other thread is given the lock once at most before it.
use Rattle.std.proofs.Common.{◌≡◌, ◌⊎◌, ℕ, ◌-◌, ◌<◌, true, false, ◌||◌, ◌==◌, List, [], ◌∷◌, ◌++◌, length, refl, sym, ap, subst, ◌∙◌, append_assoc, arith, inl, inr}
use Rattle.std.specs.Prelude.{nat_eq}
use Rattle.std.specs.List.{IsDistinct, AllByRecursion}
use Rattle.std.proofs.lemmas.Bool.{or_parts}
use Rattle.std.proofs.lemmas.List.{append_cancel_left}
use Rattle.tc_core.specs.declared.event.Event.{Event}
use Rattle.tc_core.specs.declared.event.Event.TheVariants.{Enter}
use Rattle.tc_core.specs.Lines.{is_in_line, rest_of, IsFrontOf}
use Rattle.tc_core.specs.Core.{first_core}
use Rattle.tc_core.specs.View.{IsLine}
use Rattle.tc_core.specs.Stories.{AreEnabled, Story, after_all, locks_by, enters_of, enter_of, grants_of, grant_of}
use Rattle.tc_core.specs.Alive.{Wait, IsBrief}
use Rattle.tc_core.proofs.Quiet.{pick_mine}
use Rattle.tc_core.proofs.Known.{known}
use Rattle.tc_core.proofs.Numbers.{line_rest, line_room}
use Rattle.tc_core.proofs.Served.{Owed, owed, served_after, in_order}
use Rattle.tc_core.proofs.Lines.{first_lines, lines_all, enabled_front, enabled_back}
use Rattle.tc_lemmas.proofs.Tests.{eq_self}

-- ---- lists

-- what comes before t in a list is a front of what stands before t there
before_it : (g r rest n : List ℕ) (t : ℕ) → g ++ rest ≡ r ++ t ∷ n → is_in_line g t ≡ false → IsFrontOf g r
before_it [] r rest n t e out = (r, refl)
before_it (x ∷ g) [] rest n t e out =
    absurd (let h : x ≡ t = cc in let f : (t == t) ≡ false = (ap (λ u. u == t) (sym h) ∙ (or_parts (x == t) (is_in_line g t) out).0) in let y = eq_self t in cc)
before_it (x ∷ g) (y ∷ r) rest n t e out =
    let h : x ≡ y = cc in
    let tail : g ++ rest ≡ r ++ t ∷ n = cc in
    let q = before_it g r rest n t tail (or_parts (x == t) (is_in_line g t) out).1 in
    (q.0, (λ i. h i ∷ q.1 i))

grants_append : (lock : ℕ) (xs ys : List Event) → grants_of lock (xs ++ ys) ≡ grants_of lock xs ++ grants_of lock ys
grants_append lock [] ys = refl
grants_append lock (x ∷ xs) ys = ap (λ l. grant_of lock x ++ l) (grants_append lock xs ys) ∙ sym (append_assoc (grant_of lock x) (grants_of lock xs) (grants_of lock ys))

enters_append : (lock : ℕ) (xs ys : List Event) → enters_of lock (xs ++ ys) ≡ enters_of lock xs ++ enters_of lock ys
enters_append lock [] ys = refl
enters_append lock (x ∷ xs) ys = ap (λ l. enter_of lock x ++ l) (enters_append lock xs ys) ∙ sym (append_assoc (enter_of lock x) (enters_of lock xs) (enters_of lock ys))

-- a front of a line
differ_front : (u : ℕ) (xs ys : List ℕ) → AllByRecursion (λ y. nat_eq u y ≡ false) (xs ++ ys) → AllByRecursion (λ y. nat_eq u y ≡ false) xs
differ_front u [] ys all = tt
differ_front u (x ∷ xs) ys all = (all.0, differ_front u xs ys all.1)

distinct_front : (xs ys : List ℕ) → IsDistinct nat_eq (xs ++ ys) → IsDistinct nat_eq xs
unfolding IsDistinct
distinct_front [] ys once = tt
distinct_front (x ∷ xs) ys once = (differ_front x xs ys once.0, distinct_front xs ys once.1)

in_front : (xs ys : List ℕ) (t : ℕ) → is_in_line xs t ≡ true → is_in_line (xs ++ ys) t ≡ true
in_front [] ys t e = absurd (cc)
in_front (x ∷ xs) ys t e = elim (x == t) as (λ b. (b || is_in_line xs t) ≡ true → (b || is_in_line (xs ++ ys) t) ≡ true) [ true ↦ λ h. refl | false ↦ λ h. in_front xs ys t h ] e

length_front : (xs ys : List ℕ) (n : ℕ) → length (xs ++ ys) < n → length xs < n
length_front [] [] n lt = lt
length_front [] (y ∷ ys) n lt = omega arith
length_front (x ∷ xs) ys n lt = (let rec : length xs < n - 1 = length_front xs ys (n - 1) (omega arith) in omega arith)

pub in_rest : (line : List ℕ) (t : ℕ) → is_in_line (rest_of line) t ≡ true → is_in_line line t ≡ true
in_rest [] t e = e
in_rest (u ∷ us) t e = elim (u == t) as (λ b. (b || is_in_line us t) ≡ true) [ true ↦ refl | false ↦ e ]

out_rest : (line : List ℕ) (t : ℕ) → is_in_line line t ≡ false → is_in_line (rest_of line) t ≡ false
out_rest [] t e = e
out_rest (u ∷ us) t e = (or_parts (u == t) (is_in_line us t) e).1

-- ---- the wait

-- what is owed at the Enter
record Due (n : ℕ) (line rest : List ℕ) (t : ℕ) : Type 0 where
  is : IsLine n rest
  out : is_in_line rest t ≡ false
  inside : (u : ℕ) → is_in_line rest u ≡ true → is_in_line line u ≡ true

due : (n : ℕ) (line rest : List ℕ) (t : ℕ) → (rest ≡ line) ⊎ (rest ≡ rest_of line) → IsLine n line → is_in_line line t ≡ false → Due n line rest t
due n line rest t (inl e) is out = subst (λ r. Due n line r t) (sym e) (record { is = is; out = out; inside = λ u h. h })
due n line rest t (inr e) is out = subst (λ r. Due n line r t) (sym e) (record { is = line_rest n line is; out = out_rest line t out; inside = λ u h. in_rest line u h })

pub is_brief : (s : Story) (w : Wait s) → IsBrief s w
is_brief s w =
    let image = s.image in
    let first = first_core image s.fuel in
    let n = length image.entries in
    let lock = w.lock in
    let t = w.thread in
    let later : List Event = Enter w.worker t lock ∷ w.since in
    let on : AreEnabled image s.limits first (w.before ++ later) = subst (AreEnabled image s.limits first) w.all s.enabled in
    let on_before = enabled_front image s.limits w.before later first on in
    let c = after_all image first w.before in
    let on_enter = (enabled_back image s.limits w.before later first on).0 in
    let numbers = known image s.limits c (Enter w.worker t lock) on_enter in
    let is : IsLine n (c.custody lock).line = lines_all image s.limits w.before first (first_lines image s.fuel) on_before lock in
    let o : Owed (c.custody lock) (grants_of lock w.before) (enters_of lock w.before) =
    owed (c.custody lock) (grants_of lock w.before) (locks_by image lock first w.before) (enters_of lock w.before)
    (served_after image s.limits lock w.before first [] [] [] (record { gone = []; all = refl; stage = (refl, refl, refl) }) on_before) in
    let d = due n (c.custody lock).line o.rest t o.line is numbers.2 in
    let order : IsFrontOf (grants_of lock s.events) (enters_of lock s.events) = (in_order s lock).0 in
    let g = grants_of lock w.since in
    let all : grants_of lock w.before ++ (g ++ order.0) ≡ grants_of lock w.before ++ (o.rest ++ t ∷ enters_of lock w.since) =
    sym (append_assoc (grants_of lock w.before) g order.0)
    ∙ ap (λ l. l ++ order.0) (sym (grants_append lock w.before later) ∙ ap (grants_of lock) (sym w.all))
    ∙ order.1
    ∙ ap (enters_of lock) w.all
    ∙ enters_append lock w.before later
    ∙ ap (λ l. enters_of lock w.before ++ (l ++ enters_of lock w.since)) (pick_mine lock (t ∷ []) [])
    ∙ ap (λ l. l ++ t ∷ enters_of lock w.since) (sym o.all)
    ∙ append_assoc (grants_of lock w.before) o.rest (t ∷ enters_of lock w.since) in
    let f : IsFrontOf g o.rest = before_it g o.rest order.0 (enters_of lock w.since) t (append_cancel_left (grants_of lock w.before) _ _ all) w.waits in
    let room : length o.rest < n = line_room n t o.rest d.is numbers.0 d.out in
    record {
      once = distinct_front g f.0 (subst (IsDistinct nat_eq) (sym f.1) (let x = d.is in x.once));
      ahead = λ u h. d.inside u (subst (λ l. is_in_line l u ≡ true) f.1 (in_front g f.0 u h));
      few = length_front g f.0 n (subst (λ l. length l < n) (sym f.1) room);
    }
