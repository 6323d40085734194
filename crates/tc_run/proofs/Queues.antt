-- Lists of turns: what each call of a line makes of the turns, the tail and the links. Nothing here speaks of a hall.
use Rattle.std.proofs.Common.{◌≡◌, ◌≢◌, ◌⊎◌, inl, inr, ℕ, zero, suc, ◌==◌, ◌||◌, ◌&&◌, Bool, true, false, cond, if◌then◌else◌, List, [], ◌∷◌, ◌++◌, refl, sym, ap, ◌∙◌, Option, Some, None, eqb-true, eq-eqb}
use mathlib.Core.Option.{some, some-injective, some-ne-none}
use lib.ListN.{get_elem?}
use Rattle.tc_queue.specs.declared.turn.Turn.{Turn}
use Rattle.tc_queue.specs.declared.turn.Entered.TheVariants.{First, Behind}
use Rattle.tc_queue.specs.declared.turn.Leave.TheVariants.{Left, Followed}
use Rattle.tc_queue.specs.declared.turn.QueueCall.TheVariants.{Link}
use Rattle.tc_queue.specs.declared.words.Linked.{Linked}
use Rattle.tc_queue.specs.Calls.{answer_to_enter, answer_to_leave, answer_to_next, is_last, tail_without}
use Rattle.tc_queue.specs.Order.{Plain, plain_after}
use Rattle.tc_core.specs.Lines.{is_first, is_in_line, rest_of}
use Rattle.tc_told.proofs.Standing.{Once}
use Rattle.tc_run.specs.Run.{last_turn_of, threads_of, without_first}
use Rattle.tc_run.proofs.Agree.{AreLinked, IsIn}
use Rattle.tc_queue.proofs.Orders.{answered}

or_right : (a b : Bool) → b ≡ true → (a || b) ≡ true
or_right true b h = refl
or_right false b h = h

pub turn_in_line : (us : List Turn) (n : ℕ) (u : Turn) → get_elem? us n ≡ some u → is_in_line (threads_of us) u.thread ≡ true
turn_in_line [] n u e = absurd (some-ne-none u (sym e))
turn_in_line (x ∷ us) zero u e = ap (λ (b : Bool). b || is_in_line (threads_of us) u.thread) (eq-eqb x.thread u.thread (ap (λ (z : Turn). z.thread) (some-injective x u e)))
turn_in_line (x ∷ us) (suc n) u e = or_right (x.thread == u.thread) (is_in_line (threads_of us) u.thread) (turn_in_line us n u e)

never : (y : Turn) (us : List Turn) (m : ℕ) (x : Turn) → Once (threads_of (y ∷ us)) → get_elem? us m ≡ some x → y.thread ≡ x.thread → ⊥
never y us m x once f same = (let g : false ≡ true = sym once.0 ∙ (ap (is_in_line (threads_of us)) same ∙ turn_in_line us m x f) in let n : ⊥ = cc g in n)

last_some : (u : Turn) (us : List Turn) → (x : Turn) × (last_turn_of (u ∷ us) ≡ Some x)
last_some u [] = (u, refl)
last_some u (v ∷ us) = last_some v us

-- ---- links

pub linked_enter : (links : ℕ → Option Linked) (us : List Turn) (u : Turn) → AreLinked links us → ((l : Linked) → links u.thread ≡ Some l → l.before ≢ u.number) → AreLinked links (us ++ u ∷ [])
linked_enter links [] u is new = new
linked_enter links (x ∷ []) u is new = ((λ l e f. absurd (is l e f)), new)
linked_enter links (x ∷ y ∷ us) u is new = (is.0, linked_enter links (y ∷ us) u is.1 new)

turn_same : (w b : Turn) → w.thread ≡ b.thread → w.number ≡ b.number → w ≡ b
turn_same w b e f = λ i. record { thread = e i; number = f i }

linked_same : (a b : Linked) → Some a ≡ Some b → a ≡ b
linked_same a b e = cc e

pub linked_link : (q : Plain) (us : List Turn) (b u : Turn) → AreLinked q.links us → ((n : ℕ) → get_elem? us n ≡ some b → get_elem? us (suc n) ≡ some u) → AreLinked (plain_after q (Link b u)).links us
linked_link q [] b u is behind = tt
linked_link q (w ∷ []) b u is behind = by (w.thread == b.thread) refl
  where
    by : (v : Bool) → (w.thread == b.thread) ≡ v → (l : Linked) → cond v (Some (record { before = b.number; behind = u })) (q.links w.thread) ≡ Some l → l.before ≢ w.number
    by true same l e f = (let g : b.number ≡ l.before = ap (λ (z : Linked). z.before) (linked_same (record { before = b.number; behind = u }) l e) in absurd (some-ne-none u (sym (behind 0 (ap (λ (z : Turn). some z) (turn_same w b (eqb-true w.thread b.thread same) (sym (g ∙ f))))))))
    by false other l e f = is l e f
linked_link q (w ∷ x ∷ us) b u is behind = (by (w.thread == b.thread) refl, linked_link q (x ∷ us) b u is.1 (λ n e. behind (suc n) e))
  where
    by : (v : Bool) → (w.thread == b.thread) ≡ v → (l : Linked) → cond v (Some (record { before = b.number; behind = u })) (q.links w.thread) ≡ Some l → l.before ≡ w.number → l.behind ≡ x
    by true same l e f =
        let it : record { before = b.number; behind = u } ≡ l = linked_same (record { before = b.number; behind = u }) l e in
        let g : b.number ≡ l.before = ap (λ (z : Linked). z.before) it in
        sym (ap (λ (z : Linked). z.behind) it) ∙ sym (some-injective x u (behind 0 (ap (λ (z : Turn). some z) (turn_same w b (eqb-true w.thread b.thread same) (sym (g ∙ f))))))
    by false other l e f = is.0 l e f

pub linked_rest : (links : ℕ → Option Linked) (us : List Turn) → AreLinked links us → AreLinked links (without_first us)
linked_rest links [] is = tt
linked_rest links (u ∷ []) is = tt
linked_rest links (u ∷ x ∷ us) is = is.1

-- whom `next` answers for the first is the second
pub next_is_second : (links : ℕ → Option Linked) (us : List Turn) (own x : Turn) → AreLinked links us → get_elem? us 0 ≡ some own → answer_to_next own (links own.thread) ≡ Some x → get_elem? us 1 ≡ some x
next_is_second links [] own x is first answer = absurd (some-ne-none own (sym first))
next_is_second links (u ∷ []) own x is first answer =
    let same : u ≡ own = some-injective u own first in
    let a = answered own (links own.thread) x answer in
    absurd (is a.0 (ap (λ (z : Turn). links z.thread) same ∙ a.1) (a.2 ∙ sym (ap (λ (z : Turn). z.number) same)))
next_is_second links (u ∷ y ∷ us) own x is first answer =
    let same : u ≡ own = some-injective u own first in
    let a = answered own (links own.thread) x answer in
    let behind : a.0.behind ≡ y = is.0 a.0 (ap (λ (z : Turn). links z.thread) same ∙ a.1) (a.2 ∙ sym (ap (λ (z : Turn). z.number) same)) in
    ap (λ (z : Turn). some z) (sym behind ∙ a.3)

-- ---- the tail

last_at : (v : Turn) (us : List Turn) (y : Turn) → last_turn_of (v ∷ us) ≡ Some y → (n : ℕ) × (get_elem? (v ∷ us) n ≡ some y)
last_at v [] y e = (0, ap (λ (z : Turn). some z) (let f : v ≡ y = cc e in f))
last_at v (w ∷ us) y e = (let r = last_at w us y e in (suc r.0, r.1))

abbrev thread_is : (own : Turn) → Option Turn → Type 0
thread_is own None = ⊥
thread_is own (Some y) = y.thread ≡ own.thread

leaves : (own : Turn) (tail : Option Turn) → answer_to_leave own tail ≡ Left → thread_is own tail
leaves own None e = absurd (cc e)
leaves own (Some y) e = by (y.thread == own.thread) (y.number == own.number) refl e
  where
    by : (a b : Bool) → (y.thread == own.thread) ≡ a → cond (a && b) Left (Followed (Some y)) ≡ Left → y.thread ≡ own.thread
    by true b same f = eqb-true y.thread own.thread same
    by false b other f = absurd (cc f)

-- a first that leaves as the last was alone
pub left_is_single : (us : List Turn) (tail : Option Turn) (own : Turn) → tail ≡ last_turn_of us → Once (threads_of us) → get_elem? us 0 ≡ some own → answer_to_leave own tail ≡ Left → us ≡ own ∷ []
left_is_single [] tail own is once first answer = absurd (some-ne-none own (sym first))
left_is_single (u ∷ []) tail own is once first answer = ap (λ (z : Turn). z ∷ []) (some-injective u own first)
left_is_single (u ∷ v ∷ us) tail own is once first answer =
    let y = last_some v us in
    let last = leaves own (Some y.0) (ap (answer_to_leave own) (sym (is ∙ y.1)) ∙ answer) in
    let at = last_at v us y.0 y.1 in
    absurd (never u (v ∷ us) at.0 y.0 once at.1 (ap (λ (z : Turn). z.thread) (some-injective u own first) ∙ sym last))

pub first_enters : (us : List Turn) (tail : Option Turn) → tail ≡ last_turn_of us → answer_to_enter tail ≡ First → us ≡ []
first_enters [] tail is answer = refl
first_enters (u ∷ us) tail is answer = (let some_one = last_some u us in let n : ⊥ = cc (ap answer_to_enter (sym some_one.1 ∙ sym is) ∙ answer) in absurd n)

pub behind_enters : (us : List Turn) (tail : Option Turn) (b : Turn) → tail ≡ last_turn_of us → answer_to_enter tail ≡ Behind b → (front : List Turn) × (us ≡ front ++ b ∷ [])
behind_enters us tail b is answer = last_split us b (sym is ∙ tail_is tail answer)
  where
    tail_is : (o : Option Turn) → answer_to_enter o ≡ Behind b → o ≡ Some b
    tail_is None e = absurd (cc e)
    tail_is (Some x) e = ap (λ (z : Turn). Some z) (let f : x ≡ b = cc e in f)

    last_split : (us : List Turn) (b : Turn) → last_turn_of us ≡ Some b → (front : List Turn) × (us ≡ front ++ b ∷ [])
    last_split [] b e = absurd (cc e)
    last_split (u ∷ []) b e = ([], ap (λ (z : Turn). z ∷ []) (let f : u ≡ b = cc e in f))
    last_split (u ∷ v ∷ us) b e = (let r = last_split (v ∷ us) b e in (u ∷ r.0, ap (λ (z : List Turn). u ∷ z) r.1))

pub last_enter : (us : List Turn) (u : Turn) → last_turn_of (us ++ u ∷ []) ≡ Some u
last_enter [] u = refl
last_enter (x ∷ []) u = refl
last_enter (x ∷ y ∷ us) u = last_enter (y ∷ us) u

-- ---- places

pub turn_first : (us : List Turn) (u : Turn) → get_elem? us 0 ≡ some u → is_first (threads_of us) u.thread ≡ true
turn_first [] u e = absurd (some-ne-none u (sym e))
turn_first (x ∷ us) u e = eq-eqb x.thread u.thread (ap (λ (z : Turn). z.thread) (some-injective x u e))

pub turn_later : (us : List Turn) (n : ℕ) (u : Turn) → Once (threads_of us) → get_elem? us (suc n) ≡ some u → is_first (threads_of us) u.thread ≡ false
turn_later [] n u once e = absurd (some-ne-none u (sym e))
turn_later (x ∷ us) n u once e = by (x.thread == u.thread) refl
  where
    by : (b : Bool) → (x.thread == u.thread) ≡ b → b ≡ false
    by false is = refl
    by true is = (let f : false ≡ true = sym once.0 ∙ (ap (is_in_line (threads_of us)) (eqb-true x.thread u.thread is) ∙ turn_in_line us n u e) in let n : ⊥ = cc f in absurd n)

-- a thread has one place
pub one_place : (us : List Turn) (n m : ℕ) (u x : Turn) → Once (threads_of us) → get_elem? us n ≡ some u → get_elem? us m ≡ some x → u.thread ≡ x.thread → (n ≡ m) × (u ≡ x)
one_place [] n m u x once e f same = absurd (some-ne-none u (sym e))
one_place (y ∷ us) zero zero u x once e f same = (refl, sym (some-injective y u e) ∙ some-injective y x f)
one_place (y ∷ us) zero (suc m) u x once e f same = absurd (never y us m x once f (ap (λ (z : Turn). z.thread) (some-injective y u e) ∙ same))
one_place (y ∷ us) (suc n) zero u x once e f same = absurd (never y us n u once e (ap (λ (z : Turn). z.thread) (some-injective y x f) ∙ sym same))
one_place (y ∷ us) (suc n) (suc m) u x once e f same = (let r = one_place us n m u x once.1 e f same in (ap suc r.0, r.1))

-- ---- a list with one more at its end, and without its first

pub get_front : (us vs : List Turn) (n : ℕ) (x : Turn) → get_elem? us n ≡ some x → get_elem? (us ++ vs) n ≡ some x
get_front [] vs n x e = absurd (some-ne-none x (sym e))
get_front (u ∷ us) vs zero x e = e
get_front (u ∷ us) vs (suc n) x e = get_front us vs n x e

pub get_last : (us : List Turn) (u : Turn) (n : ℕ) (x : Turn) → get_elem? (us ++ u ∷ []) n ≡ some x → (get_elem? us n ≡ some x) ⊎ (u ≡ x)
get_last [] u zero x e = inr (some-injective u x e)
get_last [] u (suc n) x e = absurd (some-ne-none x (sym e))
get_last (y ∷ us) u zero x e = inl e
get_last (y ∷ us) u (suc n) x e = get_last us u n x e

pub get_end : (us : List Turn) (u : Turn) → IsIn (us ++ u ∷ []) u
get_end [] u = (0, refl)
get_end (y ∷ us) u = (let g = get_end us u in (suc g.0, g.1))

pub last_next : (front : List Turn) (b u : Turn) → (n : ℕ) × (get_elem? (front ++ b ∷ []) n ≡ some b) × (get_elem? ((front ++ b ∷ []) ++ u ∷ []) (suc n) ≡ some u)
last_next [] b u = (0, refl, refl)
last_next (y ∷ front) b u = (let g = last_next front b u in (suc g.0, g.1, g.2))

pub in_back : (gone us : List Turn) (n : ℕ) (x : Turn) → get_elem? us n ≡ some x → IsIn (gone ++ us) x
in_back [] us n x e = (n, e)
in_back (y ∷ gone) us n x e = (let g = in_back gone us n x e in (suc g.0, g.1))

pub threads_more : (us : List Turn) (u : Turn) → threads_of (us ++ u ∷ []) ≡ threads_of us ++ u.thread ∷ []
threads_more [] u = refl
threads_more (y ∷ us) u = ap (λ (z : List ℕ). y.thread ∷ z) (threads_more us u)

pub threads_rest : (us : List Turn) → rest_of (threads_of us) ≡ threads_of (without_first us)
threads_rest [] = refl
threads_rest (u ∷ us) = refl

pub last_rest : (us : List Turn) (y : Turn) → get_elem? us 1 ≡ some y → last_turn_of us ≡ last_turn_of (without_first us)
last_rest [] y e = absurd (some-ne-none y (sym e))
last_rest (u ∷ []) y e = absurd (some-ne-none y (sym e))
last_rest (u ∷ x ∷ us) y e = refl

pub get_rest : (us : List Turn) (n : ℕ) → get_elem? (without_first us) n ≡ get_elem? us (suc n)
get_rest [] n = refl
get_rest (u ∷ us) n = refl

pub leave_none : (u : Turn) (tail : Option Turn) → answer_to_leave u tail ≡ Left → tail_without u tail ≡ None
leave_none u tail e = by (is_last u tail) e
  where
    by : (b : Bool) → (if b then Left else Followed tail) ≡ Left → (if b then None else tail) ≡ None
    by true f = refl
    by false f = absurd (cc f)
