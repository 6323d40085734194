-- Runs are folds, and histories grow at their end.
use Rattle.std.proofs.Common.{◌≡◌, ℕ, zero, suc, ◌+◌, ◌-◌, ◌<◌, ◌≤◌, ◌&&◌, nat_lt, length, Bool, true, false, List, [], ◌∷◌, ◌++◌, replicate, refl, sym, ap, subst, ◌∙◌, arith, append_assoc, append-nil}
use Rattle.std.specs.Prelude.{Option, Some, None, option_and_then}
use Rattle.std.proofs.lemmas.Bool.Decides.{nat_tests}
use Rattle.std.proofs.lemmas.List.{replicate_more, replicate-append-replicate}
use Rattle.tc_elf.specs.Shown.{Shown}
use Rattle.tc_journal.specs.declared.block.Block.{Block}
use Rattle.tc_mutex_spec.specs.Machine.{State, can_turn, is_open, after, turn, turns, run_from, spread}
use Rattle.tc_turn.specs.Turn.{is_running, next_lock}
use Rattle.tc_mutex_spec.specs.Blocks.{reach, Stands, TellsAfter}
use Rattle.tc_journal.specs.History.{schedule}

and_then_assoc : {A B C : Type 0} (o : Option A) (f : A → Option B) (g : B → Option C) → option_and_then g (option_and_then f o) ≡ option_and_then (λ x. option_and_then g (f x)) o
and_then_assoc None f g = refl
and_then_assoc (Some x) f g = refl

pub turns-append : (image : Shown) (m : State) (a b : List ℕ) → turns image m (a ++ b) ≡ option_and_then (λ n. turns image n b) (turns image m a)
turns-append image m [] b = refl
turns-append image m (t ∷ ts) b =
    let step : (λ (n : State). turns image n (ts ++ b)) ≡ (λ n. option_and_then (λ k. turns image k b) (turns image n ts)) = (λ i n. turns-append image n ts b i) in
    ap (λ f. option_and_then f (turn image m t)) step ∙ sym (and_then_assoc (turn image m t) (λ n. turns image n ts) (λ k. turns image k b))

pub run_from-is-turns : (image : Shown) (m : State) (pairs : List (ℕ × ℕ)) → run_from image m pairs ≡ turns image m (spread pairs)
run_from-is-turns image m [] = refl
run_from-is-turns image m (p ∷ ps) =
    let step : (λ (n : State). run_from image n ps) ≡ (λ n. turns image n (spread ps)) = (λ i n. run_from-is-turns image n ps i) in
    ap (λ f. option_and_then f (turns image m (replicate p.1 p.0))) step ∙ sym (turns-append image m (replicate p.1 p.0) (spread ps))

pub run_from-append : (image : Shown) (m : State) (a b : List (ℕ × ℕ)) → run_from image m (a ++ b) ≡ option_and_then (λ n. run_from image n b) (run_from image m a)
run_from-append image m [] b = refl
run_from-append image m (p ∷ ps) b =
    let step : (λ (n : State). run_from image n (ps ++ b)) ≡ (λ n. option_and_then (λ k. run_from image k b) (run_from image n ps)) = (λ i n. run_from-append image n ps b i) in
    ap (λ f. option_and_then f (turns image m (replicate p.1 p.0))) step ∙ sym (and_then_assoc (turns image m (replicate p.1 p.0)) (λ n. run_from image n ps) (λ k. run_from image k b))

pub turn-defined : (image : Shown) (m : State) (t : ℕ) → can_turn image m t ≡ true → turn image m t ≡ Some (after image m t)
unfolding turn
turn-defined image m t h = rw h refl

-- n turns of one thread, each defined
pub turns-reach : (image : Shown) (m : State) (t n : ℕ) → ((k : ℕ) → k < n → can_turn image (reach image m t k) t ≡ true) → turns image m (replicate n t) ≡ Some (reach image m t n)
turns-reach image m t zero h = refl
turns-reach image m t (suc n) h =
    let more : replicate (suc n) t ≡ replicate n t ++ t ∷ [] = (let e : suc n ≡ n + 1 = omega arith in ap (λ x. replicate x t) e ∙ sym (replicate_more n t)) in
    ap (turns image m) more ∙ turns-append image m (replicate n t) (t ∷ [])
    ∙ ap (option_and_then (λ x. turns image x (t ∷ []))) (turns-reach image m t n (λ k lt. h k (omega arith)))
    ∙ ap (option_and_then (λ x. turns image x [])) (turn-defined image (reach image m t n) t (h n (omega arith)))

pub tells-more : (image : Shown) (seen h : List Block) (from m last : State) (b : Block) → TellsAfter image seen from h m → Stands image (seen ++ h) m b last → TellsAfter image seen from (h ++ b ∷ []) last
tells-more image seen [] from m last b told stands =
    (last, subst (λ x. Stands image seen x b last) (sym told) (rw append-nil at stands), refl)
tells-more image seen (x ∷ h) from m last b told stands =
    (told.0, told.1, tells-more image (seen ++ x ∷ []) h told.0 m last b told.2 (subst (λ s. Stands image s m b last) (sym (append_assoc seen (x ∷ []) h)) stands))

pub tells-run : (image : Shown) (seen h : List Block) (from m : State) → TellsAfter image seen from h m → run_from image from (schedule h) ≡ Some m
tells-run image seen [] from m told = ap Some told
tells-run image seen (b ∷ h) from m told =
    let runs = told.1.runs in
    ap (option_and_then (λ n. run_from image n (schedule h))) (turns-reach image from b.thread b.turns runs.defined ∙ ap Some (sym runs.last))
    ∙ tells-run image (seen ++ b ∷ []) h told.0 m told.2

turn-stuck : (image : Shown) (m : State) (t : ℕ) → can_turn image m t ≡ false → turn image m t ≡ None
unfolding turn
turn-stuck image m t h = rw h refl

-- one turn more of a thread
pub turns-more : (image : Shown) (m s : State) (t n : ℕ) → turns image m (replicate n t) ≡ Some s → can_turn image s t ≡ true → turns image m (replicate (n + 1) t) ≡ Some (after image s t)
turns-more image m s t n ran can =
    ap (turns image m) (sym (replicate_more n t)) ∙ turns-append image m (replicate n t) (t ∷ [])
    ∙ ap (option_and_then (λ x. turns image x (t ∷ []))) ran
    ∙ ap (option_and_then (λ x. turns image x [])) (turn-defined image s t can)

-- a turn that isn't there leaves the whole undefined
pub turns-stuck : (image : Shown) (m s : State) (t n count : ℕ) → turns image m (replicate n t) ≡ Some s → can_turn image s t ≡ false → n < count → turns image m (replicate count t) ≡ None
turns-stuck image m s t n count ran stuck lt =
    let e : n + suc (count - (n + 1)) ≡ count = omega arith in
    ap (λ j. turns image m (replicate j t)) (sym e)
    ∙ ap (turns image m) (sym (replicate-append-replicate n (suc (count - (n + 1))) t))
    ∙ turns-append image m (replicate n t) (replicate (suc (count - (n + 1))) t)
    ∙ ap (option_and_then (λ x. turns image x (replicate (suc (count - (n + 1))) t))) ran
    ∙ ap (option_and_then (λ x. turns image x (replicate (count - (n + 1)) t))) (turn-stuck image s t stuck)

-- where the turns of one thread are defined, they lead to what they reach
pub turns-led : (image : Shown) (m s : State) (t n : ℕ) → turns image m (replicate n t) ≡ Some s → s ≡ reach image m t n
turns-led image m s t zero e = (let is : m ≡ s = cc in sym is)
turns-led image m s t (suc n) e = go (λ x. turns-led image m x t n) (turns image m (replicate n t)) refl (sym (ap (turns image m) more ∙ turns-append image m (replicate n t) (t ∷ [])) ∙ e)
  where
    more : replicate (suc n) t ≡ replicate n t ++ t ∷ []
    more = (let e : suc n ≡ n + 1 = omega arith in ap (λ x. replicate x t) e ∙ sym (replicate_more n t))

    last : (x : State) (b : Bool) → can_turn image x t ≡ b → option_and_then (λ y. turns image y []) (turn image x t) ≡ Some s → s ≡ after image x t
    last x true can e = (let is : Some (after image x t) ≡ Some s = sym (ap (option_and_then (λ y. turns image y [])) (turn-defined image x t can)) ∙ e in cc)
    last x false can e = absurd (let no : None ≡ Some s = sym (ap (option_and_then (λ y. turns image y [])) (turn-stuck image x t can)) ∙ e in cc)

    go : ((x : State) → turns image m (replicate n t) ≡ Some x → x ≡ reach image m t n) → (o : Option State) → turns image m (replicate n t) ≡ o → option_and_then (λ x. turns image x (t ∷ [])) o ≡ Some s → s ≡ after image (reach image m t n) t
    go led None is e = absurd (cc)
    go led (Some x) is e = last x (can_turn image x t) refl e ∙ ap (λ y. after image y t) (led x is)

-- no turn of a thread that is none is defined
pub no_thread-stuck : (image : Shown) (m : State) (t count : ℕ) → length image.entries ≤ t → 1 ≤ count → turns image m (replicate count t) ≡ None
unfolding can_turn
no_thread-stuck image m t count none some =
    let past : nat_lt t (length image.entries) ≡ false = grind (arith, nat_tests) in
    turns-stuck image m m t 0 count refl (ap (λ b. b && (is_running (m.threads t).status && is_open (next_lock image (m.threads t)) m.locks)) past) some
