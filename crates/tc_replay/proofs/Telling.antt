-- Histories whose blocks are right are those that tell a run, obey the batch limit and have workers below the number.
use Rattle.std.proofs.Common.{◌≡◌, ℕ, ◌-◌, ◌<◌, Bool, true, false, ◌⊎◌, List, [], ◌∷◌, ◌++◌, refl, sym, ap, subst, ◌∙◌, arith, append_assoc, append-nil, inl, inr}
use Rattle.std.specs.Prelude.{Option, Some, None, All}
use Rattle.std.proofs.lemmas.List.Elements.{filter-append, All-nil, All-cons, All-head, All-tail}
use Rattle.tc_journal.proofs.Batching.{of_lock-more}
use Rattle.tc_isa.specs.Sets.{has}
use Rattle.tc_isa.specs.declared.options.Options.{Options as Terms}
use Rattle.tc_elf.specs.Shown.{Shown}
use Rattle.tc_journal.specs.Batch.{may_follow, Obeys, ObeysAfter}
use Rattle.tc_journal.specs.History.{of_lock}
use Rattle.tc_journal.specs.declared.block.Block.{Block}
use Rattle.tc_journal.specs.declared.block.End.{End}
use Rattle.tc_turn.specs.Turn.{is_running, next_lock}
use Rattle.tc_mutex_spec.specs.Machine.{State, start}
use Rattle.tc_mutex_spec.specs.Blocks.{reach, end_at, Runs, Stands, TellsAfter, led_to, end_after}
use Rattle.tc_mutex_spec.proofs.Holds.{can_thread, can_open, open_none}
use Rattle.tc_mutex_spec.proofs.Replaying.{turn_runs}
use Rattle.tc_replay.specs.Rejected.{IsRight, AreRightAfter, IsAccepted, IsCompleteRun}

-- ---- a thread has one block

none_some : (o : Option End) (e : End) → o ≡ None → o ≡ Some e → ⊥
none_some o e a b = cc (a, b)

-- the earlier of two ends is no turn in the middle of a block
no_end : (image : Shown) (m to other : State) (t n k : ℕ) (e f : End) → Runs image m t n e to → Runs image m t k f other → n < k → ⊥
no_end image m to other t n k e f one two lt =
    none_some (end_at image m t (n - 1)) e (two.before (n - 1) (omega (arith, one.some, lt))) (one.ends (n - 1) (omega (arith, one.some)))

-- so its turns and its end are determined
pub runs_one : (image : Shown) (m to other : State) (t n k : ℕ) (e f : End) → Runs image m t n e to → Runs image m t k f other → (n ≡ k) × (e ≡ f) × (to ≡ other)
runs_one image m to other t n k e f one two = go (cases n k)
  where
    cases : (a b : ℕ) → (a < b) ⊎ ((b < a) ⊎ (a ≡ b))
    cases a b = grind arith

    go : (n < k) ⊎ ((k < n) ⊎ (n ≡ k)) → (n ≡ k) × (e ≡ f) × (to ≡ other)
    go (inl lt) = absurd (no_end image m to other t n k e f one two lt)
    go (inr (inl gt)) = absurd (no_end image m other to t k n f e two one gt)
    go (inr (inr same)) =
        let x = one.ends (n - 1) (omega (arith, one.some)) in
        let y = two.ends (n - 1) (omega (arith, one.some, same)) in
        let ends : Some e ≡ Some f = sym x ∙ y in
        let one_end : e ≡ f = cc in
        (same, one_end, one.last ∙ ap (reach image m t) same ∙ sym two.last)

-- ---- one block more

pub led_push : (image : Shown) (m : State) (h : List Block) (b : Block) → led_to image m (h ++ b ∷ []) ≡ reach image (led_to image m h) b.thread b.turns
led_push image m [] b = refl
led_push image m (x ∷ h) b = led_push image (reach image m x.thread x.turns) h b

obeys_front : (lock limit : ℕ) (before xs ys : List Block) → ObeysAfter lock limit before (xs ++ ys) → ObeysAfter lock limit before xs
obeys_front lock limit before [] ys obeys = tt
obeys_front lock limit before (x ∷ xs) ys obeys = (obeys.0, obeys_front lock limit (before ++ x ∷ []) xs ys obeys.1)

-- the last block of those that obey may follow the others
pub obeys_last : (lock limit : ℕ) (before bs : List Block) (b : Block) → ObeysAfter lock limit before (bs ++ b ∷ []) → may_follow lock limit (before ++ bs) b ≡ true
obeys_last lock limit before [] b obeys = ap (λ l. may_follow lock limit l b) (append-nil before) ∙ obeys.0
obeys_last lock limit before (x ∷ bs) b obeys = ap (λ l. may_follow lock limit l b) (sym (append_assoc before (x ∷ []) bs)) ∙ obeys_last lock limit (before ++ x ∷ []) bs b obeys.1

module _ (image : Shown) (terms : Terms) where
  abbrev pub from : State
  from = start image terms.fuel

  abbrev pub ObeyAll : List Block → Type 0
  ObeyAll h = (k : ℕ) → Obeys k terms.limit (of_lock h k)

  -- a block that is right stands behind those before it
  pub stands : (h : List Block) (b : Block) → IsRight image terms h (led_to image from h) b → Stands image h (led_to image from h) b (led_to image from (h ++ b ∷ []))
  stands h b right = record {
    runs = subst (Runs image (led_to image from h) b.thread b.turns b.end) (right.block.runs.last ∙ sym (led_push image from h b)) right.block.runs;
    held = right.block.held;
    pc = right.block.pc;
    section = right.kind.section;
    first = right.kind.first;
  }

  obeys_on : (h : List Block) (b : Block) → ObeyAll h → IsRight image terms h (led_to image from h) b → ObeyAll (h ++ b ∷ [])
  obeys_on h b obeys right k = by (has b.held k) refl
    where
      by : (v : Bool) → has b.held k ≡ v → Obeys k terms.limit (of_lock (h ++ b ∷ []) k)
      by true e = right.kind.obeys k e
      by false e = subst (Obeys k terms.limit) (sym (of_lock-more h b k false e ∙ append-nil (of_lock h k))) (obeys k)

  right_tells : (seen h : List Block) → AreRightAfter image terms seen h → TellsAfter image seen (led_to image from seen) h (led_to image from (seen ++ h))
  right_tells seen [] right = ap (led_to image from) (sym (append-nil seen))
  right_tells seen (b ∷ h) right = (
    led_to image from (seen ++ b ∷ []),
    stands seen b right.0,
    subst (λ l. TellsAfter image (seen ++ b ∷ []) (led_to image from (seen ++ b ∷ [])) h (led_to image from l)) (append_assoc seen (b ∷ []) h) (right_tells (seen ++ b ∷ []) h right.1),
  )

  pub right_obeys : (seen h : List Block) → ObeyAll seen → AreRightAfter image terms seen h → ObeyAll (seen ++ h)
  right_obeys seen [] obeys right = subst ObeyAll (sym (append-nil seen)) obeys
  right_obeys seen (b ∷ h) obeys right = subst ObeyAll (append_assoc seen (b ∷ []) h) (right_obeys (seen ++ b ∷ []) h (obeys_on seen b obeys right.0) right.1)

  right_workers : (seen h : List Block) → AreRightAfter image terms seen h → All (λ (b : Block). b.worker < terms.workers) h
  right_workers seen [] right = All-nil (λ (b : Block). b.worker < terms.workers)
  right_workers seen (b ∷ h) right = All-cons (λ (b : Block). b.worker < terms.workers) b h right.0.worker (right_workers (seen ++ b ∷ []) h right.1)

  pub accepted_run : (h : List Block) → IsAccepted image terms h → IsCompleteRun image terms h
  accepted_run h is = record {
    tells = right_tells [] h is.right;
    complete = is.complete;
    obeys = right_obeys [] h (λ k. tt) is.right;
    workers = right_workers [] h is.right;
  }

  -- ---- and back

  of_lock_append : (xs ys : List Block) (k : ℕ) → of_lock (xs ++ ys) k ≡ of_lock xs k ++ of_lock ys k
  of_lock_append xs ys k = filter-append (λ (c : Block). has c.held k) xs ys

  front_obeys : (xs ys : List Block) → ObeyAll (xs ++ ys) → ObeyAll xs
  front_obeys xs ys obeys k = obeys_front k terms.limit [] (of_lock xs k) (of_lock ys k) (subst (Obeys k terms.limit) (of_lock_append xs ys k) (obeys k))

  pub right_of : (seen : List Block) (b : Block) (to : State) → Stands image seen (led_to image from seen) b to → ObeyAll (seen ++ b ∷ []) → b.worker < terms.workers → IsRight image terms seen (led_to image from seen) b
  right_of seen b to stand obeys worker =
      let m = led_to image from seen in
      let can = stand.runs.defined 0 stand.runs.some in
      record {
        thread = record { known = can_thread image m b.thread can; runs = ap is_running (turn_runs image m b.thread can) };
        free = λ k next. open_none (next_lock image (m.threads b.thread)) m.locks k (can_open image m b.thread can) next;
        block = record { to = to; runs = stand.runs; held = stand.held; pc = stand.pc };
        kind = record { section = stand.section; first = stand.first; obeys = λ k held. obeys k };
        worker = worker;
      }

  all_right : (seen h : List Block) (last : State) → TellsAfter image seen (led_to image from seen) h last → ObeyAll (seen ++ h) → All (λ (b : Block). b.worker < terms.workers) h → AreRightAfter image terms seen h
  all_right seen [] last told obeys workers = tt
  all_right seen (b ∷ h) last told obeys workers =
      let whole : ObeyAll ((seen ++ b ∷ []) ++ h) = subst ObeyAll (sym (append_assoc seen (b ∷ []) h)) obeys in
      let mid : told.0 ≡ led_to image from (seen ++ b ∷ []) = told.1.runs.last ∙ sym (led_push image from seen b) in (
        right_of seen b told.0 told.1 (front_obeys (seen ++ b ∷ []) h whole) (All-head (λ (b : Block). b.worker < terms.workers) b h workers),
        all_right (seen ++ b ∷ []) h last (subst (λ s. TellsAfter image (seen ++ b ∷ []) s h last) mid told.2) whole (All-tail (λ (b : Block). b.worker < terms.workers) b h workers),
      )

  pub run_accepted : (h : List Block) → IsCompleteRun image terms h → IsAccepted image terms h
  run_accepted h is = record { right = all_right [] h (end_after image terms.fuel h) is.tells is.obeys is.workers; complete = is.complete }
