-- The numbers of queue turns that packages have taken, and that passes know, are those of the entries, after one operation more.
use Rattle.std.proofs.Common.{◌≡◌, ◌≢◌, ⊎_elim, ℕ, ◌+◌, ◌<◌, ◌==◌, Bool, true, false, if◌then◌else◌, List, [], ◌∷◌, ◌++◌, length, set, refl, sym, ap, ◌∙◌, subst, arith, eq-eqb, eqb-true, ne_eqb, Option, Some, None}
use mathlib.Core.Option as maybe
use mathlib.Core.Option.{some, some-injective}
use mathlib.Core.Logic.{dite}
use native.Mathlib.Decide.{ℕ_discrete}
use lib.ListN.{get_elem?}
use Rattle.atomic_table.proofs.Lists.{at_longer, at_set, set_here}
use Rattle.tc_segment.specs.View.{sealed_block}
use Rattle.tc_context.specs.View.{PackageView, bare, with_seal}
use Rattle.tc_queue.specs.declared.turn.Turn.{Turn}
use Rattle.tc_queue.specs.declared.turn.Entered.{Entered}
use Rattle.tc_queue.specs.declared.turn.QueueCall.TheVariants.{Enter as Did_enter, Link as Did_link, Next as Did_ask, Leave as Did_leave}
use Rattle.tc_hall.specs.declared.board.HallTerms.{HallTerms}
use Rattle.tc_hall.specs.declared.board.Knows.{Knows}
use Rattle.tc_hall.specs.declared.board.Cargo.TheVariants.{Lock, Package}
use Rattle.tc_hall.specs.declared.board.PassCall.{PassCall}
use Rattle.tc_hall.specs.declared.board.PassCall.TheVariants.{Commit, Free, Line, Look, Stop, Stopped, Take}
use Rattle.tc_hall.specs.Rule.{Has, threads}
use Rattle.tc_hall.specs.Shown.{in_slot}
use Rattle.tc_hall.specs.Standing.{EntersAs, PutsAs, turns_of, turns_past}
use Rattle.tc_hall.specs.Effects.{claim_effect, commit_effect, free_effect, lay_effect, miss_effect, put_effect, reach_effect, take_effect}
use Rattle.tc_hall.specs.Steps.{claim_call, dealt, fresh, gone, merged, put_call, with_call}
use Rattle.tc_hall.specs.Order.{Operation, claim, take, miss, commit, put, free, line, look, stop, stopped, reach, lay, split, join, after_operation}
use Rattle.tc_hall.proofs.Making.{clean_free}
use Rattle.tc_hall.proofs.Standing.{turns_last}
use Rattle.tc_mutex_spec.proofs.ListLaws.{there}
use Rattle.tc_run.proofs.After.{if_not, other_view, view_own}
use Rattle.tc_run.proofs.Agree.{Agrees, AreCounted, InSlot, Live, Run, Step, entries_by, hall_at, is_entry, then_run, may_do}
use Rattle.tc_run.proofs.Hands.{asked, entries_few, kept_at, one_pass}
use Rattle.tc_run.proofs.Sealed.{number_is}
use Rattle.tc_run.proofs.Slots.{lies_else, not_out}

not_counted : (b : Bool) → (b ≡ true → ⊥) → ◌≡◌ {A = ℕ} (if b then 1 else 0) 0
not_counted true not = absurd (not refl)
not_counted false not = refl

module _ (k : HallTerms) (r : Run k) (a : Agrees k r) (m : Step k r) where
  abbrev v : Knows
  v = m.made.knew

  abbrev Is : Operation → Type 0
  Is o = m.made.operation ≡ o

  live : Live k r m.made.pass v
  live = record { pass = m.may.pass; live = m.may.live }

  before : (t : ℕ) (p : PackageView) → Has v t p → turns_of t v.calls ≡ entries_by t r.order
  before t p has = a.counted.out m.made.pass t v p live has

  entered : (i : ℕ) (u : Turn) (e : Entered) → Is (line i (Did_enter u e)) → EntersAs v i u
  entered i u e is = asked k r m.made.pass v (EntersAs v i u) live.pass (may_do k r m (line i (Did_enter u e)) is).3

  pub entry_number : (i : ℕ) (u : Turn) (e : Entered) → Is (line i (Did_enter u e)) → u.number ≡ entries_by u.thread r.order + 1
  entry_number i u e is = (let s = entered i u e is in let few = entries_few k r a u.thread in let turns = before u.thread s.waiter s.has in let given = s.number in omega (arith, given, few, turns))

  -- ---- the packages in slots

  abbrev Counts : Operation → ℕ → PackageView → Type 0
  Counts o t q = q.turns ≡ entries_by t r.order + is_entry t o

  stays : (o : Operation) (t : ℕ) (q : PackageView) → t < threads k → is_entry t o ≡ 0 → InSlot k r t q → Counts o t q
  stays o t q below none h = (let c = a.counted.in_slot t q below h in omega (arith, c, none))

  entry_else : (i : ℕ) (u : Turn) (e : Entered) (t : ℕ) (q : PackageView) → Is (line i (Did_enter u e)) → InSlot k r t q → is_entry t (line i (Did_enter u e)) ≡ 0
  entry_else i u e t q is h = not_counted (u.thread == t) (λ same. let s = entered i u e is in not_out k r m.made.pass t v s.waiter q live.pass (subst (λ (z : ℕ). Has v z s.waiter) (eqb-true u.thread t same) s.has) h)

  in_slots : (o : Operation) → Is o → (t : ℕ) (q : PackageView) → t < threads k → get_elem? (after_operation k (hall_at k r) m.made.pass v o).homes t ≡ some (some (Some (Package q))) → Counts o t q
  in_slots (claim u word p) is t q below h = stays (claim u word p) t q below refl (lies_else (hall_at k r).homes u t maybe.none q (λ e. absurd (cc e)) h).1
  in_slots (take i l) is t q below h = stays (take i l) t q below refl (lies_else (hall_at k r).homes (threads k + i) t maybe.none q (λ e. absurd (cc e)) h).1
  in_slots (put p place) is t q below h = ⊎_elim
      (λ (z : (t ≡ p.context.thread) × (some (Some (Package p)) ≡ some (Some (Package q)))).
      let may = may_do k r m (put p place) is in
      let same : p ≡ q = cc (z.1) in
      let turns = (asked k r m.made.pass v (PutsAs v p place) live.pass may.stands).turns in
      let old = before p.context.thread (bare p) may.may.has in
      let now : p.turns ≡ entries_by p.context.thread r.order = sym turns ∙ old in
      let here : p.turns ≡ entries_by t r.order = now ∙ ap (λ (z : ℕ). entries_by z r.order) (sym z.0) in
      ap (λ (x : PackageView). x.turns) (sym same) ∙ omega (arith, here))
      (λ (z : (t ≢ p.context.thread) × (get_elem? (hall_at k r).homes t ≡ some (some (Some (Package q))))). stays (put p place) t q below refl z.1)
      (at_set (hall_at k r).homes p.context.thread t (some (Some (Package p))) (some (Some (Package q))) h)
  in_slots (free l) is t q below h = stays (free l) t q below refl (lies_else (hall_at k r).homes (threads k + l.number) t (some (Some (Lock l))) q (λ e. absurd (cc e)) h).1
  in_slots (reach slot) is t q below h = stays (reach slot) t q below refl (lies_else (hall_at k r).homes slot t maybe.none q (λ e. absurd (cc e)) h).1
  in_slots (lay slot) is t q below h = stays (lay slot) t q below refl (lies_else (hall_at k r).homes slot t (some None) q (λ e. absurd (cc e)) h).1
  in_slots (line i (Did_enter u e)) is t q below h = stays (line i (Did_enter u e)) t q below (entry_else i u e t q is h) h
  in_slots (line i (Did_link b u)) is t q below h = stays (line i (Did_link b u)) t q below refl h
  in_slots (line i (Did_ask u x)) is t q below h = stays (line i (Did_ask u x)) t q below refl h
  in_slots (line i (Did_leave u x)) is t q below h = stays (line i (Did_leave u x)) t q below refl h
  in_slots (miss word wanted found) is t q below h = stays (miss word wanted found) t q below refl h
  in_slots (commit stamp b p) is t q below h = stays (commit stamp b p) t q below refl h
  in_slots (look u found) is t q below h = stays (look u found) t q below refl h
  in_slots stop is t q below h = stays stop t q below refl h
  in_slots (stopped found) is t q below h = stays (stopped found) t q below refl h
  in_slots split is t q below h = stays split t q below refl h
  in_slots (join other w) is t q below h = stays (join other w) t q below refl h

  -- ---- the packages that are out

  abbrev AreOut : Operation → Knows → Type 0
  AreOut o w = (t : ℕ) (p : PackageView) → Has w t p → turns_of t w.calls ≡ entries_by t r.order + is_entry t o

  -- one call more, which tells of no turn
  called : (o : Operation) (c : PassCall) (w : Knows) → w.calls ≡ v.calls ++ c ∷ [] → ((t n : ℕ) → turns_past t c n ≡ n) → ((t : ℕ) → is_entry t o ≡ 0) → ((t : ℕ) (p : PackageView) → Has w t p → (x : PackageView) × Has v t x) → AreOut o w
  called o c w calls same none has t p h =
      let x = has t p h in
      let old = before t x.0 x.1 in
      let zero = none t in
      ap (turns_of t) calls ∙ (turns_last t v.calls c ∙ (same t (turns_of t v.calls) ∙ omega (arith, old, zero)))

  uncalled : (o : Operation) (w : Knows) → w.calls ≡ v.calls → ((t : ℕ) → is_entry t o ≡ 0) → ((t : ℕ) (p : PackageView) → Has w t p → (x : PackageView) × Has v t x) → AreOut o w
  uncalled o w calls none has t p h = (let x = has t p h in let old = before t x.0 x.1 in let zero = none t in ap (turns_of t) calls ∙ omega (arith, old, zero))

  -- with another package in this place
  or_before : (u : ℕ) (o : Option PackageView) (t : ℕ) (p : PackageView) → ((x : PackageView) → o ≡ Some x → (y : PackageView) × Has v u y) → get_elem? (set v.packages u o) t ≡ some (Some p) → (x : PackageView) × Has v t x
  or_before u o t p new h = ⊎_elim
      (λ (z : (t ≡ u) × (o ≡ Some p)). let y = new p z.1 in (y.0, subst (λ (w : ℕ). Has v w y.0) (sym z.0) y.1))
      (λ (z : (t ≢ u) × Has v t p). (p, z.1))
      (at_set v.packages u t o (Some p) h)

  as_here : (t : ℕ) (p : PackageView) → Has v t p → (x : PackageView) × Has v t x
  as_here t p h = (p, h)

  out_claim : (u word : ℕ) (q : PackageView) (w : Knows) → Is (claim u word q) → w.calls ≡ v.calls ++ claim_call v q word ∷ [] → w.packages ≡ set v.packages q.context.thread (Some (bare q)) → AreOut (claim u word q) w
  out_claim u word q w is calls packages t p h = ap (turns_of t) calls ∙ (turns_last t v.calls (claim_call v q word) ∙ ⊎_elim
      (λ (z : (t ≡ q.context.thread) × (Some (bare q) ≡ Some p)). claimed z.0)
      (λ (z : (t ≢ q.context.thread) × Has v t p). if_not (q.context.thread == t) q.turns (turns_of t v.calls) (ne_eqb q.context.thread t (λ (e : q.context.thread ≡ t). z.0 (sym e))) ∙ (let old = before t p z.1 in omega (arith, old)))
      (at_set v.packages q.context.thread t (Some (bare q)) (Some p) (ap (λ (ps : List (Option PackageView)). get_elem? ps t) (sym packages) ∙ h)))
    where
      claimed : t ≡ q.context.thread → (if q.context.thread == t then q.turns else turns_of t v.calls) ≡ entries_by t r.order + 0
      claimed same =
          let may = may_do k r m (claim u word q) is in
          let number = number_is k r u q may.below (in_slot may.slot) in
          let old = a.counted.in_slot u q may.below may.slot in
          let here : q.turns ≡ entries_by t r.order = old ∙ ap (λ (z : ℕ). entries_by z r.order) (sym number ∙ sym same) in
          ap (λ (b : Bool). if b then q.turns else turns_of t v.calls) (eq-eqb q.context.thread t (sym same)) ∙ omega (arith, here)

  out_enter : (i : ℕ) (u : Turn) (e : Entered) → Is (line i (Did_enter u e)) → AreOut (line i (Did_enter u e)) (with_call v (Line i (Did_enter u e)))
  out_enter i u e is t p h = turns_last t v.calls (Line i (Did_enter u e)) ∙ by (u.thread == t) refl
    where
      by : (b : Bool) → (u.thread == t) ≡ b → (if b then u.number else turns_of t v.calls) ≡ entries_by t r.order + (if b then 1 else 0)
      by true same = entry_number i u e is ∙ ap (λ (z : ℕ). entries_by z r.order + 1) (eqb-true u.thread t same)
      by false other = (let old = before t p h in omega (arith, old))

  -- what the pass is after it
  abbrev Own : Operation → Type 0
  Own o = (x : Knows) → get_elem? (after_operation k (hall_at k r) m.made.pass v o).views m.made.pass ≡ some x → AreOut o x

  own_set : (o : Operation) (w : Knows) → (after_operation k (hall_at k r) m.made.pass v o).views ≡ set (hall_at k r).views m.made.pass w → AreOut o w → Own o
  own_set o w views out x e = subst (AreOut o) (view_own (hall_at k r).views m.made.pass w x (ap (λ (vs : List Knows). get_elem? vs m.made.pass) (sym views) ∙ e)) out

  own_split : Own split
  own_split x e =
      let here = at_longer (set (hall_at k r).views m.made.pass (dealt v)) (fresh v ∷ []) m.made.pass (dealt v) (set_here (hall_at k r).views m.made.pass (dealt v) (there (hall_at k r).views m.made.pass v v live.pass).0) in
      subst (AreOut split) (some-injective (dealt v) x (sym here ∙ e)) (uncalled split (dealt v) refl (λ t. refl) as_here)

  own_join : (other : ℕ) (w : Knows) → Is (join other w) → Own (join other w)
  own_join other w is x e t p h =
      let may = may_do k r m (join other w) is in
      ⊎_elim
      (λ (z : (m.made.pass ≡ other) × (gone ≡ x)). absurd (may.2 (sym z.0)))
      (λ (z : (m.made.pass ≢ other) × (get_elem? (set (hall_at k r).views m.made.pass (merged v w)) m.made.pass ≡ some x)).
      absurd ((may.4 r.lined).packages t p (subst (λ (y : Knows). Has y t p) (sym (view_own (hall_at k r).views m.made.pass (merged v w) x z.1)) h)))
      (at_set (set (hall_at k r).views m.made.pass (merged v w)) other m.made.pass gone x e)

  own : (o : Operation) → Is o → Own o
  own (claim u word q) is = (let w = (claim_effect v u word q).knows in own_set (claim u word q) w refl (out_claim u word q w is refl refl))
  own (take i l) is = (let w = (take_effect (threads k) v i l).knows in own_set (take i l) w refl (called (take i l) (Take l.number) w refl (λ t n. refl) (λ t. refl) as_here))
  own (miss word wanted found) is = (let w = (miss_effect v word found).knows in own_set (miss word wanted found) w refl (uncalled (miss word wanted found) w refl (λ t. refl) as_here))
  own (commit stamp b q) is =
      let w = (commit_effect v stamp b q).knows in
      own_set (commit stamp b q) w refl (called (commit stamp b q) (Commit q.context.thread (sealed_block stamp v.worker b)) w refl (λ t n. refl) (λ t. refl)
      (λ t p. or_before q.context.thread (Some (bare (with_seal stamp v.worker q))) t p (λ x e. (let may = may_do k r m (commit stamp b q) is in (bare may.1.before, may.1.has)))))
  own (put q place) is = (let w = (put_effect v q place).knows in own_set (put q place) w refl (called (put q place) (put_call q place) w refl (λ t n. refl) (λ t. refl) (λ t p. or_before q.context.thread None t p (λ x e. absurd (cc e)))))
  own (free l) is = (let w = (free_effect (threads k) v l).knows in own_set (free l) w refl (called (free l) (Free l.number) w refl (λ t n. refl) (λ t. refl) as_here))
  own (look u found) is = own_set (look u found) (with_call v (Look u found)) refl (called (look u found) (Look u found) (with_call v (Look u found)) refl (λ t n. refl) (λ t. refl) as_here)
  own stop is = own_set stop (with_call v Stop) refl (called stop Stop (with_call v Stop) refl (λ t n. refl) (λ t. refl) as_here)
  own (stopped found) is = own_set (stopped found) (with_call v (Stopped found)) refl (called (stopped found) (Stopped found) (with_call v (Stopped found)) refl (λ t n. refl) (λ t. refl) as_here)
  own (line i (Did_enter u e)) is = own_set (line i (Did_enter u e)) (with_call v (Line i (Did_enter u e))) refl (out_enter i u e is)
  own (line i (Did_link b u)) is = own_set (line i (Did_link b u)) (with_call v (Line i (Did_link b u))) refl (called (line i (Did_link b u)) (Line i (Did_link b u)) (with_call v (Line i (Did_link b u))) refl (λ t n. refl) (λ t. refl) as_here)
  own (line i (Did_ask u x)) is = own_set (line i (Did_ask u x)) (with_call v (Line i (Did_ask u x))) refl (called (line i (Did_ask u x)) (Line i (Did_ask u x)) (with_call v (Line i (Did_ask u x))) refl (λ t n. refl) (λ t. refl) as_here)
  own (line i (Did_leave u x)) is = own_set (line i (Did_leave u x)) (with_call v (Line i (Did_leave u x))) refl (called (line i (Did_leave u x)) (Line i (Did_leave u x)) (with_call v (Line i (Did_leave u x))) refl (λ t n. refl) (λ t. refl) as_here)
  own (reach slot) is = (let w = (reach_effect v slot 0).knows in own_set (reach slot) w refl (uncalled (reach slot) w refl (λ t. refl) as_here))
  own (lay slot) is = (let w = (lay_effect v slot 0).knows in own_set (lay slot) w refl (uncalled (lay slot) w refl (λ t. refl) as_here))
  own split is = own_split
  own (join other w) is = own_join other w is

  -- another pass
  entry_other : (id t : ℕ) (x : Knows) (p : PackageView) → id ≢ m.made.pass → get_elem? (hall_at k r).views id ≡ some x → Has x t p → (o : Operation) → Is o → is_entry t o ≡ 0
  entry_other id t x p ne at has (line i (Did_enter u e)) is = not_counted (u.thread == t) (λ same. let s = entered i u e is in ne (one_pass k (hall_at k r) (kept_at k r) id m.made.pass t x v p s.waiter at live.pass has (subst (λ (z : ℕ). Has v z s.waiter) (eqb-true u.thread t same) s.has)).0)
  entry_other id t x p ne at has (line i (Did_link b u)) is = refl
  entry_other id t x p ne at has (line i (Did_ask u y)) is = refl
  entry_other id t x p ne at has (line i (Did_leave u y)) is = refl
  entry_other id t x p ne at has (claim u word q) is = refl
  entry_other id t x p ne at has (take i l) is = refl
  entry_other id t x p ne at has (miss word wanted found) is = refl
  entry_other id t x p ne at has (commit stamp b q) is = refl
  entry_other id t x p ne at has (put q place) is = refl
  entry_other id t x p ne at has (free l) is = refl
  entry_other id t x p ne at has (look u found) is = refl
  entry_other id t x p ne at has stop is = refl
  entry_other id t x p ne at has (stopped found) is = refl
  entry_other id t x p ne at has (reach slot) is = refl
  entry_other id t x p ne at has (lay slot) is = refl
  entry_other id t x p ne at has split is = refl
  entry_other id t x p ne at has (join other w) is = refl

  others : (id t : ℕ) (x : Knows) (p : PackageView) → id ≢ m.made.pass → Live k (then_run k r m) id x → Has x t p → turns_of t x.calls ≡ entries_by t (m.made ∷ r.order)
  others id t x p ne its has = ⊎_elim
      (λ (at : get_elem? (hall_at k r).views id ≡ some x).
      let old = a.counted.out id t x p (record { pass = at; live = its.live }) has in
      let none = entry_other id t x p ne at has m.made.operation refl in
      omega (arith, old, none))
      (λ (is : fresh v ≡ x). absurd ((clean_free v.image (length v.packages) (length v.locks) v.made false).packages t p (subst (λ (y : Knows). Has y t p) (sym is) has)))
      (other_view k (hall_at k r) m.made.pass v m.made.operation id x ne its.live its.pass)

  pub counted_after : AreCounted k (then_run k r m)
  counted_after = record {
    in_slot = λ t q below h. in_slots m.made.operation refl t q below h;
    out = λ id t x p its has. dite (ℕ_discrete id m.made.pass)
        (λ (same : id ≡ m.made.pass). own m.made.operation refl x (subst (λ (z : ℕ). Live k (then_run k r m) z x) same its).pass t p has)
        (λ ne. others id t x p ne its has);
  }
