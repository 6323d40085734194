use Rattle.std.proofs.Common.{◌≡◌, ℕ, ◌<◌, List, length, get_or, sym, ap, subst, ◌∙◌, arith}
use Rattle.std.specs.Prelude.{slice_get, Option, Some, None, IfSome}
use Rattle.std.specs.Option.{option_map}
use Rattle.std.proofs.lemmas.Option.{slice_get-get_or}
use Rattle.tc_isa.specs.Sets.{has}
use Rattle.tc_exec.specs.declared.outcome.Act.{Act}
use Rattle.tc_turn.specs.Turn.{Guest, next_act, outcome_of, mutex_after, ActFits, CanAct}
use Rattle.tc_turn.proofs.Turns.{released_held}
use Rattle.tc_mutex_spec.specs.Machine.{after}
use Rattle.tc_mutex_spec.specs.Slow.{Plain, thread_at, mutex_at, state_of, Suits}
use Rattle.tc_mutex_spec.proofs.Holds.{can_thread}
use Rattle.tc_mutex_spec.proofs.SlowTurn.{IsTurn, turned, suits_on}
use Rattle.tc_mutex_spec.proofs.slow.Slow.take_turn.Goals as goal

-- one place of a list, read twice
same_item : {A : Type 0} (xs : List A) (i : ℕ) (x y : A) → i < length xs → x ≡ get_or xs i x → y ≡ get_or xs i y → x ≡ y
same_item xs i x y lt p q = (let e : Some x ≡ Some y = ap Some p ∙ sym (slice_get-get_or xs i x lt) ∙ slice_get-get_or xs i y lt ∙ ap Some (sym q) in cc)

act_fits : (left : ℕ) (act : Option Act) → IfSome act (CanAct left) → IfSome act ActFits
act_fits left None can = tt
act_fits left (Some a) can = can.fits

pub take_turn-requires : goal.take_turn-requires
take_turn-requires c = record {
  locks = ap (λ (p : Plain). length p.locks) c.self.view_is ∙ c.requires.suits.locks;
  fits = act_fits _ c.next_act-act.result c.next_act-act.ensures.can;
}

abbrev plain : goal.After-outcome_of → Plain
plain c = record { threads = c.self.inside.threads.items; locks = c.self.inside.locks }

suits : (c : goal.After-outcome_of) → Suits c.args.image.now (plain c)
suits c = subst (λ s. Suits c.args.image.now s) (sym c.self.view_is) c.requires.suits

-- what the calls of the body did is a turn
step : (c : goal.After-outcome_of) → IsTurn c.args.image.now (plain c) c.args.t c.index_mut-thread.result.now c.take_turn-2.new.self c.next_act-act.result c.take_turn.new.self
step c =
    let image = c.args.image.now in
    let t = c.args.t in
    let threads = c.self.inside.threads.items in
    let within : t < length threads = (let a = can_thread image (state_of c.args.self.now) t c.requires.defined in let b = (suits c).threads in omega arith) in
    let same : c.index.result.now ≡ c.index_mut-thread.result.now = same_item threads t _ _ within c.index.ensures c.index_mut-thread.ensures.value in
    record {
      is_thread = within;
      at = c.index_mut-thread.ensures.value;
      act = c.next_act-act.ensures.value ∙ ap (λ (s : Plain). next_act image (thread_at s.threads t) (mutex_at s.locks)) (sym c.self.view_is);
      thread = c.take_turn-2.ensures;
      each = λ k. c.take_turn.ensures.each k
          ∙ ap (λ held. option_map (mutex_after image t (has held) c.next_act-act.result k) (slice_get c.self.inside.locks k)) (c.held-held.ensures ∙ ap (λ (g : Guest). g.held) same);
    }

pub returns : goal.returns
returns c =
    let s = c.args.self.now in
    let d = thread_at s.threads c.args.t in
    let came = c.outcome_of.ensures ∙ ap outcome_of c.next_act-act.ensures.value in
    record {
      after = turned c.args.image.now (plain c) c.args.t _ _ c.next_act-act.result _ (suits c) (step c) ∙ ap (λ s. after c.args.image.now (state_of s) c.args.t) c.self.view_is;
      outcome = came;
      known = λ lock e. c.requires.suits.held c.args.t lock (released_held c.args.image.now d (mutex_at s.locks) lock (sym came ∙ e));
      suits = suits_on c.args.image.now (plain c) c.args.t _ _ c.next_act-act.result _ (suits c) (step c) c.take_turn.ensures.long;
    }
