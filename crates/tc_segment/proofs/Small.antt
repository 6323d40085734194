-- The numbers of a block that replays are small.
use Rattle.std.proofs.Common.{zero, ◌%◌, ◌==◌}
use Rattle.tc_segment.proofs.Vocabulary.{◌≡◌, ℕ, suc, ◌+◌, ◌-◌, ◌<◌, ◌≤◌, Bool, true, false, List, [], ◌∷◌, length, refl, ap, subst, arith, inl, inr, if◌then◌else◌, Option, Some, None, IfSome, Shown, Block, End, Entry, Mutex, Replays, cases_lt}
use Rattle.tc_isa.specs.declared.limits.TheConstants.{MAX_TURNS}
use Rattle.tc_isa.specs.declared.held.TheConstants.Held.{PLACES}
use Rattle.tc_exec.specs.Told.{IsAct}
use Rattle.tc_exec.specs.declared.outcome.Act.{Act}
use Rattle.tc_exec.specs.declared.outcome.Act.TheVariants.{Next, Called}
use Rattle.tc_exec.specs.declared.outcome.Call.TheVariants.{Lock, Unlock}
use Rattle.tc_exec.proofs.Cases.{act_told}
use Rattle.tc_journal.specs.History.{IsEnd}
use Rattle.tc_journal.specs.Rule.{end_rule}
use Rattle.tc_journal.specs.declared.block.End.TheVariants as end
use Rattle.tc_journal.specs.declared.rule.Outcome.TheVariants.{Went}
use Rattle.tc_turn.specs.Turn.{Thread, act_with, outcome_of, next_lock}
use Rattle.tc_turn.specs.Replay.{Tape, rest_of, tape_in, tape_of, tapes}
unfoldable use Rattle.tc_turn.specs.Replay.{tape_act, tape_after, tape_takes}
use Rattle.tc_turn.proofs.Turns.{act_some, goes_on, next_known}
use Rattle.tc_segment.specs.Draft.{block_from, drafted, end_of, ending_of}

went_small : (turns : ℕ) (next : Option ℕ) → IfSome next (λ k. k < PLACES) → IfSome (end_rule Went turns next) IsEnd
went_small turns (Some k) small = small
went_small turns None small = elim (turns == MAX_TURNS) as (λ b. IfSome (if b then Some end.Cut else None) IsEnd) [ true ↦ tt | false ↦ tt ]

next_small : (image : Shown) (d : Thread) (o : Option ℕ) → length image.guards ≤ PLACES → next_lock image d ≡ o → IfSome o (λ k. k < PLACES)
next_small image d None few is = tt
next_small image d (Some k) few is = omega (arith, next_known image d k is, few)

-- a LOCK or an UNLOCK is of a lock of the image
end_small : (image : Shown) (d : Thread) (answer turns : ℕ) (a : Option Act) (next : Option ℕ) → length image.guards ≤ PLACES → IfSome next (λ k. k < PLACES) → act_with image d answer ≡ a → IfSome (end_rule (outcome_of a) turns next) IsEnd
end_small image d answer turns (Some (Next regs put)) next few small is = went_small turns next small
end_small image d answer turns (Some (Called (Lock k) regs)) next few small is = went_small turns next small
end_small image d answer turns (Some (Called (Unlock k) regs)) next few small is =
    omega (arith, few, (subst (λ a. IsAct image d.held d.regs a) (act_some image d answer (Called (Unlock k) regs) is) (act_told image d.held d.regs answer)).0.known)
end_small image d answer turns _ next few small is = tt

-- a turn takes one word at most
rest_short : (b : Bool) (ws : List ℕ) → length ws ≤ length (if b then rest_of ws else ws) + 1
rest_short true [] = omega arith
rest_short true (w ∷ ws) = omega arith
rest_short false ws = omega arith

few_words : (image : Shown) (lock t : ℕ) (tape : Tape) (n : ℕ) → length tape.foreign ≤ length (tapes image lock t tape n).foreign + n
unfolding tape_after
few_words image lock t tape zero = omega arith
few_words image lock t tape (suc n) = (let now = tapes image lock t tape n in omega (arith, few_words image lock t tape n, rest_short (tape_takes image lock now) now.foreign))

pub record IsSmall (e : Entry) : Type 0 where
  pub turns : e.block.turns ≤ MAX_TURNS
  pub words : length e.foreign ≤ MAX_TURNS
  pub end : IsEnd e.block.end

pub small_entry : (image : Shown) (lock : ℕ) (e : Entry) (old : Mutex) → length image.guards ≤ PLACES → Replays image lock e old → IsSmall e
unfolding tape_act
small_entry image lock e old few r =
    let last = tape_in image lock e old in
    let turns : e.block.turns ≤ MAX_TURNS = elim (cases_lt 4096 e.block.turns) [ inl lt ↦ absurd ((goes_on (last 4095).thread (tape_act image lock (last 4095)) 4096 (next_lock image (last 4096).thread) (r.before 4095 (omega (arith, lt)))).1 refl) | inr ge ↦ ge ] in
    let n : ℕ = e.block.turns - 1 in
    record {
      turns = turns;
      words = omega (arith, turns, few_words image lock e.block.thread (tape_of e old) e.block.turns, ap length r.used);
      end = subst (λ o. IfSome o IsEnd) (r.ends n (omega (arith, r.some))) (end_small image (last n).thread _ (n + 1) _ _ few (next_small image (last (suc n)).thread _ few refl) refl);
    }

-- so its draft loses nothing
end_exact : (e : End) → IsEnd e → end_of (ending_of e) ≡ e
end_exact (end.Wants k) small = ap end.Wants (omega (arith, small))
end_exact (end.Unlocked k) small = ap end.Unlocked (omega (arith, small))
end_exact _ small = refl

pub draft_exact : (b : Block) → b.turns ≤ MAX_TURNS → IsEnd b.end → block_from (drafted b) ≡ b
draft_exact b few small = (let turns : b.turns % 65536 ≡ b.turns = omega (arith, few) in let end = end_exact b.end small in λ i. record { stamp = b.stamp; thread = b.thread; turns = turns i; held = b.held; kind = b.kind; worker = b.worker; pc = b.pc; end = end i })
