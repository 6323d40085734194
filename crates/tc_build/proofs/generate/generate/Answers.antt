use Rattle.std.proofs.Common.{◌≡◌, ℕ, ◌+◌, ◌*◌, List, [], ◌∷◌, ◌++◌, length, map, sym, ap, ◌∙◌, subst, arith}
use Rattle.std.proofs.lemmas.List.FromFn.{map-range_with_len_more}
use Rattle.std.proofs.lemmas.Result.{IfOk-weaker}
use Rattle.tc_build.specs.Described.{described, StandsFor}
use Rattle.tc_build.specs.Code.{words_of}
use Rattle.tc_build.specs.Generator.{code_of, entry, entries, thread_code, numbers_below, fill, guards}
use Rattle.tc_build.proofs.Sizes.{code_more, length-code_more}
use Rattle.tc_build.proofs.Places.{nothing_refuses}
use Rattle.tc_build.proofs.generate.generate.Goals as goal

pub loop-thread-init : goal.loop-thread-init
unfolding code_of words_of
loop-thread-init c = record {
  code = c.new-code.ensures;
  few = omega (arith, ap length c.new-code.ensures);
  entries = c.new-entries.ensures.items;
}

pub loop-thread-preserved : goal.loop-thread-preserved
loop-thread-preserved c =
    let rounds = c.args.rounds in
    let thread = c.loop-thread.thread in
    let before = c.loop-thread.invariant in
    let code : c.push_thread.new.code ≡ code_of rounds (thread + 1) =
    c.in_ok-push_thread.ensures ∙ (ap (λ (code : List ℕ). code ++ words_of (thread_code rounds thread)) before.code ∙ sym (code_more rounds thread)) in
    record {
      code = code;
      few = omega (arith, ap length code, ap length before.code, length-code_more rounds thread);
      entries = c.in_ok-push.ensures.items
          ∙ (ap (λ (entries : List (ℕ × ℕ)). entries ++ (0x00100000 + 4 * length c.words.result.now, 0) ∷ []) before.entries
          ∙ (ap (λ (code : List ℕ). map (entry rounds) (numbers_below thread) ++ (0x00100000 + 4 * length code, 0) ∷ []) (c.words.ensures ∙ before.code)
          ∙ sym (map-range_with_len_more (entry rounds) 0 thread thread (omega arith))));
    }

pub returns-clause-image : goal.returns-clause-image
returns-clause-image c =
    let rounds = c.args.rounds in
    let all : c.loop-thread.thread ≡ 4 = omega arith in
    let code : c.words-2.result.now ≡ code_of rounds 4 = c.words-2.ensures ∙ (c.loop-thread.invariant.code ∙ ap (code_of rounds) all) in
    let places : c.deref.result.now ≡ entries rounds = c.deref.ensures.value ∙ (c.loop-thread.invariant.entries ∙ ap (λ n. map (entry rounds) (numbers_below n)) all) in
    IfOk-weaker c.build.result (λ file. StandsFor file.items (described c.words-2.result.now c.deref.result.now fill guards)) _
    (λ file stands.
    let same = subst (λ (ws : List ℕ). StandsFor file.items (described ws (entries rounds) fill guards)) code (subst (λ (es : List (ℕ × ℕ)). StandsFor file.items (described c.words-2.result.now es fill guards)) places stands) in
    same.loaded (nothing_refuses rounds))
    c.build.ensures.image
