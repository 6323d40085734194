-- The unfinished blocks follow in order of thread.
use Rattle.std.proofs.Common.{◌≡◌, ◌≢◌, ◌⊎◌, ℕ, zero, suc, ◌<◌, ◌≤◌, true, ◌==◌, [], ◌∷◌, length, replicate, refl, sym, ap, ◌∙◌, arith, inl, inr}
use Rattle.std.specs.Prelude.{Option, Some, nat_lt, if◌then◌else◌, option_and_then}
use Rattle.std.proofs.lemmas.Bool.{and_parts, cases_lt}
use Rattle.std.proofs.lemmas.Bool.Decides.{nat_tests, eqb_tells}
use Rattle.tc_mutex_spec.proofs.Holds.{can_thread}
use Rattle.tc_elf.specs.Shown.{Shown}
use Rattle.tc_mutex_spec.specs.Machine.{State, can_turn, turns, run_from, start}
use Rattle.tc_mutex_spec.specs.Blocks.{reach}
use Rattle.tc_mutex_spec.proofs.Folding.{turns-reach, run_from-append}
use Rattle.tc_core.specs.Core.{first_core}
use Rattle.tc_core.specs.Stories.{Story, last_core, blocks_of}
use Rattle.tc_core.specs.Theorem.{pairs_of, unfinished, IsGathered}
use Rattle.tc_core.proofs.Gathers.{Gathers}
use Rattle.tc_core.proofs.Quiet.{owned, pick_mine, pick_other}
use Rattle.tc_core.proofs.Erasure.{first_sound}
use Rattle.tc_core.proofs.Gathering.{Ends, committed, all_whole}
use Rattle.tc_core.proofs.Unfinished.{done_of, ended_of, Keeps, Gathered, gathered}

-- the blocks of the first n threads are in the base too
record Folded (image : Shown) (m base : State) (owned : ℕ → Option ℕ) (done : ℕ → ℕ) (n : ℕ) : Type 0 where
  to : State
  left : ℕ → ℕ
  runs : run_from image base (pairs_of done n) ≡ Some to
  gathers : Gathers image m to owned left
  zeros : (u : ℕ) → u < n → left u ≡ 0
  later : (u : ℕ) → n ≤ u → left u ≡ done u

folded : (image : Shown) (m base : State) (owned : ℕ → Option ℕ) (done : ℕ → ℕ) → Gathers image m base owned done → (n : ℕ) → Folded image m base owned done n
folded image m base owned done g zero = record { to = base; left = done; runs = refl; gathers = g; zeros = λ u lt. absurd (omega arith); later = λ u le. refl }
folded image m base owned done g (suc n) =
    let r = folded image m base owned done g n in
    let here : r.left n ≡ done n = r.later n (omega arith) in
    let next : ℕ → ℕ = λ u. if u == n then 0 else r.left u in
    let x : Ends m n owned owned r.left next = record {
      keeps = λ k u e. e;
      others = λ k u ne e. e;
      held = λ k h. r.gathers.held n k h;
      mine = pick_mine n 0 (r.left n);
      other = λ u ne. pick_other u n 0 (r.left u) ne;
    } in
    record {
      to = reach image r.to n (r.left n);
      left = next;
      runs = run_from-append image base (pairs_of done n) ((n, done n) ∷ [])
          ∙ ap (option_and_then (λ s. run_from image s ((n, done n) ∷ []))) r.runs
          ∙ ap (λ j. option_and_then (λ s. run_from image s []) (turns image r.to (replicate j n))) (sym here)
          ∙ ap (option_and_then (λ s. run_from image s [])) (turns-reach image r.to n (r.left n) (r.gathers.defined n));
      gathers = committed image m r.to n owned owned r.left next r.gathers x;
      zeros = λ u lt. elim (eqb_tells u n) [
        | inl h ↦ ap (λ b. if b then 0 else r.left u) h.0
        | inr h ↦ pick_other u n 0 (r.left u) h.1 ∙ r.zeros u (let ne : u ≢ n = h.1 in omega arith)
      ];
      later = λ u le. pick_other u n 0 (r.left u) (omega arith) ∙ r.later u (omega arith);
    }

-- a thread past the image's has no turn
past_zero : (image : Shown) (m base : State) (owned : ℕ → Option ℕ) (done : ℕ → ℕ) → Gathers image m base owned done → (t : ℕ) → length image.entries ≤ t → done t ≡ 0
past_zero image m base owned done g t le = go (done t) refl
  where
    go : (n : ℕ) → done t ≡ n → done t ≡ 0
    go zero e = e
    go (suc n) e = absurd (let lt : t < length image.entries = can_thread image base t (g.defined t 0 (omega arith)) in omega arith)

finish : (image : Shown) (m base : State) (owned : ℕ → Option ℕ) (done : ℕ → ℕ) → Gathers image m base owned done → run_from image base (pairs_of done (length image.entries)) ≡ Some m
finish image m base owned done g =
    let r = folded image m base owned done g (length image.entries) in
    let zeros : (t : ℕ) → r.left t ≡ 0 = λ t. elim (cases_lt t (length image.entries)) [
      | inl lt ↦ r.zeros t lt
      | inr le ↦ past_zero image m r.to owned r.left r.gathers t le
    ] in
    r.runs ∙ ap Some (all_whole image m r.to owned r.left r.gathers zeros)

pub first_keeps : (image : Shown) (fuel : ℕ) → Keeps image (first_core image fuel) (start image fuel)
unfolding owned done_of ended_of
first_keeps image fuel = record {
  sound = first_sound image fuel;
  gathers = record {
    part = λ t. record { thread = refl; locks = λ k h. refl };
    rest = λ k h. refl;
    held = λ t k h. (first_sound image fuel).with t k h;
    covers = λ t k lt. absurd (omega arith);
    defined = λ t k lt. absurd (omega arith);
    before = λ t k lt. absurd (omega arith);
  };
  ends = record { ends = λ t k e. absurd (omega arith); none = λ t e. refl };
}

zero_done : (image : Shown) (fuel t : ℕ) → 0 ≡ done_of (first_core image fuel) t
unfolding done_of
zero_done image fuel t = refl

all_gathered : (s : Story) → Gathered s.image (first_core s.image s.fuel) s.events (start s.image s.fuel) (blocks_of s.events)
all_gathered s = gathered s.image s.limits s.events (first_core s.image s.fuel) (start s.image s.fuel) (λ t. 0) (first_keeps s.image s.fuel) (zero_done s.image s.fuel) s.enabled

pub is_gathered : (s : Story) → IsGathered s
unfolding done_of
is_gathered s =
    let image = s.image in
    let r = all_gathered s in
    let c = last_core s in
    record {
      all = run_from-append image (start image s.fuel) (blocks_of s.events) (unfinished image c)
          ∙ ap (option_and_then (λ m. run_from image m (unfinished image c))) r.runs
          ∙ finish image c.machine r.to (owned c) (done_of c) r.keeps.gathers;
      closed = λ zeros. r.runs ∙ ap Some (all_whole image c.machine r.to (owned c) (done_of c) r.keeps.gathers zeros);
      blocks = r.blocks;
    }
