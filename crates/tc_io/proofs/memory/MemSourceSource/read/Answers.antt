use Rattle.std.proofs.Common.{◌≡◌, ℕ, [], ◌+◌, ◌≤◌, List, length, take, drop, ◌++◌, arith, sym, ap, ◌∙◌}
use Rattle.std.proofs.lemmas.Grind.{common_steps}
use Rattle.std.proofs.lemmas.List.{take_at, take-append-drop, drop-drop}
use Rattle.tc_io.proofs.memory.MemSourceSource.read.Goals as goal

-- the bytes that are given stand before the others
given : (xs part more : List ℕ) (at n : ℕ) → length part ≡ n → part ≡ take n (drop at xs) → drop at xs ≡ take n (part ++ more) ++ drop (at + n) xs
given xs part more at n l e =
    let front : take n (part ++ more) ≡ part = take_at part more n l in
    let rest : drop n (drop at xs) ≡ drop (at + n) xs = drop-drop n at xs in
    sym (take-append-drop n (drop at xs)) ∙ ap (λ ys. ys ++ drop n (drop at xs)) (sym (front ∙ e)) ∙ ap (λ ys. take n (part ++ more) ++ ys) rest

-- nothing is left behind the end
ended : (xs : List ℕ) (at : ℕ) → length xs ≤ at → drop at xs ≡ []
ended xs at h = grind (arith, common_steps)

pub returns-clause-bytes : goal.returns-clause-bytes
returns-clause-bytes c = rw (← c.self.view_is) (
  given c.self.inside.bytes.items c.copy_from_slice.new.self (drop c.min-count.result c.args.buf.now) c.self.inside.at c.min-count.result (grind (arith, common_steps)) (grind (arith, common_steps)),
  λ none room. ended c.self.inside.bytes.items (c.self.inside.at + c.min-count.result) (grind (arith, common_steps)),
)
