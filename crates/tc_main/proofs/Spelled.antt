-- What the words of options tell.
use Rattle.std.proofs.Common.{◌≡◌, ℕ, List, [], Option, None, Some, get_or, ap, arith}
use Rattle.std.specs.Prelude.{IfNone}
use Rattle.std.proofs.lemmas.Fmt.{decimal_injective}
use Rattle.tc_isa.specs.declared.options.Options.{Options}
use Rattle.tc_main.specs.Words.{option_words}

-- options with the same words have the same number of workers
pub same_workers : (a b : Options) → option_words a ≡ option_words b → a.workers ≡ b.workers
same_workers a b e =
    let few = a.most_workers in
    let few_too = b.most_workers in
    decimal_injective a.workers b.workers (omega arith) (omega arith) (ap (λ (words : List (List ℕ)). get_or words 0 []) e)

-- what holds, holds where there is no value
pub if_none : {T : Type 0} (o : Option T) (P : Type 0) → P → IfNone o P
if_none None P p = p
if_none (Some x) P p = grind arith
