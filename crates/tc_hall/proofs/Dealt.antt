-- Passes that are taken from a list of passes of one hall.
use Rattle.std.proofs.Common.{◌≡◌, ℕ, List, [], ◌∷◌, ◌++◌, length, Option, Some, refl, ap, ◌∙◌}
use Rattle.tc_hall.proofs.Vocabulary.{PassView, get_elem?, some}
use Rattle.std.specs.Option.{option_to_list}
use Rattle.atomic_table.proofs.Lists.{at_longer, at_last}

abbrev pub AreAll : (PassView → Type 0) → List PassView → Type 0
AreAll P passes = (i : ℕ) (p : PassView) → get_elem? passes i ≡ some p → P p

pub popped : (P : PassView → Type 0) (before after : List PassView) (o : Option PassView) (p : PassView) → AreAll P before → before ≡ after ++ option_to_list o → o ≡ Some p → P p × AreAll P after
popped P before after o p all e is =
    let same : before ≡ after ++ p ∷ [] = e ∙ ap (λ (x : Option PassView). after ++ option_to_list x) is in (
      all (length after) p (ap (λ (l : List PassView). get_elem? l (length after)) same ∙ at_last after p (length after) refl),
      λ i q h. all i q (ap (λ (l : List PassView). get_elem? l i) same ∙ at_longer after (p ∷ []) i q h),
    )

-- the last of them, and the one before it
pub last_two : (P : PassView → Type 0) (all rest least : List PassView) (o u : Option PassView) (p q : PassView) → AreAll P all → all ≡ rest ++ option_to_list o → o ≡ Some p → rest ≡ least ++ option_to_list u → u ≡ Some q → P q × P p
last_two P all rest least o u p q each e is f is' = let a = popped P all rest o p each e is in ((popped P rest least u q a.1 f is').0, a.0)
