-- What a scan of the hall adds to the list of a pass.
use Rattle.std.specs.Prelude.{◌≡◌, ◌≢◌, ℕ, ◌+◌, List, [], ◌∷◌, ◌++◌, All, length}
use Rattle.tc_hall.specs.declared.board.Knows.{Knows}
use Rattle.tc_hall.specs.declared.board.PassCall.{PassCall}
use Rattle.tc_hall.specs.declared.board.PassCall.TheVariants.{Look}

-- the looks at the threads from t on that read these words
abbrev pub looks_from : ℕ → List ℕ → List PassCall
looks_from t [] = []
looks_from t (word ∷ words) = Look t word ∷ looks_from (t + 1) words

-- the threads from 0 on were looked at, these words were read, and nothing else of the pass has changed
abbrev pub Looked : List ℕ → Knows → Knows → Type 0
Looked words v w = w ≡ record v { calls = v.calls ++ looks_from 0 words }

-- only looks were added
pub record OnlyLooks (v w : Knows) : Type 0 where
  pub words : List ℕ
  pub looked : Looked words v w

-- each of the first n threads was looked at, and none was seen ready
pub record SawNone (n : ℕ) (v w : Knows) : Type 0 where
  pub words : List ℕ
  pub count : length words ≡ n
  pub busy : All (λ word. word ≢ 0) words
  pub looked : Looked words v w

-- the thread t was seen ready, and none before it
pub record SawReady (t : ℕ) (v w : Knows) : Type 0 where
  pub words : List ℕ
  pub count : length words ≡ t
  pub busy : All (λ word. word ≢ 0) words
  pub looked : Looked (words ++ 0 ∷ []) v w
