-- A scan of the hall that looks at one more thread.
use Rattle.std.proofs.Common.{◌≡◌, ◌≢◌, ℕ, ◌+◌, List, [], ◌∷◌, ◌++◌, length, refl, sym, ap, ◌∙◌, append_assoc, append-nil, length-append, arith}
use Rattle.std.proofs.lemmas.List.Elements.{All-push}
use Rattle.tc_hall.specs.declared.board.Knows.{Knows}
use Rattle.tc_hall.specs.declared.board.PassCall.{PassCall}
use Rattle.tc_hall.specs.declared.board.PassCall.TheVariants.{Look}
use Rattle.tc_hall.specs.Steps.{after_look}
use Rattle.tc_ready.specs.Scan.{looks_from, Looked, OnlyLooks, SawNone, SawReady}

looks_more : (t : ℕ) (words : List ℕ) (word : ℕ) → looks_from t (words ++ word ∷ []) ≡ looks_from t words ++ Look (t + length words) word ∷ []
looks_more t [] word = ap (λ (n : ℕ). Look n word ∷ []) (omega arith)
looks_more t (x ∷ words) word = ap (λ (l : List PassCall). Look t x ∷ l) (looks_more (t + 1) words word ∙ ap (λ (n : ℕ). looks_from (t + 1) words ++ Look n word ∷ []) (omega arith))

pub looked_more : (n : ℕ) (words : List ℕ) (word : ℕ) (v w x : Knows) → length words ≡ n → Looked words v w → x ≡ after_look w n word → Looked (words ++ word ∷ []) v x
looked_more n words word v w x count looked look =
    let calls : w.calls ++ Look n word ∷ [] ≡ v.calls ++ looks_from 0 (words ++ word ∷ []) =
    ap (λ (u : Knows). u.calls ++ Look n word ∷ []) looked ∙ (append_assoc v.calls (looks_from 0 words) (Look n word ∷ [])
    ∙ ap (λ (l : List PassCall). v.calls ++ l) (sym (looks_more 0 words word ∙ ap (λ (m : ℕ). looks_from 0 words ++ Look m word ∷ []) (omega arith)))) in
    look ∙ (ap (λ (u : Knows). record u { calls = w.calls ++ Look n word ∷ [] }) looked ∙ ap (λ (l : List PassCall). record v { calls = l }) calls)

pub nothing_looked : (v : Knows) → Looked [] v v
nothing_looked v = ap (λ (l : List PassCall). record v { calls = l }) (sym (append-nil v.calls))

pub scan_starts : (v : Knows) → SawNone 0 v v
scan_starts v = record { words = []; count = refl; busy = λ i d deep. absurd (omega arith); looked = nothing_looked v }

pub scan_passes : (n word : ℕ) (v w x : Knows) → SawNone n v w → word ≢ 0 → x ≡ after_look w n word → SawNone (n + 1) v x
scan_passes n word v w x none other look = record {
  words = none.words ++ word ∷ [];
  count = let a = length-append none.words (word ∷ []) in let b : length (word ∷ []) ≡ 1 = refl in let c = none.count in omega arith;
  busy = All-push (λ (z : ℕ). z ≢ 0) none.words word none.busy other;
  looked = looked_more n none.words word v w x none.count none.looked look;
}

pub scan_finds : (n : ℕ) (v w x : Knows) → SawNone n v w → x ≡ after_look w n 0 → SawReady n v x
scan_finds n v w x none look = record { words = none.words; count = none.count; busy = none.busy; looked = looked_more n none.words 0 v w x none.count none.looked look }

pub none_only : (n : ℕ) (v w : Knows) → SawNone n v w → OnlyLooks v w
none_only n v w none = record { words = none.words; looked = none.looked }

pub ready_only : (t : ℕ) (v w : Knows) → SawReady t v w → OnlyLooks v w
ready_only t v w ready = record { words = ready.words ++ 0 ∷ []; looked = ready.looked }

pub no_looks : (v : Knows) → OnlyLooks v v
no_looks v = record { words = []; looked = nothing_looked v }
