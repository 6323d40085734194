-- Words that are noted one after another.
use Rattle.tc_segment.proofs.Vocabulary.{◌≡◌, ℕ, ◌+◌, ◌-◌, Bool, true, false, List, [], ◌++◌, length, refl, sym, ap, ◌∙◌, arith, append-nil, append_assoc, length-append, Option, Some, None, is_some, option_map, if◌then◌else◌, Journal, Opened, more_words, noted}

more_nil : (o : Option Opened) → option_map (more_words []) o ≡ o
more_nil None = refl
more_nil (Some o) = (let e = append-nil o.foreign in λ i. Some (record { start = o.start; fuel = o.fuel; from = o.from; foreign = e i }))

less_nil : (b : Bool) (n : ℕ) → (if b then n - 0 else n) ≡ n
less_nil true n = omega arith
less_nil false n = refl

pub noted_nil : (j : Journal) → noted [] j ≡ j
noted_nil j =
    λ i. record { image = j.image; limit = j.limit; strict = j.strict; sealed = j.sealed; closed = j.closed; opened = (more_nil j.opened) i; entry_room = j.entry_room; word_room = (less_nil (is_some j.opened) j.word_room) i }

more_more : (ws vs : List ℕ) (o : Option Opened) → option_map (more_words vs) (option_map (more_words ws) o) ≡ option_map (more_words (ws ++ vs)) o
more_more ws vs None = refl
more_more ws vs (Some o) = (let e = append_assoc o.foreign ws vs in λ i. Some (record { start = o.start; fuel = o.fuel; from = o.from; foreign = e i }))

pub more_some : (ws : List ℕ) (o : Option Opened) → is_some (option_map (more_words ws) o) ≡ is_some o
more_some ws None = refl
more_some ws (Some o) = refl

less_more : (b : Bool) (n v w : ℕ) → (if b then (if b then n - v else n) - w else (if b then n - v else n)) ≡ (if b then n - (v + w) else n)
less_more true n v w = omega arith
less_more false n v w = refl

pub noted_more : (ws vs : List ℕ) (j : Journal) → noted vs (noted ws j) ≡ noted (ws ++ vs) j
noted_more ws vs j =
    let after = ap (λ b. let n = (if is_some j.opened then j.word_room - length ws else j.word_room) in if b then n - length vs else n) (more_some ws j.opened) in
    let r = after ∙ less_more (is_some j.opened) j.word_room (length ws) (length vs) ∙ ap (λ n. if is_some j.opened then j.word_room - n else j.word_room) (sym (length-append ws vs)) in
    λ i. record { image = j.image; limit = j.limit; strict = j.strict; sealed = j.sealed; closed = j.closed; opened = (more_more ws vs j.opened) i; entry_room = j.entry_room; word_room = r i }
