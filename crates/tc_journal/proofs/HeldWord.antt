-- How a list of locks is read, number by number.
use Rattle.std.proofs.Common.{◌≡◌, ℕ, ◌^◌, ◌<◌, List, [], ◌∷◌, ◌++◌, length, length-append, refl, sym, ap, ◌∙◌, arith}
use Rattle.std.specs.Prelude.{codes, decimal}
use Rattle.std.specs.List.{flat_map}
use Rattle.std.specs.Str.Parse.{AllDigits}
use Rattle.std.proofs.lemmas.Fmt.{decimal_is_IsNumeral, decimal_nonempty}
use Rattle.std.proofs.lemmas.Str.Parse.{digit_from_value}
use Rattle.tc_isa.specs.Sets.{locks_of, with_lock}
use Rattle.tc_journal.specs.Line.{comma_text, numbers_text}
use Rattle.tc_journal.specs.Spelling.{before, behind}
use Rattle.tc_journal.proofs.Sets.{AreLocks, with_locks, with_locks-locks_of, AreLocks-locks_of}
use Rattle.tc_journal.proofs.Words.{commas, split-commas}

-- the text has the locks of the set that are not held yet
pub record Remains (text : List ℕ) (held set : ℕ) : Type 0 where
  pub locks : List ℕ
  pub is : text ≡ commas locks
  pub small : AreLocks locks
  pub whole : with_locks held locks ≡ set

-- it begins with a lock, and others follow
pub record Next (text : List ℕ) (held set : ℕ) : Type 0 where
  pub lock : ℕ
  pub small : lock < 32
  pub is : before 44 text ≡ decimal lock
  pub rest : Remains (behind 44 text) (with_lock held lock) set

no_dash : (word more : List ℕ) → AllDigits 10 word → 0 < length word → codes "-" ≡ word ++ more → ⊥
no_dash [] more d some e = absurd (omega arith)
no_dash (c ∷ cs) more d some e =
    let first : 45 ≡ c = cc in
    let digit = digit_from_value c d.0 in
    absurd (omega (arith, first, digit))

listed : (ns word : List ℕ) → word ≡ numbers_text ns → (word ≡ codes "-" → ⊥) → word ≡ commas ns
listed [] word e some = absurd (some e)
listed (n ∷ ns) word e some = e

dashed : (ns word : List ℕ) → AreLocks ns → word ≡ numbers_text ns → word ≡ codes "-" → ns ≡ []
dashed [] word small e dash = refl
dashed (n ∷ ns) word small e dash =
    let first = small.0 in
    let numeral = decimal_is_IsNumeral n (omega arith) in
    absurd (no_dash (decimal n) (flat_map comma_text ns) numeral.0.1 numeral.0.0 (sym dash ∙ e))

pub begins : (set : ℕ) (word : List ℕ) → set < 2 ^ 32 → word ≡ numbers_text (locks_of set) → (word ≡ codes "-" → ⊥) → Remains word 0 set
begins set word small e some =
    record { locks = locks_of set; is = listed (locks_of set) word e some; small = AreLocks-locks_of set; whole = with_locks-locks_of set small }

pub empty_set : (set : ℕ) (word : List ℕ) → set < 2 ^ 32 → word ≡ numbers_text (locks_of set) → word ≡ codes "-" → set ≡ 0
empty_set set word small e dash =
    sym (with_locks-locks_of set small) ∙ ap (with_locks 0) (dashed (locks_of set) word (AreLocks-locks_of set) e dash)

next_of : (locks text : List ℕ) (held set : ℕ) → text ≡ commas locks → AreLocks locks → with_locks held locks ≡ set → 0 < length text → Next text held set
next_of [] text held set is small whole some = absurd (omega (arith, ap length is))
next_of (n ∷ ns) text held set is small whole some =
    let first = small.0 in
    let parts = split-commas n ns (omega arith) in
    record {
      lock = n;
      small = first;
      is = ap (before 44) is ∙ parts.0;
      rest = record { locks = ns; is = ap (behind 44) is ∙ parts.1; small = small.1; whole = whole };
    }

pub next : (text : List ℕ) (held set : ℕ) → Remains text held set → 0 < length text → Next text held set
next text held set r some = next_of r.locks text held set r.is r.small r.whole some

ended : (locks text : List ℕ) (held set : ℕ) → text ≡ commas locks → AreLocks locks → with_locks held locks ≡ set → length text ≡ 0 → held ≡ set
ended [] text held set is small whole none = whole
ended (n ∷ ns) text held set is small whole none =
    let first = small.0 in
    absurd (omega (arith, ap length is, length-append (decimal n) (flat_map comma_text ns), decimal_nonempty n (omega arith)))

pub ends : (text : List ℕ) (held set : ℕ) → Remains text held set → length text ≡ 0 → held ≡ set
ends text held set r none = ended r.locks text held set r.is r.small r.whole none
