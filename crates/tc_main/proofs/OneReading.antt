-- A text is that of one history at most, and is wrong at one line at most.
use Rattle.std.proofs.Common.{◌≡◌, ℕ, ◌+◌, ◌<◌, ◌≤◌, ◌==◌, ◌^◌, List, [], ◌∷◌, ◌++◌, w32, length, length-append, refl, sym, ap, subst, ◌∙◌, append_assoc, append-nil, arith}
use Rattle.std.specs.Prelude.{codes, decimal, if◌then◌else◌}
use Rattle.std.specs.Int.{from_be_bytes}
use Rattle.std.specs.List.{flat_map}
use Rattle.std.specs.Str.Parse.{AllDigits, digits_value}
use Rattle.std.proofs.lemmas.Fmt.{decimal_injective, decimal_is_IsNumeral, decimal_nonempty}
use Rattle.std.proofs.lemmas.Str.Parse.{digit_from_value}
use Rattle.std.proofs.lemmas.List.{append_cancel_left}
use Rattle.tc_isa.specs.Faults.{fault_number}
use Rattle.tc_isa.specs.Sets.{locks_of}
use Rattle.tc_isa.specs.declared.limits.TheConstants.{MAX_TURNS}
use Rattle.tc_isa.specs.declared.fault.Fault.{Fault as GuestFault}
use Rattle.tc_isa.specs.declared.fault.Fault.TheVariants as fault
use Rattle.tc_journal.specs.Digits.{hex8}
use Rattle.tc_journal.specs.History.{IsBlock, IsEnd, IsHistoryFrom}
use Rattle.tc_journal.specs.Line.{comma_text, kind_text, numbers_text, lines_text, told_line}
use Rattle.tc_journal.specs.Reading.{BeginsWith, IsTextOf, IsFirstWrong}
use Rattle.tc_journal.specs.Spelling.{before, behind, end_word, end_number, rest_of, value_of}
use Rattle.tc_journal.specs.Told.{told}
use Rattle.tc_journal.specs.declared.block.Block.{Block}
use Rattle.tc_journal.specs.declared.block.Kind.{Kind}
use Rattle.tc_journal.specs.declared.block.Kind.TheVariants.{Start, On, Taken, Adopted, Granted}
use Rattle.tc_journal.specs.declared.block.End.{End}
use Rattle.tc_journal.specs.declared.block.End.TheVariants.{Wants, Unlocked, Slept, Cut, Exit, Fault, Spent}
use Rattle.tc_journal.proofs.Fields.{from_end, has_end, has_fields, pc_field, small_fault}
use Rattle.tc_journal.proofs.HexWord.{bytes, decoded, word_of_bytes}
use Rattle.tc_journal.proofs.Histories.{none_begins}
use Rattle.tc_journal.proofs.Sets.{AreLocks, AreLocks-locks_of, with_locks, with_locks-locks_of}
use Rattle.tc_journal.proofs.Words.{commas, split-all, split-commas}

-- ---- the words of a line tell its fields

-- the kind and the fault that have this text and this number
kind_by : List ℕ → Kind
kind_by [] = Start
kind_by (c ∷ cs) = if c == 115 then Start else if c == 111 then On else if c == 116 then Taken else if c == 97 then Adopted else Granted

kind_is : (kind : Kind) → kind_by (kind_text kind) ≡ kind
unfolding kind_by
kind_is Start = refl
kind_is On = refl
kind_is Taken = refl
kind_is Adopted = refl
kind_is Granted = refl

fault_by : ℕ → GuestFault
fault_by n =
    if n == 1 then fault.Illegal else if n == 2 then fault.Fetch else if n == 3 then fault.JumpTarget else if n == 4 then fault.Load else if n == 5 then fault.Store else if n == 6 then fault.Misaligned
    else if n == 7 then fault.Unguarded else if n == 8 then fault.Break else if n == 9 then fault.BadCall else if n == 10 then fault.BadLock else if n == 11 then fault.LockOrder else fault.NotHeld

fault_is : (f : GuestFault) → fault_by (fault_number f) ≡ f
unfolding fault_by
fault_is fault.Illegal = refl
fault_is fault.Fetch = refl
fault_is fault.JumpTarget = refl
fault_is fault.Load = refl
fault_is fault.Store = refl
fault_is fault.Misaligned = refl
fault_is fault.Unguarded = refl
fault_is fault.Break = refl
fault_is fault.BadCall = refl
fault_is fault.BadLock = refl
fault_is fault.LockOrder = refl
fault_is fault.NotHeld = refl

-- the end that has this word, by its first two letters, and this number
end_by : List ℕ → ℕ → End
end_by [] n = Slept
end_by (c ∷ []) n = Slept
end_by (c ∷ d ∷ cs) n =
    if c + d == 216 then (if d == 97 then Wants n else Cut) else if c + d == 227 then (if d == 110 then Unlocked n else Spent)
    else if c + d == 221 then Exit else if c + d == 199 then Fault (fault_by n) else Slept

value_is : (n : ℕ) → n < 2 ^ 64 → digits_value 10 (decimal n) ≡ n
value_is n small = (decimal_is_IsNumeral n small).1

end_is : (e : End) → IsEnd e → end_by (end_word e) (digits_value 10 (end_number e)) ≡ e
unfolding end_by
end_is (Wants lock) small = ap Wants (value_is lock (omega (arith, small)))
end_is (Unlocked lock) small = ap Unlocked (value_is lock (omega (arith, small)))
end_is Slept small = refl
end_is Cut small = refl
end_is Exit small = refl
end_is (Fault f) small = ap (λ n. Fault (fault_by n)) (value_is (fault_number f) (small_fault f)) ∙ ap Fault (fault_is f)
end_is Spent small = refl

one_list : (ns ms : List ℕ) → AreLocks ns → AreLocks ms → commas ns ≡ commas ms → ns ≡ ms
one_list [] [] a b e = refl
one_list [] (m ∷ ms) a b e =
    let first = b.0 in
    absurd (omega (arith, ap length e, length-append (decimal m) (flat_map comma_text ms), decimal_nonempty m (omega (arith, first))))
one_list (n ∷ ns) [] a b e =
    let first = a.0 in
    absurd (omega (arith, ap length e, length-append (decimal n) (flat_map comma_text ns), decimal_nonempty n (omega (arith, first))))
one_list (n ∷ ns) (m ∷ ms) a b e =
    let small : n < 2 ^ 64 = (let first = a.0 in omega (arith, first)) in
    let small_too : m < 2 ^ 64 = (let first = b.0 in omega (arith, first)) in
    let head : n ≡ m = decimal_injective n m small small_too (sym ((split-commas n ns small).0) ∙ ap (before 44) e ∙ (split-commas m ms small_too).0) in
    let tail : ns ≡ ms = one_list ns ms a.1 b.1 (sym ((split-commas n ns small).1) ∙ ap (behind 44) e ∙ (split-commas m ms small_too).1) in
    λ i. head i ∷ tail i

no_minus : (n : ℕ) → n < 2 ^ 64 → decimal n ≡ 45 ∷ [] → ⊥
no_minus n small e =
    let digit = digit_from_value 45 (subst (AllDigits 10) e (decimal_is_IsNumeral n small).0.1).0 in
    omega (arith, digit)

no_dash : (m : ℕ) (ms : List ℕ) → m < 32 → codes "-" ≡ commas (m ∷ ms) → ⊥
no_dash m ms small e =
    no_minus m (omega (arith, small)) (sym ((split-commas m ms (omega (arith, small))).0) ∙ ap (before 44) (sym e) ∙ (split-all 44 (codes "-") refl).0)

one_numbers : (ns ms : List ℕ) → AreLocks ns → AreLocks ms → numbers_text ns ≡ numbers_text ms → ns ≡ ms
one_numbers [] [] a b e = refl
one_numbers [] (m ∷ ms) a b e = absurd (no_dash m ms b.0 e)
one_numbers (n ∷ ns) [] a b e = absurd (no_dash n ns a.0 (sym e))
one_numbers (n ∷ ns) (m ∷ ms) a b e = one_list (n ∷ ns) (m ∷ ms) a b e

one_set : (x y : ℕ) → x < 2 ^ 32 → y < 2 ^ 32 → numbers_text (locks_of x) ≡ numbers_text (locks_of y) → x ≡ y
one_set x y small small_too e =
    sym (with_locks-locks_of x small)
    ∙ ap (with_locks 0) (one_numbers (locks_of x) (locks_of y) (AreLocks-locks_of x) (AreLocks-locks_of y) e)
    ∙ with_locks-locks_of y small_too

one_word : (x y : ℕ) → x < 2 ^ 32 → y < 2 ^ 32 → hex8 x ≡ hex8 y → x ≡ y
one_word x y small small_too e =
    let same : bytes x ≡ bytes y = cc (decoded x, decoded y, e) in
    sym (word_of_bytes x small) ∙ ap (from_be_bytes w32) same ∙ word_of_bytes y small_too

small_number : (n m : ℕ) → n < 2 ^ 32 → m < 2 ^ 32 → decimal n ≡ decimal m → n ≡ m
small_number n m small small_too e = decimal_injective n m (omega (arith, small)) (omega (arith, small_too)) e

few_turns : (n : ℕ) → n ≤ MAX_TURNS → n < 2 ^ 32
few_turns n few = omega (arith, few)

-- ---- one line, one history

one_block : (a b : Block) (more rest : List ℕ) → IsBlock a → IsBlock b → told_line (told a) ++ more ≡ told_line (told b) ++ rest → a ≡ b
one_block a b more rest is is_too e =
    let f = has_fields (told a) more (told_line (told a) ++ more) is refl in
    let g = has_fields (told b) rest (told_line (told a) ++ more) is_too e in
    let x = pc_field a.pc (codes "end " ++ from_end (told a) more) in
    let y = pc_field b.pc (codes "end " ++ from_end (told b) rest) in
    let from = sym f.pc ∙ g.pc in
    let ends : codes "end " ++ from_end (told a) more ≡ codes "end " ++ from_end (told b) rest = sym x.1 ∙ ap rest_of from ∙ y.1 in
    let h = has_end (told a) more (codes "end " ++ from_end (told a) more) is refl in
    let k = has_end (told b) rest (codes "end " ++ from_end (told a) more) is_too ends in
    let stamp : a.stamp ≡ b.stamp = decimal_injective a.stamp b.stamp is.stamp is_too.stamp (sym f.stamp ∙ g.stamp) in
    let thread : a.thread ≡ b.thread = small_number a.thread b.thread is.thread is_too.thread (sym f.thread ∙ g.thread) in
    let turns : a.turns ≡ b.turns = small_number a.turns b.turns (few_turns a.turns is.most_turns) (few_turns b.turns is_too.most_turns) (sym f.turns ∙ g.turns) in
    let held : a.held ≡ b.held = one_set a.held b.held is.held is_too.held (sym f.held ∙ g.held) in
    let kind : a.kind ≡ b.kind = sym (kind_is a.kind) ∙ ap kind_by (sym f.kind ∙ g.kind) ∙ kind_is b.kind in
    let worker : a.worker ≡ b.worker = small_number a.worker b.worker is.worker is_too.worker (sym f.worker ∙ g.worker) in
    let pc : a.pc ≡ b.pc = one_word a.pc b.pc is.pc is_too.pc (sym x.0 ∙ ap value_of from ∙ y.0) in
    let word : end_word a.end ≡ end_word b.end = sym h.word ∙ k.word in
    let number : end_number a.end ≡ end_number b.end = sym h.number ∙ k.number in
    let end : a.end ≡ b.end = sym (end_is a.end is.end) ∙ (λ i. end_by (word i) (digits_value 10 (number i))) ∙ end_is b.end is_too.end in
    λ i. record { stamp = stamp i; thread = thread i; turns = turns i; held = held i; kind = kind i; worker = worker i; pc = pc i; end = end i }

-- no line of a block with this stamp begins the text
abbrev Stops : List ℕ → ℕ → Type 0
Stops text stamp = (b : Block) → BeginsWith text stamp (told b) → ⊥

begins : (b : Block) (stamp : ℕ) (rest left : List ℕ) → IsBlock b → b.stamp ≡ stamp → BeginsWith ((told_line (told b) ++ rest) ++ left) stamp (told b)
begins b stamp rest left is place = record { block = is; place = place; more = rest ++ left; line = append_assoc (told_line (told b)) rest left }

one_reading : (first : ℕ) (h g : List Block) (left behind : List ℕ) → IsHistoryFrom first h → IsHistoryFrom first g → lines_text told h ++ left ≡ lines_text told g ++ behind
    → Stops left (first + length h) → Stops behind (first + length g) → (h ≡ g) × (left ≡ behind)
one_reading first [] [] left behind a b e stops stops_too = (refl, e)
one_reading first [] (y ∷ g) left behind a b e stops stops_too =
    absurd (stops y (subst (λ t. BeginsWith t (first + 0) (told y)) (sym e) (begins y (first + 0) (lines_text told g) behind b.0 (let at : y.stamp ≡ first = b.1 in omega (arith, at)))))
one_reading first (x ∷ h) [] left behind a b e stops stops_too =
    absurd (stops_too x (subst (λ t. BeginsWith t (first + 0) (told x)) e (begins x (first + 0) (lines_text told h) left a.0 (let at : x.stamp ≡ first = a.1 in omega (arith, at)))))
one_reading first (x ∷ h) (y ∷ g) left behind a b e stops stops_too =
    let lines = sym (append_assoc (told_line (told x)) (lines_text told h) left) ∙ e ∙ append_assoc (told_line (told y)) (lines_text told g) behind in
    let same : x ≡ y = one_block x y (lines_text told h ++ left) (lines_text told g ++ behind) a.0 b.0 lines in
    let more : lines_text told h ++ left ≡ lines_text told g ++ behind =
    append_cancel_left (told_line (told x)) (lines_text told h ++ left) (lines_text told g ++ behind) (lines ∙ ap (λ z. told_line (told z) ++ (lines_text told g ++ behind)) (sym same)) in
    let rest = one_reading (first + 1) h g left behind a.2 b.2 more
    (subst (Stops left) (let n : first + length (x ∷ h) ≡ (first + 1) + length h = omega arith in n) stops)
    (subst (Stops behind) (let n : first + length (y ∷ g) ≡ (first + 1) + length g = omega arith in n) stops_too) in
    (λ i. same i ∷ rest.0 i, rest.1)

from_zero : (text : List ℕ) (n : ℕ) → Stops text n → Stops text (0 + n)
from_zero text n stops = subst (Stops text) (let e : n ≡ 0 + n = omega arith in e) stops

none_left : (stamp : ℕ) → Stops [] stamp
none_left stamp b line = none_begins [] stamp (told b) refl line

pub one_history : (text : List ℕ) (h g : List Block) → IsTextOf told text h → IsTextOf told text g → h ≡ g
one_history text h g a b =
    (one_reading 0 h g [] [] a.history b.history (append-nil (lines_text told h) ∙ sym a.lines ∙ b.lines ∙ sym (append-nil (lines_text told g))) (none_left (0 + length h)) (none_left (0 + length g))).0

pub never_wrong : (text : List ℕ) (h : List Block) (line : ℕ) → IsTextOf told text h → IsFirstWrong told text line → ⊥
never_wrong text h line a wrong =
    let same = one_reading 0 h wrong.before [] wrong.left a.history wrong.reads.history (append-nil (lines_text told h) ∙ sym a.lines ∙ wrong.reads.lines)
    (none_left (0 + length h)) (from_zero wrong.left (length wrong.before) wrong.reads.stops) in
    wrong.some (sym same.1)

pub one_line : (text : List ℕ) (line other : ℕ) → IsFirstWrong told text line → IsFirstWrong told text other → line ≡ other
one_line text line other a b =
    let same = one_reading 0 a.before b.before a.left b.left a.reads.history b.reads.history (sym a.reads.lines ∙ b.reads.lines)
    (from_zero a.left (length a.before) a.reads.stops) (from_zero b.left (length b.before) b.reads.stops) in
    a.number ∙ ap (λ (h : List Block). length h + 1) same.0 ∙ sym b.number
