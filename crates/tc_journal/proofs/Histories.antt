-- A text is read line by line.
use Rattle.std.proofs.Common.{◌≡◌, ℕ, ◌+◌, ◌<◌, ◌≤◌, Bool, true, false, Option, Some, None, List, [], ◌∷◌, ◌++◌, length, length-append, map, take, drop, refl, sym, ap, subst, ◌∙◌, append_assoc, append-nil, arith}
use Rattle.std.proofs.lemmas.List.{map-append, take-append-drop, length-take-le}
use Rattle.std.proofs.lemmas.List.Concat.{flat_map-append}
use Rattle.std.proofs.Math.Seq.{drop-append_seam, take-append-add}
use Rattle.tc_journal.specs.declared.block.Block.{Block}
use Rattle.std.specs.Prelude.{is_some}
use Rattle.tc_journal.specs.declared.block.BlockV1.{BlockV1}
use Rattle.tc_journal.specs.Told.{Told, block_of, pc_or_0, told, told_if, with_pc}
use Rattle.tc_journal.specs.History.{IsTold, IsToldFrom, IsBlock, IsHistory}
use Rattle.tc_journal.specs.Line.{told_text, told_line, lines_text, history_text}
use Rattle.tc_journal.specs.Reading.{BeginsWith, IsTextOf, Reads}

-- the block of what a line tells, told again in the line's form
again : (form : Bool) (b : BlockV1) (pc : Option ℕ) → is_some pc ≡ form → told_if form (with_pc b (pc_or_0 pc)) ≡ record { block = b; pc = pc }
again true b None some = absurd (let no : false ≡ true = some in cc)
again true b (Some n) some = refl
again false b None some = refl
again false b (Some n) some = absurd (let no : true ≡ false = some in cc)

pub told_again : (form : Bool) (t : Told) → is_some t.pc ≡ form → told_if form (block_of t) ≡ t
told_again form t some = again form t.block t.pc some

-- one block more
pub lines_text_push : {B : Type 0} (told_of : B → Told) (h : List B) (b : B) → lines_text told_of (h ++ b ∷ []) ≡ lines_text told_of h ++ told_line (told_of b)
lines_text_push told_of h b = flat_map-append (λ x. told_line (told_of x)) h (b ∷ []) ∙ ap (λ t. lines_text told_of h ++ t) (append-nil (told_line (told_of b)))

pub IsToldFrom_push : {B : Type 0} (told_of : B → Told) (first : ℕ) (h : List B) (b : B) → IsToldFrom told_of first h → IsTold (told_of b) → (told_of b).block.stamp ≡ first + length h → IsToldFrom told_of first (h ++ b ∷ [])
IsToldFrom_push told_of first [] b i k e = (k, omega arith, tt)
IsToldFrom_push told_of first (x ∷ xs) b i k e = (i.0, i.1, IsToldFrom_push told_of (first + 1) xs b i.2 k (omega arith))

pub IsTold_push : {B : Type 0} (told_of : B → Told) (h : List B) (b : B) → IsToldFrom told_of 0 h → IsTold (told_of b) → (told_of b).block.stamp ≡ length h → IsToldFrom told_of 0 (h ++ b ∷ [])
IsTold_push told_of h b i k e = IsToldFrom_push told_of 0 h b i k (omega arith)

pub IsHistory_push : (h : List Block) (b : Block) → IsHistory h → IsBlock b → b.stamp ≡ length h → IsHistory (h ++ b ∷ [])
IsHistory_push = IsTold_push told

-- the block behind others
IsToldFrom_at : {B : Type 0} (told_of : B → Told) (first : ℕ) (before : List B) (b : B) (after : List B) → IsToldFrom told_of first (before ++ b ∷ after) → IsTold (told_of b) × ((told_of b).block.stamp ≡ first + length before)
IsToldFrom_at told_of first [] b after i = (i.0, omega (arith, i.1))
IsToldFrom_at told_of first (x ∷ xs) b after i =
    let rest = IsToldFrom_at told_of (first + 1) xs b after i.2 in
    (rest.0, omega (arith, rest.1))

-- of a history that the text has, these blocks are still to be read
pub record IsAhead {B : Type 0} (told_of : B → Told) (blocks : List B) (rest : List ℕ) (h : List B) (left : List ℕ) : Type 0 where
  pub todo : List B
  pub whole : h ≡ blocks ++ todo
  pub text : rest ≡ lines_text told_of todo ++ left

-- so it is with each history that the text has
abbrev pub HasAhead : {B : Type 0} → (B → Told) → List ℕ → List B → List ℕ → Type 0
HasAhead {B = B} told_of text blocks rest = (h : List B) (left : List ℕ) → Reads told_of text h left → IsAhead told_of blocks rest h left

pub at_start : {B : Type 0} (told_of : B → Told) (text : List ℕ) (h : List B) (left : List ℕ) → Reads told_of text h left → IsAhead told_of [] text h left
at_start told_of text h left r = record { todo = h; whole = refl; text = r.lines }

-- the next of them begins what is left of the text
next_begins : {B : Type 0} (told_of : B → Told) (blocks : List B) (rest : List ℕ) (h : List B) (left : List ℕ) (b : B) (todo : List B) → IsToldFrom told_of 0 h → h ≡ blocks ++ b ∷ todo → rest ≡ lines_text told_of (b ∷ todo) ++ left → BeginsWith rest (length blocks) (told_of b)
next_begins {B = B} told_of blocks rest h left b todo i whole text =
    let P : List B → Type 0 = IsToldFrom told_of 0 in
    let found = IsToldFrom_at told_of 0 blocks b todo (subst P whole i) in
    record { block = found.0; place = omega (arith, found.1); more = lines_text told_of todo ++ left; line = text ∙ append_assoc (told_line (told_of b)) (lines_text told_of todo) left }

-- where no line of a block stands, none is to be read
pub none_ahead : {B : Type 0} (told_of : B → Told) (text rest : List ℕ) (blocks h : List B) (left : List ℕ) → Reads told_of text h left → IsAhead told_of blocks rest h left → ((b : B) → BeginsWith rest (length blocks) (told_of b) → ⊥) → (h ≡ blocks) × (rest ≡ left)
none_ahead {B = B} told_of text rest blocks h left r a none = stopped a.todo a.whole a.text where
  stopped : (todo : List B) → h ≡ blocks ++ todo → rest ≡ lines_text told_of todo ++ left → (h ≡ blocks) × (rest ≡ left)
  stopped [] whole text = (whole ∙ append-nil blocks, text)
  stopped (b ∷ todo) whole text = absurd (none b (next_begins told_of blocks rest h left b todo r.history whole text))

-- a line holds a byte
pub line_some : (t : Told) → 0 < length (told_line t)
unfolding told_text
line_some t = omega (arith, length-append (told_text t) (10 ∷ []))

-- what stands behind a line that begins the text
pub behind_line : (rest : List ℕ) (line : List ℕ) (more : List ℕ) → rest ≡ line ++ more → drop (length line) rest ≡ more
behind_line rest line more e = ap (drop (length line)) e ∙ drop-append_seam line more

-- the line of a block is read
pub read_on : {B : Type 0} (told_of : B → Told) (text rest : List ℕ) (blocks h : List B) (left : List ℕ) (b : B) → Reads told_of text h left → IsAhead told_of blocks rest h left → (begins : BeginsWith rest (length blocks) (told_of b))
    → ((x : B) → BeginsWith rest (length blocks) (told_of x) → b ≡ x) → IsAhead told_of (blocks ++ b ∷ []) begins.more h left
read_on {B = B} told_of text rest blocks h left b r a begins every = onward a.todo a.whole a.text where
  onward : (todo : List B) → h ≡ blocks ++ todo → rest ≡ lines_text told_of todo ++ left → IsAhead told_of (blocks ++ b ∷ []) begins.more h left
  onward [] whole text =
      let all : h ≡ blocks = whole ∙ append-nil blocks in
      let same : length blocks ≡ length h = ap length (sym all) in
      absurd (r.stops b (subst (λ n. BeginsWith left n (told_of b)) same (subst (λ t. BeginsWith t (length blocks) (told_of b)) text begins)))
  onward (x ∷ todo) whole text =
      let same : x ≡ b = sym (every x (next_begins told_of blocks rest h left x todo r.history whole text)) in
      record {
        todo = todo;
        whole = whole ∙ ap (λ y. blocks ++ y ∷ todo) same ∙ sym (append_assoc blocks (b ∷ []) todo);
        text = sym (behind_line rest (told_line (told_of b)) begins.more begins.line)
            ∙ behind_line rest (told_line (told_of b)) (lines_text told_of todo ++ left) (text ∙ append_assoc (told_line (told_of x)) (lines_text told_of todo) left ∙ ap (λ y. told_line (told_of y) ++ (lines_text told_of todo ++ left)) same);
      }

-- no line stands in no text
pub none_begins : (text : List ℕ) (stamp : ℕ) (t : Told) → length text ≡ 0 → BeginsWith text stamp t → ⊥
none_begins text stamp t none begins = absurd (omega (arith, ap length begins.line, length-append (told_line t) begins.more, line_some t))

-- a history's text is read to its end
pub reads_history : {B : Type 0} (told_of : B → Told) (text : List ℕ) (h : List B) → IsTextOf told_of text h → Reads told_of text h []
reads_history told_of text h t = record {
  history = t.history;
  lines = t.lines ∙ sym (append-nil (lines_text told_of h));
  stops = λ b begins. none_begins [] (length h) (told_of b) refl begins;
}

-- what was read and what is left are the whole text still
pub lines_on : {B : Type 0} (told_of : B → Told) (text rest more : List ℕ) (blocks : List B) (b : B) → text ≡ lines_text told_of blocks ++ rest → rest ≡ told_line (told_of b) ++ more → text ≡ lines_text told_of (blocks ++ b ∷ []) ++ more
lines_on told_of text rest more blocks b lines line =
    lines ∙ ap (λ t. lines_text told_of blocks ++ t) line ∙ sym (append_assoc (lines_text told_of blocks) (told_line (told_of b)) more)
    ∙ ap (λ t. t ++ more) (sym (lines_text_push told_of blocks b))

-- the lines of the first blocks, and of some more
pub text_on : {X : Type 0} (block : X → Block) (d m : ℕ) (h : List X) → d ≤ length h → history_text (map block (take (d + m) h)) ≡ history_text (map block (take d h)) ++ history_text (map block (take m (drop d h)))
text_on block d m h low =
    let split : take (d + m) h ≡ take d h ++ take m (drop d h) =
    ap (λ n. take (n + m) h) (sym (length-take-le d h low)) ∙ ap (take (length (take d h) + m)) (sym (take-append-drop d h)) ∙ take-append-add (take d h) (drop d h) m in
    ap (λ bs. history_text (map block bs)) split ∙ ap history_text (map-append block (take d h) (take m (drop d h))) ∙ flat_map-append _ (map block (take d h)) (map block (take m (drop d h)))
