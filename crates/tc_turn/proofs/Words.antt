-- The foreign words of a block's turns.
use Rattle.tc_turn.proofs.Vocabulary.{◌≡◌, ℕ, zero, suc, ◌+◌, ◌≤◌, Bool, true, ◌==◌, [], ◌∷◌, ◌++◌, length, sym, ap, ◌∙◌, arith, append-nil, append_assoc, length-append, if◌then◌else◌, Option, Shown, wants_of, Want, guard_is_held, Thread, Mutex, next_lock, answer_to, Covers}
use Rattle.tc_turn.specs.Replay.{takes_word, word_of, words_from}
use Rattle.tc_turn.proofs.Turns.{answer_same}

-- one turn more
pub words_more : (image : Shown) (k : ℕ) (threads : ℕ → Thread) (locks : ℕ → ℕ → Mutex) (i n : ℕ)
    → words_from image k threads locks i (suc n) ≡ words_from image k threads locks i n ++ word_of image k (threads (i + n)) (locks (i + n))
words_more image k threads locks i zero = append-nil (word_of image k (threads i) (locks i)) ∙ ap (λ j. word_of image k (threads j) (locks j)) (let e : i ≡ i + 0 = omega arith in e)
words_more image k threads locks i (suc n) =
    ap (λ ws. word_of image k (threads i) (locks i) ++ ws)
    (words_more image k threads locks (i + 1) n ∙ ap (λ j. words_from image k threads locks (i + 1) n ++ word_of image k (threads j) (locks j)) (let e : i + 1 + n ≡ i + suc n = omega arith in e))
    ∙ sym (append_assoc (word_of image k (threads i) (locks i)) (words_from image k threads locks (i + 1) n) (word_of image k (threads (i + suc n)) (locks (i + suc n))))

-- a turn's word is the same where its thread and the locks that a set covers are
pub word_same : (image : Shown) (set : ℕ → Bool) (k : ℕ) (d : Thread) (a b : ℕ → Mutex) → Covers image set d → ((j : ℕ) → set j ≡ true → a j ≡ b j) → word_of image k d a ≡ word_of image k d b
unfolding word_of
word_same image set k d a b covers same =
    ap (λ v. if d.fuel == 0 then [] else (if takes_word k (wants_of image d.held d.regs) (next_lock image d) then v ∷ [] else []))
    (answer_same image set (wants_of image d.held d.regs) (next_lock image d) d.own a b (λ lock addr width e. covers.held lock (guard_is_held image d.held d.regs lock addr width e)) covers.next same)

-- each turn has one word or none
pub word_short : (image : Shown) (k : ℕ) (d : Thread) (locks : ℕ → Mutex) → length (word_of image k d locks) ≤ 1
unfolding word_of
word_short image k d locks = grind arith

pub words_short : (image : Shown) (k : ℕ) (threads : ℕ → Thread) (locks : ℕ → ℕ → Mutex) (i n : ℕ) → length (words_from image k threads locks i n) ≤ n
words_short image k threads locks i zero = omega arith
words_short image k threads locks i (suc n) =
    omega (arith, word_short image k (threads i) (locks i), words_short image k threads locks (i + 1) n, length-append (word_of image k (threads i) (locks i)) (words_from image k threads locks (i + 1) n))

-- a turn's word, told by what the turn wants, the lock that it takes and its answer
pub words_now : (image : Shown) (d : Thread) (locks : ℕ → Mutex) (k : ℕ) (wanted : Want) (next : Option ℕ) (answer : ℕ)
    → wanted ≡ wants_of image d.held d.regs → next ≡ next_lock image d → answer ≡ answer_to image wanted next d.own locks
    → (if d.fuel == 0 then [] else (if takes_word k wanted next then answer ∷ [] else [])) ≡ word_of image k d locks
unfolding word_of
words_now image d locks k wanted next answer w n a = grind arith
