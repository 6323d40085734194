-- A block's entry is the same wherever its thread and its locks are the same.
use Rattle.std.proofs.Common.{◌≡◌, ℕ, zero, suc, ◌+◌, ◌<◌, Bool, ◌++◌, refl, ap, ◌∙◌, arith}
use Rattle.tc_elf.specs.Shown.{Shown}
use Rattle.tc_journal.specs.declared.block.Block.{Block}
use Rattle.tc_turn.specs.Reads.{Covers}
use Rattle.tc_turn.specs.Replay.{word_of}
use Rattle.tc_turn.proofs.Words.{word_same}
use Rattle.tc_mutex_spec.specs.Machine.{State}
use Rattle.tc_mutex_spec.specs.Locality.{Agree}
use Rattle.tc_mutex_spec.specs.Blocks.{reach, Runs}
use Rattle.tc_mutex_spec.specs.Entries.{entry_of}
use Rattle.tc_mutex_spec.proofs.BlocksAlike.{covers_within, agree_within}
use Rattle.tc_mutex_spec.proofs.Replaying.{word_at, words_at}

words_same : (image : Shown) (lock t i n turns : ℕ) (set : ℕ → Bool) (a b : State) → i + n ≡ turns
    → ((k : ℕ) → k < turns → Covers image set ((reach image a t k).threads t)) → ((k : ℕ) → k < turns + 1 → Agree t set (reach image a t k) (reach image b t k))
    → words_at image lock a t i n ≡ words_at image lock b t i n
words_same image lock t i zero turns set a b e covers agree = refl
words_same image lock t i (suc n) turns set a b e covers agree =
    let same = agree i (omega (arith, e)) in
    let here : word_at image lock (reach image a t i) t ≡ word_at image lock (reach image b t i) t =
    word_same image set lock ((reach image a t i).threads t) (reach image a t i).locks (reach image b t i).locks (covers i (omega (arith, e))) same.locks
    ∙ ap (λ d. word_of image lock d (reach image b t i).locks) same.thread in
    let rest = words_same image lock t (i + 1) n turns set a b (omega (arith, e)) covers agree in
    λ j. here j ++ rest j

-- a block has the same entry wherever its thread and its locks are the same
pub entry_same : (image : Shown) (lock : ℕ) (set : ℕ → Bool) (a b last : State) (block : Block) → Runs image a block.thread block.turns block.end last → Covers image set (a.threads block.thread) → Agree block.thread set a b
    → entry_of image lock a block ≡ entry_of image lock b block
entry_same image lock set a b last block runs covers agree =
    let t = block.thread in
    let n = block.turns in
    let each = covers_within image set a t n covers runs.before in
    let alike = agree_within image set a b t n each agree in
    let words = words_same image lock t 0 n n set a b (omega arith) each alike in
    let d : a.threads t ≡ b.threads t = agree.thread in
    let f : (reach image a t n).threads t ≡ (reach image b t n).threads t = (alike n (omega arith)).thread in
    λ i. record { block = block; start = (d i).regs; fuel = (d i).fuel; finish = (f i).regs; foreign = words i }
