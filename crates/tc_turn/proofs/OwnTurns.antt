-- What an instruction does in a loop over steps.
use Rattle.tc_turn.proofs.Vocabulary.{◌≡◌, ℕ, ◌==◌, Bool, true, false, arith, refl, ap, ◌∙◌, if◌then◌else◌, Option, Some, None, Ok, Shown, Registers, Region, instruction_at, act_by, wants_by, act_from, wants_from, act_of, wants_of, Act, Thread, Mutex, Guest, taken_by, next_lock, next_act, answer_of, answer_to, own_after, has, HasExecuted, own_number}
use Rattle.tc_isa.specs.declared.instr.Instr.{Instr}
use Rattle.tc_elf.specs.declared.image.Region.TheVariants as region
use Rattle.tc_exec.specs.Access.{load, put_at, store}
use Rattle.tc_exec.specs.Effects.{Executes, act_after, want_after}
use Rattle.tc_exec.specs.Touch.{is_own}
use Rattle.tc_exec.specs.declared.execute.Effect.{Effect}
use Rattle.tc_exec.specs.declared.execute.Effect.TheVariants as effect
use Rattle.tc_exec.specs.declared.outcome.Want.TheVariants as want

-- a turn that goes on
pub none_next : (image : Shown) (d : Thread) → (d.fuel == 0) ≡ false → taken_by (act_of image d.held d.regs 0) ≡ None → next_lock image d ≡ None
unfolding next_lock
none_next image d some free = ap (λ b. if b then None else taken_by (act_of image d.held d.regs 0)) some ∙ free

pub next_is : (image : Shown) (d : Thread) (locks : ℕ → Mutex) (a : Act) → (d.fuel == 0) ≡ false → act_of image d.held d.regs (answer_of image d locks) ≡ a → next_act image d locks ≡ Some a
unfolding next_act
next_is image d locks a some act = ap (λ b. if b then None else Some (act_of image d.held d.regs (answer_of image d locks))) some ∙ ap Some act

-- what the next instruction does, where it is known
act_is : (image : Shown) (held : ℕ → Bool) (r : Registers) (i : Instr) (answer : ℕ) → instruction_at image r.pc ≡ Ok i → act_of image held r answer ≡ act_by image held r answer i
unfolding act_of
act_is image held r i answer at = ap (act_from image held r answer) at

want_is : (image : Shown) (held : ℕ → Bool) (r : Registers) (i : Instr) → instruction_at image r.pc ≡ Ok i → wants_of image held r ≡ wants_by image held r i
unfolding wants_of
want_is image held r i at = ap (wants_from image held r) at

act_found : (image : Shown) (g : Guest) (next : Registers) (i : Instr) (e : Effect) → instruction_at image g.regs.pc ≡ Ok i → Executes i g.regs next e → (answer : ℕ) → act_of image (has g.held) g.regs answer ≡ act_after image (has g.held) next answer e
act_found image g next i e at is answer = act_is image (has g.held) g.regs i answer at ∙ is.act image (has g.held) answer

want_found : (image : Shown) (g : Guest) (next : Registers) (i : Instr) (e : Effect) → instruction_at image g.regs.pc ≡ Ok i → Executes i g.regs next e → wants_of image (has g.held) g.regs ≡ want_after image (has g.held) e
want_found image g next i e at is = want_is image (has g.held) g.regs i at ∙ is.want image (has g.held)

pub executed : (image : Shown) (g : Guest) (next : Registers) (i : Instr) (e : Effect) → instruction_at image g.regs.pc ≡ Ok i → Executes i g.regs next e → HasExecuted image g (record g { regs = next }) e
executed image g next i effect.Went at is = (record { act = act_found image g next i effect.Went at is; want = want_found image g next i effect.Went at is; rest = refl }, is.went refl)
executed image g next i effect.Jumped at is = record { act = act_found image g next i effect.Jumped at is; want = want_found image g next i effect.Jumped at is; rest = refl }
executed image g next i (effect.Load kind rd addr) at is =
    let same : next ≡ g.regs = is.kept refl in
    let act = λ (answer : ℕ). act_found image g next i (effect.Load kind rd addr) at is answer ∙ ap (λ r. load image (has g.held) r answer kind rd addr) same in
    (ap (λ r. record g { regs = r }) same, record { act = act; want = want_found image g next i (effect.Load kind rd addr) at is })
executed image g next i (effect.Store kind addr value) at is =
    let same : next ≡ g.regs = is.kept refl in
    let act = λ (answer : ℕ). act_found image g next i (effect.Store kind addr value) at is answer ∙ ap (λ r. store image (has g.held) r kind addr value) same in
    (ap (λ r. record g { regs = r }) same, record { act = act; want = want_found image g next i (effect.Store kind addr value) at is })
executed image g next i _ at is = ap (λ r. record g { regs = r }) (is.kept refl)

-- the thread's own memory
pub own_answer : (image : Shown) (place : Region) (addr width : ℕ) (next : Option ℕ) (d : Thread) (locks : ℕ → Mutex) → is_own place ≡ true → answer_to image (want.Load place addr width) next d.own locks ≡ own_number d addr width
own_answer image place addr width next d locks e = grind arith

pub own_put : (place : Region) (own : ℕ → Option ℕ) (addr width value : ℕ) → is_own place ≡ true → own_after (Some (put_at place addr width value)) own ≡ own_after (Some (put_at region.Private addr width value)) own
own_put place own addr width value e = grind arith
