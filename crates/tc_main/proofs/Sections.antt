-- How many sections a lock had at the end of a history is how many of its blocks begin one.
use Rattle.std.proofs.Common.{◌≡◌, ℕ, zero, suc, ◌+◌, ◌-◌, ◌*◌, ◌^◌, ◌<◌, ◌≤◌, ◌==◌, min, Bool, true, false, List, [], ◌∷◌, ◌++◌, length, refl, sym, ap, subst, ◌∙◌, arith}
use Rattle.std.specs.Prelude.{Option, Some, None, All, filter, if◌then◌else◌}
use Rattle.std.proofs.lemmas.List.Elements.{All-nil, All-cons}
use Rattle.std.proofs.lemmas.Nat.{mul-le}
use Rattle.tc_isa.specs.Registers.{Registers}
use Rattle.tc_isa.specs.Sets.{has}
use Rattle.tc_isa.specs.declared.limits.TheConstants.{MAX_FUEL}
use Rattle.tc_elf.specs.Shown.{Shown, guard_at}
use Rattle.tc_elf.specs.declared.image.Region.{Region}
use Rattle.tc_elf.specs.declared.image.Region.TheVariants as region
use Rattle.tc_elf.specs.declared.limits.TheConstants.{MAX_GUARDS, MAX_THREADS}
use Rattle.tc_exec.specs.declared.outcome.Act.{Act}
use Rattle.tc_exec.specs.declared.outcome.Act.TheVariants.{Next, Called, Faulted}
use Rattle.tc_exec.specs.declared.outcome.Call.TheVariants.{Lock, Unlock, Sleep, Exit}
use Rattle.tc_exec.specs.declared.outcome.Put.{Put}
use Rattle.tc_journal.specs.Batch.{begins, is_lock}
use Rattle.tc_journal.specs.History.{of_lock}
use Rattle.tc_journal.specs.declared.block.Block.{Block}
use Rattle.tc_journal.specs.declared.block.End.{End}
use Rattle.tc_turn.specs.Memory.{put_number}
use Rattle.tc_turn.specs.Turn.{Mutex, next_lock, next_act, mutex_after, guard_with, guard_after, given_up, taken, when}
use Rattle.tc_turn.proofs.Turns.{act_takes, goes_on}
use Rattle.tc_mutex_spec.specs.Machine.{State, after, start}
use Rattle.tc_mutex_spec.specs.Blocks.{reach, Runs, Stands, TellsAfter, Tells}
use Rattle.tc_mutex_spec.proofs.Going.{next_takes}
use Rattle.tc_mutex_spec.proofs.Holds.{can_thread}
use Rattle.tc_mutex_spec.proofs.Local.{after_mutex}
use Rattle.tc_mutex_spec.proofs.Progress.{IsSane, start_sane, reached, turns_sum, first_turns}
use Rattle.tc_mutex_spec.proofs.Replaying.{record_takes}
use Rattle.tc_profile.specs.Profile.{lock_profile, one_if}
use Rattle.tc_profile.proofs.Counting.{kept-le}
use Rattle.tc_profile.proofs.Growing.{none_begun}
use Rattle.tc_profile.proofs.Numbers.{kept-front, sections_are_begun}

-- ---- one turn

abbrev most : ℕ
most = 2 ^ 64 - 1

-- so many sections, with one more where the turn takes the lock
abbrev counted : Option ℕ → ℕ → ℕ → ℕ
counted o k n = if is_lock o k then min (n + 1) most else n

not_counted : (o : Option ℕ) (k n : ℕ) → ((lock : ℕ) → o ≡ Some lock → ⊥) → n ≡ counted o k n
not_counted None k n none = refl
not_counted (Some lock) k n none = absurd (none lock refl)

given_same : (b : Bool) (l : Mutex) → (given_up b l).sections ≡ l.sections
given_same true l = refl
given_same false l = refl

-- a store changes no count
stored_same : (image : Shown) (place : Region) (k : ℕ) (l : Mutex) (addr width value : ℕ) → (guard_with image place k l addr width value).sections ≡ l.sections
stored_same image region.Text k l addr width value = refl
stored_same image region.Private k l addr width value = refl
stored_same image region.Stack k l addr width value = refl
stored_same image (region.Guard lock) k l addr width value =
    elim (k == lock) as (λ b. (when b (record { bytes = put_number (guard_at image k).start l.bytes addr width value; broken = l.broken; sections = l.sections; owner = l.owner }) l).sections ≡ l.sections) [ true ↦ refl | false ↦ refl ]
stored_same image region.Nothing k l addr width value = refl

put_same : (image : Shown) (put : Option Put) (k : ℕ) (l : Mutex) → (guard_after image put k l).sections ≡ l.sections
put_same image None k l = refl
put_same image (Some put) k l = stored_same image put.region k l put.addr put.width put.value

-- the act takes this lock, where it takes one
record Takes (o : Option ℕ) (a : Option Act) : Type 0 where
  some : (lock : ℕ) → o ≡ Some lock → (regs : Registers) × (a ≡ Some (Called (Lock lock) regs))
  only : (lock : ℕ) (regs : Registers) → a ≡ Some (Called (Lock lock) regs) → o ≡ Some lock

act_counts : (image : Shown) (t : ℕ) (held : ℕ → Bool) (o : Option ℕ) (a : Option Act) (k : ℕ) (l : Mutex) → Takes o a → (mutex_after image t held a k l).sections ≡ counted o k l.sections
act_counts image t held o None k l takes = given_same (held k) l ∙ not_counted o k l.sections (λ lock e. let f = (takes.some lock e).1 in cc)
act_counts image t held o (Some (Next regs put)) k l takes = put_same image put k l ∙ not_counted o k l.sections (λ lock e. let f = (takes.some lock e).1 in cc)
act_counts image t held o (Some (Called (Lock lock) regs)) k l takes =
    (elim (k == lock) as (λ b. (when b (taken t l) l).sections ≡ (if b then min (l.sections + 1) most else l.sections)) [ true ↦ refl | false ↦ refl ])
    ∙ ap (λ x. counted x k l.sections) (sym (takes.only lock regs refl))
act_counts image t held o (Some (Called (Unlock lock) regs)) k l takes =
    (elim (k == lock) as (λ b. (when b (record { bytes = l.bytes; broken = l.broken; sections = l.sections; owner = None }) l).sections ≡ l.sections) [ true ↦ refl | false ↦ refl ])
    ∙ not_counted o k l.sections (λ j e. let f = (takes.some j e).1 in cc)
act_counts image t held o (Some (Called (Sleep n) regs)) k l takes = not_counted o k l.sections (λ j e. let f = (takes.some j e).1 in cc)
act_counts image t held o (Some (Called Exit regs)) k l takes = given_same (held k) l ∙ not_counted o k l.sections (λ j e. let f = (takes.some j e).1 in cc)
act_counts image t held o (Some (Faulted f)) k l takes = given_same (held k) l ∙ not_counted o k l.sections (λ j e. let g = (takes.some j e).1 in cc)

turn_counts : (image : Shown) (m : State) (t k : ℕ) → ((after image m t).locks k).sections ≡ counted (next_lock image (m.threads t)) k (m.locks k).sections
unfolding next_act
turn_counts image m t k =
    let d = m.threads t in
    ap (λ (l : Mutex). l.sections) (after_mutex image m t k)
    ∙ act_counts image t d.held (next_lock image d) (next_act image d m.locks) k (m.locks k) (record { some = next_takes image d m.locks; only = λ lock regs e. act_takes image d _ lock regs e })

-- ---- one block

-- no turn of a block but the first takes a lock
none_next : (image : Shown) (m to : State) (t n : ℕ) (e : End) → Runs image m t n e to → (j : ℕ) → j + 1 < n → next_lock image ((reach image m t (suc j)).threads t) ≡ None
none_next image m to t n e runs j lt = (goes_on ((reach image m t j).threads t) _ _ _ (runs.before j lt)).0

within_counts : (image : Shown) (m to : State) (t n : ℕ) (e : End) → Runs image m t n e to → (k j : ℕ) → j < n → ((reach image m t (suc j)).locks k).sections ≡ counted (next_lock image (m.threads t)) k (m.locks k).sections
within_counts image m to t n e runs k zero lt = turn_counts image m t k
within_counts image m to t n e runs k (suc j) lt =
    turn_counts image (reach image m t (suc j)) t k
    ∙ ap (λ o. counted o k ((reach image m t (suc j)).locks k).sections) (none_next image m to t n e runs j (omega (arith, lt)))
    ∙ within_counts image m to t n e runs k j (omega (arith, lt))

block_counts : (image : Shown) (m to : State) (t n : ℕ) (e : End) → Runs image m t n e to → (k : ℕ) → ((reach image m t n).locks k).sections ≡ counted (next_lock image (m.threads t)) k (m.locks k).sections
block_counts image m to t n e runs k = (elim n as (λ x. n ≡ x → ((reach image m t n).locks k).sections ≡ counted (next_lock image (m.threads t)) k (m.locks k).sections) [
  | zero ↦ λ z. absurd (omega (arith, z, runs.some))
  | suc j ↦ λ s. ap (λ i. ((reach image m t i).locks k).sections) s ∙ within_counts image m to t n e runs k j (omega (arith, s))
]) refl

-- ---- a history

begun_front : (k : ℕ) (b : Block) (h : List Block) → length (filter (begins k) (of_lock (b ∷ h) k)) ≡ one_if (begins k b) + length (filter (begins k) (of_lock h k))
begun_front k b h = by (has b.held k) refl
  where
    by : (v : Bool) → has b.held k ≡ v → length (filter (begins k) (if v then b ∷ of_lock h k else of_lock h k)) ≡ one_if (begins k b) + length (filter (begins k) (of_lock h k))
    by true e = kept-front (begins k) b (of_lock h k)
    by false e = omega (arith, ap one_if (none_begun k b e))

-- the sections behind the blocks, and how many blocks there are
record Counts (image : Shown) (k : ℕ) (from : State) (h : List Block) (m : State) : Type 0 where
  sections : (m.locks k).sections ≡ min ((from.locks k).sections + length (filter (begins k) (of_lock h k))) most
  short : length h + turns_sum image m ≤ turns_sum image from

history_counts : (image : Shown) → length image.guards ≤ MAX_GUARDS → (k : ℕ) (seen h : List Block) (from m : State) → IsSane image from → (from.locks k).sections ≤ most → TellsAfter image seen from h m → Counts image k from h m
history_counts image few k seen [] from m sane le told = subst (Counts image k from []) told (record { sections = omega (arith, le); short = omega arith })
history_counts image few k seen (b ∷ h) from m sane le told =
    let to : State = reach image from b.thread b.turns in
    let stands : Stands image seen from b told.0 = told.1 in
    let r = reached image from b.thread b.turns stands.runs.defined sane in
    let begun : is_lock (next_lock image (from.threads b.thread)) k ≡ begins k b =
    ap (λ o. is_lock o k) (sym (record_takes image from b (record { few = few; small = λ j held. omega (arith, sane.known b.thread j held, few); held = stands.held; section = stands.section }))) in
    let here : (to.locks k).sections ≡ (if begins k b then min ((from.locks k).sections + 1) most else (from.locks k).sections) =
    block_counts image from told.0 b.thread b.turns b.end stands.runs k ∙ ap (λ v. if v then min ((from.locks k).sections + 1) most else (from.locks k).sections) begun in
    let small : (to.locks k).sections ≤ most = fits (begins k b) here in
    let rest = history_counts image few k (seen ++ b ∷ []) h to m r.sane small (subst (λ s. TellsAfter image (seen ++ b ∷ []) s h m) stands.runs.last told.2) in
    record { sections = one_more (begins k b) here rest.sections (begun_front k b h); short = omega (arith, rest.short, r.short, stands.runs.some) }
  where
    fits : (v : Bool) → ((reach image from b.thread b.turns).locks k).sections ≡ (if v then min ((from.locks k).sections + 1) most else (from.locks k).sections) → ((reach image from b.thread b.turns).locks k).sections ≤ most
    fits true e = omega (arith, e)
    fits false e = omega (arith, e, le)

    one_more : (v : Bool) → ((reach image from b.thread b.turns).locks k).sections ≡ (if v then min ((from.locks k).sections + 1) most else (from.locks k).sections)
        → (m.locks k).sections ≡ min (((reach image from b.thread b.turns).locks k).sections + length (filter (begins k) (of_lock h k))) most
        → length (filter (begins k) (of_lock (b ∷ h) k)) ≡ one_if v + length (filter (begins k) (of_lock h k))
        → (m.locks k).sections ≡ min ((from.locks k).sections + length (filter (begins k) (of_lock (b ∷ h) k))) most
    one_more true e f g = omega (arith, e, f, g)
    one_more false e f g = omega (arith, e, f, g)

pub sections_are : (image : Shown) (fuel : ℕ) (h : List Block) (m : State) (k : ℕ) → length image.entries ≤ MAX_THREADS → fuel ≤ MAX_FUEL → length image.guards ≤ MAX_GUARDS → Tells image fuel h m → (lock_profile h k).sections ≡ (m.locks k).sections
sections_are image fuel h m k threads most_fuel few told =
    let c = history_counts image few k [] h (start image fuel) m (start_sane image fuel) (omega arith) told in
    let turns : length image.entries * (fuel + 1) ≤ MAX_THREADS * (MAX_FUEL + 1) = mul-le (length image.entries) (fuel + 1) MAX_THREADS (MAX_FUEL + 1) threads (omega (arith, most_fuel)) in
    let blocks : length (of_lock h k) ≤ length h = kept-le (λ (b : Block). has b.held k) h in
    let begun : length (filter (begins k) (of_lock h k)) ≤ length (of_lock h k) = kept-le (begins k) (of_lock h k) in
    omega (arith, sections_are_begun h k, c.sections, c.short, first_turns image fuel, turns, blocks, begun)

-- each block is of a thread that there is
pub threads_known : (image : Shown) (seen h : List Block) (from m : State) → TellsAfter image seen from h m → All (λ (b : Block). b.thread < length image.entries) h
threads_known image seen [] from m told = All-nil (λ (b : Block). b.thread < length image.entries)
threads_known image seen (b ∷ h) from m told =
    All-cons (λ (c : Block). c.thread < length image.entries) b h (can_thread image from b.thread (told.1.runs.defined 0 told.1.runs.some)) (threads_known image (seen ++ b ∷ []) h told.0 m told.2)
