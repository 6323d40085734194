-- A block has no more locks than a thread may hold.
use Rattle.std.proofs.Common.{◌≡◌, ℕ, ◌≤◌, length, filter, refl, sym, ◌∙◌, arith}
use Rattle.std.specs.Prelude.{Option, Some, None}
use Rattle.std.specs.List.{range_with_len}
use Rattle.tc_isa.specs.Sets.{has, locks_of}
use Rattle.tc_isa.specs.declared.limits.TheConstants.{MAX_HELD}
use Rattle.tc_elf.specs.Shown.{Shown}
use Rattle.tc_turn.specs.Turn.{Thread, next_lock, plus_lock}
use Rattle.tc_turn.proofs.Few.{fewer, one_more, takes_below}
use Rattle.tc_mutex_spec.specs.Blocks.{locks_of_block}

pub block_few : (image : Shown) (d : Thread) (held : ℕ) → ((k : ℕ) → has held k ≡ locks_of_block d.held (next_lock image d) k) → length (filter d.held (range_with_len 0 32)) ≤ MAX_HELD → length (locks_of held) ≤ MAX_HELD
unfolding locks_of
block_few image d held is few = by (next_lock image d) refl is
  where
    by : (o : Option ℕ) → next_lock image d ≡ o → ((k : ℕ) → has held k ≡ locks_of_block d.held o k) → length (filter (has held) (range_with_len 0 32)) ≤ MAX_HELD
    by None e same = (let le = fewer (has held) d.held (λ k h. sym (same k) ∙ h) (range_with_len 0 32) in omega arith)
    by (Some lock) e same =
        let le = fewer (has held) (plus_lock d.held lock) (λ k h. sym (same k) ∙ h) (range_with_len 0 32) in
        let more = one_more d.held lock 0 32 in
        let below = takes_below image d lock e in
        omega arith
