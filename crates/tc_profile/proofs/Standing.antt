-- A profile with one block more stands for the history with it.
use Rattle.std.proofs.Common.{◌≡◌, ℕ, ◌^◌, ◌<◌, ◌≤◌, Bool, true, false, List, [], ◌∷◌, ◌++◌, set, length, get_or, refl, sym, ap, ◌∙◌, arith, inl, inr}
use Rattle.std.specs.Prelude.{Option, Some, None, option_map, slice_get, if◌then◌else◌}
use Rattle.std.proofs.lemmas.Bool.Decides.{eqb_tells}
use Rattle.std.proofs.lemmas.List.{length-set}
use Rattle.std.proofs.lemmas.Option.{slice_get-get_or, slice_get_within, none-some}
use Rattle.tc_isa.specs.Sets.{has}
use Rattle.tc_isa.specs.declared.limits.TheConstants.{MAX_TURNS}
use Rattle.tc_journal.specs.declared.block.Block.{Block}
use Rattle.tc_profile.specs.declared.tally.LockTally.{LockTally}
use Rattle.tc_profile.specs.declared.tally.ThreadTally.{ThreadTally}
use Rattle.tc_profile.specs.Profile.{home_worker}
use Rattle.tc_profile.specs.Tally.{lock_tally, thread_tally, lock_after, thread_after, added, home_in}
use Rattle.tc_profile.specs.Stands.{StandFor}
use Rattle.tc_journal.proofs.Lists.{get-set_same, get-set_other}
use Rattle.tc_profile.proofs.Counting.{put}
use Rattle.tc_profile.proofs.Growing.{lock_grows, lock_stays, thread_grows, thread_stays, home_is, turns_grow}

-- lists of the same things at each place are as long as one another
no_longer : (f : ℕ → LockTally → LockTally) (old new : List LockTally) → ((k : ℕ) → slice_get new k ≡ option_map (f k) (slice_get old k)) → (k : ℕ) → k < length new → k < length old
no_longer f old new same k lt = go (slice_get old k) refl
  where
    go : (o : Option LockTally) → slice_get old k ≡ o → k < length old
    go (Some c) e = slice_get_within old k c e
    go None e = absurd (none-some (get_or new k (lock_tally [] 0)) (sym (ap (option_map (f k)) e) ∙ sym (same k) ∙ slice_get-get_or new k (lock_tally [] 0) lt))

module _ (threads : List ThreadTally) (locks : List LockTally) (h : List Block) (b : Block) (is : StandFor threads locks h) (few : length h < 2 ^ 32) (thread : b.thread < length threads) where
  mine : (d : ThreadTally) → d ≡ get_or threads b.thread d → d ≡ thread_tally h b.thread
  mine d e = (let s : Some d ≡ Some (thread_tally h b.thread) = ap Some e ∙ sym (slice_get-get_or threads b.thread d thread) ∙ is.threads_are b.thread thread in cc)

  module _ (turns : b.turns ≤ MAX_TURNS) (was now : ThreadTally) (home : ℕ) (was_is : was ≡ get_or threads b.thread was) (now_is : now ≡ thread_after b was) (home_in_is : home ≡ home_in was.last b) where
    home_same : home ≡ home_worker (put h b)
    home_same = home_in_is ∙ ap (λ (c : ThreadTally). home_in c.last b) (mine was was_is) ∙ home_is h b

    thread_at : (t : ℕ) → t < length (set threads b.thread now) → slice_get (set threads b.thread now) t ≡ Some (thread_tally (h ++ b ∷ []) t)
    thread_at t lt = elim (eqb_tells t b.thread) [
      | inl e ↦
          ap (slice_get (set threads b.thread now)) e.1 ∙ get-set_same threads b.thread now thread
          ∙ ap Some (now_is ∙ ap (thread_after b) (mine was was_is) ∙ sym (thread_grows h b few turns (is.most_turns b.thread)))
          ∙ ap (λ u. Some (thread_tally (h ++ b ∷ []) u)) (sym e.1)
      | inr e ↦
          get-set_other threads b.thread t now e.1 ∙ is.threads_are t (omega (arith, lt, length-set threads b.thread now))
          ∙ ap Some (sym (thread_stays h b t (λ s. e.1 (sym s))))
    ]

    module _ (more : List LockTally) (each : (k : ℕ) → slice_get more k ≡ option_map (added k b home) (slice_get locks k)) where
      lock_at : (k : ℕ) → k < length more → slice_get more k ≡ Some (lock_tally (h ++ b ∷ []) k)
      lock_at k lt =
          each k ∙ ap (option_map (added k b home)) (is.locks_are k (no_longer (λ k. added k b home) locks more each k lt)) ∙ ap Some (by (has b.held k) refl)
        where
          by : (v : Bool) → has b.held k ≡ v → (if has b.held k then lock_after k b home (lock_tally h k) else lock_tally h k) ≡ lock_tally (h ++ b ∷ []) k
          by true e = ap (λ v. if v then lock_after k b home (lock_tally h k) else lock_tally h k) e ∙ ap (λ w. lock_after k b w (lock_tally h k)) home_same ∙ sym (lock_grows h b k few e)
          by false e = ap (λ v. if v then lock_after k b home (lock_tally h k) else lock_tally h k) e ∙ sym (lock_stays h b k e)

      pub stands_more : StandFor (set threads b.thread now) more (h ++ b ∷ [])
      stands_more = record { most_turns = turns_grow h b turns is.most_turns; threads_are = thread_at; locks_are = lock_at }
