-- What the calls of a desk tell: that a stop was seen where it answers so, and which package is good.
use Rattle.std.proofs.Common.{◌≡◌, ℕ, Bool, true, false, cond, List, [], ◌∷◌, ◌++◌, filter, refl, sym, ap, ◌∙◌, append_assoc, subst}
use Rattle.tc_combiner.proofs.Vocabulary.{Adds, Block, PassCall, DeskStep, DeskView, DidAcquire, DidEnd, DidUnlock, Did_stop, EndedAs, Free, HasSeenStop, Knows, LeftAs, LeftInOrder, LockView, PackageView, SeatView, Stopped, Turn, UnlockedAs, at_lock, back, by_desk, counted, counts, locks_of, turn_of, without_lock}

-- the call c is one of these
record Stands (cs : List PassCall) (c : PassCall) : Type 0 where
  pub front : List PassCall
  pub back : List PassCall
  pub is : cs ≡ front ++ c ∷ back

stands_at : (p : PassCall → Bool) (v : Bool) (x : PassCall) (xs fs gs : List PassCall) (c : PassCall) → ((hs : List PassCall) → filter p xs ≡ hs ++ c ∷ gs → Stands xs c) → cond v (x ∷ filter p xs) (filter p xs) ≡ fs ++ c ∷ gs → Stands (x ∷ xs) c
stands_at p false x xs fs gs c k e = let h = k fs e in record { front = x ∷ h.front; back = h.back; is = ap (λ (l : List PassCall). x ∷ l) h.is }
stands_at p true x xs [] gs c k e = let f : x ≡ c = cc in record { front = []; back = xs; is = ap (λ (d : PassCall). d ∷ xs) f }
stands_at p true x xs (f ∷ fs) gs c k e = let t : filter p xs ≡ fs ++ c ∷ gs = cc in let h = k fs t in record { front = x ∷ h.front; back = h.back; is = ap (λ (l : List PassCall). x ∷ l) h.is }

stands_in : (p : PassCall → Bool) (cs fs gs : List PassCall) (c : PassCall) → filter p cs ≡ fs ++ c ∷ gs → Stands cs c
stands_in p [] [] gs c e = let n : ⊥ = cc in absurd n
stands_in p [] (f ∷ fs) gs c e = let n : ⊥ = cc in absurd n
stands_in p (x ∷ xs) fs gs c e = stands_at p (p x) x xs fs gs c (λ hs d. stands_in p xs hs gs c d) e

-- where one of the calls saw the stop, the pass's list shows it
stop_seen : (cs : List PassCall) (v w : Knows) → Adds cs v w → Stands cs (Stopped 1) → HasSeenStop v w
stop_seen cs v w a s = let h = stands_in counts a.calls s.front s.back (Stopped 1) (a.are ∙ s.is) in record { front = h.front; back = h.back; is = a.told.calls ∙ ap (λ (l : List PassCall). v.calls ++ l) h.is }

unlock_stopped : (x : DeskStep SeatView) (i : ℕ) (b : Block) (cs : List PassCall) → UnlockedAs x i b cs Did_stop → Stands cs (Stopped 1)
unlock_stopped x i b cs h =
    let put : List PassCall = back (without_lock i x.given) x.aside.old in record { front = []; back = Free h.2.0.number ∷ put; is = h.1 ∙ ap (λ (l : List PassCall). l ++ put) h.2.2 }

left_stopped_at : (x : DeskStep SeatView) (l : LockView) (b : Block) (own : Turn) (ds es : List PassCall) (is : Bool) → LeftAs x l b own ds false is → (is ≡ false → Stands es (Stopped 1)) → Stands (ds ++ es) (Stopped 1)
left_stopped_at x l b own ds es true h k = record { front = []; back = Free l.number ∷ es; is = ap (λ (c : List PassCall). c ++ es) h }
left_stopped_at x l b own ds es false h k = let s = k refl in record { front = ds ++ s.front; back = s.back; is = ap (λ (c : List PassCall). ds ++ c) s.is ∙ sym (append_assoc ds s.front (Stopped 1 ∷ s.back)) }

-- the run was stopped at one of these locks
left_stopped : (x : DeskStep (List SeatView)) (b : Block) (is : List ℕ) (cs : List PassCall) → LeftInOrder x b is cs false true → Stands cs (Stopped 1)
left_stopped x b [] cs h = let n : ⊥ = (let e = h.1 in cc) in absurd n
left_stopped x b (i ∷ is) cs h =
    let rest : (now : Bool) → LeftInOrder x b is h.1 now true → now ≡ false → Stands h.1 (Stopped 1) = (λ now l e. left_stopped x b is h.1 (subst (λ (was : Bool). LeftInOrder x b is h.1 was true) e l)) in
    subst (λ (l : List PassCall). Stands l (Stopped 1)) (sym h.2) (left_stopped_at (at_lock i x) h.0.state b (turn_of x.given i) h.0.calls h.1 h.0.stopped h.0.became (λ e. rest h.0.stopped h.3 e))

end_stopped : (x : DeskStep (List SeatView)) (b : Block) (cs : List PassCall) → EndedAs x b cs Did_stop → Stands cs (Stopped 1)
end_stopped x b cs h =
    let s = left_stopped x b (locks_of b.held) h.1 h.4 in
    let put : List PassCall = back h.0 x.aside.old in record {
      front = s.front;
      back = s.back ++ put;
      is = h.2 ∙ (ap (λ (l : List PassCall). l ++ put) s.is ∙ append_assoc s.front (Stopped 1 ∷ s.back) put);
    }

-- ---- in the words of a desk

pub acquire_seen : (i : ℕ) (q : PackageView) (d e : DeskView) → DidAcquire i q d e Did_stop → HasSeenStop d.pass.knows e.pass.knows
acquire_seen i q d e h = stop_seen h.calls d.pass.knows e.pass.knows h.adds (record { front = []; back = back (counted q) d.aside; is = h.acquired.1.0 })

pub unlock_seen : (i : ℕ) (q : PackageView) (b : Block) (d e : DeskView) → DidUnlock i q b d e Did_stop → HasSeenStop d.pass.knows e.pass.knows
unlock_seen i q b d e h = stop_seen h.calls d.pass.knows e.pass.knows h.adds (unlock_stopped (at_lock i (by_desk q d e)) i b h.calls h.unlocked)

pub end_seen : (q : PackageView) (b : Block) (d e : DeskView) → DidEnd q b d e Did_stop → HasSeenStop d.pass.knows e.pass.knows
end_seen q b d e h = stop_seen h.calls d.pass.knows e.pass.knows h.adds (end_stopped (by_desk q d e) b h.calls h.ended)
