-- A turn touches its thread and the locks that a set covers, and nothing else.
use Rattle.std.proofs.Common.{◌≡◌, ◌≢◌, ℕ, Bool, true, ◌&&◌, ◌==◌, length, refl, sym, ap, subst, ◌∙◌, inl, inr}
use Rattle.std.specs.Prelude.{nat_lt, if◌then◌else◌, Option, Some, None}
use Rattle.std.proofs.lemmas.Bool.Decides.{eqb_tells}
use Rattle.tc_elf.specs.Shown.{Shown}
use Rattle.tc_turn.specs.Turn.{Thread, Mutex, is_running, next_lock, next_act, thread_after, mutex_after}
use Rattle.tc_turn.specs.Reads.{Covers}
use Rattle.tc_turn.proofs.Turns.{leaves, reads}
use Rattle.tc_mutex_spec.specs.Machine.{State, is_free, is_open, can_turn, after}
use Rattle.tc_mutex_spec.specs.Locality.{Agree, Apart}

after_other : (t k : ℕ) (new old : Thread) → k ≢ t → (if k == t then new else old) ≡ old
after_other t k new old ne = elim (eqb_tells k t) [ inl h ↦ absurd (ne h.1) | inr h ↦ rw h.0 refl ]

after_own : (t : ℕ) (new old : Thread) → (if t == t then new else old) ≡ new
after_own t new old = elim (eqb_tells t t) [ inl h ↦ rw h.0 refl | inr h ↦ absurd (h.1 refl) ]

pub after_thread : (image : Shown) (m : State) (t : ℕ) → (after image m t).threads t ≡ thread_after (m.threads t) (next_act image (m.threads t) m.locks)
unfolding after
after_thread image m t = after_own t _ _

pub after_mutex : (image : Shown) (m : State) (t k : ℕ) → (after image m t).locks k ≡ mutex_after image t (m.threads t).held (next_act image (m.threads t) m.locks) k (m.locks k)
unfolding after
after_mutex image m t k = refl

pub turn_apart : (image : Shown) (m : State) (t : ℕ) (set : ℕ → Bool) → Covers image set (m.threads t) → Apart t set m (after image m t)
unfolding after
turn_apart image m t set covers = record {
  threads = λ k ne. after_other t k _ _ ne;
  locks = λ k out. leaves image set t (m.threads t) m.locks k (m.locks k) covers out;
}

open_same : (set : ℕ → Bool) (next : Option ℕ) (a b : ℕ → Mutex) → ((lock : ℕ) → next ≡ Some lock → set lock ≡ true) → ((k : ℕ) → set k ≡ true → a k ≡ b k) → is_open next a ≡ is_open next b
open_same set None a b lock same = refl
open_same set (Some k) a b lock same = ap (λ (l : Mutex). is_free l.owner) (same k (lock k refl))

pub turn_same : (image : Shown) (m n : State) (t : ℕ) (set : ℕ → Bool) → Covers image set (m.threads t) → Agree t set m n → can_turn image m t ≡ can_turn image n t
unfolding can_turn
turn_same image m n t set covers agree =
    ap (λ x. nat_lt t (length image.entries) && (is_running (m.threads t).status && x)) (open_same set (next_lock image (m.threads t)) m.locks n.locks covers.next agree.locks)
    ∙ ap (λ (d : Thread). nat_lt t (length image.entries) && (is_running d.status && is_open (next_lock image d) n.locks)) agree.thread

pub act_agree : (image : Shown) (m n : State) (t : ℕ) (set : ℕ → Bool) → Covers image set (m.threads t) → Agree t set m n → next_act image (m.threads t) m.locks ≡ next_act image (n.threads t) n.locks
act_agree image m n t set covers agree =
    reads image set (m.threads t) m.locks n.locks covers agree.locks ∙ ap (λ d. next_act image d n.locks) agree.thread

pub turn_agree : (image : Shown) (m n : State) (t : ℕ) (set : ℕ → Bool) → Covers image set (m.threads t) → Agree t set m n → Agree t set (after image m t) (after image n t)
turn_agree image m n t set covers agree =
    let acts = act_agree image m n t set covers agree in
    record {
      thread = after_thread image m t ∙ (λ i. thread_after (agree.thread i) (acts i)) ∙ sym (after_thread image n t);
      locks = λ k is. after_mutex image m t k ∙ (λ i. mutex_after image t (agree.thread i).held (acts i) k (agree.locks k is i)) ∙ sym (after_mutex image n t k);
    }

-- ---- what agrees on the same locks

pub agree_trans : (t : ℕ) (set : ℕ → Bool) (a b c : State) → Agree t set a b → Agree t set b c → Agree t set a c
agree_trans t set a b c p q = record { thread = p.thread ∙ q.thread; locks = λ k h. p.locks k h ∙ q.locks k h }

pub agree_at : (t u : ℕ) (set other : ℕ → Bool) (a b : State) → t ≡ u → ((k : ℕ) → set k ≡ other k) → Agree t set a b → Agree u other a b
agree_at t u set other a b e same agree = record {
  thread = subst (λ v. a.threads v ≡ b.threads v) e agree.thread;
  locks = λ k h. agree.locks k (same k ∙ h);
}

pub covers_at : (image : Shown) (set other : ℕ → Bool) (d : Thread) → ((k : ℕ) → set k ≡ other k) → Covers image set d → Covers image other d
covers_at image set other d same covers = record { held = λ k h. sym (same k) ∙ covers.held k h; next = λ k h. sym (same k) ∙ covers.next k h }

pub apart_at : (t u : ℕ) (set other : ℕ → Bool) (a b : State) → t ≡ u → ((k : ℕ) → set k ≡ other k) → Apart t set a b → Apart u other a b
apart_at t u set other a b e same apart = record {
  threads = λ k ne. apart.threads k (λ f. ne (f ∙ e));
  locks = λ k out. apart.locks k (same k ∙ out);
}
