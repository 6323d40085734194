-- How a pass stands at the lines after calls of a desk.
use Rattle.std.proofs.Common.{◌≡◌, ℕ, ◌==◌, Bool, true, false, if◌then◌else◌, List, [], ◌∷◌, ◌++◌, refl, sym, ap, ◌∙◌, subst, ⊎_elim, inl, inr, append-nil, Option, Some, None}
use mathlib.Core.Option.{some}
use lib.ListN.{get_elem?}
use Rattle.tc_queue.specs.Lines.{call_as}
use Rattle.tc_queue.specs.declared.turn.QueueCall.{QueueCall}
use Rattle.tc_queue.specs.declared.turn.QueueCall.TheVariants.{Enter as Own_enter, Leave as Own_leave, Link as Own_link, Next as Own_next}
use Rattle.tc_queue.specs.declared.turn.Entered.TheVariants.{Behind as Own_behind, First as Own_first}
use Rattle.tc_queue.specs.declared.turn.Leave.TheVariants.{Followed as Own_followed, Left as Own_left}
use Rattle.tc_queue.specs.declared.turn.Departure.TheVariants.{Followed as Was_followed}
use Rattle.tc_hall.specs.Standing.{ClaimsAs, IfLined, Standing, StandsAs, TakesAs, past, past_line, standing_of, turns_of, turns_past}
use Rattle.tc_hall.specs.Steps.{HasStop, claim_call}
use Rattle.tc_hall.specs.declared.board.PassCall.TheVariants.{Line}
use Rattle.tc_hall.proofs.Standing.{standing_last, turns_last}
use Rattle.tc_hall.proofs.Stops.{stop_later, stop_seen}
use Rattle.tc_order.specs.Order.{Told, hall_notes}
use Rattle.tc_combiner.proofs.Vocabulary.{Acts, Behind, Enter, First, HallTerms, Item, Knows, Leave, Link, LineCall, LockView, Next, PackageView, PassCall, PassView, SawStopped, Stopped, Turn, Waiting, after_miss}
use Rattle.tc_combiner.specs.Vocabulary.{Left}
use Rattle.tc_combiner.specs.Stances.{SameStances, StandsPast}

-- ---- a stop stays in the list of a pass

pub stop_acts : (ds : List PassCall) (xs ys : List Item) (p q : PassView) → Acts ds xs ys p q → HasStop p.knows → HasStop q.knows
stop_acts ds xs ys p q a h = stop_later p.knows q.knows a.adds.calls a.adds.told.calls h

-- ---- one call

pub past_called : (c : PassCall) (k : HallTerms) (v w : Knows) → w.calls ≡ v.calls ++ c ∷ [] → StandsPast c k v w
past_called c k v w e = record {
  stop = stop_later v w (c ∷ []) e;
  stands = λ lined i. ap (standing_of i) e ∙ standing_last i v.calls c;
  turns = λ lined t. ap (turns_of t) e ∙ turns_last t v.calls c;
}

-- none at all
pub same_calls : (k : HallTerms) (v w : Knows) → w.calls ≡ v.calls → w.locks ≡ v.locks → SameStances k v w
same_calls k v w e locks = record {
  locks = locks;
  stop = stop_later v w [] (e ∙ sym (append-nil v.calls));
  stands = λ lined i. ap (standing_of i) e;
  turns = λ lined t. ap (turns_of t) e;
}

pub same_self : (k : HallTerms) (v : Knows) → SameStances k v v
same_self k v = same_calls k v v refl refl

pub same_missed : (k : HallTerms) (v w : Knows) (word found : ℕ) → w ≡ after_miss v word found → SameStances k v w
same_missed k v w word found e = same_calls k v w (ap (λ (x : Knows). x.calls) e) (ap (λ (x : Knows). x.locks) e)

-- a check of STOP
pub same_looked : (b : Bool) (k : HallTerms) (v w : Knows) → SawStopped b v w → SameStances k v w
same_looked b k v w s =
    let called = past_called (Stopped s.word) k v w (ap (λ (x : Knows). x.calls) s.now) in
    record { locks = ap (λ (x : Knows). x.locks) s.now; stop = called.stop; stands = called.stands; turns = called.turns }

pub saw_stop : (b : Bool) (v w : Knows) → SawStopped b v w → b ≡ true → HasStop w
saw_stop b v w s is = stop_seen v w [] (ap (λ (x : Knows). x.calls) s.now ∙ ap (λ (n : ℕ). v.calls ++ Stopped n ∷ []) (s.one is))

-- ---- one after another

module _ (k : HallTerms) (u v w : Knows) where
  pub same_then : SameStances k u v → SameStances k v w → SameStances k u w
  same_then a b = record {
    locks = b.locks ∙ a.locks;
    stop = λ h. b.stop (a.stop h);
    stands = λ lined i. b.stands lined i ∙ a.stands lined i;
    turns = λ lined t. b.turns lined t ∙ a.turns lined t;
  }

  pub same_past : (c : PassCall) → SameStances k u v → StandsPast c k v w → StandsPast c k u w
  same_past c a b = record {
    stop = λ h. b.stop (a.stop h);
    stands = λ lined i. b.stands lined i ∙ ap (past i c) (a.stands lined i);
    turns = λ lined t. b.turns lined t ∙ ap (turns_past t c) (a.turns lined t);
  }

-- ---- what a call asks is asked as before

module _ (k : HallTerms) (v w : Knows) (same : SameStances k v w) where
  pub if_same : (P Q : Type 0) → (k.lined ≡ true → P → Q) → IfLined k v P → IfLined k w Q
  if_same P Q f asked lined = ⊎_elim (λ (h : HasStop v). inl (same.stop h)) (λ (p : P). inr (f lined p)) (asked lined)

  pub stands_same : (i : ℕ) (s : Standing) → IfLined k v (StandsAs v i s) → IfLined k w (StandsAs w i s)
  stands_same i s = if_same (StandsAs v i s) (StandsAs w i s) (λ lined h. same.stands lined i ∙ h)

  pub takes_same : (i : ℕ) → IfLined k v (TakesAs v i) → IfLined k w (TakesAs w i)
  takes_same i = if_same (TakesAs v i) (TakesAs w i) (λ lined h. (h.0, same.stands lined i ∙ h.1))

  pub claims_same : (t i : ℕ) → IfLined k v (ClaimsAs v t (Waiting i)) → IfLined k w (ClaimsAs w t (Waiting i))
  claims_same t i = if_same (ClaimsAs v t (Waiting i)) (ClaimsAs w t (Waiting i)) (λ lined h. record {
    settled = λ j u before e. h.settled j u before (sym (same.stands lined j) ∙ e);
    waiting = let p = h.waiting in record {
      own = p.own;
      behind = p.behind;
      stands = same.stands lined i ∙ p.stands;
      thread = p.thread;
      lock = p.lock;
      has = subst (λ (ls : List (Option LockView)). get_elem? ls i ≡ some (Some p.lock)) (sym same.locks) p.has;
    };
  })

  -- so the package of one that waits comes by the same call
  pub claim_same : (q : PackageView) (word : ℕ) → claim_call w q word ≡ claim_call v q word
  claim_same q word = ap (λ (ls : List (Option LockView)). claim_call (record v { locks = ls }) q word) same.locks

-- ---- calls on a line

module _ (k : HallTerms) (p q : PassView) (i : ℕ) (c : LineCall) (cs : List PassCall) (now : q.knows ≡ record p.knows { calls = p.knows.calls ++ cs }) (notes : k.lined ≡ true → hall_notes i c cs) where
  lined_calls : q.knows.calls ≡ p.knows.calls ++ cs
  lined_calls = ap (λ (x : Knows). x.calls) now

  lined_stands : (lined : k.lined ≡ true) (j : ℕ) → standing_of j q.knows.calls ≡ past j (Line i (notes lined).0) (standing_of j p.knows.calls)
  lined_stands lined j = ap (standing_of j) (lined_calls ∙ ap (λ (l : List PassCall). p.knows.calls ++ l) (notes lined).2) ∙ standing_last j p.knows.calls (Line i (notes lined).0)

  lined_turns : (lined : k.lined ≡ true) (t : ℕ) → turns_of t q.knows.calls ≡ turns_past t (Line i (notes lined).0) (turns_of t p.knows.calls)
  lined_turns lined t = ap (turns_of t) (lined_calls ∙ ap (λ (l : List PassCall). p.knows.calls ++ l) (notes lined).2) ∙ turns_last t p.knows.calls (Line i (notes lined).0)

  -- the line stands as by this call of a queue
  pub past_lined : (d : QueueCall) → ((e : QueueCall) → call_as e ≡ c → e ≡ d) → StandsPast (Line i d) k p.knows q.knows
  past_lined d only = record {
    stop = stop_later p.knows q.knows cs lined_calls;
    stands = λ lined j. lined_stands lined j ∙ ap (λ (e : QueueCall). past j (Line i e) (standing_of j p.knows.calls)) (only (notes lined).0 (notes lined).1);
    turns = λ lined t. lined_turns lined t ∙ ap (λ (e : QueueCall). turns_past t (Line i e) (turns_of t p.knows.calls)) (only (notes lined).0 (notes lined).1);
  }

  -- or as before, if the call changes nothing
  pub same_lined : ((e : QueueCall) → call_as e ≡ c → (j : ℕ) (s : Standing) → past j (Line i e) s ≡ s) → ((e : QueueCall) → call_as e ≡ c → (t n : ℕ) → turns_past t (Line i e) n ≡ n) → SameStances k p.knows q.knows
  same_lined still counted = record {
    locks = ap (λ (x : Knows). x.locks) now;
    stop = stop_later p.knows q.knows cs lined_calls;
    stands = λ lined j. lined_stands lined j ∙ still (notes lined).0 (notes lined).1 j (standing_of j p.knows.calls);
    turns = λ lined t. lined_turns lined t ∙ counted (notes lined).0 (notes lined).1 t (turns_of t p.knows.calls);
  }

if_same_both : (b : Bool) (s r : Standing) → r ≡ s → (if b then r else s) ≡ s
if_same_both true s r e = e
if_same_both false s r e = refl

-- ---- which call of a queue it was

pub next_is : (own : Turn) (a : Option Turn) (e : QueueCall) → call_as e ≡ Next own a → e ≡ Own_next own a
next_is own a (Own_next u b) is = cc is
next_is own a (Own_enter u b) is = let n : ⊥ = cc is in absurd n
next_is own a (Own_link b u) is = let n : ⊥ = cc is in absurd n
next_is own a (Own_leave u b) is = let n : ⊥ = cc is in absurd n

pub left_is : (own : Turn) (e : QueueCall) → call_as e ≡ Leave own Left → e ≡ Own_leave own Own_left
left_is own (Own_leave u Own_left) is = cc is
left_is own (Own_leave u (Own_followed x)) is = let n : ⊥ = cc is in absurd n
left_is own (Own_next u b) is = let n : ⊥ = cc is in absurd n
left_is own (Own_enter u b) is = let n : ⊥ = cc is in absurd n
left_is own (Own_link b u) is = let n : ⊥ = cc is in absurd n

-- a question that was not answered changes nothing
pub unanswered_still : (own : Turn) (i : ℕ) (e : QueueCall) → call_as e ≡ Next own None → (j : ℕ) (s : Standing) → past j (Line i e) s ≡ s
unanswered_still own i e is j s = ap (λ (d : QueueCall). past j (Line i d) s) (next_is own None e is) ∙ if_same_both (i == j) s (past_line (Own_next own None) s) (none_still own s)
  where
    none_still : (u : Turn) (s : Standing) → past_line (Own_next u None) s ≡ s
    none_still u s = refl

pub unanswered_counts : (own : Turn) (i : ℕ) (e : QueueCall) → call_as e ≡ Next own None → (t n : ℕ) → turns_past t (Line i e) n ≡ n
unanswered_counts own i e is t n = ap (λ (d : QueueCall). turns_past t (Line i d) n) (next_is own None e is)

followed_still : (own : Turn) (i : ℕ) (e : QueueCall) → call_as e ≡ Leave own Was_followed → (j : ℕ) (s : Standing) → past j (Line i e) s ≡ s
followed_still own i (Own_leave u (Own_followed x)) is j s = if_same_both (i == j) s (past_line (Own_leave u (Own_followed x)) s) refl
followed_still own i (Own_leave u Own_left) is j s = let n : ⊥ = cc is in absurd n
followed_still own i (Own_next u b) is j s = let n : ⊥ = cc is in absurd n
followed_still own i (Own_enter u b) is j s = let n : ⊥ = cc is in absurd n
followed_still own i (Own_link b u) is j s = let n : ⊥ = cc is in absurd n

followed_counts : (own : Turn) (i : ℕ) (e : QueueCall) → call_as e ≡ Leave own Was_followed → (t n : ℕ) → turns_past t (Line i e) n ≡ n
followed_counts own i (Own_leave u x) is t n = refl
followed_counts own i (Own_next u b) is t n = let n : ⊥ = cc is in absurd n
followed_counts own i (Own_enter u b) is t n = let n : ⊥ = cc is in absurd n
followed_counts own i (Own_link b u) is t n = let n : ⊥ = cc is in absurd n

module _ (k : HallTerms) (i : ℕ) (own : Turn) where
  -- a turn was answered
  pub next_past : (x : Turn) (noted : LineCall → List PassCall → Type 0) (p q : PassView) → ((cs : List PassCall) → k.lined ≡ true → noted (Next own (Some x)) cs → hall_notes i (Next own (Some x)) cs) → Told (noted (Next own (Some x))) p q → StandsPast (Line i (Own_next own (Some x))) k p.knows q.knows
  next_past x noted p q law t = past_lined k p q i (Next own (Some x)) t.calls t.now (λ lined. law t.calls lined t.notes) (Own_next own (Some x)) (next_is own (Some x))

  pub next_still : (noted : LineCall → List PassCall → Type 0) (p q : PassView) → ((cs : List PassCall) → k.lined ≡ true → noted (Next own None) cs → hall_notes i (Next own None) cs) → Told (noted (Next own None)) p q → SameStances k p.knows q.knows
  next_still noted p q law t = same_lined k p q i (Next own None) t.calls t.now (λ lined. law t.calls lined t.notes) (unanswered_still own i) (unanswered_counts own i)

  pub left_past : (noted : LineCall → List PassCall → Type 0) (p q : PassView) → ((cs : List PassCall) → k.lined ≡ true → noted (Leave own Left) cs → hall_notes i (Leave own Left) cs) → Told (noted (Leave own Left)) p q → StandsPast (Line i (Own_leave own Own_left)) k p.knows q.knows
  left_past noted p q law t = past_lined k p q i (Leave own Left) t.calls t.now (λ lined. law t.calls lined t.notes) (Own_leave own Own_left) (left_is own)

  pub followed_same : (noted : LineCall → List PassCall → Type 0) (p q : PassView) → ((cs : List PassCall) → k.lined ≡ true → noted (Leave own Was_followed) cs → hall_notes i (Leave own Was_followed) cs) → Told (noted (Leave own Was_followed)) p q → SameStances k p.knows q.knows
  followed_same noted p q law t = same_lined k p q i (Leave own Was_followed) t.calls t.now (λ lined. law t.calls lined t.notes) (followed_still own i) (followed_counts own i)

-- ---- a turn that enters

first_is : (own : Turn) (e : QueueCall) → call_as e ≡ Enter own First → e ≡ Own_enter own Own_first
first_is own (Own_enter u Own_first) is = cc is
first_is own (Own_enter u (Own_behind b)) is = let n : ⊥ = cc is in absurd n
first_is own (Own_leave u x) is = let n : ⊥ = cc is in absurd n
first_is own (Own_next u b) is = let n : ⊥ = cc is in absurd n
first_is own (Own_link b u) is = let n : ⊥ = cc is in absurd n

pub first_past : (k : HallTerms) (i : ℕ) (own : Turn) (noted : LineCall → List PassCall → Type 0) (p q : PassView) → ((cs : List PassCall) → k.lined ≡ true → noted (Enter own First) cs → hall_notes i (Enter own First) cs) → Told (noted (Enter own First)) p q → StandsPast (Line i (Own_enter own Own_first)) k p.knows q.knows
first_past k i own noted p q law t = past_lined k p q i (Enter own First) t.calls t.now (λ lined. law t.calls lined t.notes) (Own_enter own Own_first) (first_is own)

behind_is : (own : Turn) (mark : ℕ) (e : QueueCall) → call_as e ≡ Enter own (Behind mark) → (b : Turn) × (e ≡ Own_enter own (Own_behind b))
behind_is own mark (Own_enter u (Own_behind b)) is = (b, (let same : u ≡ own = cc is in ap (λ (x : Turn). Own_enter x (Own_behind b)) same))
behind_is own mark (Own_enter u Own_first) is = let n : ⊥ = cc is in absurd n
behind_is own mark (Own_leave u x) is = let n : ⊥ = cc is in absurd n
behind_is own mark (Own_next u b) is = let n : ⊥ = cc is in absurd n
behind_is own mark (Own_link b u) is = let n : ⊥ = cc is in absurd n

pub behind_past : (k : HallTerms) (i : ℕ) (own : Turn) (mark : ℕ) (noted : List PassCall → Type 0) (p q : PassView) (t : Told noted p q) → hall_notes i (Enter own (Behind mark)) t.calls → (b : Turn) × StandsPast (Line i (Own_enter own (Own_behind b))) k p.knows q.knows
behind_past k i own mark noted p q t n =
    let b = behind_is own mark n.0 n.1 in
    (b.0, past_called (Line i (Own_enter own (Own_behind b.0))) k p.knows q.knows (ap (λ (x : Knows). x.calls) t.now ∙ ap (λ (l : List PassCall). p.knows.calls ++ l) (n.2 ∙ ap (λ (d : QueueCall). Line i d ∷ []) b.1)))

link_still : (mark : ℕ) (own : Turn) (i : ℕ) (e : QueueCall) → call_as e ≡ Link mark own → (j : ℕ) (s : Standing) → past j (Line i e) s ≡ s
link_still mark own i (Own_link b u) is j s = if_same_both (i == j) s (past_line (Own_link b u) s) refl
link_still mark own i (Own_enter u x) is j s = let n : ⊥ = cc is in absurd n
link_still mark own i (Own_leave u x) is j s = let n : ⊥ = cc is in absurd n
link_still mark own i (Own_next u b) is j s = let n : ⊥ = cc is in absurd n

link_counts : (mark : ℕ) (own : Turn) (i : ℕ) (e : QueueCall) → call_as e ≡ Link mark own → (t n : ℕ) → turns_past t (Line i e) n ≡ n
link_counts mark own i (Own_link b u) is t n = refl
link_counts mark own i (Own_enter u x) is t n = let n : ⊥ = cc is in absurd n
link_counts mark own i (Own_leave u x) is t n = refl
link_counts mark own i (Own_next u b) is t n = refl

pub link_same : (k : HallTerms) (i mark : ℕ) (own : Turn) (noted : List PassCall → Type 0) (p q : PassView) (t : Told noted p q) → (k.lined ≡ true → hall_notes i (Link mark own) t.calls) → SameStances k p.knows q.knows
link_same k i mark own noted p q t notes = same_lined k p q i (Link mark own) t.calls t.now notes (link_still mark own i) (link_counts mark own i)
