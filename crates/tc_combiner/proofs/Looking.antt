-- Tries that failed, and looks at STOP.
use Rattle.std.proofs.Common.{◌≡◌, ◌≢◌, ◌≤◌, ◌+◌, ℕ, zero, suc, List, [], ◌∷◌, ◌++◌, length, length-append, refl, ap, ◌∙◌, arith, None}
use Rattle.tc_combiner.proofs.Vocabulary.{AcquiredAs, AtSeat, Behind, DeskStep, Did_stop, Enter, First, GoesOn, Knows, LineCall, Link, LooksAfterFirst, LooksEachTime, Next, PassCall, SeatView, Settled, Shipped, Stopped, Tried, Turn, change, failed, looks_in, next_turn, no_seats, one_seat, seat_at, unanswered, unanswered_at, with_line}

pub looks_then : (cs ds : List PassCall) → looks_in (cs ++ ds) ≡ looks_in cs + looks_in ds
looks_then [] ds = omega arith
looks_then (Stopped x ∷ cs) ds = let e = looks_then cs ds in omega arith
looks_then (c ∷ cs) ds = looks_then cs ds

pub unanswered_then : (cs ds : List LineCall) → unanswered (cs ++ ds) ≡ unanswered cs + unanswered ds
unanswered_then [] ds = omega arith
unanswered_then (Next x None ∷ cs) ds = let e = unanswered_then cs ds in omega arith
unanswered_then (c ∷ cs) ds = unanswered_then cs ds

-- ---- one after another

pub looks_none : (v : Knows) (ss : List SeatView) → LooksEachTime 0 v v (change ss ss)
looks_none v ss = let e : failed v ss + looks_in v.calls ≤ failed v ss + looks_in v.calls + 0 = omega arith in e

pub looks_twice : (a b : ℕ) (v w x : Knows) (ss ts us : List SeatView) → LooksEachTime a v w (change ss ts) → LooksEachTime b w x (change ts us) → LooksEachTime (a + b) v x (change ss us)
looks_twice a b v w x ss ts us h k =
    let m : failed w ts + looks_in v.calls ≤ failed v ss + looks_in w.calls + a = h in
    let n : failed x us + looks_in w.calls ≤ failed w ts + looks_in x.calls + b = k in
    let e : failed x us + looks_in v.calls ≤ failed v ss + looks_in x.calls + (a + b) = omega arith in e

-- the seats were asked for nothing more
pub looks_beside : (v w : Knows) (ss ts : List SeatView) → unanswered_at ts ≡ unanswered_at ss → LooksEachTime 0 v w no_seats → LooksEachTime 0 v w (change ss ts)
looks_beside v w ss ts same h =
    let m : (length w.missed + 0) + looks_in v.calls ≤ (length v.missed + 0) + looks_in w.calls + 0 = h in
    let e : (length w.missed + unanswered_at ts) + looks_in v.calls ≤ (length v.missed + unanswered_at ss) + looks_in w.calls + 0 = omega arith in e

pub looks_further : (a : ℕ) (v w x : Knows) (ss ts : List SeatView) → LooksEachTime a v w (change ss ts) → LooksEachTime 0 w x no_seats → LooksEachTime a v x (change ss ts)
looks_further a v w x ss ts h k =
    let m : failed w ts + looks_in v.calls ≤ failed v ss + looks_in w.calls + a = h in
    let n : failed x ts + looks_in w.calls ≤ failed w ts + looks_in x.calls + 0 = looks_beside w x ts ts refl k in
    let e : failed x ts + looks_in v.calls ≤ failed v ss + looks_in x.calls + a = omega arith in e

pub looks_within : (a b : ℕ) (v w : Knows) (seats : List SeatView) (ts : List SeatView) → a ≤ b → LooksEachTime a v w (change seats ts) → LooksEachTime b v w (change seats ts)
looks_within a b v w ss ts few h =
    let m : failed w ts + looks_in v.calls ≤ failed v ss + looks_in w.calls + a = h in
    let e : failed w ts + looks_in v.calls ≤ failed v ss + looks_in w.calls + b = omega arith in e

-- a call that is no look, and refused nothing
pub looks_called : (v w : Knows) (cs : List PassCall) → w.missed ≡ v.missed → w.calls ≡ v.calls ++ cs → LooksEachTime 0 v w no_seats
looks_called v w cs missed calls =
    let m : length w.missed ≡ length v.missed = ap length missed in
    let n : looks_in w.calls ≡ looks_in v.calls + looks_in cs = ap looks_in calls ∙ looks_then v.calls cs in
    let e : (length w.missed + 0) + looks_in v.calls ≤ (length v.missed + 0) + looks_in w.calls + 0 = omega arith in e

-- as many looks as steps that were refused
pub looks_tried : (n m : ℕ) (v w : Knows) → n ≤ m → Tried n m v w → LooksEachTime 0 v w no_seats
looks_tried n m v w few t =
    let a : length w.missed ≡ length v.missed + n = ap length t.missed ∙ (length-append v.missed t.misses ∙ ap (λ (k : ℕ). length v.missed + k) t.each) in
    let b : looks_in w.calls ≡ looks_in v.calls + m = ap looks_in t.added ∙ (looks_then v.calls t.calls ∙ ap (λ (k : ℕ). looks_in v.calls + k) t.all) in
    let e : (length w.missed + 0) + looks_in v.calls ≤ (length v.missed + 0) + looks_in w.calls + 0 = omega arith in e

-- the first question needs no look
pub looks_first : (u : Turn) (s t : SeatView) (v w : Knows) → LooksAfterFirst u s t v w → LooksEachTime 1 v w (one_seat (change s t))
looks_first u s t v w h =
    let asks = h.2.0 in
    let tried = h.3 in
    let n : unanswered t.calls ≡ unanswered s.calls + h.0 = ap unanswered asks.calls ∙ (unanswered_then s.calls asks.lines ∙ ap (λ (k : ℕ). unanswered s.calls + k) h.2.1) in
    let a : length w.missed ≡ length v.missed + 0 = ap length tried.missed ∙ (length-append v.missed tried.misses ∙ ap (λ (k : ℕ). length v.missed + k) tried.each) in
    let b : looks_in w.calls ≡ looks_in v.calls + h.1 = ap looks_in tried.added ∙ (looks_then v.calls tried.calls ∙ ap (λ (k : ℕ). looks_in v.calls + k) tried.all) in
    let few : h.0 ≤ h.1 + 1 = h.5 in
    let e : (length w.missed + (unanswered t.calls + 0)) + looks_in v.calls ≤ (length v.missed + (unanswered s.calls + 0)) + looks_in w.calls + 1 = omega arith in e

-- ---- one seat among others

same_seats_ask : (ss ts : List SeatView) → length ts ≡ length ss → ((j : ℕ) → seat_at ts j ≡ seat_at ss j) → unanswered_at ts ≡ unanswered_at ss
same_seats_ask [] [] c e = refl
same_seats_ask [] (t ∷ ts) c e = let n : ⊥ = omega arith in absurd n
same_seats_ask (s ∷ ss) [] c e = let n : ⊥ = omega arith in absurd n
same_seats_ask (s ∷ ss) (t ∷ ts) c e =
    let here : unanswered t.calls ≡ unanswered s.calls = ap (λ (x : SeatView). unanswered x.calls) (e zero) in
    let count : length ts ≡ length ss = omega arith in
    let more : unanswered_at ts ≡ unanswered_at ss = same_seats_ask ss ts count (λ j. e (suc j)) in
    let both : unanswered t.calls + unanswered_at ts ≡ unanswered s.calls + unanswered_at ss = omega arith in both

asked_there : (i : ℕ) (ss ts : List SeatView) → length ts ≡ length ss → ((j : ℕ) → j ≢ i → seat_at ts j ≡ seat_at ss j) → unanswered_at ts + unanswered (seat_at ss i).calls ≡ unanswered_at ss + unanswered (seat_at ts i).calls
asked_there i [] [] c e = refl
asked_there i [] (t ∷ ts) c e = let n : ⊥ = omega arith in absurd n
asked_there i (s ∷ ss) [] c e = let n : ⊥ = omega arith in absurd n
asked_there zero (s ∷ ss) (t ∷ ts) c e =
    let count : length ts ≡ length ss = omega arith in
    let more : unanswered_at ts ≡ unanswered_at ss = same_seats_ask ss ts count (λ j. e (suc j) (λ z. let n : ⊥ = omega arith in n)) in
    let both : (unanswered t.calls + unanswered_at ts) + unanswered s.calls ≡ (unanswered s.calls + unanswered_at ss) + unanswered t.calls = omega arith in both
asked_there (suc i) (s ∷ ss) (t ∷ ts) c e =
    let here : unanswered t.calls ≡ unanswered s.calls = ap (λ (x : SeatView). unanswered x.calls) (e zero (λ z. let n : ⊥ = omega arith in n)) in
    let count : length ts ≡ length ss = omega arith in
    let more : unanswered_at ts + unanswered (seat_at ss i).calls ≡ unanswered_at ss + unanswered (seat_at ts i).calls = asked_there i ss ts count (λ j ne. e (suc j) (λ z. ne (let f : j ≡ i = omega arith in f))) in
    let both : (unanswered t.calls + unanswered_at ts) + unanswered (seat_at ss i).calls ≡ (unanswered s.calls + unanswered_at ss) + unanswered (seat_at ts i).calls = omega arith in both

pub looks_at : {P : SeatView → SeatView → Type 0} (n i : ℕ) (v w : Knows) (ss ts : List SeatView) → AtSeat i ss ts P → LooksEachTime n v w (one_seat (change (seat_at ss i) (seat_at ts i))) → LooksEachTime n v w (change ss ts)
looks_at n i v w ss ts a h =
    let m : (length w.missed + (unanswered (seat_at ts i).calls + 0)) + looks_in v.calls ≤ (length v.missed + (unanswered (seat_at ss i).calls + 0)) + looks_in w.calls + n = h in
    let sum : unanswered_at ts + unanswered (seat_at ss i).calls ≡ unanswered_at ss + unanswered (seat_at ts i).calls = asked_there i ss ts a.same.count a.others in
    let e : (length w.missed + unanswered_at ts) + looks_in v.calls ≤ (length v.missed + unanswered_at ss) + looks_in w.calls + n = omega arith in e

-- a turn that enters asks nothing
line_asks : (s : SeatView) (c : LineCall) → unanswered (c ∷ []) ≡ 0 → unanswered (with_line s c).calls ≡ unanswered s.calls
line_asks s c none = let e = unanswered_then s.calls (c ∷ []) in let f : unanswered (s.calls ++ c ∷ []) ≡ unanswered s.calls = omega arith in f

pub none_asked : (x : DeskStep SeatView) (i : ℕ) (cs : List PassCall) (r : Settled) → AcquiredAs x i cs r → unanswered x.seats.new.calls ≡ unanswered x.seats.old.calls
none_asked x i cs (GoesOn r) h = ap (λ (t : SeatView). unanswered t.calls) h.0 ∙ line_asks x.seats.old (Enter (next_turn x.given) First) refl
none_asked x i cs Shipped h = ap (λ (t : SeatView). unanswered t.calls) h.1 ∙ (line_asks (with_line x.seats.old (Enter (next_turn x.given) (Behind h.0))) (Link h.0 (next_turn x.given)) refl ∙ line_asks x.seats.old (Enter (next_turn x.given) (Behind h.0)) refl)
none_asked x i cs Did_stop h = ap (λ (t : SeatView). unanswered t.calls) h.0 ∙ line_asks x.seats.old (Enter (next_turn x.given) First) refl
none_asked x i cs r h = absurd h

pub looks_entered : {P : SeatView → SeatView → Type 0} (i : ℕ) (v w : Knows) (ss ts : List SeatView) → AtSeat i ss ts P → unanswered (seat_at ts i).calls ≡ unanswered (seat_at ss i).calls → LooksEachTime 0 v w no_seats → LooksEachTime 0 v w (change ss ts)
looks_entered i v w ss ts a same h = looks_beside v w ss ts (let sum = asked_there i ss ts a.same.count a.others in let e : unanswered_at ts ≡ unanswered_at ss = omega arith in e) h
