-- What became of a package that wants a lock, from its parts.
use Rattle.std.proofs.Common.{◌≡◌, ◌+◌, min, ℕ, List, [], ◌∷◌, ◌++◌, refl, sym, ap, ◌∙◌, subst, arith, Option, Some, None, if◌then◌else◌}
use Rattle.tc_combiner.proofs.Vocabulary.{AcquiredAs, Acquires, Acts, Behind, PassCall, Change, DeskStep, DidFirst, DidGrant, DidTake, Did_stop, Done, Enter, First, FirstAs, GoesOn, HallView, DeskParts, IsAtHall, IsAtRest, IsSameSeat, IsWaiting, Item, Link, LockView, Loose, MAX_NUMBER, MayAsk, MayGive, MayGoOn, Pack}
use Rattle.tc_combiner.proofs.Vocabulary.{PackageView, PassView, PutAllBack, Ready, Runs, SeatView, Settled, Shipped, Taken, TakenAs, HallTerms, Turn, Waiting, Wants_lock, at_none, back, by_parts, change, counted, locked_in, next_turn, packed, place_back, put_call, ready_in, saw, threads, with_line, with_turns}
use Rattle.tc_combiner.proofs.Acting.{acts_by, acts_still, acts_then, owned_by, takes_none}
use Rattle.tc_combiner.proofs.Owning.{counts_in, granted_with, takes_in}
use Rattle.tc_combiner.proofs.Answering.{keeps_answers, wider}
use Rattle.tc_combiner.proofs.Packages.{no_other, plain_gives, taken_good, wants_runs}

-- ---- packages that are put back

pub puts_both : (q o : PackageView) (h g : DeskParts) (m : PassView) → h.aside ≡ Some o → Runs o → g.aside ≡ None → g.ready.items ≡ [] → Acts (put_call q (place_back q) ∷ []) (Pack q ∷ []) [] h.pass m → Acts (put_call o (place_back o) ∷ []) (Pack o ∷ []) [] m g.pass → PutAllBack q (change h g)
puts_both q o h g m e runs none same a b =
    let ready : place_back o ≡ Ready = ap (λ x. if x then Ready else Done) runs in
    let first : Acts (put_call q (place_back q) ∷ []) (Pack q ∷ Pack o ∷ []) (Pack o ∷ []) h.pass m = record { own = a.own; adds = a.adds; moves = λ d us w. a.moves d (Pack o ∷ us) w } in
    let other : Acts (put_call o Ready ∷ []) (Pack o ∷ []) [] m g.pass = subst (λ x. Acts (put_call o x ∷ []) (Pack o ∷ []) [] m g.pass) ready b in
    let both = acts_then (put_call q (place_back q) ∷ []) (put_call o Ready ∷ []) (Pack q ∷ Pack o ∷ []) (Pack o ∷ []) [] h.pass m g.pass first other in
    record { acts = subst (λ (x : Option PackageView). Acts (back q x) (Pack q ∷ packed x) [] h.pass g.pass) (sym e) both; aside = none; ready = same }

-- ---- the first of its line

pub takes_first : (k : HallTerms) (i n : ℕ) (l : LockView) (q r : PackageView) (h g : DeskParts) → IsAtRest q.image i l → DidGrant l Taken n q r → IsWaiting q i → MayGoOn k q → Acts [] [] (Loose l ∷ []) h.pass g.pass → g.ready.items ≡ h.ready.items → g.aside ≡ h.aside → DidFirst k i n q (change h g) (Some r)
takes_first k i n l q r h g rest d waits m a same keeps =
    let free : locked_in q l.number ≡ None = subst (λ (j : ℕ). locked_in q j ≡ None) (sym rest.number) waits.absent in
    let t : DidTake i l n q r = record { rest = rest; grant = d } in
    let acts : Acts [] (Pack q ∷ packed h.aside) (Pack r ∷ packed h.aside) h.pass g.pass = record { own = a.own; adds = a.adds; moves = λ b zs o. takes_in h.pass.knows g.pass.knows l q r a.moves (granted_with l Taken n q r d free) b (packed h.aside ++ zs) o } in record {
      calls = [];
      acts = subst (λ (x : Option PackageView). Acts [] (Pack q ∷ packed h.aside) (Pack r ∷ packed x) h.pass g.pass) (sym keeps) acts;
      ready = same;
      became = (refl, keeps, (l, t), taken_good i l n _ h.pass.knows.worker k.image.value q r t m.of m.plain m.runs);
    }

pub stops_first : (k : HallTerms) (i n : ℕ) (q : PackageView) (h m g : DeskParts) → Acts saw [] [] h.pass m.pass → m.aside ≡ h.aside → PutAllBack q (change m g) → DidFirst k i n q (change h g) None
stops_first k i n q h m g a e p = record {
  calls = saw ++ back q h.aside;
  acts = subst (λ (x : Option PackageView). Acts (saw ++ back q h.aside) (Pack q ∷ packed h.aside) (packed x) h.pass g.pass) (sym p.aside)
      (acts_then saw (back q h.aside) (Pack q ∷ packed h.aside) (Pack q ∷ packed h.aside) [] h.pass m.pass g.pass (acts_by saw (Pack q ∷ packed h.aside) h.pass m.pass a)
      (subst (λ (x : Option PackageView). Acts (back q x) (Pack q ∷ packed x) [] m.pass g.pass) e p.acts));
  ready = p.ready;
  became = (refl, p.aside);
}

-- the pass was told of a call on a line before
pub first_after : (k : HallTerms) (i n : ℕ) (q : PackageView) (h : DeskParts) (m : PassView) (g : DeskParts) (r : Option PackageView) → Acts [] [] [] h.pass m → DidFirst k i n q (change (record h { pass = m }) g) r → DidFirst k i n q (change h g) r
first_after k i n q h m g r a d = record {
  calls = d.calls;
  acts = acts_then [] d.calls (Pack q ∷ packed h.aside) (Pack q ∷ packed h.aside) (packed r ++ packed g.aside) h.pass m g.pass (acts_by [] (Pack q ∷ packed h.aside) h.pass m a) d.acts;
  ready = d.ready;
  became = subst (λ (w : ℕ). FirstAs (record (by_parts k q at_none (change h g)) { worker = w }) i n d.calls r) a.adds.told.worker d.became;
}

-- the seats count for nothing there
first_at : {A B : Type 0} (k : HallTerms) (q : PackageView) (seats : Change A) (others : Change B) (parts : Change DeskParts) (i n : ℕ) (cs : List PassCall) (r : Option PackageView) → FirstAs (by_parts k q seats parts) i n cs r → FirstAs (by_parts k q others parts) i n cs r
first_at k q seats others parts i n cs (Some r) h = h
first_at k q seats others parts i n cs None h = h

-- ---- with its number counted

turned : (q p : PackageView) (n : ℕ) (xs ys : List Item) (ds : List PassCall) (v w : PassView) → p ≡ with_turns n q → Acts ds (Pack p ∷ xs) ys v w → Acts ds (Pack q ∷ xs) ys v w
turned q p n xs ys ds v w e a = acts_then [] ds (Pack q ∷ xs) (Pack p ∷ xs) ys v v w (acts_still v (Pack q ∷ xs) (Pack p ∷ xs) (counts_in v.knows q p n xs e)) a

pub at_counted : (hall : HallView) (q p : PackageView) (n : ℕ) (h : DeskParts) → p ≡ with_turns n q → IsAtHall hall (Pack q ∷ packed h.aside) h → IsAtHall hall (Pack p ∷ packed h.aside) h
at_counted hall q p n h e y = record { own = y.own; image = y.image; out = owned_by h.pass.knows h.pass.knows (Pack q ∷ packed h.aside) (Pack p ∷ packed h.aside) (counts_in h.pass.knows q p n (packed h.aside) e) y.out; aside = y.aside }

-- the package p is q with its number counted, and u is the turn of that number
pub record IsCounted (q p : PackageView) (u : Turn) : Type 0 where
  pub is : p ≡ counted q
  pub turn : u ≡ next_turn q

pub is_counted : (q p : PackageView) (n t : ℕ) → n ≡ min (q.turns + 1) MAX_NUMBER → p ≡ with_turns n q → t ≡ p.context.thread → IsCounted q p (record { thread = t; number = n })
is_counted q p n t e f g = record {
  is = f ∙ ap (λ (m : ℕ). with_turns m q) e;
  turn = let h : t ≡ q.context.thread = g ∙ ap (λ (c : PackageView). c.context.thread) f in λ j. record { thread = h j; number = e j };
}

module _ (hall : HallView) (i : ℕ) (u : Turn) (q p : PackageView) (s t : SeatView) (h g : DeskParts) (c : IsCounted q p u) (at : IsAtHall hall (Pack q ∷ packed h.aside) h) where
  first_as : (cs : List PassCall) (r : Option PackageView) → FirstAs (by_parts hall.terms p at_none (change h g)) i u.number cs r → TakenAs (by_parts hall.terms q (change s t) (change h g)) i cs r
  first_as cs r d = subst (λ (x : PackageView). FirstAs (by_parts hall.terms x (change s t) (change h g)) i (next_turn q).number cs r) c.is
      (subst (λ (x : Turn). FirstAs (by_parts hall.terms p (change s t) (change h g)) i x.number cs r) c.turn (first_at hall.terms p at_none (change s t) (change h g) i u.number cs r d))

  pub goes_on : (r : PackageView) → t ≡ with_line s (Enter u First) → DidFirst hall.terms i u.number p (change h g) (Some r) → Acquires hall.terms i q (change s t) (change h g) (GoesOn r)
  goes_on r line d = record {
    calls = d.calls;
    answers = keeps_answers hall d.calls q h g (GoesOn r) at (turned q p _ (packed h.aside) (Pack r ∷ packed g.aside) d.calls h.pass g.pass c.is d.acts) (takes_none (threads hall.terms) h.ready.items g.ready.items d.calls d.ready (ap ready_in d.became.0)) d.became.1;
    became = (subst (λ (x : Turn). t ≡ with_line s (Enter x First)) c.turn line, first_as d.calls (Some r) d.became);
  }

  pub stops_second : t ≡ with_line s (Enter u First) → DidFirst hall.terms i u.number p (change h g) None → Acquires hall.terms i q (change s t) (change h g) Did_stop
  stops_second line d = record {
    calls = d.calls;
    answers = record {
      acts = turned q p _ (packed h.aside) (packed g.aside) d.calls h.pass g.pass c.is d.acts;
      readied = d.ready;
      aside = λ b e. let f = d.became.1 in let n : ⊥ = cc in absurd n;
    };
    became = (subst (λ (x : Turn). t ≡ with_line s (Enter x First)) c.turn line, first_as d.calls None d.became);
  }

  pub ships : (mark : ℕ) (r : SeatView) → t ≡ with_line s (Enter u (Behind mark)) → r ≡ with_line t (Link mark u) → Acts (put_call p (Waiting i) ∷ []) (Pack p ∷ []) [] h.pass g.pass → g.ready.items ≡ h.ready.items → g.aside ≡ h.aside → Acquires hall.terms i q (change s r) (change h g) Shipped
  ships mark r first later a f n = record {
    calls = put_call p (Waiting i) ∷ [];
    answers = keeps_answers hall (put_call p (Waiting i) ∷ []) q h g Shipped at
        (turned q p _ (packed h.aside) (packed g.aside) (put_call p (Waiting i) ∷ []) h.pass g.pass c.is (wider (put_call p (Waiting i) ∷ []) p h g n a))
        (takes_none (threads hall.terms) h.ready.items g.ready.items (put_call p (Waiting i) ∷ []) f refl) n;
    became = (
      mark,
      subst (λ (x : Turn). r ≡ with_line (with_line s (Enter x (Behind mark))) (Link mark x)) c.turn (later ∙ ap (λ (z : SeatView). with_line z (Link mark u)) first),
      ap (λ (x : PackageView). put_call x (Waiting i) ∷ []) c.is,
      n,
    );
  }

-- what is asked of a package that wants a lock, once its number was counted
pub still_asks : (k : HallTerms) (i : ℕ) (q p : PackageView) (n : ℕ) → p ≡ with_turns n q → MayAsk k i q → MayAsk k i p
still_asks k i q p n e m = subst (λ (x : PackageView). MayAsk k i x) (sym e) (record { lock = m.lock; of = m.of; plain = record { thread = m.plain.thread; settled = m.plain.settled; granted = m.plain.granted; locks = m.plain.locks; ended = m.plain.ended; uncut = m.plain.uncut }; want = m.want })

pub may_wait : (hall : HallView) (i : ℕ) (q : PackageView) (h : DeskParts) → IsAtHall hall (Pack q ∷ packed h.aside) h → MayAsk hall.terms i q → MayGive hall h.pass (Waiting i) q
may_wait hall i q h at m = plain_gives hall (Waiting i) q (packed h.aside) h.pass h.aside at m.plain m.lock (record {
  ended = λ e. let n : ⊥ = omega arith in absurd n;
  runs = λ ne. wants_runs q i m.want;
  own = no_other q m.plain.locks;
  waits = λ j e. let same : i ≡ j = omega arith in subst (λ (x : ℕ). Wants_lock q x) same m.want;
  ready = λ g e. let f = m.plain.granted in let n : ⊥ = cc in absurd n;
})

pub same_seat : (x : DeskStep SeatView) (i : ℕ) (cs : List PassCall) (r : Settled) → AcquiredAs x i cs r → IsSameSeat x.seats.old x.seats.new
same_seat x i cs (GoesOn r) h = subst (λ (t : SeatView). IsSameSeat x.seats.old t) (sym h.0) (refl, refl)
same_seat x i cs Shipped h = subst (λ (t : SeatView). IsSameSeat x.seats.old t) (sym h.1) (refl, refl)
same_seat x i cs Did_stop h = subst (λ (t : SeatView). IsSameSeat x.seats.old t) (sym h.0) (refl, refl)
same_seat x i cs r h = absurd h
