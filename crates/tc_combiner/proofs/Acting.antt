-- Calls of a pass, one after another, with each call that counts.
use Rattle.std.proofs.Common.{◌≡◌, ◌≢◌, ◌==◌, ◌<◌, ◌≤◌, ◌+◌, ℕ, Bool, true, false, cond, arith, All, List, [], ◌∷◌, ◌++◌, length, length-append, filter, refl, sym, ap, ◌∙◌, subst, append_assoc, append-nil, Some, None, Option}
use Rattle.tc_combiner.proofs.Vocabulary.{Acted, Acts, All-nil, AreAsked, AskedTimes, Asks, BeginsAs, PassCall, Called, Came, Departure, HallView, DeskParts, HaveNoStop, IsAt, IsSamePass, Item, Knows, Leave, LineCall, MAX_HELD, MayAct, Miss, Moves, Next, Owned, Owns, PackageView, PassView, Put, Ready}
use Rattle.tc_combiner.proofs.Vocabulary.{Refused, SawStopped, SeatView, Stop, Stopped, TakesDown, HallTerms, Tried, TriedAs, Try_stopped, Turn, WaitedAs, Waits, after_miss, after_stopped, change, counts, erase, looks_in, nat_tests, outs, ready_in, saw, saw_if, threads, unanswered, with_line}
use Rattle.std.proofs.lemmas.List.Elements.{filter-append, All-append}
use Rattle.tc_combiner.proofs.Looking.{looks_called, looks_then, looks_tried, looks_twice, unanswered_then}
use Rattle.tc_combiner.proofs.Owning.{moves_none, rotate, unrotate}
use Rattle.tc_order.specs.Order.{AreLines, Told}
use Rattle.tc_hall.specs.declared.board.PassCall.TheVariants.{Line}

pub no_stops : (cs ds : List PassCall) → HaveNoStop cs → HaveNoStop ds → HaveNoStop (cs ++ ds)
no_stops [] ds p q = q
no_stops (Stop ∷ cs) ds p q = p
no_stops (c ∷ cs) ds p q = no_stops cs ds p q

pub told_then : (cs ds : List PassCall) (v w x : Knows) → Called cs v w → Called ds w x → Called (cs ++ ds) v x
told_then cs ds v w x a b = record {
  image = b.image ∙ a.image;
  worker = b.worker ∙ a.worker;
  sealed = b.sealed ∙ a.sealed;
  joined = b.joined ∙ a.joined;
  calls = b.calls ∙ (ap (λ (l : List PassCall). l ++ ds) a.calls ∙ append_assoc v.calls cs ds);
}

asked_then : (u : Turn) (cs ds : List LineCall) → AreAsked u cs → AreAsked u ds → AreAsked u (cs ++ ds)
asked_then u [] ds h k = k
asked_then u (Next x e ∷ cs) ds h k = (h.0, asked_then u cs ds h.1 k)
asked_then u (Leave x e ∷ cs) ds h k = (h.0, asked_then u cs ds h.1 k)
asked_then u (c ∷ cs) ds h k = absurd h

pub asked_line : (n k : ℕ) (u : Turn) (s t r : SeatView) (c : LineCall) → AskedTimes n u s t → r ≡ with_line t c → AreAsked u (c ∷ []) → unanswered (c ∷ []) ≡ k → AskedTimes (n + k) u s r
asked_line n k u s t r c h e mine f =
    let asks : Asks u s r = record {
      threads = ap (λ (z : SeatView). z.threads) e ∙ h.0.threads;
      table = ap (λ (z : SeatView). z.table) e ∙ h.0.table;
      lines = h.0.lines ++ c ∷ [];
      calls = ap (λ (z : SeatView). z.calls) e ∙ (ap (λ (l : List LineCall). l ++ c ∷ []) h.0.calls ∙ append_assoc s.calls h.0.lines (c ∷ []));
      asked = asked_then u h.0.lines (c ∷ []) h.0.asked mine;
    } in
    (asks, unanswered_then h.0.lines (c ∷ []) ∙ (ap (λ (m : ℕ). m + unanswered (c ∷ [])) h.1 ∙ ap (λ (m : ℕ). n + m) f))

pub asked_none : (u : Turn) (s : SeatView) → AskedTimes 0 u s s
asked_none u s = (record { threads = refl; table = refl; lines = []; calls = sym (append-nil s.calls); asked = tt }, refl)

-- one question that was not answered, and the leave
pub asked_left : (s m t : SeatView) (u : Turn) (a : Option Turn) (d : Departure) → m ≡ with_line s (Next u a) → a ≡ None → t ≡ with_line m (Leave u d) → AskedTimes 1 u s t
asked_left s m t u a d e none f = asked_line 1 0 u s m t (Leave u d) (asked_line 0 1 u s s m (Next u a) (asked_none u s) e (refl, tt) (ap (λ (o : Option Turn). unanswered (Next u o ∷ [])) none)) f (refl, tt) refl

pub acts_then : (ds es : List PassCall) (xs ys zs : List Item) (p q r : PassView) → Acts ds xs ys p q → Acts es ys zs q r → Acts (ds ++ es) xs zs p r
acts_then ds es xs ys zs p q r a b = record {
  own = (b.own.0 ∙ a.own.0, b.own.1 ∙ a.own.1);
  adds = record {
    calls = a.adds.calls ++ b.adds.calls;
    told = told_then a.adds.calls b.adds.calls p.knows q.knows r.knows a.adds.told b.adds.told;
    stops = no_stops a.adds.calls b.adds.calls a.adds.stops b.adds.stops;
    looks = looks_twice 0 0 p.knows q.knows r.knows [] [] [] a.adds.looks b.adds.looks;
    are = filter-append counts a.adds.calls b.adds.calls ∙ (ap (λ (l : List PassCall). l ++ filter counts b.adds.calls) a.adds.are ∙ ap (λ (l : List PassCall). ds ++ l) b.adds.are);
  };
  moves = λ c us o. b.moves c us (a.moves c us o);
}

-- the hall made these calls, of which those count
pub acts_told : (cs ds : List PassCall) (xs ys : List Item) (p q : PassView) → filter counts cs ≡ ds → HaveNoStop cs → IsSamePass p q → Called cs p.knows q.knows → Moves p.knows q.knows xs ys → q.knows.missed ≡ p.knows.missed → Acts ds xs ys p q
acts_told cs ds xs ys p q e n own told m missed = record { own = own; adds = record { calls = cs; told = told; stops = n; are = e; looks = looks_called p.knows q.knows cs missed told.calls }; moves = m }

-- where nothing was called
pub acts_still : (p : PassView) (xs ys : List Item) → Moves p.knows p.knows xs ys → Acts [] xs ys p p
acts_still p xs ys m = acts_told [] [] xs ys p p refl tt (refl, refl) (record { image = refl; worker = refl; sealed = refl; joined = refl; calls = sym (append-nil p.knows.calls) }) m refl

pub acts_none : (p : PassView) (xs : List Item) → Acts [] xs xs p p
acts_none p xs = acts_still p xs xs (λ c us o. o)

-- a call that moved nothing of what is in hand
pub acts_by : (ds : List PassCall) (xs : List Item) (p q : PassView) → Acts ds [] [] p q → Acts ds xs xs p q
acts_by ds xs p q a = record { own = a.own; adds = a.adds; moves = λ c us o. a.moves c (xs ++ us) o }

-- with one thing in hand besides
pub acts_beside : (ds : List PassCall) (x : Item) (xs ys : List Item) (p q : PassView) → Acts ds xs ys p q → Acts ds (x ∷ xs) (x ∷ ys) p q
acts_beside ds x xs ys p q a = record { own = a.own; adds = a.adds; moves = λ c us o. rotate c (outs q.knows) x ys us (a.moves c (x ∷ us) (unrotate c (outs p.knows) x xs us o)) }

saw_counts : (b : Bool) (word : ℕ) → (b ≡ true → word ≡ 1) → (b ≡ false → word ≢ 1) → filter counts (Stopped word ∷ []) ≡ saw_if b
saw_counts true word one other = let e = one refl in ap (λ (n : ℕ). filter counts (Stopped n ∷ [])) e
saw_counts false word one other = let ne = other refl in let e : (word == 1) ≡ false = grind (arith, nat_tests) in ap (λ (x : Bool). cond x (Stopped word ∷ []) []) e

pub acts_looked : (b : Bool) (p q : PassView) → IsSamePass p q → SawStopped b p.knows q.knows → Acts (saw_if b) [] [] p q
acts_looked b p q own s = acts_told (Stopped s.word ∷ []) (saw_if b) [] [] p q (saw_counts b s.word s.one s.other) tt own
    (subst (λ (w : Knows). Called (Stopped s.word ∷ []) p.knows w) (sym s.now) (record { image = refl; worker = refl; sealed = refl; joined = refl; calls = refl }))
    (moves_none p.knows q.knows (ap outs s.now)) (ap (λ (w : Knows). w.missed) s.now)

-- ---- steps that were refused, and calls

-- a step that added neither
-- one call was added, and no check of STOP
pub tried_called : (c : PassCall) (v w : Knows) → looks_in (c ∷ []) ≡ 0 → w.missed ≡ v.missed → Called (c ∷ []) v w → Tried 0 0 v w
tried_called c v w quiet same told = record { misses = []; missed = same ∙ sym (append-nil v.missed); each = refl; calls = c ∷ []; added = told.calls; all = quiet }

pub tried_still : (v : Knows) → Tried 0 0 v v
tried_still v = record { misses = []; missed = sym (append-nil v.missed); each = refl; calls = []; added = sym (append-nil v.calls); all = refl }

pub tried_looked : (v w : Knows) (word : ℕ) → w ≡ after_stopped v word → Tried 0 1 v w
tried_looked v w word e = record { misses = []; missed = ap (λ (x : Knows). x.missed) e ∙ sym (append-nil v.missed); each = refl; calls = Stopped word ∷ []; added = ap (λ (x : Knows). x.calls) e; all = refl }

pub tried_then : (a b c d : ℕ) (v w x : Knows) → Tried a b v w → Tried c d w x → Tried (a + c) (b + d) v x
tried_then a b c d v w x h k = record {
  misses = h.misses ++ k.misses;
  missed = k.missed ∙ (ap (λ (l : List Miss). l ++ k.misses) h.missed ∙ append_assoc v.missed h.misses k.misses);
  each = length-append h.misses k.misses ∙ (ap (λ (n : ℕ). n + length k.misses) h.each ∙ ap (λ (n : ℕ). a + n) k.each);
  calls = h.calls ++ k.calls;
  added = k.added ∙ (ap (λ (l : List PassCall). l ++ k.calls) h.added ∙ append_assoc v.calls h.calls k.calls);
  all = looks_then h.calls k.calls ∙ (ap (λ (n : ℕ). n + looks_in k.calls) h.all ∙ ap (λ (n : ℕ). b + n) k.all);
}

-- a step that was refused, and the look at STOP behind it
pub misses : (b x : Bool) (word found : ℕ) (p q r : PassView) → b ≡ x → IsSamePass p q → q.knows ≡ after_miss p.knows word found → Acts (saw_if b) [] [] q r → Tried 0 1 q.knows r.knows → Acts (saw_if x) [] [] p r × Tried 1 1 p.knows r.knows
misses b x word found p q r e own miss s l =
    let a : Acts (saw_if x) [] [] q r = subst (λ (y : Bool). Acts (saw_if y) [] [] q r) e s in
    let same : Called [] p.knows q.knows = subst (λ (w : Knows). Called [] p.knows w) (sym miss) (record { image = refl; worker = refl; sealed = refl; joined = refl; calls = sym (append-nil p.knows.calls) }) in
    let missed : Tried 1 0 p.knows q.knows = record { misses = record { word = word; found = found } ∷ []; missed = ap (λ (x : Knows). x.missed) miss; each = refl; calls = []; added = ap (λ (x : Knows). x.calls) miss ∙ sym (append-nil p.knows.calls); all = refl } in
    let tried : Tried 1 1 p.knows r.knows = tried_then 1 0 0 1 p.knows q.knows r.knows missed l in (
      record {
        own = (a.own.0 ∙ own.0, a.own.1 ∙ own.1);
        adds = record { calls = a.adds.calls; told = told_then [] a.adds.calls p.knows q.knows r.knows same a.adds.told; stops = a.adds.stops; are = a.adds.are; looks = looks_tried 1 1 p.knows r.knows (omega arith) tried };
        moves = λ c us o. a.moves c us (moves_none p.knows q.knows (ap outs miss) c us o);
      },
      tried,
    )

pub waits_none : (p : PassView) → Waits p p
waits_none p = (acts_none p [], (0, tried_still p.knows))

module _ {A : Type 0} (items : A → List Item) (is : PassView → A → Type 0) (p q r : PassView) (h : Waits p q) where
  pub waits_more : TriedAs 1 items is q r Refused → Waits p r
  waits_more t = (acts_then [] [] [] [] [] p q r h.0 t.0, (h.1.0 + 1, tried_then h.1.0 h.1.0 1 1 p.knows q.knows r.knows h.1.1 t.1))

  pub waits_stopped : TriedAs 1 items is q r Try_stopped → WaitedAs items is p r None
  waits_stopped t = (acts_then [] saw [] [] [] p q r h.0 t.0, (h.1.0 + 1, tried_then h.1.0 h.1.0 1 1 p.knows q.knows r.knows h.1.1 t.1))

  pub waits_came : (a : A) → TriedAs 1 items is q r (Came a) → WaitedAs items is p r (Some a)
  waits_came a t = (acts_then [] [] [] [] (items a) p q r h.0 t.0, (h.1.0 + 0, tried_then h.1.0 h.1.0 0 0 p.knows q.knows r.knows h.1.1 t.1), t.2)

pub ready_append : (cs ds : List PassCall) → ready_in (cs ++ ds) ≡ ready_in cs ++ ready_in ds
ready_append [] ds = refl
ready_append (Put t Ready ls g n ∷ cs) ds = ap (λ (l : List ℕ). t ∷ l) (ready_append cs ds)
ready_append (c ∷ cs) ds = ready_append cs ds

-- ---- the threads that were put as ready

pub takes_then : (n : ℕ) (xs ys zs : List ℕ) (cs ds : List PassCall) → TakesDown n xs ys cs → TakesDown n ys zs ds → TakesDown n xs zs (cs ++ ds)
takes_then n xs ys zs cs ds a b = (
  b.0 ∙ (ap (λ (l : List ℕ). l ++ ready_in ds) a.0 ∙ (append_assoc xs (ready_in cs) (ready_in ds) ∙ ap (λ (l : List ℕ). xs ++ l) (sym (ready_append cs ds)))),
  subst (λ (l : List ℕ). All (λ t. t < n) l) (sym (ready_append cs ds)) (All-append (λ t. t < n) (ready_in cs) (ready_in ds) a.1 b.1),
)

-- calls that put no thread as ready
pub takes_none : (n : ℕ) (xs ys : List ℕ) (cs : List PassCall) → ys ≡ xs → ready_in cs ≡ [] → TakesDown n xs ys cs
takes_none n xs ys cs e none = (
  e ∙ (sym (append-nil xs) ∙ ap (λ (l : List ℕ). xs ++ l) (sym none)),
  subst (λ (l : List ℕ). All (λ t. t < n) l) (sym none) (All-nil (λ t. t < n)),
)

-- ---- the parts of a desk

pub owned_by : (v w : Knows) (xs ys : List Item) → Moves v w xs ys → Owned v xs → Owned w ys
owned_by v w xs ys m o = (o.0, subst (λ (l : List Item). Owns o.0 (outs w) l) (append-nil ys) (m o.0 [] (subst (λ (l : List Item). Owns o.0 (outs v) l) (sym (append-nil xs)) o.1)))

pub same_outs : (ds : List PassCall) (p q : PassView) → Acts ds [] [] p q → outs q.knows ≡ outs p.knows
same_outs ds p q a = a.moves (outs p.knows) [] refl

-- the first of these, where the rest counts as what is out besides
pub alone : (hall : HallView) (x : Item) (xs : List Item) (p : PassView) (a : Option PackageView) → IsAt hall (x ∷ xs) p a → IsAt hall (x ∷ []) p a
alone hall x xs p a m = record { own = m.own; image = m.image; out = (erase (outs p.knows) x, (m.out.1.0, refl)); aside = m.aside }

-- where the pass is afterwards
pub at_after : (hall : HallView) (ds : List PassCall) (xs ys : List Item) (p q : PassView) (a b : Option PackageView) → IsAt hall xs p a → Acts ds xs ys p q → b ≡ a → IsAt hall ys q b
at_after hall ds xs ys p q a b m c e = record { own = c.own.0 ∙ m.own; image = c.adds.told.image ∙ m.image; out = owned_by p.knows q.knows xs ys c.moves m.out; aside = λ x f. m.aside x (sym e ∙ f) }

-- the desk may act on, where they put no thread as ready
pub may_still : (hall : HallView) (ds : List PassCall) (xs ys : List Item) (n : ℕ) (h g : DeskParts) → MayAct hall xs n h → Acts ds xs ys h.pass g.pass → g.ready.items ≡ h.ready.items → g.aside ≡ h.aside → MayAct hall ys n g
may_still hall ds xs ys n h g m a r s = record { at = at_after hall ds xs ys h.pass g.pass h.aside g.aside m.at a s; room = subst (λ (l : List ℕ). length l + n ≤ MAX_HELD) (sym r) m.room }

-- calls that put no thread as ready
pub acted_by : (k : HallTerms) (ds : List PassCall) (xs ys : List Item) (h g : DeskParts) → Acts ds xs ys h.pass g.pass → g.ready.items ≡ h.ready.items → ready_in ds ≡ [] → Acted k ds xs ys (change h g)
acted_by k ds xs ys h g a r none = record { acts = a; readied = takes_none (threads k) h.ready.items g.ready.items ds r none }

pub acted_then : (k : HallTerms) (ds es : List PassCall) (xs ys zs : List Item) (h m g : DeskParts) → Acted k ds xs ys (change h m) → Acted k es ys zs (change m g) → Acted k (ds ++ es) xs zs (change h g)
acted_then k ds es xs ys zs h m g a b = record { acts = acts_then ds es xs ys zs h.pass m.pass g.pass a.acts b.acts; readied = takes_then (threads k) h.ready.items m.ready.items g.ready.items ds es a.readied b.readied }

-- ---- calls on a line

quiet_lines : (cs : List PassCall) → AreLines cs → (filter counts cs ≡ []) × HaveNoStop cs × (looks_in cs ≡ 0)
quiet_lines [] l = (refl, tt, refl)
quiet_lines (Line i c ∷ cs) l = quiet_lines cs l.1
quiet_lines (c ∷ cs) l = let e = l.0 in let n : ⊥ = cc in absurd n

module _ (noted : List PassCall → Type 0) (p q : PassView) (t : Told noted p q) where
  -- a pass that an order of waiters told of its calls did nothing that counts
  pub acts_lined : Acts [] [] [] p q
  acts_lined = let quiet = quiet_lines t.calls t.lines in
      acts_told t.calls [] [] [] p q quiet.0 quiet.1 t.own
      (subst (λ (w : Knows). Called t.calls p.knows w) (sym t.now) (record { image = refl; worker = refl; sealed = refl; joined = refl; calls = refl }))
      (moves_none p.knows q.knows (ap outs t.now)) (ap (λ (w : Knows). w.missed) t.now)

  -- and no try of it failed
  pub tried_lined : Tried 0 0 p.knows q.knows
  tried_lined = record { misses = []; missed = ap (λ (w : Knows). w.missed) t.now ∙ sym (append-nil p.knows.missed); each = refl; calls = t.calls; added = ap (λ (w : Knows). w.calls) t.now; all = (quiet_lines t.calls t.lines).2 }

-- two such calls
pub asked_both : {f g : List PassCall → Type 0} {p q r : PassView} → Told f p q → Told g q r → Acts [] [] [] p r × Tried 0 0 p.knows r.knows
asked_both {f} {g} {p} {q} {r} a b = (
  acts_then [] [] [] [] [] p q r (acts_lined f p q a) (acts_lined g q r b),
  tried_then 0 0 0 0 p.knows q.knows r.knows (tried_lined f p q a) (tried_lined g q r b),
)

-- what follows a call on a line
pub begun_as : (noted : List PassCall → Type 0) (p q r : PassView) (cs : List PassCall) → Told noted p q → r.knows.calls ≡ q.knows.calls ++ cs → BeginsAs noted p r
begun_as noted p q r cs t after = record {
  begun = t.calls;
  rest = cs;
  calls = after ∙ (ap (λ (w : Knows). w.calls ++ cs) t.now ∙ append_assoc p.knows.calls t.calls cs);
  is = t.notes;
}
