-- What became of a released lock, from its parts.
use Rattle.std.proofs.Common.{⊎_elim, length-append, ◌&&◌, ◌≡◌, ◌<◌, ◌≤◌, ◌+◌, ℕ, true, false, List, [], ◌∷◌, ◌++◌, length, refl, sym, ap, ◌∙◌, subst, Some, ◌≢◌, Bool, not, ◌==◌, if◌then◌else◌, arith, Option, None}
use Rattle.tc_combiner.proofs.Vocabulary.{Acts, Adopted, All-cons, All-nil, Asks, Block, PassCall, Change, DeskStep, DidGrant, DidGrantNext, DidPass, DidTakeOut, End, FollowedAs, Free, GaveUp, Granted, HallView, GrantedAs, DeskParts, IsAt, IsAtRest, IsLeft, IsNumber, IsPlaced, IsReleased, IsSoundPackage, IsTaken, IsTurn, IsWaiter, Item, Kind, Knows}
use Rattle.tc_combiner.proofs.Vocabulary.{LeftAs, LockView, LooksAfterFirst, LooksEachTime, Loose, MayAct, MayBringHome, MayGive, MayGrantNext, MayPassTo, MayRelease, Moves, Next, Outs, Owned, Owns, Pack, PackageView, PassView, Passed, Ready, Releases, EndsSection, SeatTells, SeatView, Shown, Shows, Takes, HallTerms, Turn, Unlocked, Was_adopted, Was_granted, Was_stopped, Went_home, adopts}
use Rattle.tc_combiner.proofs.Vocabulary.{and_parts, bare, blocks_of, by_parts, change, ends_section, ends_thread, granted_lock, grants_adopted, adopted_in, has, is_only, is_passed, last_of, locked_in, locks, may_adopt, nat_tests, one_seat, outs, passes_to, put_call, ready_in, run_of, saw, threads, turn_of, unless, unlocks, was_cut, without_lock}
use Rattle.tc_context.specs.View.{IsAt as IsKeptAt}
use Rattle.std.proofs.lemmas.Bool.{and_right}
use Rattle.tc_nested.proofs.Allowing.{adopted, granted}
use Rattle.tc_combiner.proofs.Acting.{acted_by, acted_then, acts_beside, acts_by, acts_still, acts_then, may_still, owned_by}
use Rattle.tc_combiner.proofs.Looking.{looks_first, looks_further}
use Rattle.tc_combiner.proofs.Owning.{comes_out, granted_moves, taken_with, without_first}
use Rattle.tc_combiner.proofs.Packages.{waiter_good, good_order}
use Rattle.tc_hall.proofs.Behind.{unpinned}

-- ---- what the batch rule says

pub adopts_as : (b : Block) (l : LockView) (lock run limit : ℕ) → lock ≡ l.number → run ≡ run_of l.number (blocks_of l) → limit ≡ l.journal.limit → may_adopt b lock run limit ≡ adopts l b
adopts_as b l lock run limit e f g = λ j. may_adopt b (e j) (f j) (g j)

pub passes_other : (l : LockView) (b : Block) (k : Kind) (t : ℕ) → last_of (blocks_of l) ≡ Some b → b.thread ≢ t → MayPassTo l k t
passes_other l b k t last ne strict =
    let e : (b.thread == t) ≡ false = grind (arith, nat_tests) in
    ap (λ (o : Option Block). passes_to o k t) last ∙ ap not (and_right (is_passed k) (b.thread == t) e)

-- ---- the thread of the block that released a lock, and its turn

pub turn_is : (n t k : ℕ) → t < n → IsNumber k → IsTurn n (record { thread = t; number = k })
turn_is n t k h e = record { thread = h; numbered = e.0; small = let a = e.1 in omega arith }

pub number_is : (n : ℕ) (u : Turn) → IsTurn n u → IsNumber u.number
number_is n u h = let a = h.numbered in let b = h.small in (omega arith, omega arith)

-- a package that came out is of another thread than one that is out already
pub came_apart : (v w : Knows) (q p : PackageView) (t : ℕ) → Moves v w [] (Pack q ∷ []) → (outs v).context t ≡ Some p → t ≢ q.context.thread
came_apart v w q p t m e s =
    let o : Owns (outs v) (outs w) (Pack q ∷ []) = m (outs v) [] refl in
    let here : (t == q.context.thread) ≡ true = grind (arith, nat_tests) in
    let gone : (outs v).context t ≡ None = sym (ap (λ (z : Outs). z.context t) o.1) ∙ ap (λ (b : Bool). unless (if b then Some (bare q) else None) ((outs w).context t)) here in
    cc

pub is_beside : (v w : Knows) (p : PackageView) (t : ℕ) → Owned v (Pack p ∷ []) → outs w ≡ outs v → t ≡ p.context.thread → (outs w).context t ≡ Some (bare p)
is_beside v w p t o e s =
    let here : (t == p.context.thread) ≡ true = grind (arith, nat_tests) in
    ap (λ (z : Outs). z.context t) e ∙ o.1.0.contexts t (bare p) (ap (λ (b : Bool). if b then Some (bare p) else None) here)

pub left_after : (image : Shown) (q : PackageView) (b : Block) → IsLeft image q.context (last_of q.log) → last_of q.log ≡ Some b → IsLeft image q.context (Some b)
left_after image q b h e = subst (λ (o : Option Block). IsLeft image q.context o) e h

pub block_thread : (q : PackageView) (b : Block) → IsSoundPackage q → last_of q.log ≡ Some b → b.thread ≡ q.context.thread
block_thread q b s e = (left_after q.image q b s.left e).thread

-- a lock that the last block released is not held
pub released_free : (q : PackageView) (b : Block) (i : ℕ) → IsSoundPackage q → last_of q.log ≡ Some b → Releases i b → has q.context.guest.held i ≡ false
released_free q b i s e r = (left_after q.image q b s.left e).held i ∙ and_right (has b.held i) (not (ends_section i b)) (ap not r.1)

-- the lock l, which the block b of the package q released, was taken out of it
pub record TookReleased (i : ℕ) (b : Block) (l : LockView) (q p : PackageView) : Type 0 where
  pub out : DidTakeOut i l q p
  pub held : has q.context.guest.held i ≡ false
  pub none : q.granted ≡ None
  pub thread : b.thread ≡ q.context.thread

pub took_released : (k : HallTerms) (v : Knows) (i : ℕ) (b : Block) (l : LockView) (q p : PackageView) → IsSoundPackage q → MayRelease k v i b q → locked_in q i ≡ Some l → p ≡ without_lock i q → IsPlaced i None q.context.locks p.context.locks → IsAtRest q.image i l → TookReleased i b l q p
took_released k v i b l q p s may was is placed rest = record {
  out = record { was = was; is = is; locks = placed; rest = rest };
  held = released_free q b i s may.last may.released;
  none = may.granted;
  thread = block_thread q b s may.last;
}

-- the lock that was taken out is as the last block left it
pub is_released : (k : HallTerms) (v w : Knows) (i : ℕ) (b : Block) (l : LockView) (q : PackageView) → IsSoundPackage q → MayRelease k v i b q → w.image ≡ v.image → w.worker ≡ v.worker → locked_in q i ≡ Some l → IsAtRest q.image i l → IsReleased k w b l
is_released k v w i b l q s h image worker was rest =
    let stored = s.stored i l was in
    let at = subst (λ (p : Option Block). IsKeptAt p q i l) h.settled stored.at in
    let none : granted_lock q.granted ≢ Some i = (λ e. let f : granted_lock q.granted ≡ None = ap granted_lock h.granted in let z : ⊥ = cc in z) in
    record {
      lock = subst (λ (j : ℕ). j < locks k) (sym rest.number) h.lock;
      rest = subst (λ (k : ℕ). IsAtRest w.image k l) (sym rest.number) (subst (λ (x : Shown). IsAtRest x i l) (h.of ∙ sym image) rest);
      last = at.last b h.last h.released.0 none;
      released = subst (λ (k : ℕ). Releases k b) (sym rest.number) h.released;
      worker = h.worker ∙ sym worker;
    }

pub still_rests : (image : Shown) (i : ℕ) (l : LockView) → IsAtRest image i l → EndsSection l.number l
still_rests image i l h = subst (λ (k : ℕ). EndsSection k l) (sym h.number) h.ended

-- the lock came out of its package, beside what was called
pub came_out : (es : List PassCall) (i : ℕ) (l : LockView) (q p : PackageView) (v w : PassView) → DidTakeOut i l q p → Acts es [] [] v w → Acts es (Pack q ∷ []) (Pack p ∷ Loose l ∷ []) v w
came_out es i l q p v w d a = record { own = a.own; adds = a.adds; moves = λ b zs o. a.moves b (Pack p ∷ Loose l ∷ zs) (comes_out v.knows l q p (taken_with i l q p d) b zs o) }

-- and then went on
out_then : (es ds : List PassCall) (i : ℕ) (l : LockView) (q p : PackageView) (ys : List Item) (v w x : PassView) → DidTakeOut i l q p → Acts es [] [] v w → Acts ds (Loose l ∷ []) ys w x → Acts (es ++ ds) (Pack q ∷ []) (Pack p ∷ ys) v x
out_then es ds i l q p ys v w x d a b = acts_then es ds (Pack q ∷ []) (Pack p ∷ Loose l ∷ []) (Pack p ∷ ys) v w x (came_out es i l q p v w d a) (acts_beside ds (Pack p) (Loose l ∷ []) ys w x b)

-- ---- one thread at most was put as ready

few_none : (cs ds : List PassCall) → cs ≡ ds → ready_in ds ≡ [] → length (ready_in cs) ≤ 1
few_none cs ds e none = let n : length (ready_in cs) ≡ 0 = ap (λ (c : List PassCall). length (ready_in c)) e ∙ ap length none in omega arith

pub few_followed : (x : DeskStep SeatView) (l : LockView) (b : Block) (own : Turn) (cs : List PassCall) (r : Passed) → FollowedAs x l b own cs r → length (ready_in cs) ≤ 1
few_followed x l b own cs Went_home h = few_none cs _ h.1 refl
few_followed x l b own cs Was_granted h = let n : length (ready_in cs) ≡ 1 = ap (λ (c : List PassCall). length (ready_in c)) h.2.3 in omega arith
few_followed x l b own cs (Was_adopted q) h = few_none cs _ h.2.3 refl
few_followed x l b own cs Was_stopped h = few_none cs _ h refl

pub few_left : (x : DeskStep SeatView) (l : LockView) (b : Block) (own : Turn) (cs : List PassCall) (was is : Bool) → LeftAs x l b own cs was is → length (ready_in cs) ≤ 1
few_left x l b own cs false false h = ⊎_elim (few_followed x l b own cs Went_home) (few_followed x l b own cs Was_granted) h
few_left x l b own cs false true h = few_followed x l b own cs Was_stopped h
few_left x l b own cs true false h = absurd h
few_left x l b own cs true true h = few_none cs _ h.1 refl

-- what became of a lock, in other words
pub gave_as : {k : HallTerms} {i : ℕ} {q : Change PackageView} {xs : List Item} {seat : Change SeatView} {parts : Change DeskParts} {How Other : LockView → List PassCall → Type 0} (d : GaveUp k i q xs seat parts How) → Other d.state d.calls → GaveUp k i q xs seat parts Other
gave_as d how = record { calls = d.calls; acted = d.acted; aside = d.aside; state = d.state; taken = d.taken; asks = d.asks; looks = d.looks; became = how }

-- so the list of ready threads has one more at most
pub few_more : {k : HallTerms} {i : ℕ} {q p : PackageView} {xs : List Item} {s t : SeatView} {h g : DeskParts} {How : LockView → List PassCall → Type 0} (d : GaveUp k i (change q p) xs (change s t) (change h g) How) → length (ready_in d.calls) ≤ 1 → length g.ready.items ≤ length h.ready.items + 1
few_more {h = h} {g = g} d few =
    let all : length g.ready.items ≡ length h.ready.items + length (ready_in d.calls) = ap (λ (l : List ℕ). length l) d.acted.readied.0 ∙ length-append h.ready.items (ready_in d.calls) in
    omega arith

-- ---- a lock for a waiter

pub is_adopted : (k : HallTerms) (b : Block) (l : LockView) (u : Turn) (w q : PackageView) (h : DeskParts) → IsWaiter u.thread l.number k.image.value w → IsReleased k h.pass.knows b l → DidGrant l Adopted u.number w q → adopts l b ≡ true
    → DidGrantNext k l b u (Pack w ∷ Loose l ∷ []) (change h h) (Was_adopted q)
is_adopted k b l u w q h i r d a = record {
  calls = [];
  acted = acted_by k [] (Pack w ∷ Loose l ∷ []) (Pack q ∷ []) h h (acts_still h.pass (Pack w ∷ Loose l ∷ []) (Pack q ∷ []) (granted_moves h.pass.knows l Adopted u.number w q d i.waits.absent)) refl refl;
  aside = refl;
  became = (record { waiter = w; was = i; grant = d }, a, waiter_good l Adopted u.thread u.number b.worker k.image.value w q i d (adopted l.number l.journal.limit (blocks_of l) b r.last a), refl);
}

known_waiter : (k : HallTerms) (l : LockView) (u : Turn) (w q : PackageView) → IsWaiter u.thread l.number k.image.value w → IsTurn (threads k) u → DidGrant l Granted u.number w q → q.context.thread < threads k
known_waiter k l u w q i t d = subst (λ (n : ℕ). n < threads k) (sym (ap (λ (c : PackageView). c.context.thread) d.is ∙ i.thread)) t.thread

pub may_put : (hall : HallView) (b : Block) (l : LockView) (u : Turn) (w q : PackageView) (h : DeskParts) → MayGrantNext hall l b u (Pack w ∷ Loose l ∷ []) h → IsWaiter u.thread l.number hall.terms.image.value w → DidGrant l Granted u.number w q → adopts l b ≡ false → MayGive hall h.pass Ready q
may_put hall b l u w q h m i d a =
    let r = m.released in
    let g = waiter_good l Granted u.thread u.number h.pass.knows.worker hall.terms.image.value w q i d (granted l.number l.journal.limit (blocks_of l) b h.pass.knows.worker r.last r.released a) in record {
      own = m.parts.at.own;
      thread = known_waiter hall.terms l u w q i m.turn d;
      place = tt;
      out = (owned_by h.pass.knows h.pass.knows (Pack w ∷ Loose l ∷ []) (Pack q ∷ []) (granted_moves h.pass.knows l Granted u.number w q d i.waits.absent) m.parts.at.out).1.0;
      order = good_order q hall.terms.image.value h.pass.knows.worker g;
      free = unpinned q (ap (λ (c : PackageView). grants_adopted c.granted) d.is) (ap (λ (c : PackageView). was_cut (last_of c.log)) d.is ∙ i.uncut);
      fits = g.fits;
    }

pub is_granted : (k : HallTerms) (b : Block) (l : LockView) (u : Turn) (w q : PackageView) (h g : DeskParts) → IsWaiter u.thread l.number k.image.value w → IsTurn (threads k) u → DidGrant l Granted u.number w q → adopts l b ≡ false
    → Acts (put_call q Ready ∷ []) (Pack q ∷ []) [] h.pass g.pass → g.ready.items ≡ h.ready.items ++ q.context.thread ∷ [] → g.aside ≡ h.aside → DidGrantNext k l b u (Pack w ∷ Loose l ∷ []) (change h g) Was_granted
is_granted k b l u w q h g i t d a p e s = record {
  calls = put_call q Ready ∷ [];
  acted = record {
    acts = acts_then [] (put_call q Ready ∷ []) (Pack w ∷ Loose l ∷ []) (Pack q ∷ []) [] h.pass h.pass g.pass (acts_still h.pass (Pack w ∷ Loose l ∷ []) (Pack q ∷ []) (granted_moves h.pass.knows l Granted u.number w q d i.waits.absent)) p;
    readied = (e, All-cons (λ n. n < threads k) q.context.thread [] (known_waiter k l u w q i t d) (All-nil (λ n. n < threads k)));
  };
  aside = s;
  became = (q, record { waiter = w; was = i; grant = d }, a, refl);
}

-- ---- once the waiter came

pub came : (l : LockView) (w : PackageView) (p q : PassView) → Acts [] [] (Pack w ∷ []) p q → Acts [] (Loose l ∷ []) (Pack w ∷ Loose l ∷ []) p q
came l w p q a = record { own = a.own; adds = a.adds; moves = λ b zs o. a.moves b (Loose l ∷ zs) o }

pub released_still : {k : HallTerms} (ds : List PassCall) (xs ys : List Item) (p q : PassView) (b : Block) (l : LockView) → Acts ds xs ys p q → IsReleased k p.knows b l → IsReleased k q.knows b l
released_still ds xs ys p q b l a h = record {
  lock = h.lock;
  rest = subst (λ (x : Shown). IsAtRest x l.number l) (sym a.adds.told.image) h.rest;
  last = h.last;
  released = h.released;
  worker = h.worker ∙ sym a.adds.told.worker;
}

pub grants_sooner : (k : HallTerms) (l : LockView) (b : Block) (u : Turn) (xs ys : List Item) (h m g : DeskParts) (r : Passed) → Acts [] xs ys h.pass m.pass → m.ready.items ≡ h.ready.items → m.aside ≡ h.aside → DidGrantNext k l b u ys (change m g) r → DidGrantNext k l b u xs (change h g) r
grants_sooner k l b u xs ys h m g r a e s d = record {
  calls = d.calls;
  acted = acted_then k [] d.calls xs ys (adopted_in r) h m g (acted_by k [] xs ys h m a e refl) d.acted;
  aside = d.aside ∙ s;
  became = d.became;
}

-- the lock goes home, where it is still out
pub may_free : (hall : HallView) (ds : List PassCall) (l : LockView) (p q : PassView) (b : Option PackageView) → l.number < locks hall.terms → EndsSection l.number l → IsAt hall (Loose l ∷ []) p b → Acts ds [] [] p q → MayBringHome hall q l
may_free hall ds l p q b small rests at a = record { own = a.own.0 ∙ at.own; lock = small; out = (a.moves at.out.0 (Loose l ∷ []) at.out.1).0; rests = rests }

pub is_stopped : (k : HallTerms) (l : LockView) (b : Block) (u : Turn) (h g : DeskParts) (m : PassView) → Acts saw [] [] h.pass m → Acts (Free l.number ∷ []) (Loose l ∷ []) [] m g.pass → g.ready.items ≡ h.ready.items → g.aside ≡ h.aside → DidGrantNext k l b u (Loose l ∷ []) (change h g) Was_stopped
is_stopped k l b u h g m a f e s = record {
  calls = saw ++ Free l.number ∷ [];
  acted = acted_by k (saw ++ Free l.number ∷ []) (Loose l ∷ []) [] h g (acts_then saw (Free l.number ∷ []) (Loose l ∷ []) (Loose l ∷ []) [] h.pass m g.pass (acts_by saw (Loose l ∷ []) h.pass m a) f) e refl;
  aside = s;
  became = refl;
}

-- ---- once the lock was taken out of its package

pub may_lock : (hall : HallView) (n i : ℕ) (l : LockView) (q p : PackageView) (h m : DeskParts) → DidTakeOut i l q p → Acts [] [] [] h.pass m.pass → m.ready.items ≡ h.ready.items → m.aside ≡ h.aside → MayAct hall (Pack q ∷ []) n h → MayAct hall (Loose l ∷ []) n m
may_lock hall n i l q p h m d a e s y =
    let z = may_still hall [] (Pack q ∷ []) (Pack p ∷ Loose l ∷ []) n h m y (came_out [] i l q p h.pass m.pass d a) e s in
    record { at = record { own = z.at.own; image = z.at.image; out = without_first m.pass.knows (Pack p) (Loose l ∷ []) z.at.out; aside = z.at.aside }; room = z.room }

pub followed : (x : DeskStep SeatView) (l : LockView) (b : Block) (own u : Turn) (cs : List PassCall) (r : Passed) → SeatTells x (Next own (Some u)) → GrantedAs x.image l b u cs r → FollowedAs x l b own cs r
followed x l b own u cs Went_home k h = absurd h
followed x l b own u cs Was_granted k h = (u, k, h)
followed x l b own u cs (Was_adopted q) k h = (u, k, h)
followed x l b own u cs Was_stopped k h = h

pub passes : (k : HallTerms) (i : ℕ) (b : Block) (l : LockView) (own u : Turn) (q p : PackageView) (s t : SeatView) (h m g : DeskParts) (r : Passed) → DidTakeOut i l q p → Acts [] [] [] h.pass m.pass → m.ready.items ≡ h.ready.items → m.aside ≡ h.aside → own ≡ turn_of q i → Asks own s t → LooksAfterFirst own s t h.pass.knows m.pass.knows → Shows s.calls t.calls (Next own (Some u))
    → DidGrantNext k l b u (Loose l ∷ []) (change m g) r → DidPass k i b (change q p) (change s t) (change h g) r
passes k i b l own u q p s t h m g r d a e f same asks looks shown y = record {
  calls = y.calls;
  acted = record { acts = out_then [] y.calls i l q p (adopted_in r) h.pass m.pass g.pass d a y.acted.acts; readied = (y.acted.readied.0 ∙ ap (λ (n : List ℕ). n ++ ready_in y.calls) e, y.acted.readied.1) };
  aside = y.aside ∙ f;
  state = l;
  taken = d;
  asks = subst (λ (z : Turn). Asks z s t) same asks;
  looks = looks_further 1 h.pass.knows m.pass.knows g.pass.knows (s ∷ []) (t ∷ []) (looks_first own s t h.pass.knows m.pass.knows looks) y.acted.acts.adds.looks;
  became = followed (by_parts k q (change s t) (change h g)) l b (turn_of q i) u y.calls r (subst (λ (z : Turn). Shows s.calls t.calls (Next z (Some u))) same shown) y.became;
}

-- the lock came out, and went home
pub frees : (k : HallTerms) (es : List PassCall) (i : ℕ) (l : LockView) (own : Turn) (q p : PackageView) (s t : SeatView) (h g : DeskParts) (m : PassView) (How : Turn → LockView → List PassCall → Type 0)
    → DidTakeOut i l q p → own ≡ turn_of q i → Asks own s t → LooksEachTime 1 h.pass.knows m.knows (one_seat (change s t)) → Acts es [] [] h.pass m → Acts (Free l.number ∷ []) (Loose l ∷ []) [] m g.pass
    → g.ready.items ≡ h.ready.items → g.aside ≡ h.aside → ready_in (es ++ Free l.number ∷ []) ≡ [] → How own l (es ++ Free l.number ∷ []) → GaveUp k i (change q p) [] (change s t) (change h g) (How (turn_of q i))
frees k es i l own q p s t h g m How d same asks looks a f e n none how = record {
  calls = es ++ Free l.number ∷ [];
  acted = acted_by k (es ++ Free l.number ∷ []) (Pack q ∷ []) (Pack p ∷ []) h g (out_then es (Free l.number ∷ []) i l q p [] h.pass m g.pass d a f) e none;
  aside = n;
  state = l;
  taken = d;
  asks = subst (λ (u : Turn). Asks u s t) same asks;
  looks = looks_further 1 h.pass.knows m.knows g.pass.knows (s ∷ []) (t ∷ []) looks f.adds.looks;
  became = subst (λ (u : Turn). How u l (es ++ Free l.number ∷ [])) same how;
}

pub is_taken : (hall : HallView) (i : ℕ) (l : LockView) (p q : PassView) → q.table ≡ hall.table → i < locks hall.terms → Takes i l p.knows q.knows → IsTaken hall i q l
is_taken hall i l p q own small t =
    let rest : IsAtRest q.knows.image i l = subst (λ (x : Shown). IsAtRest x i l) (sym t.called.image) t.rest in
    (rest, record { own = own; lock = subst (λ (n : ℕ). n < locks hall.terms) (sym rest.number) small; out = t.came.out; rests = still_rests q.knows.image i l rest })

pub taken_free : (hall : HallView) (ds : List PassCall) (i : ℕ) (l : LockView) (q p : PackageView) (v w : PassView) (a : Option PackageView) → DidTakeOut i l q p → i < locks hall.terms → IsAt hall (Pack q ∷ []) v a → Acts ds [] [] v w → MayBringHome hall w l
taken_free hall ds i l q p v w a d small at b = record {
  own = b.own.0 ∙ at.own;
  lock = subst (λ (n : ℕ). n < locks hall.terms) (sym d.rest.number) small;
  out = (without_first w.knows (Pack p) (Loose l ∷ []) (owned_by v.knows w.knows (Pack q ∷ []) (Pack p ∷ Loose l ∷ []) (came_out ds i l q p v w d b).moves at.out)).1.0;
  rests = still_rests q.image i l d.rest;
}

no_unlock : (i : ℕ) (e : End) → ends_thread e ≡ true → unlocks i e ≡ false
no_unlock i (Unlocked k) h = let n : ⊥ = cc in absurd n
no_unlock i end h = refl

-- nobody is adopted behind it
pub none_adopted : (k : HallTerms) (i : ℕ) (b : Block) (q p : PackageView) (s t : SeatView) (h g : DeskParts) (r : PackageView) → ends_thread b.end ≡ true → DidPass k i b (change q p) (change s t) (change h g) (Was_adopted r) → ⊥
none_adopted k i b q p s t h g r e d =
    let n : ℕ = d.state.number in
    let both = and_parts (unlocks n b.end && is_only b.held n) _ d.became.2.1 in
    let unlock = (and_parts (unlocks n b.end) _ both.0).0 in
    let f = no_unlock n b.end e in
    cc
