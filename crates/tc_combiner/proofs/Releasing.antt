-- What the packages in a desk's hand show at the lines, where a lock is released and passed on.
use Rattle.std.proofs.Common.{◌≡◌, ◌≢◌, ℕ, ◌+◌, ◌==◌, Bool, true, false, if◌then◌else◌, List, [], ◌∷◌, ◌++◌, refl, sym, ap, ◌∙◌, subst, ⊎_elim, inr, Option, Some, None, eq-eqb, ne_eqb}
use Rattle.std.specs.Option.{option_map}
use mathlib.Core.Logic.{dite}
use native.Mathlib.Decide.{ℕ_discrete}
use Rattle.tc_journal.specs.declared.block.Kind.{Kind}
use Rattle.tc_context.specs.View.{IsNumbered, number_in}
use Rattle.tc_queue.specs.declared.turn.QueueCall.{QueueCall}
use Rattle.tc_queue.specs.declared.turn.QueueCall.TheVariants.{Leave as Own_leave, Next as Own_next}
use Rattle.tc_queue.specs.declared.turn.Leave.TheVariants.{Left as Own_left}
use Rattle.tc_hall.specs.Standing.{ClaimsAs, FreesAs, IfLined, PutsAs, Standing, away, closed, entered, followed, granted, is_of, kind_at, loose, past, past_line, past_passing, past_waiting, stand_if, stand_in, standing_of, stands_in, turn_by, turn_in, turns_of, turns_past}
use Rattle.tc_hall.specs.Places.{place_of}
use Rattle.tc_hall.specs.Rule.{HasLock}
use Rattle.tc_hall.specs.Steps.{given_of, kind_passed, passed_after, passed_kind}
use Rattle.tc_hall.proofs.Cases.{none_of, some_or_none}
use Rattle.tc_hall.proofs.Standing.{claimed_in, claimed_out, put_else, put_in, shows_none, stands_settled}
use Rattle.tc_hall.proofs.Telling.{place_codes}
use Rattle.tc_lemmas.proofs.Tests.{eq_self}
use Rattle.tc_combiner.proofs.Vocabulary.{Acts, Adopted, Block, DidGrant, DidTakeOut, Free, Grant, Granted, HallTerms, HasNoOther, HasNone, IsOut, Item, Knows, LockView, Loose, Moves, Outs, Owned, Pack, PackageView, PassCall, PassView, Ready, Turn, Waiting, adopts, bare, blocks_of, claim_call, erase, has, keep, kept, last_of, locked_in, outs, packed, put_call, unless}
use Rattle.tc_hall.specs.declared.board.PassCall.TheVariants.{Line}
use Rattle.tc_combiner.specs.Stances.{CountsTurns, FollowedBy, GrantsSo, KnowsLines, SameTurns, StandsPast, StandsSo, beside, but_at, shows_at}
use Rattle.tc_combiner.proofs.Stances.{past_called}
use Rattle.tc_combiner.proofs.Acting.{owned_by}
use Rattle.tc_combiner.proofs.Owning.{place_here, place_other}
use Rattle.tc_combiner.proofs.PassedOn.{came_apart, came_out}
use Rattle.tc_combiner.proofs.Lining.{aside_away, beside_away, but_else, but_here, counts_still, granted_else, granted_here}

-- ---- packages beside one another

module _ {A : Type 0} where
  -- what is left where a is taken away
  left_some : (a x : Option A) (c : A) → unless a x ≡ Some c → x ≡ Some c
  left_some None x c e = e
  left_some (Some a) x c e = let n : ⊥ = cc e in absurd n

  left_none : (a x : Option A) (c : A) → unless a x ≡ Some c → a ≡ None
  left_none None x c e = refl
  left_none (Some a) x c e = let n : ⊥ = cc e in absurd n

beside_stands : (u : Turn) (holds : Bool) (o : Option Kind) (s : Standing) → beside (stands_in u holds o) s ≡ stands_in u holds o
beside_stands u holds (Some kind) s = refl
beside_stands u true None s = refl
beside_stands u false None s = refl

-- a package shows at each of its locks
beside_in : (q : PackageView) (i : ℕ) (l : LockView) (s : Standing) → locked_in q i ≡ Some l → beside (stand_in q i) s ≡ stand_in q i
beside_in q i l s e =
    let shown : LockView → Standing = λ m. stands_in (turn_in q i) (has q.context.guest.held i) (kind_at i (given_of q)) in
    ap (λ (o : Option LockView). beside (stand_if o (shown l)) s) e
    ∙ (beside_stands (turn_in q i) (has q.context.guest.held i) (kind_at i (given_of q)) s ∙ sym (ap (λ (o : Option LockView). stand_if o (shown l)) e))

-- and nowhere else
beside_none : (q : PackageView) (i : ℕ) (s : Standing) → locked_in q i ≡ None → beside (stand_in q i) s ≡ s
beside_none q i s e = ap (λ (r : Standing). beside r s) (shows_none q i e)

-- only as of its own thread
stands_apart : (t : ℕ) (u : Turn) (holds : Bool) (o : Option Kind) → (u.thread == t) ≡ false → is_of t (stands_in u holds o) ≡ false
stands_apart t u holds (Some kind) e = e
stands_apart t u true None e = e
stands_apart t u false None e = e

pub shows_apart : (q : PackageView) (t i : ℕ) → q.context.thread ≢ t → is_of t (stand_in q i) ≡ false
shows_apart q t i ne = by (locked_in q i)
  where
    by : (o : Option LockView) → is_of t (stand_if o (stands_in (turn_in q i) (has q.context.guest.held i) (kind_at i (given_of q)))) ≡ false
    by None = refl
    by (Some l) = stands_apart t (turn_in q i) (has q.context.guest.held i) (kind_at i (given_of q)) (ne_eqb q.context.thread t ne)

-- and no turn that has only entered
shows_settled : (q : PackageView) (i : ℕ) (w : Turn) (before : Option Turn) → stand_in q i ≡ entered w before → ⊥
shows_settled q i w before e = by (locked_in q i) e
  where
    by : (o : Option LockView) → stand_if o (stands_in (turn_in q i) (has q.context.guest.held i) (kind_at i (given_of q))) ≡ entered w before → ⊥
    by None e = cc e
    by (Some l) e = stands_settled (turn_in q i) w (has q.context.guest.held i) (kind_at i (given_of q)) before e

-- two packages that are out are of different threads, and have no lock in common
module _ (o : Outs) (q d : PackageView) (out : IsOut (erase o (Pack q)) (Pack d)) where
  thread_beside : (erase o (Pack q)).context d.context.thread ≡ Some (bare d)
  thread_beside = out.contexts d.context.thread (bare d) (ap (λ (b : Bool). if b then Some (bare d) else None) (eq_self d.context.thread))

  pub threads_apart : d.context.thread ≢ q.context.thread
  threads_apart same =
      let none : (if d.context.thread == q.context.thread then Some (bare q) else None) ≡ None = left_none (if d.context.thread == q.context.thread then Some (bare q) else None) (o.context d.context.thread) (bare d) thread_beside in
      let some : (if d.context.thread == q.context.thread then Some (bare q) else None) ≡ Some (bare q) = ap (λ (b : Bool). if b then Some (bare q) else None) (eq-eqb d.context.thread q.context.thread same) in
      let n : ⊥ = cc (none, some) in n

  pub thread_out : o.context d.context.thread ≡ Some (bare d)
  thread_out = left_some (if d.context.thread == q.context.thread then Some (bare q) else None) (o.context d.context.thread) (bare d) thread_beside

  pub locks_apart : (i : ℕ) (l : LockView) → locked_in q i ≡ Some l → locked_in d i ≡ None
  locks_apart i l e = none_of (locked_in d i) (λ m f.
      let none : keep (locked_in q i) ≡ None = left_none (keep (locked_in q i)) (o.lock i) (kept m) (out.locks i (kept m) (ap keep f)) in
      let some : keep (locked_in q i) ≡ Some (kept l) = ap keep e in
      let n : ⊥ = cc (none, some) in n)

-- ---- with the package that is set aside

shows_with : (xs : List Item) (a : Option PackageView) (i : ℕ) → shows_at (packed a) i ≡ away → shows_at (xs ++ packed a) i ≡ shows_at xs i
shows_with [] a i e = e
shows_with (Pack q ∷ xs) a i e = ap (beside (stand_in q i)) (shows_with xs a i e)
shows_with (Loose l ∷ xs) a i e = shows_with xs a i e

counts_with : (cs : List PassCall) (xs : List Item) (a : Option PackageView) → CountsTurns cs (packed a) → CountsTurns cs xs → CountsTurns cs (xs ++ packed a)
counts_with cs [] a d c = d
counts_with cs (Pack q ∷ xs) a d c = (c.0, counts_with cs xs a d c.1)
counts_with cs (Loose l ∷ xs) a d c = counts_with cs xs a d c

-- the package in hand alone
pub without_aside : (k : HallTerms) (v : Knows) (q : PackageView) (a : Option PackageView) → ((c : PackageView) → a ≡ Some c → HasNone c) → KnowsLines k v (Pack q ∷ packed a) → KnowsLines k v (Pack q ∷ [])
without_aside k v q a free lines = record {
  stands = λ lined i. lines.stands lined i ∙ ap (beside (stand_in q i)) (aside_away a free i);
  turns = λ lined. ((lines.turns lined).0, tt);
}

-- and with the one set aside, whose turns stay counted
pub with_aside : (k : HallTerms) (v w : Knows) (xs : List Item) (q : PackageView) (a b : Option PackageView) → ((c : PackageView) → a ≡ Some c → HasNone c) → Owned v (Pack q ∷ packed a) → KnowsLines k v (Pack q ∷ packed a)
    → (k.lined ≡ true → SameTurns v w) → b ≡ a → KnowsLines k w xs → KnowsLines k w (xs ++ packed b)
with_aside k v w xs q a b free out lines same is now = subst (λ (o : Option PackageView). KnowsLines k w (xs ++ packed o)) (sym is) (record {
  stands = λ lined i. now.stands lined i ∙ sym (shows_with xs a i (aside_away a free i));
  turns = λ lined. counts_with w.calls xs a (counted lined a out (lines.turns lined).1) (now.turns lined);
})
  where
    counted : k.lined ≡ true → (o : Option PackageView) → Owned v (Pack q ∷ packed o) → CountsTurns v.calls (packed o) → CountsTurns w.calls (packed o)
    counted lined None out c = tt
    counted lined (Some d) out c = (same lined d.context.thread (bare d) (thread_out (outs v) q d out.1.1.0) ∙ c.0, tt)

-- one without locks may stand first
pub first_free : (k : HallTerms) (v : Knows) (q p : PackageView) (xs : List Item) → HasNone p → KnowsLines k v (Pack q ∷ Pack p ∷ xs) → KnowsLines k v (Pack p ∷ Pack q ∷ xs)
first_free k v q p xs free lines = record {
  stands = λ lined i. lines.stands lined i ∙ (ap (beside (stand_in q i)) (beside_none p i (shows_at xs i) (free i)) ∙ sym (beside_none p i (beside (stand_in q i) (shows_at xs i)) (free i)));
  turns = λ lined. let c = lines.turns lined in (c.1.0, (c.0, c.1.1));
}

-- ---- a package that is put as ready, with others in hand

module _ (k : HallTerms) (v : Knows) (p : PackageView) (xs : List Item) (apart : (i : ℕ) → is_of p.context.thread (shows_at xs i) ≡ false) (lines : KnowsLines k v (Pack p ∷ xs)) where
  pub readies_as : IfLined k v (PutsAs v p Ready)
  readies_as lined = inr (record {
    locks = λ i l e. lines.stands lined i ∙ beside_in p i l (shows_at xs i) e;
    others = λ i none other. ap (is_of p.context.thread) (lines.stands lined i ∙ beside_none p i (shows_at xs i) none) ∙ apart i;
    waits = λ i e. let n : ⊥ = cc e in absurd n;
    slept = λ e. let n : ⊥ = cc e in absurd n;
    turns = (lines.turns lined).0;
  })

  module _ (own : HasNoOther p) (none : (i : ℕ) (l : LockView) → locked_in p i ≡ Some l → shows_at xs i ≡ away) where
    ready_one : (i : ℕ) → past i (put_call p Ready) (beside (stand_in p i) (shows_at xs i)) ≡ shows_at xs i
    ready_one i = ⊎_elim
        (λ (z : (l : LockView) × (locked_in p i ≡ Some l)). ap (past i (put_call p Ready)) (beside_in p i z.0 (shows_at xs i) z.1) ∙ (put_in p Ready i z.0 z.1 (own i z.0 z.1) ∙ sym (none i z.0 z.1)))
        (λ (e : locked_in p i ≡ None). ap (past i (put_call p Ready)) (beside_none p i (shows_at xs i) e) ∙ put_else p Ready i (shows_at xs i) (apart i))
        (some_or_none (locked_in p i))

    -- then the pass stands as the others show
    pub ready_lines : (w : Knows) → w.calls ≡ v.calls ++ put_call p Ready ∷ [] → KnowsLines k w xs
    ready_lines w told = let called = past_called (put_call p Ready) k v w told in record {
      stands = λ lined i. called.stands lined i ∙ (ap (past i (put_call p Ready)) (lines.stands lined i) ∙ ready_one i);
      turns = λ lined. counts_still v.calls w.calls xs (λ t. called.turns lined t) (lines.turns lined).1;
    }

-- ---- a released lock that came out of its package

module _ (i : ℕ) (l : LockView) (q p : PackageView) (d : DidTakeOut i l q p) where
  -- the package shows the other locks as before
  left_else : (j : ℕ) → j ≢ i → stand_in p j ≡ stand_in q j
  left_else j ne =
      let lock : locked_in p j ≡ locked_in q j = place_other i None q p d.locks j ne in
      let shown : stands_in (turn_in p j) (has p.context.guest.held j) (kind_at j (given_of p)) ≡ stands_in (turn_in q j) (has q.context.guest.held j) (kind_at j (given_of q)) =
      ap (λ (c : PackageView). stands_in (turn_in c j) (has c.context.guest.held j) (kind_at j (given_of c))) d.is in
      λ x. stand_if (lock x) (shown x)

  module _ (released : has q.context.guest.held i ≡ false) (none : q.granted ≡ None) where
    left_here : stand_in q i ≡ loose (turn_in q i)
    left_here =
        let kind : kind_at i (given_of q) ≡ None = ap (λ (o : Option Grant). kind_at i (option_map (λ (g : Grant). record { lock = g.lock; kind = g.kind; number = number_in q g.lock }) o)) none in
        λ x. stand_if (d.was x) (stands_in (turn_in q i) (released x) (kind x))

    -- it stands so before its line is asked
    pub loose_stands : (k : HallTerms) (v : Knows) → KnowsLines k v (Pack q ∷ []) → k.lined ≡ true → standing_of i v.calls ≡ loose (turn_in q i)
    loose_stands k v lines lined = lines.stands lined i ∙ (beside_away (stand_in q i) ∙ left_here)

    module _ (k : HallTerms) (v w : Knows) (c : QueueCall) (r : Standing) (is : past_line c (loose (turn_in q i)) ≡ r) (lines : KnowsLines k v (Pack q ∷ [])) (did : StandsPast (Line i c) k v w) where
      asked_here : (j : ℕ) → j ≡ i → past j (Line i c) (stand_in q j) ≡ but_at i r (shows_at (Pack p ∷ [])) j
      asked_here j e =
          ap (λ (b : Bool). if b then past_line c (stand_in q j) else stand_in q j) (eq-eqb i j (sym e))
          ∙ (ap (λ (n : ℕ). past_line c (stand_in q n)) e ∙ (ap (past_line c) left_here ∙ (is ∙ sym (but_here i j r (shows_at (Pack p ∷ [])) e))))

      asked_else : (j : ℕ) → j ≢ i → past j (Line i c) (stand_in q j) ≡ but_at i r (shows_at (Pack p ∷ [])) j
      asked_else j ne =
          ap (λ (b : Bool). if b then past_line c (stand_in q j) else stand_in q j) (ne_eqb i j (λ e. ne (sym e)))
          ∙ (sym (left_else j ne) ∙ (sym (beside_away (stand_in p j)) ∙ sym (but_else i j r (shows_at (Pack p ∷ [])) ne)))

      -- and so after it
      pub asked_stands : StandsSo k w (but_at i r (shows_at (Pack p ∷ [])))
      asked_stands lined j = did.stands lined j ∙ (ap (past j (Line i c)) (lines.stands lined j ∙ beside_away (stand_in q j)) ∙ dite (ℕ_discrete j i) (λ (e : j ≡ i). asked_here j e) (λ (ne : j ≢ i). asked_else j ne))

      pub asked_counts : ((t n : ℕ) → turns_past t (Line i c) n ≡ n) → k.lined ≡ true → CountsTurns w.calls (Pack p ∷ [])
      asked_counts still lined = (
        ap (λ (x : PackageView). turns_of x.context.thread w.calls) d.is
            ∙ (did.turns lined q.context.thread ∙ (still q.context.thread (turns_of q.context.thread v.calls) ∙ ((lines.turns lined).0 ∙ sym (ap (λ (x : PackageView). x.turns) d.is)))),
        tt,
      )

-- the turn behind is known
pub followed_by : (k : HallTerms) (v w : PassView) (i : ℕ) (l : LockView) (own u : Turn) (q p : PackageView) → DidTakeOut i l q p → has q.context.guest.held i ≡ false → q.granted ≡ None → KnowsLines k v.knows (Pack q ∷ []) → StandsPast (Line i (Own_next own (Some u))) k v.knows w.knows
    → Acts [] [] [] v w → Owned v.knows (Pack q ∷ []) → FollowedBy k w.knows l.number (turn_in q i) u p
followed_by k v w i l own u q p d released none lines did a owned = subst (λ (n : ℕ). FollowedBy k w.knows n (turn_in q i) u p) (sym d.rest.number) (record {
  stands = asked_stands i l q p d released none k v.knows w.knows (Own_next own (Some u)) (followed (turn_in q i) u) refl lines did;
  turns = asked_counts i l q p d released none k v.knows w.knows (Own_next own (Some u)) (followed (turn_in q i) u) refl lines did (λ t n. refl);
  out = (owned_by v.knows w.knows (Pack q ∷ []) (Pack p ∷ Loose l ∷ []) (came_out [] i l q p v w d a).moves owned).1.0;
  free = place_here i None q p d.locks;
})

-- nobody is behind: the lock may go into its slot
module _ (k : HallTerms) (v w : Knows) (i : ℕ) (l : LockView) (own : Turn) (q p : PackageView) (d : DidTakeOut i l q p) (released : has q.context.guest.held i ≡ false) (none : q.granted ≡ None) (lines : KnowsLines k v (Pack q ∷ [])) (did : StandsPast (Line i (Own_leave own Own_left)) k v w) where
  closed_stands : StandsSo k w (but_at i (closed (turn_in q i)) (shows_at (Pack p ∷ [])))
  closed_stands = asked_stands i l q p d released none k v w (Own_leave own Own_left) (closed (turn_in q i)) refl lines did

  pub frees_as : IfLined k w (FreesAs w l.number)
  frees_as lined = inr (turn_in q i, closed_stands lined l.number ∙ but_here i l.number (closed (turn_in q i)) (shows_at (Pack p ∷ [])) d.rest.number)

  free_one : (j : ℕ) → past j (Free l.number) (but_at i (closed (turn_in q i)) (shows_at (Pack p ∷ [])) j) ≡ shows_at (Pack p ∷ []) j
  free_one j = dite (ℕ_discrete j i)
      (λ (e : j ≡ i). ap (λ (b : Bool). if b then away else but_at i (closed (turn_in q i)) (shows_at (Pack p ∷ [])) j) (eq-eqb l.number j (d.rest.number ∙ sym e)) ∙ sym (beside_none p j away (ap (locked_in p) e ∙ place_here i None q p d.locks)))
      (λ (ne : j ≢ i). ap (λ (b : Bool). if b then away else but_at i (closed (turn_in q i)) (shows_at (Pack p ∷ [])) j) (ne_eqb l.number j (λ e. ne (sym e ∙ d.rest.number))) ∙ but_else i j (closed (turn_in q i)) (shows_at (Pack p ∷ [])) ne)

  -- and then the pass stands as the package shows without it
  pub free_lines : (x : Knows) → x.calls ≡ w.calls ++ Free l.number ∷ [] → KnowsLines k x (Pack p ∷ [])
  free_lines x told = let called = past_called (Free l.number) k w x told in record {
    stands = λ lined j. called.stands lined j ∙ (ap (past j (Free l.number)) (closed_stands lined j) ∙ free_one j);
    turns = λ lined. counts_still w.calls x.calls (Pack p ∷ []) (λ t. called.turns lined t) (asked_counts i l q p d released none k v w (Own_leave own Own_left) (closed (turn_in q i)) refl lines did (λ t n. refl) lined);
  }

-- ---- the package of the turn behind

module _ (k : HallTerms) (v : Knows) (i : ℕ) (own u : Turn) (q : PackageView) (by : FollowedBy k v i own u q) where
  unsettled : (j : ℕ) (w : Turn) (before : Option Turn) → but_at i (followed own u) (shows_at (Pack q ∷ [])) j ≡ entered w before → ⊥
  unsettled j w before e = dite (ℕ_discrete j i)
      (λ (same : j ≡ i). let f : followed own u ≡ entered w before = sym (but_here i j (followed own u) (shows_at (Pack q ∷ [])) same) ∙ e in let n : ⊥ = cc f in n)
      (λ (ne : j ≢ i). shows_settled q j w before (sym (but_else i j (followed own u) (shows_at (Pack q ∷ [])) ne ∙ beside_away (stand_in q j)) ∙ e))

  -- it may be claimed, where it waits
  pub claims_as : (m : LockView) → HasLock v i m → IfLined k v (ClaimsAs v u.thread (Waiting i))
  claims_as m has lined = inr (record {
    settled = λ j w before e. unsettled j w before (sym (by.stands lined j) ∙ e);
    waiting = record {
      own = own;
      behind = u;
      stands = by.stands lined i ∙ but_here i i (followed own u) (shows_at (Pack q ∷ [])) refl;
      thread = refl;
      lock = m;
      has = has;
    };
  })

module _ (k : HallTerms) (v w : Knows) (l : LockView) (x : PackageView) (moves : Moves v w [] (Pack x ∷ [])) (did : StandsPast (claim_call v x (256 + l.number)) k v w) where
  -- the turns of the threads whose packages were out are counted as before
  pub came_counts : k.lined ≡ true → SameTurns v w
  came_counts lined t c out = did.turns lined t ∙ ap (λ (b : Bool). if b then x.turns else turns_of t v.calls) (ne_eqb x.context.thread t (λ e. came_apart v w x c t moves out (sym e)))

  module _ (own u : Turn) (q : PackageView) (by : FollowedBy k v l.number own u q) (lock : IsOut (outs v) (Loose l)) (absent : locked_in x l.number ≡ None) (mine : HasNoOther x) where
    kind_is : kind_passed v (place_of (256 + l.number)) ≡ Some (passed_kind l)
    kind_is = ap (kind_passed v) (place_codes (Waiting l.number)) ∙ ap (option_map passed_kind) (lock.locks l.number (kept l) (ap (λ (b : Bool). if b then Some (kept l) else None) (eq_self l.number)))

    abbrev before_it : ℕ → Standing
    before_it = but_at l.number (followed own u) (shows_at (Pack q ∷ []))

    abbrev after_it : ℕ → Standing
    after_it = but_at l.number (granted u (passed_kind l)) (shows_at (Pack x ∷ Pack q ∷ []))

    came_out_of : (j : ℕ) → locked_in x j ≡ None → past j (claim_call v x (256 + l.number)) (before_it j) ≡ (if l.number == j then past_passing (Some (passed_kind l)) (before_it j) else before_it j)
    came_out_of j none = claimed_out v x (256 + l.number) j (before_it j) none ∙ (λ y. past_waiting j (place_codes (Waiting l.number) y) (kind_is y) (before_it j))

    came_here : (j : ℕ) → j ≡ l.number → past j (claim_call v x (256 + l.number)) (before_it j) ≡ after_it j
    came_here j e =
        came_out_of j (ap (locked_in x) e ∙ absent)
        ∙ (ap (λ (b : Bool). if b then past_passing (Some (passed_kind l)) (before_it j) else before_it j) (eq-eqb l.number j (sym e))
        ∙ (ap (past_passing (Some (passed_kind l))) (but_here l.number j (followed own u) (shows_at (Pack q ∷ [])) e) ∙ sym (but_here l.number j (granted u (passed_kind l)) (shows_at (Pack x ∷ Pack q ∷ [])) e)))

    came_else : (j : ℕ) → j ≢ l.number → past j (claim_call v x (256 + l.number)) (before_it j) ≡ after_it j
    came_else j ne = ⊎_elim
        (λ (z : (m : LockView) × (locked_in x j ≡ Some m)). claimed_in v x (256 + l.number) j z.0 (before_it j) z.1 (mine j z.0 z.1) ∙ (sym (beside_in x j z.0 (shows_at (Pack q ∷ []) j) z.1) ∙ sym (but_else l.number j (granted u (passed_kind l)) (shows_at (Pack x ∷ Pack q ∷ [])) ne)))
        (λ (none : locked_in x j ≡ None).
        came_out_of j none
        ∙ (ap (λ (b : Bool). if b then past_passing (Some (passed_kind l)) (before_it j) else before_it j) (ne_eqb l.number j (λ e. ne (sym e)))
        ∙ (but_else l.number j (followed own u) (shows_at (Pack q ∷ [])) ne ∙ (sym (beside_none x j (shows_at (Pack q ∷ []) j) none) ∙ sym (but_else l.number j (granted u (passed_kind l)) (shows_at (Pack x ∷ Pack q ∷ [])) ne)))))
        (some_or_none (locked_in x j))

    came_beside : IsOut (erase (outs w) (Pack x)) (Pack q)
    came_beside = (moves (erase (outs v) (Pack q)) (Pack q ∷ []) (by.out, refl)).1.0

    -- once it came, the lock is passed on to it
    pub grants_so : GrantsSo k w l u x q
    grants_so = record {
      stands = λ lined j. did.stands lined j ∙ (ap (past j (claim_call v x (256 + l.number))) (by.stands lined j) ∙ dite (ℕ_discrete j l.number) (λ (e : j ≡ l.number). came_here j e) (λ (ne : j ≢ l.number). came_else j ne));
      turns = λ lined. (
        did.turns lined x.context.thread ∙ ap (λ (b : Bool). if b then x.turns else turns_of x.context.thread v.calls) (eq_self x.context.thread),
        (
          did.turns lined q.context.thread ∙ (ap (λ (b : Bool). if b then x.turns else turns_of q.context.thread v.calls) (ne_eqb x.context.thread q.context.thread (λ e. threads_apart (outs w) x q came_beside (sym e))) ∙ (by.turns lined).0),
          tt,
        ),
      );
      beside = came_beside;
      free = by.free;
    }

-- ---- the lock in it

-- how it is granted is as the batch rule says
pub kind_as : (l : LockView) (b : Block) (a : Bool) → last_of (blocks_of l) ≡ Some b → adopts l b ≡ a → passed_kind l ≡ (if a then Adopted else Granted)
kind_as l b a last e = ap (passed_after l) last ∙ ap (λ (x : Bool). if x then Adopted else Granted) e

module _ (k : HallTerms) (v : Knows) (l : LockView) (kind : Kind) (u : Turn) (x r q : PackageView) (so : GrantsSo k v l u x q) (thread : x.context.thread ≡ u.thread) (none : x.granted ≡ None) (d : DidGrant l kind u.number x r) (numbers : IsNumbered l.number u.number x r) where
  given_here : passed_kind l ≡ kind → (j : ℕ) → j ≡ l.number → but_at l.number (granted u (passed_kind l)) (shows_at (Pack x ∷ Pack q ∷ [])) j ≡ shows_at (Pack r ∷ Pack q ∷ []) j
  given_here same j e =
      but_here l.number j (granted u (passed_kind l)) (shows_at (Pack x ∷ Pack q ∷ [])) e
      ∙ ((let t = sym thread in λ y. granted (turn_by (t y) u.number) (same y)) ∙ sym (ap (λ (s : Standing). beside s (shows_at (Pack q ∷ []) j)) (granted_here x r l kind u.number none d.is d.locks numbers j e)))

  given_else : (j : ℕ) → j ≢ l.number → but_at l.number (granted u (passed_kind l)) (shows_at (Pack x ∷ Pack q ∷ [])) j ≡ shows_at (Pack r ∷ Pack q ∷ []) j
  given_else j ne = but_else l.number j (granted u (passed_kind l)) (shows_at (Pack x ∷ Pack q ∷ [])) ne ∙ sym (ap (λ (s : Standing). beside s (shows_at (Pack q ∷ []) j)) (granted_else x r l kind u.number none d.is d.locks numbers j ne))

  -- so the pass stands as the two packages show
  pub given_lines : passed_kind l ≡ kind → KnowsLines k v (Pack r ∷ Pack q ∷ [])
  given_lines same = record {
    stands = λ lined j. so.stands lined j ∙ dite (ℕ_discrete j l.number) (λ (e : j ≡ l.number). given_here same j e) (λ (ne : j ≢ l.number). given_else j ne);
    turns = λ lined. (ap (λ (c : PackageView). turns_of c.context.thread v.calls) d.is ∙ ((so.turns lined).0 ∙ sym (ap (λ (c : PackageView). c.turns) d.is)), (so.turns lined).1);
  }

  -- which have nothing in common
  pub given_apart : (i : ℕ) → is_of r.context.thread (shows_at (Pack q ∷ []) i) ≡ false
  given_apart i =
      ap (is_of r.context.thread) (beside_away (stand_in q i))
      ∙ shows_apart q r.context.thread i (λ e. threads_apart (outs v) x q so.beside (e ∙ ap (λ (c : PackageView). c.context.thread) d.is))

  pub given_none : (i : ℕ) (m : LockView) → locked_in r i ≡ Some m → shows_at (Pack q ∷ []) i ≡ away
  given_none i m e = beside_away (stand_in q i) ∙ shows_none q i (dite (ℕ_discrete i l.number)
      (λ (is : i ≡ l.number). ap (locked_in q) is ∙ so.free)
      (λ (ne : i ≢ l.number). locks_apart (outs v) x q so.beside i m (sym (place_other l.number (Some l) x r d.locks i ne) ∙ e)))
