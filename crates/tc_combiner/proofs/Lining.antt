-- What the packages in a desk's hand show at the lines, call by call.
use Rattle.std.proofs.Common.{◌≡◌, ◌≢◌, ℕ, ◌+◌, ◌==◌, min, Bool, true, false, if◌then◌else◌, List, [], ◌∷◌, ◌++◌, refl, sym, ap, ◌∙◌, subst, ⊎_elim, inr, Option, Some, None, eq-eqb, ne_eqb}
use mathlib.Core.Logic.{dite}
use native.Mathlib.Decide.{ℕ_discrete}
use Rattle.tc_queue.specs.declared.turn.QueueCall.TheVariants.{Enter as Own_enter}
use Rattle.tc_queue.specs.declared.turn.Entered.{Entered as OwnEntered}
use Rattle.tc_queue.specs.declared.turn.Entered.TheVariants.{Behind as Own_behind, First as Own_first}
use Rattle.tc_hall.specs.Standing.{EntersAs, IfLined, LinksAs, PutsAs, Standing, away, entered, granted, held, loose, followed, closed, is_of, kind_at, last_turn, past, past_line, past_put, past_take, stand_if, stand_in, standing_of, stands_in, turn_by, turns_of}
use Rattle.tc_hall.specs.declared.board.PassCall.TheVariants.{Line}
use Rattle.tc_hall.proofs.Standing.{put_in, shows_none}
use Rattle.tc_hall.proofs.Cases.{none_of, some_or_none}
use Rattle.tc_turn.proofs.Turns.{next_free}
use Rattle.tc_lemmas.proofs.Tests.{eq_self}
use Rattle.std.specs.Option.{option_map}
use Rattle.tc_context.specs.View.{IsNumbered, number_in, want_of, with_grant, with_turns}
use Rattle.tc_context.specs.declared.package.Grant.{Grant}
use Rattle.tc_hall.specs.Steps.{given_of}
use Rattle.tc_order.specs.Order.{Told, hall_notes}
use Rattle.tc_combiner.proofs.Vocabulary.{Behind, DeskParts, DidGrant, Enter, Has, HallTerms, HallView, HasBlock, HasNoOther, HasNone, HasOnlyHeld, IsAtHall, MAX_NUMBER, MayAsk}
use Rattle.tc_combiner.proofs.Vocabulary.{Outs, Owns, erase, is_running, next_lock, outs, thread_in, unless, Turn, bare, IsPlaced, Item, Kind, Knows, LockView, Loose, Pack, PackageView, PassCall, PassView, Place, Parked, Slept, Take, Taken, Waiting, has, last_of, locked_in, packed, put_call}
use Rattle.tc_combiner.specs.Stances.{CountsTurns, EnteredAs, KnowsLines, SameStances, StandsPast, beside, but_at, shows_at}
use Rattle.tc_combiner.proofs.Stances.{behind_past, past_called}
use Rattle.tc_combiner.proofs.Acquiring.{still_asks}
use Rattle.tc_combiner.proofs.Packages.{no_other}

-- ---- what is in hand shows

pub beside_away : (s : Standing) → beside s away ≡ s
beside_away away = refl
beside_away (entered u before) = refl
beside_away (granted u kind) = refl
beside_away (held u) = refl
beside_away (loose u) = refl
beside_away (followed u behind) = refl
beside_away (closed u) = refl

-- a package that is set aside has no lock
pub aside_away : (a : Option PackageView) → ((c : PackageView) → a ≡ Some c → HasNone c) → (i : ℕ) → shows_at (packed a) i ≡ away
aside_away None free i = refl
aside_away (Some c) free i = beside_away (stand_in c i) ∙ shows_none c i (free c refl i)

module _ (q : PackageView) (a : Option PackageView) (free : (c : PackageView) → a ≡ Some c → HasNone c) where
  pub hand_shows : (i : ℕ) → shows_at (Pack q ∷ packed a) i ≡ stand_in q i
  hand_shows i = ap (beside (stand_in q i)) (aside_away a free i) ∙ beside_away (stand_in q i)

-- ---- turns that are counted stay counted

pub counts_still : (cs ds : List PassCall) (xs : List Item) → ((t : ℕ) → turns_of t ds ≡ turns_of t cs) → CountsTurns cs xs → CountsTurns ds xs
counts_still cs ds [] same c = tt
counts_still cs ds (Pack q ∷ xs) same c = (same q.context.thread ∙ c.0, counts_still cs ds xs same c.1)
counts_still cs ds (Loose l ∷ xs) same c = counts_still cs ds xs same c

-- ---- a package that is put

pub put_away : (q : PackageView) (place : Place) (i : ℕ) → HasNoOther q → past i (put_call q place) (stand_in q i) ≡ away
put_away q place i own = ⊎_elim
    (λ (z : (l : LockView) × (locked_in q i ≡ Some l)). put_in q place i z.0 z.1 (own i z.0 z.1))
    (λ (none : locked_in q i ≡ None). ap (past_put q.context.thread) (shows_none q i none))
    (some_or_none (locked_in q i))

module _ (k : HallTerms) (v : Knows) (q : PackageView) (a : Option PackageView) (free : (c : PackageView) → a ≡ Some c → HasNone c) (lines : KnowsLines k v (Pack q ∷ packed a)) where
  -- it may be put, where it waits for no lock
  pub puts_as : (place : Place) → ((i : ℕ) → place ≢ Waiting i) → (place ≡ Parked → HasBlock (λ b. b.end ≡ Slept) (last_of q.log)) → IfLined k v (PutsAs v q place)
  puts_as place plain slept lined = inr (record {
    locks = λ i l e. lines.stands lined i ∙ hand_shows q a free i;
    others = λ i none other. ap (is_of q.context.thread) (lines.stands lined i ∙ (hand_shows q a free i ∙ shows_none q i none));
    waits = λ i e. absurd (plain i e);
    slept = slept;
    turns = (lines.turns lined).0;
  })

  -- and then the pass stands as the rest shows
  pub put_lines : (w : Knows) (place : Place) → HasNoOther q → w.calls ≡ v.calls ++ put_call q place ∷ [] → KnowsLines k w (packed a)
  put_lines w place own told =
      let called = past_called (put_call q place) k v w told in record {
        stands = λ lined i. called.stands lined i ∙ (ap (past i (put_call q place)) (lines.stands lined i ∙ hand_shows q a free i) ∙ (put_away q place i own ∙ sym (aside_away a free i)));
        turns = λ lined. counts_still v.calls w.calls (packed a) (λ t. called.turns lined t) (lines.turns lined).1;
      }

-- ---- a lock that is taken from its slot

pub but_here : (i j : ℕ) (s : Standing) (f : ℕ → Standing) → j ≡ i → but_at i s f j ≡ s
but_here i j s f e = ap (λ (b : Bool). if b then s else f j) (eq-eqb j i e)

pub but_else : (i j : ℕ) (s : Standing) (f : ℕ → Standing) → j ≢ i → but_at i s f j ≡ f j
but_else i j s f ne = ap (λ (b : Bool). if b then s else f j) (ne_eqb j i ne)

-- a package shows the lock that was granted to it, and the rest as before
module _ (q r : PackageView) (l : LockView) (kind : Kind) (n : ℕ) (none : q.granted ≡ None) (is : r ≡ with_grant l kind n q) (locks : IsPlaced l.number (Some l) q.context.locks r.context.locks) (numbers : IsNumbered l.number n q r) where
  thread_is : r.context.thread ≡ q.context.thread
  thread_is = ap (λ (x : PackageView). x.context.thread) is

  kind_is : (i : ℕ) → kind_at i (given_of r) ≡ (if l.number == i then Some kind else None)
  kind_is i = ap (λ (x : PackageView). kind_at i (given_of x)) is

  pub granted_here : (i : ℕ) → i ≡ l.number → stand_in r i ≡ granted (turn_by q.context.thread n) kind
  granted_here i e =
      let locked : locked_in r i ≡ Some l = locks i ∙ ap (λ (b : Bool). if b then Some l else locked_in q i) (eq-eqb i l.number e) in
      let number : number_in r i ≡ n = numbers i ∙ ap (λ (b : Bool). if b then n else number_in q i) (eq-eqb i l.number e) in
      let given : kind_at i (given_of r) ≡ Some kind = kind_is i ∙ ap (λ (b : Bool). if b then Some kind else None) (eq-eqb l.number i (sym e)) in
      λ j. stand_if (locked j) (stands_in (turn_by (thread_is j) (number j)) (has r.context.guest.held i) (given j))

  pub granted_else : (i : ℕ) → i ≢ l.number → stand_in r i ≡ stand_in q i
  granted_else i ne =
      let locked : locked_in r i ≡ locked_in q i = locks i ∙ ap (λ (b : Bool). if b then Some l else locked_in q i) (ne_eqb i l.number ne) in
      let number : number_in r i ≡ number_in q i = numbers i ∙ ap (λ (b : Bool). if b then n else number_in q i) (ne_eqb i l.number ne) in
      let new : kind_at i (given_of r) ≡ None = kind_is i ∙ ap (λ (b : Bool). if b then Some kind else None) (ne_eqb l.number i (λ e. ne (sym e))) in
      let old : kind_at i (given_of q) ≡ None = ap (λ (o : Option Grant). kind_at i (option_map (λ (g : Grant). record { lock = g.lock; kind = g.kind; number = number_in q g.lock }) o)) none in
      let holds : has r.context.guest.held i ≡ has q.context.guest.held i = ap (λ (x : PackageView). has x.context.guest.held i) is in
      λ j. stand_if (locked j) (stands_in (turn_by (thread_is j) (number j)) (holds j) ((new ∙ sym old) j))

module _ (k : HallTerms) (v w : Knows) (i n : ℕ) (l : LockView) (q r : PackageView) (a : Option PackageView) (at : l.number ≡ i) (none : q.granted ≡ None) (d : DidGrant l Taken n q r) (numbers : IsNumbered l.number n q r) (entered' : EnteredAs k v i (turn_by q.context.thread n) None (Pack q ∷ packed a)) (took : StandsPast (Take i) k v w) where
  took_here : (j : ℕ) → j ≡ i → past j (Take i) (but_at i (entered (turn_by q.context.thread n) None) (shows_at (Pack q ∷ packed a)) j) ≡ shows_at (Pack r ∷ packed a) j
  took_here j e =
      ap (past j (Take i)) (but_here i j (entered (turn_by q.context.thread n) None) (shows_at (Pack q ∷ packed a)) e)
      ∙ (ap (λ (b : Bool). if b then granted (turn_by q.context.thread n) Taken else entered (turn_by q.context.thread n) None) (eq-eqb i j (sym e))
      ∙ sym (ap (λ (s : Standing). beside s (shows_at (packed a) j)) (granted_here q r l Taken n none d.is d.locks numbers j (e ∙ sym at))))

  took_else : (j : ℕ) → j ≢ i → past j (Take i) (but_at i (entered (turn_by q.context.thread n) None) (shows_at (Pack q ∷ packed a)) j) ≡ shows_at (Pack r ∷ packed a) j
  took_else j ne =
      ap (past j (Take i)) (but_else i j (entered (turn_by q.context.thread n) None) (shows_at (Pack q ∷ packed a)) ne)
      ∙ (ap (λ (b : Bool). if b then past_take (shows_at (Pack q ∷ packed a) j) else shows_at (Pack q ∷ packed a) j) (ne_eqb i j (λ e. ne (sym e)))
      ∙ sym (ap (λ (s : Standing). beside s (shows_at (packed a) j)) (granted_else q r l Taken n none d.is d.locks numbers j (λ e. ne (e ∙ at)))))

  -- so the first of its line stands as its package shows
  pub took_first : KnowsLines k w (Pack r ∷ packed a)
  took_first = record {
    stands = λ lined j. took.stands lined j ∙ (ap (past j (Take i)) (entered'.stands lined j) ∙ dite (ℕ_discrete j i) (λ (e : j ≡ i). took_here j e) (λ (ne : j ≢ i). took_else j ne));
    turns = λ lined.
        let still = counts_still v.calls w.calls (Pack q ∷ packed a) (λ t. took.turns lined t) (entered'.turns lined) in
        ((λ j. turns_of (thread_is q r l Taken n none d.is d.locks numbers j) w.calls) ∙ (still.0 ∙ sym (ap (λ (x : PackageView). x.turns) d.is)), still.1);
  }

-- ---- a turn that enters a line

module _ (k : HallTerms) (v : Knows) (i : ℕ) (u : Turn) (q : PackageView) (a : Option PackageView) (free : (c : PackageView) → a ≡ Some c → HasNone c) (thread : u.thread ≡ q.context.thread) (lines : KnowsLines k v (Pack q ∷ packed a)) where
  -- it may enter: its package wants the lock, and is in hand
  pub enters_as : Has v u.thread (bare q) → want_of q.image q.context ≡ Some i → locked_in q i ≡ None → u.number ≡ min (q.turns + 1) MAX_NUMBER → IfLined k v (EntersAs v i u)
  enters_as has wants absent number lined = inr (record {
    stands = lines.stands lined i ∙ (hand_shows q a free i ∙ shows_none q i absent);
    waiter = bare q;
    has = has;
    wants = wants;
    number = number ∙ sym (ap (λ (n : ℕ). min (n + 1) MAX_NUMBER) (ap (λ (t : ℕ). turns_of t v.calls) thread ∙ (lines.turns lined).0));
  })

  module _ (w : Knows) (before : Option Turn) (e : OwnEntered) (is : (s : Standing) → past_line (Own_enter u e) s ≡ entered u before) (did : StandsPast (Line i (Own_enter u e)) k v w) where
    entered_here : (j : ℕ) → j ≡ i → past j (Line i (Own_enter u e)) (stand_in q j) ≡ but_at i (entered u before) (shows_at (Pack (with_turns u.number q) ∷ packed a)) j
    entered_here j same =
        ap (λ (b : Bool). if b then past_line (Own_enter u e) (stand_in q j) else stand_in q j) (eq-eqb i j (sym same))
        ∙ (is (stand_in q j) ∙ sym (but_here i j (entered u before) (shows_at (Pack (with_turns u.number q) ∷ packed a)) same))

    entered_else : (j : ℕ) → j ≢ i → past j (Line i (Own_enter u e)) (stand_in q j) ≡ but_at i (entered u before) (shows_at (Pack (with_turns u.number q) ∷ packed a)) j
    entered_else j ne =
        ap (λ (b : Bool). if b then past_line (Own_enter u e) (stand_in q j) else stand_in q j) (ne_eqb i j (λ same. ne (sym same)))
        ∙ (sym (hand_shows q a free j) ∙ sym (but_else i j (entered u before) (shows_at (Pack (with_turns u.number q) ∷ packed a)) ne))

    -- and then it has entered, and its package counts it
    pub entered_as : ((d : PackageView) → a ≡ Some d → d.context.thread ≢ u.thread) → EnteredAs k w i u before (Pack (with_turns u.number q) ∷ packed a)
    entered_as apart = record {
      stands = λ lined j. did.stands lined j ∙ (ap (past j (Line i (Own_enter u e))) (lines.stands lined j ∙ hand_shows q a free j) ∙ dite (ℕ_discrete j i) (λ (same : j ≡ i). entered_here j same) (λ (ne : j ≢ i). entered_else j ne));
      turns = λ lined. (
        did.turns lined q.context.thread ∙ ap (λ (b : Bool). if b then u.number else turns_of q.context.thread v.calls) (eq-eqb u.thread q.context.thread thread),
        others lined a apart (lines.turns lined).1,
      );
    }
      where
        others : k.lined ≡ true → (o : Option PackageView) → ((d : PackageView) → o ≡ Some d → d.context.thread ≢ u.thread) → CountsTurns v.calls (packed o) → CountsTurns w.calls (packed o)
        others lined None apart counted = tt
        others lined (Some d) apart counted = (
          did.turns lined d.context.thread ∙ (ap (λ (b : Bool). if b then u.number else turns_of d.context.thread v.calls) (ne_eqb u.thread d.context.thread (λ same. apart d refl (sym same))) ∙ counted.0),
          tt,
        )

-- the package that is set aside is of another thread
pub aside_apart : (v : Knows) (q d : PackageView) (b : Outs) → Owns b (outs v) (Pack q ∷ Pack d ∷ []) → d.context.thread ≢ q.context.thread
aside_apart v q d b o same =
    let there : (erase (outs v) (Pack q)).context d.context.thread ≡ Some (bare d) = o.1.0.contexts d.context.thread (bare d) (ap (λ (x : Bool). if x then Some (bare d) else None) (eq_self d.context.thread)) in
    let gone : (erase (outs v) (Pack q)).context d.context.thread ≡ None = ap (λ (x : Bool). unless (if x then Some (bare q) else None) ((outs v).context d.context.thread)) (eq-eqb d.context.thread q.context.thread same) in
    let n : ⊥ = cc (there, gone) in n

-- a lock that a package wants is not in it
next_of : (b : Bool) (o : Option ℕ) (i : ℕ) → (if b then o else None) ≡ Some i → o ≡ Some i
next_of true o i e = e
next_of false o i e = let n : ⊥ = cc e in absurd n

pub wants_absent : (q : PackageView) (i : ℕ) → want_of q.image q.context ≡ Some i → HasOnlyHeld q → locked_in q i ≡ None
wants_absent q i wants only = none_of (locked_in q i) (λ l e.
    let free : has q.context.guest.held i ≡ false = next_free q.image (thread_in q.context) i (next_of (is_running q.context.guest.status) (next_lock q.image (thread_in q.context)) i wants) in
    let mine : has q.context.guest.held i ≡ true = only i l e in
    let n : ⊥ = cc (free, mine) in n)

-- ---- a turn that entered behind another: its package is put

-- the package p, whose turn has entered the line of lock i behind another, has no other's lock and not that one
pub record IsBehind (k : HallTerms) (v : Knows) (i : ℕ) (p : PackageView) (a : Option PackageView) : Type 0 where
  pub free : (c : PackageView) → a ≡ Some c → HasNone c
  pub absent : locked_in p i ≡ None
  pub own : HasNoOther p
  pub in_line : k.lined ≡ true → (b : Turn) × EnteredAs k v i (last_turn p) (Some b) (Pack p ∷ packed a)

module _ (hall : HallView) (i : ℕ) (u : Turn) (q p : PackageView) (h : DeskParts) (w : PassView) (thread : u.thread ≡ p.context.thread) (rest : p ≡ with_turns u.number q) (at : IsAtHall hall (Pack q ∷ packed h.aside) h) (lines : KnowsLines hall.terms h.pass.knows (Pack q ∷ packed h.aside)) where
  own_thread : u.thread ≡ q.context.thread
  own_thread = thread ∙ ap (λ (x : PackageView). x.context.thread) rest

  own_apart : (d : PackageView) → h.aside ≡ Some d → d.context.thread ≢ u.thread
  own_apart d e same = aside_apart h.pass.knows q d at.out.0 (subst (λ (o : Option PackageView). Owns at.out.0 (outs h.pass.knows) (Pack q ∷ packed o)) e at.out.1) (same ∙ own_thread)

  counted_as : (before : Option Turn) (e : OwnEntered) → ((s : Standing) → past_line (Own_enter u e) s ≡ entered u before) → StandsPast (Line i (Own_enter u e)) hall.terms h.pass.knows w.knows → EnteredAs hall.terms w.knows i (turn_by q.context.thread u.number) before (Pack (with_turns u.number q) ∷ packed h.aside)
  counted_as before e is did = subst (λ (t : ℕ). EnteredAs hall.terms w.knows i (turn_by t u.number) before (Pack (with_turns u.number q) ∷ packed h.aside)) own_thread
      (entered_as hall.terms h.pass.knows i u q h.aside (λ d e. (at.aside d e).free) own_thread lines w.knows before e is did own_apart)

  -- its queue was told that it is the first
  pub is_first : StandsPast (Line i (Own_enter u Own_first)) hall.terms h.pass.knows w.knows → EnteredAs hall.terms w.knows i (turn_by p.context.thread u.number) None (Pack p ∷ packed h.aside)
  is_first did = subst (λ (x : PackageView). EnteredAs hall.terms w.knows i (turn_by x.context.thread u.number) None (Pack x ∷ packed h.aside)) (sym rest) (counted_as None Own_first (λ s. refl) did)

  -- or that it is behind another
  pub is_behind : MayAsk hall.terms i q → (mark : ℕ) (noted : List PassCall → Type 0) → Told noted h.pass w → ((cs : List PassCall) → hall.terms.lined ≡ true → noted cs → hall_notes i (Enter u (Behind mark)) cs) → IsBehind hall.terms w.knows i p h.aside
  is_behind may mark noted t law =
      let still = still_asks hall.terms i q p u.number rest may in record {
        free = λ d e. (at.aside d e).free;
        absent = wants_absent p i still.want still.plain.locks;
        own = no_other p still.plain.locks;
        in_line = λ lined.
            let did = behind_past hall.terms i u mark noted h.pass w t (law t.calls lined t.notes) in
            (did.0, subst (λ (x : PackageView). EnteredAs hall.terms w.knows i (last_turn x) (Some did.0) (Pack x ∷ packed h.aside)) (sym rest) (counted_as (Some did.0) (Own_behind did.0) (λ s. refl) did.1));
      }

module _ (k : HallTerms) (v : Knows) (i : ℕ) (p : PackageView) (a : Option PackageView) (is : IsBehind k v i p a) where
  stands_else : (lined : k.lined ≡ true) (j : ℕ) → j ≢ i → standing_of j v.calls ≡ stand_in p j
  stands_else lined j ne = (is.in_line lined).1.stands lined j ∙ (but_else i j (entered (last_turn p) (Some (is.in_line lined).0)) (shows_at (Pack p ∷ packed a)) ne ∙ hand_shows p a is.free j)

  stands_here : (lined : k.lined ≡ true) (j : ℕ) → j ≡ i → standing_of j v.calls ≡ entered (last_turn p) (Some (is.in_line lined).0)
  stands_here lined j e = (is.in_line lined).1.stands lined j ∙ but_here i j (entered (last_turn p) (Some (is.in_line lined).0)) (shows_at (Pack p ∷ packed a)) e

  pub ships_as : IfLined k v (PutsAs v p (Waiting i))
  ships_as lined = inr (record {
    locks = λ j l e. stands_else lined j (λ same. let f : locked_in p i ≡ Some l = subst (λ (x : ℕ). locked_in p x ≡ Some l) same e in let g = is.absent in let n : ⊥ = cc (g, f) in n);
    others = λ j none other. ap (is_of p.context.thread) (stands_else lined j (λ same. other (ap Waiting (sym same))) ∙ shows_none p j none);
    waits = λ j e. ((is.in_line lined).0, stands_here lined j (let same : i ≡ j = cc e in sym same));
    slept = λ e. let n : ⊥ = cc e in absurd n;
    turns = ((is.in_line lined).1.turns lined).0;
  })

  pub ship_lines : (w : Knows) → w.calls ≡ v.calls ++ put_call p (Waiting i) ∷ [] → KnowsLines k w (packed a)
  ship_lines w told =
      let called = past_called (put_call p (Waiting i)) k v w told in record {
        stands = λ lined j. called.stands lined j ∙ (dite (ℕ_discrete j i)
            (λ (e : j ≡ i). ap (past_put p.context.thread) (stands_here lined j e) ∙ ap (λ (x : Bool). if x then away else entered (last_turn p) (Some (is.in_line lined).0)) (eq_self p.context.thread))
            (λ (ne : j ≢ i). ap (past_put p.context.thread) (stands_else lined j ne) ∙ put_away p (Waiting i) j is.own) ∙ sym (aside_away a is.free j));
        turns = λ lined. counts_still v.calls w.calls (packed a) (λ t. called.turns lined t) ((is.in_line lined).1.turns lined).1;
      }

pub same_lines : (k : HallTerms) (v w : Knows) (xs : List Item) → SameStances k v w → KnowsLines k v xs → KnowsLines k w xs
same_lines k v w xs same lines = record {
  stands = λ lined i. same.stands lined i ∙ lines.stands lined i;
  turns = λ lined. counts_still v.calls w.calls xs (λ t. same.turns lined t) (lines.turns lined);
}

-- then it may be linked
pub links_as : (k : HallTerms) (v : Knows) (i : ℕ) (u : Turn) (a : Option PackageView) → ((c : PackageView) → a ≡ Some c → HasNone c) → KnowsLines k v (packed a) → k.lined ≡ true → LinksAs v i u
links_as k v i u a free lines lined before e = let n : away ≡ entered u before = sym (lines.stands lined i ∙ aside_away a free i) ∙ e in let no : ⊥ = cc n in no
