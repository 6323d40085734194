-- What a checker keeps from block to block.
use Rattle.std.proofs.Common.{◌≡◌, ◌≢◌, ◌⊎◌, ℕ, zero, suc, ◌^◌, ◌<◌, Bool, true, false, List, [], ◌∷◌, ◌++◌, map, set, length, refl, sym, ap, subst, ◌∙◌, inl, inr, ⊎_elim, append_assoc, append-nil}
use Rattle.std.specs.Prelude.{Option, Some, None, is_some}
use Rattle.std.proofs.lemmas.List.{map-set}
use mathlib.Core.Option.{some}
use lib.ListN.{get_elem?}
use Rattle.tc_isa.specs.Sets.{has}
use Rattle.tc_isa.specs.declared.options.Options.{Options as Terms}
use Rattle.tc_elf.specs.Shown.{Shown}
use Rattle.tc_journal.specs.declared.block.Block.{Block}
use Rattle.tc_turn.specs.Turn.{next_lock}
use Rattle.tc_mutex_spec.specs.Machine.{State, start}
use Rattle.tc_mutex_spec.specs.Blocks.{end_after}
use Rattle.tc_mutex_spec.proofs.Entries.{tells_end}
use Rattle.tc_mutex_spec.proofs.Going.{in_block}
use Rattle.tc_mutex_spec.proofs.ListLaws.{set_at}
use Rattle.tc_segment.specs.View.{LockView, kept, sealed_block}
use Rattle.tc_context.specs.Locks.{lock_in}
use Rattle.tc_context.specs.Whole.{thread_in, set_of, block_locks}
use Rattle.tc_context.specs.View.{PackageView, bare, with_seal}
use Rattle.tc_context.specs.Ran.{DidRun}
use Rattle.tc_context.proofs.Partway.{block_inside}
use Rattle.tc_context.proofs.Running.{seal_set}
use Rattle.tc_context.proofs.Staging.{some_of}
use Rattle.tc_law.specs.History.{Follows, Grows}
use Rattle.tc_law.specs.Lawful.{Lawful, StandsAt, IsAmong, IsPackageAfter, owner_after, with_package, with_states}
use Rattle.tc_law.proofs.Following.{grown, state_kept}
use Rattle.tc_law.proofs.Lawful.{appended, rests_free, held_owned}
use Rattle.tc_replay.specs.Rejected.{IsRight, AreRightAfter}
use Rattle.tc_replay.specs.Run.{IsPrepared, IsRecorded}
use Rattle.tc_replay.specs.Taken.{AreLenient, Before, IsCalm, IsWith, IsReadyFor, after_taking}
use Rattle.tc_replay.proofs.Lenient.{lenient_states}

pub at_map : {A B : Type 0} (f : A → B) (l : List A) (i : ℕ) (a : A) → get_elem? l i ≡ some a → get_elem? (map f l) i ≡ some (f a)
at_map f [] i a e = absurd (cc)
at_map f (x ∷ xs) zero a e = (let same : x ≡ a = cc in ap (λ y. some (f y)) same)
at_map f (x ∷ xs) (suc i) a e = at_map f xs i a e

set_here : {A : Type 0} (l : List A) (i : ℕ) (a b : A) → get_elem? l i ≡ some b → get_elem? (set l i a) i ≡ some a
set_here [] i a b e = absurd (cc)
set_here (x ∷ xs) zero a b e = refl
set_here (x ∷ xs) (suc i) a b e = set_here xs i a b e

-- what these lock states put at their places
states_here : (slots : List (Option LockView)) (states : List LockView) (k : ℕ) (l x : LockView) → lock_in slots k ≡ Some l → get_elem? states k ≡ some x → get_elem? (with_states slots states) k ≡ some (kept l)
states_here [] states k l x e at = absurd (cc)
states_here (o ∷ slots) [] k l x e at = absurd (cc)
states_here (None ∷ slots) (y ∷ states) zero l x e at = absurd (cc)
states_here (Some z ∷ slots) (y ∷ states) zero l x e at = (let same : z ≡ l = cc in ap (λ v. some (kept v)) same)
states_here (o ∷ slots) (y ∷ states) (suc k) l x e at = states_here slots states k l x e at

states_else : (slots : List (Option LockView)) (states : List LockView) (k : ℕ) (x : LockView) → lock_in slots k ≡ None → get_elem? states k ≡ some x → get_elem? (with_states slots states) k ≡ some x
states_else [] states k x e at = at
states_else (o ∷ slots) [] k x e at = at
states_else (None ∷ slots) (y ∷ states) zero x e at = at
states_else (Some z ∷ slots) (y ∷ states) zero x e at = absurd (cc)
states_else (o ∷ slots) (y ∷ states) (suc k) x e at = states_else slots states k x e at

right_push : (image : Shown) (terms : Terms) (seen h : List Block) (b : Block) → AreRightAfter image terms seen h → IsRight image terms (seen ++ h) (end_after image terms.fuel (seen ++ h)) b → AreRightAfter image terms seen (h ++ b ∷ [])
right_push image terms seen [] b right one = (subst (λ l. IsRight image terms l (end_after image terms.fuel l) b) (append-nil seen) one, tt)
right_push image terms seen (x ∷ h) b right one =
    (right.0, right_push image terms (seen ++ x ∷ []) h b right.1 (subst (λ l. IsRight image terms l (end_after image terms.fuel l) b) (sym (append_assoc seen (x ∷ []) h)) one))

set_or : (o : Option LockView) → (is_some o ≡ true) ⊎ (o ≡ None)
set_or None = inr refl
set_or (Some l) = inl refl

-- a package is as the blocks leave it
pub follows_among : (image : Shown) (fuel limit : ℕ) (h : List Block) (packages : List PackageView) (states : List LockView) (p : PackageView) → Lawful image fuel limit h packages states → IsAmong packages states p
    → Follows image fuel limit h (end_after image fuel h) p
follows_among image fuel limit h packages states p law here =
    let was : IsPackageAfter image fuel h p.context.thread (bare p) = law.packages_after p.context.thread (bare p) here.place in
    record {
      thread = record { of = was.follows.of; number = refl; thread = was.follows.thread; log = was.follows.log };
      states = λ k l e. state_kept image fuel limit h (end_after image fuel h) k l (kept l) refl (law.states_after k (kept l) (here.locks k l e)).follows;
    }

module _ (image : Shown) (terms : Terms) (before : Before) (home : List (Option LockView)) (p r : PackageView) (b : Block) (at : IsWith image terms before home p) (prepared : IsPrepared image terms before.history p b)
    (ready : IsReadyFor image p) (right : IsRight image terms before.history (end_after image terms.fuel before.history) b) (recorded : IsRecorded image p r b) (stamp : b.stamp ≡ length before.history) (worker : b.worker < 2 ^ 32) where
  abbrev h : List Block
  h = before.history

  abbrev m : State
  m = end_after image terms.fuel h

  abbrev v : PackageView
  v = recorded.pending

  abbrev ran : DidRun image p v
  ran = recorded.ran

  abbrev t : ℕ
  t = p.context.thread

  pub thread : r.context.thread ≡ t
  thread = ap (λ (x : PackageView). x.context.thread) recorded.sealed ∙ ran.runs.keeps.thread

  same_set : (k : ℕ) → set_of r.context k ≡ set_of p.context k
  same_set k = ap (λ (x : PackageView). set_of x.context k) recorded.sealed ∙ seal_set b.stamp b.worker v k ∙ ran.runs.keeps.set k

  stamp_is : with_seal b.stamp b.worker v ≡ with_seal (length h) b.worker v
  stamp_is = ap (λ n. with_seal n b.worker v) stamp

  block_is : sealed_block (length h) b.worker ran.block ≡ b
  block_is = ap (λ n. sealed_block n b.worker ran.block) (sym stamp) ∙ recorded.is

  r_is : with_seal (length h) b.worker v ≡ r
  r_is = sym stamp_is ∙ sym recorded.sealed

  abbrev packages : List PackageView
  packages = map bare before.packages

  abbrev after : Before
  after = record { history = h ++ b ∷ []; packages = set before.packages t r; states = with_states r.context.locks before.states }

  packages_are : with_package r packages ≡ map bare after.packages
  packages_are = ap (λ n. set packages n (bare r)) thread ∙ sym (map-set bare before.packages t r)

  law_more : Lawful image terms.fuel terms.limit (h ++ b ∷ []) (map bare after.packages) after.states
  law_more = subst (λ (x : List Block × List PackageView). Lawful image terms.fuel terms.limit x.0 x.1 after.states) (λ i. (h ++ block_is i ∷ [], packages_are i))
      (subst (λ (q : PackageView). Lawful image terms.fuel terms.limit (h ++ sealed_block (length h) b.worker ran.block ∷ []) (with_package q packages) (with_states q.context.locks before.states)) r_is
      (appended image terms.fuel terms.limit h packages before.states p v at.limits at.law at.mine ran b.worker worker recorded.allows))

  lenient_more : AreLenient after.states
  lenient_more = subst (λ (q : PackageView). AreLenient (with_states q.context.locks before.states)) r_is (lenient_states image packages before.states p v at.mine ran (length h) b.worker at.lenient)

  grows : (to : State) × Grows image terms.fuel h m b to × Follows image terms.fuel terms.limit (h ++ b ∷ []) to (with_seal b.stamp b.worker v)
  grows = subst (λ (c : Block). (to : State) × Grows image terms.fuel h m c to × Follows image terms.fuel terms.limit (h ++ c ∷ []) to (with_seal b.stamp b.worker v)) recorded.is
      (grown image terms.fuel terms.limit h m p v prepared.tells prepared.follows ran b.stamp b.worker)

  -- who owns a lock that isn't in the package stays
  owner_still : (k : ℕ) → set_of p.context k ≡ false → owner_after image terms.fuel (h ++ b ∷ []) k ≡ owner_after image terms.fuel h k
  owner_still k out =
      let to_is = tells_end image [] (h ++ b ∷ []) (start image terms.fuel) grows.0 grows.1.tells in
      ap (λ (s : State). (s.locks k).owner) (sym to_is) ∙ ap (λ l. l.owner) (grows.1.locks k (not_held (has b.held k) refl))
    where
      not_held : (w : Bool) → has b.held k ≡ w → w ≡ false
      not_held false e = refl
      not_held true e =
          let mine : block_locks image p.context k ≡ true = sym (ran.held k) ∙ ap (λ (c : Block). has c.held k) recorded.is ∙ e in
          absurd (let f : true ≡ false = sym (block_inside image (set_of p.context) (thread_in p.context) ran.covers k mine) ∙ out in cc)

  -- a lock in the package is the thread's, or nobody's: the one that it took
  owner_in : (k : ℕ) → set_of p.context k ≡ true → (owner_after image terms.fuel h k ≡ Some t) ⊎ (owner_after image terms.fuel h k ≡ None)
  owner_in k here = ⊎_elim
      (λ held. inl (held_owned image terms.fuel terms.limit h packages before.states at.law t (bare p) at.mine.place k held))
      (λ next. inr (prepared.free k (ap (next_lock image) (sym thread_is) ∙ next)))
      (in_block (has p.context.guest.held) (next_lock image (thread_in p.context)) k (ready.set k here))
    where
      thread_is : thread_in p.context ≡ m.threads b.thread
      thread_is = prepared.follows.thread.thread ∙ ap m.threads (sym prepared.mine)

  owner_home : (k : ℕ) (l : LockView) → lock_in home k ≡ Some l → owner_after image terms.fuel h k ≡ None
  owner_home k l e = (let is = at.home_is k l e in rests_free image terms.fuel terms.limit h packages before.states at.law k (kept l) is.place is.rest.ended)

  -- what is at home isn't in the package
  module _ (away : (k : ℕ) → next_lock image (thread_in p.context) ≡ Some k → lock_in home k ≡ None) where
    home_out : (k : ℕ) (l : LockView) → lock_in home k ≡ Some l → set_of p.context k ≡ false
    home_out k l e = go (set_of p.context k) refl
      where
        go : (w : Bool) → set_of p.context k ≡ w → w ≡ false
        go false is = refl
        go true is = absurd (⊎_elim
            (λ held. let f : Some t ≡ None = sym (held_owned image terms.fuel terms.limit h packages before.states at.law t (bare p) at.mine.place k held) ∙ owner_home k l e in cc)
            (λ next. let f : None ≡ Some l = sym (away k next) ∙ e in cc)
            (in_block (has p.context.guest.held) (next_lock image (thread_in p.context)) k (ready.set k is)))

    none_in : (k : ℕ) → set_of p.context k ≡ false → lock_in r.context.locks k ≡ None
    none_in k out = ⊎_elim (λ is. absurd (let f : true ≡ false = sym is ∙ same_set k ∙ out in cc)) (λ none. none) (set_or (lock_in r.context.locks k))

    other_out : (u : ℕ) (x : PackageView) → u ≢ t → x.context.thread ≡ u → IsAmong packages before.states x → IsCalm x → (k : ℕ) → set_of x.context k ≡ true → set_of p.context k ≡ false
    other_out u x ne number among calm k here = go (set_of p.context k) refl
      where
        owns : owner_after image terms.fuel h k ≡ Some x.context.thread
        owns = held_owned image terms.fuel terms.limit h packages before.states at.law x.context.thread (bare x) among.place k (calm.held k here)

        go : (w : Bool) → set_of p.context k ≡ w → w ≡ false
        go false is = refl
        go true is = absurd (⊎_elim
            (λ mine. let f : Some t ≡ Some x.context.thread = sym mine ∙ owns in let g : t ≡ x.context.thread = cc in ne (sym number ∙ sym g))
            (λ none. let f : None ≡ Some x.context.thread = sym none ∙ owns in cc)
            (owner_in k is))

    number_of : (u : ℕ) (x : PackageView) → StandsAt before.packages u x → x.context.thread ≡ u
    number_of u x e = (at.law.packages_after u (bare x) (at_map bare before.packages u x e)).follows.number

    others_more : (u : ℕ) (x : PackageView) → u ≢ r.context.thread → StandsAt after.packages u x → IsAmong (map bare after.packages) after.states x × IsCalm x
    others_more u x ne e = ⊎_elim
        (λ s. absurd (ne (s.0 ∙ sym thread)))
        (λ s.
        let was = at.others u x s.0 s.1 in
        let number = number_of u x s.1 in (
          record {
            place = subst (λ n. get_elem? (map bare after.packages) n ≡ some (bare x)) (sym number) (at_map bare after.packages u x e);
            locks = λ k l f. states_else r.context.locks before.states k (kept l) (none_in k (other_out u x s.0 number was.0 was.1 k (ap is_some f))) (was.0.locks k l f);
          },
          was.1,
        ))
        (set_at before.packages t u r x e)

    pub taken_with : IsWith image terms after home r
    taken_with = record {
      limits = at.limits;
      law = law_more;
      right = right_push image terms [] h b at.right right;
      lenient = lenient_more;
      mine = record {
        place = subst (λ n. get_elem? (map bare after.packages) n ≡ some (bare r)) (sym thread) (subst (λ l. get_elem? l t ≡ some (bare r)) (sym (map-set bare before.packages t r)) (set_here packages t (bare r) (bare p) at.mine.place));
        locks = λ k l e. (let old = some_of (lock_in p.context.locks k) (sym (same_set k) ∙ ap is_some e) in states_here r.context.locks before.states k l (kept old.0) e (at.mine.locks k old.0 old.1));
      };
      pending = ap (λ (x : PackageView). x.pending) recorded.sealed;
      others = others_more;
      home_is = λ k l e. (let is = at.home_is k l e in record { rest = is.rest; place = states_else r.context.locks before.states k (kept l) (none_in k (home_out k l e)) is.place });
      owned = λ k lt e. owned_more k (set_of p.context k) refl (at.owned k lt e);
    }
      where
        owned_more : (k : ℕ) (w : Bool) → set_of p.context k ≡ w → (set_of p.context k ≡ true) ⊎ (owner_after image terms.fuel h k ≢ None) → (set_of r.context k ≡ true) ⊎ (owner_after image terms.fuel (h ++ b ∷ []) k ≢ None)
        owned_more k true is was = inl (same_set k ∙ is)
        owned_more k false is (inl here) = absurd (let f : true ≡ false = sym here ∙ is in cc)
        owned_more k false is (inr owns) = inr (λ none. owns (sym (owner_still k is) ∙ none))

    pub taken_after : IsWith image terms (after_taking before b r) home r
    taken_after = subst (λ n. IsWith image terms (record { history = h ++ b ∷ []; packages = set before.packages n r; states = with_states r.context.locks before.states }) home r) (sym thread) taken_with

    -- the locks of the block are those in the package
    pub block_set : (k : ℕ) → has b.held k ≡ set_of r.context k
    block_set k = ap (λ (c : Block). has c.held k) (sym recorded.is) ∙ ran.held k ∙ by (set_of p.context k) refl ∙ sym (same_set k)
      where
        by : (w : Bool) → set_of p.context k ≡ w → block_locks image p.context k ≡ set_of p.context k
        by true e = ready.set k e ∙ sym e
        by false e = go (block_locks image p.context k) refl ∙ sym e
          where
            go : (u : Bool) → block_locks image p.context k ≡ u → u ≡ false
            go false is = refl
            go true is = absurd (let f : true ≡ false = sym (block_inside image (set_of p.context) (thread_in p.context) ran.covers k is) ∙ e in cc)

    pub took_granted : r.granted ≡ None
    took_granted = ap (λ (x : PackageView). x.granted) recorded.sealed ∙ ran.granted
