-- All packages of a checker, and one of them in hand.
use Rattle.std.proofs.Common.{◌≡◌, ℕ, zero, suc, ◌<◌, ◌≤◌, true, false, List, [], ◌∷◌, ◌++◌, map, set, length, get_or, refl, sym, ap, subst, ◌∙◌, arith, inr, ⊎_elim}
use Rattle.std.specs.Prelude.{Option, Some, None, Result, Ok, Err, OnErr}
use Rattle.std.proofs.lemmas.List.{map-set, set-set, length-map}
use mathlib.Core.Option.{some}
use lib.ListN.{get_elem?}
use Rattle.tc_isa.specs.declared.options.Options.{Options as Terms}
use Rattle.tc_elf.specs.Shown.{Shown}
use Rattle.tc_journal.specs.declared.block.Block.{Block}
use Rattle.tc_turn.specs.Turn.{Thread, is_running}
use Rattle.tc_mutex_spec.specs.Blocks.{end_after}
use Rattle.tc_mutex_spec.proofs.ListLaws.{set_at, there}
use Rattle.tc_segment.specs.View.{LockView}
use Rattle.tc_context.specs.Locks.{SameLocks}
use Rattle.tc_context.specs.View.{PackageView, IsRoomier, bare, status_in}
use Rattle.tc_law.specs.Lawful.{Lawful, StandsAt, IsAmong}
use Rattle.tc_law.proofs.Lawful.{held_owned}
use Rattle.tc_replay.specs.Rejected.{IsOfThread, IsWrong}
use Rattle.tc_replay.specs.Taken.{AreAsLeft, AreTaken, Before, IsCalm, IsNext, IsWith, TookOne, after_taking}
use Rattle.tc_replay.specs.declared.reason.Reason.TheVariants as reason
use Rattle.tc_replay.proofs.Wrong.{before_thread}
use Rattle.tc_replay.proofs.Keeping.{at_map}
use Rattle.tc_replay.proofs.Handing.{roomier_with, roomier_calm}
use Rattle.tc_lemmas.proofs.Lists.{something_at}

set_as_was : {A : Type 0} (l : List A) (i : ℕ) (a : A) → get_elem? l i ≡ some a → set l i a ≡ l
set_as_was [] i a e = refl
set_as_was (x ∷ xs) zero a e = (let same : a ≡ x = cc in ap (λ y. y ∷ xs) same)
set_as_was (x ∷ xs) (suc i) a e = ap (λ l. x ∷ l) (set_as_was xs i a e)

-- what is read at a place stands there
pub stands_read : {A : Type 0} (l : List A) (t : ℕ) (p : A) → t < length l → p ≡ get_or l t p → StandsAt l t p
stands_read l t p lt is =
    let x = something_at l t lt in
    let same : x.0 ≡ p = sym (there l t x.0 p x.1).1 ∙ sym is in
    x.1 ∙ ap (λ y. some y) same

pub so_on_err : {T E : Type 0} (r : Result T E) (A B : Type 0) → OnErr r A → (A → B) → OnErr r B
so_on_err (Ok x) A B a f = tt
so_on_err (Err e) A B a f = f a

-- one package of it in hand
pub record IsInHand (image : Shown) (terms : Terms) (before : Before) (home : List (Option LockView)) (t : ℕ) (p : PackageView) : Type 0 where
  pub at : IsWith image terms before home p
  pub calm : IsCalm p
  pub number : p.context.thread ≡ t

pub in_hand : (image : Shown) (terms : Terms) (before : Before) (home : List (Option LockView)) (t : ℕ) (p : PackageView) → AreAsLeft image terms before home → StandsAt before.packages t p → IsInHand image terms before home t p
in_hand image terms before home t p left e =
    let here = left.among t p e in
    record {
      at = record {
        limits = left.limits;
        law = left.law;
        right = left.right;
        lenient = left.lenient;
        mine = here.0;
        pending = here.1.pending;
        others = λ u x ne f. left.among u x f;
        home_is = left.home_is;
        owned = λ k lt none. inr (left.owned k lt none);
      };
      calm = here.1;
      number = (left.law.packages_after t (bare p) (at_map bare before.packages t p e)).follows.number;
    }

-- it is put back
pub put_back : (image : Shown) (terms : Terms) (before : Before) (home : List (Option LockView)) (p : PackageView) → IsWith image terms before home p → IsCalm p
    → AreAsLeft image terms (record before { packages = set before.packages p.context.thread p }) home
put_back image terms before home p at calm = record {
  limits = at.limits;
  law = subst (λ l. Lawful image terms.fuel terms.limit before.history l before.states) (sym same) at.law;
  right = at.right;
  lenient = at.lenient;
  among = λ u x e. subst (λ l. IsAmong l before.states x × IsCalm x) (sym same) (⊎_elim
      (λ s. subst (λ y. IsAmong (map bare before.packages) before.states y × IsCalm y) s.1 (at.mine, calm))
      (λ s. at.others u x s.0 s.1)
      (set_at before.packages p.context.thread u p x e));
  home_is = at.home_is;
  owned = λ k lt none. ⊎_elim
      (λ here owner. let f : Some p.context.thread ≡ None = sym (held_owned image terms.fuel terms.limit before.history (map bare before.packages) before.states at.law p.context.thread (bare p) at.mine.place k (calm.held k here)) ∙ owner in cc)
      (λ owns. owns)
      (at.owned k lt none);
}
  where
    same : map bare (set before.packages p.context.thread p) ≡ map bare before.packages
    same = map-set bare before.packages p.context.thread p ∙ set_as_was (map bare before.packages) p.context.thread (bare p) at.mine.place

-- it is put back with its block
pub put_back_more : (image : Shown) (terms : Terms) (before : Before) (b : Block) (home : List (Option LockView)) (p : PackageView) → TookOne image terms before b home p
    → (states : List LockView) × AreAsLeft image terms (record { history = before.history ++ b ∷ []; packages = set before.packages p.context.thread p; states = states }) home
put_back_more image terms before b home p took =
    let thread : took.ran.context.thread ≡ p.context.thread = sym (ap (λ (x : PackageView). x.context.thread) took.same) in
    let after = after_taking before b took.ran in
    let packages : set after.packages p.context.thread p ≡ set before.packages p.context.thread p = ap (λ n. set (set before.packages n took.ran) p.context.thread p) thread ∙ set-set before.packages p.context.thread took.ran p in
    (after.states, subst (λ l. AreAsLeft image terms (record { history = before.history ++ b ∷ []; packages = l; states = after.states }) home) packages (put_back image terms after home p took.at took.calm))

-- ---- the thread

pub past_wrong : (image : Shown) (terms : Terms) (before : Before) (home : List (Option LockView)) (b : Block) → AreAsLeft image terms before home → length before.packages ≤ b.thread
    → IsWrong image terms before.history (end_after image terms.fuel before.history) b reason.Thread
past_wrong image terms before home b left past = record {
  before = before_thread image terms before.history (end_after image terms.fuel before.history) b;
  fails = λ of. (let count = left.law.all_packages in let same = length-map before.packages bare in let known = of.known in omega arith);
}

pub ended_wrong : (image : Shown) (terms : Terms) (before : Before) (home : List (Option LockView)) (b : Block) (p : PackageView) → IsInHand image terms before home b.thread p → is_running p.context.guest.status ≡ false
    → IsWrong image terms before.history (end_after image terms.fuel before.history) b reason.Thread
ended_wrong image terms before home b p hand over = record {
  before = before_thread image terms before.history (end_after image terms.fuel before.history) b;
  fails = λ of. (let thread = (hand.at.law.packages_after p.context.thread (bare p) hand.at.mine.place).follows.thread in
      let f : true ≡ false = sym of.runs ∙ ap (λ (d : Thread). is_running d.status) (sym (thread ∙ ap (end_after image terms.fuel before.history).threads hand.number)) ∙ over in cc);
}

pub of_thread : (image : Shown) (terms : Terms) (before : Before) (home : List (Option LockView)) (b : Block) (p : PackageView) → IsInHand image terms before home b.thread p → b.thread < length before.packages → is_running p.context.guest.status ≡ true
    → IsOfThread image (end_after image terms.fuel before.history) b
of_thread image terms before home b p hand lt runs =
    let count = hand.at.law.all_packages in
    let same = length-map before.packages bare in
    let thread = (hand.at.law.packages_after p.context.thread (bare p) hand.at.mine.place).follows.thread in
    record {
      known = omega arith;
      runs = ap (λ (d : Thread). is_running d.status) (sym (thread ∙ ap (end_after image terms.fuel before.history).threads hand.number)) ∙ runs;
    }

-- ---- the packages that have taken a history

module _ (image : Shown) (terms : Terms) (h : List Block) (packages : List PackageView) (home : List (Option LockView)) (taken : AreTaken image terms h packages home) where
  abbrev before : Before
  before = record { history = h; packages = packages; states = taken.0 }

  module _ (b : Block) (p : PackageView) (here : StandsAt packages b.thread p) where
    hand : IsInHand image terms before home b.thread p
    hand = in_hand image terms before home b.thread p taken.1 here

    -- the next block's thread has ended
    pub over_wrong : is_running (status_in p) ≡ false → IsWrong image terms h (end_after image terms.fuel h) b reason.Thread
    over_wrong over = ended_wrong image terms before home b p hand over

    -- it goes on
    pub next_of : is_running (status_in p) ≡ true → b.stamp ≡ length h → IsNext image terms before home p b
    next_of runs stamp = record {
      at = hand.at;
      calm = hand.calm;
      mine = sym hand.number;
      thread = of_thread image terms before home b p hand (there packages b.thread p p here).0 runs;
      stamp = stamp;
    }

    -- only rooms changed
    pub roomier_taken : (room : List (Option LockView)) (q : PackageView) → IsRoomier p q → SameLocks home room → AreTaken image terms h (set packages b.thread q) room
    roomier_taken room q roomier same =
        let put = put_back image terms before room q (roomier_with image terms before home room p q hand.at roomier same) (roomier_calm image terms before home room p q hand.at roomier same hand.calm) in
        let number : q.context.thread ≡ b.thread = ap (λ (x : PackageView). x.context.thread) roomier.rest ∙ hand.number in
        (taken.0, subst (λ n. AreAsLeft image terms (record { history = h; packages = set packages n q; states = taken.0 }) room) number put)

    -- the block was taken
    pub more_taken : (back : List (Option LockView)) (q : PackageView) → TookOne image terms before b back q → AreTaken image terms (h ++ b ∷ []) (set packages b.thread q) back
    more_taken back q took =
        let more = put_back_more image terms before b back q took in
        let number : q.context.thread ≡ b.thread = ap (λ (x : PackageView). x.context.thread) took.same ∙ took.number in
        (more.0, subst (λ n. AreAsLeft image terms (record { history = h ++ b ∷ []; packages = set packages n q; states = more.0 }) back) number more.1)

  pub no_thread_wrong : (b : Block) → length packages ≤ b.thread → IsWrong image terms h (end_after image terms.fuel h) b reason.Thread
  no_thread_wrong b past = past_wrong image terms before home b taken.1 past
