-- A recorded block is taken, from the room that is made to the locks that come home.
use Rattle.std.proofs.Common.{◌≡◌, ◌≢◌, ℕ, ◌^◌, ◌<◌, true, false, List, map, length, refl, sym, ap, subst, ◌∙◌, ⊎_elim}
use Rattle.std.specs.Prelude.{Option, Some, None, IfSome, is_some, if◌then◌else◌}
use Rattle.tc_isa.specs.Sets.{has}
use Rattle.tc_isa.specs.declared.options.Options.{Options as Terms}
use Rattle.tc_elf.specs.Shown.{Shown}
use Rattle.tc_journal.specs.declared.block.Block.{Block}
use Rattle.tc_turn.specs.Turn.{Thread, is_running, next_lock}
use Rattle.tc_mutex_spec.specs.Blocks.{end_after}
use Rattle.tc_segment.specs.View.{LockView}
use Rattle.tc_context.specs.Locks.{lock_in, SameLocks}
use Rattle.tc_context.specs.Whole.{thread_in, set_of}
use Rattle.tc_context.specs.View.{PackageView, IsWanted, WantIsLawful, IsReserved, IsRoomier, want_of, bare}
use Rattle.tc_law.specs.History.{Follows}
use Rattle.tc_law.specs.Lawful.{owner_after}
use Rattle.tc_replay.specs.Rejected.{IsRight, IsWrong}
use Rattle.tc_replay.specs.Run.{IsPrepared, IsRecorded, IsJudged}
use Rattle.tc_replay.specs.Taken.{Before, IsCalm, IsNext, IsWith, HasRoom, MayGrant, DidGrant, IsReadyFor, StaysWith, TookOne, after_taking}
use Rattle.tc_replay.specs.declared.reason.Reason.{Reason}
use Rattle.tc_replay.specs.declared.reason.Reason.TheVariants as reason
use Rattle.tc_replay.proofs.Wrong.{before_owner}
use Rattle.tc_replay.proofs.Keeping.{thread, taken_after, took_granted, block_set, follows_among}
use Rattle.tc_replay.proofs.Handing.{roomier_with, roomier_calm, image_is, may, may_grant, absent, granted_with, granted_ready, granted_away, granted_prepared, plain_ready, plain_away, plain_prepared}

pub judged_right : (image : Shown) (terms : Terms) (h : List Block) (old new : PackageView) (b : Block) (o : Option Reason) → is_some o ≡ false → IsJudged image terms h old new b o
    → IsRight image terms h (end_after image terms.fuel h) b × IsRecorded image old new b
judged_right image terms h old new b None e judged = judged
judged_right image terms h old new b (Some r) e judged = absurd (cc)

-- the package that is about to run its block
pub record IsSetOff (image : Shown) (terms : Terms) (before : Before) (home : List (Option LockView)) (p : PackageView) (b : Block) : Type 0 where
  pub at : IsWith image terms before home p
  pub ready : IsReadyFor image p
  pub away : (k : ℕ) → next_lock image (thread_in p.context) ≡ Some k → lock_in home k ≡ None
  pub prepared : IsPrepared image terms before.history p b

-- the package of the next block, once room was made
pub roomy_next : (image : Shown) (terms : Terms) (before : Before) (home room : List (Option LockView)) (p q : PackageView) (b : Block) → IsNext image terms before home p b → IsRoomier p q → SameLocks home room → IsNext image terms before room q b
roomy_next image terms before home room p q b next roomier same = record {
  at = roomier_with image terms before home room p q next.at roomier same;
  calm = roomier_calm image terms before home room p q next.at roomier same next.calm;
  mine = next.mine ∙ sym (ap (λ (x : PackageView). x.context.thread) roomier.rest);
  thread = next.thread;
  stamp = next.stamp;
}

module _ (image : Shown) (terms : Terms) (before : Before) (home : List (Option LockView)) (p : PackageView) (b : Block) (next : IsNext image terms before home p b) (wanted : WantIsLawful p) where
  pub want_small : (o : Option ℕ) → o ≡ want_of image p.context → IfSome o (λ k. k < 32)
  want_small None e = tt
  want_small (Some k) e = (may image terms before home p next.at next.calm wanted k (sym e)).small

  pub grants : (o : Option ℕ) → o ≡ want_of image p.context → (k : ℕ) (l : LockView) → o ≡ Some k → lock_in home k ≡ Some l → MayGrant p l
  grants o e k l is here = may_grant image terms before home p next.at next.calm wanted k (sym e ∙ is) l here

  follows : Follows image terms.fuel terms.limit before.history (end_after image terms.fuel before.history) p
  follows = follows_among image terms.fuel terms.limit before.history (map bare before.packages) before.states p next.at.law next.at.mine

  thread_is : thread_in p.context ≡ (end_after image terms.fuel before.history).threads b.thread
  thread_is = follows.thread.thread ∙ ap (end_after image terms.fuel before.history).threads (sym next.mine)

  -- the lock that is wanted isn't at home, so it has an owner
  pub owner_wrong : (k : ℕ) → want_of image p.context ≡ Some k → lock_in home k ≡ None → IsWrong image terms before.history (end_after image terms.fuel before.history) b reason.Owner
  owner_wrong k want none = record { before = before_owner image terms before.history (end_after image terms.fuel before.history) b next.thread; fails = λ free. owns (free k takes) }
    where
      is : IsWanted p k
      is = may image terms before home p next.at next.calm wanted k want

      known : k < length image.guards
      known = subst (λ (x : Shown). k < length x.guards) (image_is image terms before home p next.at next.calm) is.known

      owns : owner_after image terms.fuel before.history k ≢ None
      owns = ⊎_elim (λ here. absurd (let f : true ≡ false = sym here ∙ absent image terms before home p next.at next.calm wanted k want in cc)) (λ o. o) (next.at.owned k known none)

      runs : is_running p.context.guest.status ≡ true
      runs = ap (λ (d : Thread). is_running d.status) thread_is ∙ next.thread.runs

      takes : next_lock image ((end_after image terms.fuel before.history).threads b.thread) ≡ Some k
      takes = ap (next_lock image) (sym thread_is) ∙ sym (ap (λ v. if v then next_lock image (thread_in p.context) else None) runs) ∙ want

  pub set_off : (o : Option ℕ) → o ≡ want_of image p.context → (left : List (Option LockView)) (q : PackageView) → IsReserved p → ((k : ℕ) (l : LockView) → o ≡ Some k → lock_in home k ≡ Some l → HasRoom l)
      → ((k : ℕ) → o ≡ Some k → DidGrant b k home left p q) → (o ≡ None → (left ≡ home) × (q ≡ p)) → IsSetOff image terms before left q b
  set_off None e left q reserved room did none =
      let same = none refl in
      subst (λ (x : List (Option LockView) × PackageView). IsSetOff image terms before x.0 x.1 b) (λ i. (sym same.0 i, sym same.1 i)) (record {
        at = next.at;
        ready = plain_ready image terms before home p b next.at next.calm (sym e) next.mine next.thread;
        away = plain_away image terms before home p b next.at next.calm (sym e) next.mine next.thread;
        prepared = plain_prepared image terms before home p b next.at next.calm (sym e) next.mine next.thread reserved;
      })
  set_off (Some k) e left q reserved room did none =
      let d = did k refl in
      record {
        at = granted_with image terms before home p next.at next.calm wanted k (sym e) b left q d;
        ready = granted_ready image terms before home p next.at next.calm wanted k (sym e) b left q d;
        away = granted_away image terms before home p next.at next.calm wanted k (sym e) b left q d;
        prepared = granted_prepared image terms before home p next.at next.calm wanted k (sym e) b left q d reserved (room k d.lock refl d.here) next.mine next.thread;
      }

-- what it wants then
pub roomy_want : (image : Shown) (o : Option ℕ) (p q : PackageView) → IsRoomier p q → o ≡ want_of image p.context → o ≡ want_of image q.context
roomy_want image o p q roomier e = e ∙ ap (λ (x : PackageView). want_of image x.context) (sym roomier.rest)

-- from the package of the next block to the one that is about to run it
pub off_from : (image : Shown) (terms : Terms) (before : Before) (home room left : List (Option LockView)) (p q s : PackageView) (b : Block) (o : Option ℕ) → IsNext image terms before home p b → IsRoomier p q → SameLocks home room → WantIsLawful q
    → o ≡ want_of image p.context → IsReserved q → ((k : ℕ) (l : LockView) → o ≡ Some k → lock_in room k ≡ Some l → HasRoom l)
    → ((k : ℕ) → o ≡ Some k → DidGrant b k room left q s) → (o ≡ None → (left ≡ room) × (s ≡ q)) → IsSetOff image terms before left s b
off_from image terms before home room left p q s b o next roomier same wanted e reserved has_room did none =
    set_off image terms before room q b (roomy_next image terms before home room p q b next roomier same) wanted o (roomy_want image o p q roomier e) left s reserved has_room did none

-- a package that set off and ran its block, and what it was found to be: the locks that it released are to come home
module _ (image : Shown) (terms : Terms) (before : Before) (home : List (Option LockView)) (p r : PackageView) (b : Block) (off : IsSetOff image terms before home p b) (stamp : b.stamp ≡ length before.history) (worker : b.worker < 2 ^ 32)
    (o : Option Reason) (nothing : is_some o ≡ false) (judged : IsJudged image terms before.history p r b o) where
  right : IsRight image terms before.history (end_after image terms.fuel before.history) b × IsRecorded image p r b
  right = judged_right image terms before.history p r b o nothing judged

  pub at_after : IsWith image terms (after_taking before b r) home r
  at_after = taken_after image terms before home p r b off.at off.prepared off.ready right.0 right.1 stamp worker off.away

  pub granted_after : r.granted ≡ None
  granted_after = took_granted image terms before home p r b off.at off.prepared off.ready right.0 right.1 stamp worker off.away

  pub set_after : (k : ℕ) → has b.held k ≡ set_of r.context k
  set_after = block_set image terms before home p r b off.at off.prepared off.ready right.0 right.1 stamp worker off.away

  pub took : (back : List (Option LockView)) (q : PackageView) → StaysWith home r back q → IsCalm q → bare q ≡ bare r → TookOne image terms before b back q
  took back q stays calm same = record {
    ran = r;
    at = stays image terms (after_taking before b r) at_after;
    calm = calm;
    same = same;
    number = thread image terms before home p r b off.at off.prepared off.ready right.0 right.1 stamp worker ∙ sym off.prepared.mine;
  }
