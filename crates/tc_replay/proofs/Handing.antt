-- Locks that go from home into a package and back.
use Rattle.std.proofs.Common.{◌≡◌, ◌≢◌, ◌⊎◌, ℕ, ◌<◌, ◌≤◌, ◌==◌, Bool, true, false, ◌||◌, List, [], map, length, refl, sym, ap, subst, ◌∙◌, inl, inr, ⊎_elim}
use Rattle.std.specs.Prelude.{Option, Some, None, is_some, if◌then◌else◌}
use Rattle.std.specs.Option.{option_map}
use Rattle.std.proofs.lemmas.Bool.Decides.{eqb_tells}
use Rattle.tc_context.proofs.Staging.{same_set}
use Rattle.tc_isa.specs.Sets.{has}
use Rattle.tc_isa.specs.declared.limits.TheConstants.{MAX_TURNS}
use Rattle.tc_isa.specs.declared.options.Options.{Options as Terms}
use Rattle.tc_elf.specs.Shown.{Shown}
use Rattle.tc_journal.specs.declared.block.Block.{Block}
use Rattle.tc_turn.specs.Turn.{Thread, is_running, next_lock}
use Rattle.tc_mutex_spec.specs.Blocks.{locks_of_block, end_after}
use Rattle.tc_segment.specs.View.{LockView, IsAtRest, kept}
use Rattle.tc_segment.proofs.Resting.{rests_kept}
use Rattle.tc_context.specs.declared.package.Grant.{Grant}
use Rattle.tc_context.specs.Locks.{lock_in, IsPlaced, SameLocks}
use Rattle.tc_context.specs.Whole.{thread_in, set_of}
use Rattle.tc_context.specs.View.{PackageView, IsWanted, WantIsLawful, IsReserved, IsRoomier, want_of, granted_lock, bare, without_lock}
use Rattle.tc_context.proofs.Moved.{map_some}
use Rattle.tc_law.specs.History.{Follows}
use Rattle.tc_law.specs.Lawful.{StandsAt, owner_after}
use Rattle.tc_law.proofs.Lawful.{rests_free}
use Rattle.tc_replay.specs.Rejected.{IsOfThread}
use Rattle.tc_replay.specs.Run.{grant_kind, IsGrantedFor, IsPrepared}
use Rattle.tc_replay.specs.Taken.{Before, IsHome, IsCalm, IsWith, HasRoom, MayGrant, DidGrant, IsReadyFor}
use Rattle.tc_replay.proofs.Telling.{right_obeys}
use Rattle.tc_replay.proofs.Keeping.{follows_among}
use Rattle.tc_lemmas.proofs.Tests.{eq_self}

-- ---- rooms

at_rest_kept : (image : Shown) (k : ℕ) (l x : LockView) → kept l ≡ kept x → IsAtRest image k x → IsAtRest image k l
at_rest_kept image k l x same rest = (rests_kept image k l).0 (subst (IsAtRest image k) (sym same) ((rests_kept image k x).1 rest))

-- a lock among those that differ in rooms alone
was_there : (old new : List (Option LockView)) → SameLocks old new → (k : ℕ) (l : LockView) → lock_in new k ≡ Some l → (x : LockView) × (lock_in old k ≡ Some x) × (kept l ≡ kept x)
was_there old new same k l e = map_some kept (lock_in old k) (kept l) (sym (same k) ∙ ap (option_map kept) e)

none_of : (o : Option LockView) → is_some o ≡ false → o ≡ None
none_of None e = refl
none_of (Some l) e = absurd (cc)

module _ (image : Shown) (terms : Terms) (before : Before) (home room : List (Option LockView)) (p q : PackageView) (at : IsWith image terms before home p) (roomier : IsRoomier p q) (same : SameLocks home room) where
  thread_same : q.context.thread ≡ p.context.thread
  thread_same = ap (λ (x : PackageView). x.context.thread) roomier.rest

  set_same : (k : ℕ) → set_of q.context k ≡ set_of p.context k
  set_same k = same_set p.context.locks q.context.locks roomier.locks k

  pub roomier_with : IsWith image terms before room q
  roomier_with = record {
    limits = at.limits;
    law = at.law;
    right = at.right;
    lenient = at.lenient;
    mine = record {
      place = subst (λ (x : PackageView). StandsAt (map bare before.packages) x.context.thread x) (sym roomier.rest) at.mine.place;
      locks = λ k l e. (let x = was_there p.context.locks q.context.locks roomier.locks k l e in subst (StandsAt before.states k) (sym x.2) (at.mine.locks k x.0 x.1));
    };
    pending = ap (λ (x : PackageView). x.pending) roomier.rest ∙ at.pending;
    others = λ u x ne e. at.others u x (λ s. ne (s ∙ sym thread_same)) e;
    home_is = λ k l e. (let x = was_there home room same k l e in let is = at.home_is k x.0 x.1 in record { rest = at_rest_kept image k l x.0 x.2 is.rest; place = subst (StandsAt before.states k) (sym x.2) is.place });
    owned = λ k lt e. ⊎_elim (λ here. inl (set_same k ∙ here)) (λ owns. inr owns) (at.owned k lt (none_of (lock_in home k) (sym (same_set home room same k) ∙ ap is_some e)));
  }

  pub roomier_calm : IsCalm p → IsCalm q
  roomier_calm calm = record {
    pending = ap (λ (x : PackageView). x.pending) roomier.rest ∙ calm.pending;
    granted = roomier.granted ∙ calm.granted;
    held = λ k e. ap (λ (x : PackageView). has x.context.guest.held k) roomier.rest ∙ calm.held k (sym (set_same k) ∙ e);
  }

-- ---- a lock is granted

module _ (image : Shown) (terms : Terms) (before : Before) (home : List (Option LockView)) (p : PackageView) (at : IsWith image terms before home p) (calm : IsCalm p) where
  pub image_is : p.image ≡ image
  image_is = (at.law.packages_after p.context.thread (bare p) at.mine.place).follows.of

  module _ (wanted : WantIsLawful p) (k : ℕ) (want : want_of image p.context ≡ Some k) where
    pub may : IsWanted p k
    may = wanted k (ap (λ x. want_of x p.context) image_is ∙ want)

    pub absent : set_of p.context k ≡ false
    absent = go (set_of p.context k) refl
      where
        go : (w : Bool) → set_of p.context k ≡ w → w ≡ false
        go false e = refl
        go true e = absurd (let f : true ≡ false = sym (calm.held k e) ∙ may.free in cc)

    pub may_grant : (l : LockView) → lock_in home k ≡ Some l → MayGrant p l
    may_grant l e =
        let is = at.home_is k l e in
        record {
          waiting = record {
            pending = calm.pending;
            granted = calm.granted;
            want = ap (λ x. want_of x p.context) image_is ∙ want ∙ ap Some (sym is.rest.number);
            absent = none_of (lock_in p.context.locks l.number) (ap (set_of p.context) is.rest.number ∙ absent);
          };
          rest = subst (λ (x : Shown × ℕ). IsAtRest x.0 x.1 l) (λ i. (sym image_is i, sym is.rest.number i)) is.rest;
          lenient = at.lenient k (kept l) is.place;
        }

    wants_next : next_lock image (thread_in p.context) ≡ Some k
    wants_next = go (is_running p.context.guest.status) want
      where
        go : (v : Bool) → (if v then next_lock image (thread_in p.context) else None) ≡ Some k → next_lock image (thread_in p.context) ≡ Some k
        go true e = e
        go false e = absurd (cc)

    module _ (b : Block) (left : List (Option LockView)) (q : PackageView) (did : DidGrant b k home left p q) where
      number : did.lock.number ≡ k
      number = (at.home_is k did.lock did.here).rest.number

      locks : (j : ℕ) → lock_in q.context.locks j ≡ (if j == k then Some did.lock else lock_in p.context.locks j)
      locks j = did.locks j ∙ ap (λ n. if j == n then Some did.lock else lock_in p.context.locks j) number

      guest : q.context.guest ≡ p.context.guest
      guest = ap (λ (x : PackageView). x.context.guest) did.is

      bare_same : bare q ≡ bare p
      bare_same = ap bare did.is

      next_is : next_lock image (thread_in q.context) ≡ Some k
      next_is = ap (λ (x : PackageView). next_lock image (thread_in x.context)) did.is ∙ wants_next

      lock_at : (j : ℕ) (l : LockView) → lock_in q.context.locks j ≡ Some l → StandsAt before.states j (kept l)
      lock_at j l e = elim (eqb_tells j k) [
        | inl s ↦
            let same : Some did.lock ≡ Some l = sym (ap (λ v. if v then Some did.lock else lock_in p.context.locks j) s.0) ∙ sym (locks j) ∙ e in
            let is : did.lock ≡ l = cc in
            subst (λ (x : ℕ × LockView). StandsAt before.states x.0 (kept x.1)) (λ i. (sym s.1 i, is i)) (at.home_is k did.lock did.here).place
        | inr s ↦ at.mine.locks j l (sym (ap (λ v. if v then Some did.lock else lock_in p.context.locks j) s.0) ∙ sym (locks j) ∙ e)
      ]

      left_was : (v : Bool) (j : ℕ) (l : LockView) → (if v then None else lock_in home j) ≡ Some l → lock_in home j ≡ Some l
      left_was true j l e = absurd (cc)
      left_was false j l e = e

      owned_left : (j : ℕ) → j < length image.guards → (v : Bool) → (if v then None else lock_in home j) ≡ None → (is_some (if v then Some did.lock else lock_in p.context.locks j) ≡ true) ⊎ (owner_after image terms.fuel before.history j ≢ None)
      owned_left j lt true e = inl refl
      owned_left j lt false e = at.owned j lt e

      pub granted_with : IsWith image terms before left q
      granted_with = record {
        limits = at.limits;
        law = at.law;
        right = at.right;
        lenient = at.lenient;
        mine = record { place = subst (λ (x : PackageView). StandsAt (map bare before.packages) x.context.thread x) (sym bare_same) at.mine.place; locks = lock_at };
        pending = ap (λ (x : PackageView). x.pending) bare_same ∙ at.pending;
        others = λ u x ne e. at.others u x (λ s. ne (s ∙ sym (ap (λ (x : PackageView). x.context.thread) bare_same))) e;
        home_is = λ j l e. at.home_is j l (left_was (j == k) j l (sym (did.gone j) ∙ e));
        owned = λ j lt e. subst (λ o. (is_some o ≡ true) ⊎ (owner_after image terms.fuel before.history j ≢ None)) (sym (locks j)) (owned_left j lt (j == k) (sym (did.gone j) ∙ e));
      }

      in_set : (v : Bool) (j : ℕ) → is_some (if v then Some did.lock else lock_in p.context.locks j) ≡ true → (v || has p.context.guest.held j) ≡ true
      in_set true j s = refl
      in_set false j s = calm.held j s

      pub granted_ready : IsReadyFor image q
      granted_ready = record {
        set = λ j s. ap (λ g. locks_of_block (has g.held) (next_lock image (thread_in q.context)) j) guest
            ∙ ap (λ n. locks_of_block (has p.context.guest.held) n j) next_is
            ∙ in_set (j == k) j (ap is_some (sym (locks j)) ∙ s);
      }

      pub granted_away : (j : ℕ) → next_lock image (thread_in q.context) ≡ Some j → lock_in left j ≡ None
      granted_away j e =
          let same : Some j ≡ Some k = sym e ∙ next_is in
          let is : j ≡ k = cc in
          did.gone j ∙ ap (λ n. if n == k then None else lock_in home j) is ∙ ap (λ v. if v then None else lock_in home j) (eq_self k)

      reserved : IsReserved p → HasRoom did.lock → IsReserved q
      reserved was room = record {
        log = subst (λ n. 0 < n) (sym (ap (λ (x : PackageView). x.log_room) did.is)) was.log;
        entries = λ j l e. by (λ (x : LockView). 0 < x.journal.entry_room) room.entry (λ j l e. was.entries j l e) j l e;
        words = λ j l e. by (λ (x : LockView). MAX_TURNS ≤ x.journal.word_room) room.words (λ j l e. was.words j l e) j l e;
      }
        where
          by : (P : LockView → Type 0) → P did.lock → ((j : ℕ) (l : LockView) → lock_in p.context.locks j ≡ Some l → P l) → (j : ℕ) (l : LockView) → lock_in q.context.locks j ≡ Some l → P l
          by P new old j l e = elim (eqb_tells j k) [
            | inl s ↦ (let same : Some did.lock ≡ Some l = sym (ap (λ v. if v then Some did.lock else lock_in p.context.locks j) s.0) ∙ sym (locks j) ∙ e in let is : did.lock ≡ l = cc in subst P is new)
            | inr s ↦ old j l (sym (ap (λ v. if v then Some did.lock else lock_in p.context.locks j) s.0) ∙ sym (locks j) ∙ e)
          ]

      granted_as : IsGrantedFor b q
      granted_as g e =
          let f : Some g ≡ Some (record { lock = did.lock.number; kind = grant_kind b }) = sym e ∙ ap (λ (x : PackageView). x.granted) did.is in
          let is : g ≡ record { lock = did.lock.number; kind = grant_kind b } = cc in
          ap (λ (x : Grant). x.kind) is

      pub granted_prepared : IsReserved p → HasRoom did.lock → b.thread ≡ p.context.thread → IsOfThread image (end_after image terms.fuel before.history) b → IsPrepared image terms before.history q b
      granted_prepared was room mine of =
          let follows = follows_among image terms.fuel terms.limit before.history (map bare before.packages) before.states q at.law granted_with.mine in
          let thread : b.thread ≡ q.context.thread = mine ∙ sym (ap (λ (x : PackageView). x.context.thread) bare_same) in
          record {
            tells = at.law.tells;
            follows = follows;
            obeys = right_obeys image terms [] before.history (λ j. tt) at.right;
            thread = of;
            free = λ j e.
                (let is = at.home_is k did.lock did.here in
                let same : Some j ≡ Some k = sym (ap (next_lock image) (follows.thread.thread ∙ ap (end_after image terms.fuel before.history).threads (sym thread)) ∙ e) ∙ next_is in
                let j_is : j ≡ k = cc in
                ap (owner_after image terms.fuel before.history) j_is ∙ rests_free image terms.fuel terms.limit before.history (map bare before.packages) before.states at.law k (kept did.lock) is.place is.rest.ended);
            mine = thread;
            pending = granted_with.pending;
            reserved = reserved was room;
            want = λ j e. (let same : Some k ≡ Some j = sym (ap (λ (x : PackageView). want_of image x.context) did.is ∙ want) ∙ e in ap (λ (x : PackageView). granted_lock x.granted) did.is ∙ ap Some number ∙ same);
            granted = granted_as;
          }

-- ---- nothing is wanted

module _ (image : Shown) (terms : Terms) (before : Before) (home : List (Option LockView)) (p : PackageView) (b : Block) (at : IsWith image terms before home p) (calm : IsCalm p) (none : want_of image p.context ≡ None)
    (mine : b.thread ≡ p.context.thread) (of : IsOfThread image (end_after image terms.fuel before.history) b) where
  follows : Follows image terms.fuel terms.limit before.history (end_after image terms.fuel before.history) p
  follows = follows_among image terms.fuel terms.limit before.history (map bare before.packages) before.states p at.law at.mine

  thread_is : thread_in p.context ≡ (end_after image terms.fuel before.history).threads b.thread
  thread_is = follows.thread.thread ∙ ap (end_after image terms.fuel before.history).threads (sym mine)

  no_next : next_lock image (thread_in p.context) ≡ None
  no_next = sym (ap (λ v. if v then next_lock image (thread_in p.context) else None) (ap (λ (d : Thread). is_running d.status) thread_is ∙ of.runs)) ∙ none

  pub plain_ready : IsReadyFor image p
  plain_ready = record { set = λ k s. ap (λ n. locks_of_block (has p.context.guest.held) n k) no_next ∙ calm.held k s }

  pub plain_away : (k : ℕ) → next_lock image (thread_in p.context) ≡ Some k → lock_in home k ≡ None
  plain_away k e = absurd (let f : None ≡ Some k = sym no_next ∙ e in cc)

  pub plain_prepared : IsReserved p → IsPrepared image terms before.history p b
  plain_prepared reserved = record {
    tells = at.law.tells;
    follows = follows;
    obeys = right_obeys image terms [] before.history (λ j. tt) at.right;
    thread = of;
    free = λ j e. absurd (let f : None ≡ Some j = sym no_next ∙ ap (next_lock image) thread_is ∙ e in cc);
    mine = mine;
    pending = at.pending;
    reserved = reserved;
    want = λ j e. absurd (let f : None ≡ Some j = sym none ∙ e in cc);
    granted = λ g e. absurd (let f : None ≡ Some g = sym calm.granted ∙ e in cc);
  }

-- ---- a lock comes home

module _ (image : Shown) (terms : Terms) (before : Before) (home back : List (Option LockView)) (p q : PackageView) (k : ℕ) (lock : LockView) (at : IsWith image terms before home p)
    (here : lock_in p.context.locks k ≡ Some lock) (rest : IsAtRest p.image k lock) (is : q ≡ without_lock k p) (locks : IsPlaced k None p.context.locks q.context.locks) (put : IsPlaced lock.number (Some lock) home back) where
  image_there : p.image ≡ image
  image_there = (at.law.packages_after p.context.thread (bare p) at.mine.place).follows.of

  back_is : (j : ℕ) → lock_in back j ≡ (if j == k then Some lock else lock_in home j)
  back_is j = put j ∙ ap (λ n. if j == n then Some lock else lock_in home j) rest.number

  bare_is : bare q ≡ bare p
  bare_is = ap bare is

  left_in : (v : Bool) (j : ℕ) (l : LockView) → (if v then None else lock_in p.context.locks j) ≡ Some l → lock_in p.context.locks j ≡ Some l
  left_in true j l e = absurd (cc)
  left_in false j l e = e

  home_or : (j : ℕ) (l : LockView) → lock_in back j ≡ Some l → IsHome image before.states j l
  home_or j l e = elim (eqb_tells j k) [
    | inl s ↦
        let same : Some lock ≡ Some l = sym (ap (λ v. if v then Some lock else lock_in home j) s.0) ∙ sym (back_is j) ∙ e in
        let l_is : lock ≡ l = cc in
        subst (λ (x : ℕ × LockView). IsHome image before.states x.0 x.1) (λ i. (sym s.1 i, l_is i)) (record { rest = subst (λ x. IsAtRest x k lock) image_there rest; place = at.mine.locks k lock here })
    | inr s ↦ at.home_is j l (sym (ap (λ v. if v then Some lock else lock_in home j) s.0) ∙ sym (back_is j) ∙ e)
  ]

  owned_back : (j : ℕ) → j < length image.guards → (v : Bool) → (if v then Some lock else lock_in home j) ≡ None → (is_some (if v then None else lock_in p.context.locks j) ≡ true) ⊎ (owner_after image terms.fuel before.history j ≢ None)
  owned_back j lt true e = absurd (cc)
  owned_back j lt false e = at.owned j lt e

  pub brought_with : IsWith image terms before back q
  brought_with = record {
    limits = at.limits;
    law = at.law;
    right = at.right;
    lenient = at.lenient;
    mine = record {
      place = subst (λ (x : PackageView). StandsAt (map bare before.packages) x.context.thread x) (sym bare_is) at.mine.place;
      locks = λ j l e. at.mine.locks j l (left_in (j == k) j l (sym (locks j) ∙ e));
    };
    pending = ap (λ (x : PackageView). x.pending) bare_is ∙ at.pending;
    others = λ u x ne e. at.others u x (λ s. ne (s ∙ sym (ap (λ (x : PackageView). x.context.thread) bare_is))) e;
    home_is = home_or;
    owned = λ j lt e. subst (λ o. (is_some o ≡ true) ⊎ (owner_after image terms.fuel before.history j ≢ None)) (sym (locks j)) (owned_back j lt (j == k) (sym (back_is j) ∙ e));
  }
