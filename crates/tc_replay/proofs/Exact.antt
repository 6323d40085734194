-- The block that a package runs decides what is wrong with the recorded one.
use Rattle.std.proofs.Common.{◌≡◌, ℕ, ◌^◌, ◌<◌, ◌≤◌, ◌==◌, Bool, true, false, not, ◌⊎◌, ◌||◌, List, [], ◌∷◌, ◌++◌, length, refl, sym, ap, subst, ◌∙◌, append_assoc, append-nil, inl, inr}
use Rattle.std.specs.Prelude.{Option, Some, None, is_some, if◌then◌else◌}
use Rattle.std.specs.Int.{bit_at}
use Rattle.std.proofs.lemmas.Nat.Bits.{same_from_bits_below, bit_at-lt}
use Rattle.tc_journal.proofs.Batching.{of_lock-more}
use Rattle.tc_isa.specs.Sets.{has}
use Rattle.tc_isa.proofs.SetLemmas.{has_above}
use Rattle.tc_elf.specs.Shown.{Shown}
use Rattle.tc_journal.specs.Batch.{may_go_on, is_section, takes_of, is_lock, begins, last_of, allows_of, may_follow, Obeys}
use Rattle.tc_journal.specs.History.{of_lock}
use Rattle.tc_journal.specs.declared.block.Block.{Block}
use Rattle.tc_journal.specs.declared.block.Kind.{Kind}
use Rattle.tc_journal.specs.declared.block.Kind.TheVariants.{Start, On, Taken, Adopted, Granted}
use Rattle.tc_turn.specs.Turn.{Thread, next_lock}
use Rattle.tc_mutex_spec.specs.Machine.{State, start}
use Rattle.tc_mutex_spec.specs.Blocks.{reach, locks_of_block, Runs, Stands, is_first, has_block, TellsAfter, Tells, led_to, end_after}
use Rattle.tc_mutex_spec.proofs.Replaying.{record_takes}
use Rattle.tc_segment.specs.View.{LockView, blocks_of, sealed_block}
use Rattle.tc_context.specs.declared.package.Grant.{Grant}
use Rattle.tc_context.specs.Locks.{lock_in}
use Rattle.tc_context.specs.Whole.{thread_in}
use Rattle.tc_context.specs.View.{PackageView, IsSoundPackage, MayTake, IsGranted, kind_of, fits_of, fits_in, fits_granted, with_seal}
use Rattle.tc_context.specs.Ran.{DidRun}
use Rattle.tc_context.proofs.Staging.{some_of}
use Rattle.tc_law.specs.History.{Follows, StateFollows, Grows}
use Rattle.tc_law.proofs.Following.{grown, obeyed, blocks_are}
use Rattle.tc_replay.specs.Rejected.{IsBlockOf, IsOfKind}
use Rattle.tc_replay.specs.Run.{HaveSameTurns, IsGrantedFor}
use Rattle.tc_replay.proofs.Telling.{runs_one, obeys_last}
use Rattle.tc_lemmas.proofs.Tests.{eq_self, same_bit}
use Rattle.std.proofs.lemmas.Bool.{cases_lt}

-- the last block of a history stands behind the others
pub tells_last : (image : Shown) (seen h : List Block) (from last : State) (b : Block) → TellsAfter image seen from (h ++ b ∷ []) last → Stands image (seen ++ h) (led_to image from h) b last
tells_last image seen [] from last b told =
    subst (λ (x : List Block × State). Stands image x.0 from b x.1) (λ i. (sym (append-nil seen) i, told.2 i)) told.1
tells_last image seen (x ∷ h) from last b told =
    let mid : told.0 ≡ reach image from x.thread x.turns = told.1.runs.last in
    subst (λ (y : List Block × State). Stands image y.0 (led_to image y.1 h) b last) (λ i. (append_assoc seen (x ∷ []) h i, mid i)) (tells_last image (seen ++ x ∷ []) h told.0 last b told.2)

-- sets of the same locks are the same number
same_set : (a b : ℕ) → a < 2 ^ 32 → b < 2 ^ 32 → ((k : ℕ) → has a k ≡ has b k) → a ≡ b
same_set a b small less same = same_from_bits_below 32 a b small less (λ i lt. same_bit (bit_at a i) (bit_at b i) (bit_at-lt a i) (bit_at-lt b i) (same i))

-- two kinds that begin no section, and are alike in whether they are the first
plain_kind : (a b : Kind) → is_section a ≡ false → is_section b ≡ false → is_first a ≡ is_first b → a ≡ b
plain_kind Start Start p q e = refl
plain_kind Start On p q e = absurd (cc)
plain_kind On Start p q e = absurd (cc)
plain_kind On On p q e = refl
plain_kind Start Taken p q e = absurd (cc)
plain_kind Start Adopted p q e = absurd (cc)
plain_kind Start Granted p q e = absurd (cc)
plain_kind On Taken p q e = absurd (cc)
plain_kind On Adopted p q e = absurd (cc)
plain_kind On Granted p q e = absurd (cc)
plain_kind Taken b p q e = absurd (cc)
plain_kind Adopted b p q e = absurd (cc)
plain_kind Granted b p q e = absurd (cc)

kind_none : (log : List Block) → is_section (kind_of None log) ≡ false
kind_none [] = refl
kind_none (b ∷ log) = refl

same_lock : (o : Option ℕ) (k : ℕ) → o ≡ Some k → is_lock o k ≡ true
same_lock o k e = ap (λ x. is_lock x k) e ∙ eq_self k

module _ (image : Shown) (fuel limit : ℕ) (h : List Block) (p v : PackageView) (told : Tells image fuel h (end_after image fuel h)) (was : Follows image fuel limit h (end_after image fuel h) p)
    (ran : DidRun image p v) (sound : IsSoundPackage p) (b : Block) (mine : b.thread ≡ p.context.thread) (small : b.held < 2 ^ 32) where
  abbrev m : State
  m = end_after image fuel h

  abbrev r : Block
  r = ran.block

  abbrev c : Block
  c = sealed_block b.stamp b.worker r

  made : (to : State) × Grows image fuel h m c to × Follows image fuel limit (h ++ c ∷ []) to (with_seal b.stamp b.worker v)
  made = grown image fuel limit h m p v told was ran b.stamp b.worker

  stands : Stands image h m c made.0
  stands = tells_last image [] h (start image fuel) made.0 c made.1.tells

  thread : c.thread ≡ b.thread
  thread = ran.thread ∙ sym mine

  abbrev d : Thread
  d = m.threads b.thread

  d_is : m.threads c.thread ≡ d
  d_is = ap m.threads thread

  locks : (k : ℕ) → has r.held k ≡ locks_of_block d.held (next_lock image d) k
  locks k = stands.held k ∙ ap (λ (x : Thread). locks_of_block x.held (next_lock image x) k) d_is

  runs : Runs image m b.thread r.turns r.end made.0
  runs = subst (λ t. Runs image m t r.turns r.end made.0) thread stands.runs

  -- a recorded block that is the thread's has the turns, the locks, the pc and the end of the one that ran
  pub same_turns : IsBlockOf image m b → HaveSameTurns r b
  same_turns of =
      let one = runs_one image m made.0 of.to b.thread r.turns b.turns r.end b.end runs of.runs in
      record {
        turns = one.0;
        held = same_set r.held b.held ran.bounds.held small (λ k. locks k ∙ sym (of.held k));
        pc = stands.pc ∙ ap (λ (x : Thread). x.regs.pc) d_is ∙ sym of.pc;
        end = one.1;
      }

  -- and one that has these is the thread's
  pub is_block : HaveSameTurns r b → IsBlockOf image m b
  is_block same = record {
    to = made.0;
    runs = subst (λ (x : ℕ × _). Runs image m b.thread x.0 x.1 made.0) (λ i. (same.turns i, same.end i)) runs;
    held = λ k. ap (λ n. has n k) (sym same.held) ∙ locks k;
    pc = sym same.pc ∙ stands.pc ∙ ap (λ (x : Thread). x.regs.pc) d_is;
  }

  d_in : thread_in p.context ≡ d
  d_in = was.thread.thread ∙ ap m.threads (sym mine)

  section_is : is_section r.kind ≡ is_some (next_lock image d)
  section_is = stands.section ∙ ap (λ (x : Thread). is_some (next_lock image x)) d_is

  -- what was granted, where a block begins a section
  granted_is : is_section r.kind ≡ true → (g : Grant) × (p.granted ≡ Some g) × (r.kind ≡ g.kind) × IsGranted p.image p.context g
  granted_is is = go p.granted refl
    where
      go : (o : Option Grant) → p.granted ≡ o → (g : Grant) × (p.granted ≡ Some g) × (r.kind ≡ g.kind) × IsGranted p.image p.context g
      go None e = absurd (let f : false ≡ true = sym (kind_none p.log) ∙ ap (λ o. is_section (kind_of o p.log)) (sym e) ∙ ap is_section (sym ran.kind) ∙ is in cc)
      go (Some g) e = (g, e, ran.kind ∙ ap (λ o. kind_of o p.log) e, subst (MayTake p.image p.context) e sound.grant)

  few : length image.guards ≤ 32
  few = subst (λ (x : Shown). length x.guards ≤ 32) was.thread.of sound.few

  held_small : (k : ℕ) → d.held k ≡ true → k < 32
  held_small k e = by_bound (cases_lt k 32)
    where
      here : has p.context.guest.held k ≡ true
      here = ap (λ (x : Thread). x.held k) (was.thread.thread ∙ ap m.threads (sym mine)) ∙ e

      by_bound : (k < 32) ⊎ (32 ≤ k) → k < 32
      by_bound (inl lt) = lt
      by_bound (inr ge) = absurd (past (has r.held k) refl)
        where
          past : (w : Bool) → has r.held k ≡ w → ⊥
          past w is = (let f : true ≡ false = sym (in_it (next_lock image d)) ∙ sym (locks k) ∙ has_above r.held k ran.bounds.held ge in cc)
            where
              in_it : (o : Option ℕ) → locks_of_block d.held o k ≡ true
              in_it None = e
              in_it (Some j) = elim (k == j) as (λ v. (v || d.held k) ≡ true) [ true ↦ refl | false ↦ e ]

  -- a recorded block with a lawful kind has the kind of the one that ran, and fits its worker
  module _ (granted : IsGrantedFor b p) (of : IsBlockOf image m b) (kind : IsOfKind image limit h m b) where
    plain : is_section b.kind ≡ false → r.kind ≡ b.kind
    plain out =
        let not_r : is_section r.kind ≡ false = section_is ∙ sym kind.section ∙ out in
        plain_kind r.kind b.kind not_r out (stands.first not_r ∙ ap (λ t. not (has_block h t)) thread ∙ sym (kind.first out))

    module _ (is : is_section b.kind ≡ true) where
      r_is : is_section r.kind ≡ true
      r_is = section_is ∙ sym kind.section ∙ is

      g : (g : Grant) × (p.granted ≡ Some g) × (r.kind ≡ g.kind) × IsGranted p.image p.context g
      g = granted_is r_is

      abbrev k : ℕ
      k = g.0.lock

      next : next_lock image d ≡ Some k
      next = (λ i. next_lock (sym was.thread.of i) (sym d_in i)) ∙ g.3.next

      l : (l : LockView) × (lock_in p.context.locks k ≡ Some l)
      l = some_of (lock_in p.context.locks k) g.3.here

      state : StateFollows image fuel limit h m k l.0
      state = was.states k l.0 l.1

      blocks : blocks_of l.0 ≡ of_lock h k
      blocks = blocks_are image fuel limit h m k l.0 state

      begun : begins k b ≡ true
      begun = same_lock (takes_of b) k (record_takes image m b (record { few = few; small = held_small; held = of.held; section = kind.section }) ∙ next)

      held : has b.held k ≡ true
      held = of.held k ∙ ap (λ o. locks_of_block d.held o k) next ∙ ap (λ v. v || d.held k) (eq_self k)

      pushed : of_lock (h ++ b ∷ []) k ≡ of_lock h k ++ b ∷ []
      pushed = of_lock-more h b k true held

      obeys : Obeys k limit (of_lock h k ++ b ∷ [])
      obeys = subst (Obeys k limit) pushed (kind.obeys k held)

      allows : allows_of k limit (of_lock h k) b.kind b.worker ≡ true
      unfolding may_follow
      allows = sym (ap (λ v. if v then allows_of k limit (of_lock h k) b.kind b.worker else may_go_on k (last_of (of_lock h k)) b.thread) begun) ∙ obeys_last k limit [] (of_lock h k) b obeys

      kind_is : g.0.kind ≡ b.kind
      kind_is = granted g.0 g.1 ∙ (λ i. if is i then b.kind else Taken)

      section_kind : r.kind ≡ b.kind
      section_kind = g.2 ∙ kind_is

      section_fits : fits_of p b.worker ≡ true
      section_fits =
          ap (λ o. fits_granted p.context o b.worker) g.1 ∙ ap (λ o. fits_in o k g.0.kind b.worker) l.1
          ∙ (λ i. allows_of k (state.bound i) (blocks i) (kind_is i) b.worker) ∙ allows

    plain_fits : is_section b.kind ≡ false → fits_of p b.worker ≡ true
    plain_fits out = go p.granted refl
      where
        go : (o : Option Grant) → p.granted ≡ o → fits_granted p.context o b.worker ≡ true
        go None e = refl
        go (Some g) e =
            let section : is_section r.kind ≡ true = ap is_section (ran.kind ∙ ap (λ o. kind_of o p.log) e) ∙ (subst (MayTake p.image p.context) e sound.grant).section in
            absurd (let f : true ≡ false = sym section ∙ section_is ∙ sym kind.section ∙ out in cc)

    pub exact_kind : (r.kind ≡ b.kind) × (fits_of p b.worker ≡ true)
    exact_kind = go (is_section b.kind) refl
      where
        go : (w : Bool) → is_section b.kind ≡ w → (r.kind ≡ b.kind) × (fits_of p b.worker ≡ true)
        go true e = (section_kind e, section_fits e)
        go false e = (plain e, plain_fits e)

  -- with the same turns and the same kind the recorded block is the one that ran, sealed
  pub same_block : HaveSameTurns r b → r.kind ≡ b.kind → c ≡ b
  same_block same kind = λ i. record {
    stamp = b.stamp;
    thread = thread i;
    turns = same.turns i;
    held = same.held i;
    kind = kind i;
    worker = b.worker;
    pc = same.pc i;
    end = same.end i;
  }

  -- and it is of the block's kind, where it fits its worker
  pub kind_right : HaveSameTurns r b → r.kind ≡ b.kind → fits_of p b.worker ≡ true → ((k : ℕ) → Obeys k limit (of_lock h k)) → IsOfKind image limit h m b
  kind_right same kind fits obeys = subst (IsOfKind image limit h m) (same_block same kind) (record {
    section = stands.section;
    first = stands.first;
    obeys = λ k held. obeyed image fuel limit h m p v was ran b.stamp b.worker (ran.fits b.worker fits) obeys k;
  })
