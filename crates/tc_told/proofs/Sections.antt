-- Before a block: its thread is claimed, and the lock that it takes, if any, is taken, adopted or granted.
use Rattle.std.proofs.Common.{◌≡◌, ◌≢◌, ℕ, ◌+◌, true, false, not, ◌&&◌, ◌||◌, ◌==◌, ◌<◌, List, length, refl, sym, ap, subst, ◌∙◌}
use Rattle.std.specs.Cmp.Derive.{both_true}
use Rattle.std.specs.Prelude.{Some}
use Rattle.std.proofs.Math.Bool.{and-false}
use Rattle.tc_elf.specs.Shown.{Shown}
use Rattle.tc_journal.specs.History.{of_lock}
use Rattle.tc_journal.specs.declared.block.Block.{Block}
use Rattle.tc_journal.specs.declared.block.Kind.{Kind}
use Rattle.tc_journal.specs.declared.block.Kind.TheVariants as kind
use Rattle.tc_turn.specs.Turn.{is_running, next_lock}
use Rattle.tc_mutex_spec.specs.Machine.{State}
use Rattle.tc_core.specs.declared.event.Event.TheVariants.{Claim, Enter, Take, Ship, Adopt, Grant, Leave, Free, HandBack}
use Rattle.tc_core.specs.declared.place.ThreadPlace.{ThreadPlace}
use Rattle.tc_core.specs.declared.place.ThreadPlace.TheVariants.{Ready, Waiting, At}
use Rattle.tc_core.specs.declared.place.LockPlace.TheVariants.{Granted, Loose}
use Rattle.tc_core.specs.declared.place.LockPlace.TheVariants as place
use Rattle.tc_core.specs.declared.place.Course.{Course}
use Rattle.tc_core.specs.declared.place.Custody.{Custody}
use Rattle.tc_core.specs.Lines.{is_in_line, is_second, is_single}
use Rattle.tc_core.specs.Lines as line
use Rattle.tc_core.specs.Core.{Core, Limits, is_at, is_claimable, is_waiting, is_free_lock, is_loose, with_place}
use Rattle.tc_core.specs.Events.{is_enabled, effect, is_worker, is_thread, has_entered, is_adoptable, entered, taken_by, passed_to, left_by_all, freed}
use Rattle.tc_core.specs.Events as events
use Rattle.tc_core.proofs.Quiet.{pick_mine, pick_other, quiet_course, quiet_event}
use Rattle.tc_core.proofs.Gathering.{in_set}
use Rattle.tc_told.specs.Written.{Beginning, Written, write, place_after}
use Rattle.tc_told.proofs.Leads.{Kept, Leads, comes}
use Rattle.tc_told.proofs.Front.{IsCustody, beginning_by, Between, between_quiet}
use Rattle.tc_lemmas.proofs.Tests.{eq_self}

-- before a section of lock k: its thread is here, the lock is so, and the next block begins so; all else is as after the blocks
pub record Around (image : Shown) (limits : Limits) (seen : List Block) (m : State) (t k : ℕ) (where_it_is : ThreadPlace) (x : Custody) (begin : Kind) (s : Written) : Type 0 where
  pub between : Between seen m s
  pub at : (s.core.course t).place ≡ where_it_is
  pub rests : (u : ℕ) → u ≢ t → u < length image.entries → (s.core.course u).place ≡ place_after m seen u
  pub lock : s.core.custody k ≡ x
  pub custody : (j : ℕ) → j ≢ k → IsCustody limits j (of_lock seen j) (s.core.custody j)
  pub mine : s.next t ≡ record { kind = begin; pc = (m.threads t).regs.pc }
  pub next : (u : ℕ) → u ≢ t → s.next u ≡ beginning_by seen m u

module _ (image : Shown) (limits : Limits) (seen : List Block) (m : State) (t k : ℕ) (thread : is_thread image t ≡ true) (runs : is_running (m.threads t).status ≡ true) (lock : events.is_lock image k ≡ true) (next : next_lock image (m.threads t) ≡ Some k) where
  abbrev Is : ThreadPlace → Custody → Kind → Written → Type 0
  Is = Around image limits seen m t k

  -- the worker has the thread
  has_it : (c : Core) (w : ℕ) → is_worker limits w ≡ true → (c.course t).place ≡ At w → (is_worker limits w && (is_thread image t && is_at (c.course t).place w)) ≡ true
  has_it c w worker at = both_true worker (both_true thread (ap (λ p. is_at p w) at ∙ eq_self w))

  -- the thread comes to another place
  comes_to : (p q : ThreadPlace) (x : Custody) (begin : Kind) (s : Written) → Is p x begin s → Is q x begin (record { core = with_place s.core t q; next = s.next; history = s.history })
  comes_to p q x begin s is = record {
    between = between_quiet seen m s (record { core = with_place s.core t q; next = s.next; history = s.history }) (quiet_course s.core t q) refl is.between;
    at = ap (λ (y : Course). y.place) (pick_mine t _ (s.core.course t));
    rests = λ u ne r. ap (λ (y : Course). y.place) (pick_other u t _ (s.core.course u) ne) ∙ is.rests u ne r;
    lock = is.lock;
    custody = is.custody;
    mine = is.mine;
    next = is.next;
  }

  pub claims : (w : ℕ) (p : ThreadPlace) (x : Custody) (begin : Kind) (s : Written) → is_claimable p ≡ true → is_worker limits w ≡ true → Kept s.core → Is p x begin s → Leads image limits s (Is (At w) x begin)
  unfolding effect is_enabled
  claims w p x begin s may worker kept is =
      let on : is_enabled image limits s.core (Claim w t) ≡ true = both_true worker (both_true thread (ap is_claimable is.at ∙ may)) in
      comes image limits s (Is (At w) x begin) (Claim w t) kept on (comes_to p (At w) x begin s is)

  pub enters : (w : ℕ) (x : Custody) (begin : Kind) (s : Written) → is_worker limits w ≡ true → is_in_line x.line t ≡ false → Kept s.core → Is (At w) x begin s → Leads image limits s (Is (At w) (entered x t) begin)
  unfolding effect is_enabled
  enters w x begin s worker out kept is =
      let on : is_enabled image limits s.core (Enter w t k) ≡ true = both_true (has_it s.core w worker is.at) (both_true lock
      (both_true (ap (λ (y : State). is_running (y.threads t).status) is.between.machine ∙ runs) (both_true (ap (λ n. n == 0) (is.between.turns t))
      (both_true (in_set _ k (ap (λ (y : State). next_lock image (y.threads t)) is.between.machine ∙ next)) (ap (λ (y : Custody). not (is_in_line y.line t)) is.lock ∙ ap not out))))) in
      comes image limits s (Is (At w) (entered x t) begin) (Enter w t k) kept on (record {
        between = between_quiet seen m s (write image s (Enter w t k)) (quiet_event image limits s.core (Enter w t k) on refl) refl is.between;
        at = is.at;
        rests = is.rests;
        lock = pick_mine k _ (s.core.custody k) ∙ ap (λ y. entered y t) is.lock;
        custody = λ j ne. subst (λ y. IsCustody limits j (of_lock seen j) y) (sym (pick_other j k _ (s.core.custody j) ne)) (is.custody j ne);
        mine = is.mine;
        next = is.next;
      })

  -- a change of the lock alone
  pub leaves : (w : ℕ) (x : Custody) (at : ThreadPlace) (begin : Kind) (s : Written) → is_worker limits w ≡ true → x.place ≡ Loose w → x.left ≡ false → is_single x.line ≡ true → Kept s.core → Is at x begin s
      → Leads image limits s (Is at (left_by_all x) begin)
  unfolding effect is_enabled
  leaves w x at begin s worker loose left single kept is =
      let on : is_enabled image limits s.core (Leave w k) ≡ true = both_true (both_true worker (both_true lock (ap (λ (y : Custody). is_loose y.place w) is.lock ∙ ap (λ p. is_loose p w) loose ∙ eq_self w)))
      (both_true (ap (λ (y : Custody). not y.left) is.lock ∙ ap not left) (ap (λ (y : Custody). is_single y.line) is.lock ∙ single)) in
      comes image limits s (Is at (left_by_all x) begin) (Leave w k) kept on (record {
        between = between_quiet seen m s (write image s (Leave w k)) (quiet_event image limits s.core (Leave w k) on refl) refl is.between;
        at = is.at;
        rests = is.rests;
        lock = pick_mine k _ (s.core.custody k) ∙ ap left_by_all is.lock;
        custody = λ j ne. subst (λ y. IsCustody limits j (of_lock seen j) y) (sym (pick_other j k _ (s.core.custody j) ne)) (is.custody j ne);
        mine = is.mine;
        next = is.next;
      })

  pub frees : (w : ℕ) (x : Custody) (at : ThreadPlace) (begin : Kind) (s : Written) → is_worker limits w ≡ true → x.place ≡ Loose w → x.left ≡ true → Kept s.core → Is at x begin s
      → Leads image limits s (Is at (freed x) begin)
  unfolding effect is_enabled
  frees w x at begin s worker loose left kept is =
      let on : is_enabled image limits s.core (Free w k) ≡ true = both_true (both_true worker (both_true lock (ap (λ (y : Custody). is_loose y.place w) is.lock ∙ ap (λ p. is_loose p w) loose ∙ eq_self w)))
      (ap (λ (y : Custody). y.left) is.lock ∙ left) in
      comes image limits s (Is at (freed x) begin) (Free w k) kept on (record {
        between = between_quiet seen m s (write image s (Free w k)) (quiet_event image limits s.core (Free w k) on refl) refl is.between;
        at = is.at;
        rests = is.rests;
        lock = pick_mine k _ (s.core.custody k) ∙ ap freed is.lock;
        custody = λ j ne. subst (λ y. IsCustody limits j (of_lock seen j) y) (sym (pick_other j k _ (s.core.custody j) ne)) (is.custody j ne);
        mine = is.mine;
        next = is.next;
      })

  pub takes : (w : ℕ) (x : Custody) (begin : Kind) (s : Written) → is_worker limits w ≡ true → line.is_first x.line t ≡ true → x.place ≡ place.Free → Kept s.core → Is (At w) x begin s
      → Leads image limits s (Is (At w) (taken_by x t) kind.Taken)
  unfolding effect is_enabled
  takes w x begin s worker first free kept is =
      let on : is_enabled image limits s.core (Take w t k) ≡ true = both_true (has_it s.core w worker is.at) (both_true lock
      (both_true (ap (λ (y : Custody). line.is_first y.line t) is.lock ∙ first) (ap (λ (y : Custody). is_free_lock y.place) is.lock ∙ ap is_free_lock free))) in
      comes image limits s (Is (At w) (taken_by x t) kind.Taken) (Take w t k) kept on (record {
        between = between_quiet seen m s (write image s (Take w t k)) (quiet_event image limits s.core (Take w t k) on refl) refl is.between;
        at = is.at;
        rests = is.rests;
        lock = pick_mine k _ (s.core.custody k) ∙ ap (λ y. taken_by y t) is.lock;
        custody = λ j ne. subst (λ y. IsCustody limits j (of_lock seen j) y) (sym (pick_other j k _ (s.core.custody j) ne)) (is.custody j ne);
        mine = pick_mine t _ (s.next t) ∙ ap (λ (a : Beginning). record { kind = kind.Taken; pc = a.pc }) is.mine;
        next = λ u ne. pick_other u t _ (s.next u) ne ∙ is.next u ne;
      })

  pub ships : (w : ℕ) (x : Custody) (begin : Kind) (s : Written) → is_worker limits w ≡ true → is_in_line x.line t ≡ true → line.is_first x.line t ≡ false → Kept s.core → Is (At w) x begin s
      → Leads image limits s (Is (Waiting k) x begin)
  unfolding effect is_enabled
  ships w x begin s worker there first kept is =
      let on : is_enabled image limits s.core (Ship w t k) ≡ true = both_true (has_it s.core w worker is.at) (both_true lock
      (both_true (ap (λ (y : Custody). is_in_line y.line t) is.lock ∙ there) (ap (λ (y : Custody). not (line.is_first y.line t)) is.lock ∙ ap not first))) in
      comes image limits s (Is (Waiting k) x begin) (Ship w t k) kept on (comes_to (At w) (Waiting k) x begin s is)

  -- the lock may be passed on to the thread
  may_pass_it : (w : ℕ) (x : Custody) (begin : Kind) (s : Written) → is_worker limits w ≡ true → x.place ≡ Loose w → x.left ≡ false → is_second x.line t ≡ true → Is (Waiting k) x begin s → events.may_pass image limits s.core w t k ≡ true
  may_pass_it w x begin s worker loose left second is =
      both_true (both_true worker (both_true lock (ap (λ (y : Custody). is_loose y.place w) is.lock ∙ ap (λ p. is_loose p w) loose ∙ eq_self w)))
      (both_true (ap (λ (y : Custody). not y.left) is.lock ∙ ap not left) (both_true thread (both_true (ap (λ (y : Custody). is_second y.line t) is.lock ∙ second) (ap (λ p. is_waiting p k) is.at ∙ eq_self k))))

  pub adopts : (w : ℕ) (x : Custody) (begin : Kind) (s : Written) → is_worker limits w ≡ true → x.place ≡ Loose w → x.left ≡ false → is_second x.line t ≡ true → is_adoptable limits k x.run x.last ≡ true → Kept s.core → Is (Waiting k) x begin s
      → Leads image limits s (Is (At w) (passed_to x t (x.run + 1)) kind.Adopted)
  unfolding effect is_enabled
  adopts w x begin s worker loose left second by kept is =
      let on : is_enabled image limits s.core (Adopt w t k) ≡ true = both_true (may_pass_it w x begin s worker loose left second is) (ap (λ (y : Custody). is_adoptable limits k y.run y.last) is.lock ∙ by) in
      comes image limits s (Is (At w) (passed_to x t (x.run + 1)) kind.Adopted) (Adopt w t k) kept on (record {
        between = between_quiet seen m s (write image s (Adopt w t k)) (quiet_event image limits s.core (Adopt w t k) on refl) refl is.between;
        at = ap (λ (y : Course). y.place) (pick_mine t _ (s.core.course t));
        rests = λ u ne r. ap (λ (y : Course). y.place) (pick_other u t _ (s.core.course u) ne) ∙ is.rests u ne r;
        lock = pick_mine k _ (s.core.custody k) ∙ ap (λ (y : Custody). passed_to y t (y.run + 1)) is.lock;
        custody = λ j ne. subst (λ y. IsCustody limits j (of_lock seen j) y) (sym (pick_other j k _ (s.core.custody j) ne)) (is.custody j ne);
        mine = pick_mine t _ (s.next t) ∙ ap (λ (a : Beginning). record { kind = kind.Adopted; pc = a.pc }) is.mine;
        next = λ u ne. pick_other u t _ (s.next u) ne ∙ is.next u ne;
      })

  pub grants : (w : ℕ) (x : Custody) (begin : Kind) (s : Written) → is_worker limits w ≡ true → x.place ≡ Loose w → x.left ≡ false → is_second x.line t ≡ true → is_adoptable limits k x.run x.last ≡ false → Kept s.core → Is (Waiting k) x begin s
      → Leads image limits s (Is Ready (passed_to x t 0) kind.Granted)
  unfolding effect is_enabled
  grants w x begin s worker loose left second by kept is =
      let on : is_enabled image limits s.core (Grant w t k) ≡ true = both_true (may_pass_it w x begin s worker loose left second is) (ap (λ (y : Custody). not (is_adoptable limits k y.run y.last)) is.lock ∙ ap not by) in
      comes image limits s (Is Ready (passed_to x t 0) kind.Granted) (Grant w t k) kept on (record {
        between = between_quiet seen m s (write image s (Grant w t k)) (quiet_event image limits s.core (Grant w t k) on refl) refl is.between;
        at = ap (λ (y : Course). y.place) (pick_mine t _ (s.core.course t));
        rests = λ u ne r. ap (λ (y : Course). y.place) (pick_other u t _ (s.core.course u) ne) ∙ is.rests u ne r;
        lock = pick_mine k _ (s.core.custody k) ∙ ap (λ (y : Custody). passed_to y t 0) is.lock;
        custody = λ j ne. subst (λ y. IsCustody limits j (of_lock seen j) y) (sym (pick_other j k _ (s.core.custody j) ne)) (is.custody j ne);
        mine = pick_mine t _ (s.next t) ∙ ap (λ (a : Beginning). record { kind = kind.Granted; pc = a.pc }) is.mine;
        next = λ u ne. pick_other u t _ (s.next u) ne ∙ is.next u ne;
      })

  -- a thread that was granted the lock goes back
  pub hands_back : (w : ℕ) (x : Custody) (begin : Kind) (s : Written) → is_worker limits w ≡ true → x.place ≡ Granted t → x.left ≡ false → line.is_first x.line t ≡ true → Kept s.core → Is (At w) x begin s → Leads image limits s (Is Ready x begin)
  unfolding effect is_enabled
  hands_back w x begin s worker granted left first kept is =
      let entered : has_entered (next_lock image (s.core.machine.threads t)) t s.core ≡ false =
      ap (λ o. has_entered o t s.core) (ap (λ (y : State). next_lock image (y.threads t)) is.between.machine ∙ next)
      ∙ (λ i. is_in_line (is.lock i).line t && (is_free_lock (is.lock i).place || (is.lock i).left || not (line.is_first (is.lock i).line t)))
      ∙ (λ i. is_in_line x.line t && (is_free_lock (granted i) || left i || not (first i))) ∙ and-false (is_in_line x.line t) in
      let on : is_enabled image limits s.core (HandBack w t) ≡ true = both_true (has_it s.core w worker is.at)
      (both_true (ap (λ (y : State). is_running (y.threads t).status) is.between.machine ∙ runs) (both_true (ap (λ n. n == 0) (is.between.turns t)) (ap not entered))) in
      comes image limits s (Is Ready x begin) (HandBack w t) kept on (comes_to (At w) Ready x begin s is)
