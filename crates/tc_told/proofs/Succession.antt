-- What the laws of delegation show of a section, at the place of its first block in a history.
use Rattle.std.proofs.Common.{◌≡◌, ◌≢◌, ℕ, ◌<◌, Bool, true, false, not, ◌&&◌, ◌||◌, ◌==◌, List, [], ◌∷◌, ◌++◌, length, refl, sym, ap, subst, ◌∙◌, inl, inr, append_assoc, append-nil, length-append}
use Rattle.std.specs.Prelude.{Option, Some, None, All, if◌then◌else◌}
use Rattle.std.proofs.Math.Bool.{or-true}
use Rattle.std.proofs.lemmas.Bool.{eqb-true, and_parts}
use Rattle.std.proofs.lemmas.Bool.Decides.{eqb_tells}
use Rattle.std.proofs.lemmas.List.{map-id}
use Rattle.std.proofs.lemmas.List.Elements.{All-head, All-tail}
use Rattle.tc_isa.specs.Sets.{has}
use Rattle.tc_elf.specs.Shown.{Shown}
use Rattle.tc_journal.specs.Batch.{begins, is_lock, is_adopted, unlocks, ends_thread, ends_section, may_adopt, may_begin, may_go_on, may_follow, passes_on, passes_to, last_of, run_of, allows_of, ObeysAfter}
use Rattle.tc_journal.specs.Handing.{of_worker, has_unlocked, IsHandedOver, IsRunOn, IsStillAt, Delegates}
use Rattle.tc_journal.specs.History.{IsHistoryFrom, of_lock, of_thread}
use Rattle.tc_journal.specs.declared.block.Block.{Block}
use Rattle.tc_journal.specs.declared.block.End.{End}
use Rattle.tc_journal.specs.declared.block.End.TheVariants.{Wants, Unlocked, Slept, Cut, Exit, Fault, Spent}
use Rattle.tc_journal.specs.declared.block.Kind.{Kind}
use Rattle.tc_journal.specs.declared.block.Kind.TheVariants.{Start, On, Taken, Adopted, Granted}
use Rattle.tc_turn.specs.Turn.{Thread, next_lock}
use Rattle.tc_turn.proofs.Turns.{next_known}
use Rattle.tc_mutex_spec.specs.Machine.{State, start}
use Rattle.tc_mutex_spec.specs.Blocks.{TellsAfter, Tells, locks_of_block}
use Rattle.tc_mutex_spec.proofs.BlocksAlike.{runs_apart}
use Rattle.tc_mutex_spec.proofs.Leaving.{block_releases}
use Rattle.tc_mutex_spec.proofs.Progress.{can_runs}
use Rattle.tc_core.specs.Core.{Limits}
use Rattle.tc_told.specs.Handover.{first_of, ShowsDelegation, BeginsAdopted, IsBehindRelease, FollowsAtOnce, HasWaited, BeginsWith, IsCutUp}
use Rattle.tc_told.proofs.Committed.{IsNext, begins_is, keeps}
use Rattle.tc_told.proofs.Openings.{passed, adopt_ends}
use Rattle.tc_told.proofs.Ruling.{Rules, rule_now, rules_on}
use Rattle.tc_told.proofs.Realized.{takes_it}
use Rattle.tc_told.proofs.InParts.{tells_split}
use Rattle.tc_told.proofs.Waiting.{waits}
use Rattle.tc_told.proofs.Thinned.{first_some, with_it, behind_none, none_of, not_in_none, first_is, last_is, last_there, same_last, stands_behind}
use Rattle.tc_lemmas.proofs.Tests.{eq_self}

-- ---- the rules, at a block

-- a block that unlocks the lock is there
some_unlocked : (lock : ℕ) (o : Option Block) → has_unlocked lock o ≡ true → (p : Block) × (o ≡ Some p) × (p.end ≡ Unlocked lock)
some_unlocked lock None e = absurd (cc)
some_unlocked lock (Some p) e = (p, refl, by p.end e)
  where
    by : (end : End) → unlocks lock end ≡ true → end ≡ Unlocked lock
    by (Wants k) h = absurd (cc)
    by (Unlocked k) h = ap Unlocked (eqb-true k lock h)
    by Slept h = absurd (cc)
    by Cut h = absurd (cc)
    by Exit h = absurd (cc)
    by (Fault f) h = absurd (cc)
    by Spent h = absurd (cc)

-- an Adopted section follows a block of its worker and, where it was passed on, of another thread
adopts_behind : (lock limit run : ℕ) (o : Option Block) (kind : Kind) (w t : ℕ) → is_adopted kind ≡ true → may_begin lock limit o run kind w ≡ true → passes_to o kind t ≡ true → (q : Block) × (o ≡ Some q) × (q.worker ≡ w) × (q.thread ≢ t)
adopts_behind lock limit run o Start w t is may pass = absurd (cc)
adopts_behind lock limit run o On w t is may pass = absurd (cc)
adopts_behind lock limit run o Taken w t is may pass = absurd (cc)
adopts_behind lock limit run None Adopted w t is may pass = absurd (cc)
adopts_behind lock limit run (Some q) Adopted w t is may pass = (
  q,
  refl,
  eqb-true q.worker w (and_parts (may_adopt q lock run limit) (q.worker == w) may).1,
  λ e. (let same : (q.thread == t) ≡ true = ap (λ n. n == t) e ∙ eq_self t in let no : not (q.thread == t) ≡ false = ap not same in cc),
)
adopts_behind lock limit run o Granted w t is may pass = absurd (cc)

-- each block stands for itself
abbrev itself : Block → Block
itself b = b

rule_here : (limits : Limits) (seen h : List Block) (b : Block) (k : ℕ) → Rules itself limits seen (b ∷ h) k → has b.held k ≡ true → (may_follow k limits.batch (of_lock seen k) b ≡ true) × (passes_on k (of_lock seen k) b ≡ true)
rule_here limits seen h b k rules e = (let r = rule_now itself limits seen h b k rules e in (subst (λ bs. may_follow k limits.batch bs b ≡ true) (map-id (of_lock seen k)) r.0, r.1))

-- the rule for the lock that the block takes
allowed : (k limit : ℕ) (bs : List Block) (b : Block) → begins k b ≡ true → may_follow k limit bs b ≡ true → may_begin k limit (last_of bs) (run_of k bs) b.kind b.worker ≡ true
unfolding may_follow allows_of
allowed k limit bs b begin e = ap (λ v. if v then may_begin k limit (last_of bs) (run_of k bs) b.kind b.worker else may_go_on k (last_of bs) b.thread) (sym begin) ∙ e

-- a section follows a block only where that ended one
begins_behind : (lock limit run : ℕ) (c : Block) (kind : Kind) (w : ℕ) → may_begin lock limit (Some c) run kind w ≡ true → ends_section lock c ≡ true
begins_behind lock limit run c Start w may = absurd (cc)
begins_behind lock limit run c On w may = absurd (cc)
begins_behind lock limit run c Taken w may = may
begins_behind lock limit run c Adopted w may = adopt_ends c lock run limit (and_parts (may_adopt c lock run limit) (c.worker == w) may).0
begins_behind lock limit run c Granted w may = (and_parts (ends_section lock c) (not (may_adopt c lock run limit)) may).0

cut_ends_none : (lock : ℕ) (c : Block) → c.end ≡ Cut → ends_section lock c ≡ false
cut_ends_none lock c cut = ap (λ e. unlocks lock e || ends_thread e) cut

-- behind a block that was cut, the next one of the lock is of the same thread
cut_goes_on : (lock limit : ℕ) (bs : List Block) (c d : Block) → last_of bs ≡ Some c → c.end ≡ Cut → may_follow lock limit bs d ≡ true → d.thread ≡ c.thread
unfolding may_follow
cut_goes_on lock limit bs c d last cut may = go (begins lock d) refl
  where
    go : (v : Bool) → begins lock d ≡ v → d.thread ≡ c.thread
    go true e =
        absurd (let ends = begins_behind lock limit (run_of lock bs) c d.kind d.worker (ap (λ o. may_begin lock limit o (run_of lock bs) d.kind d.worker) (sym last) ∙ allowed lock limit bs d e may) in
        let no = cut_ends_none lock c cut in cc)
    go false e =
        let on : may_go_on lock (last_of bs) d.thread ≡ true = ap (λ v. if v then allows_of lock limit bs d.kind d.worker else may_go_on lock (last_of bs) d.thread) (sym e) ∙ may in
        let same : (not (ends_section lock c) && (c.thread == d.thread)) ≡ true = ap (λ o. may_go_on lock o d.thread) (sym last) ∙ on in
        sym (eqb-true c.thread d.thread (and_parts (not (ends_section lock c)) (c.thread == d.thread) same).1)

-- ---- places

-- what is known of a block at its place
record Placed (image : Shown) (limits : Limits) (before : List Block) (b : Block) (after : List Block) (last : State) : Type 0 where
  pub from : State
  pub to : State
  pub is : IsNext image limits before from b to
  pub rest : TellsAfter image (before ++ b ∷ []) to after last
  pub rules : (k : ℕ) → k < length image.guards → Rules itself limits before (b ∷ after) k

placed : (image : Shown) (limits : Limits) (seen before : List Block) (b : Block) (after : List Block) (m last : State) → IsHistoryFrom (length seen) (before ++ b ∷ after) → TellsAfter image seen m (before ++ b ∷ after) last
    → All (λ (c : Block). c.worker < limits.workers) (before ++ b ∷ after) → ((k : ℕ) → k < length image.guards → Rules itself limits seen (before ++ b ∷ after) k) → Placed image limits (seen ++ before) b after last
placed image limits seen [] b after m last history tells workers rules =
    let here : Placed image limits seen b after last = record {
      from = m;
      to = tells.0;
      is = record { stands = tells.1; stamp = history.1; held = history.0.held; worker = All-head (λ (c : Block). c.worker < limits.workers) b after workers };
      rest = tells.2;
      rules = rules;
    } in
    subst (λ l. Placed image limits l b after last) (sym (append-nil seen)) here
placed image limits seen (x ∷ before) b after m last history tells workers rules =
    subst (λ l. Placed image limits l b after last) (append_assoc seen (x ∷ []) before)
    (placed image limits (seen ++ x ∷ []) before b after tells.0 last (subst (λ n. IsHistoryFrom n (before ++ b ∷ after)) (sym (length-append seen (x ∷ []))) history.2) tells.2
    (All-tail (λ (c : Block). c.worker < limits.workers) x (before ++ b ∷ after) workers) (λ k lt. rules_on itself limits seen (before ++ b ∷ after) x k (rules k lt)))

-- a section begins with a turn that takes its lock
takes_next : (image : Shown) (limits : Limits) (seen : List Block) (m : State) (b : Block) (to : State) (lock : ℕ) → IsNext image limits seen m b to → begins lock b ≡ true → next_lock image (m.threads b.thread) ≡ Some lock
takes_next image limits seen m b to lock is begin = it (next_lock image (m.threads b.thread)) (sym (begins_is image limits seen m to b is lock) ∙ begin)
  where
    it : (o : Option ℕ) → is_lock o lock ≡ true → o ≡ Some lock
    it None e = absurd (cc)
    it (Some j) e = ap Some (sym (eqb-true lock j e))

-- while no block has the lock, its thread has no block
none_of_holder : (image : Shown) (seen bs after : List Block) (m last : State) (t lock : ℕ) → TellsAfter image seen m (bs ++ after) last → (m.threads t).held lock ≡ true → of_lock bs lock ≡ [] → of_thread bs t ≡ []
none_of_holder image seen [] after m last t lock tells held none = refl
none_of_holder image seen (x ∷ bs) after m last t lock tells held none =
    let out = none_of (λ (c : Block). has c.held lock) x bs none in
    elim (eqb_tells x.thread t) [
      | inl e ↦
          absurd (let has_it : has x.held lock ≡ true = tells.1.held lock ∙ covered (m.threads x.thread).held (next_lock image (m.threads x.thread)) (ap (λ u. (m.threads u).held lock) e.1 ∙ held) in
          let no = out.0 in cc)
      | inr e ↦
          (let still : tells.0.threads t ≡ m.threads t = (runs_apart image m tells.0 x.thread x.turns x.end tells.1.runs).threads t (λ same. e.1 (sym same)) in
          ap (λ v. if v then x ∷ of_thread bs t else of_thread bs t) e.0
          ∙ none_of_holder image (seen ++ x ∷ []) bs after tells.0 last t lock tells.2 (ap (λ (d : Thread). d.held lock) still ∙ held) out.1)
    ]
  where
    covered : (all : ℕ → Bool) (o : Option ℕ) → all lock ≡ true → locks_of_block all o lock ≡ true
    covered all None e = e
    covered all (Some k) e = ap (λ v. (lock == k) || v) e ∙ or-true (lock == k)

-- b, at this place, begins an Adopted section of the lock
record Hands (before : List Block) (lock : ℕ) (b : Block) : Type 0 where
  pub at_once : FollowsAtOnce before lock b
  pub last_of_worker : last_of (of_worker before b.worker) ≡ Some at_once.release
  pub last_of_lock : last_of (of_lock before lock) ≡ Some at_once.release
  pub worker : at_once.release.worker ≡ b.worker
  pub held : has at_once.release.held lock ≡ true

module _ (image : Shown) (limits : Limits) (fuel : ℕ) (h : List Block) (rules : ShowsDelegation image limits fuel h) where
  delegates : Delegates h
  delegates = rules.delegates

  place_of : (before : List Block) (b : Block) (after : List Block) → h ≡ before ++ b ∷ after → Placed image limits before b after rules.last
  place_of before b after place =
      placed image limits [] before b after (start image fuel) rules.last (subst (λ l. IsHistoryFrom 0 l) place rules.history) (subst (λ l. TellsAfter image [] (start image fuel) l rules.last) place rules.tells)
      (subst (All (λ (c : Block). c.worker < limits.workers)) place rules.workers)
      (λ k lt. subst (λ l. Rules itself limits [] l k) place (record { obeys = subst (ObeysAfter k limits.batch []) (sym (map-id (of_lock h k))) (rules.obeys k lt); passes = rules.passes k lt }))

  -- a block that unlocked the lock had it
  releaser_has : (before : List Block) (p : Block) (after : List Block) (lock : ℕ) → h ≡ before ++ p ∷ after → p.end ≡ Unlocked lock → has p.held lock ≡ true
  releaser_has before p after lock place unlocked =
      let at = place_of before p after place in
      at.is.stands.held lock ∙ block_releases image at.from at.to p.thread p.turns p.end at.is.stands.runs lock unlocked

  -- the lock of which a block begins a section
  begun : (before : List Block) (b : Block) (after : List Block) (lock : ℕ) → h ≡ before ++ b ∷ after → begins lock b ≡ true → (lock < length image.guards) × (has b.held lock ≡ true)
  begun before b after lock place begin =
      let at = place_of before b after place in
      let d = at.from.threads b.thread in
      let next = takes_next image limits before at.from b at.to lock at.is begin in
      (next_known image d lock next, at.is.stands.held lock ∙ takes_it d.held lock (next_lock image d) next)

  hands : (before : List Block) (b : Block) (after : List Block) (lock : ℕ) → h ≡ before ++ b ∷ after → BeginsAdopted lock b → Hands before lock b
  hands before b after lock place adopted =
      let at = place_of before b after place in
      let known = begun before b after lock place adopted.0 in
      let is_its : Block → Bool = λ c. c.worker == b.worker in
      let has_it : Block → Bool = λ c. has c.held lock in
      let p = some_unlocked lock (last_of (of_worker before b.worker)) (stands_behind IsHandedOver is_its h before b after (delegates.handed b.worker) place (eq_self b.worker) lock adopted.0 adopted.1) in
      let mine = last_is is_its before p.0 p.1 in
      let rule = rule_here limits before after b lock (at.rules lock known.0) known.1 in
      let q = adopts_behind lock limits.batch (run_of lock (of_lock before lock)) (last_of (of_lock before lock)) b.kind b.worker b.thread adopted.1
      (allowed lock limits.batch (of_lock before lock) b adopted.0 rule.0) (passed lock (of_lock before lock) b adopted.0 rule.1) in
      let its = last_is has_it before q.0 q.1 in
      let there : h ≡ mine.sooner ++ p.0 ∷ (mine.later ++ b ∷ after) = place ∙ ap (λ l. l ++ b ∷ after) mine.place ∙ append_assoc mine.sooner (p.0 ∷ mine.later) (b ∷ after) in
      let has_p = releaser_has mine.sooner p.0 (mine.later ++ b ∷ after) lock there p.2 in
      let same = same_last is_its has_it mine.sooner mine.later its.sooner its.later p.0 q.0 (sym mine.place ∙ its.place) mine.none (ap (λ w. w == b.worker) q.2 ∙ eq_self b.worker) its.none has_p in
      record {
        at_once = record {
          sooner = mine.sooner;
          release = p.0;
          between = mine.later;
          place = mine.place;
          unlocked = p.2;
          thread = λ e. q.3 (ap (λ (c : Block). c.thread) (sym same.0) ∙ e);
          no_block = mine.none;
          no_holder = ap (λ l. of_lock l lock) same.1 ∙ its.none;
        };
        last_of_worker = p.1;
        last_of_lock = q.1 ∙ ap Some (sym same.0);
        worker = eqb-true p.0.worker b.worker mine.passes;
        held = has_p;
      }

  pub released : (before after : List Block) (lock : ℕ) (b : Block) → h ≡ before ++ b ∷ after → BeginsAdopted lock b → IsBehindRelease before lock b
  released before after lock b place adopted =
      let r = hands before b after lock place adopted in
      record { release = r.at_once.release; last_of_worker = r.last_of_worker; last_of_lock = r.last_of_lock; unlocked = r.at_once.unlocked; thread = r.at_once.thread }

  pub at_once : (before after : List Block) (lock : ℕ) (b : Block) → h ≡ before ++ b ∷ after → BeginsAdopted lock b → FollowsAtOnce before lock b
  at_once before after lock b place adopted = (hands before b after lock place adopted).at_once

  pub waited : (before after : List Block) (lock : ℕ) (b : Block) → h ≡ before ++ b ∷ after → begins lock b ≡ true → HasWaited image fuel before lock b
  waited before after lock b place begin =
      let at = place_of before b after place in
      let parts = tells_split image [] before (b ∷ after) (start image fuel) rules.last (subst (λ l. Tells image fuel l rules.last) place rules.tells) in
      let is : IsNext image limits before parts.0 b parts.2.0 = record { stands = parts.2.1; stamp = at.is.stamp; held = at.is.held; worker = at.is.worker } in
      let runs = is.stands.runs in
      waits image fuel before parts.0 parts.1 lock b (can_runs image parts.0 b.thread (runs.defined 0 runs.some), takes_next image limits before parts.0 b parts.2.0 lock is begin)

  pub next : (before after : List Block) (lock : ℕ) (p b : Block) → h ≡ before ++ p ∷ after → p.end ≡ Unlocked lock → first_of (of_lock after lock) ≡ Some b → BeginsAdopted lock b → first_of (of_worker after p.worker) ≡ Some b
  next before after lock p b place unlocked first adopted =
      let has_it : Block → Bool = λ c. has c.held lock in
      let is_its : Block → Bool = λ c. c.worker == p.worker in
      let some = first_some (of_lock after lock) b first in
      let at = first_is has_it after b some.0 some.1 in
      let there : h ≡ (before ++ p ∷ at.sooner) ++ b ∷ at.later = place ∙ ap (λ l. before ++ p ∷ l) at.place ∙ sym (append_assoc before (p ∷ at.sooner) (b ∷ at.later)) in
      let r = hands (before ++ p ∷ at.sooner) b at.later lock there adopted in
      let same = same_last has_it has_it before at.sooner r.at_once.sooner r.at_once.between p r.at_once.release r.at_once.place at.none r.held r.at_once.no_holder (releaser_has before p after lock place unlocked) in
      let worker : b.worker ≡ p.worker = sym r.worker ∙ ap (λ (c : Block). c.worker) (sym same.0) in
      let idle : of_worker at.sooner p.worker ≡ [] = (λ i. of_worker (same.1 i) (sym worker i)) ∙ r.at_once.no_block in
      ap first_of (ap (λ l. of_worker l p.worker) at.place ∙ behind_none is_its at.sooner (b ∷ at.later) idle ∙ with_it is_its b at.later (ap (λ w. w == p.worker) worker ∙ eq_self p.worker))

  -- behind a block of the lock that was cut, the next one of the lock is the next one of the worker
  record Goes (before : List Block) (c : Block) (after : List Block) (lock : ℕ) (d : Block) (more : List Block) : Type 0 where
    pub between : List Block
    pub later : List Block
    pub place : h ≡ (before ++ c ∷ between) ++ d ∷ later
    pub rest : after ≡ between ++ d ∷ later
    pub held : has d.held lock ≡ true
    pub others : of_lock later lock ≡ more
    pub worker : d.worker ≡ c.worker
    pub none : of_worker between c.worker ≡ []

  goes : (before : List Block) (c : Block) (after : List Block) (lock : ℕ) (d : Block) (more : List Block) → h ≡ before ++ c ∷ after → lock < length image.guards → has c.held lock ≡ true → c.end ≡ Cut → of_lock after lock ≡ d ∷ more
      → Goes before c after lock d more
  goes before c after lock d more place known has_c cut next =
      let first = first_is (λ x. has x.held lock) after d more next in
      let there : h ≡ (before ++ c ∷ first.sooner) ++ d ∷ first.later = place ∙ ap (λ l. before ++ c ∷ l) first.place ∙ sym (append_assoc before (c ∷ first.sooner) (d ∷ first.later)) in
      let at = place_of before c after place in
      let held = keeps image limits before at.from at.to c at.is lock has_c ∙ ap not (cut_ends_none lock c cut) in
      let quiet : of_thread first.sooner c.thread ≡ [] = none_of_holder image (before ++ c ∷ []) first.sooner (d ∷ first.later) at.to rules.last c.thread lock (subst (λ l. TellsAfter image (before ++ c ∷ []) at.to l rules.last) first.place at.rest) held first.none in
      let rule = rule_here limits (before ++ c ∷ first.sooner) first.later d lock ((place_of (before ++ c ∷ first.sooner) d first.later there).rules lock known) first.passes in
      let same = cut_goes_on lock limits.batch (of_lock (before ++ c ∷ first.sooner) lock) c d (last_there (λ x. has x.held lock) before c first.sooner has_c first.none) cut rule.0 in
      record {
        between = first.sooner;
        later = first.later;
        place = there;
        rest = first.place;
        held = first.passes;
        others = first.more;
        worker = still first.sooner first.later quiet there same;
        none = runs first.sooner first.later quiet there (of_worker first.sooner c.worker) refl;
      }
    where
      still : (between later : List Block) → of_thread between c.thread ≡ [] → h ≡ (before ++ c ∷ between) ++ d ∷ later → d.thread ≡ c.thread → d.worker ≡ c.worker
      still between later quiet there same =
          let is_its : Block → Bool = λ x. x.thread == c.thread in
          subst (λ o. IsStillAt o d) (last_there is_its before c between (eq_self c.thread) quiet)
          (stands_behind IsStillAt is_its h (before ++ c ∷ between) d later (delegates.stays c.thread) there (ap (λ t. t == c.thread) same ∙ eq_self c.thread)) cut

      runs : (between later : List Block) → of_thread between c.thread ≡ [] → h ≡ (before ++ c ∷ between) ++ d ∷ later → (its : List Block) → of_worker between c.worker ≡ its → of_worker between c.worker ≡ []
      runs between later quiet there [] e = e
      runs between later quiet there (f ∷ fs) e =
          let is_its : Block → Bool = λ x. x.worker == c.worker in
          let first = first_is is_its between f fs e in
          let here : h ≡ (before ++ c ∷ first.sooner) ++ f ∷ (first.later ++ d ∷ later) =
          there ∙ ap (λ l. (before ++ c ∷ l) ++ d ∷ later) first.place ∙ ap (λ l. l ++ d ∷ later) (sym (append_assoc before (c ∷ first.sooner) (f ∷ first.later))) ∙ append_assoc (before ++ c ∷ first.sooner) (f ∷ first.later) (d ∷ later) in
          let same : f.thread ≡ c.thread = subst (λ o. IsRunOn o f) (last_there is_its before c first.sooner (eq_self c.worker) first.none)
          (stands_behind IsRunOn is_its h (before ++ c ∷ first.sooner) f (first.later ++ d ∷ later) (delegates.runs_on c.worker) here first.passes) cut in
          absurd (let not_there = not_in_none (λ x. x.thread == c.thread) first.sooner f first.later (ap (λ l. of_thread l c.thread) (sym first.place) ∙ quiet) in
          let is : (f.thread == c.thread) ≡ true = ap (λ t. t == c.thread) same ∙ eq_self c.thread in cc)

  run_of_blocks : (section rest before : List Block) (c : Block) (after : List Block) (lock : ℕ) → h ≡ before ++ c ∷ after → lock < length image.guards → has c.held lock ≡ true → of_lock (c ∷ after) lock ≡ section ++ rest → IsCutUp section
      → BeginsWith section (of_worker (c ∷ after) c.worker)
  run_of_blocks [] rest before c after lock place known has_c blocks cut = record { more = of_worker (c ∷ after) c.worker; whole = refl }
  run_of_blocks (x ∷ []) rest before c after lock place known has_c blocks cut =
      let same : c ∷ of_lock after lock ≡ x ∷ rest = sym (with_it (λ y. has y.held lock) c after has_c) ∙ blocks in
      let head : c ≡ x = cc in
      record { more = of_worker after c.worker; whole = with_it (λ y. y.worker == c.worker) c after (eq_self c.worker) ∙ ap (λ y. y ∷ of_worker after c.worker) head }
  run_of_blocks (x ∷ d ∷ ds) rest before c after lock place known has_c blocks cut =
      let same : c ∷ of_lock after lock ≡ x ∷ d ∷ (ds ++ rest) = sym (with_it (λ y. has y.held lock) c after has_c) ∙ blocks in
      let head : c ≡ x = cc in
      let tail : of_lock after lock ≡ d ∷ (ds ++ rest) = cc in
      let on = goes before c after lock d (ds ++ rest) place known has_c (ap (λ (y : Block). y.end) head ∙ cut.0) tail in
      let deeper = run_of_blocks (d ∷ ds) rest (before ++ c ∷ on.between) d on.later lock on.place known on.held (with_it (λ y. has y.held lock) d on.later on.held ∙ ap (λ l. d ∷ l) on.others) cut.1 in
      record {
        more = deeper.more;
        whole = with_it (λ y. y.worker == c.worker) c after (eq_self c.worker)
            ∙ (λ i. head i ∷ (ap (λ l. of_worker l c.worker) on.rest ∙ behind_none (λ y. y.worker == c.worker) on.between (d ∷ on.later) on.none ∙ ap (of_worker (d ∷ on.later)) (sym on.worker) ∙ deeper.whole) i);
      }

  pub unbroken : (before after section : List Block) (lock : ℕ) (b : Block) → h ≡ before ++ b ∷ after → begins lock b ≡ true → BeginsWith section (of_lock (b ∷ after) lock) → IsCutUp section → BeginsWith section (of_worker (b ∷ after) b.worker)
  unbroken before after section lock b place begin front cut = (let known = begun before b after lock place begin in run_of_blocks section front.more before b after lock place known.0 known.1 front.whole cut)
