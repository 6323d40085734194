-- What a pass knows of a line, call by call, and what a package shows of it.
use Rattle.std.proofs.Common.{◌≡◌, ◌≢◌, ℕ, ◌==◌, ◌<◌, ◌≤◌, Bool, true, false, not, ◌&&◌, ◌||◌, if◌then◌else◌, List, [], ◌∷◌, ◌++◌, length, get_or, refl, sym, ap, ◌∙◌, subst, ⊎_elim, arith, Option, Some, None, eq-eqb, get_or-set_same, get_or-set_other, ne_eqb}
use Rattle.std.specs.Prelude.{is_some, slice_get, slice_index_or}
use Rattle.std.proofs.lemmas.List.{get_or_past}
use Rattle.std.proofs.lemmas.List.FromFn.{get_or-map-range_with_len, length-map-range_with_len}
use Rattle.std.proofs.lemmas.Option.{slice_get_cases}
use Rattle.tc_hall.proofs.Vocabulary.{Block, DidRun, Grant, Knows, LockView, PackageView, PassCall, Place, Shown, Turn, claim_call, has, lock_in, locked_in, next_lock, option_map, place_of, put_call, sealed_as, sealed_block, thread_in, with_journal, with_seal}
use Rattle.tc_journal.specs.Batch.{ends_section}
use Rattle.tc_journal.specs.declared.block.Kind.{Kind}
use Rattle.tc_journal.proofs.Lists.{get-set_same, get-set_other}
use Rattle.tc_mutex_spec.specs.Blocks.{locks_of_block}
use Rattle.tc_context.specs.Locks.{slot_of}
use Rattle.tc_context.specs.View.{EndsWith, IsAfter, IsLeft, IsSoundPackage, MayTake, granted_lock, kind_of, number_in, with_grant}
use Rattle.tc_context.specs.Whole.{set_of}
use Rattle.tc_context.proofs.Moved.{some_map}
use Rattle.tc_context.proofs.Partway.{block_inside}
use Rattle.tc_context.proofs.Running.{sealed_at}
use Rattle.tc_context.proofs.Staging.{some_of}
use Rattle.tc_hall.specs.declared.board.Given.{Given}
use Rattle.tc_hall.specs.declared.board.PassCall.TheVariants.{Commit}
use Rattle.tc_hall.specs.Rule.{IsOwn}
use Rattle.tc_hall.specs.Steps.{came_with, given_of, kind_passed}
use Rattle.tc_hall.specs.Standing.{Standing, away, entered, granted, held, loose, followed, closed, IsRunAs, SealsAs, is_of, kind_at, past, past_block, past_claim, past_put, past_section, past_waiting, stand_from, stand_if, stand_in, standing_of, stands_in, turn_by, turn_in, turns_from, turns_of, turns_past, without_turn}
use Rattle.tc_hall.proofs.Cases.{none_of, some_or_none}

-- ---- call by call

pub stand_more : (i : ℕ) (xs ys : List PassCall) (s : Standing) → stand_from i (xs ++ ys) s ≡ stand_from i ys (stand_from i xs s)
stand_more i [] ys s = refl
stand_more i (c ∷ xs) ys s = stand_more i xs ys (past i c s)

pub standing_last : (i : ℕ) (cs : List PassCall) (c : PassCall) → standing_of i (cs ++ c ∷ []) ≡ past i c (standing_of i cs)
standing_last i cs c = stand_more i cs (c ∷ []) away

turns_more : (t : ℕ) (xs ys : List PassCall) (n : ℕ) → turns_from t (xs ++ ys) n ≡ turns_from t ys (turns_from t xs n)
turns_more t [] ys n = refl
turns_more t (c ∷ xs) ys n = turns_more t xs ys (turns_past t c n)

pub turns_last : (t : ℕ) (cs : List PassCall) (c : PassCall) → turns_of t (cs ++ c ∷ []) ≡ turns_past t c (turns_of t cs)
turns_last t cs c = turns_more t cs (c ∷ []) 0

-- ---- a package that is claimed

abbrev number_at : PackageView → ℕ → Option ℕ
number_at q i = option_map (λ (l : LockView). number_in q i) (lock_in q.context.locks i)

pub came_at : (q : PackageView) (i : ℕ) → slice_index_or (came_with q) i None ≡ option_map (λ (l : LockView). number_in q i) (locked_in q i)
came_at q i = ⊎_elim
    (λ (z : (x : Option LockView) × (i < length q.context.locks) × (slice_get q.context.locks i ≡ Some x) × (get_or q.context.locks i x ≡ x)). get_or-map-range_with_len (number_at q) 0 (length q.context.locks) i i None z.1 (omega arith))
    (λ (z : (length q.context.locks ≤ i) × (slice_get q.context.locks i ≡ None)).
    let long = length-map-range_with_len (number_at q) 0 (length q.context.locks) in
    let far = z.0 in
    get_or_past (came_with q) i None (omega (arith, long, far)) ∙ sym (ap (λ (o : Option (Option LockView)). option_map (λ (l : LockView). number_in q i) (slot_of o)) z.1))
    (slice_get_cases q.context.locks i).1

-- a lock that was granted is named so
kind_some : (g : Given) (i : ℕ) → g.lock ≡ i → kind_at i (Some g) ≡ Some g.kind
kind_some g i e = ap (λ (b : Bool). if b then Some g.kind else None) (eq-eqb g.lock i e)

pub not_named : (q : PackageView) (i : ℕ) (o : Option Grant) → granted_lock o ≡ Some i → kind_at i (option_map (λ (g : Grant). record { lock = g.lock; kind = g.kind; number = number_in q g.lock }) o) ≡ None → ⊥
not_named q i None e none = absurd (cc e)
not_named q i (Some g) e none = (let named = kind_some (record { lock = g.lock; kind = g.kind; number = number_in q g.lock }) i (let same : g.lock ≡ i = cc e in same) in let n : ⊥ = cc (named, none) in n)

-- what is in a package, and was not granted, is held
pub own_held : (q : PackageView) (i : ℕ) → IsOwn q i → kind_at i (given_of q) ≡ None → has q.context.guest.held i ≡ true
own_held q i own none = ⊎_elim (λ (h : has q.context.guest.held i ≡ true). h) (λ (g : granted_lock q.granted ≡ Some i). absurd (not_named q i q.granted g none)) own

stands_own : (u : Turn) (holds : Bool) (o : Option Kind) → (o ≡ None → holds ≡ true) → stands_in u true o ≡ stands_in u holds o
stands_own u true o is = refl
stands_own u false (Some kind) is = refl
stands_own u false None is = (let f = is refl in let n : ⊥ = cc f in absurd n)

-- what is in a package has not only entered
pub stands_settled : (u w : Turn) (holds : Bool) (o : Option Kind) (before : Option Turn) → stands_in u holds o ≡ entered w before → ⊥
stands_settled u w holds (Some kind) before e = cc e
stands_settled u w true None before e = cc e
stands_settled u w false None before e = cc e

pub shows_some : (q : PackageView) (i : ℕ) (l : LockView) → locked_in q i ≡ Some l → stand_in q i ≡ stands_in (turn_in q i) (has q.context.guest.held i) (kind_at i (given_of q))
shows_some q i l e = ap (λ (o : Option LockView). stand_if o (stands_in (turn_in q i) (has q.context.guest.held i) (kind_at i (given_of q)))) e

pub shows_none : (q : PackageView) (i : ℕ) → locked_in q i ≡ None → stand_in q i ≡ away
shows_none q i e = ap (λ (o : Option LockView). stand_if o (stands_in (turn_in q i) (has q.context.guest.held i) (kind_at i (given_of q)))) e

-- it stands as it shows, where it has the lock
pub claimed_in : (v : Knows) (q : PackageView) (word i : ℕ) (l : LockView) (s : Standing) → locked_in q i ≡ Some l → IsOwn q i → past i (claim_call v q word) s ≡ stand_in q i
claimed_in v q word i l s e own =
    ap (λ (o : Option ℕ). past_claim i q.context.thread (place_of word) o (given_of q) (kind_passed v (place_of word)) s) (came_at q i ∙ ap (option_map (λ (l : LockView). number_in q i)) e)
    ∙ (stands_own (turn_in q i) (has q.context.guest.held i) (kind_at i (given_of q)) (own_held q i own) ∙ sym (shows_some q i l e))

-- where it has not, only what it waits for changes
pub claimed_out : (v : Knows) (q : PackageView) (word i : ℕ) (s : Standing) → locked_in q i ≡ None → past i (claim_call v q word) s ≡ past_waiting i (place_of word) (kind_passed v (place_of word)) s
claimed_out v q word i s e = ap (λ (o : Option ℕ). past_claim i q.context.thread (place_of word) o (given_of q) (kind_passed v (place_of word)) s) (came_at q i ∙ ap (option_map (λ (l : LockView). number_in q i)) e)

-- ---- a package that is put

turn_gone : (t : ℕ) (u : Turn) (s : Standing) → u.thread ≡ t → without_turn t u s ≡ away
turn_gone t u s e = ap (λ (b : Bool). if b then away else s) (eq-eqb u.thread t e)

turn_stays : (t : ℕ) (u : Turn) (s : Standing) → (u.thread == t) ≡ false → without_turn t u s ≡ s
turn_stays t u s e = ap (λ (b : Bool). if b then away else s) e

put_own : (t : ℕ) (u : Turn) (holds : Bool) (o : Option Kind) → u.thread ≡ t → (o ≡ None → holds ≡ true) → past_put t (stands_in u holds o) ≡ away
put_own t u holds (Some kind) e is = turn_gone t u (granted u kind) e
put_own t u true None e is = turn_gone t u (held u) e
put_own t u false None e is = (let f = is refl in let n : ⊥ = cc f in absurd n)

-- then it stands nowhere
pub put_in : (q : PackageView) (place : Place) (i : ℕ) (l : LockView) → locked_in q i ≡ Some l → IsOwn q i → past i (put_call q place) (stand_in q i) ≡ away
put_in q place i l e own = ap (past_put q.context.thread) (shows_some q i l e) ∙ put_own q.context.thread (turn_in q i) (has q.context.guest.held i) (kind_at i (given_of q)) refl (own_held q i own)

-- and another thread as it did
pub put_else : (q : PackageView) (place : Place) (i : ℕ) (s : Standing) → is_of q.context.thread s ≡ false → past i (put_call q place) s ≡ s
put_else q place i away e = refl
put_else q place i (entered u before) e = turn_stays q.context.thread u (entered u before) e
put_else q place i (granted u kind) e = turn_stays q.context.thread u (granted u kind) e
put_else q place i (held u) e = turn_stays q.context.thread u (held u) e
put_else q place i (loose u) e = refl
put_else q place i (followed u behind) e = refl
put_else q place i (closed u) e = refl

-- ---- a package whose block is sealed

block_own : (i : ℕ) (b : Block) (u : Turn) (holds : Bool) (o : Option Kind) → (o ≡ None → holds ≡ true) → past_block i b (stands_in u holds o) ≡ past_section (ends_section i b) u
block_own i b u holds (Some kind) is = refl
block_own i b u true None is = refl
block_own i b u false None is = (let f = is refl in let n : ⊥ = cc f in absurd n)

section_is : (u : Turn) (ends : Bool) → stands_in u (not ends) None ≡ past_section ends u
section_is u true = refl
section_is u false = refl

stays_away : (b : Bool) → (if b then away else away) ≡ away
stays_away true = refl
stays_away false = refl

run_own : (b : Block) (u : Turn) (holds : Bool) (o : Option Kind) → (o ≡ None → holds ≡ true) → ((kind : Kind) → o ≡ Some kind → b.kind ≡ kind) → u.thread ≡ b.thread → IsRunAs b (stands_in u holds o)
run_own b u holds (Some kind) is same thread = (thread, same kind refl)
run_own b u true None is same thread = thread
run_own b u false None is same thread = (let f = is refl in let n : ⊥ = cc f in absurd n)

module _ (image : Shown) (p q : PackageView) (of : p.image ≡ image) (sound : IsSoundPackage p) (ran : DidRun image p q) (own : (j : ℕ) (l : LockView) → locked_in p j ≡ Some l → IsOwn p j) where
  -- the next lock is the one that was granted
  next_granted : (i : ℕ) (o : Option Grant) → MayTake p.image p.context o → granted_lock o ≡ Some i → next_lock image (thread_in p.context) ≡ Some i
  next_granted i None may e = absurd (cc e)
  next_granted i (Some g) may e = ap (λ (x : Shown). next_lock x (thread_in p.context)) (sym of) ∙ (may.next ∙ e)

  held_one : (i : ℕ) (o : Option ℕ) → has p.context.guest.held i ≡ true → locks_of_block (has p.context.guest.held) o i ≡ true
  held_one i None h = h
  held_one i (Some k) h = or_true (i == k) (has p.context.guest.held i) h
    where
      or_true : (a b : Bool) → b ≡ true → (a || b) ≡ true
      or_true true b h = refl
      or_true false b h = h

  next_one : (i : ℕ) (o : Option ℕ) → o ≡ Some i → locks_of_block (has p.context.guest.held) o i ≡ true
  next_one i None e = absurd (cc e)
  next_one i (Some k) e = ap (λ (b : Bool). b || has p.context.guest.held i) (eq-eqb i k (let same : i ≡ k = cc e in same))

  -- each lock of it is of the block
  of_block : (i : ℕ) (l : LockView) → locked_in p i ≡ Some l → has ran.block.held i ≡ true
  of_block i l e = ran.held i ∙ ⊎_elim
      (λ (h : has p.context.guest.held i ≡ true). held_one i (next_lock image (thread_in p.context)) h)
      (λ (g : granted_lock p.granted ≡ Some i). next_one i (next_lock image (thread_in p.context)) (next_granted i p.granted sound.grant g))
      (own i l e)

  granted_kind : (i : ℕ) (o : Option Grant) (kind : Kind) → ran.block.kind ≡ kind_of o p.log → kind_at i (option_map (λ (g : Grant). record { lock = g.lock; kind = g.kind; number = number_in p g.lock }) o) ≡ Some kind → ran.block.kind ≡ kind
  granted_kind i None kind is e = absurd (cc e)
  granted_kind i (Some g) kind is e = by (g.lock == i) e
    where
      by : (b : Bool) → (if b then Some g.kind else None) ≡ Some kind → ran.block.kind ≡ kind
      by true e = is ∙ (let same : g.kind ≡ kind = cc e in same)
      by false e = absurd (cc e)

  -- the block may be sealed, where the pass stands as the package showed before it
  pub seals_as : (v : Knows) → ((i : ℕ) → standing_of i v.calls ≡ stand_in p i) → SealsAs v ran.block
  seals_as v stands i h =
      let there = some_of (lock_in p.context.locks i) (block_inside image (set_of p.context) (thread_in p.context) ran.covers i (sym (ran.held i) ∙ h)) in
      let mine = own_held p i (own i there.0 there.1) in
      subst (IsRunAs ran.block) (sym (stands i ∙ shows_some p i there.0 there.1))
      (run_own ran.block (turn_in p i) (has p.context.guest.held i) (kind_at i (given_of p)) mine (λ kind e. granted_kind i p.granted kind ran.kind e) (sym ran.thread))

  -- how the thread is after it
  after_it : IsAfter q.image q.context ran.block
  after_it = subst (IsLeft q.image q.context) (subst (EndsWith q.log) ran.pending ran.sound.log) ran.sound.left

  module _ (stamp worker i : ℕ) where
    abbrev sealed : PackageView
    sealed = with_seal stamp worker q

    abbrev b : Block
    b = sealed_block stamp worker ran.block

    set_is : is_some (locked_in sealed i) ≡ is_some (locked_in p i)
    set_is = ap is_some (sealed_at stamp worker q.context.locks i) ∙ (some_map (with_journal (sealed_as stamp worker)) (lock_in q.context.locks i) ∙ ran.runs.keeps.set i)

    shown_after : (l : LockView) → locked_in p i ≡ Some l → stand_in sealed i ≡ past_section (ends_section i ran.block) (turn_in p i)
    shown_after l e =
        let there = some_of (locked_in sealed i) (set_is ∙ ap is_some e) in
        let holds : has q.context.guest.held i ≡ not (ends_section i ran.block) = after_it.held i ∙ ap (λ (b : Bool). b && not (ends_section i ran.block)) (of_block i l e) in
        let none : kind_at i (given_of sealed) ≡ None = ap (λ (o : Option Grant). kind_at i (option_map (λ (g : Grant). record { lock = g.lock; kind = g.kind; number = number_in q g.lock }) o)) ran.granted in
        shows_some sealed i there.0 there.1
        ∙ ((λ j. stands_in (turn_by (ran.runs.keeps.thread j) (slice_index_or (ran.numbers j) i 0)) (holds j) (none j)) ∙ section_is (turn_in p i) (ends_section i ran.block))

    sealed_one : (l : LockView) → locked_in p i ≡ Some l → past i (Commit q.context.thread b) (stand_in p i) ≡ stand_in sealed i
    sealed_one l e =
        ap (λ (x : Bool). if x then past_block i b (stand_in p i) else stand_in p i) (of_block i l e)
        ∙ (ap (past_block i b) (shows_some p i l e)
        ∙ (block_own i b (turn_in p i) (has p.context.guest.held i) (kind_at i (given_of p)) (own_held p i (own i l e)) ∙ sym (shown_after l e)))

    sealed_none : locked_in p i ≡ None → past i (Commit q.context.thread b) (stand_in p i) ≡ stand_in sealed i
    sealed_none e =
        let gone : locked_in sealed i ≡ None = none_of (locked_in sealed i) (λ l g. let f : true ≡ false = sym (ap is_some g) ∙ (set_is ∙ ap is_some e) in let n : ⊥ = cc f in n) in
        ap (λ (s : Standing). if has ran.block.held i then past_block i b s else s) (shows_none p i e) ∙ (stays_away (has ran.block.held i) ∙ sym (shows_none sealed i gone))

    -- and then it stands as the package shows
    pub sealed_in : past i (Commit q.context.thread b) (stand_in p i) ≡ stand_in sealed i
    sealed_in = ⊎_elim (λ (z : (l : LockView) × (locked_in p i ≡ Some l)). sealed_one z.0 z.1) (λ none. sealed_none none) (some_or_none (locked_in p i))

-- ---- a lock that is granted

granted_here : (q : PackageView) (l : LockView) (kind : Kind) (n i : ℕ) → l.number < length q.context.locks → l.number < length q.numbers → i ≡ l.number → stand_in (with_grant l kind n q) i ≡ granted (turn_by q.context.thread n) kind
granted_here q l kind n i room places is =
    let r = with_grant l kind n q in
    let here : locked_in r l.number ≡ Some l = ap slot_of (get-set_same q.context.locks l.number (Some l) room) in
    let number : number_in r l.number ≡ n = get_or-set_same q.numbers l.number n 0 places in
    ap (stand_in r) is
    ∙ (shows_some r l.number l here ∙ (λ j. stands_in (turn_by q.context.thread (number j)) (has q.context.guest.held l.number) (kind_some (record { lock = l.number; kind = kind; number = number_in r l.number }) l.number refl j)))

granted_else : (q : PackageView) (l : LockView) (kind : Kind) (n i : ℕ) → q.granted ≡ None → i ≢ l.number → stand_in (with_grant l kind n q) i ≡ stand_in q i
granted_else q l kind n i none ne =
    let r = with_grant l kind n q in
    let lock : locked_in r i ≡ locked_in q i = ap slot_of (get-set_other q.context.locks l.number i (Some l) ne) in
    let number : number_in r i ≡ number_in q i = get_or-set_other q.numbers l.number i n 0 ne in
    let new : kind_at i (given_of r) ≡ None = ap (λ (b : Bool). if b then Some kind else None) (ne_eqb l.number i (λ e. ne (sym e))) in
    let old : kind_at i (given_of q) ≡ None = ap (λ (o : Option Grant). kind_at i (option_map (λ (g : Grant). record { lock = g.lock; kind = g.kind; number = number_in q g.lock }) o)) none in
    λ j. stand_if (lock j) (stands_in (turn_by q.context.thread (number j)) (has q.context.guest.held i) ((new ∙ sym old) j))
