-- Who has what: what a hall that shows a machine says of its passes, and what an order without a stop says of their lists.
use Rattle.std.proofs.Common.{◌≡◌, ℕ, zero, suc, ◌+◌, ◌*◌, ◌⊎◌, inl, inr, ◌<◌, ◌≤◌, ◌||◌, ◌==◌, Bool, true, false, if◌then◌else◌, List, [], ◌∷◌, ◌++◌, set, slice_index, get_or-set_other, arith, refl, sym, ap, ◌∙◌, subst, ⊎_elim, eqb-true, Option, Some, None}
use mathlib.Core.Option as maybe
use mathlib.Core.Option.{some, some-injective, some-ne-none}
use mathlib.Core.Logic.{dite}
use native.Mathlib.Decide.{ℕ_discrete}
use lib.ListN.{get_elem?}
use lib.Seq.{set-get_or}
use Rattle.std.proofs.lemmas.List.{get_or-replicate}
use Rattle.std.proofs.lemmas.Nat.{mul-le}
use Rattle.tc_journal.specs.declared.block.Block.{Block}
use Rattle.tc_journal.specs.Batch.{is_adopted, last_of, may_adopt, run_of}
use Rattle.tc_journal.specs.History.{of_lock}
use Rattle.tc_journal.specs.declared.block.Kind.TheVariants.{Adopted}
use Rattle.tc_journal.specs.declared.block.Kind.TheVariants as kind
use Rattle.tc_mutex_spec.specs.Machine.{State, start}
use Rattle.tc_segment.specs.View.{LockView, blocks_of, kept, sealed_block}
use Rattle.tc_context.specs.View.{PackageView}
use Rattle.tc_context.specs.declared.package.TheConstants.{MAX_NUMBER}
use Rattle.tc_queue.specs.declared.turn.Turn.{Turn}
use Rattle.tc_queue.specs.declared.turn.Entered.TheVariants.{Behind}
use Rattle.tc_queue.specs.declared.turn.Leave.TheVariants.{Left, Followed}
use Rattle.tc_queue.specs.declared.turn.QueueCall.{QueueCall}
use Rattle.tc_queue.specs.declared.turn.QueueCall.TheVariants.{Enter as Did_enter, Link as Did_link, Next as Did_ask, Leave as Did_leave}
use Rattle.tc_queue.specs.Calls.{MayLink}
use Rattle.tc_core.specs.Core.{Core}
use Rattle.tc_core.specs.declared.place.Custody.{Custody}
use Rattle.tc_core.specs.declared.place.ThreadPlace.{ThreadPlace}
use Rattle.tc_core.specs.declared.place.ThreadPlace.TheVariants.{At}
use Rattle.tc_core.specs.declared.place.LockPlace.{LockPlace}
use Rattle.tc_core.specs.declared.place.LockPlace.TheVariants.{Loose, With, Granted}
use Rattle.tc_core.specs.declared.place.LockPlace.TheVariants as place
use Rattle.tc_core.specs.Lines.{is_first}
use Rattle.tc_core.specs.Events.{adopts, is_adoptable}
use Rattle.tc_core.specs.Alive.{work_of}
use Rattle.tc_core.specs.declared.event.Event.{Event}
use Rattle.tc_core.specs.declared.event.Event.TheVariants.{Enter, Leave}
use Rattle.tc_core.proofs.Work.{is_bounded}
use Rattle.tc_core.proofs.Standing.{Stands, first_stands, stands_all}
use Rattle.tc_told.specs.Written.{first_written}
use Rattle.tc_told.proofs.Adopters.{core_after as core_after_all}
use Rattle.tc_told.proofs.Ruled.{Ruled}
use Rattle.tc_told.proofs.Standing.{IsLockAt, IsReleased, Once, Rule, Stand, stand_of}
use Rattle.tc_hall.specs.declared.board.HallTerms.{HallTerms}
use Rattle.tc_hall.specs.declared.board.Knows.{Knows}
use Rattle.tc_hall.specs.declared.board.TheConstants.{CLOCK, STOP}
use Rattle.tc_hall.specs.declared.board.Cargo.TheVariants.{Lock}
use Rattle.tc_hall.specs.declared.board.PassCall.{PassCall}
use Rattle.tc_hall.specs.declared.board.PassCall.TheVariants.{Line, Take, Commit, Free, Look, Stopped, Stop}
use Rattle.tc_hall.specs.Places.{slot_word}
use Rattle.tc_hall.specs.Rule.{Has, HasLock, IsLockOut, KeptHall, LiesLock, Spot, home, inside, out, locks, threads, words_of}
use Rattle.tc_hall.specs.Lines.{line_word, lines_of}
use Rattle.tc_hall.specs.Steps.{HasStop, made, seen, IsFree, claim_call, passed_after, passed_kind, put_call}
use Rattle.tc_hall.specs.Standing.{IfLined, Standing, away, closed, entered, followed, granted, held, loose as let_go, standing_of}
use Rattle.tc_hall.specs.Effects.{Hall}
use Rattle.tc_hall.specs.Order.{Operation, claim, take, miss, commit, put, free, line, look, stop, stopped, reach, lay, split, join, Made, MayDo, IsLegal, IsOpening, IsOrdered, ShowsLine, after_operation, hall_after, noted, notes_of, plain_of}
use Rattle.tc_hall.specs.Outline.{Lying, at_home, in_hand, packed, lies_at, lies_with}
use Rattle.tc_hall.specs.Shown.{LockAt, lock_in_slot, lock_in_package, lock_with_pass, place_shown}
use Rattle.tc_hall.specs.Ties.{Shows, is_with, machine_limits}
use Rattle.tc_hall.specs.Lift.{Beat, operation, IsLifted, core_after, events_of, hall_of, start_of}
use Rattle.tc_hall.proofs.Exact.{line_words}
use Rattle.tc_hall.proofs.Lifting.{lifting}
use Rattle.tc_hall.proofs.Ordering.{kept_by}
use Rattle.tc_hall.proofs.Moves.{is_out}
use Rattle.tc_hall.proofs.Parts.{parts}
use Rattle.tc_hall.proofs.Taking.{has_live}
use Rattle.tc_hall.proofs.Shows as shows
use Rattle.tc_lemmas.proofs.Lists.{something_at}
use Rattle.tc_run.specs.Run.{beat_of, before_stop, beats_of, events_at, events_in, has_stop, is_stop, line_beats, threads_of}
use Rattle.tc_told.proofs.Conversely.{first_ruled, ruled_all}
use Rattle.tc_run.proofs.Agree.{Agrees, HasCome, Live, Run, core_at, custody_at, entries_by, has_lock, is_entry, thread_of, hall_at, line_at, written_at}
use Rattle.tc_hall.proofs.Words.{line_behind}

-- ---- an order without a stop

pub before_legal : (k : HallTerms) (first : Hall) (order : List Made) → IsLegal k first order → IsLegal k first (before_stop order)
before_legal k first [] legal = tt
before_legal k first (m ∷ before) legal = by (before_legal k first before legal.1) (has_stop (m ∷ before))
  where
    by : IsLegal k first (before_stop before) → (b : Bool) → IsLegal k first (if b then before_stop before else m ∷ before)
    by was true = was
    by was false = legal

pub before_none : (order : List Made) → has_stop (before_stop order) ≡ false
before_none [] = refl
before_none (m ∷ before) = by (before_none before) (has_stop (m ∷ before)) refl
  where
    by : has_stop (before_stop before) ≡ false → (b : Bool) → has_stop (m ∷ before) ≡ b → has_stop (if b then before_stop before else m ∷ before) ≡ false
    by was true is = was
    by was false is = is

pub set_stays : (ws : List ℕ) (w found word : ℕ) → slice_index ws w ≡ found → slice_index (set ws w found) word ≡ slice_index ws word
set_stays ws w found word at = subst (λ (z : ℕ). slice_index (set ws w z) word ≡ slice_index ws word) at (ap (λ (z : List ℕ). slice_index z word) (set-get_or ws w 0))

-- the stop word stays as it is but at a stop
stop_stays : (k : HallTerms) (s : Hall) (id : ℕ) (v : Knows) (o : Operation) → is_stop o ≡ false → MayDo k s id v o → slice_index (after_operation k s id v o).words STOP ≡ slice_index s.words STOP
stop_stays k s id v (claim t word q) goes may = get_or-set_other s.words (slot_word t) STOP _ 0 (λ e. omega arith)
stop_stays k s id v (take i l) goes may = get_or-set_other s.words (slot_word (threads k + i)) STOP _ 0 (λ e. omega arith)
stop_stays k s id v (miss word wanted found) goes may = set_stays s.words word found STOP may.0
stop_stays k s id v (commit stamp b q) goes may = get_or-set_other s.words CLOCK STOP _ 0 (λ e. omega arith)
stop_stays k s id v (put q place) goes may = get_or-set_other s.words (slot_word q.context.thread) STOP _ 0 (λ e. omega arith)
stop_stays k s id v (free l) goes may = get_or-set_other s.words (slot_word (threads k + l.number)) STOP _ 0 (λ e. omega arith)
stop_stays k s id v (look t found) goes may = set_stays s.words (slot_word t) found STOP may.1
stop_stays k s id v stop goes may = absurd (cc goes)
stop_stays k s id v (stopped found) goes may = set_stays s.words STOP found STOP may
stop_stays k s id v (line i c) goes may = (let b = line_behind k i c in get_or-set_other s.words (line_word k i c) STOP _ 0 (λ e. omega arith))
stop_stays k s id v (reach slot) goes may = set_stays s.words (slot_word slot) _ STOP refl
stop_stays k s id v (lay slot) goes may = set_stays s.words (slot_word slot) _ STOP refl
stop_stays k s id v split goes may = refl
stop_stays k s id v (join other w) goes may = refl

pub no_first : (a b : Bool) → (a || b) ≡ false → (a ≡ false) × (b ≡ false)
no_first true b e = absurd (cc e)
no_first false b e = (refl, e)

-- so it is 0 where there was no stop: a pass that is spent may have made one, of which the notes of the live ones say nothing
stop_word : (k : HallTerms) (first : Hall) → IsOpening k first → (order : List Made) → IsLegal k first order → has_stop order ≡ false → slice_index (hall_after k first order).words STOP ≡ 0
stop_word k first opens [] legal none = subst (λ (z : Hall). slice_index z.words STOP ≡ 0) (sym opens.is) (get_or-replicate (words_of k) STOP 0 0 (omega arith))
stop_word k first opens (m ∷ before) legal none =
    let n = no_first (has_stop before) (is_stop m.operation) none in
    stop_stays k (hall_after k first before) m.pass m.knew m.operation n.1 legal.0.may ∙ stop_word k first opens before legal.1 n.0

pub none_stopped : (k : HallTerms) (r : Run k) (id : ℕ) (v : Knows) → get_elem? (hall_at k r).views id ≡ some v → HasStop v → ⊥
none_stopped k r id v at did = by did
  where
    never : slice_index (hall_at k r).words STOP ≡ 1 → ⊥
    never is = (let n : 0 ≡ 1 = sym (stop_word k r.first r.opens r.order r.legal r.unstopped) ∙ is in absurd (cc n))

    by : HasStop v → ⊥
    by (made i e) = never (((kept_by k r.first r.opens r.order r.legal).passes id v at).stop i e)
    by (seen i e) = never (((kept_by k r.first r.opens r.order r.legal).passes id v at).stopped i e)

pub asked : (k : HallTerms) (r : Run k) (id : ℕ) (v : Knows) (P : Type 0) → get_elem? (hall_at k r).views id ≡ some v → IfLined k v P → P
asked k r id v P at asks = ⊎_elim (λ (did : HasStop v). absurd (none_stopped k r id v at did)) (λ (p : P). p) (asks r.lined)

-- ---- the calls of a pass are of the order

abbrev IsCall : List PassCall → ℕ → QueueCall → Type 0
IsCall cs i c = (n : ℕ) × (get_elem? cs n ≡ some (Line i c))

abbrev WasMade : List Made → ℕ → QueueCall → Type 0
WasMade order i c = (n : ℕ) × (m : Made) × (get_elem? order n ≡ some m) × (m.operation ≡ line i c)

line_same : (i j : ℕ) (c d : QueueCall) → j ≡ i → d ≡ c → Line j d ≡ Line i c
line_same i j c d e f = cc

lines_in : (i : ℕ) (cs : List PassCall) (n : ℕ) (c : QueueCall) → get_elem? (lines_of i cs) n ≡ some c → IsCall cs i c
lines_in i [] n c e = absurd (some-ne-none c (sym e))
lines_in i (Line j d ∷ cs) n c e = by (λ m h. lines_in i cs m c h) (j == i) refl n e
  where
    by : ((m : ℕ) → get_elem? (lines_of i cs) m ≡ some c → IsCall cs i c) → (b : Bool) → (j == i) ≡ b → (n : ℕ) → get_elem? (if b then d ∷ lines_of i cs else lines_of i cs) n ≡ some c → IsCall (Line j d ∷ cs) i c
    by later true is zero f = (0, ap (λ (z : PassCall). some z) (line_same i j c d (eqb-true j i is) (some-injective d c f)))
    by later true is (suc n) f = (let r = later n f in (suc r.0, r.1))
    by later false is n f = (let r = later n f in (suc r.0, r.1))
lines_in i (x ∷ cs) n c e = (let r = lines_in i cs n c e in (suc r.0, r.1))

in_both : (cs ds : List PassCall) (x : PassCall) (n : ℕ) → get_elem? (cs ++ ds) n ≡ some x → ((m : ℕ) × (get_elem? cs m ≡ some x)) ⊎ ((m : ℕ) × (get_elem? ds m ≡ some x))
in_both [] ds x n e = inr (n, e)
in_both (c ∷ cs) ds x zero e = inl (0, e)
in_both (c ∷ cs) ds x (suc n) e = ⊎_elim (λ (h : (m : ℕ) × (get_elem? cs m ≡ some x)). inl (suc h.0, h.1)) (λ (h : (m : ℕ) × (get_elem? ds m ≡ some x)). inr h) (in_both cs ds x n e)

only_one : (d x : PassCall) (n : ℕ) → get_elem? (d ∷ []) n ≡ some x → d ≡ x
only_one d x zero e = some-injective d x e
only_one d x (suc n) e = absurd (some-ne-none x (sym e))

abbrev Later : List Made → Type 0 → ℕ → QueueCall → Type 0
Later before New i c = (j n : ℕ) → get_elem? (notes_of before j).calls n ≡ some (Line i c) → New

call_made : (i : ℕ) (c : QueueCall) (order : List Made) (id n : ℕ) → get_elem? (notes_of order id).calls n ≡ some (Line i c) → WasMade order i c
call_made i c [] id n e = absurd (some-ne-none (Line i c) (sym e))
call_made i c (m ∷ before) id n e = by (λ j h f. earlier (call_made i c before j h f)) (m.pass == id) n e
  where
    earlier : WasMade before i c → WasMade (m ∷ before) i c
    earlier h = (suc h.0, h.1, h.2, h.3)

    last : Later before (WasMade (m ∷ before) i c) i c → (d : PassCall) → (d ≡ Line i c → WasMade (m ∷ before) i c) → (n : ℕ) → get_elem? ((notes_of before m.pass).calls ++ d ∷ []) n ≡ some (Line i c) → WasMade (m ∷ before) i c
    last later d new n f =
        ⊎_elim
        (λ (h : (j : ℕ) × (get_elem? (notes_of before m.pass).calls j ≡ some (Line i c))). later m.pass h.0 h.1)
        (λ (h : (j : ℕ) × (get_elem? (d ∷ []) j ≡ some (Line i c))). new (only_one d (Line i c) h.0 h.1))
        (in_both (notes_of before m.pass).calls (d ∷ []) (Line i c) n f)

    here : (j : ℕ) (d : QueueCall) → m.operation ≡ line j d → Line j d ≡ Line i c → WasMade (m ∷ before) i c
    here j d is f = (let same : line j d ≡ line i c = (let a : j ≡ i = cc f in let b : d ≡ c = cc f in cc) in (0, m, refl, is ∙ same))

    of : Later before (WasMade (m ∷ before) i c) i c → (o : Operation) → m.operation ≡ o → (n : ℕ) → get_elem? (noted (notes_of before) m.pass m.knew o).calls n ≡ some (Line i c) → WasMade (m ∷ before) i c
    of later (line j d) is n f = last later (Line j d) (here j d is) n f
    of later (claim t word q) is n f = last later (claim_call m.knew q word) (λ g. absurd (cc g)) n f
    of later (take j l) is n f = last later (Take l.number) (λ g. absurd (cc g)) n f
    of later (commit stamp b q) is n f = last later (Commit q.context.thread (sealed_block stamp m.knew.worker b)) (λ g. absurd (cc g)) n f
    of later (put q place) is n f = last later (put_call q place) (λ g. absurd (cc g)) n f
    of later (free l) is n f = last later (Free l.number) (λ g. absurd (cc g)) n f
    of later (look t found) is n f = last later (Look t found) (λ g. absurd (cc g)) n f
    of later (stopped found) is n f = last later (Stopped found) (λ g. absurd (cc g)) n f
    of later stop is n f = last later Stop (λ g. absurd (cc g)) n f
    of later (miss word wanted found) is n f = later m.pass n f
    of later (reach slot) is n f = later m.pass n f
    of later (lay slot) is n f = later m.pass n f
    of later split is n f = later m.pass n f
    of later (join other w) is n f =
        ⊎_elim
        (λ (h : (j : ℕ) × (get_elem? (notes_of before m.pass).calls j ≡ some (Line i c))). later m.pass h.0 h.1)
        (λ (h : (j : ℕ) × (get_elem? (notes_of before other).calls j ≡ some (Line i c))). later other h.0 h.1)
        (in_both (notes_of before m.pass).calls (notes_of before other).calls (Line i c) n f)

    by : Later before (WasMade (m ∷ before) i c) i c → (b : Bool) → (n : ℕ) → get_elem? (if b then noted (notes_of before) m.pass m.knew m.operation else notes_of before id).calls n ≡ some (Line i c) → WasMade (m ∷ before) i c
    by later true n f = of later m.operation refl n f
    by later false n f = later id n f

-- what a pass may link has entered: its list is of the order
pub come_of : (k : HallTerms) (r : Run k) (id : ℕ) (v : Knows) (i : ℕ) (u b : Turn) → Live k r id v → MayLink (lines_of i v.calls) u b → HasCome r.order i u b
come_of k r id v i u b live may =
    let has = parts k (hall_at k r) record { first = r.first; opens = r.opens; order = r.order; legal = r.legal; is = refl } id v live.pass live.live in
    let c = lines_in i v.calls may.0 (Did_enter u (Behind b)) may.1 in
    call_made i (Did_enter u (Behind b)) r.order id c.0 (subst (λ (z : List PassCall). get_elem? z c.0 ≡ some (Line i (Did_enter u (Behind b)))) has.calls c.1)

-- ---- what is at hand where it agrees

pub same_hall : (k : HallTerms) (first : Hall) (order : List Made) → hall_of k first (beats_of k order) ≡ hall_after k first order
same_hall k first [] = refl
same_hall k first (m ∷ before) = skips m.knew.worker m.operation (operation m (events_at k (core_after k (beats_of k before)) m.knew m.operation) ∷ beats_of k before) ∙ ap (λ (s : Hall). after_operation k s m.pass m.knew m.operation) (same_hall k first before)
  where
    skips_call : (w i : ℕ) (c : QueueCall) (rest : List Beat) → hall_of k first (beat_of w i c ++ rest) ≡ hall_of k first rest
    skips_call w i (Did_enter u e) rest = refl
    skips_call w i (Did_link b u) rest = refl
    skips_call w i (Did_ask u x) rest = refl
    skips_call w i (Did_leave u Left) rest = refl
    skips_call w i (Did_leave u (Followed tail)) rest = refl

    skips : (w : ℕ) (o : Operation) (rest : List Beat) → hall_of k first (line_beats w o ++ rest) ≡ hall_of k first rest
    skips w (line i c) rest = skips_call w i c rest
    skips w (claim t word q) rest = refl
    skips w (take i l) rest = refl
    skips w (miss word wanted found) rest = refl
    skips w (commit stamp b q) rest = refl
    skips w (put q place) rest = refl
    skips w (free l) rest = refl
    skips w (look t found) rest = refl
    skips w stop rest = refl
    skips w (stopped found) rest = refl
    skips w (reach slot) rest = refl
    skips w (lay slot) rest = refl
    skips w split rest = refl
    skips w (join other x) rest = refl

pub core_is : (k : HallTerms) (r : Run k) → (written_at k r).core ≡ core_at k r
core_is k r = core_after_all k.image.value (events_in k r.order) (first_written k.image.value k.fuel)

pub kept_at : (k : HallTerms) (r : Run k) → KeptHall k (hall_at k r)
kept_at k r = kept_by k r.first r.opens r.order r.legal

abbrev pub ordered_at : (k : HallTerms) (r : Run k) → IsOrdered k (hall_at k r)
ordered_at k r = record { first = r.first; opens = r.opens; order = r.order; legal = r.legal; is = refl }

-- the words of a line are those of its calls
pub line_shown : (k : HallTerms) (r : Run k) (i : ℕ) → i < locks k → ShowsLine k i (hall_at k r).words (plain_of i r.order)
line_shown k r i below = line_words k (hall_at k r) (ordered_at k r) i r.lined below

pub lifted_at : (k : HallTerms) (r : Run k) → Agrees k r → IsLifted k r.first (beats_of k r.order)
lifted_at k r a = lifting k r.first r.opens (beats_of k r.order) a.may

pub shown_at : (k : HallTerms) (r : Run k) → Agrees k r → Shows k (hall_at k r) (core_at k r)
shown_at k r a = subst (λ (s : Hall). Shows k s (core_at k r)) (same_hall k r.first r.order) (lifted_at k r a).shows

pub ruled_at : (k : HallTerms) (r : Run k) → Agrees k r → (base : State) × Ruled k.image.value (machine_limits k) k.fuel base (written_at k r)
ruled_at k r a =
    ruled_all k.image.value (machine_limits k) k.fuel (events_in k r.order) (start k.image.value k.fuel) (first_written k.image.value k.fuel) (lifted_at k r a).enabled r.opens.limits.locks (first_ruled k.image.value (machine_limits k) k.fuel)

pub stands_at : (k : HallTerms) (r : Run k) → Agrees k r → Stands k.image.value (machine_limits k) (core_at k r)
stands_at k r a = stands_all k.image.value (machine_limits k) (events_in k r.order) (start_of k) (first_stands k.image.value (machine_limits k) k.fuel) (lifted_at k r a).enabled

pub once_at : (k : HallTerms) (r : Run k) → Agrees k r → (i : ℕ) → i < locks k → Once (threads_of (line_at k r i))
once_at k r a i below = subst Once (ap (λ (c : Core). (c.custody i).line) (core_is k r) ∙ (a.lines i below).line) ((ruled_at k r a).1.locks i).once

-- who has a lock, or was granted it, is the first of its line
pub with_first : (k : HallTerms) (r : Run k) → Agrees k r → (i t : ℕ) → is_with (custody_at k r i).place t ≡ true → is_first (custody_at k r i).line t ≡ true
with_first k r a i t with = subst (λ (c : Core). is_with (c.custody i).place t ≡ true → is_first (c.custody i).line t ≡ true) (core_is k r) (by _ _ _ ((written_at k r).core.custody i) ((ruled_at k r a).1.locks i)) with
  where
    on : (line : List ℕ) (u : ℕ) → is_first line u ≡ true → (u == t) ≡ true → is_first line t ≡ true
    on us u first same = subst (λ (z : ℕ). is_first us z ≡ true) (eqb-true u t same) first

    at_place : (limit : ℕ) (bs : List Block) (at : ℕ → Stand) (x : Custody) (p : LockPlace) → Rule limit i bs at x p → is_with p t ≡ true → is_first x.line t ≡ true
    at_place limit bs at x place.Free rule e = absurd (cc e)
    at_place limit bs at x (Granted u) rule e = on x.line u rule.1 e
    at_place limit bs at x (With u) rule e = on x.line u rule.1 e
    at_place limit bs at x (Loose w) rule e = absurd (cc e)

    by : (limit : ℕ) (bs : List Block) (at : ℕ → Stand) (x : Custody) → IsLockAt limit i bs at x → is_with x.place t ≡ true → is_first x.line t ≡ true
    by limit bs at x is e = at_place limit bs at x x.place is.rule e

work_more : (es fs : List Event) → work_of (es ++ fs) ≡ work_of es + work_of fs
work_more [] fs = omega arith
work_more (e ∷ es) fs = (let h = work_more es fs in omega arith)

grown : (n : ℕ) (es fs : List Event) → n ≤ work_of es → n + 0 ≤ work_of (es ++ fs)
grown n es fs few = (let h = work_more es fs in omega arith)

grown_both : (n : ℕ) (es fs gs : List Event) → n ≤ work_of es → n + 0 ≤ work_of ((es ++ fs) ++ gs)
grown_both n es fs gs few = (let h = work_more es fs in let g = work_more (es ++ fs) gs in omega arith)

grown_one : (n : ℕ) (b : Bool) (es : List Event) (w t i : ℕ) → n ≤ work_of es → n + (if b then 1 else 0) ≤ work_of ((es ++ []) ++ Enter w t i ∷ [])
grown_one n true es w t i few = (let h = work_more es [] in let g = work_more (es ++ []) (Enter w t i ∷ []) in omega arith)
grown_one n false es w t i few = (let h = work_more es [] in let g = work_more (es ++ []) (Enter w t i ∷ []) in omega arith)

-- each entry is an Enter event, of which there are few
abbrev its_events : HallTerms → List Made → Made → Operation → List Event
its_events k before m o = events_at k (core_after k (beats_of k before)) m.knew o

pub entries_work : (k : HallTerms) (order : List Made) (t : ℕ) → entries_by t order ≤ work_of (events_in k order)
entries_work k [] t = omega arith
entries_work k (m ∷ before) t = by (entries_work k before t) m.operation
  where
    by : entries_by t before ≤ work_of (events_in k before) → (o : Operation) → entries_by t before + is_entry t o ≤ work_of (events_of (line_beats m.knew.worker o ++ operation m (its_events k before m o) ∷ beats_of k before))
    by few (line i (Did_enter u e)) = grown_one (entries_by t before) (u.thread == t) (events_in k before) m.knew.worker u.thread i few
    by few (line i (Did_leave u Left)) = grown_both (entries_by t before) (events_in k before) [] (Leave m.knew.worker i ∷ []) few
    by few (line i (Did_leave u (Followed tail))) = grown (entries_by t before) (events_in k before) [] few
    by few (line i (Did_link b u)) = grown (entries_by t before) (events_in k before) [] few
    by few (line i (Did_ask u x)) = grown (entries_by t before) (events_in k before) [] few
    by few (claim u word q) = grown (entries_by t before) (events_in k before) (its_events k before m (claim u word q)) few
    by few (take i l) = grown (entries_by t before) (events_in k before) (its_events k before m (take i l)) few
    by few (miss word wanted found) = grown (entries_by t before) (events_in k before) [] few
    by few (commit stamp b q) = grown (entries_by t before) (events_in k before) (its_events k before m (commit stamp b q)) few
    by few (put q place) = grown (entries_by t before) (events_in k before) (its_events k before m (put q place)) few
    by few (free l) = grown (entries_by t before) (events_in k before) (its_events k before m (free l)) few
    by few (look u found) = grown (entries_by t before) (events_in k before) [] few
    by few stop = grown (entries_by t before) (events_in k before) [] few
    by few (stopped found) = grown (entries_by t before) (events_in k before) [] few
    by few (reach slot) = grown (entries_by t before) (events_in k before) [] few
    by few (lay slot) = grown (entries_by t before) (events_in k before) [] few
    by few split = grown (entries_by t before) (events_in k before) [] few
    by few (join other w) = grown (entries_by t before) (events_in k before) [] few

few_turns : (n fuel : ℕ) → n ≤ 32 → fuel ≤ 65536 → n * (fuel + 1) ≤ 2097184
few_turns n fuel few small = (let a : n * (fuel + 1) ≤ 32 * 65537 = mul-le n (fuel + 1) 32 65537 few (omega arith) in omega arith)

pub entries_few : (k : HallTerms) (r : Run k) → Agrees k r → (t : ℕ) → entries_by t r.order + 1 ≤ MAX_NUMBER
entries_few k r a t =
    let work = (is_bounded record { image = k.image.value; limits = machine_limits k; fuel = k.fuel; events = events_in k r.order; enabled = (lifted_at k r a).enabled }).work in
    let turns = few_turns (threads k) k.fuel r.opens.limits.threads r.opens.limits.fuel in
    let entries = entries_work k r.order t in
    let guards = r.opens.limits.locks in
    let people = r.opens.limits.threads in
    omega arith

-- ---- who has a package or a lock

pub one_pass : (k : HallTerms) (s : Hall) (rule : KeptHall k s) (id j t : ℕ) (v x : Knows) (p o : PackageView) → get_elem? s.views id ≡ some v → get_elem? s.views j ≡ some x → Has v t p → Has x t o → (id ≡ j) × (p ≡ o)
one_pass k s rule id j t v x p o at there has its =
    let a = rule.placed.owned id v t p at has in
    let b = rule.placed.owned j x t o there its in
    (some-injective id j (sym a.0 ∙ b.0), some-injective p o (sym a.1 ∙ b.1))

-- a lock that is with a thread, or granted to it, is out where its package is out
pub held_here : (k : HallTerms) (s : Hall) (c : Core) (rule : KeptHall k s) → Shows k s c → (id t i : ℕ) (v : Knows) (p : PackageView) → get_elem? s.views id ≡ some v → v.spent ≡ false → Has v t p → i < locks k → is_with (c.custody i).place t ≡ true → (l : LockView) × HasLock v i l
held_here k s c rule shown id t i v p at live has below with =
    let o = is_out k s rule id t v p at has in
    let l = something_at rule.told.segments i (omega (arith, rule.told.law.all_states)) in
    let placed : (c.course t).place ≡ At v.worker = shown.shown.place t o.0 ∙ (ap place_shown o.3 ∙ shows.shown_at v.worker) in
    by (lies (c.custody i).place with placed) l.0 (rule.locks_placed.spot i) (rule.locks_placed.each i l.0 l.1)
  where
    lies : (x : LockPlace) → is_with x t ≡ true → (c.course t).place ≡ At v.worker → lies_at c.course x ≡ in_hand v.worker
    lies place.Free e f = absurd (cc e)
    lies (With u) e f = ap (λ (z : ℕ). lies_with (c.course z).place z) (eqb-true u t e) ∙ ap (λ (z : ThreadPlace). lies_with z t) f
    lies (Granted u) e f = ap (λ (z : ℕ). lies_with (c.course z).place z) (eqb-true u t e) ∙ ap (λ (z : ThreadPlace). lies_with z t) f
    lies (Loose w) e f = absurd (cc e)

    by : lies_at c.course (c.custody i).place ≡ in_hand v.worker → (x : LockView) (y : Spot) → LiesLock (threads k) s.words s.homes s.views i x y → (l : LockView) × HasLock v i l
    by is x home h = (let e : at_home ≡ in_hand v.worker = sym (shown.shown.lock i h.segment at_home below (lock_in_slot h.slot refl)).lies ∙ is in absurd (cc e))
    by is x (inside u) h = (let e : packed u ≡ in_hand v.worker = sym (shown.shown.lock i h.segment (packed u) below (lock_in_package u h.context h.below h.slot h.has refl)).lies ∙ is in absurd (cc e))
    by is x (out j) h =
        let e : in_hand h.view.worker ≡ in_hand v.worker = sym (shown.shown.lock i x (in_hand h.view.worker) below (lock_with_pass j h.view h.pass h.has refl)).lies ∙ is in
        let w : h.view.worker ≡ v.worker = cc e in
        let same : j ≡ id = rule.apart.apart j id h.view v h.pass at (has_live k s rule j i h.view x h.pass h.has) live w in
        (x, subst (λ (z : Knows). HasLock z i x) (some-injective h.view v (sym h.pass ∙ (ap (λ (z : ℕ). get_elem? s.views z) same ∙ at))) h.has)

-- a pass that has a lock out
pub record HasItOut (s : Hall) (w i : ℕ) : Type 0 where
  pub id : ℕ
  pub view : Knows
  pub pass : get_elem? s.views id ≡ some view
  pub live : view.spent ≡ false
  pub worker : view.worker ≡ w
  pub state : LockView
  pub has : HasLock view i state

-- a loose lock is out with a pass of its worker
pub loose_here : (k : HallTerms) (s : Hall) (c : Core) (rule : KeptHall k s) → Shows k s c → (w i : ℕ) → i < locks k → (c.custody i).place ≡ Loose w → HasItOut s w i
loose_here k s c rule shown w i below loose =
    let l = something_at rule.told.segments i (omega (arith, rule.told.law.all_states)) in
    by l.0 (rule.locks_placed.spot i) (rule.locks_placed.each i l.0 l.1)
  where
    by : (x : LockView) (y : Spot) → LiesLock (threads k) s.words s.homes s.views i x y → HasItOut s w i
    by x home h = (let e : at_home ≡ in_hand w = sym (shown.shown.lock i h.segment at_home below (lock_in_slot h.slot refl)).lies ∙ ap (lies_at c.course) loose in absurd (cc e))
    by x (inside u) h = (let e : packed u ≡ in_hand w = sym (shown.shown.lock i h.segment (packed u) below (lock_in_package u h.context h.below h.slot h.has refl)).lies ∙ ap (lies_at c.course) loose in absurd (cc e))
    by x (out j) h =
        let e : in_hand h.view.worker ≡ in_hand w = sym (shown.shown.lock i x (in_hand h.view.worker) below (lock_with_pass j h.view h.pass h.has refl)).lies ∙ ap (lies_at c.course) loose in
        record { id = j; view = h.view; pass = h.pass; live = has_live k s rule j i h.view x h.pass h.has; worker = cc e; state = x; has = h.has }

-- a pass with nothing out stands nowhere
pub free_away : (k : HallTerms) (r : Run k) → Agrees k r → (id i : ℕ) (v : Knows) → Live k r id v → i < locks k → IsFree v → standing_of i v.calls ≡ away
free_away k r a id i v live below empty = by (standing_of i v.calls) refl
  where
    no_lock : has_lock (standing_of i v.calls) ≡ true → ⊥
    no_lock e = (let l = (a.passes id i v live below).lock e in empty.locks i l.0 l.1)

    by : (s : Standing) → standing_of i v.calls ≡ s → standing_of i v.calls ≡ away
    by away e = e
    by (entered u before) e = (let p = (a.passes id i v live below).hand u.thread (ap thread_of e) in absurd (empty.packages u.thread p.0 p.1))
    by (granted u kind) e = absurd (no_lock (ap has_lock e))
    by (held u) e = absurd (no_lock (ap has_lock e))
    by (let_go u) e = absurd (no_lock (ap has_lock e))
    by (followed u x) e = absurd (no_lock (ap has_lock e))
    by (closed u) e = absurd (no_lock (ap has_lock e))

-- a lock state is that of its last commit
pub state_kept : (k : HallTerms) (s : Hall) (rule : KeptHall k s) (i : ℕ) (l : LockView) (y : Lying) → i < locks k → LockAt k s i l y → (x : LockView) × (get_elem? rule.told.segments i ≡ some x) × (kept l ≡ kept x)
state_kept k s rule i l y below at = of at
  where
    taken : get_elem? s.homes (threads k + i) ≡ some (some (Some (Lock l))) → (x : LockView) → (id : ℕ) → IsLockOut (threads k) s.words s.homes s.views i x id → ⊥
    taken slot x id h = by h.view.open_slot refl
      where
        by : (o : Option ℕ) → h.view.open_slot ≡ o → ⊥
        by None e = (let n : some (some (Some (Lock l))) ≡ some (some None) = sym slot ∙ h.empty (λ f. (let g : None ≡ Some (threads k + i) = sym e ∙ f in absurd (cc g))) in absurd (cc n))
        by (Some j) e =
            dite (ℕ_discrete j (threads k + i))
            (λ (f : j ≡ threads k + i). (let n : some (some (Some (Lock l))) ≡ some maybe.none = sym slot ∙ h.held (e ∙ ap (λ (z : ℕ). Some z) f) in absurd (cc n)))
            (λ ne. (let n : some (some (Some (Lock l))) ≡ some (some None) = sym slot ∙ h.empty (λ f. (let g : Some j ≡ Some (threads k + i) = sym e ∙ f in ne (cc g))) in absurd (cc n)))

    at_home_so : get_elem? s.homes (threads k + i) ≡ some (some (Some (Lock l))) → (x : LockView) (spot : Spot) → LiesLock (threads k) s.words s.homes s.views i x spot → kept l ≡ kept x
    at_home_so slot x home h =
        let e : some (some (Some (Lock h.segment))) ≡ some (some (Some (Lock l))) = sym h.slot ∙ slot in
        let same : h.segment ≡ l = cc e in
        ap kept (sym same) ∙ ap kept h.same
    at_home_so slot x (inside t) h = (let n : some (some (Some (Lock l))) ≡ some (some None) = sym slot ∙ h.empty in absurd (cc n))
    at_home_so slot x (out id) h = absurd (taken slot x id h)

    of : LockAt k s i l y → (x : LockView) × (get_elem? rule.told.segments i ≡ some x) × (kept l ≡ kept x)
    of (lock_in_slot slot e) = (let x = something_at rule.told.segments i (omega (arith, rule.told.law.all_states)) in (x.0, x.1, at_home_so slot x.0 (rule.locks_placed.spot i) (rule.locks_placed.each i x.0 x.1)))
    of (lock_in_package t q low slot has e) = (kept l, (rule.locks_placed.packed t q i l low slot has).1, refl)
    of (lock_with_pass id v pass has e) = (l, (rule.locks_placed.owned id v i l pass has).1, refl)

-- so it has its number and the hall's bound
pub state_at : (k : HallTerms) (s : Hall) (rule : KeptHall k s) (i : ℕ) (l : LockView) (y : Lying) → i < locks k → LockAt k s i l y → (l.number ≡ i) × (l.journal.limit ≡ k.limit)
state_at k s rule i l y below at =
    let x = state_kept k s rule i l y below at in
    let f = (rule.told.law.states_after i x.0 x.1).follows in
    (ap (λ (z : LockView). z.number) x.2 ∙ f.number, ap (λ (z : LockView). z.journal.limit) x.2 ∙ f.bound)

abbrev blocks_at : (k : HallTerms) → Run k → ℕ → List Block
blocks_at k r i = of_lock (written_at k r).history i

adopted_if : (b : Bool) → is_adopted (if b then Adopted else kind.Granted) ≡ b
adopted_if true = refl
adopted_if false = refl

-- the batch rule by the journal of a loose lock is that of the machine
pub kind_adopts : (k : HallTerms) (r : Run k) → Agrees k r → (i w : ℕ) (l : LockView) (y : Lying) → i < locks k → LockAt k (hall_at k r) i l y → (custody_at k r i).place ≡ Loose w → is_adopted (passed_kind l) ≡ adopts (machine_limits k) (core_at k r) i
kind_adopts k r a i w l y below at loose = by (ruled_at k r a)
  where
    released : IsReleased i (blocks_at k r i) (custody_at k r i) → is_adopted (passed_kind l) ≡ adopts (machine_limits k) (core_at k r) i
    released is =
        let n = state_at k (hall_at k r) (kept_at k r) i l y below at in
        let same : blocks_of l ≡ blocks_at k r i = a.written.journals i l y below at in
        let b = is.block in
        ap (λ (o : Option Block). is_adopted (passed_after l o)) (ap last_of same ∙ is.last)
        ∙ (adopted_if (may_adopt b l.number (run_of l.number (blocks_of l)) l.journal.limit)
        ∙ (ap (λ (z : ℕ). may_adopt b z (run_of z (blocks_of l)) l.journal.limit) n.0
        ∙ (ap (λ (z : List Block). may_adopt b i (run_of i z) l.journal.limit) same
        ∙ (ap (λ (z : ℕ). may_adopt b i (run_of i (blocks_at k r i)) z) n.1
        ∙ (ap (λ (z : ℕ). may_adopt b i z k.limit) (sym is.run)
        ∙ ap (is_adoptable (machine_limits k) i (custody_at k r i).run) (sym is.release))))))

    by : (base : State) × Ruled k.image.value (machine_limits k) k.fuel base (written_at k r) → is_adopted (passed_kind l) ≡ adopts (machine_limits k) (core_at k r) i
    by ruled =
        let at : ℕ → Stand = stand_of k.image.value ruled.0 (written_at k r) in
        let is : IsLockAt k.limit i (blocks_at k r i) at (custody_at k r i) = subst (λ (c : Core). IsLockAt k.limit i (blocks_at k r i) at (c.custody i)) (core_is k r) (ruled.1.locks i) in
        released (subst (λ (p : LockPlace). Rule k.limit i (blocks_at k r i) at (custody_at k r i) p) loose is.rule)
