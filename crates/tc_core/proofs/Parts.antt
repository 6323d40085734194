-- What each change of the program's core is for the pure machine.
use Rattle.std.proofs.Common.{◌≡◌, ◌≢◌, ℕ, ◌+◌, ◌<◌, ◌≤◌, Bool, true, false, ◌==◌, List, length, set, refl, sym, ap, subst, ◌∙◌, arith}
use Rattle.std.specs.Option.{option_map}
use Rattle.std.specs.Prelude.{is_some, if◌then◌else◌, ◌&&◌, not, slice_get, unwrap_or, Option, Some, None, IfSome}
use Rattle.std.proofs.lemmas.Bool.Decides.{nat_tests}
use Rattle.std.proofs.lemmas.List.{length-set}
use Rattle.tc_isa.specs.declared.limits.TheConstants.{MAX_TURNS}
use Rattle.tc_elf.specs.Shown.{Shown}
use Rattle.tc_journal.specs.History.{IsEnd}
use Rattle.tc_journal.specs.Rule.{end_rule}
use Rattle.tc_journal.specs.declared.block.End.{End}
use Rattle.tc_journal.specs.declared.block.End.TheVariants.{Cut}
use Rattle.tc_journal.specs.declared.rule.Outcome.{Outcome}
use Rattle.tc_journal.specs.declared.rule.Outcome.TheVariants as outcome
use Rattle.tc_turn.specs.Turn.{next_lock, next_act}
use Rattle.tc_turn.proofs.Turns.{goes_on}
use Rattle.tc_mutex_spec.specs.Machine.{after}
use Rattle.tc_mutex_spec.specs.Slow.{Plain, state_of, Suits}
use Rattle.tc_core.specs.declared.event.Event.{Event}
use Rattle.tc_core.specs.declared.event.Event.TheVariants.{Adopt, Grant}
use Rattle.tc_core.specs.Core.{Core, Course, Custody, Release, Ready, At, With, Loose, first_course, first_custody, with_of, is_number, with_custody, with_place}
use Rattle.tc_core.specs.Events.{custody_on, custody_past, course_on, course_past, release_of, passed_to, end_here, after_turn, after_commit, effect}
use Rattle.tc_core.specs.View.{CoreView, course_at, custody_at, core_of, IsLine, IsCourse, HasParts, Became}
use Rattle.tc_core.proofs.Erasure.{MayTurn}
use Rattle.tc_core.proofs.Places.{item_set}

-- ---- one custody

custody_core : (v : CoreView) (lock : ℕ) (x : Custody) (new : List Custody) → lock < length v.custodies → new ≡ set v.custodies lock x → core_of (record v { custodies = new }) ≡ with_custody (core_of v) lock x
custody_core v lock x new lt e =
    ap (λ cs. core_of (record v { custodies = cs })) e
    ∙ (λ i. record { machine = state_of v.plain; course = course_at v.courses; custody = λ k. item_set v.custodies lock x first_custody lt k i })

custody_parts : (image : Shown) (v : CoreView) (lock : ℕ) (x : Custody) (new : List Custody) → HasParts image v → lock < length image.guards → new ≡ set v.custodies lock x → IsLine (length image.entries) x.line → HasParts image (record v { custodies = new })
custody_parts image v lock x new parts lt e line = record {
  plain = parts.plain;
  courses = parts.courses;
  custodies = ap length e ∙ length-set v.custodies lock x ∙ parts.custodies;
  blocks = parts.blocks;
  lines = λ k. subst (λ (c : Custody). IsLine (length image.entries) c.line) (sym (ap (λ cs. custody_at cs k) e ∙ item_set v.custodies lock x first_custody (let l = parts.custodies in omega arith) k)) (at k);
}
  where
    at : (k : ℕ) → IsLine (length image.entries) (if k == lock then x else custody_at v.custodies k).line
    at k = elim (k == lock) as (λ b. IsLine (length image.entries) (if b then x else custody_at v.custodies k).line) [ true ↦ line | false ↦ parts.lines k ]

pub lock_in : (image : Shown) (v w : CoreView) (lock : ℕ) → v ≡ w → HasParts image w → lock < length image.guards → lock < length v.custodies
lock_in image v w lock same parts lt = (let e = ap (λ (u : CoreView). length u.custodies) same in let long = parts.custodies in omega arith)

-- what the change f of one custody is for the whole core
pub custody_became : (image : Shown) (v w : CoreView) (lock : ℕ) (f : Custody → Custody) (new : List Custody) → v ≡ w → HasParts image w → lock < length image.guards
    → new ≡ set v.custodies lock (f (custody_at v.custodies lock)) → IsLine (length image.entries) (f (custody_at w.custodies lock)).line
    → Became image w (record v { custodies = new }) (with_custody (core_of w) lock (f (custody_at w.custodies lock)))
custody_became image v w lock f new same parts lt at line =
    subst (λ (u : CoreView). new ≡ set u.custodies lock (f (custody_at u.custodies lock)) → Became image w (record u { custodies = new }) (with_custody (core_of w) lock (f (custody_at w.custodies lock)))) (sym same)
    (λ e. record {
      core = custody_core w lock _ new (let l = parts.custodies in omega arith) e;
      limits = refl;
      parts = custody_parts image w lock _ new parts lt e line;
    }) at

pub took_effect : {image : Shown} {old new : CoreView} {e f : Event} → e ≡ f → Became image old new (effect image (core_of old) f) → Became image old new (effect image (core_of old) e)
took_effect {image} {old} {new} same became = subst (λ x. Became image old new (effect image (core_of old) x)) (sym same) became

-- ---- one course

course_blocks : (v : CoreView) (t : ℕ) (x : Course) (new : List Course) → ((u : ℕ) → IsCourse (course_at v.courses u)) → t < length v.courses → new ≡ set v.courses t x → IsCourse x → (u : ℕ) → IsCourse (course_at new u)
course_blocks v t x new blocks lt e is u =
    subst (λ c. IsCourse c) (sym (ap (λ cs. course_at cs u) e ∙ item_set v.courses t x first_course lt u))
    (elim (u == t) as (λ b. IsCourse (if b then x else course_at v.courses u)) [ true ↦ is | false ↦ blocks u ])

-- ---- a turn

-- what a turn of the program's core does
pub record IsTurned (image : Shown) (v : CoreView) (t : ℕ) (next : Plain) (courses : List Course) (custodies : List Custody) (lock : Option ℕ) (end : Option End) : Type 0 where
  pub thread : t < length v.courses
  pub machine : state_of next ≡ after image (state_of v.plain) t
  pub suits : Suits image next
  pub taken : lock ≡ next_lock image ((state_of v.plain).threads t)
  pub ended : end ≡ end_here image (core_of v) t
  pub course : courses ≡ set v.courses t (course_on (course_at v.courses t) lock end)
  pub custody : (k : ℕ) → custody_at custodies k ≡ custody_on lock t k (custody_at v.custodies k)
  pub long : length custodies ≡ length v.custodies

pub turned_core : (image : Shown) (v : CoreView) (t : ℕ) (next : Plain) (courses : List Course) (custodies : List Custody) (lock : Option ℕ) (end : Option End) → IsTurned image v t next courses custodies lock end
    → core_of (record v { plain = next; courses = courses; custodies = custodies }) ≡ after_turn image (core_of v) t
turned_core image v t next courses custodies lock end is =
    let x : Course = course_on (course_at v.courses t) lock end in
    let course : (k : ℕ) → course_at courses k ≡ (if k == t then course_on (course_at v.courses t) (next_lock image ((state_of v.plain).threads t)) (end_here image (core_of v) t) else course_at v.courses k) =
    λ k. ap (λ cs. course_at cs k) is.course ∙ item_set v.courses t x first_course is.thread k ∙ (λ i. if k == t then course_on (course_at v.courses t) (is.taken i) (is.ended i) else course_at v.courses k) in
    let custody : (k : ℕ) → custody_at custodies k ≡ custody_on (next_lock image ((state_of v.plain).threads t)) t k (custody_at v.custodies k) =
    λ k. is.custody k ∙ ap (λ o. custody_on o t k (custody_at v.custodies k)) is.taken in
    λ i. record { machine = is.machine i; course = λ k. course k i; custody = λ k. custody k i }

pub on_line : (o : Option ℕ) (t k : ℕ) (x : Custody) → (custody_on o t k x).line ≡ x.line
on_line None t k x = refl
on_line (Some lock) t k x = elim (k == lock) as (λ b. (if b then record x { place = With t } else x).line ≡ x.line) [ true ↦ refl | false ↦ refl ]

pub some_below : (o : Option ℕ) (n m : ℕ) → n ≤ m → IfSome o (λ k. k < n) → IfSome o (λ k. k < m)
some_below None n m le h = tt
some_below (Some k) n m le h = omega arith

-- an end names a lock that there can be
end_is : (o : Outcome) (turns : ℕ) (next : Option ℕ) → ((lock : ℕ) → o ≡ outcome.Unlocked lock → lock < 32) → IfSome next (λ k. k < 32) → IfSome (end_rule o turns next) IsEnd
end_is outcome.Exited turns next unlocked below = tt
end_is (outcome.Faulted f) turns next unlocked below = tt
end_is outcome.Spent turns next unlocked below = tt
end_is (outcome.Unlocked lock) turns next unlocked below = unlocked lock refl
end_is outcome.Slept turns next unlocked below = tt
end_is outcome.Went turns (Some lock) unlocked below = below
end_is outcome.Went turns None unlocked below = elim (turns == MAX_TURNS) as (λ b. IfSome (if b then Some Cut else None) IsEnd) [ true ↦ tt | false ↦ tt ]

-- a block that goes on has fewer turns than a block may have
few_turns : (image : Shown) (v : CoreView) (t : ℕ) → (course_at v.courses t).turns < MAX_TURNS → end_here image (core_of v) t ≡ None → (course_at v.courses t).turns + 1 < MAX_TURNS
few_turns image v t lt e =
    let d = (state_of v.plain).threads t in
    let more : (course_at v.courses t).turns + 1 ≢ MAX_TURNS = (goes_on d (next_act image d (state_of v.plain).locks) ((course_at v.courses t).turns + 1) (next_lock image ((after image (state_of v.plain) t).threads t)) e).1 in
    omega arith

pub turned_parts : (image : Shown) (v : CoreView) (t : ℕ) (next : Plain) (courses : List Course) (custodies : List Custody) (lock : Option ℕ) (end : Option End) → IsTurned image v t next courses custodies lock end
    → HasParts image v → (course_at v.courses t).turns < MAX_TURNS → IfSome end IsEnd
    → HasParts image (record v { plain = next; courses = courses; custodies = custodies })
turned_parts image v t next courses custodies lock end is parts lt ends = record {
  plain = is.suits;
  courses = ap length is.course ∙ length-set v.courses t _ ∙ parts.courses;
  custodies = is.long ∙ parts.custodies;
  blocks = course_blocks v t _ courses parts.blocks is.thread is.course (record { turns = λ e. few_turns image v t lt (sym is.ended ∙ e); end = ends });
  lines = λ k. subst (λ l. IsLine (length image.entries) l) (sym (ap (λ (x : Custody). x.line) (is.custody k) ∙ on_line lock t k (custody_at v.custodies k))) (parts.lines k);
}

pub end_fits : (image : Shown) (o : Outcome) (turns : ℕ) (next : Option ℕ) (end : Option End) → end ≡ end_rule o turns next → length image.guards ≤ 32
    → ((lock : ℕ) → o ≡ outcome.Unlocked lock → lock < length image.guards) → IfSome next (λ k. k < length image.guards) → IfSome end IsEnd
end_fits image o turns next end e le known below =
    subst (λ x. IfSome x IsEnd) (sym e) (end_is o turns next (λ lock h. let l = known lock h in omega arith) (some_below next (length image.guards) 32 le below))

pub no_end : (o : Option End) → is_some o ≡ false → o ≡ None
no_end None e = refl
no_end (Some x) e = absurd (cc)

-- a turn that may come has room in its block
pub turn_room : (image : Shown) (v : CoreView) (t : ℕ) → HasParts image v → MayTurn image (core_of v) t → (course_at v.courses t).turns < MAX_TURNS
turn_room image v t parts may = (parts.blocks t).turns (no_end (course_at v.courses t).ended may.open_block)

pub turn_thread : (image : Shown) (c : Core) (t : ℕ) → MayTurn image c t → t < length image.entries
turn_thread image c t may = (let e = may.thread in grind (arith, nat_tests))

-- ---- the end of a block

-- what the end of a block does to the courses and the custodies of the program's core
pub record IsPast (v : CoreView) (w t : ℕ) (courses : List Course) (custodies : List Custody) : Type 0 where
  pub thread : t < length v.courses
  pub course : courses ≡ set v.courses t (course_past (course_at v.courses t))
  pub custody : (k : ℕ) → slice_get custodies k ≡ option_map (custody_past w t (((state_of v.plain).threads t).held k) (release_of (course_at v.courses t))) (slice_get v.custodies k)
  pub long : length custodies ≡ length v.custodies

past_at : (w t : ℕ) (held : Bool) (r : Option Release) (o : Option Custody) → unwrap_or (option_map (custody_past w t held r) o) first_custody ≡ custody_past w t held r (unwrap_or o first_custody)
past_at w t held r None = refl
past_at w t held r (Some x) = refl

pub past_line : (w t : ℕ) (held : Bool) (r : Option Release) (x : Custody) → (custody_past w t held r x).line ≡ x.line
past_line w t held r x = elim (is_number (with_of x.place) t && not held) as (λ b. (if b then record x { place = Loose w; last = r } else x).line ≡ x.line) [ true ↦ refl | false ↦ refl ]

pub past_became : (image : Shown) (v now : CoreView) (w t : ℕ) (courses : List Course) (custodies : List Custody) → v ≡ now → HasParts image now → IsPast v w t courses custodies
    → Became image now (record v { courses = courses; custodies = custodies }) (after_commit (core_of now) w t)
past_became image v now w t courses custodies same parts is =
    let p : HasParts image v = subst (HasParts image) (sym same) parts in
    let x : Course = course_past (course_at v.courses t) in
    let course : (k : ℕ) → course_at courses k ≡ (if k == t then x else course_at v.courses k) = λ k. ap (λ cs. course_at cs k) is.course ∙ item_set v.courses t x first_course is.thread k in
    let held = ((state_of v.plain).threads t).held in
    let release = release_of (course_at v.courses t) in
    let custody : (k : ℕ) → custody_at custodies k ≡ custody_past w t (held k) release (custody_at v.custodies k) =
    λ k. ap (λ o. unwrap_or o first_custody) (is.custody k) ∙ past_at w t (held k) release (slice_get v.custodies k) in
    subst (λ u. Became image u (record v { courses = courses; custodies = custodies }) (after_commit (core_of u) w t)) same record {
      core = λ i. record { machine = state_of v.plain; course = λ k. course k i; custody = λ k. custody k i };
      limits = refl;
      parts = record {
        plain = p.plain;
        courses = ap length is.course ∙ length-set v.courses t x ∙ p.courses;
        custodies = is.long ∙ p.custodies;
        blocks = course_blocks v t x courses p.blocks is.thread is.course (record { turns = λ e. omega arith; end = tt });
        lines = λ k. subst (λ l. IsLine (length image.entries) l) (sym (ap (λ (y : Custody). y.line) (custody k) ∙ past_line w t (held k) release (custody_at v.custodies k))) (p.lines k);
      };
    }

-- ---- a lock passed on

pub adopted : (image : Shown) (c d e : Core) (w t lock run : ℕ) → d ≡ with_custody c lock (passed_to (c.custody lock) t (run + 1)) → e ≡ with_place d t (At w) → run ≡ (c.custody lock).run → e ≡ effect image c (Adopt w t lock)
unfolding effect
adopted image c d e w t lock run p q r = q ∙ ap (λ x. with_place x t (At w)) (p ∙ ap (λ n. with_custody c lock (passed_to (c.custody lock) t (n + 1))) r)

pub granted : (image : Shown) (c d e : Core) (w t lock : ℕ) → d ≡ with_custody c lock (passed_to (c.custody lock) t 0) → e ≡ with_place d t Ready → e ≡ effect image c (Grant w t lock)
unfolding effect
granted image c d e w t lock p q = q ∙ ap (λ x. with_place x t Ready) p
