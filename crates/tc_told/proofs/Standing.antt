-- How threads and locks stand to the blocks that are written, after any events.
use Rattle.std.proofs.Common.{◌≡◌, ◌≢◌, ℕ, ◌+◌, ◌-◌, Bool, true, false, not, ◌&&◌, ◌||◌, ◌==◌, List, [], ◌∷◌, ◌++◌, length, map, refl, sym, ap, subst, ◌∙◌, arith, inl, inr}
use Rattle.std.specs.Cmp.Derive.{both_true}
use Rattle.std.specs.Prelude.{Option, Some, None, slice_get, if◌then◌else◌}
use Rattle.std.specs.Option.{option_map}
use Rattle.std.proofs.lemmas.Bool.{eqb-false, ne_eqb}
use Rattle.std.proofs.lemmas.Bool.Decides.{eqb_tells}
use Rattle.std.proofs.lemmas.List.{length-map}
use Rattle.std.proofs.lemmas.List.Folds.{list_any-append}
use Rattle.std.proofs.lemmas.Option.{slice_get-map}
use Rattle.tc_elf.specs.Shown.{Shown}
use Rattle.tc_journal.specs.Batch.{is_section, is_adopted, is_passed, is_lock, begins, ends_section, may_begin, may_go_on, may_follow, allows_of, passes_to, passes_on, last_of, run_of, run_from, run_after}
use Rattle.tc_journal.specs.declared.block.Block.{Block}
use Rattle.tc_journal.specs.declared.block.Kind.{Kind}
use Rattle.tc_journal.specs.declared.block.Kind.TheVariants as kind
use Rattle.tc_journal.proofs.Batching.{last_more, run_from-more}
use Rattle.tc_turn.specs.Turn.{next_lock}
use Rattle.tc_mutex_spec.specs.Machine.{State}
use Rattle.tc_core.specs.declared.place.LockPlace.{LockPlace}
use Rattle.tc_core.specs.declared.place.LockPlace.TheVariants.{With, Granted, Loose}
use Rattle.tc_core.specs.declared.place.LockPlace.TheVariants as place
use Rattle.tc_core.specs.declared.place.Custody.{Custody}
use Rattle.tc_core.specs.declared.place.Release.{Release}
use Rattle.tc_core.specs.Lines.{is_in_line, is_first, is_second, rest_of}
use Rattle.tc_core.specs.Core.{is_free_lock, is_granted, is_loose, is_number, with_of}
use Rattle.tc_core.specs.Events.{custody_past, entered, taken_by, passed_to, left_by_all, freed}
use Rattle.tc_core.proofs.Served.{first_more}
use Rattle.tc_core.proofs.Waiting.{in_rest}
use Rattle.tc_core.proofs.Standing.{first_in}
use Rattle.tc_told.specs.Written.{Written}
use Rattle.tc_told.proofs.Custodies.{past_held, past_loose}
use Rattle.tc_lemmas.proofs.Tests.{eq_self}

-- what matters of a thread: the turns of its block, the lock that its next turn takes, the one that the first turn of its block
-- takes, and how the block begins
pub record Stand : Type 0 where
  pub turns : ℕ
  pub next : Option ℕ
  pub first : Option ℕ
  pub kind : Kind

abbrev pub stand_of : Shown → State → Written → ℕ → Stand
stand_of image base s t = record {
  turns = (s.core.course t).turns;
  next = next_lock image (s.core.machine.threads t);
  first = next_lock image (base.threads t);
  kind = (s.next t).kind;
}

-- the thread wants lock k, which was not granted to it
pub record Waits (k : ℕ) (a : Stand) : Type 0 where
  pub turns : a.turns ≡ 0
  pub next : a.next ≡ Some k
  pub kind : is_section a.kind ≡ false

-- it was granted lock k, and has not taken it
pub record IsGranted (k : ℕ) (a : Stand) : Type 0 where
  pub turns : a.turns ≡ 0
  pub next : a.next ≡ Some k
  pub kind : is_section a.kind ≡ true

-- it took lock k in the block that it is in
abbrev pub is_fresh : ℕ → Stand → Bool
is_fresh k a = not (a.turns == 0) && is_lock a.first k

-- ---- what a lock's blocks allow

abbrev pub of_one : Block → Block
of_one b = record b { worker = 0 }

-- no section of the lock goes on
abbrev pub IsShut : ℕ → Option Block → Type 0
IsShut k None = Unit {0}
IsShut k (Some b) = ends_section k b ≡ true

-- a section of this kind may be that of thread t, and comes to such a streak
pub record MayOpen (limit k : ℕ) (bs : List Block) (kd : Kind) (t streak : ℕ) : Type 0 where
  pub rule : may_begin k limit (option_map of_one (last_of bs)) (run_of k bs) kd 0 ≡ true
  pub passes : passes_to (last_of bs) kd t ≡ true
  pub run : streak ≡ (if is_adopted kd then run_of k bs + 1 else 0)

-- the last section goes on, and is that of thread t
pub record GoesOn (k : ℕ) (bs : List Block) (t streak : ℕ) : Type 0 where
  pub block : Block
  pub last : last_of bs ≡ Some block
  pub open_one : ends_section k block ≡ false
  pub thread : block.thread ≡ t
  pub run : streak ≡ run_of k bs

-- the last block ended a section, and its thread is first in the line until all have left it
pub record IsReleased (k : ℕ) (bs : List Block) (x : Custody) : Type 0 where
  pub block : Block
  pub last : last_of bs ≡ Some block
  pub ends : ends_section k block ≡ true
  pub release : x.last ≡ Some (record { held = block.held; end = block.end })
  pub run : x.run ≡ run_of k bs
  pub first : x.left ≡ false → is_first x.line block.thread ≡ true

-- a lock that is with a thread, which took it in the block that it is in, or before
abbrev pub Taken : ℕ → ℕ → List Block → Kind → ℕ → ℕ → Bool → Type 0
Taken limit k bs kd t run true = MayOpen limit k bs kd t run
Taken limit k bs kd t run false = GoesOn k bs t run

abbrev pub Rule : ℕ → ℕ → List Block → (ℕ → Stand) → Custody → LockPlace → Type 0
Rule limit k bs at x place.Free = (x.left ≡ false) × IsShut k (last_of bs)
Rule limit k bs at x (Granted t) = (x.left ≡ false) × (is_first x.line t ≡ true) × IsGranted k (at t) × MayOpen limit k bs (at t).kind t x.run
Rule limit k bs at x (With t) = (x.left ≡ false) × (is_first x.line t ≡ true) × Taken limit k bs (at t).kind t x.run (is_fresh k (at t))
Rule limit k bs at x (Loose w) = IsReleased k bs x

-- ---- the line

abbrev pub Once : List ℕ → Type 0
Once [] = Unit {0}
Once (u ∷ us) = (is_in_line us u ≡ false) × Once us

-- those in the line to whom the lock was not granted
abbrev pub behind : Bool → List ℕ → LockPlace → List ℕ
behind left line place.Free = line
behind left line (Granted t) = rest_of line
behind left line (With t) = rest_of line
behind left line (Loose w) = if left then line else rest_of line

-- lock k with its blocks
pub record IsLockAt (limit k : ℕ) (bs : List Block) (at : ℕ → Stand) (x : Custody) : Type 0 where
  pub once : Once x.line
  pub waits : (u : ℕ) → is_in_line (behind x.left x.line x.place) u ≡ true → Waits k (at u)
  pub rule : Rule limit k bs at x x.place

in_more : (line : List ℕ) (t u : ℕ) → is_in_line (line ++ t ∷ []) u ≡ (is_in_line line u || (t == u))
in_more line t u = grind (arith, list_any-append (λ v. v == u) line (t ∷ []))

once_more : (line : List ℕ) (t : ℕ) → Once line → is_in_line line t ≡ false → Once (line ++ t ∷ [])
once_more [] t once out = (refl, tt)
once_more (u ∷ us) t once out = (in_more us t u ∙ go (is_in_line us u) (u == t) (t == u) (is_in_line us t) once.0 out (λ e. ne_eqb t u (λ same. eqb-false u t e (sym same))), once_more us t once.1 (rest (u == t) (is_in_line us t) out))
  where
    rest : (a b : Bool) → (a || b) ≡ false → b ≡ false
    rest true b e = absurd (cc)
    rest false b e = e

    go : (a b c d : Bool) → a ≡ false → (b || d) ≡ false → (b ≡ false → c ≡ false) → (a || c) ≡ false
    go true b c d e f g = absurd (cc)
    go false true c d e f g = absurd (cc)
    go false false c d e f g = g refl

once_rest : (line : List ℕ) → Once line → Once (rest_of line)
once_rest [] once = once
once_rest (u ∷ us) once = once.1

-- the first of a line is not in the rest of it
rest_differs : (line : List ℕ) (t u : ℕ) → Once line → is_first line t ≡ true → is_in_line (rest_of line) u ≡ true → u ≢ t
rest_differs [] t u once first later e = absurd (cc)
rest_differs (v ∷ vs) t u once first later e = elim (eqb_tells v t) [
  | inl h ↦ (let same : u ≡ v = e ∙ sym h.1 in let f : true ≡ false = sym later ∙ ap (λ y. is_in_line vs y) same ∙ once.0 in cc)
  | inr h ↦ (let f : true ≡ false = sym first ∙ h.0 in cc)
]

second_in : (line : List ℕ) (t : ℕ) → is_second line t ≡ true → is_in_line (rest_of line) t ≡ true
second_in line t e = first_in (rest_of line) t e

-- who comes last in a line is in the rest of it, or was so
rest_more : (line : List ℕ) (t u : ℕ) → is_in_line (rest_of (line ++ t ∷ [])) u ≡ true → (is_in_line (rest_of line) u || (t == u)) ≡ true
rest_more [] t u e = absurd (cc)
rest_more (v ∷ vs) t u e = sym (in_more vs t u) ∙ e

-- ---- a lock that an event leaves

-- an event of thread t, which neither wants lock k nor was granted it, and which has it before or not
pub record PassesBy (k : ℕ) (x : Custody) (t : ℕ) (at to : ℕ → Stand) : Type 0 where
  pub others : (u : ℕ) → u ≢ t → to u ≡ at u
  pub waits : Waits k (at t) → ⊥
  pub granted : IsGranted k (at t) → ⊥
  pub fresh : x.place ≡ With t → is_fresh k (to t) ≡ is_fresh k (at t)
  pub kind : x.place ≡ With t → is_fresh k (at t) ≡ true → (to t).kind ≡ (at t).kind

pub stays_so : (limit k : ℕ) (bs : List Block) (x : Custody) (t : ℕ) (at to : ℕ → Stand) → PassesBy k x t at to → IsLockAt limit k bs at x → IsLockAt limit k bs to x
stays_so limit k bs x t at to by is = record {
  once = is.once;
  waits = λ u h. (let w = is.waits u h in elim (eqb_tells u t) [
    | inl e ↦ absurd (by.waits (subst (λ v. Waits k (at v)) e.1 w))
    | inr e ↦ subst (λ a. Waits k a) (sym (by.others u e.1)) w
  ]);
  rule = go x.place refl is.rule;
}
  where
    kept : (a b : Stand) (u : ℕ) (v : Bool) → is_fresh k a ≡ v → is_fresh k b ≡ is_fresh k a → (is_fresh k a ≡ true → b.kind ≡ a.kind) → Taken limit k bs a.kind u x.run v → Taken limit k bs b.kind u x.run (is_fresh k b)
    kept a b u true e f g r = subst (λ y. Taken limit k bs b.kind u x.run y) (sym (f ∙ e)) (subst (λ y. MayOpen limit k bs y u x.run) (sym (g e)) r)
    kept a b u false e f g r = subst (λ y. Taken limit k bs b.kind u x.run y) (sym (f ∙ e)) r

    go : (p : LockPlace) → x.place ≡ p → Rule limit k bs at x p → Rule limit k bs to x p
    go place.Free is r = r
    go (Granted u) is r = elim (eqb_tells u t) [
      | inl e ↦ absurd (by.granted (subst (λ v. IsGranted k (at v)) e.1 r.2))
      | inr e ↦ (r.0, r.1, subst (λ a. IsGranted k a) (sym (by.others u e.1)) r.2, subst (λ (a : Stand). MayOpen limit k bs a.kind u x.run) (sym (by.others u e.1)) r.3)
    ]
    go (With u) is r = elim (eqb_tells u t) [
      | inl e ↦ (let with : x.place ≡ With t = is ∙ ap With e.1 in (
        r.0,
        r.1,
        subst (λ v. Taken limit k bs (to v).kind u x.run (is_fresh k (to v))) (sym e.1)
            (kept (at t) (to t) u (is_fresh k (at t)) refl (by.fresh with) (by.kind with) (subst (λ v. Taken limit k bs (at v).kind u x.run (is_fresh k (at v))) e.1 r.2)),
      ))
      | inr e ↦ (r.0, r.1, subst (λ (a : Stand). Taken limit k bs a.kind u x.run (is_fresh k a)) (sym (by.others u e.1)) r.2)
    ]
    go (Loose w) is r = r

-- ---- blocks as if one worker had run them

pub last_one : (bs : List Block) → last_of (map of_one bs) ≡ option_map of_one (last_of bs)
last_one bs = ap (λ n. slice_get (map of_one bs) (n - 1)) (length-map bs of_one) ∙ slice_get-map of_one bs (length bs - 1)

pub run_one : (k n : ℕ) (bs : List Block) → run_from k n (map of_one bs) ≡ run_from k n bs
run_one k n [] = refl
run_one k n (b ∷ bs) = run_one k (run_after k n b) bs

-- ---- a lock that an event is about

module _ (limit k : ℕ) (bs : List Block) (at : ℕ → Stand) (x : Custody) (is : IsLockAt limit k bs at x) where
  pub entered_so : (t : ℕ) → is_in_line x.line t ≡ false → Waits k (at t) → IsLockAt limit k bs at (entered x t)
  entered_so t out wants = record {
    once = once_more x.line t is.once out;
    waits = λ u h. joined u (is_in_line (behind x.left x.line x.place) u) refl (more x.left x.place u h);
    rule = go x.place is.rule;
  }
    where
      more : (left : Bool) (p : LockPlace) (u : ℕ) → is_in_line (behind left (x.line ++ t ∷ []) p) u ≡ true → (is_in_line (behind left x.line p) u || (t == u)) ≡ true
      more left place.Free u h = sym (in_more x.line t u) ∙ h
      more left (Granted v) u h = rest_more x.line t u h
      more left (With v) u h = rest_more x.line t u h
      more true (Loose w) u h = sym (in_more x.line t u) ∙ h
      more false (Loose w) u h = rest_more x.line t u h

      joined : (u : ℕ) (b : Bool) → is_in_line (behind x.left x.line x.place) u ≡ b → (b || (t == u)) ≡ true → Waits k (at u)
      joined u true e h = is.waits u e
      joined u false e h = elim (eqb_tells t u) [ inl g ↦ subst (λ v. Waits k (at v)) g.1 wants | inr g ↦ absurd (let f : true ≡ false = sym h ∙ g.0 in cc) ]

      go : (p : LockPlace) → Rule limit k bs at x p → Rule limit k bs at (entered x t) p
      go place.Free r = r
      go (Granted u) r = (r.0, first_more x.line u t r.1, r.2, r.3)
      go (With u) r = (r.0, first_more x.line u t r.1, r.2)
      go (Loose w) r = record { block = r.block; last = r.last; ends = r.ends; release = r.release; run = r.run; first = λ e. first_more x.line r.block.thread t (r.first e) }

  -- the first of the line is one that wants the lock
  pub free_waits : (t : ℕ) → is_free_lock x.place ≡ true → is_first x.line t ≡ true → Waits k (at t)
  free_waits t free first = is.waits t (go x.place free)
    where
      go : (p : LockPlace) → is_free_lock p ≡ true → is_in_line (behind x.left x.line p) t ≡ true
      go place.Free h = first_in x.line t first
      go (Granted u) h = absurd (cc)
      go (With u) h = absurd (cc)
      go (Loose w) h = absurd (cc)

  -- and the second one, where the lock is loose
  pub second_waits : (w t : ℕ) → is_loose x.place w ≡ true → x.left ≡ false → is_second x.line t ≡ true → Waits k (at t)
  second_waits w t loose left second = is.waits t (go x.place loose)
    where
      go : (p : LockPlace) → is_loose p w ≡ true → is_in_line (behind x.left x.line p) t ≡ true
      go place.Free h = absurd (cc)
      go (Granted u) h = absurd (cc)
      go (With u) h = absurd (cc)
      go (Loose v) h = ap (λ b. is_in_line (if b then x.line else rest_of x.line) t) left ∙ second_in x.line t second

  pub released_is : (w : ℕ) → is_loose x.place w ≡ true → IsReleased k bs x
  released_is w loose = go x.place loose is.rule
    where
      go : (p : LockPlace) → is_loose p w ≡ true → Rule limit k bs at x p → IsReleased k bs x
      go place.Free h r = absurd (cc)
      go (Granted u) h r = absurd (cc)
      go (With u) h r = absurd (cc)
      go (Loose v) h r = r

  module _ (t : ℕ) (to : ℕ → Stand) (others : (u : ℕ) → u ≢ t → to u ≡ at u) where
    -- of those behind a thread that is now first
    still : (line : List ℕ) → Once line → is_first line t ≡ true → ((u : ℕ) → is_in_line (rest_of line) u ≡ true → Waits k (at u)) → (u : ℕ) → is_in_line (rest_of line) u ≡ true → Waits k (to u)
    still line once first each u h = subst (λ a. Waits k a) (sym (others u (rest_differs line t u once first h))) (each u h)

    pub taken_so : to t ≡ record (at t) { kind = kind.Taken } → is_free_lock x.place ≡ true → is_first x.line t ≡ true → IsLockAt limit k bs to (taken_by x t)
    taken_so mine free first = record {
      once = is.once;
      waits = still x.line is.once first (λ u h. is.waits u (go_in x.place free u (in_rest x.line u h)));
      rule = go x.place free is.rule;
    }
      where
        go_in : (p : LockPlace) → is_free_lock p ≡ true → (u : ℕ) → is_in_line x.line u ≡ true → is_in_line (behind x.left x.line p) u ≡ true
        go_in place.Free h u e = e
        go_in (Granted v) h u e = absurd (cc)
        go_in (With v) h u e = absurd (cc)
        go_in (Loose w) h u e = absurd (cc)

        wants : Waits k (at t)
        wants = free_waits t free first

        may : (o : Option Block) → IsShut k o → (may_begin k limit (option_map of_one o) (run_of k bs) kind.Taken 0 ≡ true) × (passes_to o kind.Taken t ≡ true)
        may None r = (refl, refl)
        may (Some b) r = (r, refl)

        go : (p : LockPlace) → is_free_lock p ≡ true → Rule limit k bs at x p → Rule limit k bs to (taken_by x t) (Granted t)
        go place.Free h r = (
          r.0,
          first,
          subst (λ a. IsGranted k a) (sym mine) (record { turns = wants.turns; next = wants.next; kind = refl }),
          subst (λ (a : Stand). MayOpen limit k bs a.kind t 0) (sym mine) (let m = may (last_of bs) r.1 in record { rule = m.0; passes = m.1; run = refl }),
        )
        go (Granted u) h r = absurd (cc)
        go (With u) h r = absurd (cc)
        go (Loose w) h r = absurd (cc)

    pub passed_so : (w run : ℕ) (kd : Kind) (r : IsReleased k bs x) → is_section kd ≡ true → to t ≡ record (at t) { kind = kd } → is_loose x.place w ≡ true → x.left ≡ false → is_second x.line t ≡ true
        → may_begin k limit (Some (of_one r.block)) (run_of k bs) kd 0 ≡ true → run ≡ (if is_adopted kd then run_of k bs + 1 else 0) → IsLockAt limit k bs to (passed_to x t run)
    passed_so w run kd r section mine loose left second rule runs = record {
      once = once_rest x.line is.once;
      waits = still (rest_of x.line) (once_rest x.line is.once) second (λ u h. is.waits u (go_in x.place loose u (in_rest (rest_of x.line) u h)));
      rule = (
        left,
        second,
        subst (λ a. IsGranted k a) (sym mine) (record { turns = wants.turns; next = wants.next; kind = section }),
        subst (λ (a : Stand). MayOpen limit k bs a.kind t run) (sym mine) (record {
          rule = ap (λ o. may_begin k limit (option_map of_one o) (run_of k bs) kd 0) r.last ∙ rule;
          passes = ap (λ o. passes_to o kd t) r.last ∙ pass (is_passed kd) (r.block.thread == t) differs;
          run = runs;
        }),
      );
    }
      where
        go_in : (p : LockPlace) → is_loose p w ≡ true → (u : ℕ) → is_in_line (rest_of x.line) u ≡ true → is_in_line (behind x.left x.line p) u ≡ true
        go_in place.Free h u e = absurd (cc)
        go_in (Granted v) h u e = absurd (cc)
        go_in (With v) h u e = absurd (cc)
        go_in (Loose v) h u e = ap (λ b. is_in_line (if b then x.line else rest_of x.line) u) left ∙ e

        wants : Waits k (at t)
        wants = second_waits w t loose left second

        differs : (r.block.thread == t) ≡ false
        differs = elim (eqb_tells r.block.thread t) [
          | inl h ↦ absurd (rest_differs x.line r.block.thread t is.once (r.first left) (second_in x.line t second) (sym h.1))
          | inr h ↦ h.0
        ]

        pass : (a b : Bool) → b ≡ false → not (a && b) ≡ true
        pass true b e = ap not e
        pass false b e = refl

    pub locked_so : is_granted x.place t ≡ true → is_fresh k (to t) ≡ true → (to t).kind ≡ (at t).kind → IsLockAt limit k bs to (record x { place = With t })
    locked_so granted fresh same = go x.place granted is.waits is.rule
      where
        go : (p : LockPlace) → is_granted p t ≡ true → ((u : ℕ) → is_in_line (behind x.left x.line p) u ≡ true → Waits k (at u)) → Rule limit k bs at x p → IsLockAt limit k bs to (record x { place = With t })
        go place.Free h each r = absurd (cc)
        go (Granted u) h each r = elim (eqb_tells u t) [
          | inl e ↦ (let first : is_first x.line t ≡ true = subst (λ v. is_first x.line v ≡ true) e.1 r.1 in
              let opens : MayOpen limit k bs (at t).kind t x.run = subst (λ v. MayOpen limit k bs (at v).kind v x.run) e.1 r.3 in
              record {
                once = is.once;
                waits = still x.line is.once first each;
                rule = (r.0, first, subst (λ y. Taken limit k bs (to t).kind t x.run y) (sym fresh) (subst (λ y. MayOpen limit k bs y t x.run) (sym same) opens));
              })
          | inr e ↦ absurd (let f : true ≡ false = sym h ∙ e.0 in cc)
        ]
        go (With u) h each r = absurd (cc)
        go (Loose w) h each r = absurd (cc)

    -- the block of t that has the lock, and the lock after it
    module _ (b : Block) (mine : b.thread ≡ t) (kind_is : b.kind ≡ (at t).kind) (begin : begins k b ≡ is_fresh k (at t)) (with : is_number (with_of x.place) t ≡ true) where
      with_t : (x.place ≡ With t) × (x.left ≡ false) × (is_first x.line t ≡ true) × Taken limit k bs (at t).kind t x.run (is_fresh k (at t)) × ((u : ℕ) → is_in_line (rest_of x.line) u ≡ true → Waits k (at u))
      with_t = go x.place with refl is.waits is.rule
        where
          go : (p : LockPlace) → is_number (with_of p) t ≡ true → x.place ≡ p → ((u : ℕ) → is_in_line (behind x.left x.line p) u ≡ true → Waits k (at u)) → Rule limit k bs at x p
              → (x.place ≡ With t) × (x.left ≡ false) × (is_first x.line t ≡ true) × Taken limit k bs (at t).kind t x.run (is_fresh k (at t)) × ((u : ℕ) → is_in_line (rest_of x.line) u ≡ true → Waits k (at u))
          go place.Free h e each r = absurd (cc)
          go (Granted u) h e each r = absurd (cc)
          go (With u) h e each r = elim (eqb_tells u t) [
            | inl f ↦ (e ∙ ap With f.1, r.0, subst (λ v. is_first x.line v ≡ true) f.1 r.1, subst (λ v. Taken limit k bs (at v).kind v x.run (is_fresh k (at v))) f.1 r.2, each)
            | inr f ↦ absurd (let g : true ≡ false = sym h ∙ f.0 in cc)
          ]
          go (Loose w) h e each r = absurd (cc)

      streak : x.run ≡ run_of k (bs ++ b ∷ [])
      streak = go (is_fresh k (at t)) refl with_t.3 ∙ sym (run_from-more k 0 bs b)
        where
          go : (v : Bool) → is_fresh k (at t) ≡ v → Taken limit k bs (at t).kind t x.run v → x.run ≡ run_after k (run_of k bs) b
          go true e r = r.run ∙ (λ i. if sym (begin ∙ e) i then (if is_adopted (sym kind_is i) then run_of k bs + 1 else 0) else run_of k bs)
          go false e r = r.run ∙ ap (λ v. if v then (if is_adopted b.kind then run_of k bs + 1 else 0) else run_of k bs) (sym (begin ∙ e))

      pub closed_so : (w : ℕ) (held : Bool) (o : Option Release) → held ≡ not (ends_section k b) → o ≡ Some (record { held = b.held; end = b.end }) → (to t).turns ≡ 0 → IsLockAt limit k (bs ++ b ∷ []) to (custody_past w t held o x)
      closed_so w held o kept release none = go (ends_section k b) refl
        where
          go : (v : Bool) → ends_section k b ≡ v → IsLockAt limit k (bs ++ b ∷ []) to (custody_past w t held o x)
          go true e = subst (λ y. IsLockAt limit k (bs ++ b ∷ []) to y) (sym (past_loose w t held o x with (kept ∙ ap not e))) (record {
            once = is.once;
            waits = λ u h. still x.line is.once with_t.2 with_t.4 u (sym (ap (λ y. is_in_line (if y then x.line else rest_of x.line) u) with_t.1) ∙ h);
            rule = record { block = b; last = last_more bs b; ends = e; release = release; run = streak; first = λ l. subst (λ v. is_first x.line v ≡ true) (sym mine) with_t.2 };
          })
          go false e = subst (λ y. IsLockAt limit k (bs ++ b ∷ []) to y) (sym (past_held w t held o x with (kept ∙ ap not e))) (record {
            once = is.once;
            waits = λ u h. still x.line is.once with_t.2 with_t.4 u (sym (ap (λ p. is_in_line (behind x.left x.line p) u) with_t.0) ∙ h);
            rule = subst (λ p. Rule limit k (bs ++ b ∷ []) to x p) (sym with_t.0) (
              with_t.1,
              with_t.2,
              subst (λ y. Taken limit k (bs ++ b ∷ []) (to t).kind t x.run y) (sym (ap (λ n. not (n == 0) && is_lock (to t).first k) none)) (record { block = b; last = last_more bs b; open_one = e; thread = mine; run = streak }),
            );
          })

      -- so the rules let the block follow
      pub may_so : (may_follow k limit (map of_one bs) (of_one b) ≡ true) × (passes_on k bs b ≡ true)
      unfolding may_follow allows_of passes_on
      may_so = go (is_fresh k (at t)) refl with_t.3
        where
          lasts : last_of (map of_one bs) ≡ option_map of_one (last_of bs)
          lasts = last_one bs

          go : (v : Bool) → is_fresh k (at t) ≡ v → Taken limit k bs (at t).kind t x.run v
              → ((if begins k b then may_begin k limit (last_of (map of_one bs)) (run_of k (map of_one bs)) b.kind 0 else may_go_on k (last_of (map of_one bs)) b.thread) ≡ true)
              × ((if begins k b then passes_to (last_of bs) b.kind b.thread else true) ≡ true)
          go true e r = (
            (λ i. if (begin ∙ e) i then may_begin k limit (lasts i) (run_one k 0 bs i) (kind_is i) 0 else may_go_on k (last_of (map of_one bs)) b.thread) ∙ r.rule,
            (λ i. if (begin ∙ e) i then passes_to (last_of bs) (kind_is i) (mine i) else true) ∙ r.passes,
          )
          go false e r = (
            (λ i. if (begin ∙ e) i then may_begin k limit (last_of (map of_one bs)) (run_of k (map of_one bs)) b.kind 0 else may_go_on k (lasts i) (mine i))
                ∙ ap (λ o. may_go_on k (option_map of_one o) t) r.last ∙ both_true (ap not r.open_one) (ap (λ u. u == t) r.thread ∙ eq_self t),
            ap (λ v. if v then passes_to (last_of bs) b.kind b.thread else true) (begin ∙ e),
          )

  pub left_so : (w : ℕ) → is_loose x.place w ≡ true → IsLockAt limit k bs at (left_by_all x)
  left_so w loose = go x.place loose is.rule
    where
      go : (p : LockPlace) → is_loose p w ≡ true → Rule limit k bs at x p → IsLockAt limit k bs at (record { place = p; line = []; left = true; run = x.run; last = x.last })
      go place.Free h r = absurd (cc)
      go (Granted u) h r = absurd (cc)
      go (With u) h r = absurd (cc)
      go (Loose v) h r = record {
        once = tt;
        waits = λ u e. absurd (cc);
        rule = record { block = r.block; last = r.last; ends = r.ends; release = r.release; run = r.run; first = λ e. absurd (cc) };
      }

  pub freed_so : (w : ℕ) → is_loose x.place w ≡ true → x.left ≡ true → IsLockAt limit k bs at (freed x)
  freed_so w loose left = go x.place loose is.waits is.rule
    where
      go : (p : LockPlace) → is_loose p w ≡ true → ((u : ℕ) → is_in_line (behind x.left x.line p) u ≡ true → Waits k (at u)) → Rule limit k bs at x p → IsLockAt limit k bs at (freed x)
      go place.Free h each r = absurd (cc)
      go (Granted u) h each r = absurd (cc)
      go (With u) h each r = absurd (cc)
      go (Loose v) h each r = record {
        once = is.once;
        waits = λ u e. each u (ap (λ b. is_in_line (if b then x.line else rest_of x.line) u) left ∙ e);
        rule = (refl, subst (λ o. IsShut k o) (sym r.last) r.ends);
      }
