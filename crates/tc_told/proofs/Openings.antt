-- From between the blocks to where the next block may begin, by its kind.
use Rattle.std.proofs.Common.{◌≡◌, ℕ, ◌+◌, ◌<◌, Bool, true, false, not, ◌||◌, ◌==◌, List, [], ◌∷◌, ◌++◌, length, map, refl, sym, ap, subst, ◌∙◌, arith, inl, inr}
use Rattle.std.specs.Cmp.Derive.{both_true}
use Rattle.std.specs.Prelude.{Option, Some, None, is_some, nat_lt, if◌then◌else◌}
use Rattle.std.specs.Option.{option_map}
use Rattle.std.proofs.lemmas.Bool.{and_parts, not-true}
use Rattle.std.proofs.lemmas.Bool.Decides.{nat_tests, eqb_tells}
use Rattle.tc_elf.specs.Shown.{Shown}
use Rattle.tc_journal.specs.Batch.{begins, is_lock, is_section, ends_section, unlocks, ends_thread, is_only, may_adopt, may_begin, may_go_on, may_follow, allows_of, passes_on, passes_to, last_of, run_of, run_after, is_adopted}
use Rattle.tc_journal.specs.History.{of_lock, of_thread}
use Rattle.tc_journal.specs.declared.block.Block.{Block}
use Rattle.tc_journal.specs.declared.block.Kind.{Kind}
use Rattle.tc_journal.specs.declared.block.Kind.TheVariants as kind
use Rattle.tc_turn.specs.Turn.{is_running, next_lock}
use Rattle.tc_turn.proofs.Turns.{next_known}
use Rattle.tc_mutex_spec.specs.Machine.{State}
use Rattle.tc_mutex_spec.specs.Blocks.{is_first, has_block}
use Rattle.tc_core.specs.declared.event.Event.TheVariants.{Claim}
use Rattle.tc_core.specs.declared.place.ThreadPlace.TheVariants.{Ready, Waiting, Parked, Done, At}
use Rattle.tc_core.specs.declared.place.LockPlace.TheVariants.{With, Granted, Loose}
use Rattle.tc_core.specs.declared.place.LockPlace.TheVariants as place
use Rattle.tc_core.specs.declared.place.Course.{Course}
use Rattle.tc_core.specs.declared.place.Custody.{Custody}
use Rattle.tc_core.specs.Lines.{is_in_line, is_second, is_single, rest_of}
use Rattle.tc_core.specs.Lines as line
use Rattle.tc_core.specs.Core.{Limits, is_claimable, is_slept}
use Rattle.tc_core.specs.Events.{is_enabled, effect, is_worker, is_thread, is_adoptable, entered, taken_by, passed_to, left_by_all, freed}
use Rattle.tc_core.specs.Events as events
use Rattle.tc_core.proofs.Quiet.{pick_mine, pick_other, quiet_event}
use Rattle.tc_told.specs.Written.{Written, write, place_after}
use Rattle.tc_told.proofs.Leads.{Kept, Leads, stays, comes, and_then}
use Rattle.tc_told.proofs.Front.{place_by, line_by, kind_by, Front, between_quiet}
use Rattle.tc_told.proofs.Turns.{can_parts}
use Rattle.tc_told.proofs.Committed.{IsGiven, Opened, IsNext, worker_is, begins_is}
use Rattle.tc_told.proofs.Sections.{Around, claims, enters, leaves, frees, takes, ships, adopts, grants, hands_back}
use Rattle.tc_told.proofs.Standing.{of_one, last_one, run_one}
use Rattle.tc_lemmas.proofs.Tests.{eq_self}

-- the rule for the lock that the block takes, whoever runs it
allowed : (k limit : ℕ) (bs : List Block) (b : Block) → begins k b ≡ true → may_follow k limit (map of_one bs) (of_one b) ≡ true → may_begin k limit (option_map of_one (last_of bs)) (run_of k bs) b.kind 0 ≡ true
unfolding may_follow allows_of
allowed k limit bs b begin e =
    (λ i. if sym begin i then may_begin k limit (sym (last_one bs) i) (sym (run_one k 0 bs) i) b.kind 0 else may_go_on k (last_of (map of_one bs)) b.thread) ∙ e

pub passed : (k : ℕ) (bs : List Block) (b : Block) → begins k b ≡ true → passes_on k bs b ≡ true → passes_to (last_of bs) b.kind b.thread ≡ true
unfolding passes_on
passed k bs b begin e = ap (λ v. if v then passes_to (last_of bs) b.kind b.thread else true) (sym begin) ∙ e

pub adopt_ends : (c : Block) (k run limit : ℕ) → may_adopt c k run limit ≡ true → ends_section k c ≡ true
adopt_ends c k run limit e =
    (let u = and_parts (unlocks k c.end) (is_only c.held k) (and_parts _ (nat_lt run limit) e).0 in ap (λ v. v || ends_thread c.end) u.0)

-- the kind of a block that takes no lock
kind_none : (kd : Kind) (seen : Bool) → is_section kd ≡ false → is_first kd ≡ not seen → kind_by seen ≡ kd
kind_none kind.Start true s e = absurd (cc)
kind_none kind.Start false s e = refl
kind_none kind.On true s e = refl
kind_none kind.On false s e = absurd (cc)
kind_none kind.Taken seen s e = absurd (cc)
kind_none kind.Adopted seen s e = absurd (cc)
kind_none kind.Granted seen s e = absurd (cc)

run_kind : (k n : ℕ) (b : Block) (kd : Kind) → begins k b ≡ true → b.kind ≡ kd → run_after k n b ≡ (if is_adopted kd then n + 1 else 0)
run_kind k n b kd begin e = λ i. if begin i then (if is_adopted (e i) then n + 1 else 0) else n

module _ (image : Shown) (limits : Limits) (seen : List Block) (m to : State) (b : Block) (is : IsNext image limits seen m b to) where
  abbrev t : ℕ
  t = b.thread

  abbrev w : ℕ
  w = b.worker

  can : (is_thread image t ≡ true) × (is_running (m.threads t).status ≡ true)
  can = can_parts image m t (is.stands.runs.defined 0 is.stands.runs.some)

  worker : is_worker limits w ≡ true
  worker = worker_is image limits seen m to b is

  inside : t < length image.entries
  inside = (let e : is_thread image t ≡ true = can.0 in grind (arith, nat_tests))

  -- the thread rests where a worker may claim it
  claimable : is_claimable (place_after m seen t) ≡ true
  claimable = ap (λ b. is_claimable (if b then (if is_slept (option_map (λ (c : Block). c.end) (last_of (of_thread seen t))) then Parked else Ready) else Done)) can.1
      ∙ go (is_slept (option_map (λ (c : Block). c.end) (last_of (of_thread seen t))))
    where
      go : (b : Bool) → is_claimable (if b then Parked else Ready) ≡ true
      go true = refl
      go false = refl

  -- no lock is taken
  plain : (s : Written) → next_lock image (m.threads t) ≡ None → Kept s.core → Front image limits seen m s → Leads image limits s (Opened image limits seen m b)
  unfolding effect is_enabled
  plain s none kept front =
      let on : is_enabled image limits s.core (Claim w t) ≡ true = both_true worker (both_true can.0 (ap is_claimable (front.rests t inside) ∙ claimable)) in
      let out : is_section b.kind ≡ false = is.stands.section ∙ ap is_some none in
      comes image limits s (Opened image limits seen m b) (Claim w t) kept on (record {
        between = between_quiet seen m s (write image s (Claim w t)) (quiet_event image limits s.core (Claim w t) on refl) refl front.between;
        at = ap (λ (y : Course). y.place) (pick_mine t _ (s.core.course t));
        rests = λ u ne r. ap (λ (y : Course). y.place) (pick_other u t _ (s.core.course u) ne) ∙ front.rests u r;
        custody = λ k ne. front.custody k;
        given = λ k e. absurd (let f : None ≡ Some k = sym none ∙ e in cc);
        mine = front.next t ∙ ap (λ x. record { kind = x; pc = (m.threads t).regs.pc }) (kind_none b.kind (has_block seen t) out (is.stands.first out));
        next = λ u ne. front.next u;
      })

  module _ (k : ℕ) (next : next_lock image (m.threads t) ≡ Some k) where
    abbrev bs : List Block
    bs = of_lock seen k

    abbrev Is : Custody → Kind → Written → Type 0
    Is x begin = Around image limits seen m t k (At w) x begin

    known : events.is_lock image k ≡ true
    known = (let lt = next_known image (m.threads t) k next in grind (arith, nat_tests))

    begin : begins k b ≡ true
    begin = begins_is image limits seen m to b is k ∙ ap (λ o. is_lock o k) next ∙ eq_self k

    around : (s : Written) → Front image limits seen m s → Around image limits seen m t k (place_after m seen t) (s.core.custody k) (kind_by (has_block seen t)) s
    around s front = record {
      between = front.between;
      at = front.rests t inside;
      rests = λ u ne r. front.rests u r;
      lock = refl;
      custody = λ j ne. front.custody j;
      mine = front.next t;
      next = λ u ne. front.next u;
    }

    -- the lock was granted
    opened : (x : Custody) (s : Written) → IsGiven k bs b x → Is x b.kind s → Opened image limits seen m b s
    opened x s given a = record {
      between = a.between;
      at = a.at;
      rests = a.rests;
      custody = λ j ne. a.custody j (λ e. ne (next ∙ ap Some (sym e)));
      given = λ j e. subst (λ i. IsGiven i (of_lock seen i) b (s.core.custody i)) (let f : Some k ≡ Some j = sym next ∙ e in let g : k ≡ j = cc in g) (subst (λ y. IsGiven k bs b y) (sym a.lock) given);
      mine = a.mine;
      next = a.next;
    }

    -- from home
    take_free : (x : Custody) (kd : Kind) (s : Written) → x.place ≡ place.Free → x.line ≡ [] → Kept s.core → Is x kd s → Leads image limits s (Is (taken_by (entered x t) t) kind.Taken)
    take_free x kd s free empty kept a =
        and_then image limits s (Is (entered x t) kd) (Is (taken_by (entered x t) t) kind.Taken)
        (enters image limits seen m t k can.0 can.1 known next w x kd s worker (ap (λ l. is_in_line l t) empty) kept a)
        (λ y after by. takes image limits seen m t k can.0 can.1 known next w (entered x t) kd y worker (ap (λ l. line.is_first (l ++ t ∷ []) t) empty ∙ eq_self t) free after by)

    -- from where it was released: home first
    take_loose : (x : Custody) (kd : Kind) (s : Written) (c : Block) → is_worker limits c.worker ≡ true → x.place ≡ Loose c.worker → x.line ≡ c.thread ∷ [] → x.left ≡ false → Kept s.core → Is x kd s
        → Leads image limits s (Is (taken_by (entered (freed (left_by_all x)) t) t) kind.Taken)
    take_loose x kd s c there loose alone left kept a =
        let first = leaves image limits seen m t k can.0 can.1 known next c.worker x (At w) kd s there loose left (ap is_single alone) kept a in
        let home = and_then image limits s (Is (left_by_all x) kd) (Is (freed (left_by_all x)) kd) first
        (λ y after by. frees image limits seen m t k can.0 can.1 known next c.worker (left_by_all x) (At w) kd y there loose refl after by) in
        and_then image limits s (Is (freed (left_by_all x)) kd) (Is (taken_by (entered (freed (left_by_all x)) t) t) kind.Taken) home
        (λ y after by. take_free (freed (left_by_all x)) kd y refl refl after by)

    -- behind the one that released it
    waits : (x : Custody) (kd : Kind) (s : Written) (u : ℕ) → x.line ≡ u ∷ [] → (u == t) ≡ false → Kept s.core → Is x kd s → Leads image limits s (Around image limits seen m t k (Waiting k) (entered x t) kd)
    waits x kd s u alone ne kept a =
        and_then image limits s (Is (entered x t) kd) (Around image limits seen m t k (Waiting k) (entered x t) kd)
        (enters image limits seen m t k can.0 can.1 known next w x kd s worker (ap (λ l. is_in_line l t) alone ∙ ap (λ v. v || false) ne) kept a)
        (λ y after by. ships image limits seen m t k can.0 can.1 known next w (entered x t) kd y worker
        (ap (λ l. is_in_line (l ++ t ∷ []) t) alone ∙ (λ i. ne i || (eq_self t i || false)))
        (ap (λ l. line.is_first (l ++ t ∷ []) t) alone ∙ ne) after by)

    second_is : (x : Custody) (u : ℕ) → x.line ≡ u ∷ [] → is_second (x.line ++ t ∷ []) t ≡ true
    second_is x u alone = ap (λ l. is_second (l ++ t ∷ []) t) alone ∙ eq_self t

    rest_is : (x : Custody) (u : ℕ) → x.line ≡ u ∷ [] → rest_of (x.line ++ t ∷ []) ≡ t ∷ []
    rest_is x u alone = ap (λ l. rest_of (l ++ t ∷ [])) alone

    module _ (s : Written) (kept : Kept s.core) (front : Front image limits seen m s) where
      abbrev x : Custody
      x = s.core.custody k

      abbrev kd : Kind
      kd = kind_by (has_block seen t)

      abbrev Op : Written → Type 0
      Op = Opened image limits seen m b

      claimed : Leads image limits s (Is x kd)
      claimed = claims image limits seen m t k can.0 can.1 known next w (place_after m seen t) x kd s claimable worker kept (around s front)

      as_kind : (kn : Kind) (y : Custody) (z : Written) → b.kind ≡ kn → Is y kn z → Is y b.kind z
      as_kind kn y z e a = subst (λ v. Is y v z) (sym e) a

      and_leads : (y : Custody) (kn : Kind) → b.kind ≡ kn → IsGiven k bs b y → Leads image limits s (Is y kn) → Leads image limits s Op
      and_leads y kn e given r = record { events = r.events; enabled = r.enabled; kept = r.kept; comes = opened y _ given (as_kind kn y _ e r.comes) }

      taken_home : b.kind ≡ kind.Taken → last_of bs ≡ None → Leads image limits s Op
      taken_home e none =
          let cu = front.custody k in
          let free : x.place ≡ place.Free = cu.place ∙ ap (place_by k) none in
          let empty : x.line ≡ [] = cu.line ∙ ap line_by none in
          let y = taken_by (entered x t) t in
          let given : IsGiven k bs b y = record {
            place = refl;
            line = ap (λ l. l ++ t ∷ []) empty;
            left = cu.left;
            run = sym (run_kind k (run_of k bs) b kind.Taken begin e);
          } in
          let r = and_then image limits s (Is x kd) (Is y kind.Taken) claimed (λ z after by. take_free x kd z free empty after by) in
          and_leads y kind.Taken e given r

      -- the worker of a block is one
      there : (c : Block) → last_of bs ≡ Some c → is_worker limits c.worker ≡ true
      there c last = (let lt = (front.custody k).worker c last in grind (arith, nat_tests))

      loose_at : (c : Block) → last_of bs ≡ Some c → ends_section k c ≡ true → x.place ≡ Loose c.worker
      loose_at c last ends = (front.custody k).place ∙ ap (place_by k) last ∙ ap (λ v. if v then Loose c.worker else With c.thread) ends

      alone_in : (c : Block) → last_of bs ≡ Some c → x.line ≡ c.thread ∷ []
      alone_in c last = (front.custody k).line ∙ ap line_by last

      taken_on : (c : Block) → b.kind ≡ kind.Taken → last_of bs ≡ Some c → ends_section k c ≡ true → Leads image limits s Op
      taken_on c e last ends =
          let y = taken_by (entered (freed (left_by_all x)) t) t in
          let given : IsGiven k bs b y = record { place = refl; line = refl; left = refl; run = sym (run_kind k (run_of k bs) b kind.Taken begin e) } in
          and_leads y kind.Taken e given (and_then image limits s (Is x kd) (Is y kind.Taken) claimed
          (λ z after by. take_loose x kd z c (there c last) (loose_at c last ends) (alone_in c last) (front.custody k).left after by))

      -- the rule as the core has it
      rule_is : (c : Block) → last_of bs ≡ Some c → ends_section k c ≡ true → is_adoptable limits k x.run x.last ≡ may_adopt c k (run_of k bs) limits.batch
      rule_is c last ends = (λ i. is_adoptable limits k ((front.custody k).run i) ((front.custody k).last c last ends i))

      adopted : (c : Block) → b.kind ≡ kind.Adopted → last_of bs ≡ Some c → may_adopt c k (run_of k bs) limits.batch ≡ true → (c.thread == t) ≡ false → Leads image limits s Op
      adopted c e last may ne =
          let ends = adopt_ends c k (run_of k bs) limits.batch may in
          let y = passed_to (entered x t) t (x.run + 1) in
          let given : IsGiven k bs b y = record {
            place = refl;
            line = rest_is x c.thread (alone_in c last);
            left = (front.custody k).left;
            run = ap (λ n. n + 1) (front.custody k).run ∙ sym (run_kind k (run_of k bs) b kind.Adopted begin e);
          } in
          let shipped = and_then image limits s (Is x kd) (Around image limits seen m t k (Waiting k) (entered x t) kd) claimed (λ z after by. waits x kd z c.thread (alone_in c last) ne after by) in
          let passed_on = and_then image limits s (Around image limits seen m t k (Waiting k) (entered x t) kd) (Around image limits seen m t k (At c.worker) y kind.Adopted) shipped
          (λ z after by. adopts image limits seen m t k can.0 can.1 known next c.worker (entered x t) kd z (there c last) (loose_at c last ends) (front.custody k).left
          (second_is x c.thread (alone_in c last)) (rule_is c last ends ∙ may) after by) in
          and_leads y kind.Adopted e given (and_then image limits s (Around image limits seen m t k (At c.worker) y kind.Adopted) (Is y kind.Adopted) passed_on
          (λ z after by. changes_worker y z c.worker (there c last) refl (front.custody k).left (ap (λ l. line.is_first l t) (rest_is x c.thread (alone_in c last)) ∙ eq_self t) after by))
        where
          -- where another worker runs it, its thread is handed back first
          changes_worker : (y : Custody) (z : Written) (v : ℕ) → is_worker limits v ≡ true → y.place ≡ Granted t → y.left ≡ false → line.is_first y.line t ≡ true → Kept z.core → Around image limits seen m t k (At v) y kind.Adopted z
              → Leads image limits z (Is y kind.Adopted)
          changes_worker y z v there place left first after by = elim (eqb_tells v w) [
            | inl h ↦ stays image limits z (Is y kind.Adopted) after (subst (λ u. Around image limits seen m t k (At u) y kind.Adopted z) h.1 by)
            | inr h ↦ and_then image limits z (Around image limits seen m t k Ready y kind.Adopted) (Is y kind.Adopted)
                (hands_back image limits seen m t k can.0 can.1 known next v y kind.Adopted z there place left first after by)
                (λ a more on. claims image limits seen m t k can.0 can.1 known next w Ready y kind.Adopted a refl worker more on)
          ]

      granted : (c : Block) → b.kind ≡ kind.Granted → last_of bs ≡ Some c → ends_section k c ≡ true → may_adopt c k (run_of k bs) limits.batch ≡ false → (c.thread == t) ≡ false → Leads image limits s Op
      granted c e last ends may ne =
          let y = passed_to (entered x t) t 0 in
          let given : IsGiven k bs b y = record {
            place = refl;
            line = rest_is x c.thread (alone_in c last);
            left = (front.custody k).left;
            run = sym (run_kind k (run_of k bs) b kind.Granted begin e);
          } in
          let shipped = and_then image limits s (Is x kd) (Around image limits seen m t k (Waiting k) (entered x t) kd) claimed (λ z after by. waits x kd z c.thread (alone_in c last) ne after by) in
          let given_out = and_then image limits s (Around image limits seen m t k (Waiting k) (entered x t) kd) (Around image limits seen m t k Ready y kind.Granted) shipped
          (λ z after by. grants image limits seen m t k can.0 can.1 known next c.worker (entered x t) kd z (there c last) (loose_at c last ends) (front.custody k).left
          (second_is x c.thread (alone_in c last)) (rule_is c last ends ∙ may) after by) in
          and_leads y kind.Granted e given (and_then image limits s (Around image limits seen m t k Ready y kind.Granted) (Is y kind.Granted) given_out
          (λ z after by. claims image limits seen m t k can.0 can.1 known next w Ready y kind.Granted z refl worker after by))

      -- by the kind, and by the last block that had the lock
      by_kind : (kn : Kind) (o : Option Block) → b.kind ≡ kn → last_of bs ≡ o → may_begin k limits.batch (option_map of_one o) (run_of k bs) kn 0 ≡ true → passes_to o kn t ≡ true → Leads image limits s Op
      by_kind kind.Start o e last rule pass = absurd (cc)
      by_kind kind.On o e last rule pass = absurd (cc)
      by_kind kind.Taken None e last rule pass = taken_home e last
      by_kind kind.Taken (Some c) e last rule pass = taken_on c e last rule
      by_kind kind.Adopted None e last rule pass = absurd (cc)
      by_kind kind.Adopted (Some c) e last rule pass =
          (let r = and_parts (may_adopt c k (run_of k bs) limits.batch) _ rule in adopted c e last r.0 (not-true (c.thread == t) pass))
      by_kind kind.Granted None e last rule pass = absurd (cc)
      by_kind kind.Granted (Some c) e last rule pass =
          (let r = and_parts (ends_section k c) _ rule in
          granted c e last r.0 (not-true (may_adopt c k (run_of k bs) limits.batch) r.1) (not-true (c.thread == t) pass))

      section : may_follow k limits.batch (map of_one bs) (of_one b) ≡ true → passes_on k bs b ≡ true → Leads image limits s Op
      section follow pass = by_kind b.kind (last_of bs) refl refl (allowed k limits.batch bs b begin follow) (passed k bs b begin pass)

  pub opens : (s : Written) → Kept s.core → Front image limits seen m s
      → ((k : ℕ) → next_lock image (m.threads t) ≡ Some k → (may_follow k limits.batch (map of_one (of_lock seen k)) (of_one b) ≡ true) × (passes_on k (of_lock seen k) b ≡ true))
      → Leads image limits s (Opened image limits seen m b)
  opens s kept front rule = go (next_lock image (m.threads t)) refl
    where
      go : (o : Option ℕ) → next_lock image (m.threads t) ≡ o → Leads image limits s (Opened image limits seen m b)
      go None e = plain s e kept front
      go (Some k) e = (let r = rule k e in section k e s kept front r.0 r.1)
