-- What stays true of the passes when one of them has a new view.
use Rattle.std.proofs.Common.{◌≡◌, ◌≢◌, ◌⊎◌, ℕ, ◌<◌, Bool, true, false, List, length, set, sym, refl, ap, ◌∙◌, subst, ⊎_elim, inl, slice_index, get_or-set_other}
use Rattle.tc_hall.proofs.Vocabulary.{Take, AreApart, Block, PassCall, Free, Line, HasStopped, IsPass, Knows, Look, Put, STOP, Shown, Stop, Stopped, get_elem?, slot_word, some, some-injective}
use Rattle.tc_hall.specs.declared.board.PassCall.TheVariants.{Claim, Commit}
use mathlib.Core.Logic.{dite}
use native.Mathlib.Decide.{ℕ_discrete}
use Rattle.atomic_table.proofs.Lists.{at_set, set_here, set_else}
use Rattle.tc_mutex_spec.proofs.ListLaws.{there}
use Rattle.tc_hall.proofs.Cases.{apart}

pub record IsSameRank (v w : Knows) : Type 0 where
  pub worker : w.worker ≡ v.worker
  pub maker : w.maker ≡ v.maker
  pub made : w.made ≡ v.made
  pub spent : w.spent ≡ v.spent
  pub joined : w.joined ≡ v.joined

same_rank : (v : Knows) → IsSameRank v v
same_rank v = record { worker = refl; maker = refl; made = refl; spent = refl; joined = refl }

module _ (vs : List Knows) (id : ℕ) (v w : Knows) (at : get_elem? vs id ≡ some v) where
  old_of : IsSameRank v w → (j : ℕ) (x : Knows) → get_elem? (set vs id w) j ≡ some x → (y : Knows) × (get_elem? vs j ≡ some y) × IsSameRank y x
  old_of rank j x e = ⊎_elim (λ (o : (j ≡ id) × (w ≡ x)). (v, ap (get_elem? vs) o.0 ∙ at, subst (IsSameRank v) o.1 rank)) (λ (o : (j ≢ id) × (get_elem? vs j ≡ some x)). (x, o.1, same_rank x)) (at_set vs id j w x e)

  pub apart_stays : IsSameRank v w → v.spent ≡ false → AreApart vs → AreApart (set vs id w)
  apart_stays rank live a = record {
    apart = λ i j x y ex ey lx ly e. let p = old_of rank i x ex in let q = old_of rank j y ey in
        a.apart i j p.0 q.0 p.1 q.1 (sym p.2.spent ∙ lx) (sym q.2.spent ∙ ly) (sym p.2.worker ∙ (e ∙ q.2.worker));
    joined = λ i j e x y ex ey ly h. let p = old_of rank i x ex in let q = old_of rank j y ey in
        a.joined i j e p.0 q.0 p.1 q.1 (sym q.2.spent ∙ ly) (ap (λ (l : List ℕ). get_elem? l e) (sym p.2.joined) ∙ (h ∙ ap (λ (z : ℕ). some z) q.2.worker));
    maker = λ i j x y ex ey mx ly ne. let p = old_of rank i x ex in let q = old_of rank j y ey in
        subst (λ (z : ℕ × ℕ). z.0 < z.1) (λ c. (sym q.2.worker c, sym p.2.made c)) (a.maker i j p.0 q.0 p.1 q.1 (sym p.2.maker ∙ mx) (sym q.2.spent ∙ ly) ne);
    fresh = λ i j e u x y ex mx ey h. let p = old_of rank i x ex in let q = old_of rank j y ey in
        subst (λ (z : ℕ). u < z) (sym p.2.made) (a.fresh i j e u p.0 q.0 p.1 (sym p.2.maker ∙ mx) q.1 (ap (λ (l : List ℕ). get_elem? l e) (sym q.2.joined) ∙ h));
    sole = λ i j x y ex ey mx my. let p = old_of rank i x ex in let q = old_of rank j y ey in a.sole i j p.0 q.0 p.1 q.1 (sym p.2.maker ∙ mx) (sym q.2.maker ∙ my);
    spent = λ i x e s. ⊎_elim (λ (o : (i ≡ id) × (w ≡ x)). absurd (apart w.spent (rank.spent ∙ live) (ap (λ (z : Knows). z.spent) o.1 ∙ s))) (λ (o : (i ≢ id) × (get_elem? vs i ≡ some x)). a.spent i x o.1 s) (at_set vs id i w x e);
  }

  pub stop_stays : ((i : ℕ) → get_elem? v.calls i ≡ some Stop → (j : ℕ) × (get_elem? w.calls j ≡ some Stop)) → HasStopped vs → HasStopped (set vs id w)
  stop_stays grows h = dite (ℕ_discrete h.id id)
      (λ (is : h.id ≡ id). let same : v ≡ h.view = some-injective v h.view (sym at ∙ (ap (get_elem? vs) (sym is) ∙ h.pass)) in
      let g = grows h.place (ap (λ (z : Knows). get_elem? z.calls h.place) same ∙ h.call) in
      record { id = id; view = w; pass = set_here vs id w (there vs id v v at).0; place = g.0; call = g.1 })
      (λ (ne : h.id ≢ id). record { id = h.id; view = h.view; pass = set_else vs id h.id w ne ∙ h.pass; place = h.place; call = h.call })

-- what a call says of the words of a hall of n threads holds
abbrev pub IsTrueCall : ℕ → List ℕ → PassCall → Type 0
IsTrueCall n ws (Put t place numbers given turns) = Unit {0}
IsTrueCall n ws (Claim t place numbers given turns kind) = Unit {0}
IsTrueCall n ws (Commit t b) = Unit {0}
IsTrueCall n ws (Take i) = Unit {0}
IsTrueCall n ws (Free i) = Unit {0}
IsTrueCall n ws (Line i c) = Unit {0}
IsTrueCall n ws (Look t found) = t < n → found ≡ 2 → slice_index ws (slot_word t) ≡ 2
IsTrueCall n ws Stop = slice_index ws STOP ≡ 1
IsTrueCall n ws (Stopped found) = found ≡ 1 → slice_index ws STOP ≡ 1

-- the pass of the same worker, in the same hall, which says of as many threads whether their packages fitted
abbrev pub IsSameSeat : Knows → Knows → Type 0
IsSameSeat v w = (w.worker ≡ v.worker) × (w.spent ≡ v.spent) × (w.image ≡ v.image) × (length w.pinned ≡ length v.pinned)

module _ (image : Shown) (workers : ℕ) (h h' : List Block) (ws ws' : List ℕ) (grows : (b : Block) → get_elem? h b.stamp ≡ some b → get_elem? h' b.stamp ≡ some b)
    (done : (t : ℕ) → t < length image.entries → slice_index ws (slot_word t) ≡ 2 → slice_index ws' (slot_word t) ≡ 2) (stops : slice_index ws STOP ≡ 1 → slice_index ws' STOP ≡ 1) where
  pub pass_kept : (v w : Knows) → IsPass image workers h ws v → IsSameSeat v w
      → ((i u : ℕ) → get_elem? w.joined i ≡ some u → (get_elem? v.joined i ≡ some u) ⊎ (u < workers))
      → ((i : ℕ) (b : Block) → get_elem? w.sealed i ≡ some b → (get_elem? v.sealed i ≡ some b) ⊎ (get_elem? h' b.stamp ≡ some b))
      → ((i : ℕ) (c : PassCall) → get_elem? w.calls i ≡ some c → (get_elem? v.calls i ≡ some c) ⊎ IsTrueCall (length image.entries) ws' c)
      → ((t : ℕ) → get_elem? w.pinned t ≡ some true → (get_elem? v.pinned t ≡ some true) ⊎ (slice_index ws' STOP ≡ 1))
      → IsPass image workers h' ws' w
  pass_kept v w old worker joined sealed calls pinned = record {
    of = λ live. worker.2 ∙ old.of (sym worker.1 ∙ live);
    worker = subst (λ (z : ℕ). z < workers) (sym worker.0) old.worker;
    joined = λ i u e. ⊎_elim (λ o. old.joined i u o) (λ o. o) (joined i u e);
    sealed = λ i b e. ⊎_elim (λ o. grows b (old.sealed i b o)) (λ o. o) (sealed i b e);
    done = λ i t b e. ⊎_elim (λ o. done t b (old.done i t b o)) (λ (o : IsTrueCall (length image.entries) ws' (Look t 2)). o b refl) (calls i (Look t 2) e);
    stop = λ i e. ⊎_elim (λ o. stops (old.stop i o)) (λ (o : IsTrueCall (length image.entries) ws' Stop). o) (calls i Stop e);
    stopped = λ i e. ⊎_elim (λ o. stops (old.stopped i o)) (λ (o : IsTrueCall (length image.entries) ws' (Stopped 1)). o refl) (calls i (Stopped 1) e);
    pinned = λ t e. ⊎_elim (λ o. stops (old.pinned t o)) (λ o. o) (pinned t e);
    sized = λ live. worker.3 ∙ old.sized (sym worker.1 ∙ live);
  }

  -- of a pass that told nothing new
  pub pass_same : (v w : Knows) → IsPass image workers h ws v → IsSameSeat v w → w.joined ≡ v.joined → w.sealed ≡ v.sealed → w.calls ≡ v.calls → w.pinned ≡ v.pinned → IsPass image workers h' ws' w
  pass_same v w old worker joined sealed calls pinned = pass_kept v w old worker
      (λ i u e. inl (ap (λ (l : List ℕ). get_elem? l i) (sym joined) ∙ e)) (λ i b e. inl (ap (λ (l : List Block). get_elem? l i) (sym sealed) ∙ e))
      (λ i c e. inl (ap (λ (l : List PassCall). get_elem? l i) (sym calls) ∙ e)) (λ t e. inl (ap (λ (l : List Bool). get_elem? l t) (sym pinned) ∙ e))

  pub passes_stay : (vs : List Knows) (id : ℕ) (w : Knows)
      → ((j : ℕ) (x : Knows) → get_elem? vs j ≡ some x → IsPass image workers h ws x) → IsPass image workers h' ws' w
      → (j : ℕ) (x : Knows) → get_elem? (set vs id w) j ≡ some x → IsPass image workers h' ws' x
  passes_stay vs id w all mine j x is = ⊎_elim
      (λ (o : (j ≡ id) × (w ≡ x)). subst (IsPass image workers h' ws') o.1 mine)
      (λ (o : (j ≢ id) × (get_elem? vs j ≡ some x)). pass_same x x (all j x o.1) (refl, refl, refl, refl) refl refl refl refl)
      (at_set vs id j w x is)

-- a word that isn't 2 changes
pub done_still : (n : ℕ) (ws : List ℕ) (j new : ℕ) → slice_index ws j ≢ 2 → (u : ℕ) → u < n → slice_index ws (slot_word u) ≡ 2 → slice_index (set ws j new) (slot_word u) ≡ 2
done_still n ws j new ne u b e = get_or-set_other ws j (slot_word u) new 0 (λ (z : slot_word u ≡ j). ne (ap (λ (x : ℕ). slice_index ws x) (sym z) ∙ e)) ∙ e

pub stops_still : (ws : List ℕ) (j new : ℕ) → j ≢ STOP → slice_index ws STOP ≡ 1 → slice_index (set ws j new) STOP ≡ 1
stops_still ws j new ne e = get_or-set_other ws j STOP new 0 (λ z. ne (sym z)) ∙ e

pub stops_back : (ws : List ℕ) (j new : ℕ) → j ≢ STOP → slice_index (set ws j new) STOP ≡ 1 → slice_index ws STOP ≡ 1
stops_back ws j new ne e = sym (get_or-set_other ws j STOP new 0 (λ z. ne (sym z))) ∙ e
