-- Where the packages are after a step that concerns one thread and one pass.
use Rattle.std.proofs.Common.{◌≡◌, ◌≢◌, ◌⊎◌, ℕ, ◌+◌, ◌<◌, ◌==◌, Bool, true, false, cond, List, length, set, sym, ap, ◌∙◌, subst, ⊎_elim, arith, Option, Some, slice_index}
use Rattle.tc_hall.proofs.Vocabulary.{ArePlaced, Has, Homes, IsInOrder, Knows, Lies, PackageView, STOP, get_elem?, none, slot_word, some, some-injective, some-ne-none}
use Rattle.std.proofs.lemmas.Bool.Decides.{nat_tests}
use mathlib.Core.Logic.{dite}
use mathlib.Core.Option as maybe
use native.Mathlib.Decide.{ℕ_discrete}
use Rattle.atomic_table.proofs.Lists.{at_set, set_here, set_else}
use Rattle.tc_mutex_spec.proofs.ListLaws.{there}

module _ {A : Type 0} where
  abbrev pub put : (ℕ → A) → ℕ → A → ℕ → A
  put f t x u = cond (u == t) x (f u)

  pub put_here : (f : ℕ → A) (t : ℕ) (x : A) → put f t x t ≡ x
  put_here f t x = ap (λ (b : Bool). cond b x (f t)) (let r : (t == t) ≡ true = grind (arith, nat_tests) in r)

  pub put_else : (f : ℕ → A) (t : ℕ) (x : A) (u : ℕ) → u ≢ t → put f t x u ≡ f u
  put_else f t x u ne = ap (λ (b : Bool). cond b x (f u)) (let r : (u == t) ≡ false = grind (arith, nat_tests) in r)

-- the view w is v but for thread t, and for what says nothing of places
pub record IsElse (n t : ℕ) (v w : Knows) : Type 0 where
  pub worker : w.worker ≡ v.worker
  pub spent : w.spent ≡ v.spent
  pub long : length w.packages ≡ length v.packages
  pub out : (u : ℕ) → u ≢ t → get_elem? w.packages u ≡ get_elem? v.packages u
  pub open_slot : (u : ℕ) → u < n → u ≢ t → v.open_slot ≡ Some u → w.open_slot ≡ Some u
  pub hand_back : (u : ℕ) → u < n → u ≢ t → w.open_slot ≡ Some u → v.open_slot ≡ Some u

module _ (ws ws' : List ℕ) (hs hs' : Homes) (vs : List Knows) (id : ℕ) (v w : Knows) (at : get_elem? vs id ≡ some v) (stops : slice_index ws STOP ≡ 1 → slice_index ws' STOP ≡ 1) where
  in_range : id < length vs
  in_range = (there vs id v v at).0

  -- of another thread
  lies_else : (n t u : ℕ) (p : PackageView) → IsElse n t v w → u < n → u ≢ t → slice_index ws' (slot_word u) ≡ slice_index ws (slot_word u) → get_elem? hs' u ≡ get_elem? hs u
      → (o : maybe.Option ℕ) → Lies ws hs vs u p o → Lies ws' hs' (set vs id w) u p o
  lies_else n t u p e below ne word home none l = record {
    context = l.context;
    slot = home ∙ l.slot;
    same = l.same;
    word = subst (λ (x : ℕ). x < 512) (sym word) l.word;
    order = subst (λ (x : ℕ). IsInOrder x l.context) (sym word) l.order;
    fits = record { stop = λ a. stops (l.fits.stop a); fits = l.fits.fits };
  }
  lies_else n t u p e below ne word home (some j) l = dite (ℕ_discrete j id)
      (λ (is : j ≡ id). let same : v ≡ l.view = some-injective v l.view (sym at ∙ (ap (get_elem? vs) (sym is) ∙ l.pass)) in record {
        view = w;
        pass = ap (get_elem? (set vs id w)) is ∙ set_here vs id w in_range;
        has = e.out u ne ∙ (ap (λ (z : Knows). get_elem? z.packages u) same ∙ l.has);
        word = word ∙ (l.word ∙ ap (λ (k : ℕ). 512 + k) (ap (λ (z : Knows). z.worker) (sym same) ∙ sym e.worker));
        slot = λ out. home ∙ l.slot (λ open_slot. out (e.open_slot u below ne (ap (λ (z : Knows). z.open_slot) same ∙ open_slot)));
        held = λ open_slot. home ∙ l.held (ap (λ (z : Knows). z.open_slot) (sym same) ∙ e.hand_back u below ne open_slot);
      })
      (λ (isn't : j ≢ id). record { view = l.view; pass = set_else vs id j w isn't ∙ l.pass; has = l.has; word = word ∙ l.word; slot = λ out. home ∙ l.slot out; held = λ open_slot. home ∙ l.held open_slot })

  pub moves : (n : ℕ) (places places' : List PackageView) (t : ℕ) (to : maybe.Option ℕ) (pl : ArePlaced n places ws hs vs)
      → (pl.holder t ≡ none) ⊎ (pl.holder t ≡ some id)
      → ((u : ℕ) → u ≢ t → slice_index ws' (slot_word u) ≡ slice_index ws (slot_word u))
      → ((u : ℕ) → u ≢ t → get_elem? hs' u ≡ get_elem? hs u)
      → ((u : ℕ) → u ≢ t → get_elem? places' u ≡ get_elem? places u)
      → length places ≡ n → IsElse n t v w
      → ((p : PackageView) → get_elem? places' t ≡ some p → Lies ws' hs' (set vs id w) t p to)
      → ((p : PackageView) → Has w t p → (to ≡ some id) × (get_elem? places' t ≡ some p))
      → ArePlaced n places' ws' hs' (set vs id w)
  moves n places places' t to pl mine words homes others count e now own = record {
    holder = put pl.holder t to;
    each = λ u p is. dite (ℕ_discrete u t)
        (λ (same : u ≡ t). subst (λ (z : ℕ × maybe.Option ℕ). Lies ws' hs' (set vs id w) z.0 p z.1) (λ i. (sym same i, (sym (put_here pl.holder t to) ∙ ap (put pl.holder t to) (sym same)) i)) (now p (ap (get_elem? places') (sym same) ∙ is)))
        (λ (ne : u ≢ t). subst (Lies ws' hs' (set vs id w) u p) (sym (put_else pl.holder t to u ne)) (lies_else n t u p e (let b = (there places u p p (sym (others u ne) ∙ is)).0 in omega arith) ne (words u ne) (homes u ne) (pl.holder u) (pl.each u p (sym (others u ne) ∙ is))));
    sized = λ j x is live. ⊎_elim (λ (o : (j ≡ id) × (w ≡ x)). ap (λ (z : Knows). length z.packages) (sym o.1) ∙ (e.long ∙ pl.sized id v at (sym e.spent ∙ (ap (λ (z : Knows). z.spent) o.1 ∙ live)))) (λ (o : (j ≢ id) × (get_elem? vs j ≡ some x)). pl.sized j x o.1 live) (at_set vs id j w x is);
    owned = λ j x u p is has. ⊎_elim
        (λ (o : (j ≡ id) × (w ≡ x)). let has' : Has w u p = ap (λ (z : Knows). get_elem? z.packages u) o.1 ∙ has in dite (ℕ_discrete u t)
        (λ (same : u ≡ t). let h = own p (ap (get_elem? w.packages) (sym same) ∙ has') in
        (ap (put pl.holder t to) same ∙ (put_here pl.holder t to ∙ (h.0 ∙ ap (λ (z : ℕ). some z) (sym o.0))), ap (get_elem? places') same ∙ h.1))
        (λ (ne : u ≢ t). let h = pl.owned id v u p at (sym (e.out u ne) ∙ has') in
        (put_else pl.holder t to u ne ∙ (h.0 ∙ ap (λ (z : ℕ). some z) (sym o.0)), others u ne ∙ h.1)))
        (λ (o : (j ≢ id) × (get_elem? vs j ≡ some x)). let h = pl.owned j x u p o.1 has in dite (ℕ_discrete u t)
        (λ (same : u ≡ t). let there' : pl.holder t ≡ some j = ap pl.holder (sym same) ∙ h.0 in
        absurd (⊎_elim (λ (m : pl.holder t ≡ none). some-ne-none j (sym there' ∙ m)) (λ (m : pl.holder t ≡ some id). o.0 (some-injective j id (sym there' ∙ m))) mine))
        (λ (ne : u ≢ t). (put_else pl.holder t to u ne ∙ h.0, others u ne ∙ h.1)))
        (at_set vs id j w x is);
  }

  -- a step that moves no package
  pub stays : (n : ℕ) (places : List PackageView) (pl : ArePlaced n places ws hs vs) → length places ≡ n → ((u : ℕ) → u < n → slice_index ws' (slot_word u) ≡ slice_index ws (slot_word u)) → ((u : ℕ) → u < n → get_elem? hs' u ≡ get_elem? hs u)
      → w.worker ≡ v.worker → w.spent ≡ v.spent → w.packages ≡ v.packages → ((u : ℕ) → u < n → v.open_slot ≡ Some u → w.open_slot ≡ Some u) → ((u : ℕ) → u < n → w.open_slot ≡ Some u → v.open_slot ≡ Some u) → ArePlaced n places ws' hs' (set vs id w)
  stays n places pl count words homes worker spent out open_slot back = record {
    holder = pl.holder;
    each = λ u p is. lies_else n (u + 1) u p record { worker = worker; spent = spent; long = ap (λ (l : List (Option PackageView)). length l) out; out = λ x ne. ap (λ (l : List (Option PackageView)). get_elem? l x) out; open_slot = λ x b ne e. open_slot x b e; hand_back = λ x b ne e. back x b e }
        (let b = (there places u p p is).0 in omega arith) (λ e. omega arith) (words u (let b = (there places u p p is).0 in omega arith)) (homes u (let b = (there places u p p is).0 in omega arith)) (pl.holder u) (pl.each u p is);
    sized = λ j x is live. ⊎_elim (λ (o : (j ≡ id) × (w ≡ x)). ap (λ (z : Knows). length z.packages) (sym o.1) ∙ (ap (λ (l : List (Option PackageView)). length l) out ∙ pl.sized id v at (sym spent ∙ (ap (λ (z : Knows). z.spent) o.1 ∙ live)))) (λ (o : (j ≢ id) × (get_elem? vs j ≡ some x)). pl.sized j x o.1 live) (at_set vs id j w x is);
    owned = λ j x u p is has. ⊎_elim
        (λ (o : (j ≡ id) × (w ≡ x)). let h = pl.owned id v u p at (ap (λ (l : List (Option PackageView)). get_elem? l u) (sym out ∙ ap (λ (z : Knows). z.packages) o.1) ∙ has) in (h.0 ∙ ap (λ (z : ℕ). some z) (sym o.0), h.1))
        (λ (o : (j ≢ id) × (get_elem? vs j ≡ some x)). pl.owned j x u p o.1 has)
        (at_set vs id j w x is);
  }
