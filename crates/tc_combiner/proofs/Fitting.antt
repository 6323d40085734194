-- A desk that fits a bench still fits it after its calls.
use Rattle.std.proofs.Common.{◌≡◌, ◌<◌, ◌≤◌, ℕ, List, length, get_or, map, Vec, sym, ap, ◌∙◌, subst, subst₂, ◌∷◌, ◌++◌, arith, Option, Some}
use Rattle.tc_combiner.proofs.Vocabulary.{AreSameSeats, AreSeats, BenchView, DeskView, Did_adopt, FitsBench, GoesOn, DeskParts, HasSeats, IsAside, IsAt, IsInHand, IsSamePass, IsSeatFor, IsSoundPackage, Item, Keeps, KeepsParts, Knows, MayAcquire, MayAsk, Owned}
use Rattle.tc_combiner.proofs.Vocabulary.{Pack, PackageView, PassView, QueueView, Sleeping, SeatView, Settled, Shown, WantIsLawful, Wants_lock, carried, desk_of, desk_with, get_or_default, length-map, locks, no_seat, packed, seat_at, threads}
use Rattle.tc_combiner.specs.Stances.{KnowsLines}
use Rattle.tc_combiner.proofs.Acting.{owned_by}
use Rattle.tc_combiner.proofs.Packages.{wants_runs}
use Rattle.tc_context.proofs.Staging.{wants_uncut}
use Rattle.std.specs.Vec.{with_items}
use Rattle.tc_combiner.proofs.Seats.{written_back}
use Rattle.tc_combiner.proofs.Owning.{without_first}

-- the seats are still of their queues
pub still_seats : (b : BenchView) (ss ts : List SeatView) → length ss ≡ locks b.hall.terms → AreSeats b.hall.terms b.queues ss → AreSameSeats ss ts → AreSeats b.hall.terms b.queues ts
still_seats b ss ts count of same i q s low =
    let deep : i < length ss = omega (arith, count, low) in
    let deeper : i < length ts = let c = same.count in omega arith in
    let old : IsSeatFor (threads b.hall.terms) (get_or b.queues i q) (seat_at ss i) = subst (λ (z : SeatView). IsSeatFor (threads b.hall.terms) (get_or b.queues i q) z) (get_or_default ss i s no_seat deep) (of i q s low) in
    let more = same.each i in
    subst (λ (z : SeatView). IsSeatFor (threads b.hall.terms) (get_or b.queues i q) z) (get_or_default ts i no_seat s deeper) (record { of = (more.0 ∙ old.of.0, more.1 ∙ old.of.1); made = old.made })

pub fits_after : (b : BenchView) (pass pass' : PassView) (ss ts : List SeatView) (sl sl' : List (Option ℕ)) (now now' : ℕ) (a a' : Option PackageView) (hs hs' : List ℕ) → FitsBench b (desk_of pass ss sl now a hs) → IsSamePass pass pass' → pass'.knows.image ≡ pass.knows.image → AreSameSeats ss ts → length sl' ≡ length sl
    → ((x : PackageView) → a' ≡ Some x → IsAside b.hall.terms x) → Owned pass'.knows (packed a') → FitsBench b (desk_of pass' ts sl' now' a' hs')
fits_after b pass pass' ss ts sl sl' now now' a a' hs hs' h own image same room aside out = record {
  hall = h.hall;
  own = own.0 ∙ h.own;
  image = image ∙ h.image;
  count = h.count;
  seats = same.count ∙ h.seats;
  of = still_seats b ss ts h.seats h.of same;
  sleepers = subst (λ (n : ℕ). threads b.hall.terms ≤ n) (sym room) h.sleepers;
  aside = aside;
  out = out;
}

-- what is set aside is out, beside what the answer carries
aside_out : (w : Knows) (r : Settled) (xs : List Item) → Owned w (carried r ++ xs) → Owned w xs
aside_out w (GoesOn q) xs o = without_first w (Pack q) xs o
aside_out w (Did_adopt q) xs o = without_first w (Pack q) xs o
aside_out w r xs o = o

pub kept : (b : BenchView) (q : PackageView) (d e : DeskView) (r : Settled) → FitsBench b d → IsInHand d q → KeepsParts b.hall.terms q d e r → Keeps b q d e r
kept b q d e r fits hand k =
    let out : Owned e.pass.knows (packed e.aside) = aside_out e.pass.knows r (packed e.aside) (owned_by d.pass.knows e.pass.knows (Pack q ∷ packed d.aside) (carried r ++ packed e.aside) k.acts.moves hand) in record {
      works = record { own = k.acts.own; now = k.clock; room = k.room };
      moves = k.acts.moves;
      readied = (k.calls, k.acts.adds, k.readied);
      lines = k.lines;
      fits = fits_after b d.pass e.pass d.seats e.seats d.sleepers e.sleepers d.now e.now d.aside e.aside d.handed e.handed fits k.acts.own k.acts.adds.told.image k.seats k.room k.aside out;
    }

-- so it is of the desk whose parts these are, and what else was done with these parts was done with the desk
module _ {S Z : Type 0} (seen : S → SeatView) (v : Vec S Z) (xs ts : List S) (e : xs ≡ v.items) where
  pub kept_back : (P : DeskView → DeskView → Type 0) (b b' : BenchView) (q : PackageView) (x y : Sleeping) (h g : DeskParts) (d : DeskView) (r : Settled) → b ≡ b' → desk_with h (map seen v.items) x ≡ d → FitsBench b' d → IsInHand d q → KeepsParts b.hall.terms q (desk_with h (map seen xs) x) (desk_with g (map seen ts) y) r
      → P (desk_with h (map seen xs) x) (desk_with g (map seen ts) y) → Keeps b' q d (desk_with g (map seen (with_items v ts).items) y) r × P d (desk_with g (map seen (with_items v ts).items) y)
  kept_back P b b' q x y h g d r bench is fits hand keeps did =
      let after : List S → DeskView = λ zs. desk_with g (map seen zs) y in
      let before : DeskView = desk_with h (map seen xs) x in
      let same : before ≡ d = ap (λ zs. desk_with h (map seen zs) x) e ∙ is in
      let all : Keeps b q before (after ts) r = kept b q before (after ts) r (subst₂ FitsBench (sym bench) (sym same) fits) (subst (λ (z : DeskView). IsInHand z q) (sym same) hand) keeps in
      subst (λ zs. Keeps b' q d (after zs) r × P d (after zs)) (sym (written_back seen v xs ts e keeps.seats))
      (subst₂ (λ (c : BenchView) (z : DeskView). Keeps c q z (after ts) r × P z (after ts)) bench same (all, did))

-- the package may ask for the lock that it wants
pub may_want : (b b' : BenchView) (d : DeskView) (q : PackageView) (i : ℕ) → b ≡ b' → FitsBench b' d → MayAcquire b'.image q → IsSoundPackage q → WantIsLawful q → Wants_lock q i → MayAsk b.hall.terms i q
may_want b b' d q i bench fits m sound law want =
    let h : FitsBench b d = subst (λ (x : BenchView). FitsBench x d) (sym bench) fits in
    let of : q.image ≡ b.image = m.of ∙ sym (ap (λ (x : BenchView). x.image) bench) in record {
      lock = subst (λ (x : Shown). i < length x.guards) (of ∙ sym h.hall) (law i want).known;
      of = of ∙ sym h.hall;
      plain = record {
        thread = subst (λ (x : Shown). q.context.thread < length x.entries) (of ∙ sym h.hall) sound.thread;
        settled = m.settled;
        granted = m.granted;
        locks = m.locks;
        ended = λ r. let t = wants_runs q i want in let n : ⊥ = cc in absurd n;
        uncut = wants_uncut q i sound want;
      };
      want = want;
    }

-- the parts of the desk at the bench
pub at_bench : (b b' : BenchView) (d : DeskView) (q : PackageView) (p : PassView) (a : Option PackageView) → b ≡ b' → FitsBench b' d → p ≡ d.pass → a ≡ d.aside → IsInHand d q → IsAt b.hall (Pack q ∷ packed a) p a
at_bench b b' d q p a bench fits e n hand = let f : FitsBench b d = subst (λ (x : BenchView). FitsBench x d) (sym bench) fits in record {
  own = ap (λ (x : PassView). x.table) e ∙ f.own;
  image = ap (λ (x : PassView). x.knows.image) e ∙ (f.image ∙ sym f.hall);
  out = subst₂ (λ (x : PassView) (y : Option PackageView). Owned x.knows (Pack q ∷ packed y)) (sym e) (sym n) hand;
  aside = λ c x. f.aside c (sym n ∙ x);
}

-- and how its pass stands at the lines
pub lines_at : (b b' : BenchView) (d e : DeskView) (q : PackageView) → b ≡ b' → e ≡ d → KnowsLines b'.hall.terms d.pass.knows (Pack q ∷ packed d.aside) → KnowsLines b.hall.terms e.pass.knows (Pack q ∷ packed e.aside)
lines_at b b' d e q bench same lines = subst₂ (λ (x : BenchView) (y : DeskView). KnowsLines x.hall.terms y.pass.knows (Pack q ∷ packed y.aside)) (sym bench) (sym same) lines

-- the queues of the bench, and the desk's seats
module _ {S X : Type 0} (queue : X → QueueView) (seen : S → SeatView) where
  pub has_seats : (b b' : BenchView) (d : DeskView) (qs : List X) (ss : List S) → b ≡ b' → FitsBench b' d → map queue qs ≡ b.queues → map seen ss ≡ d.seats → HasSeats queue seen b.hall.terms qs ss
  has_seats b b' d qs ss bench fits e n = let f : FitsBench b d = subst (λ (x : BenchView). FitsBench x d) (sym bench) fits in record {
    queues = sym (length-map qs queue) ∙ (ap (λ l. length l) e ∙ f.count);
    seats = sym (length-map ss seen) ∙ (ap (λ l. length l) n ∙ f.seats);
    of = subst₂ (λ (l : List QueueView) (m : List SeatView). AreSeats b.hall.terms l m) (sym e) (sym n) f.of;
  }
