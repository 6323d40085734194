-- What lies in a slot is as the history leaves it.
use Rattle.std.proofs.Common.{◌≡◌, ℕ, ◌<◌, refl, sym, ap, ◌∙◌}
use Rattle.tc_hall.proofs.Vocabulary.{IsAsLeft, IsHome, IsLockHome, IsStateAsLeft, KeptHall, Knows, LockView, PackageView, HallTerms, end_after, get_elem?, kept, lock_of, of_thread, some, thread_in, threads}
use Rattle.tc_hall.proofs.Moves.{St}

module _ (k : HallTerms) (s : St k) (r : KeptHall k s) (id : ℕ) where
  pub left_home : (t : ℕ) (v : Knows) (p : PackageView) (h : IsHome s.words s.homes t p) → get_elem? s.views id ≡ some v → t < threads k → get_elem? r.told.places t ≡ some p → h.context.context.thread ≡ t → IsAsLeft k v h.context
  left_home t v p h at below place thread =
      let f = (r.told.law.packages_after t p place).follows in record {
        history = r.told.history;
        tells = r.told.law.tells;
        obeys = r.told.law.obeys;
        follows = record {
          thread = record {
            of = ap (λ (z : PackageView). z.image) h.same ∙ f.of;
            number = refl;
            thread = ap (λ (z : PackageView). thread_in z.context) h.same ∙ (f.thread ∙ ap (end_after k.image.value k.fuel r.told.history).threads (sym thread));
            log = ap (λ (z : PackageView). z.log) h.same ∙ (f.log ∙ ap (λ (z : ℕ). of_thread r.told.history z) (sym thread));
          };
          states = λ i l e. (let g = (r.told.law.states_after i (kept l) (r.locks_placed.packed t h.context i l below h.slot e).1).follows in
              record { of = g.of; number = g.number; lock = g.lock; entries = g.entries; bound = g.bound });
        };
        sealed = (r.passes id v at).sealed;
      }

  pub left_state : (i : ℕ) (v : Knows) (p : LockView) (h : IsLockHome (threads k) s.words s.homes i p) → get_elem? s.views id ≡ some v → get_elem? r.told.segments i ≡ some p → IsStateAsLeft k v i h.segment
  left_state i v p h at place =
      let g = (r.told.law.states_after i p place).follows in record {
        history = r.told.history;
        tells = r.told.law.tells;
        obeys = r.told.law.obeys;
        follows = record {
          of = ap (λ (z : LockView). z.journal.image) h.same ∙ g.of;
          number = ap (λ (z : LockView). z.number) h.same ∙ g.number;
          lock = ap (λ (z : LockView). lock_of z) h.same ∙ g.lock;
          entries = ap (λ (z : LockView). z.journal.sealed) h.same ∙ g.entries;
          bound = ap (λ (z : LockView). z.journal.limit) h.same ∙ g.bound;
        };
        sealed = (r.passes id v at).sealed;
      }
