-- The package that `adopt` gives waits for the lock.
use Rattle.std.proofs.Common.{◌≡◌, ℕ, ◌+◌, true, false, Some, None, refl, ⊎_elim, arith, ap}
use Rattle.tc_hall.proofs.Vocabulary.{Gets, IsInOrder, IsWaiting, Knows, PackageView, has, locked_in}
use Rattle.tc_context.specs.View.{WantIsLawful, granted_lock}
use Rattle.tc_hall.proofs.Cases.{apart, clash, none_of}

-- a lock that the thread doesn't hold, where none was granted, is not in a package that lies in its slot
not_inside : (word i : ℕ) (q : PackageView) → IsInOrder word q → q.granted ≡ None → has q.context.guest.held i ≡ false → locked_in q i ≡ None
not_inside word i q order granted free = none_of (locked_in q i) (λ l e. ⊎_elim
    (λ (h : has q.context.guest.held i ≡ true). apart (has q.context.guest.held i) free h)
    (λ (h : granted_lock q.granted ≡ Some i). clash (granted_lock q.granted) i (ap granted_lock granted) h)
    (order.own i l e))

pub awaits : (t i : ℕ) (q : PackageView) (v w : Knows) → Gets (256 + i) t q v w → WantIsLawful q → IsWaiting q i
awaits t i q v w got law =
    let want = got.order.waits i refl in
    let granted : q.granted ≡ None = none_of q.granted (λ g e. let k = got.order.ready g e in absurd (omega arith)) in record {
      pending = got.settled;
      granted = granted;
      want = want;
      absent = not_inside (256 + i) i q got.order granted (law i want).free;
    }
