use Rattle.tc_context.proofs.Vocabulary.{◌≡◌, refl, subst, Some, LockView, StoreFits, StoreReady, lock_in}
use Rattle.tc_context.proofs.locks.LockSet.put.Goals as goal

pub store-requires : goal.store-requires
store-requires c =
    let put = c.args.put.now in
    let fits = subst (λ r. StoreFits r put.width) c.in-Guard.is c.requires.fits in
    let ready = λ (l : LockView) (found : lock_in c.args.self.now c.in-Guard.lock ≡ Some l). subst (λ r. StoreReady r c.in-Guard.lock put.addr put.width l) c.in-Guard.is (c.requires.ready c.in-Guard.lock l found) refl in
    record { width = fits.1; inside = record { place = fits.0; lock = λ l found. (ready l found).0 }; opened = record { place = fits.0; lock = λ l found. (ready l found).1 } }
