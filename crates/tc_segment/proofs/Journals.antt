-- Journals that grow.
use Rattle.tc_segment.proofs.Vocabulary.{◌≡◌, ℕ, List, [], ◌∷◌, ◌++◌, refl, AreReplayed, Entry, Mutex, Replays, Shown, replay_entry, replayed}

pub replayed-more : (image : Shown) (lock : ℕ) (old : Mutex) (es : List Entry) (e : Entry) → replayed image lock old (es ++ e ∷ []) ≡ replay_entry image lock e (replayed image lock old es)
replayed-more image lock old [] e = refl
replayed-more image lock old (x ∷ es) e = replayed-more image lock (replay_entry image lock x old) es e

pub are_replayed-more : (image : Shown) (lock : ℕ) (old : Mutex) (es : List Entry) (e : Entry) → AreReplayed image lock old es → Replays image lock e (replayed image lock old es) → AreReplayed image lock old (es ++ e ∷ [])
are_replayed-more image lock old [] e all more = (more, tt)
are_replayed-more image lock old (x ∷ es) e all more = (all.0, are_replayed-more image lock (replay_entry image lock x old) es e all.1 more)
