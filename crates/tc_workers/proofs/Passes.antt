-- What the calls of the hall say of a worker's pass.
use Rattle.std.proofs.Common.{◌≡◌, ◌≢◌, ℕ, ◌+◌, List, [], ◌∷◌, ◌++◌, length, length-append, refl, sym, ap, ◌∙◌, arith, append_assoc, append-nil}
use Rattle.std.proofs.lemmas.List.Elements.{All-push}
use mathlib.Core.Option.{some}
use mathlib.Core.Logic.{dite}
use native.Mathlib.Decide.{ℕ_discrete}
use lib.ListN.{get_elem?}
use Rattle.atomic_table.proofs.Lists.{at_longer, at_last}
use Rattle.tc_context.specs.View.{PackageView}
use Rattle.tc_hall.specs.declared.board.Knows.{Knows}
use Rattle.tc_hall.specs.declared.board.PassCall.{PassCall}
use Rattle.tc_hall.specs.declared.board.PassCall.TheVariants.{Look, Stopped}
use Rattle.tc_hall.specs.declared.place.Origin.{Origin}
use Rattle.tc_hall.specs.declared.place.Origin.TheVariants as origin
use Rattle.tc_hall.specs.Places.{origin_code}
use Rattle.tc_hall.specs.PassView.{PassView}
use Rattle.tc_hall.specs.Outs.{outs, Called, Pack}
use Rattle.tc_hall.specs.Steps.{IsSamePass, Gets, HasStop, with_call, after_look, after_miss}
use Rattle.tc_combiner.specs.Walks.{HasSeenStop}
use Rattle.tc_hall.specs.Standing.{Standing, away, past, stand_from, standing_of, turns_from, turns_of, turns_past}
use Rattle.tc_hall.proofs.Standing.{standing_last, turns_last}
use Rattle.tc_ready.specs.Scan.{OnlyLooks, looks_from}
use Rattle.tc_ready.proofs.Scanning.{looked_more, nothing_looked}
use Rattle.tc_workers.specs.Worker.{HasOut, IsStill, IsUnmoved, SawEnded}
use Rattle.tc_hall.proofs.Stops.{stop_seen}

-- ---- the same pass

pub still_same : (p : PassView) → IsStill p p
still_same p = record { own = (refl, refl); image = refl; worker = refl; joined = refl }

pub still_then : (p q r : PassView) → IsStill p q → IsStill q r → IsStill p r
still_then p q r a b = record { own = (b.own.0 ∙ a.own.0, b.own.1 ∙ a.own.1); image = b.image ∙ a.image; worker = b.worker ∙ a.worker; joined = b.joined ∙ a.joined }

pub still_called : (cs : List PassCall) (p q : PassView) → IsSamePass p q → Called cs p.knows q.knows → IsStill p q
still_called cs p q own told = record { own = own; image = told.image; worker = told.worker; joined = told.joined }

pub no_call : (v : Knows) → Called [] v v
no_call v = record { image = refl; worker = refl; sealed = refl; joined = refl; calls = sym (append-nil v.calls) }

pub one_call : (v w : Knows) (c : PassCall) → w ≡ with_call v c → Called (c ∷ []) v w
one_call v w c e = record { image = ap (λ (x : Knows). x.image) e; worker = ap (λ (x : Knows). x.worker) e; sealed = ap (λ (x : Knows). x.sealed) e; joined = ap (λ (x : Knows). x.joined) e; calls = ap (λ (x : Knows). x.calls) e }

-- a call that is of no lock and no line
abbrev pub IsQuiet : PassCall → Type 0
IsQuiet c = ((i : ℕ) (s : Standing) → past i c s ≡ s) × ((t n : ℕ) → turns_past t c n ≡ n)

pub unmoved_call : (p q : PassView) (c : PassCall) → IsSamePass p q → q.knows ≡ with_call p.knows c → IsQuiet c → IsUnmoved p q
unmoved_call p q c own e quiet = record {
  still = still_called (c ∷ []) p q own (one_call p.knows q.knows c e);
  out = ap outs e;
  sealed = ap (λ (v : Knows). v.sealed) e;
  stands = λ i. ap (λ (v : Knows). standing_of i v.calls) e ∙ (standing_last i p.knows.calls c ∙ quiet.0 i (standing_of i p.knows.calls));
  turns = λ t. ap (λ (v : Knows). turns_of t v.calls) e ∙ (turns_last t p.knows.calls c ∙ quiet.1 t (turns_of t p.knows.calls));
}

pub unmoved_missed : (p q : PassView) (word found : ℕ) → IsSamePass p q → q.knows ≡ after_miss p.knows word found → IsUnmoved p q
unmoved_missed p q word found own e = record {
  still = record { own = own; image = ap (λ (v : Knows). v.image) e; worker = ap (λ (v : Knows). v.worker) e; joined = ap (λ (v : Knows). v.joined) e };
  out = ap outs e;
  sealed = ap (λ (v : Knows). v.sealed) e;
  stands = λ i. ap (λ (v : Knows). standing_of i v.calls) e;
  turns = λ t. ap (λ (v : Knows). turns_of t v.calls) e;
}

-- looks change no standing
looks_stand : (i n : ℕ) (cs : List PassCall) (words : List ℕ) (s : Standing) → stand_from i (cs ++ looks_from n words) s ≡ stand_from i cs s
looks_stand i n [] [] s = refl
looks_stand i n [] (x ∷ words) s = looks_stand i (n + 1) [] words s
looks_stand i n (c ∷ cs) words s = looks_stand i n cs words (past i c s)

looks_count : (t n : ℕ) (cs : List PassCall) (words : List ℕ) (m : ℕ) → turns_from t (cs ++ looks_from n words) m ≡ turns_from t cs m
looks_count t n [] [] m = refl
looks_count t n [] (x ∷ words) m = looks_count t (n + 1) [] words m
looks_count t n (c ∷ cs) words m = looks_count t n cs words (turns_past t c m)

pub unmoved_looked : (p q : PassView) → IsSamePass p q → OnlyLooks p.knows q.knows → IsUnmoved p q
unmoved_looked p q own h = record {
  still = record { own = own; image = ap (λ (v : Knows). v.image) h.looked; worker = ap (λ (v : Knows). v.worker) h.looked; joined = ap (λ (v : Knows). v.joined) h.looked };
  out = ap outs h.looked;
  sealed = ap (λ (v : Knows). v.sealed) h.looked;
  stands = λ i. ap (λ (v : Knows). standing_of i v.calls) h.looked ∙ looks_stand i 0 p.knows.calls h.words away;
  turns = λ t. ap (λ (v : Knows). turns_of t v.calls) h.looked ∙ looks_count t 0 p.knows.calls h.words 0;
}

pub unmoved_then : (p q r : PassView) → IsUnmoved p q → IsUnmoved q r → IsUnmoved p r
unmoved_then p q r a b = record { still = still_then p q r a.still b.still; out = b.out ∙ a.out; sealed = b.sealed ∙ a.sealed; stands = λ i. b.stands i ∙ a.stands i; turns = λ t. b.turns t ∙ a.turns t }

-- ---- a claim

pub origin_runs : (from : Origin) → origin_code from ≢ 2
origin_runs origin.Ready e = omega arith
origin_runs origin.Parked e = omega arith

pub claimed_out : (word t : ℕ) (q : PackageView) (v w : Knows) → HasOut v [] → Gets word t q v w → HasOut w (Pack q ∷ [])
claimed_out word t q v w free g = (g.came.out, g.came.before ∙ free)

-- ---- a stop

pub stop_shown : (v w : Knows) → HasSeenStop v w → HasStop w
stop_shown v w s = stop_seen (record v { calls = v.calls ++ s.front }) w s.back (s.is ∙ sym (append_assoc v.calls s.front (Stopped 1 ∷ s.back)))

-- ---- threads that have ended

pub ended_none : (v : Knows) → SawEnded 0 v v
ended_none v = record { words = []; count = refl; ended = λ i d deep. absurd (omega arith); looked = nothing_looked v; seen = λ t lt. absurd (omega arith) }

pub ended_more : (n : ℕ) (v w x : Knows) → SawEnded n v w → x ≡ after_look w n 2 → SawEnded (n + 1) v x
ended_more n v w x h look = record {
  words = h.words ++ 2 ∷ [];
  count = let l = length-append h.words (2 ∷ []) in let c = h.count in omega arith;
  ended = All-push (λ (z : ℕ). z ≡ 2) h.words 2 h.ended refl;
  looked = looked_more n h.words 2 v w x h.count h.looked look;
  seen = λ t lt. dite (ℕ_discrete t n)
      (λ (s : t ≡ n). (length w.calls, ap (λ (y : Knows). get_elem? y.calls (length w.calls)) look ∙ (at_last w.calls (Look n 2) (length w.calls) refl ∙ ap (λ (k : ℕ). some (Look k 2)) (sym s))))
      (λ (ne : t ≢ n). let old = h.seen t (omega arith) in (old.0, ap (λ (y : Knows). get_elem? y.calls old.0) look ∙ at_longer w.calls (Look n 2 ∷ []) old.0 (Look t 2) old.1));
}
