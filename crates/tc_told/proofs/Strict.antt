-- A history that obeys the batch rule, with the workers of its blocks, obeys it whoever ran them.
use Rattle.std.proofs.Common.{◌≡◌, ℕ, ◌+◌, ◌<◌, Bool, true, false, List, [], ◌∷◌, ◌++◌, length, map, refl, ap, subst, ◌∙◌}
use Rattle.std.specs.Cmp.Derive.{both_true}
use Rattle.std.specs.Option.{option_map}
use Rattle.std.specs.Prelude.{Option, Some, None, All, if◌then◌else◌}
use Rattle.std.proofs.lemmas.Bool.{and_parts}
use Rattle.std.proofs.lemmas.List.{map-append}
use Rattle.std.proofs.lemmas.List.Elements.{All-cons, All-nil}
use Rattle.tc_elf.specs.Shown.{Shown}
use Rattle.tc_journal.specs.Batch.{begins, may_adopt, may_begin, may_go_on, may_follow, allows_of, Obeys, ObeysAfter, PassesOn, last_of, run_of}
use Rattle.tc_journal.specs.History.{IsHistory, IsHistoryFrom, IsInOrder, of_lock}
use Rattle.tc_journal.specs.declared.block.Block.{Block}
use Rattle.tc_journal.specs.declared.block.Kind.{Kind}
use Rattle.tc_journal.specs.declared.block.Kind.TheVariants as kind
use Rattle.tc_mutex_spec.specs.Machine.{State}
use Rattle.tc_mutex_spec.specs.Blocks.{Tells}
use Rattle.tc_core.specs.Core.{Limits}
use Rattle.tc_told.specs.Written.{IsWritten, KeepsRules}
use Rattle.tc_told.proofs.Small.{IsSmall}
use Rattle.tc_told.proofs.Standing.{of_one, last_one, run_one}
use Rattle.tc_told.proofs.Realized.{is_written}

begin_one : (k limit : ℕ) (o : Option Block) (run : ℕ) (kd : Kind) (w : ℕ) → may_begin k limit o run kd w ≡ true → may_begin k limit (option_map of_one o) run kd 0 ≡ true
begin_one k limit o run kind.Start w e = absurd (cc)
begin_one k limit o run kind.On w e = absurd (cc)
begin_one k limit None run kind.Taken w e = refl
begin_one k limit None run kind.Adopted w e = absurd (cc)
begin_one k limit None run kind.Granted w e = absurd (cc)
begin_one k limit (Some b) run kind.Taken w e = e
begin_one k limit (Some b) run kind.Adopted w e = both_true (and_parts (may_adopt b k run limit) _ e).0 refl
begin_one k limit (Some b) run kind.Granted w e = e

go_on_one : (k : ℕ) (o : Option Block) (t : ℕ) → may_go_on k o t ≡ true → may_go_on k (option_map of_one o) t ≡ true
go_on_one k None t e = e
go_on_one k (Some b) t e = e

follow_one : (k limit : ℕ) (bs : List Block) (b : Block) → may_follow k limit bs b ≡ true → may_follow k limit (map of_one bs) (of_one b) ≡ true
unfolding may_follow allows_of
follow_one k limit bs b e = go (begins k b) e
  where
    go : (v : Bool) → (if v then may_begin k limit (last_of bs) (run_of k bs) b.kind b.worker else may_go_on k (last_of bs) b.thread) ≡ true
        → (if v then may_begin k limit (last_of (map of_one bs)) (run_of k (map of_one bs)) b.kind 0 else may_go_on k (last_of (map of_one bs)) b.thread) ≡ true
    go true e = (λ i. may_begin k limit (last_one bs i) (run_one k 0 bs i) b.kind 0) ∙ begin_one k limit (last_of bs) (run_of k bs) b.kind b.worker e
    go false e = ap (λ o. may_go_on k o b.thread) (last_one bs) ∙ go_on_one k (last_of bs) b.thread e

pub obeys_one : (k limit : ℕ) (before bs : List Block) → ObeysAfter k limit before bs → ObeysAfter k limit (map of_one before) (map of_one bs)
obeys_one k limit before [] obeys = tt
obeys_one k limit before (b ∷ bs) obeys =
    (follow_one k limit before b obeys.0, subst (λ xs. ObeysAfter k limit xs (map of_one bs)) (map-append of_one before (b ∷ [])) (obeys_one k limit (before ++ b ∷ []) bs obeys.1))

all_small : (first : ℕ) (h : List Block) → IsHistoryFrom first h → All IsSmall h
all_small first [] is = All-nil IsSmall
all_small first (b ∷ h) is = All-cons IsSmall b h is.0.held (all_small (first + 1) h is.2)

abbrev pub run_rules : (image : Shown) (limits : Limits) (fuel : ℕ) (h : List Block) (last : State) → IsInOrder h → Tells image fuel h last → All (λ (b : Block). b.worker < limits.workers) h
    → ((k : ℕ) → k < length image.guards → Obeys k limits.batch (of_lock h k)) → ((k : ℕ) → k < length image.guards → PassesOn k (of_lock h k)) → KeepsRules image limits fuel h
run_rules image limits fuel h last stamps tells workers obeys passes = record {
  last = last;
  stamps = stamps;
  tells = tells;
  workers = workers;
  obeys = λ k lt. obeys_one k limits.batch [] (of_lock h k) (obeys k lt);
  passes = passes;
}

pub run_written : (image : Shown) (limits : Limits) (fuel : ℕ) (h : List Block) → IsHistory h → KeepsRules image limits fuel h → IsWritten image limits fuel h
run_written image limits fuel h history rules = is_written image limits fuel h (all_small 0 h history) rules
