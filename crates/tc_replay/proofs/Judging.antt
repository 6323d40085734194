-- What a prepared package's block says of the recorded one.
use Rattle.std.proofs.Common.{◌≡◌, ◌^◌, ◌<◌, true, List, sym, ap, subst, ◌∙◌}
use Rattle.std.specs.Prelude.{Some}
use Rattle.tc_isa.specs.declared.options.Options.{Options as Terms}
use Rattle.tc_elf.specs.Shown.{Shown}
use Rattle.tc_journal.specs.Batch.{last_of}
use Rattle.tc_journal.specs.declared.block.Block.{Block}
use Rattle.tc_journal.proofs.Batching.{last_more}
use Rattle.tc_mutex_spec.specs.Blocks.{end_after}
use Rattle.tc_context.specs.View.{PackageView, IsSoundPackage, AllowsPending, Allows, fits_of, with_seal}
use Rattle.tc_context.specs.Ran.{DidRun}
use Rattle.tc_replay.specs.Rejected.{IsBlockOf, IsOfKind, IsRight, IsWrong}
use Rattle.tc_replay.specs.Run.{HaveSameTurns, IsPrepared, IsRecorded}
use Rattle.tc_replay.specs.declared.reason.Reason.TheVariants as reason
use Rattle.tc_replay.proofs.Exact.{same_turns, is_block, exact_kind, same_block, kind_right}
use Rattle.tc_replay.proofs.Wrong.{before_block, before_kind, before_worker}

module _ (image : Shown) (terms : Terms) (h : List Block) (p v : PackageView) (b x : Block) (prepared : IsPrepared image terms h p b) (sound : IsSoundPackage p) (small : b.held < 2 ^ 32)
    (ran : DidRun image p v) (last : last_of v.log ≡ Some x) where
  -- the block that was looked at is the one that ran
  is : x ≡ ran.block
  is = (let e : Some x ≡ Some ran.block = sym last ∙ ap last_of ran.log ∙ last_more p.log ran.block in cc)

  same_as : HaveSameTurns x b → HaveSameTurns ran.block b
  same_as = subst (λ y. HaveSameTurns y b) is

  kind_as : x.kind ≡ b.kind → ran.block.kind ≡ b.kind
  kind_as e = ap (λ (y : Block). y.kind) (sym is) ∙ e

  -- it isn't the recorded one
  pub wrong_block : (HaveSameTurns x b → ⊥) → IsWrong image terms h (end_after image terms.fuel h) b reason.Block
  wrong_block other = record {
    before = before_block image terms h (end_after image terms.fuel h) b prepared.thread prepared.free;
    fails = λ of. other (subst (λ y. HaveSameTurns y b) (sym is) (same_turns image terms.fuel terms.limit h p v prepared.tells prepared.follows ran sound b prepared.mine small of));
  }

  block_of : HaveSameTurns x b → IsBlockOf image (end_after image terms.fuel h) b
  block_of same = is_block image terms.fuel terms.limit h p v prepared.tells prepared.follows ran sound b prepared.mine small (same_as same)

  kind_told : HaveSameTurns x b → IsOfKind image terms.limit h (end_after image terms.fuel h) b → (ran.block.kind ≡ b.kind) × (fits_of p b.worker ≡ true)
  kind_told same kind = exact_kind image terms.fuel terms.limit h p v prepared.tells prepared.follows ran sound b prepared.mine small prepared.granted (block_of same) kind

  -- its kind is another one, or doesn't fit the worker
  pub wrong_kind : HaveSameTurns x b → (x.kind ≡ b.kind → fits_of p b.worker ≡ true → ⊥) → IsWrong image terms h (end_after image terms.fuel h) b reason.Kind
  wrong_kind same other = record {
    before = before_kind image terms h (end_after image terms.fuel h) b prepared.thread prepared.free (block_of same);
    fails = λ kind. (let told = kind_told same kind in other (ap (λ (y : Block). y.kind) is ∙ told.0) told.1);
  }

  kind_of : HaveSameTurns x b → x.kind ≡ b.kind → fits_of p b.worker ≡ true → IsOfKind image terms.limit h (end_after image terms.fuel h) b
  kind_of same kind fits = kind_right image terms.fuel terms.limit h p v prepared.tells prepared.follows ran sound b prepared.mine small (same_as same) (kind_as kind) fits prepared.obeys

  -- there is no such worker
  pub wrong_worker : HaveSameTurns x b → x.kind ≡ b.kind → fits_of p b.worker ≡ true → (b.worker < terms.workers → ⊥) → IsWrong image terms h (end_after image terms.fuel h) b reason.Worker
  wrong_worker same kind fits none = record {
    before = before_worker image terms h (end_after image terms.fuel h) b prepared.thread prepared.free (block_of same) (kind_of same kind fits);
    fails = none;
  }

  pub may_seal : fits_of p b.worker ≡ true → AllowsPending v b.worker
  may_seal fits c pending = (let e : Some ran.block ≡ Some c = sym ran.pending ∙ pending in let same : ran.block ≡ c = cc in subst (λ y. Allows v.context y b.worker) same (ran.fits b.worker fits))

  -- it is the recorded one
  pub nothing_wrong : HaveSameTurns x b → x.kind ≡ b.kind → fits_of p b.worker ≡ true → b.worker < terms.workers → (q : PackageView) → q ≡ with_seal b.stamp b.worker v
      → IsRight image terms h (end_after image terms.fuel h) b × IsRecorded image p q b
  nothing_wrong same kind fits worker q sealed = (
    record { thread = prepared.thread; free = prepared.free; block = block_of same; kind = kind_of same kind fits; worker = worker },
    record { pending = v; ran = ran; allows = ran.fits b.worker fits; sealed = sealed; is = same_block image terms.fuel terms.limit h p v prepared.tells prepared.follows ran sound b prepared.mine small (same_as same) (kind_as kind) },
  )
