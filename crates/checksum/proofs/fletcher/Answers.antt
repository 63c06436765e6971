use mathlib.Core.Path.{ap, ◌∙◌, subst, sym}
use Rattle.std.specs.Slice.Iter.{chunks_rest, chunks_size}
use Rattle.checksum.proofs.Along.{Along, along_start, along_step, along_end}
use Rattle.paper.specs.Feed.{zero_sum}
use Rattle.checksum.proofs.fletcher.Goals as goal

pub loop-part-init : goal.loop-part-init
loop-part-init c =
    let e = c.into_iter-part-iterator.ensures.into_iter_gives in
    let rest = ap chunks_rest e ∙ c.chunks-part-items.ensures.rest in (
      subst (Along c.args.bytes.now zero_sum) (sym rest) (along_start _),
      ap chunks_size e ∙
          c.chunks-part-items.ensures.size,
    )

pub loop-part-preserved : goal.loop-part-preserved
loop-part-preserved c =
    let s = c.in-Some.ensures.steps in
    (along_step _ _ _ c.loop-part.invariant.0 s.1.0 c.block-s.ensures, s.0 ∙ c.loop-part.invariant.1)

pub returns : goal.returns
returns c = along_end _ c.loop-part.invariant.0 c.in-None.ensures.steps.1.0
