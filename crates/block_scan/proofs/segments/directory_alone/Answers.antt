use Rattle.std.proofs.Common.{◌∙◌, length, slice_set, arith, ap, subst, sym}
use Rattle.block_scan.specs.SegmentSteps.{IsNone}
use Rattle.block_scan.specs.Segments.{segment_alone}
use Rattle.block_scan.proofs.SegmentLemmas.{none-or-not, read-alone}
use Rattle.block_scan.proofs.segments.directory_alone.Goals as goal

pub returns-in-Ok-clause-directory : goal.returns-in-Ok-clause-directory
returns-in-Ok-clause-directory c =
    sym (read-alone c.args.scratch.now.blocks c.write.new.self.blocks c.args.words.now (omega (arith, c.blocks-blocks.ensures.volume.least)) (omega (arith, c.requires))
    (ap (λ v. v.blocks) c.write.ensures.words ∙ ap (λ b. slice_set c.args.scratch.now.blocks 1 b) c.block_without_link-block.ensures))
    ∙ c.in-Ok.ensures.reading

pub returns-in-Err-clause-directory : goal.returns-in-Err-clause-directory
returns-in-Err-clause-directory c =
    none-or-not c.no_directory.result (segment_alone (length c.args.scratch.now.blocks) c.args.words.now)
    (subst (IsNone c.no_directory.result)
    (read-alone c.args.scratch.now.blocks c.write.new.self.blocks c.args.words.now (omega (arith, c.blocks-blocks.ensures.volume.least)) (omega (arith, c.requires))
    (ap (λ v. v.blocks) c.write.ensures.words ∙ ap (λ b. slice_set c.args.scratch.now.blocks 1 b) c.block_without_link-block.ensures))
    (c.no_directory.ensures.none _ c.in-Err.ensures.reading))
