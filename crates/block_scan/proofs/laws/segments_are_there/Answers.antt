use Rattle.block_scan.proofs.SegmentLemmas.{each-is-one}
use Rattle.block_scan.proofs.laws.segments_are_there.Goals as goal

pub returns : goal.returns
returns c = each-is-one
