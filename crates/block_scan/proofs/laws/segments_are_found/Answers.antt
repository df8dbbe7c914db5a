use Rattle.block_scan.proofs.SegmentLemmas.{each-is-found}
use Rattle.block_scan.proofs.laws.segments_are_found.Goals as goal

pub returns : goal.returns
returns c = each-is-found
