use Rattle.std.proofs.Common.{arith}
use Rattle.std.proofs.Math.Nat.{div-le_self}
use Rattle.os8_dir.proofs.SegmentLemmas.{length-neat}
use Rattle.os8_dir.proofs.directory.Directory.segment_count.Goals as goal

pub returns-clause-most : goal.returns-clause-most
returns-clause-most c = omega (arith, div-le_self c.saturating_sub.result c.per_segment.result, length-neat c.args.self.now.entries c.entries.ensures.neat, rw c.entries.ensures.list at c.saturating_sub.ensures)
