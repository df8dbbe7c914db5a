use Rattle.std.proofs.Common.{◌≡◌, length}
use Rattle.volume_salvage.specs.Scanning.{from_graphic}
use Rattle.volume_salvage.proofs.scan_lines.from_graphic.Given as goal

abbrev pub invariant-loop-rest : goal.invariant-loop-rest
invariant-loop-rest l = from_graphic l.rest ≡ from_graphic l.fn.frames

abbrev pub decreases-loop-rest : goal.decreases-loop-rest
decreases-loop-rest l = length l.rest
