use Rattle.std.proofs.Common.{◌≡◌, ◌++◌, length}
use Rattle.volume_salvage.specs.Scanning.{characters_in}
use Rattle.volume_salvage.proofs.scan_lines.put_characters.Given as goal

abbrev pub invariant-loop-rest : goal.invariant-loop-rest
invariant-loop-rest l = l.out.items ++ characters_in l.rest ≡ l.fn.out.items ++ characters_in l.fn.frames

abbrev pub decreases-loop-rest : goal.decreases-loop-rest
decreases-loop-rest l = length l.rest
