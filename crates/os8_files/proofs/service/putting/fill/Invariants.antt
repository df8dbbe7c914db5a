use Rattle.std.proofs.Common.{◌≡◌, ◌+◌, ◌-◌, ◌*◌, ◌≤◌, ◌++◌, ℕ, List, length}
use Rattle.os8_files.specs.Mounted.{NewFile}
use Rattle.os8_files.specs.Steps.{HasFilled}
use Rattle.os8_files.proofs.service.putting.fill.Given as goal

-- the blocks so far are written
abbrev pub invariant-loop-written : goal.invariant-loop-written
invariant-loop-written g l = record {
  left : (256 * l.written + length l.rest ≡ 256 * l.blocks) × (l.written ≤ l.blocks);
  text : (prefix : List ℕ) × (begun : NewFile) × (l.words ≡ prefix ++ l.rest) × HasFilled l.fn.files begun prefix l.written l.files × (l.blocks ≤ begun.room) × (begun.name ≡ l.tentative);
  token : l.tentative ≡ l.fn.tentative;
}

abbrev pub decreases-loop-written : goal.decreases-loop-written
decreases-loop-written g l = l.blocks - l.written
