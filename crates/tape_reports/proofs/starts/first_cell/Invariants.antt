use Rattle.std.proofs.Common.{◌≡◌, ℕ, List, take}
use Rattle.bin_tape.specs.Reading.{HasRead}
use Rattle.tape_reports.specs.Starts.{first_cell}
use Rattle.tape_reports.proofs.starts.first_cell.Given as goal

-- the reader was given the frames so far, and this is the first of the words that it handed out
abbrev pub invariant-loop-frame : goal.invariant-loop-frame
invariant-loop-frame l = (out : List (ℕ × ℕ)) × HasRead l.reader (take l.frame-index l.frames) out × (l.first ≡ first_cell out)
