use Rattle.std.proofs.Common.{ℕ, ◌≤◌, List, length}
use Rattle.bin_tape.specs.MapSteps.{ReadsTo}
use Rattle.bin_tape.proofs.prefixes.Prefix.take_pairs.Given as goal

abbrev pub invariant-loop-rest : goal.invariant-loop-rest
invariant-loop-rest l = record {
  reads : (whole : List ℕ) → ReadsTo whole l.fn.frames l.fn.self l.fn.words → ReadsTo whole l.rest l.prefix l.words;
  left : length l.rest ≤ length l.fn.frames;
}

abbrev pub decreases-loop-rest : goal.decreases-loop-rest
decreases-loop-rest l = length l.rest
