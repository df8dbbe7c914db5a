use Rattle.std.proofs.Common.{length}
use Rattle.name_spelling.proofs.patterns.+dot_in.Given as goal

abbrev pub decreases-dot_in : goal.decreases-dot_in
decreases-dot_in l = length l.word.now
