use Rattle.std.proofs.Common.{length}
use Rattle.name_spelling.proofs.patterns.+code_count.Given as goal

abbrev pub decreases-code_count : goal.decreases-code_count
decreases-code_count l = length l.codes.now
