use Rattle.std.proofs.Common.{length}
use Rattle.name_spelling.proofs.patterns.+are_of_pattern.Given as goal

abbrev pub decreases-are_of_pattern : goal.decreases-are_of_pattern
decreases-are_of_pattern l = length l.part.now
