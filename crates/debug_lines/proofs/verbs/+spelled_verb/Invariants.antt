use Rattle.std.proofs.Common.{length}
use Rattle.debug_lines.proofs.verbs.+spelled_verb.Given as goal

abbrev pub decreases-spelled_verb : goal.decreases-spelled_verb
decreases-spelled_verb l = length l.verbs.now
