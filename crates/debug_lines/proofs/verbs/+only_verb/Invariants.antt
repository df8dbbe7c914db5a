use Rattle.std.proofs.Common.{length}
use Rattle.debug_lines.proofs.verbs.+only_verb.Given as goal

abbrev pub decreases-only_verb : goal.decreases-only_verb
decreases-only_verb l = length l.verbs.now
