use Rattle.std.proofs.Common.{length}
use Rattle.debug_lines.proofs.verbs.+begins_any.Given as goal

abbrev pub decreases-begins_any : goal.decreases-begins_any
decreases-begins_any l = length l.verbs.now
