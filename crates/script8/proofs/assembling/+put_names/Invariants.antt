use Rattle.std.proofs.Common.{length}
use Rattle.script8.proofs.assembling.+put_names.Given as goal

-- each name that is put leaves a shorter list
abbrev pub decreases-put_names : goal.decreases-put_names
decreases-put_names l = length l.list.now
