use Rattle.keeper_laws.proofs.PatchLemmas.{empty-ends, patch-ends}
use Rattle.keeper_laws.proofs.laws.ended_words.Goals as goal

pub returns-clause-patches : goal.returns-clause-patches
returns-clause-patches c word form old = patch-ends c.found_again.ensures.saved c.found_again.ensures.unsaved word form old

pub returns-clause-empties : goal.returns-clause-empties
returns-clause-empties c = empty-ends c.found_again.ensures.saved c.found_again.ensures.unsaved
