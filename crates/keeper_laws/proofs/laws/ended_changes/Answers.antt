use Rattle.keeper_laws.proofs.ChangeLemmas.{delete-ends, rename-ends, squeeze-ends}
use Rattle.keeper_laws.proofs.CopyLemmas.{copy-ends}
use Rattle.keeper_laws.proofs.PutLemmas.{put-ends}
use Rattle.keeper_laws.proofs.laws.ended_changes.Goals as goal

pub returns-clause-puts : goal.returns-clause-puts
returns-clause-puts c = put-ends c.found_again.ensures.saved c.found_again.ensures.unsaved

pub returns-clause-copies : goal.returns-clause-copies
returns-clause-copies c = copy-ends c.found_again.ensures.saved c.found_again.ensures.unsaved

pub returns-clause-squeezes : goal.returns-clause-squeezes
returns-clause-squeezes c form = squeeze-ends c.found_again.ensures.saved c.found_again.ensures.unsaved form (c.refused_changes.ensures.squeezes form)

pub returns-clause-renames : goal.returns-clause-renames
returns-clause-renames c wanted other form = rename-ends c.found_again.ensures.saved c.found_again.ensures.unsaved wanted other form (c.refused_changes.ensures.renames wanted other form)

pub returns-clause-deletes : goal.returns-clause-deletes
returns-clause-deletes c form = delete-ends c.found_again.ensures.saved c.found_again.ensures.unsaved form (c.refused_changes.ensures.deletes form)
