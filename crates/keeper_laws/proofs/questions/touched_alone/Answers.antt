use Rattle.keeper_laws.proofs.LeftLemmas.{touched-alone}
use Rattle.keeper_laws.proofs.questions.touched_alone.Goals as goal

pub returns-clause-puts : goal.returns-clause-puts
returns-clause-puts c form old result new p = touched-alone form.image old new (c.touched_files.ensures.puts form old result new p)

pub returns-clause-copies : goal.returns-clause-copies
returns-clause-copies c form old result new p = touched-alone form.to old new (c.touched_files.ensures.copies form old result new p)

pub returns-clause-squeezes : goal.returns-clause-squeezes
returns-clause-squeezes c form old result new p = touched-alone form old new (c.touched_files.ensures.squeezes form old result new p)

pub returns-clause-renames : goal.returns-clause-renames
returns-clause-renames c wanted other form old result new p = touched-alone form old new (c.touched_files.ensures.renames wanted other form old result new p)

pub returns-clause-deletes : goal.returns-clause-deletes
returns-clause-deletes c form old result new p = touched-alone form.image old new (c.touched_files.ensures.deletes form old result new p)

pub returns-clause-patches : goal.returns-clause-patches
returns-clause-patches c word form old result new p = touched-alone form old new (c.touched_files.ensures.patches word form old result new p)

pub returns-clause-empties : goal.returns-clause-empties
returns-clause-empties c form old result new p = touched-alone form old new (c.touched_files.ensures.empties form old result new p)
