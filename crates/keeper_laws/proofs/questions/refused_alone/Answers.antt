use Rattle.keeper_laws.proofs.LeftLemmas.{refusal, untouched}
use Rattle.keeper_laws.proofs.questions.refused_alone.Goals as goal

pub returns-clause-deletes : goal.returns-clause-deletes
returns-clause-deletes c form old ending new p is = untouched old new (c.refused_changes.ensures.deletes form old ending new p (refusal ending is))

pub returns-clause-puts : goal.returns-clause-puts
returns-clause-puts c form old ending new p is = untouched old new (c.refused_changes.ensures.puts form old ending new p (refusal ending is))

pub returns-clause-copies : goal.returns-clause-copies
returns-clause-copies c form old ending new p is = untouched old new (c.refused_changes.ensures.copies form old ending new p (refusal ending is))

pub returns-clause-renames : goal.returns-clause-renames
returns-clause-renames c wanted other form old ending new p is = untouched old new (c.refused_changes.ensures.renames wanted other form old ending new p (refusal ending is))

pub returns-clause-squeezes : goal.returns-clause-squeezes
returns-clause-squeezes c form old ending new p is = untouched old new (c.refused_changes.ensures.squeezes form old ending new p (refusal ending is))
