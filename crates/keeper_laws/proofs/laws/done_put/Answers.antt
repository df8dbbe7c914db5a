use Rattle.std.proofs.Common.{Ok}
use Rattle.keeper_laws.proofs.laws.done_put.Goals as goal

pub returns : goal.returns
returns c form old new p = c.ended_changes.ensures.puts form old (Ok tt) new p
