use Rattle.std.proofs.Common.{◌∙◌, sym}
use Rattle.volume_jobs.proofs.PlainLemmas.{lowest_none, lowest_is}
use Rattle.volume_jobs.proofs.table.Jobs.lowest.Goals as goal

pub returns-in-None : goal.returns-in-None
returns-in-None c = lowest_none c.args.self.now (sym c.lowest_place.ensures.place ∙ c.in-None.is)

pub returns-in-Some : goal.returns-in-Some
returns-in-Some c = lowest_is c.args.self.now c.in-Some.place (sym c.lowest_place.ensures.place ∙ c.in-Some.is)
