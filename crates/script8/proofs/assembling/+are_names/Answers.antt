use Rattle.script8.proofs.LineLemmas.{no_names}
use Rattle.script8.proofs.assembling.+are_names.Goals as goal

pub returns-then-most-eq0 : goal.returns-then-most-eq0
returns-then-most-eq0 t c = no_names c.args.most c.args.list.now c.if-most-eq0.true
