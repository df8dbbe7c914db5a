use Rattle.archive_many.specs.HostNames as spec
use Rattle.archive_many.proofs.HostLemmas.{long-none}
use Rattle.archive_many.proofs.host_names.raised_name.Goals as goal

pub returns-then-part-gt-MOST : goal.returns-then-part-gt-MOST
returns-then-part-gt-MOST c = long-none c.short_names.ensures.typed spec.capital_of c.args.part.now c.if-part-gt-MOST.true
