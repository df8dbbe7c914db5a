use Rattle.archive_files.proofs.PlainLemmas.{listed_direct}
use Rattle.archive_files.proofs.laws.plain_lists.Goals as goal

pub returns : goal.returns
returns c = listed_direct c.plain_names.ensures.shown c.name_as_typed.ensures
