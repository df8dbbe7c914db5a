use Rattle.instructions8.proofs.NameLemmas.{permanent_code, named, different}
use Rattle.instructions8.proofs.laws.permanent_names_are_the_tables.Goals as goal

pub returns : goal.returns
returns c = record { values = permanent_code; names = named; codes = different }
