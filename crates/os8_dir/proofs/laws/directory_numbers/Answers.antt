use Rattle.os8_dir.proofs.MapLemmas.{capacity_of-read, limit_of-read, above_of-read}
use Rattle.os8_dir.proofs.laws.directory_numbers.Goals as goal

pub returns : goal.returns
returns c = record { capacity = capacity_of-read; limit = limit_of-read; above = above_of-read }
