use Rattle.core_image.proofs.Scan.{reading_is_one}
use Rattle.core_image.proofs.laws.one_reading.Goals as goal

pub returns : goal.returns
returns c = reading_is_one
