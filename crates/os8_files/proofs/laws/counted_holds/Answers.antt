use Rattle.os8_files.proofs.TimesLemmas.{times-taken, times-released, holds-order, contains-times}
use Rattle.os8_files.proofs.laws.counted_holds.Goals as goal

pub returns : goal.returns
returns c = record { taken = times-taken; released = times-released; order = holds-order; held = contains-times }
