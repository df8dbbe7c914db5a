use Rattle.std.proofs.Common.{rules, Some}
use Rattle.image_files.proofs.reading.volume_in.Goals as goal

pub returns : goal.returns
returns c = (Some c.in_ok-disk.disk, search rules)
