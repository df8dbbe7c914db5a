use Rattle.std.proofs.Common.{refl}
use Rattle.image_files.proofs.mending.mended_bytes.Goals as goal

pub returns : goal.returns
returns g c = (c.in_ok-it.it, c.in_ok-it.ensures, refl, rw c.in_ok-lines.ensures at (rw c.as_str.ensures.value at c.tell_lines.ensures))
