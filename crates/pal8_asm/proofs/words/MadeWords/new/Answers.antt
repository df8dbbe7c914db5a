use Rattle.std.proofs.Common.{None, refl}
use Rattle.pal8_asm.proofs.SourceLemmas.{starts_making}
use Rattle.pal8_asm.proofs.words.MadeWords.new.Goals as goal

pub returns : goal.returns
returns c = starts_making c.new-2.result c.in_ok-cells.cells None c.new-3.result.items c.new-2.ensures (c.in_ok-cells.ensures {u = tt}) refl c.new-3.ensures.items
