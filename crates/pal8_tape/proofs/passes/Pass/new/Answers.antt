use Rattle.std.proofs.Common.{Ok, [], ap, sym}
use Rattle.pal8_tape.proofs.passes.Pass.new.Goals as goal

pub returns : goal.returns
returns c = ([], ap Ok (sym c.new.ensures))
