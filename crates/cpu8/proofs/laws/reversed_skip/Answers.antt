use Rattle.cpu8.proofs.InstructionLemmas.{turned_skips, turned_skips_not}
use Rattle.cpu8.proofs.laws.reversed_skip.Goals as goal

pub returns : goal.returns
returns c = record { skips = turned_skips; skips_not = turned_skips_not }
