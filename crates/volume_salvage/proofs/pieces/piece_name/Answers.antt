use Rattle.std.proofs.Common.{rules}
use Rattle.volume_salvage.proofs.pieces.piece_name.Goals as goal

pub returns : goal.returns
returns c = search (rules, c.extension_of-kind.ensures, c.in_ok-name.ensures)
