use Rattle.salvage_commands.proofs.FolderLemmas.{one-folder}
use Rattle.salvage_commands.proofs.PathLemmas.{pieces-alone}
use Rattle.salvage_commands.proofs.laws.written_pieces.Goals as goal

pub returns : goal.returns
returns c = record { alone = pieces-alone; made = one-folder }
