use Rattle.salvage_commands.proofs.ReplaceLemmas.{pieces-never, rescue-never}
use Rattle.salvage_commands.proofs.laws.new_files.Goals as goal

pub returns : goal.returns
returns c = record { pieces = pieces-never; rescue = rescue-never }
