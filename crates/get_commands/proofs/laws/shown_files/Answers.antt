use Rattle.archive_files.specs.Getting.{Gets}
use Rattle.archive_files.specs.Asking.{target_of}
use Rattle.get_commands.proofs.Looking.{blocks-never, shows-never, tape-never}
use Rattle.get_commands.proofs.laws.shown_files.Goals as goal

pub returns : goal.returns
returns c = record { gets = λ file how. shows-never (λ bytes. Gets bytes (target_of file) how); blocks = blocks-never; tape = tape-never }
