use Rattle.run_commands.proofs.ConsoleLemmas.{ready-keeps, unsaved-keeps}
use Rattle.run_commands.proofs.KeepLemmas.{profile-keeps, trace-keeps, teletype-keeps}
use Rattle.run_commands.proofs.laws.unchanged_files.Goals as goal

pub returns-clause-profile : goal.returns-clause-profile
returns-clause-profile g c = profile-keeps c.kept_files.ensures.prints c.unchanged_files.ensures.program c.unchanged_files.ensures.frames c.prints_alone.ensures.files

pub returns-clause-trace : goal.returns-clause-trace
returns-clause-trace g c = trace-keeps c.kept_files.ensures.prints c.unchanged_files.ensures.program c.unchanged_files.ensures.frames c.prints_alone.ensures.files

pub returns-clause-teletype : goal.returns-clause-teletype
returns-clause-teletype g c form before after is none = teletype-keeps c.kept_files.ensures.prints c.unchanged_files.ensures.program c.unchanged_files.ensures.frames c.prints_alone.ensures.files form _ is none

pub returns-clause-boot : goal.returns-clause-boot
returns-clause-boot g c form before after is none = unsaved-keeps c.prints_alone.ensures.files form _ is none

pub returns-clause-refused : goal.returns-clause-refused
returns-clause-refused g c form none = ready-keeps form none
