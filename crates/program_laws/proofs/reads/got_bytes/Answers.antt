use Rattle.archive_files.specs.Asking.{target_of}
use Rattle.archive_files.specs.declared.forms.GetForm.TheVariants as get_as
use Rattle.program_laws.proofs.ReadLemmas.{shows-words}
use Rattle.program_laws.proofs.reads.got_bytes.Goals as goal

pub returns-clause-frames : goal.returns-clause-frames
returns-clause-frames c file form old new p = shows-words (target_of file) get_as.Frames form old tt new p

pub returns-clause-text : goal.returns-clause-text
returns-clause-text c file form old new p = shows-words (target_of file) get_as.Text form old tt new p

pub returns-clause-tape : goal.returns-clause-tape
returns-clause-tape c file form old new p = shows-words (target_of file) get_as.Tape form old tt new p
