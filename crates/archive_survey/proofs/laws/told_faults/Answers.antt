use Rattle.std.proofs.Common.{◌∙◌, sym}
use Rattle.archive_survey.proofs.WholeLemmas.{first_told, sound_unfaulted, unfaulted_sound, sound_files}
use Rattle.archive_survey.proofs.laws.told_faults.Goals as goal

pub returns-clause-first : goal.returns-clause-first
returns-clause-first c = λ image survey s. first_told s.blocks

pub returns-clause-none : goal.returns-clause-none
returns-clause-none c = λ image survey s. ((λ none. unfaulted_sound s.blocks (sym s.told.faults ∙ none)), (λ sound. s.told.faults ∙ sound_unfaulted s.blocks sound))

pub returns-clause-files : goal.returns-clause-files
returns-clause-files c = λ image survey s d is. sound_files s.blocks d is
