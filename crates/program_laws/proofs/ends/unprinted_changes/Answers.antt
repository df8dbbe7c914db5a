use Rattle.std.proofs.Common.{Err, refl}
use Rattle.outcome.specs.Notes.{name_text}
use Rattle.outcome.specs.declared.endings.Ending.TheVariants.{FullOutput, Unreported}
use Rattle.outcome.specs.declared.notes.NameNote.TheVariants.{AsItWas, HasChange}
use Rattle.image_files.specs.declared.states.ChangeState.TheVariants as state
use Rattle.program_laws.proofs.EndLemmas.{told-at-end, told-refused}
use Rattle.program_laws.proofs.ends.unprinted_changes.Goals as goal

pub returns-clause-made : goal.returns-clause-made
returns-clause-made c is_data name notes old new status on = told-at-end is_data notes state.Made (name_text HasChange name) on.has_change (Err Unreported) refl old new status

pub returns-clause-printed : goal.returns-clause-printed
returns-clause-printed c is_data name notes old new status on = told-at-end is_data notes state.AsItWas (name_text AsItWas name) on.as_it_was (Err FullOutput) refl old new status

pub returns-clause-refused : goal.returns-clause-refused
returns-clause-refused c is_data name notes work old new status on so = told-refused is_data notes state.AsItWas (name_text AsItWas name) on.as_it_was work so old new status
