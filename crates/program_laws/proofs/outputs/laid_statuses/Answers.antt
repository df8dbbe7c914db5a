use Rattle.std.proofs.Common.{Ok, Option, String, subst}
use Rattle.std.specs.Global.{Global}
use Rattle.program_tasks.specs.declared.tasks.Task.TheVariants as task
use Rattle.program.specs.Tasks.{ScansBlocks}
use Rattle.keeper_laws.specs.Laid.{HasGotten, HasWrittenOut}
use Rattle.program_laws.proofs.OutputLemmas.{zero-left}
use Rattle.program_laws.proofs.outputs.laid_statuses.Goals as goal

pub returns-clause-gets : goal.returns-clause-gets
returns-clause-gets g c form is_typed before after = zero-left (task.GetMany form) is_typed _ (HasGotten form) (λ old new p. c.laid_files.ensures form old new p)

pub returns-clause-scans : goal.returns-clause-scans
returns-clause-scans g c form folder is_typed before after old new into = zero-left (task.Scan form) is_typed _ (HasWrittenOut folder.bytes.items form.image)
    (λ old new p. c.laid_pieces.ensures folder.bytes.items form.image old new (subst (λ (i : Option (String Global)). ScansBlocks i form.image old (Ok tt) new) into p)) old new
