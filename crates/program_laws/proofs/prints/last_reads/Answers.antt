use Rattle.program_tasks.specs.declared.tasks.Task.TheVariants as task
use Rattle.archive_files.specs.Asking.{target_of}
use Rattle.program_laws.proofs.GotHaltLemmas.{many-halts}
use Rattle.program_laws.proofs.HaltLemmas.{dumps-halt, scan-halts, shows-halts, task-ends}
use Rattle.program_laws.proofs.prints.last_reads.Goals as goal

pub returns-clause-gets : goal.returns-clause-gets
returns-clause-gets g c form file how is_typed before after = task-ends (task.Get form file how) is_typed _ (shows-halts (target_of file) how form)

pub returns-clause-dumps : goal.returns-clause-dumps
returns-clause-dumps g c form is_typed before after = task-ends (task.Dump form) is_typed _ (dumps-halt form.span form.is_sixbit form.image)

pub returns-clause-scans : goal.returns-clause-scans
returns-clause-scans g c form is_typed before after = task-ends (task.Scan form) is_typed _ (scan-halts form.into form.image)

pub returns-clause-many : goal.returns-clause-many
returns-clause-many g c form is_typed before after = task-ends (task.GetMany form) is_typed _ (many-halts form)
