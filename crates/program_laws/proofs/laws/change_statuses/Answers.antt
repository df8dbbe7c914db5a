use Rattle.std.proofs.Common.{refl}
use Rattle.program_tasks.specs.declared.tasks.Task.TheVariants as task
use Rattle.change_commands.specs.Changing.{Renames, Squeezes}
use Rattle.change_commands.specs.Copying.{Copies}
use Rattle.change_commands.specs.Deleting.{Deletes}
use Rattle.put_commands.specs.Putting.{Puts}
use Rattle.archive_files.specs.Asking.{target_of}
use Rattle.keeper_laws.specs.Changes.{HasDeleted, HasRenamed, HasSqueezed}
use Rattle.keeper_laws.specs.Copied.{HasCopied}
use Rattle.keeper_laws.specs.Stored.{HasStored}
use Rattle.program_laws.proofs.StatusLemmas.{copy-reports, delete-reports, put-reports, rename-reports, squeeze-reports, task-means}
use Rattle.program_laws.proofs.laws.change_statuses.Goals as goal

pub returns-clause-puts : goal.returns-clause-puts
returns-clause-puts g c form is_typed before after =
    task-means form.image (HasStored form) (put-reports form) (Puts form) (c.ended_changes.ensures.puts form) form.image.wait form.image.file.bytes.items (task.Put form) is_typed _ refl (λ old work new p. p)

pub returns-clause-copies : goal.returns-clause-copies
returns-clause-copies g c form is_typed before after =
    task-means form.to (HasCopied form) (copy-reports form) (Copies form) (c.ended_changes.ensures.copies form) form.to.wait form.to.file.bytes.items (task.Copy form) is_typed _ refl (λ old work new p. p)

pub returns-clause-squeezes : goal.returns-clause-squeezes
returns-clause-squeezes g c form is_typed before after =
    task-means form (HasSqueezed form) (squeeze-reports form) (Squeezes form) (c.ended_changes.ensures.squeezes form) form.wait form.file.bytes.items (task.Squeeze form) is_typed _ refl (λ old work new p. p)

pub returns-clause-renames : goal.returns-clause-renames
returns-clause-renames g c form file name is_typed before after =
    task-means form (HasRenamed (target_of file) name.bytes.items form) (rename-reports (target_of file) name.bytes.items form) (Renames (target_of file) name.bytes.items form)
    (c.ended_changes.ensures.renames (target_of file) name.bytes.items form) form.wait form.file.bytes.items (task.Rename form file name) is_typed _ refl (λ old work new p. p)

pub returns-clause-deletes : goal.returns-clause-deletes
returns-clause-deletes g c form is_typed before after =
    task-means form.image (HasDeleted form) (delete-reports form) (Deletes form) (c.ended_changes.ensures.deletes form) form.image.wait form.image.file.bytes.items (task.Delete form) is_typed _ refl (λ old work new p. p)
