use Rattle.std.proofs.Common.{refl, ap, Option, Some, String, not, is_some}
use Rattle.std.specs.Global.{Global}
use Rattle.program_tasks.specs.declared.tasks.Task.TheVariants as task
use Rattle.change_commands.specs.Patching.{PatchesWord}
use Rattle.assemble_commands.specs.Assembling.{Assembles}
use Rattle.program.specs.Changes.{file_for, seconds_for}
use Rattle.program.specs.Tasks.{word_patch}
use Rattle.change_commands.specs.Creating.{CreatesVolume}
use Rattle.keeper_laws.specs.Changes.{HasEmptied, HasPatched}
use Rattle.program_laws.specs.Assembled.{HasAssembled}
use Rattle.program_laws.proofs.MadeStatusLemmas.{patch-means}
use Rattle.program_laws.proofs.StatusLemmas.{assemble-reports, asked-task-means, empty-reports, patch-reports, task-means}
use Rattle.program_laws.proofs.laws.word_statuses.Goals as goal

pub returns-clause-patches : goal.returns-clause-patches
returns-clause-patches g c form is_typed before after =
    patch-means form.image (HasPatched (word_patch form) form.image) (patch-reports (word_patch form) form.image) (PatchesWord (word_patch form) form.image) (c.ended_words.ensures.patches (word_patch form) form.image)
    form.image.wait form.image.file.bytes.items (task.Patch form) is_typed _ refl (λ old work new p. p)

pub returns-clause-empties : goal.returns-clause-empties
returns-clause-empties g c form is_typed before after =
    asked-task-means form (HasEmptied form) (empty-reports form) (CreatesVolume form) (c.ended_words.ensures.empties form) form.wait form.file.bytes.items (task.CreateVolume form) is_typed _ refl
    (Some form.file.bytes.items) (λ old work new p. p)

pub returns-clause-assembles : goal.returns-clause-assembles
returns-clause-assembles g c form named name is_typed before after old new status from onto list =
    task-means named (HasAssembled form named name.bytes.items) (assemble-reports form named name.bytes.items) (Assembles form) (λ old result new. c.ended_assemblies.ensures form named name old result new from onto list)
    (seconds_for form.from) (file_for form.from) (task.Assemble form) is_typed _ (ap (λ (o : Option (String Global)). not (is_some o)) onto) (λ old work new p. p) old new status
