-- Which tasks may change a file of the host.
use Rattle.std.specs.Prelude.{Bool, true, false, ◌||◌, is_some}
use Rattle.drive_files.specs.Opening.{are_saved}
use Rattle.drive_files.specs.Devices.{has_papers}
use Rattle.program_tasks.specs.declared.tasks.AssembleForm.{AssembleForm}
use Rattle.program_tasks.specs.declared.tasks.Saving.{Saving}
use Rattle.program_tasks.specs.declared.tasks.Saving.TheVariants.{AtEnd, Never, Always}
use Rattle.program_tasks.specs.declared.tasks.Task.{Task}
use Rattle.program_tasks.specs.declared.tasks.Task.TheVariants as task

-- a run saves the image
abbrev pub saves : Saving → Bool
saves AtEnd = true
saves Never = false
saves Always = true

-- a file is named for the tape or the listing
abbrev pub has_output : AssembleForm → Bool
has_output form = is_some form.onto || (is_some form.output || is_some form.list)

-- A task may change a file, or make one. All others only read and print.
abbrev pub may_change : Task → Bool
may_change (task.Tape tape) = false
may_change (task.Rim tape form) = false
may_change (task.Source form) = false
may_change (task.Run image form) = saves form.saving
may_change (task.Create form blocks) = true
may_change (task.CreateTape form) = true
may_change (task.CreateDisk form) = true
may_change (task.CreateVolume image) = true
may_change (task.List image) = false
may_change (task.ListLong image year) = false
may_change (task.ListSome form) = false
may_change (task.Get image file form) = false
may_change (task.GetBin image file) = false
may_change (task.GetMany form) = true
may_change (task.GetTexts form) = false
may_change (task.GetBlocks form) = false
may_change (task.Put form) = true
may_change (task.Delete form) = true
may_change (task.Rename image file new) = true
may_change (task.Copy form) = true
may_change (task.Squeeze image) = true
may_change (task.Check form) = false
may_change (task.Dump form) = false
may_change (task.Patch form) = true
may_change (task.Index form) = false
may_change (task.Rescue form) = true
may_change (task.Scan form) = is_some form.into
may_change (task.Assemble form) = has_output form
may_change (task.Teletype form) = are_saved form.console.disk || has_papers form.console.devices
may_change (task.Trace form) = are_saved form.disk || has_papers form.devices
may_change (task.Profile form) = are_saved form.disk || has_papers form.devices
may_change (task.Boot form) = are_saved form.disk || has_papers form.devices
