-- Which commands put data on standard output, and which put lines there (this project's profile).
use Rattle.std.specs.Prelude.{Bool, true, false, is_some, not}
use Rattle.program_tasks.specs.declared.tasks.Task.{Task}
use Rattle.program_tasks.specs.declared.tasks.Task.TheVariants as task
use Rattle.program_tasks.specs.declared.tasks.RimForm.{RimForm}
use Rattle.program_tasks.specs.declared.tasks.RimForm.TheVariants.{Lines, Bin}

-- A BIN tape is data, and the words of a RIM tape are lines. What is assembled onto a volume is reported by a line.
abbrev pub rim_is_data : RimForm → Bool
rim_is_data Bin = true
rim_is_data Lines = false

-- Whether what a task puts on standard output is data, so no refusal is printed there.
abbrev pub gives_data : Task → Bool
gives_data (task.Rim tape form) = rim_is_data form
gives_data (task.Source form) = true
gives_data (task.Assemble form) = not (is_some form.onto)
gives_data (task.Teletype form) = true
gives_data (task.Trace form) = true
gives_data (task.Profile form) = true
gives_data (task.Boot form) = true
gives_data (task.Get image file form) = true
gives_data (task.GetBin image file) = true
gives_data (task.GetTexts form) = true
gives_data (task.GetBlocks form) = true
gives_data (task.Index form) = true
gives_data (task.Tape tape) = false
gives_data (task.Run image form) = false
gives_data (task.Create form blocks) = false
gives_data (task.CreateTape form) = false
gives_data (task.CreateDisk form) = false
gives_data (task.CreateVolume image) = false
gives_data (task.List image) = false
gives_data (task.ListLong image year) = false
gives_data (task.ListSome form) = false
gives_data (task.GetMany form) = false
gives_data (task.Put form) = false
gives_data (task.Delete form) = false
gives_data (task.Rename image file new) = false
gives_data (task.Copy form) = false
gives_data (task.Squeeze image) = false
gives_data (task.Check form) = false
gives_data (task.Dump form) = false
gives_data (task.Patch form) = false
gives_data (task.Rescue form) = false
gives_data (task.Scan form) = false
