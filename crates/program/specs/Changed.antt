-- Which image a task may change, by its name as it was typed (this project's profile).
use Rattle.std.specs.Prelude.{ℕ, Option, None, Some, String, List}
use Rattle.std.specs.Global.{Global}
use Rattle.program_tasks.specs.declared.forms.ImageForm.{ImageForm}
use Rattle.program_tasks.specs.declared.tasks.Saving.{Saving}
use Rattle.program_tasks.specs.declared.tasks.Saving.TheVariants.{Never, AtEnd, Always}
use Rattle.program_tasks.specs.declared.tasks.Task.{Task}
use Rattle.program_tasks.specs.declared.tasks.Task.TheVariants as task
use Rattle.image_files.specs.States.{AreNotesOn}
use Rattle.image_files.specs.declared.states.ImageNotes.{ImageNotes}

-- that onto which sources are assembled
abbrev pub image_onto : Option (String Global) → Option ImageForm → Option (List ℕ)
image_onto None from = None
image_onto (Some name) None = None
image_onto (Some name) (Some image) = Some image.file.bytes.items

-- that over which a script runs, unless it is never to be saved
abbrev pub image_run : ImageForm → Saving → Option (List ℕ)
image_run image Never = None
image_run image AtEnd = Some image.file.bytes.items
image_run image Always = Some image.file.bytes.items

abbrev pub image_of : Task → Option (List ℕ)
image_of (task.Create form blocks) = Some form.file.bytes.items
image_of (task.CreateTape form) = Some form.file.bytes.items
image_of (task.CreateDisk form) = Some form.file.bytes.items
image_of (task.CreateVolume image) = Some image.file.bytes.items
image_of (task.Put form) = Some form.image.file.bytes.items
image_of (task.Delete form) = Some form.image.file.bytes.items
image_of (task.Rename image file new) = Some image.file.bytes.items
image_of (task.Copy form) = Some form.to.file.bytes.items
image_of (task.Squeeze image) = Some image.file.bytes.items
image_of (task.Patch form) = Some form.image.file.bytes.items
image_of (task.Rescue form) = Some form.new.bytes.items
image_of (task.Assemble form) = image_onto form.onto form.from
image_of (task.Run image form) = image_run image form.saving
image_of (task.Tape tape) = None
image_of (task.Rim tape form) = None
image_of (task.Source form) = None
image_of (task.Teletype form) = None
image_of (task.Trace form) = None
image_of (task.Boot form) = None
image_of (task.Profile form) = None
image_of (task.List image) = None
image_of (task.ListLong image year) = None
image_of (task.ListSome form) = None
image_of (task.Get image file form) = None
image_of (task.GetBin image file) = None
image_of (task.GetMany form) = None
image_of (task.GetTexts form) = None
image_of (task.GetBlocks form) = None
image_of (task.Check form) = None
image_of (task.Index form) = None
image_of (task.Dump form) = None
image_of (task.Scan form) = None

-- the notes on that image, where there is one
abbrev pub AreNotesFor : Option (List ℕ) → Option ImageNotes → Type 0
AreNotesFor None None = Unit {0}
AreNotesFor None (Some notes) = ⊥
AreNotesFor (Some name) None = ⊥
AreNotesFor (Some name) (Some notes) = AreNotesOn name notes
