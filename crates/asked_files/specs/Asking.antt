-- Which files of a volume names and first blocks mean.
use Rattle.std.specs.Prelude.{◌≡◌, Result, Ok, Err, List, ◌++◌, map}
use Rattle.std.specs.Global.{Vec}
use Rattle.archive_files.specs.Asking.{Target, OfName, AtBlock, target_of}
use Rattle.archive_files.specs.declared.asking.Asked.{Asked}
use Rattle.refusals.specs.declared.faults.SessionFault.TheVariants.{Memory}
use Rattle.outcome.specs.declared.endings.Ending.{Ending}
use Rattle.outcome.specs.declared.endings.Ending.TheVariants.{Fault}
use Rattle.program_tasks.specs.declared.forms.DeleteForm.{DeleteForm}

-- the files of some names, and then those of some first blocks
abbrev pub wanted_files : DeleteForm → List Target
wanted_files form = map (λ name. OfName name.bytes.items) form.names.items ++ map AtBlock form.places.items

-- these files, unless memory is wanted for them
abbrev pub AreNamed : DeleteForm → Result (Vec Asked) Ending → Type 0
AreNamed form (Ok files) = map target_of files.items ≡ wanted_files form
AreNamed form (Err ending) = ending ≡ Fault Memory
