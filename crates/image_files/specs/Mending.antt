-- How the faults of an image file are mended in memory, and what is printed of that (this project's profile).
use Rattle.std.specs.Prelude.{◌≡◌, ℕ, Bool, Option, Result, Ok, Err, List, [], ◌∷◌}
use Rattle.std.specs.Global.{Vec}
use Rattle.hosts.specs.Event.{Event, tell_call}
use Rattle.disk_layouts.specs.declared.layouts.Layout.{Layout}
use Rattle.image_kind.specs.Lines.{mended_lines}
use Rattle.image_kind.specs.Mending.{IsMended}
use Rattle.image_kind.specs.declared.mending.MendedFile.{MendedFile}
use Rattle.outcome.specs.declared.endings.Ending.{Ending}
use Rattle.image_files.specs.Work.{Lacks}

-- lines are printed on standard error, if there are any
abbrev pub TellsLines : List ℕ → List Event → List Event → Type 0
TellsLines [] old new = new ≡ old
TellsLines (c ∷ lines) old new = (ok : Bool) × (new ≡ tell_call ok (c ∷ lines) ∷ old)

-- the bytes of a mended file, of which each fault is printed; or memory is wanted for it
abbrev pub Mends : Option Layout → Bool → List ℕ → List ℕ → List Event → Result (Vec ℕ) Ending → List Event → Type 0
Mends given is_plain name file old (Ok bytes) new =
    (it : MendedFile) × IsMended given is_plain file it × (bytes.items ≡ it.bytes.items) × TellsLines (mended_lines name it) old new
Mends given is_plain name file old (Err ending) new = Lacks old ending new
