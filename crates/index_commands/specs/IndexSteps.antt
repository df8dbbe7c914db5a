-- What steps of the code that indexes images do. No contract of a public function cites these.
use Rattle.std.specs.Prelude.{ℕ, ◌-◌, Some, Result, Ok, Err, List, drop, length, take}
use Rattle.std.specs.Global.{Vec}
use Rattle.disk_layouts.specs.declared.layouts.Layout.{Layout}
use Rattle.outcome.specs.declared.endings.Ending.{Ending}
use Rattle.index_commands.specs.Volumes.{IsImageAt, IsNoImage}

-- bytes without so many before and after them
abbrev pub inner : ℕ → ℕ → List ℕ → List ℕ
inner before after bytes = take (length bytes - before - after) (drop before bytes)

-- the image of the volume that lies in bytes as in a disk or a DECtape
abbrev pub FindsImage : Layout → List ℕ → Result (Vec ℕ) Ending → Type 0
FindsImage layout bytes (Ok image) = IsImageAt (Some layout) bytes image.items
FindsImage layout bytes (Err ending) = IsNoImage (Some layout) bytes ending
