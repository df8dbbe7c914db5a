-- What steps of opening and saving do. No contract of a public function cites these.
use Rattle.std.specs.Prelude.{◌≡◌, ◌⊎◌, ℕ, Option, Result, Ok, Err, List}
use Rattle.hosts.specs.Event.{Event}
use Rattle.disk_layouts.specs.declared.layouts.Layout.{Layout}
use Rattle.image_kind.specs.Parts.{Parts}
use Rattle.image_kind.specs.declared.judging.Judgment.{Judgment}
use Rattle.outcome.specs.declared.endings.Ending.{Ending}
use Rattle.outcome.specs.declared.reasons.Reason.TheVariants.{NoRoom}
use Rattle.image_files.specs.Reasons.{TellsReason}
use Rattle.image_files.specs.Reading.{IsNoVolume, IsVolumeOf}
use Rattle.image_files.specs.Saving.{HasNoRoom, IsFileAround, IsRefused, WritesJudged}
use Rattle.image_files.specs.declared.images.Image.{Image}
use Rattle.image_files.specs.declared.reading.ImagePlace.{ImagePlace}

-- the image of the volume that lies so in bytes without margins, with what stands beside them
abbrev pub MakesBody : ImagePlace → Judgment → Option Layout → List ℕ → Option Parts → Result Image Ending → Type 0
MakesBody place judgment layout body parts (Ok image) = (image.place ≡ place) × (image.judgment ≡ judgment) × IsVolumeOf layout body image.bytes.items image.disk × (image.parts ≡ parts)
MakesBody place judgment layout body parts (Err ending) = IsNoVolume layout body ending

-- the file at a path gets these bytes of its volumes, with those that stand before and after them; or it has no room for them
abbrev pub WritesAround : Judgment → Option Parts → List ℕ → List ℕ → List ℕ → List Event → Result (Unit {0}) Ending → List Event → Type 0
WritesAround judgment parts path name body old result new = (IsRefused result × HasNoRoom parts body × TellsReason NoRoom name old new)
    ⊎ ((file : List ℕ) × IsFileAround parts body file × WritesJudged judgment path name file old result new)
