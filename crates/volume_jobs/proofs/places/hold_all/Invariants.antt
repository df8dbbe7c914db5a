use Rattle.std.proofs.Common.{◌≡◌, take, length}
use Rattle.os8_dir.specs.Files.{files_of}
use Rattle.volume_jobs.specs.Steps.{HasHeld, HoldsFirst}
use Rattle.volume_jobs.proofs.places.hold_all.Given as goal

-- the first names are held
abbrev pub invariant-loop-place : goal.invariant-loop-place
invariant-loop-place g l = record {
  size : length l.places ≡ 8;
  first : HoldsFirst (files_of l.fn.files.blocks) (take l.place l.names) l.places l.blocks.items l.total;
  held : HasHeld l.fn.files l.places l.files;
}
