use Rattle.std.proofs.Common.{◌≡◌, ℕ, ◌*◌, ◌<◌, length, slice_index}
use Rattle.disk_layouts.specs.declared.layouts.Layout.TheVariants.{Dectape}
use Rattle.disk_layouts.specs.Disks.{place}
use Rattle.disk_layouts.proofs.copies.tape_volume.Given as goal

abbrev pub invariant-loop-number : goal.invariant-loop-number
invariant-loop-number l = record {
  size : length l.image.items ≡ 256 * l.number;
  bytes : (k : ℕ) → k < 256 * l.number → slice_index l.image.items k ≡ slice_index l.file (place Dectape k);
}
