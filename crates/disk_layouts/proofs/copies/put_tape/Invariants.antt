use Rattle.std.proofs.Common.{◌≡◌, ℕ, ◌*◌, ◌<◌, slice_index}
use Rattle.disk_layouts.specs.declared.layouts.Layout.TheVariants.{Dectape}
use Rattle.disk_layouts.specs.Disks.{place, IsOutside}
use Rattle.disk_layouts.proofs.copies.put_tape.Given as goal

abbrev pub invariant-loop-number : goal.invariant-loop-number
invariant-loop-number l = record {
  volume : (k : ℕ) → k < 256 * l.number → slice_index l.file (place Dectape k) ≡ slice_index l.image k;
  others : (at : ℕ) → IsOutside Dectape at → slice_index l.file at ≡ slice_index l.fn.file at;
}
