-- How a call is noted: which it was, 1 if it succeeded, and a number. No contract of a public function cites this.
use Rattle.std.specs.Prelude.{ℕ, List, slice_index, ◌==◌}
use Rattle.hosts.specs.Raw.{Raw}

abbrev pub raw_of : List ℕ → List ℕ → List ℕ → Raw
raw_of numbers name bytes = (slice_index numbers 0, slice_index numbers 1 == 1, slice_index numbers 2, name, bytes)
