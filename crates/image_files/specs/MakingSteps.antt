-- How a file is made where there is none of its name. No contract of a public function cites this.
use Rattle.std.specs.Prelude.{ℕ, Result, Ok, Err, List}
use Rattle.hosts.specs.Event.{Event}
use Rattle.hosts.specs.declared.faults.HostFault.{HostFault}
use Rattle.outcome.specs.declared.contents.Content.{Content}
use Rattle.image_files.specs.Making.{HasMade, HasNotMade}

abbrev pub MakesNewFile : Content → List ℕ → List ℕ → List Event → Result (Unit {0}) HostFault → List Event → Type 0
MakesNewFile content name file old (Ok it) new = HasMade content name file old new
MakesNewFile content name file old (Err fault) new = HasNotMade name file fault old new
