-- What a place is known to be at each moment.
use Rattle.std.specs.Prelude.{◌≡◌, ◌⊎◌}
use Rattle.hosts.specs.Place.{Place, Anything}

-- what the disk is known to have of a file is what a read gives
pub record IsSound (p : Place) : Type 0 where
  pub file : (p.on_disk ≡ Anything) ⊎ (p.on_disk ≡ p.seen)
  pub beside : (p.beside_on_disk ≡ Anything) ⊎ (p.beside_on_disk ≡ p.beside)
