-- What the small steps of notes give, for private clauses.
use Rattle.std.specs.Prelude.{◌≡◌, Option, Some, None, List, [], ◌∷◌}
use Rattle.pal8_listing.specs.declared.levels.Level.{Level}

-- the first of items was taken, if there is one
abbrev pub Pops : List Level → Option Level → List Level → Type 0
Pops old None new = (old ≡ []) × (new ≡ [])
Pops old (Some level) new = old ≡ level ∷ new
