-- Where the bytes of a join stand, step by step, for private clauses.
use Rattle.std.specs.Prelude.{ℕ, ◌+◌, nat_eq, if◌then◌else◌, drop, List, [], ◌∷◌, ◌++◌}
use Rattle.std.specs.Borrow.{Bor}
use Rattle.source_listing.specs.Rows.{own_ends}
use Rattle.source_listing.specs.declared.spots.Spot.{Spot}

-- The source and the line of each byte of a source's text, where it has this number and begins at a line. LF is two bytes
-- there, CR none.
abbrev pub byte_spots : ℕ → ℕ → List ℕ → List Spot
byte_spots number line [] = []
byte_spots number line (b ∷ source) =
    if nat_eq b 0o15 then byte_spots number line source
    else (if nat_eq b 0o12 then record { source = number; line = line } ∷ record { source = number; line = line } ∷ byte_spots number (line + 1) source
    else record { source = number; line = line } ∷ byte_spots number line source)

-- the source and the line of each byte of the join of sources that have so many bytes each in it
abbrev pub all_spots : ℕ → List (Bor (List ℕ)) → List ℕ → List Spot
all_spots number [] counts = []
all_spots number (source ∷ others) counts = own_ends counts (byte_spots number 1 source.now) ++ all_spots (number + 1) others (drop 1 counts)

abbrev pub no_spot : Spot
no_spot = record { source = 0; line = 0 }
