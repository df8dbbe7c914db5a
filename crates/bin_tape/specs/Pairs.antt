-- Words with their cells, in the order of a tape.
use Rattle.std.specs.Prelude.{◌≡◌, ℕ, ◌<◌, nat_eq, if◌then◌else◌, Option, Some, None, List, [], ◌∷◌}
use Rattle.word12.specs.declared.sizes.TheConstants.{CORE}
use Rattle.std.specs.Option.{option_or}
use Rattle.bin_tape.specs.Items.{Item, words_of, tape_map}
use Rattle.bin_tape.specs.Tape.{IsTape}

-- each is a cell of core with a word of twelve bits
abbrev pub ArePairs : List (ℕ × ℕ) → Type 0
ArePairs [] = Unit {0}
ArePairs (pair ∷ later) = (pair.0 < CORE) × (pair.1 < 0o10000) × ArePairs later

-- the word of the last pair at a cell
abbrev pub last_word : List (ℕ × ℕ) → ℕ → Option ℕ
last_word [] cell = None
last_word (pair ∷ later) cell = option_or (last_word later cell) (if nat_eq pair.0 cell then Some pair.1 else None)

-- the frames are a tape whose words are these
pub record IsTapeOf (frames : List ℕ) (pairs : List (ℕ × ℕ)) : Type 0 where
  pub items : List Item
  pub is_tape : IsTape frames items
  pub words : words_of items ≡ pairs
  -- each cell has the word of the last pair there
  pub map : (cell : ℕ) → tape_map items cell ≡ last_word pairs cell
