-- Core, as the list of its words by number of their cells.
use Rattle.std.specs.Prelude.{◌≡◌, ℕ, List, length, replicate}
use Rattle.word12.specs.declared.sizes.TheConstants.{CORE}

-- so many words that are 0
unfoldable pub zeros : ℕ → List ℕ
zeros count = replicate count 0

-- a word for each cell
abbrev pub IsCore : List ℕ → Type 0
IsCore words = length words ≡ CORE
