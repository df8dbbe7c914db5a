-- What holds of words that choose files.
use Rattle.std.specs.Prelude.{◌≡◌, ℕ, true, false, codes, Some, List}
use Rattle.name_spelling.specs.Reading.{typed_name}
use Rattle.name_spelling.specs.Patterns.{has_sign, is_choice, matches}

-- `*.*` is a pattern, which each name is like
pub record AllAreLike : Type 0 where
  pub choice : is_choice (codes "*.*") ≡ true
  pub like : (name : ℕ) → matches (codes "*.*") name ≡ true

-- only the name that a word with no sign spells is like that word
abbrev pub SpelledAlone : Type 0
SpelledAlone = (word : List ℕ) (spelled name : ℕ) → has_sign word ≡ false → typed_name word ≡ Some spelled → matches word name ≡ true → name ≡ spelled
