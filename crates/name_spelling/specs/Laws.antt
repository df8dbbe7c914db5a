-- What holds of spelled names.
use Rattle.std.specs.Prelude.{◌≡◌, ℕ, ◌<◌, ◌≤◌, nat_eq, true, Bool, ◌&&◌, ◌||◌, Some, List, [], ◌∷◌, length}
use Rattle.word12.specs.Sixbit.{is_digit, is_letter}
use Rattle.os8_dir.specs.Entries.{IsNamed}
use Rattle.os8_dir.specs.Names.{parsed_name}
use Rattle.name_spelling.specs.Spelling.{text_of}
use Rattle.name_spelling.specs.Reading.{read_name, typed_name}

-- what is shown, read, is the name
abbrev pub ReadsWhatItSpells : Type 0
ReadsWhatItSpells = (name : ℕ) → name < 0o10000000000000000 → read_name (text_of name) ≡ Some name

-- a letter, a digit, `_` or a dot
abbrev pub is_safe : ℕ → Bool
is_safe character = is_letter character || (is_digit character || (nat_eq character 0o137 || nat_eq character 0o56))

abbrev pub are_safe : List ℕ → Bool
are_safe [] = true
are_safe (character ∷ characters) = is_safe character && are_safe characters

-- what is shown has such characters alone
abbrev pub TextsAreSafe : Type 0
TextsAreSafe = (name : ℕ) → are_safe (text_of name) ≡ true

-- what is shown of a file's name, typed, is that name
abbrev pub ShownAreTyped : Type 0
ShownAreTyped = (name : ℕ) → name < 0o10000000000000000 → IsNamed name → typed_name (text_of name) ≡ Some name

-- a name of letters and digits is typed as in a script
abbrev pub PlainAreTyped : Type 0
PlainAreTyped = (text : List ℕ) (name : ℕ) → parsed_name text ≡ Some name → typed_name text ≡ Some name

-- and is shown as it was typed
abbrev pub PlainAreAsTyped : Type 0
PlainAreAsTyped = (text : List ℕ) (name : ℕ) → parsed_name text ≡ Some name → text_of name ≡ text

-- a text that spells a name has at most 25 characters
abbrev pub TypedAreShort : Type 0
TypedAreShort = (text : List ℕ) (name : ℕ) → typed_name text ≡ Some name → length text ≤ 25

-- and so has what is shown
abbrev pub TextsAreShort : Type 0
TextsAreShort = (name : ℕ) → name < 0o10000000000000000 → length (text_of name) ≤ 25
