-- Words that choose files by their names: a name, or a pattern, in which `*` stands for any characters, also none, and `?` for one (this
-- project's profile).
use Rattle.std.specs.Prelude.{ℕ, ◌/◌, ◌%◌, ◌==◌, ◌&&◌, ◌||◌, nat_le, Bool, true, false, if◌then◌else◌, Option, Some, None, List, [], ◌∷◌, length}
use Rattle.std.specs.Option.{is_some}
use Rattle.word12.specs.Sixbit.{is_digit, is_letter, sixbit_code}
use Rattle.os8_dir.specs.Entries.{is_zero}
use Rattle.os8_dir.specs.Names.{after_dot, before_dot, words_of_name}
use Rattle.name_spelling.specs.Reading.{typed_name}

-- ## The characters of a name

-- the sixbit codes of words, two in each, the high one first
abbrev pub codes_in : List ℕ → List ℕ
codes_in [] = []
codes_in (word ∷ words) = word / 0o100 ∷ word % 0o100 ∷ codes_in words

-- a code before others, but not a zero before none
abbrev pub code_before : ℕ → List ℕ → List ℕ
code_before code [] = if is_zero code then [] else code ∷ []
code_before code (next ∷ codes) = code ∷ next ∷ codes

-- codes without the zeros after the last other one
abbrev pub without_zeros : List ℕ → List ℕ
without_zeros [] = []
without_zeros (code ∷ codes) = code_before code (without_zeros codes)

-- the codes of the six characters that four words begin with
abbrev pub stem_of : List ℕ → List ℕ
stem_of (a ∷ b ∷ c ∷ extension ∷ []) = without_zeros (codes_in (a ∷ b ∷ c ∷ []))
stem_of words = []

-- the codes of the two characters of extension
abbrev pub extension_of : List ℕ → List ℕ
extension_of (a ∷ b ∷ c ∷ extension ∷ []) = without_zeros (codes_in (extension ∷ []))
extension_of words = []

-- ## Patterns

-- the sign for any characters, also none
abbrev pub is_any : ℕ → Bool
is_any character = character == 0o52

-- the sign for one character
abbrev pub is_one : ℕ → Bool
is_one character = character == 0o77

abbrev pub is_sign : ℕ → Bool
is_sign character = is_any character || is_one character

-- a code is known to be this one
abbrev pub is_code : Option ℕ → ℕ → Bool
is_code None code = false
is_code (Some known) code = known == code

-- a character of a pattern stands for a code: its own, or each where it is the sign for one
abbrev pub stands_for : ℕ → ℕ → Bool
stands_for character code = is_one character || is_code (sixbit_code character) code

-- there is no code
abbrev pub is_none_left : List ℕ → Bool
is_none_left [] = true
is_none_left (code ∷ codes) = false

-- the first code fits, and what follows it does
abbrev pub begins_so : (ℕ → Bool) → (List ℕ → Bool) → List ℕ → Bool
begins_so first following [] = false
begins_so first following (code ∷ codes) = first code && following codes

-- some end of the codes fits: all of them, or those after the first, and so on to none
abbrev pub ends_so : (List ℕ → Bool) → List ℕ → Bool
ends_so fits [] = fits []
ends_so fits (code ∷ codes) = fits (code ∷ codes) || ends_so fits codes

-- codes are like a pattern
abbrev pub like : List ℕ → List ℕ → Bool
like [] = is_none_left
like (character ∷ pattern) = if is_any character then ends_so (like pattern) else begins_so (stands_for character) (like pattern)

-- an extension is like what stands after a dot; where no dot stands, there is none
abbrev pub like_extension : Option (List ℕ) → List ℕ → Bool
like_extension None = is_none_left
like_extension (Some pattern) = like pattern

-- a name is like a pattern: the characters before the dot, and those of extension
abbrev pub is_name_like : List ℕ → ℕ → Bool
is_name_like pattern name = like (before_dot pattern) (stem_of (words_of_name name)) && like_extension (after_dot pattern) (extension_of (words_of_name name))

-- ## Words that choose

-- a sign stands in a word
abbrev pub has_sign : List ℕ → Bool
has_sign [] = false
has_sign (character ∷ word) = is_sign character || has_sign word

-- a pattern is among words: one in which a sign stands
abbrev pub has_pattern : List (List ℕ) → Bool
has_pattern [] = false
has_pattern (word ∷ words) = has_sign word || has_pattern words

-- a name is known to be this one
abbrev pub is_name : Option ℕ → ℕ → Bool
is_name None name = false
is_name (Some known) name = known == name

-- a name is like a word: where a sign stands in it, like that pattern, and else just the name that it spells
abbrev pub matches : List ℕ → ℕ → Bool
matches word name = if has_sign word then is_name_like word name else is_name (typed_name word) name

-- a name is like one of some words
abbrev pub is_like_one : List (List ℕ) → ℕ → Bool
is_like_one [] name = false
is_like_one (word ∷ words) name = matches word name || is_like_one words name

-- capital letters, digits and signs
abbrev pub are_of_pattern : List ℕ → Bool
are_of_pattern [] = true
are_of_pattern (character ∷ word) = (is_letter character || (is_digit character || is_sign character)) && are_of_pattern word

-- one of them, up to so many
abbrev pub are_within : ℕ → List ℕ → Bool
are_within most part = nat_le 1 (length part) && (nat_le (length part) most && are_of_pattern part)

-- up to four after a dot, where one stands
abbrev pub is_extension_pattern : Option (List ℕ) → Bool
is_extension_pattern None = true
is_extension_pattern (Some part) = are_within 4 part

-- up to twelve, and then nothing, or a dot and up to four more
abbrev pub is_pattern : List ℕ → Bool
is_pattern word = are_within 12 (before_dot word) && is_extension_pattern (after_dot word)

-- a word that chooses files: a name, or where a sign stands in it a pattern
abbrev pub is_choice : List ℕ → Bool
is_choice word = if has_sign word then is_pattern word else is_some (typed_name word)

-- one of some words chooses the file of a name
abbrev pub is_chosen_by : List (List ℕ) → ℕ → Bool
is_chosen_by [] name = false
is_chosen_by (word ∷ words) name = (is_choice word && matches word name) || is_chosen_by words name
