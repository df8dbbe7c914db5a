-- Which name a text spells (this project's profile).
use Rattle.std.specs.Prelude.{ℕ, ◌+◌, ◌*◌, ◌/◌, nat_eq, nat_lt, if◌then◌else◌, Option, Some, None, List, [], ◌∷◌, drop, length, take}
use Rattle.word12.specs.Octal.{octal_of}
use Rattle.word12.specs.Sixbit.{sixbit_code}
use Rattle.os8_dir.specs.Names.{before_dot, name_of}

-- a code that takes so many characters
abbrev pub taking : ℕ → Option ℕ → Option (ℕ × ℕ)
taking count None = None
taking count (Some code) = Some (code, count)

-- The next code of a text, and how many characters it takes. `_` and two octal digits are one code, and a letter or a digit is
-- its own. After the end zeros follow.
abbrev pub next_code : List ℕ → Option (ℕ × ℕ)
next_code [] = Some (0, 0)
next_code (first ∷ []) = taking 1 (sixbit_code first)
next_code (first ∷ second ∷ []) = taking 1 (sixbit_code first)
next_code (first ∷ second ∷ third ∷ rest) =
    if nat_eq first 0o137 then taking 3 (octal_of 2 (second ∷ third ∷ [])) else taking 1 (sixbit_code first)

-- a word of a code and the next
abbrev pub with_low : ℕ × ℕ → Option (ℕ × ℕ) → Option (ℕ × ℕ)
with_low high None = None
with_low high (Some low) = Some (0o100 * high.0 + low.0, high.1 + low.1)

abbrev pub with_high : List ℕ → Option (ℕ × ℕ) → Option (ℕ × ℕ)
with_high text None = None
with_high text (Some high) = with_low high (next_code (drop high.1 text))

-- the word of the next two codes, and how many characters they take
abbrev pub word_in : List ℕ → Option (ℕ × ℕ)
word_in text = with_high text (next_code text)

-- a last word, after which nothing stands
abbrev pub last_in : List ℕ → Option (ℕ × ℕ) → Option ℕ
last_in text None = None
last_in text (Some word) = if nat_lt word.1 (length text) then None else Some word.0

-- the word of an extension from its dot on; a dot alone has none
abbrev pub extension_in : List ℕ → Option ℕ
extension_in [] = Some 0
extension_in (dot ∷ []) = None
extension_in (dot ∷ first ∷ codes) = last_in (first ∷ codes) (word_in (first ∷ codes))

abbrev pub three : ℕ → ℕ → Option ℕ → Option (ℕ × ℕ × ℕ)
three first second None = None
three first second (Some third) = Some (first, second, third)

abbrev pub with_second : List ℕ → ℕ → Option (ℕ × ℕ) → Option (ℕ × ℕ × ℕ)
with_second text first None = None
with_second text first (Some second) = three first second.0 (last_in (drop second.1 text) (word_in (drop second.1 text)))

abbrev pub with_first : List ℕ → Option (ℕ × ℕ) → Option (ℕ × ℕ × ℕ)
with_first text None = None
with_first text (Some first) = with_second (drop first.1 text) first.0 (word_in (drop first.1 text))

-- the three words of up to six codes, zeros after
abbrev pub stem_in : List ℕ → Option (ℕ × ℕ × ℕ)
stem_in text = with_first text (word_in text)

abbrev pub join_codes : Option (ℕ × ℕ × ℕ) → Option ℕ → Option ℕ
join_codes (Some words) (Some extension) = Some (name_of (words.0 ∷ words.1 ∷ words.2 ∷ extension ∷ []))
join_codes (Some words) None = None
join_codes None extension = None

-- the name that a text spells, cut at its first dot
abbrev pub read_name : List ℕ → Option ℕ
read_name text = join_codes (stem_in (take (length (before_dot text)) text)) (extension_in (drop (length (before_dot text)) text))

-- a name that a file has: its first word is not 0
abbrev pub of_a_file : Option ℕ → Option ℕ
of_a_file None = None
of_a_file (Some name) = if nat_eq (name / 0o1000000000000) 0 then None else Some name

-- the name of a file that a text spells
unfoldable pub typed_name : List ℕ → Option ℕ
typed_name text = of_a_file (read_name text)
