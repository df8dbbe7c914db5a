-- Names of files: six characters and two of extension in sixbit, two in a word (OS/8 Software Support Manual).
use Rattle.std.specs.Prelude.{◌≡◌, ◌<◌, ◌⊎◌, ℕ, zero, suc, ◌+◌, ◌*◌, ◌/◌, ◌%◌, ◌==◌, ◌&&◌, nat_le, if◌then◌else◌, List, [], ◌∷◌, ◌++◌, length, Option, Some, None}
use Rattle.word12.specs.Sixbit.{sixbit_code}

-- a name's four words as one number, whose order is that of the words
abbrev pub name_of : List ℕ → ℕ
name_of (a ∷ b ∷ c ∷ d ∷ []) = ((a * 0o10000 + b) * 0o10000 + c) * 0o10000 + d
name_of words = 0

-- the four words of a name
abbrev pub words_of_name : ℕ → List ℕ
words_of_name n = n / 0o1000000000000 ∷ n / 0o100000000 % 0o10000 ∷ n / 0o10000 % 0o10000 ∷ n % 0o10000 ∷ []

-- four words of twelve bits
abbrev pub IsFourWords : List ℕ → Type 0
IsFourWords (a ∷ b ∷ c ∷ d ∷ []) = (a < 0o10000) × (b < 0o10000) × (c < 0o10000) × (d < 0o10000)
IsFourWords words = ⊥

-- the first words that differ are in order
abbrev pub IsBefore : List ℕ → List ℕ → Type 0
IsBefore [] ys = ⊥
IsBefore (x ∷ xs) [] = ⊥
IsBefore (x ∷ xs) (y ∷ ys) = (x < y) ⊎ ((x ≡ y) × IsBefore xs ys)

-- the characters before the first dot
abbrev pub before_dot : List ℕ → List ℕ
before_dot [] = []
before_dot (c ∷ cs) = if c == 0o56 then [] else c ∷ before_dot cs

-- the characters after the first dot, where there is one
abbrev pub after_dot : List ℕ → Option (List ℕ)
after_dot [] = None
after_dot (c ∷ cs) = if c == 0o56 then Some cs else after_dot cs

-- one more code
abbrev pub with_code : Option ℕ → Option (List ℕ) → Option (List ℕ)
with_code (Some code) (Some codes) = Some (code ∷ codes)
with_code (Some code) None = None
with_code None codes = None

-- the sixbit codes of characters, where each has one
abbrev pub codes_of : List ℕ → Option (List ℕ)
codes_of [] = Some []
codes_of (c ∷ cs) = with_code (sixbit_code c) (codes_of cs)

-- the sixbit codes of one up to so many characters
abbrev pub codes_within : ℕ → List ℕ → Option (List ℕ)
codes_within most text = if nat_le 1 (length text) && nat_le (length text) most then codes_of text else None

-- so many codes: these, and zeros after them
abbrev pub with_end_zeros : ℕ → List ℕ → List ℕ
with_end_zeros zero codes = []
with_end_zeros (suc size) [] = 0 ∷ with_end_zeros size []
with_end_zeros (suc size) (code ∷ codes) = code ∷ with_end_zeros size codes

-- words of two codes each, the first code in the high six bits
abbrev pub words_of_codes : List ℕ → List ℕ
words_of_codes (high ∷ low ∷ codes) = (0o100 * high + low) ∷ words_of_codes codes
words_of_codes (high ∷ []) = []
words_of_codes [] = []

-- the name that the codes of six characters and two of extension spell, fewer of them padded with 0
abbrev pub name_of_codes : Option (List ℕ) → Option (List ℕ) → Option ℕ
name_of_codes (Some stem) (Some extension) = Some (name_of (words_of_codes (with_end_zeros 6 stem ++ with_end_zeros 2 extension)))
name_of_codes (Some stem) None = None
name_of_codes None extension = None

-- the codes of an extension; where no dot stands, there is none to spell
abbrev pub extension_codes : Option (List ℕ) → Option (List ℕ)
extension_codes None = Some []
extension_codes (Some text) = codes_within 2 text

-- the name that a text spells: 1 to 6 capital letters or digits, then nothing, or a dot and 1 or 2 more
abbrev pub parsed_name : List ℕ → Option ℕ
parsed_name text = name_of_codes (codes_within 6 (before_dot text)) (extension_codes (after_dot text))
