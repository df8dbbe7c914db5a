-- The characters of names (this project's profile of PAL III).
use Rattle.std.specs.Prelude.{ℕ, ◌+◌, ◌/◌, ◌%◌, nat_eq, nat_lt, if◌then◌else◌, List, [], ◌∷◌, ◌++◌}

-- the sixbit codes of the six characters of a name
unfoldable pub codes_of : ℕ → List ℕ
codes_of name =
    name / 0o10000000000 % 0o100 ∷ name / 0o100000000 % 0o100 ∷ name / 0o1000000 % 0o100 ∷ name / 0o10000 % 0o100 ∷ name / 0o100 % 0o100 ∷ name % 0o100 ∷ []

-- the character of a sixbit code, a blank where there is none
abbrev pub character_of : ℕ → ℕ
character_of code = if nat_eq code 0 then 0o40 else (if nat_lt code 0o40 then 0o100 + code else code)

abbrev pub characters : List ℕ → List ℕ
characters [] = []
characters (code ∷ codes) = character_of code ∷ characters codes

-- the six characters of a name, with blanks for those that are missing
abbrev pub name_text : ℕ → List ℕ
name_text name = characters (codes_of name)

-- the character of a sixbit code, none where there is none
abbrev pub character : ℕ → List ℕ
character code = if nat_eq code 0 then [] else character_of code ∷ []

abbrev pub spelt : List ℕ → List ℕ
spelt [] = []
spelt (code ∷ codes) = character code ++ spelt codes

-- the characters of a name, six at most
abbrev pub spelling : ℕ → List ℕ
spelling name = spelt (codes_of name)
