-- Letters and digits that stand together: a name, or a number by either radix (PAL8, in this project's profile). A small letter is its
-- capital. Of a name six characters count. The characters after the first one have the newest first.
use Rattle.std.specs.Prelude.{ℕ, ◌+◌, ◌-◌, ◌*◌, ◌/◌, nat_lt, nat_le, ◌||◌, if◌then◌else◌, Option, Some, None, unwrap_or, List, [], ◌∷◌}
use Rattle.word12.specs.Sixbit.{is_letter, sixbit_code}
use Rattle.pal_lex.specs.Text.{limit}
use Rattle.pal8_lex.specs.Text.{capital}
use Rattle.pal8_lex.specs.declared.tokens.Kind.{Kind}
use Rattle.pal8_lex.specs.declared.tokens.Kind.TheVariants.{Name, Number, Character, Here, Operator, Equals, Comma, Star, Opening, Closing, String, Bad}

-- a name with one character more, which counts by its weight
abbrev pub longer_name : ℕ → ℕ → ℕ → ℕ
longer_name name weight c = limit (name + weight * unwrap_or (sixbit_code c) 0)

-- A number with one digit more by a base. One that isn't of twelve bits is 0o10000, and so is what isn't made of digits.
abbrev pub longer_number : ℕ → ℕ → ℕ → ℕ
longer_number base n c =
    if nat_lt c 0o60 || nat_le (0o60 + base) c then 0o10000
    else (if nat_lt (base * n + (c - 0o60)) 0o10000 then base * n + (c - 0o60) else 0o10000)

-- a name or a number with one character more, which counts by its weight in the name
abbrev pub longer : Kind → ℕ → ℕ → Kind
longer (Name name) weight b = Name (longer_name name weight (capital b))
longer (Number n) weight b =
    Number record {
      spelling = longer_name n.spelling weight (capital b);
      octal = longer_number 8 n.octal (capital b);
      decimal = longer_number 10 n.decimal (capital b);
    }
longer (Character c) weight b = Character c
longer Here weight b = Here
longer (Operator sign) weight b = Operator sign
longer Equals weight b = Equals
longer Comma weight b = Comma
longer Star weight b = Star
longer (Opening pool) weight b = Opening pool
longer (Closing pool) weight b = Closing pool
longer String weight b = String
longer Bad weight b = Bad

-- what a letter or a digit is by itself
abbrev pub first_kind : ℕ → Kind
first_kind b =
    if is_letter (capital b) then Name (longer_name 0 0o10000000000 (capital b))
    else Number record {
      spelling = longer_name 0 0o10000000000 (capital b);
      octal = longer_number 8 0 (capital b);
      decimal = longer_number 10 0 (capital b);
    }

-- the weight of the character that comes after a first one and these
abbrev pub weight_after : List (ℕ × ℕ) → ℕ
weight_after [] = 0o100000000
weight_after (x ∷ older) = weight_after older / 0o100

-- what a letter or a digit is with those after it
abbrev pub run_of : ℕ → List (ℕ × ℕ) → Kind
run_of first [] = first_kind first
run_of first (x ∷ older) = longer (run_of first older) (weight_after older) x.0

abbrev pub word_of : ℕ → Option ℕ
word_of n = if nat_lt n 0o10000 then Some n else None
