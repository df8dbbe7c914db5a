-- The word of PAL8 at which a source has its fault is ASCII, so it is a text.
use Rattle.std.proofs.Common.{◌≡◌, ◌<◌, ◌+◌, ◌/◌, ◌%◌, ℕ, zero, suc, Bool, true, false, if◌then◌else◌, List, [], ◌∷◌, ◌++◌, arith, refl}
use Rattle.std.specs.Prelude.{nat_eq, nat_lt}
use Rattle.std.specs.Str.{IsAscii}
use Rattle.std.proofs.lemmas.Bool.Decides.{nat_tests}
use Rattle.source_places.specs.Spelling.{character_of, codes_of, spelt}
use Rattle.source_places.specs.declared.subjects.About.{About}
use Rattle.source_places.specs.declared.subjects.About.TheVariants.{Nothing, Name, Character}
use Rattle.pal8_tape.specs.Signs.{is_of_pal8, sign_text}

ascii-nil : IsAscii []
ascii-nil i = omega arith

ascii-cons : (c : ℕ) (cs : List ℕ) → c < 128 → IsAscii cs → IsAscii (c ∷ cs)
ascii-cons c cs low rest zero = low
ascii-cons c cs low rest (suc i) = rest i

-- ## Names

abbrev AreLow : List ℕ → Type 0
AreLow [] = Unit {0}
AreLow (code ∷ codes) = (code < 64) × AreLow codes

six-bits : (n : ℕ) → n % 0o100 < 64
six-bits n = omega arith

codes-low : (name : ℕ) → AreLow (codes_of name)
unfolding codes_of
codes-low name =
    (six-bits (name / 0o10000000000), (six-bits (name / 0o100000000), (six-bits (name / 0o1000000), (six-bits (name / 0o10000), (six-bits (name / 0o100), (six-bits name, tt))))))

low-if : (none letter : Bool) (code : ℕ) → code < 64 → (if none then 0o40 else (if letter then 0o100 + code else code)) < 128
low-if true letter code low = omega arith
low-if false true code low = omega (arith, low)
low-if false false code low = omega (arith, low)

put-if : (none : Bool) (c : ℕ) (cs : List ℕ) → c < 128 → IsAscii cs → IsAscii ((if none then [] else c ∷ []) ++ cs)
put-if true c cs low rest = rest
put-if false c cs low rest = ascii-cons c cs low rest

spelt-ascii : (codes : List ℕ) → AreLow codes → IsAscii (spelt codes)
spelt-ascii [] low = ascii-nil
spelt-ascii (code ∷ codes) low = put-if (nat_eq code 0) (character_of code) (spelt codes) (low-if (nat_eq code 0) (nat_lt code 0o40) code low.0) (spelt-ascii codes low.1)

name-ascii : (is : Bool) (name : ℕ) → IsAscii (if is then spelt (codes_of name) else [])
name-ascii true name = spelt-ascii (codes_of name) (codes-low name)
name-ascii false name = ascii-nil

-- ## Characters

of-pal8-low : (b : ℕ) → is_of_pal8 b ≡ true → b < 128
of-pal8-low b is = grind (arith, nat_tests)

character-ascii : (is : Bool) (b : ℕ) → (is ≡ true → b < 128) → IsAscii (if is then b ∷ [] else [])
character-ascii true b low = ascii-cons b [] (low refl) ascii-nil
character-ascii false b low = ascii-nil

pub sign_ascii : (about : About) → IsAscii (sign_text about)
sign_ascii Nothing = ascii-nil
sign_ascii (Name name) = name-ascii _ name
sign_ascii (Character b) = character-ascii (is_of_pal8 b) b (of-pal8-low b)
