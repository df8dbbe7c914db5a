-- Words that choose files are short.
use Rattle.std.proofs.Common.{◌≡◌, ◌<◌, ◌≤◌, ◌+◌, ℕ, suc, Bool, true, false, true≢false, cond, Option, Some, None, List, [], ◌∷◌, length, refl, sym, ap, arith}
use Rattle.std.specs.Prelude.{◌==◌, ◌&&◌, nat_le}
use Rattle.std.specs.Option.{is_some}
use Rattle.std.proofs.lemmas.Bool.Decides.{nat_tests}
use Rattle.os8_dir.specs.Names.{after_dot, before_dot}
use Rattle.name_spelling.specs.Laws.{TypedAreShort}
use Rattle.name_spelling.specs.Reading.{typed_name}
use Rattle.name_spelling.specs.Patterns.{are_of_pattern, are_within, has_sign, is_choice, is_extension_pattern, is_pattern}

-- ## A text and its parts

abbrev following-dot : Option (List ℕ) → ℕ
following-dot None = 0
following-dot (Some text) = suc (length text)

dot-length : (dot : Bool) (c : ℕ) (cs : List ℕ) → length cs ≡ length (before_dot cs) + following-dot (after_dot cs)
    → length (c ∷ cs) ≡ length (cond dot [] (c ∷ before_dot cs)) + following-dot (cond dot (Some cs) (after_dot cs))
dot-length true c cs is = omega arith
dot-length false c cs is = omega (arith, is)

length-parts : (text : List ℕ) → length text ≡ length (before_dot text) + following-dot (after_dot text)
length-parts [] = omega arith
length-parts (c ∷ cs) = dot-length (c == 0o56) c cs (length-parts cs)

-- ## Short words

none-if : TypedAreShort → (text : List ℕ) (o : Option ℕ) → typed_name text ≡ o → 25 < length text → None ≡ typed_name text
none-if law text None is long = sym is
none-if law text (Some name) is long = absurd (omega (arith, long, law text name is))

both-hold : (a b : Bool) → (a && b) ≡ true → (a ≡ true) × (b ≡ true)
both-hold true b is = (refl, is)
both-hold false b is = absurd (true≢false (sym is))

at-most : (size most : ℕ) → nat_le size most ≡ true → size ≤ most
at-most size most is = grind (arith, nat_tests)

short : (most : ℕ) (part : List ℕ) → are_within most part ≡ true → length part ≤ most
short most part is =
    at-most (length part) most
    (both-hold (nat_le (length part) most) (are_of_pattern part) (both-hold (nat_le 1 (length part)) (nat_le (length part) most && are_of_pattern part) is).1).0

short-extension : (o : Option (List ℕ)) → is_extension_pattern o ≡ true → following-dot o ≤ 5
short-extension None is = omega arith
short-extension (Some part) is = let few = short 4 part is in omega (arith, few)

short-pattern : (word : List ℕ) → is_pattern word ≡ true → length word ≤ 17
short-pattern word is =
    let parts = both-hold (are_within 12 (before_dot word)) (is_extension_pattern (after_dot word)) is in
    let stem = short 12 (before_dot word) parts.0 in
    let extension = short-extension (after_dot word) parts.1 in
    let sum = length-parts word in
    omega (arith, sum, stem, extension)

no-pattern : (b : Bool) (word : List ℕ) → is_pattern word ≡ b → 25 < length word → is_pattern word ≡ false
no-pattern false word is long = is
no-pattern true word is long = let few = short-pattern word is in absurd (omega (arith, few, long))

either-false : (b one two : Bool) → one ≡ false → two ≡ false → false ≡ cond b one two
either-false true one two first second = sym first
either-false false one two first second = sym second

-- a longer word is no choice
pub long-no-choice : TypedAreShort → (word : List ℕ) → 25 < length word → false ≡ is_choice word
long-no-choice law word long =
    either-false (has_sign word) (is_pattern word) (is_some (typed_name word)) (no-pattern (is_pattern word) word refl long)
    (ap is_some (sym (none-if law word (typed_name word) refl long)))
