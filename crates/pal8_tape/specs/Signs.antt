-- Which signs of a PAL III source are PAL8's (this project's profile of the two).
use Rattle.std.specs.Prelude.{ℕ, nat_eq, Bool, ◌||◌, if◌then◌else◌, List, [], ◌∷◌}
use Rattle.pal8_grammar.specs.Permanent.{is_reserved}
use Rattle.source_places.specs.Spelling.{spelling}
use Rattle.source_places.specs.declared.subjects.About.{About}
use Rattle.source_places.specs.declared.subjects.About.TheVariants.{Nothing, Name, Character}

-- the characters that PAL8 has beside those of PAL III: ( ) [ ] < > " ! & ^ and %
abbrev pub is_of_pal8 : ℕ → Bool
is_of_pal8 b =
    nat_eq b 0o50 || nat_eq b 0o51 || nat_eq b 0o133 || nat_eq b 0o135 || nat_eq b 0o74 || nat_eq b 0o76 || nat_eq b 0o42 || nat_eq b 0o41 || nat_eq b 0o46
    || nat_eq b 0o136 || nat_eq b 0o45

abbrev pub name_sign : ℕ → List ℕ
name_sign name = if is_reserved name then spelling name else []

abbrev pub character_sign : ℕ → List ℕ
character_sign b = if is_of_pal8 b then b ∷ [] else []

-- The name or the character of PAL8 that the first fault of a PAL III source is about. Of UA it is the undefined name, where PAL8 reserves it. Of IC
-- it is the character, where PAL8 has it.
abbrev pub sign_text : About → List ℕ
sign_text Nothing = []
sign_text (Name name) = name_sign name
sign_text (Character b) = character_sign b
