-- Names that are like a word that spells one.
use Rattle.std.proofs.Common.{◌≡◌, ◌∙◌, ℕ, Bool, true, false, true≢false, if◌then◌else◌, Option, Some, None, List, [], ◌∷◌, refl, sym, ap, inl, inr}
use Rattle.std.specs.Prelude.{◌&&◌, codes}
use Rattle.std.proofs.lemmas.Bool.Decides.{eqb_tells}
use Rattle.os8_dir.specs.Names.{words_of_name}
use Rattle.name_spelling.specs.Reading.{typed_name}
use Rattle.name_spelling.specs.Patterns.{ends_so, extension_of, has_sign, is_name, is_name_like, is_none_left, like, matches, stem_of}

-- ## All names

ends-empty : (codes : List ℕ) → ends_so is_none_left codes ≡ true
ends-empty [] = refl
ends-empty (code ∷ codes) = ends-empty codes

pub all-like : (name : ℕ) → matches (codes "*.*") name ≡ true
all-like name = both (like (0o52 ∷ []) (stem_of (words_of_name name))) (like (0o52 ∷ []) (extension_of (words_of_name name))) (ends-empty (stem_of (words_of_name name))) (ends-empty (extension_of (words_of_name name)))
  where
    both : (a b : Bool) → a ≡ true → b ≡ true → (a && b) ≡ true
    both true b one two = two
    both false b one two = absurd (true≢false (sym one))

-- ## Words without a sign

known_is : (o : Option ℕ) (spells name : ℕ) → o ≡ Some spells → is_name o name ≡ true → name ≡ spells
known_is (Some known) spells name is so = elim (eqb_tells known name) [
  | inl p ↦ sym p.1 ∙ some_is known spells is
  | inr p ↦ absurd (true≢false (sym so ∙ p.0))
]
  where
    some_is : (a b : ℕ) → Some a ≡ Some b → a ≡ b
    some_is a b same = cc
known_is None spells name is so = absurd (cc)

-- only the name that a word spells is like it
pub spelled-alone : (word : List ℕ) (spells name : ℕ) → has_sign word ≡ false → typed_name word ≡ Some spells → matches word name ≡ true → name ≡ spells
spelled-alone word spells name none is so =
    known_is (typed_name word) spells name is (sym (ap (λ (b : Bool). if b then is_name_like word name else is_name (typed_name word) name) none) ∙ so)
