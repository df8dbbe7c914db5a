-- Tags, one at a time.
use Rattle.std.proofs.Common.{◌≡◌, ℕ, ◌-◌, ◌≤◌, suc, Bool, true, false, if◌then◌else◌, Ok, Err, length, get_or, take, drop, List, [], ◌∷◌, refl, ap, sym, ◌∙◌, arith}
use Rattle.std.proofs.lemmas.List.{take_all}
use Rattle.pal8_places.specs.declared.names.KnownNames.{KnownNames}
use Rattle.pal8_lex.specs.Kinds.{is_comma}
use Rattle.pal8_lex.specs.declared.tokens.Token.{Token}
use Rattle.pal8_grammar.specs.Bodies.{free_name}
use Rattle.pal8_places.specs.Places.{Standing, with_tag, with_tags}
use Rattle.pal8_places.specs.Steps.{Defines}
use Rattle.pal8_places.specs.Passing.{standing}
use Rattle.pal8_places.specs.declared.faults.Code.{Code}
use Rattle.pal8_places.specs.declared.faults.Stop.{Stop}
use Rattle.pal8_places.specs.declared.faults.Stop.TheVariants.{At, Memory}
use Rattle.pal8_places.specs.declared.places.Position.{Position}

-- what stands after the first two of a list
abbrev pub following_two : {A : Type 0} → List A → List A
following_two l = take (length l - 2) (drop 2 l)

less_two : (n : ℕ) → suc (suc n) - 2 ≡ n
less_two n = omega arith

first_two : {A : Type 0} (l : List A) (a b : A) → 2 ≤ length l → a ≡ get_or l 0 a → b ≡ get_or l 1 b → l ≡ a ∷ b ∷ following_two l
first_two [] a b long first second = absurd (omega (arith, long))
first_two (x ∷ []) a b long first second = absurd (omega (arith, long))
first_two (x ∷ y ∷ others) a b long first second =
    ap (λ v. v ∷ y ∷ others) (sym first) ∙ ap (λ v. a ∷ v ∷ others) (sym second)
    ∙ ap (λ v. a ∷ b ∷ v) (sym (ap (λ n. take n others) (less_two (length others)) ∙ take_all (length others) others (omega arith)))

tags_stay : (tokens : List Token) (code : Code) → with_tags tokens (Err code) ≡ Err code
tags_stay [] code = refl
tags_stay (t ∷ []) code = refl
tags_stay (t ∷ next ∷ others) code = by_test (is_comma next.kind) (tags_stay others code)
  where
    by_test : (test : Bool) → with_tags others (Err code) ≡ Err code → (if test then with_tags others (Err code) else Err code) ≡ Err code
    by_test true is = is
    by_test false is = refl

module _ (rest : List Token) (tag next : Token) (s : Standing) (long : 2 ≤ length rest) (first : tag ≡ get_or rest 0 tag) (second : next ≡ get_or rest 1 next)
    (comma : is_comma next.kind ≡ true) where
  one_more : with_tags rest (Ok s) ≡ with_tags (following_two rest) (with_tag (free_name tag.kind) s)
  one_more =
      ap (λ l. with_tags l (Ok s)) (first_two rest tag next long first second)
      ∙ ap (λ test. if test then with_tags (following_two rest) (with_tag (free_name tag.kind) s) else Ok s) comma

  -- a tag that is refused refuses all
  pub tag_fails : (position : Position) (stop : Stop) (new : KnownNames) → Defines (with_tag (free_name tag.kind) s) position (Err stop) new
      → Defines (with_tags rest (Ok s)) position (Err stop) new
  tag_fails position (At code) new is = one_more ∙ ap (with_tags (following_two rest)) is ∙ tags_stay (following_two rest) code
  tag_fails position Memory new is = tt

  -- the others go on from a tag that was defined
  pub tag_goes_on : (position : Position) (new : KnownNames) → with_tag (free_name tag.kind) s ≡ Ok (standing new position)
      → with_tags (following_two rest) (Ok (standing new position)) ≡ with_tags rest (Ok s)
  tag_goes_on position new is = sym (one_more ∙ ap (with_tags (following_two rest)) is)
