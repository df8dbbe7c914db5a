-- What the three lines of a cell say.
use Rattle.std.proofs.Common.{◌≡◌, ℕ, ◌<◌, nat_le, nat_lt, true, false, Ok, [], ◌∷◌, refl, arith}
use Rattle.std.proofs.lemmas.Bool.Decides.{nat_tests}
use Rattle.std.specs.Prelude.{codes}
use Rattle.word12.specs.Sixbit.{name_number}
use Rattle.pal8_lex.specs.declared.judging.Radix.TheVariants as radix
use Rattle.pal8_lex.specs.declared.rules.End.TheVariants as byte
use Rattle.pal8_lex.specs.declared.tokens.Kind.TheVariants as kind
use Rattle.pal8_lex.specs.declared.tokens.Number as number
use Rattle.pal8_grammar.specs.SourceNames.{Vocabulary}
use Rattle.pal8_grammar.specs.Bodies.{phrase_by_names}
use Rattle.pal8_grammar.specs.declared.bodies.Body.TheVariants as body
use Rattle.pal8_asm.specs.Sources.{number as number_steps}

above : (w : ℕ) → w < 4096 → nat_le 4096 w ≡ false
above w small = grind (arith, nat_tests)

below : (w k : ℕ) → w < k → nat_lt w k ≡ true
below w k small = grind (arith, nat_tests)

module _ (names : Vocabulary) (n : number.Number) (start end : ℕ) (small : n.octal < 4096) where
  pub word_says : phrase_by_names names radix.Octal (record { kind = kind.Number n; is_spaced = false; start = start; end = end } ∷ []) false byte.Line
      ≡ Ok (body.Word, number_steps n.octal)
  word_says = rw (above n.octal small, below n.octal 4096 small) refl

  pub origin_says : (start' end' : ℕ) → phrase_by_names names radix.Octal
      (record { kind = kind.Star; is_spaced = false; start = start'; end = end' } ∷ record { kind = kind.Number n; is_spaced = false; start = start; end = end } ∷ []) false byte.Line
      ≡ Ok (body.Origin, number_steps n.octal)
  origin_says start' end' = rw (above n.octal small, below n.octal 4096 small) refl

  pub field_says : (start' end' : ℕ) → phrase_by_names names radix.Octal
      (record { kind = kind.Name (name_number (codes "FIELD")); is_spaced = false; start = start'; end = end' } ∷ record { kind = kind.Number n; is_spaced = true; start = start; end = end } ∷ [])
      false byte.Line
      ≡ Ok (body.Field, number_steps n.octal)
  field_says start' end' = rw (above n.octal small, below n.octal 4096 small) refl
