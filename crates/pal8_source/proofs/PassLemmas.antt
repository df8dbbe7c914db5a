-- What the three lines of a cell leave.
use Rattle.std.proofs.Common.{◌≡◌, ℕ, ◌+◌, ◌%◌, ◌<◌, ◌≤◌, nat_lt, true, false, None, Ok, List, [], ◌∷◌, ◌++◌, refl, ap, ◌∙◌, arith}
use Rattle.std.proofs.lemmas.Bool.Decides.{nat_tests}
use Rattle.word12.specs.Sixbit.{name_number}
use Rattle.std.specs.Prelude.{codes}
use Rattle.pal8_lex.specs.declared.judging.Radix.TheVariants as radix
use Rattle.pal8_lex.specs.declared.rules.End.TheVariants as byte
use Rattle.pal8_lex.specs.declared.tokens.Kind.TheVariants as kind
use Rattle.pal8_lex.specs.declared.tokens.Number as number
use Rattle.pal8_grammar.specs.SourceNames.{first_names, vocabulary_of}
use Rattle.pal8_grammar.specs.declared.bodies.Body.TheVariants as body
use Rattle.pal8_places.specs.Places.{Standing, location_at, spot_at, value_at, with_statement, with_value_of}
use Rattle.pal8_asm.specs.Sources.{Entry, Remainder, Statement, entry_at, number as number_steps, place_of, with_next, with_phrase, with_said}
use Rattle.pal8_places.specs.declared.places.Position.{Position}
use Rattle.pal8_source.specs.Checked.{as_profile}
use Rattle.pal8_source.proofs.GrammarLemmas.{field_says, origin_says, word_says}

-- what statements leave that define no name, with no bracket open
abbrev pub left_at : ℕ → ℕ → List Entry → Remainder
left_at location field entries = record {
  standing = record {
    names = first_names;
    late = λ n. false;
    position = record { radix = radix.Octal; location = location; field = field; shift = 0; is_punched = true; options = as_profile; zero_stay = 0; page_stay = 0 };
  };
  entries = entries;
  brackets = [];
  end = None;
}

abbrev pub position_at : ℕ → ℕ → Position
position_at location field = (left_at location field []).standing.position

-- ## Numbers

not_below : (k w : ℕ) → w ≤ k → nat_lt k w ≡ false
not_below k w small = grind (arith, nat_tests)

value_is : (s : Standing) (w : ℕ) → w < 4096 → value_at s (number_steps w) ≡ Ok w
value_is s w small = ap Ok (total w small)
  where
    total : (w : ℕ) → w < 4096 → (0 + w) % 4096 ≡ w
    total w small = omega (arith, small)

location_is : (w : ℕ) → w < 4096 → location_at 0 w ≡ w
location_is w small = omega (arith, small)

-- ## What they leave

abbrev pub word_statement : number.Number → ℕ → ℕ → ℕ → ℕ → Statement
word_statement n line at start end = record {
  line = line;
  at = at;
  tokens = record { kind = kind.Number n; is_spaced = false; start = start; end = end } ∷ [];
  string = [];
  is_cut = false;
  end = byte.Line;
}

abbrev pub origin_statement : number.Number → ℕ → ℕ → ℕ → ℕ → ℕ → ℕ → Statement
origin_statement n line at start end start' end' = record {
  line = line;
  at = at;
  tokens = record { kind = kind.Star; is_spaced = false; start = start'; end = end' } ∷ record { kind = kind.Number n; is_spaced = false; start = start; end = end } ∷ [];
  string = [];
  is_cut = false;
  end = byte.Line;
}

abbrev pub field_statement : number.Number → ℕ → ℕ → ℕ → ℕ → ℕ → ℕ → Statement
field_statement n line at start end start' end' = record {
  line = line;
  at = at;
  tokens =
      record { kind = kind.Name (name_number (codes "FIELD")); is_spaced = false; start = start'; end = end' }
      ∷ record { kind = kind.Number n; is_spaced = true; start = start; end = end } ∷ [];
  string = [];
  is_cut = false;
  end = byte.Line;
}

abbrev pub word_entry : ℕ → ℕ → number.Number → ℕ → ℕ → ℕ → ℕ → Entry
word_entry location field n line at start end = entry_at (place_of (word_statement n line at start end)) (spot_at (position_at location field)) (number_steps n.octal)

module _ (location field : ℕ) (entries : List Entry) (n : number.Number) (line at start end : ℕ) (small : n.octal < 4096) where
  abbrev left : Remainder
  left = left_at location field entries

  pub word_passes : location < 4096
      → with_next (word_statement n line at start end) (Ok left) ≡ Ok (left_at (location + 1) field (entries ++ word_entry location field n line at start end ∷ []))
  word_passes room =
      ap (with_said (word_statement n line at start end) left) (word_says (vocabulary_of first_names) n start end small)
      ∙ ap (with_phrase (word_statement n line at start end) (body.Word, number_steps n.octal) left) located
    where
      located : with_statement (word_statement n line at start end).tokens body.Word (number_steps n.octal) 0 left.standing ≡ Ok (left_at (location + 1) field entries).standing
      located = rw (not_below 4096 (location + 1) (omega (arith, room))) refl

  pub origin_passes : (start' end' : ℕ) → with_next (origin_statement n line at start end start' end') (Ok left) ≡ Ok (left_at n.octal field entries)
  origin_passes start' end' =
      ap (with_said (origin_statement n line at start end start' end') left) (origin_says (vocabulary_of first_names) n start end small start' end')
      ∙ ap (with_phrase (origin_statement n line at start end start' end') (body.Origin, number_steps n.octal) left) located
    where
      located : with_statement (origin_statement n line at start end start' end').tokens body.Origin (number_steps n.octal) 0 left.standing ≡ Ok (left_at n.octal field entries).standing
      located =
          ap (with_value_of body.Origin left.standing) (value_is left.standing n.octal small)
          ∙ ap (λ l. Ok (left_at l field entries).standing) (location_is n.octal small)

  pub field_passes : (start' end' : ℕ) → n.octal < 8 → with_next (field_statement n line at start end start' end') (Ok left) ≡ Ok (left_at 0o200 n.octal entries)
  field_passes start' end' eight =
      ap (with_said (field_statement n line at start end start' end') left) (field_says (vocabulary_of first_names) n start end small start' end')
      ∙ ap (with_phrase (field_statement n line at start end start' end') (body.Field, number_steps n.octal) left) located
    where
      located : with_statement (field_statement n line at start end start' end').tokens body.Field (number_steps n.octal) 0 left.standing ≡ Ok (left_at 0o200 n.octal entries).standing
      located =
          ap (with_value_of body.Field left.standing) (value_is left.standing n.octal small)
          ∙ rw (not_below 7 n.octal (omega (arith, eight))) refl
