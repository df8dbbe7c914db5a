-- The statements of a text with a byte more.
use Rattle.std.specs.Prelude.{◌≡◌, ℕ, length, Option, None, Some, List, ◌∷◌}
use Rattle.pal_lex.specs.Text.{limit}
use Rattle.pal8_lex.specs.Reading as lex
use Rattle.pal8_lex.specs.Reading.{HasRead}
use Rattle.pal8_lex.specs.Statements.{is_string}
use Rattle.pal8_lex.specs.declared.rules.End.{End}
use Rattle.pal8_asm.specs.Sources.{Statement, statements}

-- the statement that a lexer shows, which this byte ends at this place
abbrev pub shown_statement : ℕ → End → lex.Progress → Statement
shown_statement at e l = record { line = l.line; at = at; tokens = l.draft.tokens; string = l.draft.string; is_cut = is_string l.draft.state; end = e }

-- a byte after others ends a statement so, which is shown, or none
abbrev pub EndsStatement : List ℕ → ℕ → Option End → lex.Progress → Type 0
EndsStatement here b None new = (statements (b ∷ here) ≡ statements here) × HasRead new (b ∷ here)
EndsStatement here b (Some e) new = (statements (b ∷ here) ≡ shown_statement (limit (length here)) e new ∷ statements here) × HasRead new (b ∷ here)
