-- The statements of a text are the stretches of live bytes between the live `;`, CR and `$`. Each is judged by the
-- grammar and by the radix that the statements before it set. A last stretch that nothing ends is no statement.
use Rattle.std.specs.Prelude.{ℕ, nat_eq, Bool, if◌then◌else◌, Option, Some, None, Result, Ok, Err, List, [], ◌∷◌}
use Rattle.pal_lex.specs.Text.{ends_statement, stretch, line_after}
use Rattle.pal_lex.specs.Cutting.{has_illegal}
use Rattle.pal_lex.specs.Runs.{tokens}
use Rattle.pal_lex.specs.Grammar.{phrase_of_tokens, has_bad_number}
use Rattle.pal_faults.specs.declared.lexical.LexFault.{LexFault}
use Rattle.pal_faults.specs.declared.lexical.LexFault.TheVariants.{IC, SY, NU}
use Rattle.pal_lex.specs.declared.pieces.Token.{Token}
use Rattle.pal_lex.specs.declared.phrases.Body as body
use Rattle.pal_lex.specs.declared.phrases.Body.TheVariants.{Nothing, Origin, Define, Decimal, Octal, Pause, Field, Reference, Word}
use Rattle.pal_lex.specs.declared.phrases.Said.{Said}
use Rattle.pal_lex.specs.declared.phrases.Statement.{Statement}
use Rattle.pal_lex.specs.declared.runs.Radix.{Radix}
use Rattle.pal_lex.specs.declared.runs.Radix.TheVariants as radix

abbrev pub statement_or_fault : ℕ → Bool → List Token → Option Said → Result Statement LexFault
statement_or_fault line last tokens None = Err (SY line)
statement_or_fault line last tokens (Some said) = Ok record { line = line; tags = said.tags; body = said.body; last = last; source = 0; tokens = tokens }

-- An illegal character is reported before a bad number, and that before a bad statement.
abbrev pub judge_statement : ℕ → Bool → List (ℕ × ℕ) → Radix → Result Statement LexFault
judge_statement line last live radix =
    if has_illegal live then Err (IC line)
    else (if has_bad_number (tokens radix live) then Err (NU line)
    else statement_or_fault line last (tokens radix live) (phrase_of_tokens (tokens radix live)))

-- `DECIMAL` and `OCTAL` set the radix from the next statement on
abbrev pub radix_by : body.Body → Radix → Radix
radix_by Nothing before = before
radix_by (Origin e) before = before
radix_by (Define name e) before = before
radix_by Decimal before = radix.Decimal
radix_by Octal before = radix.Octal
radix_by Pause before = before
radix_by (Field e) before = before
radix_by (Reference op indirect e) before = before
radix_by (Word e) before = before

abbrev pub radix_set : Result Statement LexFault → Radix → Radix
radix_set (Ok statement) before = radix_by statement.body before
radix_set (Err fault) before = before

-- the radix after statements: octal until the first that sets it
abbrev pub radix_after : List (Result Statement LexFault) → Radix
radix_after [] = radix.Octal
radix_after (newest ∷ older) = radix_set newest (radix_after older)

abbrev pub with_stretch : ℕ → Bool → List (ℕ × ℕ) → List (Result Statement LexFault) → List (Result Statement LexFault)
with_stretch line last live older = judge_statement line last live (radix_after older) ∷ older

-- the statements of a text, the newest first, each as it reads or with its fault
unfoldable pub statements : List ℕ → List (Result Statement LexFault)
statements [] = []
statements (b ∷ older) =
    if ends_statement older b then with_stretch (line_after older) (nat_eq b 0o44) (stretch older) (statements older)
    else statements older

abbrev pub fault_of : Result Statement LexFault → Option LexFault
fault_of (Ok statement) = None
fault_of (Err fault) = Some fault

-- the first of two faults
abbrev pub first_of : Option LexFault → Option LexFault → Option LexFault
first_of None later = later
first_of (Some fault) later = Some fault

-- the fault of the first statement that has one
abbrev pub first_fault : List (Result Statement LexFault) → Option LexFault
first_fault [] = None
first_fault (newest ∷ older) = first_of (first_fault older) (fault_of newest)
