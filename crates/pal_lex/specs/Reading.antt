-- What a lexer was given, and what it answers.
use Rattle.std.specs.Prelude.{◌≡◌, ℕ, ◌+◌, ◌-◌, ◌≤◌, Bool, true, false, if◌then◌else◌, length, take, Option, Some, None, Result, Ok, Err, List, [], ◌∷◌}
use Rattle.pal_lex.specs.Text.{in_comment, is_dead, is_over, stretch, since, up_to_end, limit, line_after, text_from}
use Rattle.pal_lex.specs.Drafting.{cut}
use Rattle.pal_lex.specs.Runs.{tokens}
use Rattle.pal_lex.specs.Statements.{statements, radix_after, first_fault}
use Rattle.pal_lex.specs.Joins.{pauses, IsClear}
use Rattle.pal_lex.specs.Progress.{Progress}
use Rattle.pal_faults.specs.declared.lexical.LexFault.{LexFault}
use Rattle.pal_faults.specs.declared.lexical.LexFault.TheVariants.{IC, SY, NU, NE, Memory}
use Rattle.pal_lex.specs.declared.phrases.Body.{Body}
use Rattle.pal_lex.specs.declared.phrases.Body.TheVariants.{Nothing, Origin, Define, Decimal, Octal, Pause, Field, Reference, Word}
use Rattle.pal_lex.specs.declared.phrases.Statement.{Statement}
use Rattle.pal_lex.specs.declared.pieces.Token.{Token}
use Rattle.pal_lex.specs.declared.lexing.State.{State}
use Rattle.pal_lex.specs.declared.lexing.State.TheVariants.{Reading, Paused, Over, Failed}

-- The lexer reads on after this text, of which the present source begins after so many bytes.
pub record IsReading (lexer : Progress) (seam : ℕ) (text : List ℕ) : Type 0 where
  pub begun : seam ≤ length text
  pub comment : lexer.comment ≡ in_comment text
  pub place : lexer.place ≡ limit (length text - seam)
  pub line : lexer.line ≡ line_after text
  pub radix : lexer.radix ≡ radix_after (statements text)
  pub draft : lexer.draft ≡ cut (radix_after (statements text)) (since seam (stretch text))
  pub no_fault : first_fault (statements text) ≡ None
  pub not_over : is_over text ≡ false

abbrev pub StateIs : State → Progress → ℕ → List ℕ → Type 0
StateIs Reading lexer seam text = IsReading lexer seam text
StateIs Paused lexer seam text = ⊥
StateIs Over lexer seam text = (first_fault (statements text) ≡ None) × (is_over text ≡ true)
StateIs (Failed fault) lexer seam text = first_fault (statements text) ≡ Some fault

-- The lexer was given this text, the join of its sources so far, of which the present source begins after so many bytes.
unfoldable pub HasRead : Progress → ℕ → List ℕ → Type 0
HasRead lexer seam text = StateIs lexer.state lexer seam text

-- The source that the lexer was given last has paused, and this is the join of the sources so far: it ends after a
-- statement, or is empty.
pub record IsPaused (lexer : Progress) (text : List ℕ) : Type 0 where
  pub state : lexer.state ≡ Paused
  pub line : lexer.line ≡ line_after text
  pub radix : lexer.radix ≡ radix_after (statements text)
  pub draft : lexer.draft ≡ cut (radix_after (statements text)) []
  pub no_fault : first_fault (statements text) ≡ None
  pub not_over : is_over text ≡ false
  pub ended : up_to_end text ≡ text

unfoldable pub HasPaused : Progress → List ℕ → Type 0
HasPaused lexer text = IsPaused lexer text

-- the lexer has answered a fault, and answers it for good
unfoldable pub HasFailed : Progress → LexFault → Type 0
HasFailed lexer fault = lexer.state ≡ Failed fault

-- a text has a fault, and it is this one
abbrev pub IsFault : List ℕ → LexFault → Type 0
IsFault text fault = first_fault (statements text) ≡ Some fault

-- the tokens of the stretch at the end of a text
abbrev pub tokens_after : List ℕ → List Token
tokens_after text = tokens (radix_after (statements text)) (stretch text)

-- the same with places that count from a place on
abbrev pub tokens_since : ℕ → List ℕ → List Token
tokens_since seam text = tokens (radix_after (statements text)) (since seam (stretch text))

-- a statement with these tokens, in a source by itself
abbrev pub with_tokens : List Token → Statement → Statement
with_tokens tokens s = record { line = s.line; tags = s.tags; body = s.body; last = s.last; source = 0; tokens = tokens }

abbrev pub is_pause_body : Body → Bool
is_pause_body Nothing = false
is_pause_body (Origin e) = false
is_pause_body (Define name e) = false
is_pause_body Decimal = false
is_pause_body Octal = false
is_pause_body Pause = true
is_pause_body (Field e) = false
is_pause_body (Reference op indirect e) = false
is_pause_body (Word e) = false

-- A byte after a text ended this statement. Its tokens have the places in its source.
pub record IsHandedOut (seam : ℕ) (text : List ℕ) (b : ℕ) (statement : Statement) (old new : Progress) : Type 0 where
  pub no_fault : first_fault (statements (b ∷ text)) ≡ None
  pub newest : statements (b ∷ text) ≡ Ok (with_tokens (tokens_after text) statement) ∷ statements text
  pub tokens : statement.tokens ≡ (if old.keeps_tokens then tokens_since seam text else [])
  pub source : statement.source ≡ old.source
  pub read : HasRead new seam (b ∷ text)

-- A byte after a text ended PAUSE, where the source may pause: the text is cut after the last end before it, which takes
-- no statement away.
pub record Pauses (seam : ℕ) (text : List ℕ) (b : ℕ) (statement : Statement) (old new : Progress) : Type 0 where
  pub may_pause : old.may_pause ≡ true
  pub pauses : pauses text b ≡ true
  pub line : statement.line ≡ line_after text
  pub tags : statement.tags ≡ []
  pub last : statement.last ≡ false
  pub tokens : statement.tokens ≡ (if old.keeps_tokens then tokens_since seam text else [])
  pub source : statement.source ≡ old.source
  pub same : statements (up_to_end text) ≡ statements text
  pub clear : IsClear (up_to_end text)
  pub paused : HasPaused new (up_to_end text)

abbrev pub HandsOut : Bool → ℕ → List ℕ → ℕ → Statement → Progress → Progress → Type 0
HandsOut false seam text b statement old new = IsHandedOut seam text b statement old new
HandsOut true seam text b statement old new = Pauses seam text b statement old new

-- For a byte after a text the answer is a fault: this is the first of the text, and no PAUSE of a source that may pause.
abbrev pub TellsFault : ℕ → List ℕ → ℕ → LexFault → Progress → Progress → Type 0
TellsFault seam text b fault old new =
    IsFault (b ∷ text) fault × (first_fault (statements text) ≡ None → old.may_pause ≡ true → pauses text b ≡ false) × HasRead new seam (b ∷ text)

-- The answer for a byte after a text. It is the statement that it ends, with its tokens or with none, or nothing where it
-- ends none. From the first statement with a fault on, it is that fault. Where memory ran out the byte was not taken.
abbrev pub Answers : ℕ → List ℕ → ℕ → Result (Option Statement) LexFault → Progress → Progress → Type 0
Answers seam text b (Ok None) old new =
    (first_fault (statements (b ∷ text)) ≡ None) × (statements (b ∷ text) ≡ statements text) × HasRead new seam (b ∷ text)
Answers seam text b (Ok (Some statement)) old new = HandsOut (is_pause_body statement.body) seam text b statement old new
Answers seam text b (Err (IC line)) old new = TellsFault seam text b (IC line) old new
Answers seam text b (Err (SY line)) old new = TellsFault seam text b (SY line) old new
Answers seam text b (Err (NU line)) old new = TellsFault seam text b (NU line) old new
Answers seam text b (Err (NE line)) old new = ⊥
Answers seam text b (Err Memory) old new = (first_fault (statements text) ≡ None) × (is_over text ≡ false) × (is_dead text b ≡ false) × (new ≡ old)

-- So many of the bytes after a text were taken, none of which ends a statement.
abbrev pub ReadsOn : ℕ → List ℕ → List ℕ → ℕ → Progress → Type 0
ReadsOn seam text bytes taken new =
    (taken ≤ length bytes) × (statements (text_from text (take taken bytes)) ≡ statements text) × HasRead new seam (text_from text (take taken bytes))

-- The answer for the end of a text.
abbrev pub Ends : List ℕ → Result (Unit {0}) LexFault → Type 0
Ends text (Ok nothing) = (first_fault (statements text) ≡ None) × (is_over text ≡ true)
Ends text (Err (IC line)) = IsFault text (IC line)
Ends text (Err (SY line)) = IsFault text (SY line)
Ends text (Err (NU line)) = IsFault text (NU line)
Ends text (Err (NE line)) = (first_fault (statements text) ≡ None) × (is_over text ≡ false) × (line ≡ line_after text)
Ends text (Err Memory) = ⊥

-- After a text that didn't pause no source begins: nothing changes, except that NE is answered for good.
abbrev pub EndsSource : Result (Unit {0}) LexFault → Progress → Progress → Type 0
EndsSource (Ok nothing) old new = new ≡ old
EndsSource (Err (IC line)) old new = new ≡ old
EndsSource (Err (SY line)) old new = new ≡ old
EndsSource (Err (NU line)) old new = new ≡ old
EndsSource (Err (NE line)) old new = HasFailed new (NE line)
EndsSource (Err Memory) old new = ⊥

-- The next source begins after this text.
pub record BeginsSource (text : List ℕ) (last : Bool) (old new : Progress) : Type 0 where
  pub read : HasRead new (length text) text
  pub source : new.source ≡ limit (old.source + 1)
  pub may_pause : new.may_pause ≡ (if last then false else true)

-- Where the source before paused, the next one begins.
abbrev pub BeginsNext : List ℕ → Bool → Result (Unit {0}) LexFault → Progress → Progress → Type 0
BeginsNext text last (Ok nothing) old new = BeginsSource text last old new
BeginsNext text last (Err fault) old new = ⊥
