-- How far a pass is in the source that it reads, which stands after others, and what its parts give.
use Rattle.std.specs.Prelude.{◌≡◌, ◌⊎◌, ℕ, Bool, true, false, if◌then◌else◌, Option, Some, None, Result, Ok, Err, List, [], ◌∷◌, ◌++◌, length, take}
use Rattle.pal_lex.specs.Text.{text_from, is_over}
use Rattle.pal_lex.specs.Statements.{statements, first_fault}
use Rattle.pal_lex.specs.Joins.{IsClear, join_of}
use Rattle.pal_lex.specs.Laws.{has_next}
use Rattle.pal_lex.specs.Reading.{HasRead, HasPaused, is_pause_body, with_tokens}
use Rattle.pal_lex.specs.Progress as lex
use Rattle.pal_lex.specs.declared.phrases.Statement.{Statement}
use Rattle.pal_lex.specs.declared.pieces.Token.{Token}
use Rattle.pal_asm.specs.Places.{Source, values}
use Rattle.pal_asm.specs.Words.{pairs_by}
use Rattle.pal_asm.specs.Faults.{first_of, first_order, words_fault, no_end, no_word}
use Rattle.pal_asm.specs.Passes.{IsFirst, IsSecond}
use Rattle.pal_asm.specs.Progress as asm
use Rattle.pal_faults.specs.declared.assembling.AsmFault.{AsmFault}
use Rattle.pal_faults.specs.declared.assembling.AsmFault.TheVariants.{At, Memory}
use Rattle.pal_asm.specs.declared.passing.Pass.{Pass}

-- ## A pass in one of several sources

-- The pass reads a source so far to this text, after this text of the sources before it; nothing of it has paused.
pub record Counts (lexer : lex.Progress) (prefix : List ℕ) (several : Bool) (here : List ℕ) (Fits : Source → Type 0) : Type 0 where
  pub read : HasRead lexer (length prefix) (here ++ prefix)
  pub may_pause : lexer.may_pause ≡ several
  pub clear : IsClear prefix
  pub fine : first_fault (statements (here ++ prefix)) ≡ None
  pub at : Fits (statements (here ++ prefix))

-- The source has paused, and others follow it: whatever comes in it, the join goes on after this text.
pub record Pause (lexer : lex.Progress) (prefix : List ℕ) (several : Bool) (here : List ℕ) (Fits : Source → Type 0) : Type 0 where
  pub cut : List ℕ
  pub paused : HasPaused lexer cut
  pub clear : IsClear cut
  pub follows : several ≡ true
  pub joins : (later next : List ℕ) (others : List (List ℕ)) → join_of ((later ++ here) ∷ next ∷ others) ++ prefix ≡ join_of (next ∷ others) ++ cut
  pub at : Fits (statements cut)

-- The pass stands in a source after this text of it, of which a control Z was the end or not. Nothing more of it is read
-- where it has paused or ended.
abbrev pub Stands : lex.Progress → Bool → List ℕ → Bool → List ℕ → Bool → (Source → Type 0) → Type 0
Stands lexer ended prefix several here is_last Fits =
    ((ended ≡ is_last) × Counts lexer prefix several here Fits) ⊎ ((ended ≡ true) × Pause lexer prefix several here Fits)

-- A fault is known from the statements of the join, whatever follows this text in its source, and whatever sources follow.
abbrev pub TellsJoinFault : (Source → Option AsmFault) → List ℕ → Bool → List ℕ → AsmFault → Type 0
TellsJoinFault fault_in prefix several here fault =
    (later : List ℕ) (others : List (List ℕ)) → has_next others ≡ several → fault_in (statements (join_of ((later ++ here) ∷ others) ++ prefix)) ≡ Some fault

-- ## The first pass

-- the first pass stands after these statements, except that the newest may wait; tokens say nothing to it
abbrev pub StandsAfter : Option Statement → asm.Progress → Source → Type 0
StandsAfter None assembler source = IsFirst assembler source
StandsAfter (Some statement) assembler source =
    (older : Source) × ((tokens : List Token) × ((source ≡ Ok (with_tokens tokens statement) ∷ older) × (is_pause_body statement.body ≡ false) × IsFirst assembler older))

-- the first pass stands in a source after this text of it
abbrev pub HasPassed : Pass → List ℕ → Bool → List ℕ → Bool → Type 0
HasPassed pass prefix several here is_last = Stands pass.lexer pass.is_at_end prefix several here is_last (λ source. StandsAfter pass.waiting pass.assembler source)

-- what the statement that may wait gives
abbrev pub Settles : Source → Result (Unit {0}) AsmFault → Pass → Pass → Type 0
Settles source (Ok nothing) old new = (new ≡ record old { waiting = None; assembler = new.assembler }) × IsFirst new.assembler source
Settles source (Err Memory) old new = new ≡ old
Settles source (Err (At code line)) old new = first_order source ≡ Some (At code line)

-- the same for a pass that stands in a source after this text of it
abbrev pub SettlesIn : List ℕ → Bool → List ℕ → Bool → Result (Unit {0}) AsmFault → Pass → Type 0
SettlesIn prefix several here is_last (Ok nothing) pass = HasPassed pass prefix several here is_last
SettlesIn prefix several here is_last (Err Memory) pass = HasPassed pass prefix several here is_last
SettlesIn prefix several here is_last (Err (At code line)) pass = TellsJoinFault first_order prefix several here (At code line)

-- What characters of a source give, after a text of it: they were taken up to a place, or a fault is known from them.
abbrev pub PassesTo : List ℕ → Bool → List ℕ → List ℕ → ℕ → Result (Unit {0}) AsmFault → Pass → Type 0
PassesTo prefix several here bytes offset (Ok nothing) pass = HasPassed pass prefix several (text_from here (take offset bytes)) false
PassesTo prefix several here bytes offset (Err Memory) pass = HasPassed pass prefix several (text_from here (take offset bytes)) false
PassesTo prefix several here bytes offset (Err (At code line)) pass = TellsJoinFault first_order prefix several (text_from here bytes) (At code line)

-- ## The second pass

-- the second pass of a whole source stands after these statements, and has handed out these pairs
abbrev pub IsMade : Source → Pass → List (ℕ × ℕ) → Source → Type 0
IsMade whole pass pairs source = (pass.waiting ≡ None) × IsSecond pass.assembler whole source × (pairs ≡ pairs_by (values whole) source)

-- the second pass stands in a source after this text of it
abbrev pub HasMade : Source → Pass → List (ℕ × ℕ) → List ℕ → Bool → List ℕ → Bool → Type 0
HasMade whole pass pairs prefix several here is_last = Stands pass.lexer pass.is_at_end prefix several here is_last (λ source. IsMade whole pass pairs source)

-- this text of a source is in a whole
abbrev pub IsWithin : Source → List ℕ → Bool → List ℕ → Type 0
IsWithin whole prefix several here =
    (later : List ℕ) × ((others : List (List ℕ)) × ((has_next others ≡ several) × (whole ≡ statements (join_of ((later ++ here) ∷ others) ++ prefix))))

-- what characters of a source give in the second pass of a whole
abbrev pub MakesTo : Source → List ℕ → Bool → List ℕ → List ℕ → ℕ → Result (Unit {0}) AsmFault → Pass → List (ℕ × ℕ) → Type 0
MakesTo whole prefix several here bytes offset (Ok nothing) pass pairs = HasMade whole pass pairs prefix several (text_from here (take offset bytes)) false
MakesTo whole prefix several here bytes offset (Err Memory) pass pairs = HasMade whole pass pairs prefix several (text_from here (take offset bytes)) false
MakesTo whole prefix several here bytes offset (Err (At code line)) pass pairs = TellsJoinFault (words_fault (values whole)) prefix several (text_from here bytes) (At code line)

-- ## Between sources

-- The next source begins after this text.
pub record Begins (lexer : lex.Progress) (ended : Bool) (last : Bool) (prefix : List ℕ) : Type 0 where
  pub counts : ended ≡ false
  pub read : HasRead lexer (length prefix) prefix
  pub may_pause : lexer.may_pause ≡ (if last then false else true)

-- What comes after a source that may pause: at its PAUSE the next begins; its `$` ended all; or it has neither.
abbrev pub EndsSource : lex.Progress → Bool → Result (Unit {0}) AsmFault → lex.Progress → Bool → Type 0
EndsSource old last (Ok nothing) new ended =
    ((cut : List ℕ) → HasPaused old cut → IsClear cut → Begins new ended last cut)
    × ((seam : ℕ) (text : List ℕ) → HasRead old seam text → first_fault (statements text) ≡ None → (new ≡ old) × (ended ≡ true) × (is_over text ≡ true))
EndsSource old last (Err fault) new ended =
    ((cut : List ℕ) → HasPaused old cut → ⊥)
    × ((seam : ℕ) (text : List ℕ) → HasRead old seam text → first_fault (statements text) ≡ None → no_end text ≡ Some fault)

-- What going from the first pass to the second gives, after a text that is all of the source.
abbrev pub BeginsSecondPass : List ℕ → Result (Unit {0}) AsmFault → Pass → Type 0
BeginsSecondPass text (Ok nothing) new = (no_end text ≡ None) × IsMade (statements text) new [] []
BeginsSecondPass text (Err Memory) new = ⊥
BeginsSecondPass text (Err (At code line)) new = first_of (no_end text) (no_word (statements text)) ≡ Some (At code line)
