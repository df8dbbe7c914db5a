-- What a character, a statement and a source give in the two passes, for private clauses.
use Rattle.std.specs.Prelude.{◌≡◌, ℕ, Bool, true, false, not, Option, Some, None, Result, Ok, Err, List, [], ◌∷◌, ◌++◌}
use Rattle.pal_lex.specs.Statements.{statements}
use Rattle.pal_lex.specs.Joins.{join_of}
use Rattle.pal_lex.specs.Laws.{has_next}
use Rattle.pal_lex.specs.Reading.{HasRead, is_pause_body, with_tokens}
use Rattle.pal_lex.specs.Progress as lex
use Rattle.pal_lex.specs.declared.phrases.Statement.{Statement}
use Rattle.pal_lex.specs.declared.pieces.Token.{Token}
use Rattle.pal_faults.specs.declared.assembling.AsmFault.{AsmFault}
use Rattle.pal_faults.specs.declared.assembling.AsmFault.TheVariants.{At, Memory}
use Rattle.pal_asm.specs.declared.passing.Pass.{Pass}
use Rattle.pal_asm.specs.Places.{Source, values}
use Rattle.pal_asm.specs.Words.{pairs_by, pairs_of}
use Rattle.pal_asm.specs.Faults.{first_of, first_order, words_fault, no_end}
use Rattle.pal_asm.specs.Passes.{IsFirst, IsSecond}
use Rattle.pal_asm.specs.Passing.{TellsJoinFault, Counts, StandsAfter, IsMade, HasPassed, HasMade, EndsSource}
use Rattle.pal_asm.specs.Progress as asm
use Rattle.pal_asm.specs.Texts.{GoesOnAfter, RanOut, RanOutAgain}

-- ## Characters and statements

abbrev pub is_pause_answer : Option Statement → Bool
is_pause_answer None = false
is_pause_answer (Some statement) = is_pause_body statement.body

-- what a character after a text of a source gives
abbrev pub PassesByte : List ℕ → Bool → List ℕ → ℕ → Result (Unit {0}) AsmFault → Pass → Type 0
PassesByte prefix several here b (Ok nothing) pass = HasPassed pass prefix several (b ∷ here) false
PassesByte prefix several here b (Err Memory) pass = HasPassed pass prefix several here false
PassesByte prefix several here b (Err (At code line)) pass = TellsJoinFault first_order prefix several (b ∷ here) (At code line)

-- what a statement of a whole gives in the second pass, where it is the last of this source
abbrev pub MakesStatement : Source → Source → Result (Unit {0}) AsmFault → asm.Progress → List (ℕ × ℕ) → Type 0
MakesStatement whole source (Ok nothing) new pairs = IsSecond new whole source × (pairs ≡ pairs_by (values whole) source)
MakesStatement whole source (Err (At code line)) new pairs = words_fault (values whole) source ≡ Some (At code line)
MakesStatement whole source (Err Memory) new pairs = ⊥

-- what a statement that was handed out gives in the second pass: PAUSE, or another
abbrev pub MakesSome : Bool → Statement → Result (Unit {0}) AsmFault → Pass → List (ℕ × ℕ) → Pass → List (ℕ × ℕ) → Type 0
MakesSome true s result old pairs new pairs' = (result ≡ Ok tt) × (new ≡ record old { is_at_end = true }) × (pairs' ≡ pairs)
MakesSome false s result old pairs new pairs' =
    (new ≡ record old { assembler = new.assembler })
    × ((whole older : Source) (tokens : List Token) → GoesOnAfter whole (Ok (with_tokens tokens s) ∷ older) → IsSecond old.assembler whole older → pairs ≡ pairs_by (values whole) older
    → MakesStatement whole (Ok (with_tokens tokens s) ∷ older) result new.assembler pairs')

-- what an answer of the lexer gives in the second pass
abbrev pub MakesAnswer : Option Statement → Result (Unit {0}) AsmFault → Pass → List (ℕ × ℕ) → Pass → List (ℕ × ℕ) → Type 0
MakesAnswer None result old pairs new pairs' = (result ≡ Ok tt) × (new ≡ old) × (pairs' ≡ pairs)
MakesAnswer (Some s) result old pairs new pairs' = MakesSome (is_pause_body s.body) s result old pairs new pairs'

-- what a character after a text of a source gives in the second pass of a whole
abbrev pub MakesByte : Source → List ℕ → Bool → List ℕ → ℕ → Result (Unit {0}) AsmFault → Pass → List (ℕ × ℕ) → Type 0
MakesByte whole prefix several here b (Ok nothing) pass pairs = HasMade whole pass pairs prefix several (b ∷ here) false
MakesByte whole prefix several here b (Err Memory) pass pairs = HasMade whole pass pairs prefix several here false
MakesByte whole prefix several here b (Err (At code line)) pass pairs = TellsJoinFault (words_fault (values whole)) prefix several (b ∷ here) (At code line)

-- ## Sources

-- more than one
abbrev pub are_several : List (List ℕ) → Bool
are_several [] = false
are_several (text ∷ others) = has_next others

-- The first fault of a text that the first pass meets; or want of memory, where it met none.
abbrev pub IsFirstFault : List ℕ → AsmFault → Type 0
IsFirstFault text (At code line) = first_of (first_order (statements text)) (no_end text) ≡ Some (At code line)
IsFirstFault text Memory = RanOut (statements text)

-- these are the words of a text, none of which has a fault
abbrev pub AreWordsOf : List ℕ → List (ℕ × ℕ) → Type 0
AreWordsOf text pairs = (words_fault (values (statements text)) (statements text) ≡ None) × (pairs ≡ pairs_of text)

-- The first fault of the words of a text; or want of memory, where the second pass met none.
abbrev pub IsWordsFault : List ℕ → AsmFault → Type 0
IsWordsFault text (At code line) = words_fault (values (statements text)) (statements text) ≡ Some (At code line)
IsWordsFault text Memory = RanOutAgain (statements text)

-- The first pass stands after a text, all of whose statements it has taken.
abbrev pub HasPassedAll : List ℕ → Pass → Type 0
HasPassedAll text pass = (seam : ℕ) × (HasRead pass.lexer seam text × IsFirst pass.assembler (statements text) × (pass.waiting ≡ None))

-- The first pass begins with the first of sources after this text.
abbrev pub BeginsPass : List ℕ → List (List ℕ) → Pass → Type 0
BeginsPass before sources pass =
    (pass.is_at_end ≡ false) × Counts pass.lexer before (are_several sources) [] (λ source. StandsAfter pass.waiting pass.assembler source) × (pass.waiting ≡ None)

-- So does the second pass of a whole.
abbrev pub BeginsAgain : Source → List ℕ → List (List ℕ) → Pass → List (ℕ × ℕ) → Type 0
BeginsAgain whole before sources pass pairs =
    (pass.is_at_end ≡ false) × Counts pass.lexer before (are_several sources) [] (λ source. IsMade whole pass pairs source)

-- What comes after a source that was read: the next of these counts, or nothing more does; or a `$` is missing.
abbrev pub GoesOn : List (List ℕ) → lex.Progress → Result Bool AsmFault → lex.Progress → Bool → Type 0
GoesOn [] old (Ok true) new ended = ⊥
GoesOn [] old (Ok false) new ended = new ≡ old
GoesOn [] old (Err fault) new ended = ⊥
GoesOn (next ∷ others) old (Ok true) new ended = EndsSource old (not (has_next others)) (Ok tt) new ended × (ended ≡ false)
GoesOn (next ∷ others) old (Ok false) new ended = EndsSource old (not (has_next others)) (Ok tt) new ended × (ended ≡ true)
GoesOn (next ∷ others) old (Err fault) new ended = EndsSource old (not (has_next others)) (Err fault) new ended

-- What the first pass answers for a source after this text: whether it goes on with the next one.
abbrev pub PassesSource : List ℕ → List ℕ → List (List ℕ) → Result Bool AsmFault → Pass → Type 0
PassesSource before text others (Ok true) pass =
    (cut : List ℕ) × ((join_of (text ∷ others) ++ before ≡ join_of others ++ cut) × BeginsPass cut others pass)
PassesSource before text others (Ok false) pass = HasPassedAll (join_of (text ∷ others) ++ before) pass
PassesSource before text others (Err fault) pass = IsFirstFault (join_of (text ∷ others) ++ before) fault

-- What the second pass of a whole answers.
abbrev pub MakesSource : Source → List ℕ → List ℕ → List (List ℕ) → Result Bool AsmFault → Pass → List (ℕ × ℕ) → Type 0
MakesSource whole before text others (Ok true) pass pairs =
    (cut : List ℕ) × ((join_of (text ∷ others) ++ before ≡ join_of others ++ cut) × BeginsAgain whole cut others pass pairs)
MakesSource whole before text others (Ok false) pass pairs = IsMade whole pass pairs (statements (join_of (text ∷ others) ++ before))
MakesSource whole before text others (Err (At code line)) pass pairs = words_fault (values whole) whole ≡ Some (At code line)
MakesSource whole before text others (Err Memory) pass pairs = RanOutAgain whole
