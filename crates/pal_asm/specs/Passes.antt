-- What an assembler was handed, and what it answers.
use Rattle.std.specs.Prelude.{◌≡◌, ℕ, ◌+◌, ◌<◌, true, false, Option, Some, None, Result, Ok, Err, List, [], ◌∷◌, ◌++◌, length}
use Rattle.pal_sym.specs.Values.{symbol_value, is_fixed as fixed_in, if_none}
use Rattle.pal_lex.specs.declared.phrases.Body.{Body}
use Rattle.pal_lex.specs.declared.phrases.Body.TheVariants.{Nothing, Origin, Define, Decimal, Octal, Pause, Field, Reference, Word}
use Rattle.pal_lex.specs.declared.phrases.Statement.{Statement}
use Rattle.pal_faults.specs.declared.assembling.AsmFault.{AsmFault}
use Rattle.pal_faults.specs.declared.assembling.AsmFault.TheVariants.{At, Memory}
use Rattle.pal_asm.specs.Expressions.{Meanings}
use Rattle.pal_asm.specs.Places.{Source, is_fixed, place_at, field_at, values}
use Rattle.pal_asm.specs.Words.{pairs_by}
use Rattle.pal_asm.specs.Faults.{tags_fault, first_order, words_fault, has_word, last_line, no_word}
use Rattle.pal_asm.specs.Progress.{Progress}

-- ## One statement

-- `=` may take the room of one name
abbrev pub definitions : Body → ℕ
definitions Nothing = 0
definitions (Origin e) = 0
definitions (Define name e) = 1
definitions Decimal = 0
definitions Pause = 0
definitions Octal = 0
definitions (Field e) = 0
definitions (Reference operation indirect address) = 0
definitions (Word e) = 0

-- ## The first pass

-- The first pass stands after these statements, none of which has a fault.
pub record IsFirst (assembler : Progress) (source : Source) : Type 0 where
  pub symbols : symbol_value assembler.symbols ≡ values source
  pub fixed : fixed_in assembler.symbols ≡ is_fixed source
  pub location : assembler.spot.location ≡ place_at source
  pub field : assembler.spot.field ≡ field_at source
  pub word : assembler.spot.word ≡ has_word source
  pub line : assembler.line ≡ last_line source
  pub no_fault : first_order source ≡ None
  pub pass : assembler.is_second ≡ false
  pub goes_on : assembler.fault ≡ None

-- A fault was answered, and is answered for good.
abbrev pub HasFailed : Progress → AsmFault → Type 0
HasFailed assembler fault = assembler.fault ≡ Some fault

-- What the first pass answers for a statement after others. Memory is taken for names alone; where it ran out nothing
-- was taken.
abbrev pub AnswersFirst : Source → Statement → Result (Unit {0}) AsmFault → Progress → Progress → Type 0
AnswersFirst older statement (Ok nothing) old new = IsFirst new (Ok statement ∷ older)
AnswersFirst older statement (Err (At code line)) old new = (first_order (Ok statement ∷ older) ≡ Some (At code line)) × HasFailed new (At code line)
AnswersFirst older statement (Err Memory) old new = (new ≡ old) × (old.symbols.room < length statement.tags + definitions statement.body)

-- want of memory is answered only for a statement whose tags have no fault after others
abbrev pub IsJudged : Source → Statement → Result (Unit {0}) AsmFault → Type 0
IsJudged older statement (Ok nothing) = Unit {0}
IsJudged older statement (Err (At code line)) = Unit {0}
IsJudged older statement (Err Memory) = tags_fault (values older) (place_at older) statement.tags ≡ None

-- ## The second pass

-- what names stand for after some statements of a whole source in the second pass: their last definition, and where there
-- is none, their last in the whole
abbrev pub second_values : Source → Source → Meanings
second_values whole older name = if_none (values older name) (values whole name)

-- The second pass stands after these statements of a whole source, which has no fault of the first order and a word;
-- none of these words has a fault.
pub record IsSecond (assembler : Progress) (whole older : Source) : Type 0 where
  pub symbols : symbol_value assembler.symbols ≡ second_values whole older
  pub location : assembler.spot.location ≡ place_at older
  pub field : assembler.spot.field ≡ field_at older
  pub no_fault : first_order whole ≡ None
  pub has_word : no_word whole ≡ None
  pub words : words_fault (values whole) older ≡ None
  pub pass : assembler.is_second ≡ true
  pub goes_on : assembler.fault ≡ None

-- what beginning the second pass answers
abbrev pub BeginsSecond : Source → Result (Unit {0}) AsmFault → Progress → Progress → Type 0
BeginsSecond whole (Ok nothing) old new = IsSecond new whole []
BeginsSecond whole (Err (At code line)) old new = (no_word whole ≡ Some (At code line)) × HasFailed new (At code line)
BeginsSecond whole (Err Memory) old new = ⊥

-- what is handed out for a statement, after what was handed out for those before it
abbrev pub with_handed : List (ℕ × ℕ) → Option (ℕ × ℕ) → List (ℕ × ℕ)
with_handed pairs None = pairs
with_handed pairs (Some pair) = pairs ++ pair ∷ []

-- What the second pass answers for a statement of a whole source. It takes no memory.
abbrev pub AnswersSecond : Source → Source → Statement → Result (Option (ℕ × ℕ)) AsmFault → Progress → Progress → Type 0
AnswersSecond whole older statement (Ok handed) old new =
    (pairs_by (values whole) (Ok statement ∷ older) ≡ with_handed (pairs_by (values whole) older) handed) × IsSecond new whole (Ok statement ∷ older)
AnswersSecond whole older statement (Err (At code line)) old new =
    (words_fault (values whole) (Ok statement ∷ older) ≡ Some (At code line)) × HasFailed new (At code line)
AnswersSecond whole older statement (Err Memory) old new = ⊥

-- the second pass goes on
abbrev pub HasBegunSecond : Progress → Type 0
HasBegunSecond assembler = (assembler.fault ≡ None) × (assembler.is_second ≡ true)

-- the first pass goes on
abbrev pub HasNotBegunSecond : Progress → Type 0
HasNotBegunSecond assembler = (assembler.fault ≡ None) × (assembler.is_second ≡ false)

-- the same fault for good
abbrev pub StaysFailed : {A : Type 0} → Result A AsmFault → Progress → Progress → Type 0
StaysFailed {A} result old new = (fault : AsmFault) → HasFailed old fault → (result ≡ Err fault) × (new ≡ old)
