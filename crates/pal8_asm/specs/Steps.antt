-- What the small steps of a pass give, for private clauses.
use Rattle.pal8_asm.specs.Assembling.{Progress, remainder_of}
use Rattle.pal8_places.specs.Passing.{open_of}
use Rattle.std.specs.Prelude.{◌≡◌, ℕ, Bool, true, false, length, Option, Some, None, Result, Ok, Err, List, ◌++◌}
use Rattle.pal8_places.specs.declared.faults.Stop.{Stop}
use Rattle.pal8_places.specs.declared.faults.Stop.TheVariants.{At, Memory}
use Rattle.pal8_places.specs.declared.names.KnownNames.{KnownNames}
use Rattle.pal_lex.specs.Text.{limit, text_from}
use Rattle.pal8_lex.specs.Reading.{HasRead, last_statement}
use Rattle.pal8_lex.specs.Reading as lex
use Rattle.pal8_grammar.specs.SourceNames.{names_of, own_value}
use Rattle.std.specs.Ordering.{nat_cmp}
use Rattle.std.specs.BTreeMap.{get}
use Rattle.pal8_values.specs.Sums.{Meanings}
use Rattle.pal8_asm.specs.declared.late.LateValues.{LateValues}
use Rattle.pal8_pools.specs.Asks.{Ask}
use Rattle.pal8_pools.specs.Cells.{ArePairs}
use Rattle.pal8_pools.specs.Pooled.{PoolTable}
use Rattle.pal8_values.specs.Answering.{IsAsked}
use Rattle.pal8_values.specs.Words.{AskResult}
use Rattle.pal8_places.specs.Places.{code_of}
use Rattle.pal8_asm.specs.Tapes.{TapeWords}
use Rattle.pal8_asm.specs.Sources.{Entry, PassResult, at_place, pass_over, statements, with_entries, with_late_entry, words_in}
use Rattle.pal8_asm.specs.Kept.{entry_of}
use Rattle.pal8_asm.specs.Making.{IsMaking, IsMakingIn}
use Rattle.pal8_asm.specs.Walking.{remainder_after}
use Rattle.pal8_asm.specs.declared.entries.Content.{Content}
use Rattle.pal8_asm.specs.declared.entries.Stand.{Stand}
use Rattle.pal8_asm.specs.declared.walks.Walk.{Walk}
use Rattle.pal8_asm.specs.declared.words.MadeWords.{MadeWords}
use Rattle.pal8_asm.specs.declared.words.WordSource.{WordSource}
use Rattle.pal8_asm.specs.declared.faults.Fault.{Fault}
use Rattle.pal8_asm.specs.declared.faults.Place.{Place}
use Rattle.pal8_asm.specs.declared.faults.AsmFault.{AsmFault}
use Rattle.pal8_asm.specs.declared.faults.AsmFault.TheVariants as asm
use Rattle.pal8_places.specs.declared.options.Options.{Options}

-- ## Names

-- what names in the steps of a word stand for by now, or in those of a late definition
abbrev pub entry_meaning : KnownNames → Bool → Meanings
entry_meaning names false = open_of names
entry_meaning names true = own_value names.table

-- ## Statements

-- a statement is taken, or its fault is answered; or memory ran out
abbrev pub TakesStatement : PassResult → Result (Unit {0}) AsmFault → Walk → List Entry → Option Place → Type 0
TakesStatement whole (Ok nothing) walk entries end = whole ≡ Ok (remainder_after walk entries end)
TakesStatement whole (Err (asm.At code place)) walk entries end = whole ≡ Err (at_place place code)
TakesStatement whole (Err asm.Memory) walk entries end = Unit {0}

-- entries with what a statement leaves to be made, which stands there
abbrev pub with_content : Options → KnownNames → Stand → Content → ℕ → List Entry → List Entry
with_content options names stand content size entries = with_late_entry stand.place stand.spot content.body content.steps.now (names_of names.table)
    (with_entries stand.place stand.spot (words_in options content.body (open_of names) content.steps.now content.string.now size) entries)

-- the end of a statement with this place is passed, and these brackets are open then, or its fault is answered; or memory ran out
abbrev pub PassesEnd : Place → Result (List Bool) Fault → Result (Unit {0}) Stop → List Bool → Type 0
PassesEnd place whole (Ok nothing) brackets = whole ≡ Ok brackets
PassesEnd place whole (Err (At code)) brackets = whole ≡ Err (at_place place code)
PassesEnd place whole (Err Memory) brackets = Unit {0}

-- ## Texts

-- These bytes were read, and what they leave is taken.
pub record HasTaken (options : Options) (here : List ℕ) (lexer : lex.Progress) (a : Progress) : Type 0 where
  pub has_read : HasRead lexer here
  pub leaves : pass_over options (statements here) ≡ Ok (remainder_of a)

-- what a byte more gives; or its fault; or memory ran out
abbrev pub TakesByte : Options → List ℕ → Result (Unit {0}) AsmFault → lex.Progress → Progress → Type 0
TakesByte options here (Ok nothing) lexer a = HasTaken options here lexer a
TakesByte options here (Err (asm.At code place)) lexer a = pass_over options (statements here) ≡ Err (at_place place code)
TakesByte options here (Err asm.Memory) lexer a = Unit {0}

-- These bytes are still to be read; what those before them leave is taken.
pub record IsOnTheWay (options : Options) (whole rest : List ℕ) (lexer : lex.Progress) (at : ℕ) (a : Progress) : Type 0 where
  pub here : List ℕ
  pub counts : at ≡ limit (length here)
  pub same : text_from here rest ≡ whole
  pub taken : HasTaken options here lexer a

-- What a text leaves is taken: all of it was read, or it was read up to the `$` that ends its source.
pub record HasReadAll (options : Options) (whole : List ℕ) (lexer : lex.Progress) (at : ℕ) (a : Progress) : Type 0 where
  pub leaves : pass_over options (statements whole) ≡ Ok (remainder_of a)
  pub counts : a.end ≡ None → (at ≡ limit (length whole)) × HasRead lexer whole

-- what further bytes give; or their fault; or memory ran out
abbrev pub ReadsOn : Options → List ℕ → Result (Unit {0}) AsmFault → lex.Progress → ℕ → Progress → Type 0
ReadsOn options whole (Ok nothing) lexer at a = HasReadAll options whole lexer at a
ReadsOn options whole (Err (asm.At code place)) lexer at a = pass_over options (statements whole) ≡ Err (at_place place code)
ReadsOn options whole (Err asm.Memory) lexer at a = Unit {0}

-- a text is over: it ended at a `$` with this place, or this is the fault of its end
abbrev pub Closes : PassResult → Result Place AsmFault → Progress → Type 0
Closes whole (Ok place) a = (whole ≡ Ok (remainder_of a)) × (a.end ≡ Some place)
Closes whole (Err (asm.At code place)) a = whole ≡ Err (at_place place code)
Closes whole (Err asm.Memory) a = Unit {0}

-- ## Words

-- the values of late definitions
abbrev pub late_of : LateValues → Meanings
late_of late n = get nat_cmp late.values n

-- a word with its own steps
abbrev pub entry_in : WordSource → Entry
entry_in source = entry_of source.head.now source.steps.now

-- the fault of a word at this place
abbrev pub fault_at : Place → AskResult → Result (ℕ × List Ask × List Ask) Fault
fault_at place (Err fault) = Err (at_place place (code_of fault))
fault_at place (Ok asked) = Ok asked

-- this is the fault of a word at this place; or memory ran out
abbrev pub IsFaultAt : Place → AskResult → AsmFault → Type 0
IsFaultAt place whole (asm.At code place') = fault_at place whole ≡ Err (at_place place' code)
IsFaultAt place whole asm.Memory = Unit {0}

-- a word is answered, and the pools hold what was asked up to it; or its fault at this place; or memory ran out
abbrev pub GivesAt : Place → AskResult → Result ℕ AsmFault → PoolTable → Type 0
GivesAt place whole (Ok word) new = IsAsked whole word new
GivesAt place whole (Err fault) new = IsFaultAt place whole fault

-- a late definition has no fault, or this one; or memory ran out
abbrev pub IsJudgedLate : Option Fault → Result (Unit {0}) AsmFault → Type 0
IsJudgedLate fault (Ok nothing) = fault ≡ None
IsJudgedLate fault (Err (asm.At code place)) = fault ≡ Some (at_place place code)
IsJudgedLate fault (Err asm.Memory) = Unit {0}

-- what making entries gives, or the first fault of a word; or memory ran out
abbrev pub Makes : Result TapeWords Fault → Result (Unit {0}) AsmFault → PoolTable → List Bool → Option Fault → List (ℕ × ℕ) → Type 0
Makes whole (Ok nothing) pools marks clash pairs = IsMaking whole pools marks clash pairs
Makes whole (Err (asm.At code place)) pools marks clash pairs = whole ≡ Err (at_place place code)
Makes whole (Err asm.Memory) pools marks clash pairs = Unit {0}

abbrev pub MakesIn : Result TapeWords Fault → Result (Unit {0}) AsmFault → MadeWords → Type 0
MakesIn whole result made = Makes whole result made.pools made.cells made.clash made.pairs.items

-- The pairs of pools come after others, by rising cell.
pub record AddsPool (asks punched : List Ask) (old new : List (ℕ × ℕ)) : Type 0 where
  pub pool : List (ℕ × ℕ)
  pub are : new ≡ old ++ pool
  pub is_pool : ArePairs asks punched pool
