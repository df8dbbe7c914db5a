-- What holds of the faults and names of each source.
use Rattle.std.specs.Prelude.{◌≡◌, ℕ, ◌<◌, true, Some, None, length, List, ◌∷◌, ◌++◌}
use Rattle.pal_lex.specs.Statements.{statements, first_fault}
use Rattle.pal_faults.specs.declared.lexical.LexFault.{LexFault}
use Rattle.pal_faults.specs.declared.assembling.AsmFault.{AsmFault}
use Rattle.pal_asm.specs.Places.{Source, values, is_fixed}
use Rattle.pal_asm.specs.Words.{pairs_of}
use Rattle.pal_asm.specs.Faults.{first_order, no_end, words_fault, no_word, fault_of}
use Rattle.pal_faults.specs.Faults.{lexical}

-- In a source with no fault of the first order a permanent name or a tag keeps its value. What it stands for after some
-- statements it stands for after all of them.
abbrev pub FixedNamesKeepTheirValues : Type 0
FixedNamesKeepTheirValues =
    (later older : Source) (name value : ℕ) → first_order (later ++ older) ≡ None → is_fixed older name ≡ true → values older name ≡ Some value
    → values (later ++ older) name ≡ Some value

-- a fault of the first order is the fault of the text, whatever follows
abbrev pub FirstFaultStays : Type 0
FirstFaultStays = (later text : List ℕ) (fault : AsmFault) → first_order (statements text) ≡ Some fault → fault_of (later ++ text) ≡ Some fault

-- the first fault of a word is the fault of a text with no fault of the first order and a `$`, whatever follows the word
abbrev pub WordFaultStays : Type 0
WordFaultStays =
    (later text : List ℕ) (fault : AsmFault) → first_order (statements (later ++ text)) ≡ None → no_end (later ++ text) ≡ None
    → words_fault (values (statements (later ++ text))) (statements text) ≡ Some fault → fault_of (later ++ text) ≡ Some fault

-- a text with no fault of the first order, a `$` and no word has no other fault
abbrev pub NoWordIsTold : Type 0
NoWordIsTold =
    (text : List ℕ) (fault : AsmFault) → first_order (statements text) ≡ None → no_end text ≡ None → no_word (statements text) ≡ Some fault
    → fault_of text ≡ Some fault

-- a text with no fault has a word
abbrev pub HasWords : Type 0
HasWords = (text : List ℕ) → fault_of text ≡ None → 0 < length (pairs_of text)

-- a fault of the lexer, where there was none before, is a fault of the first order
abbrev pub LexicalFaultIsTold : Type 0
LexicalFaultIsTold =
    (text : List ℕ) (b : ℕ) (fault : LexFault) → first_order (statements text) ≡ None → first_fault (statements (b ∷ text)) ≡ Some fault
    → first_order (statements (b ∷ text)) ≡ Some (lexical fault)

-- a source with no fault of the first order has none of the lexer
abbrev pub NoLexicalFault : Type 0
NoLexicalFault = (source : Source) → first_order source ≡ None → first_fault source ≡ None

-- the statements of a text are those of its beginning, and further ones
abbrev pub StatementsStay : Type 0
StatementsStay = (later text : List ℕ) → (further : Source) × (statements (later ++ text) ≡ further ++ statements text)

-- a source with no fault of the first order has none in its beginning
abbrev pub NoFaultBefore : Type 0
NoFaultBefore = (later older : Source) → first_order (later ++ older) ≡ None → first_order older ≡ None

-- ## Of a text whose statements are known, whatever sources it is the join of

-- a fault of the first order among the first statements of a text is the fault of the text
abbrev pub FirstStatementsTell : Type 0
FirstStatementsTell =
    (text : List ℕ) (later older : Source) (fault : AsmFault) → statements text ≡ later ++ older → first_order older ≡ Some fault → fault_of text ≡ Some fault

-- the first fault of a word among the first statements of a text is the fault of the text, if it has none of the first order
-- and a `$`
abbrev pub FirstWordsTell : Type 0
FirstWordsTell =
    (text : List ℕ) (later older : Source) (fault : AsmFault) → statements text ≡ later ++ older → first_order (statements text) ≡ None → no_end text ≡ None
    → words_fault (values (statements text)) older ≡ Some fault → fault_of text ≡ Some fault

-- a text with no fault of the first order and no `$` has that fault
abbrev pub NoEndIsTold : Type 0
NoEndIsTold = (text : List ℕ) (fault : AsmFault) → first_order (statements text) ≡ None → no_end text ≡ Some fault → fault_of text ≡ Some fault
