-- What the references of a text's words reach (PAL8, in this project's profile).
use Rattle.std.specs.Prelude.{◌≡◌, ◌⊎◌, ℕ, ◌+◌, ◌*◌, ◌/◌, ◌%◌, Bool, true, Some, None, Result, Ok, List, [], ◌∷◌, ◌++◌}
use Rattle.word12.specs.declared.sizes.TheConstants.{FIELD, PAGE}
use Rattle.pal8_lex.specs.declared.tokens.Pool.{Pool}
use Rattle.pal8_lex.specs.declared.tokens.Pool.TheVariants.{Own}
use Rattle.pal8_pools.specs.Asks.{Ask}
use Rattle.pal8_pools.specs.Cells.{IsIn}
use Rattle.pal8_grammar.specs.declared.steps.Step.{Step}
use Rattle.pal8_values.specs.Sums.{Meanings, offset_of}
use Rattle.pal8_values.specs.Words.{Evaluation, page_of, page_start, word_value}
use Rattle.pal8_values.specs.Laws.{closes_all, evaluation_of, literal_steps, operation_steps, reached_address}
use Rattle.pal8_asm.specs.Assembled.{result_of_text}
use Rattle.pal8_asm.specs.Assembling.{IsAssembled}
use Rattle.pal8_asm.specs.Laws.{meaning}
use Rattle.pal8_asm.specs.Sources.{Entry, Remainder, remainder_of_text, with_values}
use Rattle.pal8_asm.specs.Tapes.{TapeWords, late_after, late_values, nothing_made, spot_of, with_entry}
use Rattle.pal8_asm.specs.declared.faults.Fault.{Fault}
use Rattle.pal8_places.specs.declared.options.Options.{Options}

-- the word of an entry is made of these steps, after what others have made
abbrev pub IsMadeAfter : Meanings → Meanings → List Entry → Result TapeWords Fault → Entry → List Step → TapeWords → Type 0
IsMadeAfter own late [] so_far e steps before = ⊥
IsMadeAfter own late (first ∷ others) so_far e steps before =
    ((first ≡ e) × (e.late ≡ None) × (steps ≡ with_values late e.steps) × (so_far ≡ Ok before))
    ⊎ IsMadeAfter own (late_after own first late) others (with_entry own late first so_far) e steps before

-- A text has a punched word of these steps, in which names have their values, after what others have made.
pub record HasWord (options : Options) (text : List ℕ) (own : Meanings) (e : Entry) (steps : List Step) (before : TapeWords) : Type 0 where
  pub left : Remainder
  pub leaves : remainder_of_text options text ≡ Ok left
  pub values_are : own ≡ left.standing.names.own
  pub is_punched : e.is_punched ≡ true
  pub is_made : IsMadeAfter own (late_values own left.standing.late left.entries (λ n. None)) left.entries (Ok nothing_made) e steps before

-- The word reaches a cell where it runs, and the pairs give that cell the value. For `(` and a link the cell is on the page of the word's location,
-- and is reached on the page of the place. For `[` it is on page zero.
pub record FindsValue (pairs : List (ℕ × ℕ)) (e : Entry) (pool : Pool) (value : ℕ) : Type 0 where
  pub word : ℕ
  pub cell : ℕ
  pub is_word : IsIn e.cell word pairs
  pub at_offset : reached_address e.here word ≡ page_start pool e.here + cell % PAGE
  pub on_page : cell / PAGE ≡ FIELD / PAGE * (e.cell / FIELD) + page_of pool (e.cell % FIELD)
  pub has_value : meaning pairs cell ≡ Some value

-- A literal has a value, which its steps come to by themselves, and it is found.
pub record FindsLiteral (pairs : List (ℕ × ℕ)) (own : Meanings) (e : Entry) (pool : Pool) (inside : List Step) (before : TapeWords) : Type 0 where
  pub value : ℕ
  pub asks : List Ask
  pub punched : List Ask
  pub is_value : word_value own (spot_of e) inside before.asks before.punched ≡ Ok (value, asks, punched)
  pub is_found : FindsValue pairs e pool value

-- in a text without a fault a reference to a literal reaches a cell that holds its value
abbrev pub LiteralIsFound : Type 0
LiteralIsFound =
    (options : Options) (text : List ℕ) (pairs : List (ℕ × ℕ)) → IsAssembled (result_of_text options text) pairs → (own : Meanings) (e : Entry) (before : TapeWords)
    (operation : ℕ) (is_indirect : Bool) (pool : Pool) (inside : List Step)
    → HasWord options text own e (operation_steps operation is_indirect ++ literal_steps pool inside) before
    → operation % 0o400 ≡ 0 → closes_all inside (Some 0) ≡ true → FindsLiteral pairs own e pool inside before

-- A word is a link: by `I` it reaches its address through a cell that holds it.
pub record FindsLink (pairs : List (ℕ × ℕ)) (e : Entry) (address : ℕ) : Type 0 where
  pub is_found : FindsValue pairs e Own address
  pub is_indirect : is_found.word / 0o400 % 2 ≡ 1

-- in a text without a fault a reference to an address on neither page reaches it through a cell that holds it
abbrev pub LinkIsFound : Type 0
LinkIsFound =
    (options : Options) (text : List ℕ) (pairs : List (ℕ × ℕ)) → IsAssembled (result_of_text options text) pairs → (own : Meanings) (e : Entry) (steps : List Step) (before : TapeWords)
    (it : Evaluation) → HasWord options text own e steps before → evaluation_of own (spot_of e) steps before.asks before.punched ≡ Ok it
    → it.sum.is_reference ≡ true → it.sum.operation % 0o400 ≡ 0 → offset_of e.here it.sum.total ≡ None → FindsLink pairs e it.sum.total
