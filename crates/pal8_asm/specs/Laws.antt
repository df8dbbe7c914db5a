-- What holds of each text.
use Rattle.std.specs.Prelude.{◌≡◌, ℕ, nat_eq, true, false, if◌then◌else◌, is_some, Option, Some, None, Result, Ok, Err, List, [], ◌∷◌, ◌++◌}
use Rattle.pal_sym.specs.Values.{if_none}
use Rattle.pal8_pools.specs.Asks.{Ask, IsAsked, cell_in}
use Rattle.pal8_pools.specs.Pooled.{is_cell_of}
use Rattle.pal8_pools.specs.Clashes.{has_word}
use Rattle.pal8_asm.specs.Assembled.{result_of_text}
use Rattle.pal8_asm.specs.Assembling.{IsAssembled}
use Rattle.pal8_asm.specs.Tapes.{TapeWords}
use Rattle.pal8_lex.specs.declared.rules.End.{End}
use Rattle.pal8_lex.specs.declared.rules.End.TheVariants as end
use Rattle.pal8_grammar.specs.Bodies.{Phrase, opens, tags_in}
use Rattle.pal8_grammar.specs.declared.bodies.Body.TheVariants as body
use Rattle.pal8_grammar.specs.declared.faults.GrammarFault.{GrammarFault}
use Rattle.pal8_asm.specs.Sources.{Remainder, PassResult, Source, Statement, first_left, remainder_of_text, number, pass_over, phrase_of, statements, with_said, with_skipped}
use Rattle.pal8_places.specs.Brackets.{is_selected}
use Rattle.pal8_asm.specs.declared.faults.Fault.{Fault}
use Rattle.pal8_places.specs.declared.options.Options.{Options}

-- the first fault of the statements of a text is that of the text, whatever follows
abbrev pub FaultStays : Type 0
FaultStays =
    (options : Options) (later text : List ℕ) (fault : Fault) → pass_over options (statements text) ≡ Err fault → remainder_of_text options (later ++ text) ≡ Err fault

-- in a text without a fault no cell of a punched word is a pool's cell
abbrev pub Apart : Type 0
Apart =
    (options : Options) (text : List ℕ) (made : TapeWords) → result_of_text options text ≡ Ok made → (c : ℕ) → has_word made.words c ≡ true → is_cell_of made.asks made.asks c ≡ false

-- the pairs of a text whose punched words ask nothing are these words
abbrev pub NoPoolNoChange : Type 0
NoPoolNoChange =
    (options : Options) (text : List ℕ) (pairs : List (ℕ × ℕ)) → (whole : IsAssembled (result_of_text options text) pairs) → whole.made.punched ≡ [] → pairs ≡ whole.made.words

-- what pairs give a cell: the word of the last of them at that cell
abbrev pub meaning : List (ℕ × ℕ) → ℕ → Option ℕ
meaning [] c = None
meaning (pair ∷ later) c = if_none (meaning later c) (if nat_eq pair.0 c then Some pair.1 else None)

-- in a text without a fault the cell that a punched word's literal or link asks for holds its value
abbrev pub ValueIsFound : Type 0
ValueIsFound =
    (options : Options) (text : List ℕ) (pairs : List (ℕ × ℕ)) → (whole : IsAssembled (result_of_text options text) pairs) → (a : Ask) → IsAsked whole.made.punched a
    → meaning pairs (cell_in whole.made.asks a) ≡ Some a.value

-- ## What isn't selected is nothing

abbrev pub plain_end : End → End
plain_end end.Semicolon = end.Semicolon
plain_end end.Line = end.Line
plain_end end.Open = end.Semicolon
plain_end end.Close = end.Semicolon
plain_end end.Dollar = end.Dollar

-- a statement with `;` for `<` and `>`, and a condition, which `<` ends, as its tags alone
abbrev pub plain_statement : Statement → Statement
plain_statement s = record {
  line = s.line;
  at = s.at;
  tokens = if opens s.end then tags_in s.tokens else s.tokens;
  string = s.string;
  is_cut = s.is_cut;
  end = plain_end s.end;
}

abbrev pub plain_by : Statement → PassResult → Source → Source
plain_by s (Err fault) others = others
plain_by s (Ok left) others = if is_some left.end then others else (if is_selected left.brackets then plain_statement s ∷ others else others)

-- the statements of a source that are selected, without conditions and brackets
abbrev pub plain : Options → Source → Source
plain options [] = []
plain options (s ∷ older) = plain_by s (pass_over options older) (plain options older)

-- a text leaves what its selected statements leave, without conditions and brackets
abbrev pub SkippedIsNothing : Type 0
SkippedIsNothing =
    (options : Options) (text : List ℕ) (left : Remainder) → remainder_of_text options text ≡ Ok left → pass_over options (plain options (statements text)) ≡ Ok left

-- ## Places rest on no word

-- what a statement says, except that a word is the word 0
abbrev pub zero_phrase : Phrase → Phrase
zero_phrase (body.Nothing, steps) = (body.Nothing, steps)
zero_phrase (body.Origin, steps) = (body.Origin, steps)
zero_phrase (body.Define name, steps) = (body.Define name, steps)
zero_phrase (body.Decimal, steps) = (body.Decimal, steps)
zero_phrase (body.Octal, steps) = (body.Octal, steps)
zero_phrase (body.Field, steps) = (body.Field, steps)
zero_phrase (body.NextPage, steps) = (body.NextPage, steps)
zero_phrase (body.Page, steps) = (body.Page, steps)
zero_phrase (body.Zeros, steps) = (body.Zeros, steps)
zero_phrase (body.Text, steps) = (body.Text, steps)
zero_phrase (body.Listing, steps) = (body.Listing, steps)
zero_phrase (body.IfZero, steps) = (body.IfZero, steps)
zero_phrase (body.IfNotZero, steps) = (body.IfNotZero, steps)
zero_phrase (body.IfDefined name, steps) = (body.IfDefined name, steps)
zero_phrase (body.IfUndefined name, steps) = (body.IfUndefined name, steps)
zero_phrase (body.NoPunch, steps) = (body.NoPunch, steps)
zero_phrase (body.Punch, steps) = (body.Punch, steps)
zero_phrase (body.Relocate, steps) = (body.Relocate, steps)
zero_phrase (body.Unrelocate, steps) = (body.Unrelocate, steps)
zero_phrase (body.FileName, steps) = (body.FileName, steps)
zero_phrase (body.Device, steps) = (body.Device, steps)
zero_phrase (body.Expunge, steps) = (body.Expunge, steps)
zero_phrase (body.FixTable, steps) = (body.FixTable, steps)
zero_phrase (body.FixOperation name, steps) = (body.FixOperation name, steps)
zero_phrase (body.Word, steps) = (body.Word, number 0)

abbrev pub zero_said : Result Phrase GrammarFault → Result Phrase GrammarFault
zero_said (Err fault) = Err fault
zero_said (Ok phrase) = Ok (zero_phrase phrase)

abbrev pub read_zero : Statement → PassResult → PassResult
read_zero s (Err fault) = Err fault
read_zero s (Ok left) =
    if is_some left.end then Ok left
    else (if is_selected left.brackets then with_said s left (zero_said (phrase_of left.standing s.tokens s.is_cut s.end))
    else Ok (with_skipped s left))

-- what the statements of a source leave, where each word is read as the word 0
abbrev pub passed_zero : Options → Source → PassResult
passed_zero options [] = Ok (first_left options)
passed_zero options (s ∷ older) = read_zero s (passed_zero options older)

-- what is left but the words: places, the field and names, the brackets that are open, and the end
abbrev pub without_words : PassResult → PassResult
without_words (Err fault) = Err fault
without_words (Ok left) = Ok record { standing = left.standing; entries = []; brackets = left.brackets; end = left.end }

-- each place, field and name, each condition, the end and each fault of theirs is that of the source with each word read as the word 0
abbrev pub PlacesStay : Type 0
PlacesStay = (options : Options) (source : Source) → without_words (passed_zero options source) ≡ without_words (pass_over options source)
