-- What a command says by the words that follow it. One that is missing is missed after the last word that is there.
use Rattle.std.specs.Prelude.{ℕ, if◌then◌else◌, codes, List, [], ◌∷◌, length, Option, None, Some, Result, Ok, Err}
use Rattle.debug_lines.specs.Cells.{cell_in, range_in}
use Rattle.debug_lines.specs.Numbers.{refusal_at, decimal_in, word_in}
use Rattle.debug_lines.specs.Operands.{form_in, quote_in, register_in, text_in}
use Rattle.debug_lines.specs.Parts.{part, refusal_of, is_word, if_read}
use Rattle.debug_lines.specs.declared.commands.Command.{Command}
use Rattle.debug_lines.specs.declared.commands.Command.TheVariants as command
use Rattle.debug_lines.specs.declared.commands.Form.{Form}
use Rattle.debug_lines.specs.declared.comparisons.Register.{Register}
use Rattle.debug_lines.specs.declared.faults.Refusal.{Refusal}
use Rattle.debug_lines.specs.declared.faults.Refused.TheVariants.{MissingWord, LeftOver, NotComparison}
use Rattle.debug_lines.specs.declared.parts.Part.{Part}
use Rattle.debug_lines.specs.declared.references.Range.{Range}
use Rattle.debug_lines.specs.declared.references.Reference.{Reference}
use Rattle.debug_lines.specs.declared.verbs.Verb.{Verb}
use Rattle.debug_lines.specs.declared.verbs.Verb.TheVariants as verb

abbrev pub missing : ℕ → Refusal
missing place = refusal_of MissingWord place

-- the one word of some
abbrev pub one_word : ℕ → List Part → Result Part Refusal
one_word before [] = Err (missing before)
one_word before (word ∷ []) = Ok word
one_word before (word ∷ other ∷ others) = Err (refusal_at LeftOver other)

-- the one word of some, or none
abbrev pub maybe_word : List Part → Result (Option Part) Refusal
maybe_word [] = Ok None
maybe_word (word ∷ []) = Ok (Some word)
maybe_word (word ∷ other ∷ others) = Err (refusal_at LeftOver other)

-- what is read of a word, if there is one
abbrev pub read_maybe : {A : Type 0} → (Part → Result A Refusal) → Option Part → Result (Option A) Refusal
read_maybe read None = Ok None
read_maybe read (Some word) = if_read (read word) (λ it. Ok (Some it))

-- a command that has no words
abbrev pub alone : Command → List Part → Result Command Refusal
alone command [] = Ok command
alone command (other ∷ others) = Err (refusal_at LeftOver other)

-- what one word says
abbrev pub one_cell : List ℕ → ℕ → List Part → Result Reference Refusal
one_cell line before words = if_read (one_word before words) (λ word. cell_in line word)

abbrev pub one_number : List ℕ → ℕ → List Part → Result ℕ Refusal
one_number line before words = if_read (one_word before words) (λ word. decimal_in line word)

abbrev pub one_text : List ℕ → ℕ → List Part → Result Part Refusal
one_text line before words = if_read (one_word before words) (λ word. text_in line word)

abbrev pub one_quote : List ℕ → ℕ → List Part → Result Part Refusal
one_quote line before words = if_read (one_word before words) (λ word. quote_in line word)

-- and what one or none does
abbrev pub maybe_number : List ℕ → List Part → Result (Option ℕ) Refusal
maybe_number line words = if_read (maybe_word words) (read_maybe (λ word. decimal_in line word))

abbrev pub maybe_text : List ℕ → List Part → Result (Option Part) Refusal
maybe_text line words = if_read (maybe_word words) (read_maybe (λ word. text_in line word))

abbrev pub maybe_range : List ℕ → List Part → Result (Option Range) Refusal
maybe_range line words = if_read (maybe_word words) (read_maybe (λ word. range_in line word))

-- nothing, or `as` and a form
abbrev pub as_form : List ℕ → List Part → Result (Option Form) Refusal
as_form line [] = Ok None
as_form line (word ∷ others) =
    if is_word (codes "as") line word
    then if_read (one_word word.end others) (λ name. if_read (form_in line name) (λ form. Ok (Some form)))
    else Err (refusal_at LeftOver word)

-- an `examine`: a range, and then nothing, or `as` and a form
abbrev pub examine_of : List ℕ → ℕ → List Part → Result Command Refusal
examine_of line before [] = Err (missing before)
examine_of line before (word ∷ others) =
    if_read (range_in line word) (λ range. if_read (as_form line others) (λ form. Ok (command.Examine range form)))

-- a `set`: a register, `=`, and a word
abbrev pub set_to : List ℕ → Register → ℕ → List Part → Result Command Refusal
set_to line register before [] = Err (missing before)
set_to line register before (sign ∷ others) =
    if is_word (codes "=") line sign
    then if_read (one_word sign.end others) (λ number. if_read (word_in line number) (λ word. Ok (command.Set register word)))
    else Err (refusal_at NotComparison sign)

abbrev pub set_of : List ℕ → ℕ → List Part → Result Command Refusal
set_of line before [] = Err (missing before)
set_of line before (word ∷ others) = if_read (register_in line word) (λ register. set_to line register word.end others)

-- the rest of a line from the first of some words on
abbrev pub rest_of : List ℕ → ℕ → List Part → Result Part Refusal
rest_of line before [] = Err (missing before)
rest_of line before (word ∷ others) = Ok (part word.start (length line))

-- a `deposit`: a cell, and the rest of the line, in which something stands
abbrev pub deposit_of : List ℕ → ℕ → List Part → Result Command Refusal
deposit_of line before [] = Err (missing before)
deposit_of line before (word ∷ others) =
    if_read (cell_in line word) (λ cell. if_read (rest_of line word.end others) (λ rest. Ok (command.Deposit cell rest)))

-- a `trace`: `off`, or a file
abbrev pub trace_word : List ℕ → Part → Result Command Refusal
trace_word line word =
    if is_word (codes "off") line word then Ok (command.Trace None) else if_read (text_in line word) (λ file. Ok (command.Trace (Some file)))

abbrev pub trace_of : List ℕ → ℕ → List Part → Result Command Refusal
trace_of line before words = if_read (one_word before words) (λ word. trace_word line word)

-- the forms of the commands but `break`, which has more words
abbrev pub simple_command : List ℕ → Verb → ℕ → List Part → Result Command Refusal
simple_command line verb.Help before words = if_read (maybe_text line words) (λ text. Ok (command.Help text))
simple_command line verb.Examine before words = examine_of line before words
simple_command line verb.List before words = if_read (maybe_range line words) (λ range. Ok (command.List range))
simple_command line verb.Registers before words = alone command.Registers words
simple_command line verb.Where before words = alone command.Where words
simple_command line verb.Symbols before words = if_read (maybe_text line words) (λ pattern. Ok (command.Symbols pattern))
simple_command line verb.Who before words = if_read (one_cell line before words) (λ cell. Ok (command.Who cell))
simple_command line verb.Deposit before words = deposit_of line before words
simple_command line verb.Set before words = set_of line before words
simple_command line verb.Key before words = if_read (one_quote line before words) (λ text. Ok (command.Key text))
simple_command line verb.Step before words = if_read (maybe_number line words) (λ number. Ok (command.Step number))
simple_command line verb.Next before words = if_read (maybe_number line words) (λ number. Ok (command.Next number))
simple_command line verb.Finish before words = alone command.Finish words
simple_command line verb.Continue before words = alone command.Continue words
simple_command line verb.Until before words = if_read (one_cell line before words) (λ cell. Ok (command.Until cell))
simple_command line verb.Break before words = Err (missing before)
simple_command line verb.Breaks before words = alone command.Breaks words
simple_command line verb.Unbreak before words = if_read (maybe_number line words) (λ number. Ok (command.Unbreak number))
simple_command line verb.Back before words = if_read (maybe_number line words) (λ number. Ok (command.Back number))
simple_command line verb.ReverseContinue before words = alone command.ReverseContinue words
simple_command line verb.ReverseNext before words = alone command.ReverseNext words
simple_command line verb.ReverseFinish before words = alone command.ReverseFinish words
simple_command line verb.Goto before words = if_read (one_number line before words) (λ number. Ok (command.Goto number))
simple_command line verb.LastWrite before words = if_read (one_cell line before words) (λ cell. Ok (command.LastWrite cell))
simple_command line verb.Save before words = if_read (one_text line before words) (λ file. Ok (command.Save file))
simple_command line verb.Trace before words = trace_of line before words
simple_command line verb.Quit before words = alone command.Quit words
