-- The commands of a line.
use Rattle.std.specs.Prelude.{ℕ, Bool, if◌then◌else◌, codes, map, zero, suc, List, [], ◌∷◌, length, Result, Ok, Err}
use Rattle.std.specs.Char.{to_ascii_lowercase}
use Rattle.std.specs.Str.{bytes_eq}
use Rattle.debug_lines.specs.Breaks.{break_of}
use Rattle.debug_lines.specs.Grammar.{simple_command}
use Rattle.debug_lines.specs.Numbers.{refusal_at}
use Rattle.debug_lines.specs.Parts.{text_of, is_word, if_read}
use Rattle.debug_lines.specs.Verbs.{name_of, verb_of}
use Rattle.debug_lines.specs.Words.{words_of}
use Rattle.debug_lines.specs.declared.commands.Command.{Command}
use Rattle.debug_lines.specs.declared.faults.Refusal.{Refusal}
use Rattle.debug_lines.specs.declared.faults.Refused.{Refused}
use Rattle.debug_lines.specs.declared.parts.Part.{Part}
use Rattle.debug_lines.specs.declared.verbs.Verb.{Verb}

-- a line in small letters
abbrev pub small : List ℕ → List ℕ
small line = map to_ascii_lowercase line

abbrev pub verb_or : Part → Result Verb Refused → Result Verb Refusal
verb_or word (Ok verb) = Ok verb
verb_or word (Err why) = Err (refusal_at why word)

-- the command of a word
abbrev pub verb_in : List ℕ → Part → Result Verb Refusal
verb_in line word = verb_or word (verb_of (text_of line word))

-- the words before the next `;`
abbrev pub operands : List ℕ → List Part → List Part
operands line [] = []
operands line (word ∷ words) = if is_word (codes ";") line word then [] else word ∷ operands line words

abbrev pub is_named : List ℕ → Verb → Bool
is_named name verb = bytes_eq (name_of verb) name

-- the words after a command that are its own: all after a `deposit`
abbrev pub operands_of : List ℕ → Verb → List Part → List Part
operands_of line verb words = if is_named (codes "deposit") verb then words else operands line words

-- what a command says by its words
abbrev pub command_of : List ℕ → Verb → ℕ → List Part → Result Command Refusal
command_of line verb before words =
    if is_named (codes "break") verb then break_of line before words else simple_command line verb before words

-- The commands of a line's words, after so many that belong to the command before. None is read where one is refused.
abbrev pub commands_from : List ℕ → ℕ → List Part → Result (List Command) Refusal
commands_from line inside [] = Ok []
commands_from line zero (word ∷ words) =
    if is_word (codes ";") line word then commands_from line 0 words
    else if_read (verb_in line word) (λ verb.
    if_read (command_of line verb word.end (operands_of line verb words)) (λ command.
    if_read (commands_from line (length (operands_of line verb words)) words) (λ commands. Ok (command ∷ commands))))
commands_from line (suc inside) (word ∷ words) = commands_from line inside words

-- the commands of a line, in which letters count as small ones
unfoldable pub commands_of : List ℕ → Result (List Command) Refusal
commands_of line = commands_from (small line) 0 (words_of (small line))
