-- The commands, and the words that stand for them.
use Rattle.std.specs.Prelude.{ℕ, Bool, true, false, ◌==◌, ◌||◌, if◌then◌else◌, codes, List, [], ◌∷◌, Option, None, Some, Result, Ok, Err}
use Rattle.std.specs.List.{starts_with}
use Rattle.std.specs.Str.{bytes_eq}
use Rattle.debug_lines.specs.declared.faults.Refused.{Refused}
use Rattle.debug_lines.specs.declared.faults.Refused.TheVariants.{UnknownCommand, NotPlain}
use Rattle.debug_lines.specs.declared.verbs.TheConstants.{VERBS}
use Rattle.debug_lines.specs.declared.verbs.Verb.{Verb}
use Rattle.debug_lines.specs.declared.verbs.Verb.TheVariants as verb

-- the names of the commands
abbrev pub name_of : Verb → List ℕ
name_of verb.Help = codes "help"
name_of verb.Examine = codes "examine"
name_of verb.List = codes "list"
name_of verb.Registers = codes "registers"
name_of verb.Where = codes "where"
name_of verb.Symbols = codes "symbols"
name_of verb.Who = codes "who"
name_of verb.Deposit = codes "deposit"
name_of verb.Set = codes "set"
name_of verb.Key = codes "key"
name_of verb.Step = codes "step"
name_of verb.Next = codes "next"
name_of verb.Finish = codes "finish"
name_of verb.Continue = codes "continue"
name_of verb.Until = codes "until"
name_of verb.Break = codes "break"
name_of verb.Breaks = codes "breaks"
name_of verb.Unbreak = codes "unbreak"
name_of verb.Back = codes "back"
name_of verb.ReverseContinue = codes "reverse-continue"
name_of verb.ReverseNext = codes "reverse-next"
name_of verb.ReverseFinish = codes "reverse-finish"
name_of verb.Goto = codes "goto"
name_of verb.LastWrite = codes "last-write"
name_of verb.Save = codes "save"
name_of verb.Trace = codes "trace"
name_of verb.Quit = codes "quit"

-- the letters of those that are used most; the others have no shorter name
abbrev pub short_name_of : Verb → List ℕ
short_name_of verb.Help = codes "h"
short_name_of verb.Examine = codes "e"
short_name_of verb.List = codes "l"
short_name_of verb.Registers = codes "r"
short_name_of verb.Where = name_of verb.Where
short_name_of verb.Symbols = name_of verb.Symbols
short_name_of verb.Who = codes "w"
short_name_of verb.Deposit = codes "d"
short_name_of verb.Set = name_of verb.Set
short_name_of verb.Key = codes "k"
short_name_of verb.Step = codes "s"
short_name_of verb.Next = codes "n"
short_name_of verb.Finish = codes "f"
short_name_of verb.Continue = codes "c"
short_name_of verb.Until = codes "u"
short_name_of verb.Break = codes "b"
short_name_of verb.Breaks = name_of verb.Breaks
short_name_of verb.Unbreak = name_of verb.Unbreak
short_name_of verb.Back = name_of verb.Back
short_name_of verb.ReverseContinue = name_of verb.ReverseContinue
short_name_of verb.ReverseNext = name_of verb.ReverseNext
short_name_of verb.ReverseFinish = name_of verb.ReverseFinish
short_name_of verb.Goto = name_of verb.Goto
short_name_of verb.LastWrite = name_of verb.LastWrite
short_name_of verb.Save = name_of verb.Save
short_name_of verb.Trace = name_of verb.Trace
short_name_of verb.Quit = codes "q"

-- a word is the name or the letter of a command
abbrev pub is_spelled : List ℕ → Verb → Bool
is_spelled word verb = bytes_eq word (name_of verb) || bytes_eq word (short_name_of verb)

-- the first command that a word spells whole
abbrev pub spelled_verb : List ℕ → List Verb → Option Verb
spelled_verb word [] = None
spelled_verb word (verb ∷ verbs) = if is_spelled word verb then Some verb else spelled_verb word verbs

-- the name of a command begins with a word
abbrev pub begins : List ℕ → Verb → Bool
begins word verb = starts_with (λ a b. a == b) (name_of verb) word

abbrev pub begins_any : List ℕ → List Verb → Bool
begins_any word [] = false
begins_any word (verb ∷ verbs) = begins word verb || begins_any word verbs

-- a command, if no other begins so
abbrev pub alone_verb : Verb → Bool → Result Verb Refused
alone_verb verb true = Err NotPlain
alone_verb verb false = Ok verb

-- the one command whose name begins with a word
abbrev pub only_verb : List ℕ → List Verb → Result Verb Refused
only_verb word [] = Err UnknownCommand
only_verb word (verb ∷ verbs) = if begins word verb then alone_verb verb (begins_any word verbs) else only_verb word verbs

abbrev pub verb_or_other : Result Verb Refused → Option Verb → Result Verb Refused
verb_or_other other None = other
verb_or_other other (Some verb) = Ok verb

-- the command of a word: its name, its letter, or else how the name of one command alone begins
unfoldable pub verb_of : List ℕ → Result Verb Refused
verb_of word = verb_or_other (only_verb word VERBS) (spelled_verb word VERBS)
