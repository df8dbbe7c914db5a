-- What holds of all lines, and of the names of commands.
use Rattle.std.proofs.Common.{◌≡◌, ◌∙◌, ◌+◌, ℕ, true, map, List, [], ◌∷◌, Ok, ap, refl}
use Rattle.std.specs.Char.{to_ascii_lowercase, to_ascii_uppercase}
use Rattle.std.proofs.lemmas.Str.Ascii.{lowercase-lowercase, lowercase-uppercase}
use Rattle.debug_lines.specs.Laws.{BlankMovesWords}
use Rattle.debug_lines.specs.Lines.{commands_of, commands_from}
use Rattle.debug_lines.specs.Words.{words_of, words_from, is_blank}
use Rattle.debug_lines.specs.Verbs.{name_of, short_name_of, verb_of}
use Rattle.debug_lines.specs.declared.verbs.Verb.{Verb}
use Rattle.debug_lines.specs.declared.verbs.Verb.TheVariants as verb

small_again : (line : List ℕ) → map to_ascii_lowercase (map to_ascii_lowercase line) ≡ map to_ascii_lowercase line
small_again [] = refl
small_again (byte ∷ line) =
    ap (λ first. first ∷ map to_ascii_lowercase (map to_ascii_lowercase line)) (lowercase-lowercase byte)
    ∙ ap (λ rest. to_ascii_lowercase byte ∷ rest) (small_again line)

small_capitals : (line : List ℕ) → map to_ascii_lowercase (map to_ascii_uppercase line) ≡ map to_ascii_lowercase line
small_capitals [] = refl
small_capitals (byte ∷ line) =
    ap (λ first. first ∷ map to_ascii_lowercase (map to_ascii_uppercase line)) (lowercase-uppercase byte)
    ∙ ap (λ rest. to_ascii_lowercase byte ∷ rest) (small_capitals line)

pub small_says_same : (line : List ℕ) → commands_of (map to_ascii_lowercase line) ≡ commands_of line
unfolding commands_of
small_says_same line = ap (λ text. commands_from text 0 (words_of text)) (small_again line)

pub capital_says_same : (line : List ℕ) → commands_of (map to_ascii_uppercase line) ≡ commands_of line
unfolding commands_of
capital_says_same line = ap (λ text. commands_from text 0 (words_of text)) (small_capitals line)

pub blank_moves : BlankMovesWords
blank_moves blank place text is = rw is refl

pub name_stands : (it : Verb) → verb_of (name_of it) ≡ Ok it
unfolding verb_of
name_stands verb.Help = refl
name_stands verb.Examine = refl
name_stands verb.List = refl
name_stands verb.Registers = refl
name_stands verb.Where = refl
name_stands verb.Symbols = refl
name_stands verb.Who = refl
name_stands verb.Deposit = refl
name_stands verb.Set = refl
name_stands verb.Key = refl
name_stands verb.Step = refl
name_stands verb.Next = refl
name_stands verb.Finish = refl
name_stands verb.Continue = refl
name_stands verb.Until = refl
name_stands verb.Break = refl
name_stands verb.Breaks = refl
name_stands verb.Unbreak = refl
name_stands verb.Back = refl
name_stands verb.ReverseContinue = refl
name_stands verb.ReverseNext = refl
name_stands verb.ReverseFinish = refl
name_stands verb.Goto = refl
name_stands verb.LastWrite = refl
name_stands verb.Save = refl
name_stands verb.Trace = refl
name_stands verb.Quit = refl

pub letter_stands : (it : Verb) → verb_of (short_name_of it) ≡ Ok it
unfolding verb_of
letter_stands verb.Help = refl
letter_stands verb.Examine = refl
letter_stands verb.List = refl
letter_stands verb.Registers = refl
letter_stands verb.Where = refl
letter_stands verb.Symbols = refl
letter_stands verb.Who = refl
letter_stands verb.Deposit = refl
letter_stands verb.Set = refl
letter_stands verb.Key = refl
letter_stands verb.Step = refl
letter_stands verb.Next = refl
letter_stands verb.Finish = refl
letter_stands verb.Continue = refl
letter_stands verb.Until = refl
letter_stands verb.Break = refl
letter_stands verb.Breaks = refl
letter_stands verb.Unbreak = refl
letter_stands verb.Back = refl
letter_stands verb.ReverseContinue = refl
letter_stands verb.ReverseNext = refl
letter_stands verb.ReverseFinish = refl
letter_stands verb.Goto = refl
letter_stands verb.LastWrite = refl
letter_stands verb.Save = refl
letter_stands verb.Trace = refl
letter_stands verb.Quit = refl
