-- What holds of all lines.
use Rattle.std.specs.Prelude.{◌≡◌, ℕ, ◌+◌, map, true, List, ◌∷◌, Ok}
use Rattle.std.specs.Char.{to_ascii_lowercase, to_ascii_uppercase}
use Rattle.debug_lines.specs.Lines.{commands_of}
use Rattle.debug_lines.specs.Parts.{text_of}
use Rattle.debug_lines.specs.Verbs.{name_of, short_name_of, verb_of}
use Rattle.debug_lines.specs.Words.{is_blank, words_from, words_of}
use Rattle.debug_lines.specs.declared.verbs.Verb.{Verb}

-- A line says the same with its letters small, and with its letters capital.
abbrev pub SmallSaysSame : Type 0
SmallSaysSame = (line : List ℕ) → commands_of (map to_ascii_lowercase line) ≡ commands_of line

abbrev pub CapitalSaysSame : Type 0
CapitalSaysSame = (line : List ℕ) → commands_of (map to_ascii_uppercase line) ≡ commands_of line

-- The name of each command stands for it, and so does its letter.
abbrev pub NameStandsForVerb : Type 0
NameStandsForVerb = (verb : Verb) → verb_of (name_of verb) ≡ Ok verb

abbrev pub LetterStandsForVerb : Type 0
LetterStandsForVerb = (verb : Verb) → verb_of (short_name_of verb) ≡ Ok verb

-- A blank before the words of a text moves their places by one, and does nothing else.
abbrev pub BlankMovesWords : Type 0
BlankMovesWords = (blank place : ℕ) (text : List ℕ) → is_blank blank ≡ true → words_from 0 place (blank ∷ text) ≡ words_from 0 (place + 1) text

-- So the words of a line have the same texts where a blank stands before it.
abbrev pub BlankKeepsTexts : Type 0
BlankKeepsTexts =
    (blank : ℕ) (line : List ℕ) → is_blank blank ≡ true → map (text_of (blank ∷ line)) (words_of (blank ∷ line)) ≡ map (text_of line) (words_of line)
