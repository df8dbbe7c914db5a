-- What a text makes, or its first fault (PAL8, in this project's profile).
use Rattle.std.specs.Prelude.{ℕ, Bool, true, false, Option, Some, None, Result, Ok, Err, List, [], ◌∷◌}
use Rattle.pal8_asm.specs.Sources.{PassResult, at_place, remainder_of_text}
use Rattle.pal8_asm.specs.declared.faults.Place.{Place}
use Rattle.pal8_asm.specs.declared.faults.Fault.{Fault}
use Rattle.pal8_places.specs.declared.faults.Code.TheVariants as code
use Rattle.pal8_places.specs.declared.options.Options.{Options}
use Rattle.pal8_asm.specs.Tapes.{TapeWords, without_clash, words_of_entries}

abbrev pub has_words : List (ℕ × ℕ) → Bool
has_words [] = false
has_words (word ∷ others) = true

-- the place of the `$` that ended a source
abbrev pub dollar_in : Option Place → Place
dollar_in None = record { line = 1; start = 0 }
dollar_in (Some place) = place

abbrev pub result_with_words : Place → TapeWords → Bool → Result TapeWords Fault
result_with_words dollar made true = Ok made
result_with_words dollar made false = Err (at_place dollar code.NW)

-- there is a punched word
abbrev pub result_if_any_word : Place → Result TapeWords Fault → Result TapeWords Fault
result_if_any_word dollar (Err fault) = Err fault
result_if_any_word dollar (Ok made) = result_with_words dollar made (has_words made.words)

abbrev pub result_of_source : PassResult → Result TapeWords Fault
result_of_source (Err fault) = Err fault
result_of_source (Ok left) = result_if_any_word (dollar_in left.end) (without_clash (words_of_entries left.standing.names.own left.standing.late left.entries))

-- what a text makes, or its first fault: of places and names; of its end; of words; of words on pools' cells; that there is no word
abbrev pub result_of_text : Options → List ℕ → Result TapeWords Fault
result_of_text options text = result_of_source (remainder_of_text options text)
