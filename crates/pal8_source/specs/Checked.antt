-- The PAL8 source of a tape that comes back (PAL8, in this project's profile).
use Rattle.std.specs.Prelude.{◌≡◌, ◌≢◌, ◌⊎◌, ℕ, ◌<◌, false, Option, Err, List}
use Rattle.word12.specs.declared.sizes.TheConstants.{CORE}
use Rattle.bin_tape.specs.Items.{tape_map}
use Rattle.bin_tape.specs.Pairs.{ArePairs}
use Rattle.pal_lex.specs.Text.{text_of}
use Rattle.pal8_asm.specs.Assembled.{result_of_text}
use Rattle.pal8_asm.specs.Assembling.{IsAssembled}
use Rattle.pal8_asm.specs.Laws.{meaning}
use Rattle.pal8_asm.specs.declared.faults.Fault.{Fault}
use Rattle.pal8_places.specs.declared.options.Options.{Options}
use Rattle.pal8_source.specs.Sources.{IsPal8Source}
use Rattle.pal8_source.specs.Plain.{plain_source}

-- how `assemble --pal8` reads a source, if nothing else is asked for
abbrev pub as_profile : Options
as_profile = record { is_without_links = false; is_without_zero = false; is_without_origin = false; has_stays = false }

-- A text assembles without a fault, and what its words and its pools give each cell is what a map gives it.
pub record ComesBack (map : ℕ → Option ℕ) (text : List ℕ) : Type 0 where
  pub pairs : List (ℕ × ℕ)
  pub are : IsAssembled (result_of_text as_profile (text_of text)) pairs
  -- cells of core with words of twelve bits
  pub are_pairs : ArePairs pairs
  pub cells : (cell : ℕ) → cell < CORE → meaning pairs cell ≡ map cell

-- A text has a fault.
pub record HasFault (text : List ℕ) : Type 0 where
  pub fault : Fault
  pub is_fault : result_of_text as_profile (text_of text) ≡ Err fault

-- A text assembles without a fault, and gives some cell what a map doesn't give it.
pub record GivesOther (map : ℕ → Option ℕ) (text : List ℕ) : Type 0 where
  pub pairs : List (ℕ × ℕ)
  pub are : IsAssembled (result_of_text as_profile (text_of text)) pairs
  pub cell : ℕ
  pub in_core : cell < CORE
  pub differs : meaning pairs cell ≢ map cell

-- a text is this source, or the plain one, where this one doesn't come back
abbrev pub IsOrStandsFor : (ℕ → Option ℕ) → List ℕ → List ℕ → Type 0
IsOrStandsFor map source text = (text ≡ source) ⊎ ((HasFault source ⊎ GivesOther map source) × (text ≡ plain_source map))

-- The frames have a PAL8 source. The text is that one, or stands for it, and comes back: assembled, it gives each cell what the tape gives it.
pub record IsCheckedSource (frames starts : List ℕ) (names : Option (List ℕ)) (text : List ℕ) : Type 0 where
  pub source : List ℕ
  pub is_source : IsPal8Source frames starts names source
  pub is_or_stands : IsOrStandsFor (tape_map is_source.items) source text
  pub comes_back : ComesBack (tape_map is_source.items) text
