-- The answer for sources of the host (PAL8, the assembler of OS/8, in this project's profile).
use Rattle.std.specs.Prelude.{◌≡◌, ℕ, Err, Result, get_or, List}
use Rattle.std.specs.Borrow.{Bor}
use Rattle.bin_tape.specs.Writing.{tape_of}
use Rattle.pal_lex.specs.Text.{text_of}
use Rattle.pal8_asm.specs.Assembled.{result_of_text}
use Rattle.pal8_asm.specs.Assembling.{IsAssembled}
use Rattle.pal8_asm.specs.Tapes.{TapeWords}
use Rattle.pal8_asm.specs.declared.faults.Fault as asm
use Rattle.pal8_places.specs.declared.options.Options.{Options}
use Rattle.source_places.specs.Places.{place_in}
use Rattle.pal8_tape.specs.Joins.{bytes_in, counts_of, joined_bytes}
use Rattle.pal8_tape.specs.Marks.{fault_mark}
use Rattle.pal8_tape.specs.Places.{place_by}
use Rattle.pal8_tape.specs.declared.faults.Fault.{Fault}
use Rattle.pal8_tape.specs.declared.faults.SourceFault.{SourceFault}
use Rattle.pal8_tape.specs.declared.faults.SourceFault.TheVariants.{At, Memory}

-- what sources make, or their first fault: it is that of the text that they join to
abbrev pub result_of : Options → List (List ℕ) → Result TapeWords asm.Fault
result_of options texts = result_of_text options (text_of (joined_bytes options texts))

-- The sources have no fault. These are the frames of the tape of their words with their cells, in their order, and then of the cells of their
-- pools with their values, by rising cell.
pub record IsTape (options : Options) (sources : List (Bor (List ℕ))) (frames : List ℕ) : Type 0 where
  pub pairs : List (ℕ × ℕ)
  pub are_all : IsAssembled (result_of options (bytes_in sources)) pairs
  pub are : frames ≡ tape_of pairs

-- a fault of sources with these texts that is at a byte of their join, by its number from 0
abbrev pub at_mark : Options → List (Bor (List ℕ)) → List (List ℕ) → asm.Fault → ℕ → Fault
at_mark options sources texts fault at = record {
  code = fault.code;
  line = fault.place.line;
  place = place_by sources (place_in (counts_of options texts) at);
  byte = get_or (joined_bytes options texts) at 0;
}

-- a fault of sources with these texts, where each statement has its line and its first byte in the join
abbrev pub with_place : Options → List (Bor (List ℕ)) → List (List ℕ) → asm.Fault → Fault
with_place options sources texts fault = at_mark options sources texts fault (fault_mark options (joined_bytes options texts) fault.code fault.place.start)

-- the first fault of the sources, with its place; or memory ran out
abbrev pub IsTold : Options → List (Bor (List ℕ)) → SourceFault → Type 0
IsTold options sources (At fault) = (met : asm.Fault) × (result_of options (bytes_in sources) ≡ Err met) × (fault ≡ with_place options sources (bytes_in sources) met)
IsTold options sources Memory = Unit {0}
