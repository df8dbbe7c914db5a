-- What the answer for sources of the host is.
use Rattle.std.specs.Prelude.{◌≡◌, ℕ, Some, None, List}
use Rattle.std.specs.Borrow.{Bor}
use Rattle.bin_tape.specs.Writing.{tape_of}
use Rattle.pal_lex.specs.Text.{text_of}
use Rattle.pal_asm.specs.Words.{pairs_of}
use Rattle.pal_asm.specs.Texts.{ArePairsOf}
use Rattle.pal_asm.specs.Faults.{fault_of}
use Rattle.pal_faults.specs.declared.assembling.AsmFault.TheVariants as asm
use Rattle.source_places.specs.declared.places.Place.{Place}
use Rattle.source_places.specs.declared.subjects.About.{About}
use Rattle.host_sources.specs.declared.assembling.Assembly.{Assembly}
use Rattle.host_sources.specs.declared.faults.SourceFault.{SourceFault}
use Rattle.host_sources.specs.declared.faults.SourceFault.TheVariants.{At, Memory}
use Rattle.host_sources.specs.Sources.{texts_of, newest_first, counts_of}
use Rattle.host_sources.specs.Places.{place_at_byte}
use Rattle.host_sources.specs.Marks.{fault_mark}
use Rattle.host_sources.specs.declared.marks.Mark.{Mark}
use Rattle.pal_faults.specs.declared.assembling.Code.{Code}
use Rattle.host_sources.specs.Unknowns.{unknown_name, about}

-- The sources have no fault, and this is the text that they join to, with how much of each is in it, and its words.
pub record IsAssemblyOf (sources : List (Bor (List ℕ))) (assembly : Assembly) : Type 0 where
  pub text : text_of assembly.join.text.items ≡ newest_first sources
  pub counts : assembly.join.counts.items ≡ counts_of (texts_of sources)
  pub pairs : ArePairsOf (newest_first sources) assembly.pairs.items

-- the sources have no fault, and these are the frames of their tape
abbrev pub IsAssembled : List (Bor (List ℕ)) → List ℕ → Type 0
IsAssembled sources frames = (fault_of (newest_first sources) ≡ None) × (frames ≡ tape_of (pairs_of (newest_first sources)))

-- where the fault of a text is, and what stands there, if it has this code
abbrev pub mark_in : Code → List ℕ → Mark
mark_in code text = fault_mark code (about code (unknown_name text)) text

-- a fault of sources with this code has this place, and is about this
abbrev pub IsMarked : List (Bor (List ℕ)) → Code → Place → About → Type 0
IsMarked sources code place about =
    (place ≡ place_at_byte sources (mark_in code (newest_first sources)).at) × (about ≡ (mark_in code (newest_first sources)).about)

-- the fault of the sources, with its place and what it is about; or memory ran out
abbrev pub IsTold : List (Bor (List ℕ)) → SourceFault → Type 0
IsTold sources (At fault) =
    (fault_of (newest_first sources) ≡ Some (asm.At fault.code fault.line)) × IsMarked sources fault.code fault.place fault.about
IsTold sources Memory = Unit {0}
