-- Where in its statement a fault is: at a character, at a name or at a number (this project's profile of PAL III).
use Rattle.std.specs.Prelude.{ℕ, Bool, if◌then◌else◌, Option, Some, None, unwrap_or, length, List, [], ◌∷◌}
use Rattle.pal_lex.specs.Text.{stretch, is_over}
use Rattle.pal_lex.specs.Cutting.{pieces}
use Rattle.pal_lex.specs.Runs.{base}
use Rattle.pal_lex.specs.Statements.{statements, radix_after}
use Rattle.pal_faults.specs.declared.assembling.Code.{Code}
use Rattle.pal_faults.specs.declared.assembling.Code.TheVariants.{IC, SY, NU, UA, DT, RD, IR, FD, PF, NE, NW}
use Rattle.pal_asm.specs.Places.{values}
use Rattle.source_places.specs.declared.places.Place.{Place}
use Rattle.source_places.specs.declared.subjects.About.{About}
use Rattle.source_places.specs.declared.subjects.About.TheVariants.{Nothing, Name, Character}
use Rattle.host_sources.specs.Starts.{start_of}
use Rattle.host_sources.specs.Runs.{first_illegal, first_run, is_name, is_bad_number}
use Rattle.host_sources.specs.Places.{shortest, is_refused, is_settled}
use Rattle.host_sources.specs.declared.faults.Fault.{Fault}
use Rattle.host_sources.specs.declared.marks.Mark.{Mark}

-- a fault of the statement that begins there
abbrev pub at_start : List ℕ → Mark
at_start older = record { at = start_of older; about = Nothing }

abbrev pub at_character : ℕ → Option (ℕ × ℕ) → Mark
at_character start None = record { at = start; about = Nothing }
at_character start (Some live) = record { at = live.1; about = Character live.0 }

-- a fault at the first run of the statement of which this holds
abbrev pub at_run : About → (List ℕ → Bool) → List ℕ → Mark
at_run about holds older = record { at = unwrap_or (first_run holds (pieces (stretch older))) (start_of older); about = about }

abbrev pub at_name : Option ℕ → List ℕ → Mark
at_name None older = at_start older
at_name (Some name) older = at_run (Name name) (is_name name) older

-- Where the fault of the statement is that a byte after a text ends. IC is at its first character that is none of PAL III, NU at its
-- first run that is a bad number. UA is at its first run that is this name, and all else where the statement begins.
abbrev pub mark_of : Code → Option ℕ → List ℕ → Mark
mark_of IC name older = at_character (start_of older) (first_illegal (stretch older))
mark_of SY name older = at_start older
mark_of NU name older = at_run Nothing (is_bad_number (base (radix_after (statements older)))) older
mark_of UA name older = at_name name older
mark_of DT name older = at_start older
mark_of RD name older = at_start older
mark_of IR name older = at_start older
mark_of FD name older = at_start older
mark_of PF name older = at_start older
mark_of NE name older = at_start older
mark_of NW name older = at_start older

-- where the fault of the statement is that the newest byte of a text ends
abbrev pub ended_mark : Code → Option ℕ → List ℕ → Mark
ended_mark code name [] = record { at = 0; about = Nothing }
ended_mark code name (b ∷ older) = mark_of code name older

-- Where the fault of a text is, and what stands there. It is in the statement that has it, at the `$` where there is no word, and
-- after the text where there is no `$`.
abbrev pub fault_mark : Code → Option ℕ → List ℕ → Mark
fault_mark code name text =
    if is_refused text then ended_mark code name (shortest is_refused text)
    else (if is_over text then ended_mark code name (shortest (is_settled (values (statements text))) text)
    else record { at = length text; about = Nothing })

-- a fault at a mark, where these are the places of the bytes of a text
abbrev pub at_mark : (ℕ → Place) → Code → ℕ → Mark → Fault
at_mark place code line mark = record { code = code; line = line; place = place mark.at; about = mark.about }
