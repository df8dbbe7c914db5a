-- The faults after one of a character, a number or a statement's form (this project's profile of PAL III).
use Rattle.std.specs.Prelude.{ℕ, Bool, true, false, ◌&&◌, not, if◌then◌else◌, Option, Some, None, is_some, zero, suc, List, [], ◌∷◌}
use Rattle.pal_faults.specs.declared.assembling.AsmFault.{AsmFault}
use Rattle.pal_faults.specs.declared.assembling.AsmFault.TheVariants.{At, Memory}
use Rattle.pal_faults.specs.declared.assembling.Code.{Code}
use Rattle.pal_faults.specs.declared.assembling.Code.TheVariants.{IC, SY, NU, UA, DT, RD, IR, FD, PF, NE, NW}
use Rattle.pal_asm.specs.Faults.{fault_of}
use Rattle.source_places.specs.declared.places.Place.{Place}
use Rattle.host_sources.specs.Places.{shortest, is_refused}
use Rattle.host_sources.specs.Marks.{fault_mark, at_mark}
use Rattle.host_sources.specs.Mending.{turns, harmless}
use Rattle.host_sources.specs.declared.faults.Fault.{Fault}

-- those of a statement that is read alone
abbrev pub is_lexical : Code → Bool
is_lexical IC = true
is_lexical SY = true
is_lexical NU = true
is_lexical UA = false
is_lexical DT = false
is_lexical RD = false
is_lexical IR = false
is_lexical FD = false
is_lexical PF = false
is_lexical NE = false
is_lexical NW = false

abbrev pub lexical_by : Option AsmFault → Option (Code × ℕ)
lexical_by None = None
lexical_by (Some (At code line)) = if is_lexical code then Some (code, line) else None
lexical_by (Some Memory) = None

-- the first fault of a text, with its line, if it is IC, SY or NU
abbrev pub lexical_code : List ℕ → Option (Code × ℕ)
lexical_code text = if is_refused text then lexical_by (fault_of text) else None

abbrev pub lexical_with : (ℕ → Place) → List ℕ → Option (Code × ℕ) → Option Fault
lexical_with place text None = None
lexical_with place text (Some found) = Some (at_mark place found.0 found.1 (fault_mark found.0 None text))

-- the same with its place, where these are the places of the bytes
abbrev pub lexical_fault : (ℕ → Place) → List ℕ → Option Fault
lexical_fault place text = lexical_with place text (lexical_code text)

-- after this fault of a text others can be found: its statement doesn't say how what follows is read
abbrev pub goes_on : List ℕ → Bool
goes_on text = is_some (lexical_code text) && not (turns (shortest is_refused text))

abbrev pub with_first : Option Fault → List Fault → List Fault
with_first None others = []
with_first (Some fault) others = fault ∷ others

-- So many faults after the first of a text, if this is IC, SY or NU. They are the first one of the text with that statement made harmless,
-- if this is IC, SY or NU again, and then those after it.
abbrev pub lexical_further : (ℕ → Place) → ℕ → List ℕ → List Fault
lexical_further place zero text = []
lexical_further place (suc n) text =
    if goes_on text then with_first (lexical_fault place (harmless text)) (lexical_further place n (harmless text)) else []
