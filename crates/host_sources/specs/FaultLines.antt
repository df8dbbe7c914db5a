-- The text of a fault, as a compiler prints it (this project's profile of PAL III).
use Rattle.std.specs.Prelude.{ℕ, codes, decimal, List, ◌++◌}
use Rattle.std.specs.Borrow.{Bor}
use Rattle.pal_faults.specs.declared.assembling.Code.{Code}
use Rattle.pal_faults.specs.declared.assembling.Code.TheVariants.{IC, SY, NU, UA, DT, RD, IR, FD, PF, NE, NW}
use Rattle.source_places.specs.Places.{bytes_of}
use Rattle.source_places.specs.Showing.{about_text, place_text, marked_line}
use Rattle.host_sources.specs.declared.faults.Fault.{Fault}

-- the two letters of a fault
abbrev pub letters_of : Code → List ℕ
letters_of IC = codes "IC"
letters_of SY = codes "SY"
letters_of NU = codes "NU"
letters_of UA = codes "UA"
letters_of DT = codes "DT"
letters_of RD = codes "RD"
letters_of IR = codes "IR"
letters_of FD = codes "FD"
letters_of PF = codes "PF"
letters_of NE = codes "NE"
letters_of NW = codes "NW"

-- the words of a fault
abbrev pub words_of : Code → List ℕ
words_of IC = codes "illegal character"
words_of SY = codes "bad statement"
words_of NU = codes "bad number"
words_of UA = codes "undefined name"
words_of DT = codes "duplicate tag"
words_of RD = codes "redefinition"
words_of IR = codes "illegal reference"
words_of FD = codes "bad field"
words_of PF = codes "past 7777"
words_of NE = codes "no $"
words_of NW = codes "no word"

-- `CODE: WORDS`, and after it what the fault is about
abbrev pub fault_words : Fault → List ℕ
fault_words fault = letters_of fault.code ++ codes ": " ++ words_of fault.code ++ about_text fault.about

-- `NAME:LINE:COLUMN: CODE: WORDS`, with what the fault is about
abbrev pub headline : List ℕ → Fault → List ℕ
headline name fault = place_text name fault.place ++ fault_words fault ++ codes "\n"

-- `? 5 CODE LINE`, as it is printed for scripts
abbrev pub script_text : Fault → List ℕ
script_text fault = codes "? 5 " ++ letters_of fault.code ++ codes " " ++ decimal fault.line ++ codes "\n"

-- the text of a fault of sources with these names: the fault, its line with a caret below its place, and the line that
-- is printed for scripts
abbrev pub fault_text : List (Bor (List ℕ)) → List (Bor (List ℕ)) → Fault → List ℕ
fault_text sources names fault =
    headline (bytes_of names fault.place.source) fault ++ marked_line (bytes_of sources fault.place.source) fault.place ++ script_text fault
