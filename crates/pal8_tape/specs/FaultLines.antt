-- The text of a fault, as a compiler reports it (this project's profile of PAL8).
use Rattle.std.specs.Prelude.{ℕ, codes, decimal, List, [], ◌++◌}
use Rattle.word12.specs.Octal.{octal5}
use Rattle.pal8_places.specs.declared.faults.Code.{Code}
use Rattle.pal8_places.specs.declared.faults.Code.TheVariants.{IC, SY, NU, UA, DT, RD, IR, II, FD, PG, PF, DZ, PE, ZE, PageClash, ZeroClash, RL, PH, NE, NW}
use Rattle.std.specs.Borrow.{Bor}
use Rattle.source_places.specs.Places.{bytes_of}
use Rattle.source_places.specs.Showing.{character_text, place_text, marked_line}
use Rattle.source_places.specs.Spelling.{spelling}
use Rattle.pal8_tape.specs.declared.faults.Fault.{Fault}

-- the two letters of a fault
abbrev pub letters_of : Code → List ℕ
letters_of IC = codes "IC"
letters_of SY = codes "SY"
letters_of NU = codes "NU"
letters_of (UA name) = codes "UA"
letters_of (DT name) = codes "DT"
letters_of RD = codes "RD"
letters_of IR = codes "IR"
letters_of II = codes "II"
letters_of FD = codes "FD"
letters_of PG = codes "PG"
letters_of PF = codes "PF"
letters_of DZ = codes "DZ"
letters_of PE = codes "PE"
letters_of ZE = codes "ZE"
letters_of (PageClash cell) = codes "PE"
letters_of (ZeroClash cell) = codes "ZE"
letters_of RL = codes "RL"
letters_of PH = codes "PH"
letters_of NE = codes "NE"
letters_of NW = codes "NW"

-- the words of a fault
abbrev pub words_of : Code → List ℕ
words_of IC = codes "illegal character"
words_of SY = codes "bad statement"
words_of NU = codes "bad number"
words_of (UA name) = codes "undefined name"
words_of (DT name) = codes "duplicate tag"
words_of RD = codes "redefinition"
words_of IR = codes "illegal reference"
words_of II = codes "illegal indirect"
words_of FD = codes "bad field"
words_of PG = codes "page above 37"
words_of PF = codes "past 7777"
words_of DZ = codes "division by zero"
words_of PE = codes "page exceeded"
words_of ZE = codes "page zero exceeded"
words_of (PageClash cell) = codes "page exceeded"
words_of (ZeroClash cell) = codes "page zero exceeded"
words_of RL = codes "RELOC by no whole page"
words_of PH = codes "unmatched bracket"
words_of NE = codes "no $"
words_of NW = codes "no word"

-- what a fault is about: the character, the name that stands for nothing, or the cell that is a word's and a pool's
abbrev pub about : Code → ℕ → List ℕ
about IC byte = codes " " ++ character_text byte
about SY byte = []
about NU byte = []
about (UA name) byte = codes " " ++ spelling name
about (DT name) byte = []
about RD byte = []
about IR byte = []
about II byte = []
about FD byte = []
about PG byte = []
about PF byte = []
about DZ byte = []
about PE byte = []
about ZE byte = []
about (PageClash cell) byte = codes " at " ++ octal5 cell
about (ZeroClash cell) byte = codes " at " ++ octal5 cell
about RL byte = []
about PH byte = []
about NE byte = []
about NW byte = []

-- `CODE: WORDS`, and after it what the fault is about
abbrev pub fault_words : Code → ℕ → List ℕ
fault_words code byte = letters_of code ++ codes ": " ++ words_of code ++ about code byte ++ codes "\n"

-- `? 5 CODE LINE`, as it is reported to scripts
abbrev pub script_text : Fault → List ℕ
script_text fault = codes "? 5 " ++ letters_of fault.code ++ codes " " ++ decimal fault.line ++ codes "\n"

-- The text of a fault of sources with these names. It is the fault with the name of its source and its place there, its line with a caret
-- below its place, and the line that scripts get.
abbrev pub fault_text : List (Bor (List ℕ)) → List (Bor (List ℕ)) → Fault → List ℕ
fault_text sources names fault =
    place_text (bytes_of names fault.place.source) fault.place ++ fault_words fault.code fault.byte
    ++ marked_line (bytes_of sources fault.place.source) fault.place ++ script_text fault
