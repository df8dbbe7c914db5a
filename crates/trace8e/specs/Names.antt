-- The names of the words that an 8/E does and an 8/I doesn't (PAL8, the assembler of OS/8).
use Rattle.std.specs.Prelude.{ℕ, Bool, nat_eq, if◌then◌else◌, List, [], ◌∷◌, codes}
use Rattle.tape_source.specs.Statements.{instruction}

-- the name of a word, if it is one of these
unfoldable pub own_name : ℕ → List ℕ
own_name word =
    if nat_eq word 0o6000 then codes "SKON"
    else if nat_eq word 0o6003 then codes "SRQ"
    else if nat_eq word 0o6004 then codes "GTF"
    else if nat_eq word 0o6005 then codes "RTF"
    else if nat_eq word 0o6006 then codes "SGT"
    else if nat_eq word 0o6007 then codes "CAF"
    else if nat_eq word 0o6010 then codes "RPE"
    else if nat_eq word 0o6016 then codes "RCC"
    else if nat_eq word 0o6020 then codes "PCE"
    else if nat_eq word 0o6030 then codes "KCF"
    else if nat_eq word 0o6035 then codes "KIE"
    else if nat_eq word 0o6040 then codes "TFL"
    else if nat_eq word 0o6045 then codes "TSK"
    else if nat_eq word 0o7002 then codes "BSW"
    else if nat_eq word 0o7421 then codes "MQL"
    else if nat_eq word 0o7501 then codes "MQA"
    else if nat_eq word 0o7521 then codes "SWP"
    else if nat_eq word 0o7701 then codes "ACL"
    else []

-- such a name, or else these pieces
abbrev pub name_or : List ℕ → List (List ℕ) → List (List ℕ)
name_or [] pieces = pieces
name_or (first ∷ others) pieces = (first ∷ others) ∷ []

-- an instruction by its name, or else as a source of the 8/I spells it where these cells are tagged
abbrev pub instruction_of_8e : (ℕ → Bool) → ℕ → ℕ → List (List ℕ)
instruction_of_8e tagged cell word = name_or (own_name word) (instruction tagged cell word)
