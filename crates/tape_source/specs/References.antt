-- Words that are memory references at their place (Small Computer Handbook, PAL III Symbolic Assembler manual).
use Rattle.std.specs.Prelude.{ℕ, nat_eq, if◌then◌else◌, List, codes}
pub use Rattle.source_notes.specs.Referrers.{is_reference}

-- the name of a memory reference's operation
abbrev pub operation_name : ℕ → List ℕ
operation_name operation =
    if nat_eq operation 0 then codes "AND"
    else (if nat_eq operation 1 then codes "TAD"
    else (if nat_eq operation 2 then codes "ISZ"
    else (if nat_eq operation 3 then codes "DCA"
    else (if nat_eq operation 4 then codes "JMS"
    else codes "JMP"))))
