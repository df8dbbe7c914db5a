-- What reading a line answers.
use Rattle.std.specs.Prelude.{◌≡◌, ◌⊎◌, Result, Ok, Err}
use Rattle.debug_lines.specs.declared.faults.LineFault.{LineFault}
use Rattle.debug_lines.specs.declared.faults.LineFault.TheVariants.{Refused, Memory}
use Rattle.debug_lines.specs.declared.faults.Refusal.{Refusal}

abbrev pub answer : {A : Type 0} → Result A Refusal → Result A LineFault
answer (Ok it) = Ok it
answer (Err refusal) = Err (Refused refusal)

-- What a line says is answered, or memory was refused.
abbrev pub Reads : {A : Type 0} → Result A Refusal → Result A LineFault → Type 0
Reads meaning result = (result ≡ answer meaning) ⊎ (result ≡ Err Memory)
