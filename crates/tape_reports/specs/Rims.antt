-- What is written of the words of a RIM tape.
use Rattle.std.specs.Prelude.{ℕ, List}
use Rattle.rim_tape.specs.Converted.{IsBinOf}
use Rattle.program_tasks.specs.declared.tasks.RimForm.{RimForm}
use Rattle.program_tasks.specs.declared.tasks.RimForm.TheVariants.{Lines, Bin}
use Rattle.tape_reports.specs.Lists.{IsListed}

-- the text lists the words of a RIM tape, as it lists the BIN tape of the same words
pub record IsRimListed (frames text : List ℕ) : Type 0 where
  pub bin : List ℕ
  pub is_bin : IsBinOf frames bin
  pub is_listed : IsListed bin text

-- what is written of a RIM tape: the BIN tape of its words, or their lines
abbrev pub IsRimWritten : RimForm → List ℕ → List ℕ → Type 0
IsRimWritten Bin frames bytes = IsBinOf frames bytes
IsRimWritten Lines frames bytes = IsRimListed frames bytes
