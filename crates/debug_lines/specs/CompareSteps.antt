-- The step of reading one comparison more, for private clauses.
use Rattle.std.specs.Prelude.{◌≡◌, List, [], ◌∷◌, ◌++◌, Result, Ok, Err}
use Rattle.debug_lines.specs.declared.comparisons.Comparison.{Comparison}
use Rattle.debug_lines.specs.declared.faults.LineFault.{LineFault}
use Rattle.debug_lines.specs.declared.faults.LineFault.TheVariants.{Refused, Memory}
use Rattle.debug_lines.specs.declared.faults.Refusal.{Refusal}

-- a comparison that was read is put after others
abbrev pub and_read : List Comparison → Result Comparison Refusal → Result (List Comparison) Refusal
and_read before (Ok it) = Ok (before ++ it ∷ [])
and_read before (Err refusal) = Err refusal

-- it was put there, or it is refused, or memory is
abbrev pub PutsRead : Result Comparison Refusal → List Comparison → List Comparison → Result (Unit {0}) LineFault → Type 0
PutsRead read before after (Ok done) = and_read before read ≡ Ok after
PutsRead read before after (Err (Refused refusal)) = read ≡ Err refusal
PutsRead read before after (Err Memory) = Unit {0}
