-- What steps of faults give. No contract of a public function cites this.
use Rattle.std.specs.Prelude.{◌≡◌, ℕ, Result, Ok, Err, List, map}
use Rattle.std.specs.Global.{Vec}
use Rattle.refusals.specs.declared.faults.SessionFault.TheVariants.{Memory}
use Rattle.outcome.specs.declared.endings.Ending.{Ending}
use Rattle.outcome.specs.declared.endings.Ending.TheVariants.{Fault}

-- texts, unless memory is wanted for them
abbrev pub AreFurther : List (List ℕ) → Result (Vec (Vec ℕ)) Ending → Type 0
AreFurther texts (Ok it) = map (λ text. text.items) it.items ≡ texts
AreFurther texts (Err ending) = ending ≡ Fault Memory
