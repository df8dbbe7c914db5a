-- A source that is read, and for whose text memory is wanted.
use Rattle.std.proofs.Common.{ℕ, Option, Ok, Err, List, refl, inl, inr}
use Rattle.std.specs.Global.{Vec}
use Rattle.hosts.specs.Event.{Event}
use Rattle.refusals.specs.declared.faults.SessionFault.TheVariants.{Memory}
use Rattle.outcome.specs.declared.endings.Ending.TheVariants.{Fault}
use Rattle.assemble_commands.specs.Sources.{ReadsSource}

pub unkept : (volume : Option (List ℕ)) (name : List ℕ) (old : List Event) (text : Vec ℕ) (new : List Event) → ReadsSource volume name old (Ok text) new → ReadsSource volume name old (Err (Fault Memory)) new
unkept volume name old text new (inl ends) = absurd ends
unkept volume name old text new (inr it) = inr (record { given = it.given; between = it.between; done = it.done; after = (refl, it.after.1) })
