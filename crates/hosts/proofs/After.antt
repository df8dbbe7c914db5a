-- A change after others that have left the path as it was.
use Rattle.std.proofs.Common.{ℕ, false, List, [], ◌∷◌, Result, Ok, Err, ◌∙◌}
use Rattle.hosts.specs.Place.{Place, Step, replay}
use Rattle.hosts.specs.Saving.{IsAsItWas, StaysAsItWas, IsNotedBefore, IsOver, IsUnwritten, IsWrittenOver, SavesFile}
use Rattle.hosts.specs.declared.faults.Durability.{Durability}
use Rattle.hosts.specs.declared.faults.Durability.TheVariants.{Certain, Unknown}
use Rattle.hosts.specs.declared.faults.SaveFault.{SaveFault}
use Rattle.hosts.specs.declared.faults.Unwritten.{Unwritten}
use Rattle.hosts.specs.declared.faults.Unwritten.TheVariants.{AsItWas, InPart}

as_it_was : (a b c : Place) → IsAsItWas a b → IsAsItWas b c → IsAsItWas a c
as_it_was a b c first then = record { seen = then.seen ∙ first.seen; on_disk = then.on_disk ∙ first.on_disk; earlier = then.earlier ∙ first.earlier }

pub over_after : (bytes : List ℕ) (a b c : List Step) → StaysAsItWas a b → IsWrittenOver bytes b c → IsWrittenOver bytes a c
over_after bytes a b c same over start was is =
    let o : IsOver bytes (replay start b) (replay start c) = over start was ((same start).seen ∙ is) in
    record { seen = o.seen; on_disk = o.on_disk; earlier = o.earlier ∙ (same start).earlier }

left_after : (left : Unwritten) (a b c : List Step) → IsUnwritten left false b c → IsUnwritten left false a c
left_after AsItWas a b c left = absurd left
left_after InPart a b c left = tt

pub file_after : (result : Result Durability SaveFault) (bytes : List ℕ) (a b c : List Step) → StaysAsItWas a b → SavesFile result false bytes b c → SavesFile result false bytes a c
file_after (Ok Certain) bytes a b c same saves = over_after bytes a b c same saves
file_after (Ok Unknown) bytes a b c same saves = saves
file_after (Err fault) bytes a b c same saves = left_after fault.state a b c saves

pub noted_after : (note : List ℕ) (a b c : List Step) → StaysAsItWas a b → IsNotedBefore false note b c → IsNotedBefore false note a c
noted_after [] a b c same noted = tt
noted_after (byte ∷ others) a b c same noted = λ start. as_it_was (replay start a) (replay start b) (replay start c) (same start) (noted start)
