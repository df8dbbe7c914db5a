use Rattle.cpu8.proofs.InterruptLemmas.{ion-not_at_once, ion-then}
use Rattle.cpu8.proofs.laws.ion_delay.Goals as goal

pub returns : goal.returns
returns c = record { not_at_once = ion-not_at_once; then_granted = ion-then }
