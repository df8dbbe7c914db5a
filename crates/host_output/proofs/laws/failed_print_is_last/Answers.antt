use Rattle.host_output.proofs.PrintLemmas.{stops}
use Rattle.host_output.proofs.laws.failed_print_is_last.Goals as goal

pub returns : goal.returns
returns c = stops
