use Rattle.host_sources.proofs.SymbolLemmas.{symbols_stand}
use Rattle.host_sources.proofs.laws.symbols_have_last_values.Goals as goal

pub returns : goal.returns
returns c = symbols_stand
