use Rattle.word12.specs.declared.sizes.TheConstants.{CORE}
use Rattle.trace8.proofs.SourceLemmas.{spelled}
use Rattle.trace8.proofs.laws.spelled_as_source.Goals as goal

pub returns : goal.returns
returns c = λ items cell word low given. spelled items CORE cell word low given
