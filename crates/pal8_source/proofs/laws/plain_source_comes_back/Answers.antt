use Rattle.pal8_source.proofs.PlainLemmas.{plain_comes_back}
use Rattle.pal8_source.proofs.laws.plain_source_comes_back.Goals as goal

pub returns : goal.returns
returns c = plain_comes_back
