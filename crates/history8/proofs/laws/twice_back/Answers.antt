use Rattle.std.proofs.Common.{ap}
use Rattle.std.proofs.lemmas.List.{drop-drop}
use Rattle.history8.proofs.laws.twice_back.Goals as goal

pub returns : goal.returns
returns c = λ a b h. ap (λ xs. record h { changes = xs }) (drop-drop b a h.changes)
