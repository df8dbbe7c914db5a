use Rattle.std.proofs.Common.{ap, length, refl}
use Rattle.std.proofs.lemmas.List.{drop_at}
use Rattle.history8.proofs.laws.changes_undone.Goals as goal

pub returns : goal.returns
returns c = λ more h. ap (λ xs. record h { changes = xs }) (drop_at more h.changes (length more) refl)
