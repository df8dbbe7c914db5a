use Rattle.archive_files.specs.Asking.{OfName}
use Rattle.archive_files.specs.Getting.{Gets}
use Rattle.keeper_laws.proofs.GotBackLemmas.{looks-first}
use Rattle.keeper_laws.proofs.ThenLemmas.{looks-and-prints, seen-after}
use Rattle.keeper_laws.proofs.laws.change_then_got.Goals as goal

pub returns : goal.returns
returns c form image path was saved old mid has name how bytes start again between result new printed seen stays alike strict believed shows =
    looks-and-prints (λ image. Gets image (OfName name) how) start form again path has.file bytes between result new
    (seen-after start form image path was saved old mid between has seen stays) believed
    (λ looked p. printed again looked new result alike p)
    (looks-first (λ image. Gets image (OfName name) how) again (λ begun ended answer. c.found_again.ensures.looks again begun ended answer strict) between new result shows)
