use Rattle.std.proofs.Common.{rules, refl}
use Rattle.script8.proofs.readings.read_all.Goals as goal

pub returns : goal.returns
returns g c =
    let name = c.read_whole.ensures.kept c.new.result refl in
    search (rules, c.read_whole.ensures.read)
