use Rattle.std.proofs.Common.{◌∙◌, ◌<◌, length, arith}
use Rattle.std.proofs.lemmas.Bool.{eqb-false}
use Rattle.os8_dir.proofs.NameLemmas.{packed_codes-some}
use Rattle.os8_dir.proofs.names.packed_within.Goals as goal

pub returns-clause-number : goal.returns-clause-number
returns-clause-number c =
    let some : 0 < length c.args.text.now = grind (arith, eqb-false) in
    c.number_of_codes.ensures.number ∙ packed_codes-some c.args.size c.args.text.now some
