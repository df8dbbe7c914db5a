use Rattle.std.proofs.Common.{◌<◌, ◌∙◌, length, ap, sym, arith}
use Rattle.std.proofs.lemmas.Bool.{eqb-false}
use Rattle.os8_dir.specs.Found.{room_of}
use Rattle.os8_dir.proofs.TidyLemmas.{last_room-at}
use Rattle.os8_dir.proofs.found.last_room.Goals as goal

pub returns : goal.returns
returns c =
    let some : 0 < length c.args.entries.now = grind (arith, eqb-false) in
    c.room.ensures ∙ ap room_of c.index-entries-entries.is ∙ sym (last_room-at c.args.entries.now c.index-entries-entries.result some)
