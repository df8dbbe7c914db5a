use Rattle.source_names.proofs.GivenLemmas.{one_more}
use Rattle.source_names.proofs.names.give.Goals as goal

pub returns-clause-ok : goal.returns-clause-ok
returns-clause-ok c = λ entries holds same new.
    one_more c.args.table.now c.args.given.now c.room.new.self c.define_tag-defined.new.self entries c.index.result c.args.cell c.args.symbol
    c.args.name.now
    c.six_places.result c.define_tag-defined.result c.index.ensures.value c.index.ensures.range c.six_places.ensures c.in_ok-room.ensures
    c.define_tag-defined.ensures holds same new
