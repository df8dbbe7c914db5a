use Rattle.std.proofs.lemmas.Result.{err_from_is_err_and}
use Rattle.std.proofs.Common.{Ok, subst}
use Rattle.os8_files.specs.Calls.{HasMoved, Squeezes}
use Rattle.archive_files.proofs.SqueezeLemmas.{moved-more, ready-more, free-more, above-more, turn-refused}
use Rattle.archive_files.proofs.squeezing.move_all.Goals as goal

pub returns-in_err-squeeze_turn : goal.returns-in_err-squeeze_turn
returns-in_err-squeeze_turn c =
    let p = err_from_is_err_and c.from_residual.result c.from_residual.ensures.1 in
    let so_far = c.loop-moved.invariant in
    rw (p.1, p.2) (turn-refused c.args.files.now c.loop-moved.files c.squeeze_turn.new.self c.loop-moved.moved _ so_far.ready so_far.moved c.in_err-squeeze_turn.ensures)

pub loop-moved-preserved : goal.loop-moved-preserved
loop-moved-preserved c =
    let so_far = c.loop-moved.invariant in
    let has : HasMoved c.loop-moved.files c.in-Moved.field-0 c.squeeze_turn.new.self = subst (λ r. Squeezes c.loop-moved.files (Ok r) c.squeeze_turn.new.self) c.in-Moved.is c.in_ok-squeeze_turn.ensures in
    record {
      ready = ready-more c.loop-moved.files c.squeeze_turn.new.self _ has;
      free = free-more c.loop-moved.files c.squeeze_turn.new.self _ has so_far.free;
      moved = moved-more c.loop-moved.moved c.args.files.now c.loop-moved.files c.squeeze_turn.new.self _ so_far.moved has;
      above = above-more c.loop-moved.moved _ c.loop-moved.files c.squeeze_turn.new.self _ has so_far.above;
    }
