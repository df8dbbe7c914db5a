use Rattle.std.proofs.Common.{arith}
use Rattle.history8.proofs.WatchLemmas.{go-step, go-steps, printed-few, printed-next}
use Rattle.history8.proofs.watches.run_to_break.Goals as goal

pub returns-then-gone-gt0-clause-steps : goal.returns-then-gone-gt0-clause-steps
returns-then-gone-gt0-clause-steps c =
    go-steps c.args.quick c.args.breaks.now c.args.machine.now c.run-gone.new.self c.args.most c.run-gone.result.steps c.run-gone.result.why c.run-gone.ensures.steps
    c.run-gone.ensures.state c.if-gone-gt0.true

pub push_character-requires : goal.push_character-requires
push_character-requires c =
    let few = printed-few c.args.quick c.args.machine.now c.run-gone.result.steps c.args.printed.now.items c.run-gone.new.printed.items c.run-gone.ensures.printed in
    omega (arith, few, c.requires.some, c.requires.room, c.if-gone-gt0.false, c.run-gone.ensures.capacity, c.run-gone.new.printed.ok.0, c.args.printed.now.ok.0)

pub returns-clause-steps : goal.returns-clause-steps
returns-clause-steps c =
    go-step c.args.quick c.args.breaks.now c.args.machine.now c.run-gone.new.self c.make_step-did.new.machine c.args.most c.run-gone.result.steps c.run-gone.ensures.state
    (omega (arith, c.if-gone-gt0.false)) c.make_step-did.ensures.state c.requires.some

pub returns-clause-printed : goal.returns-clause-printed
returns-clause-printed c =
    printed-next c.args.quick c.args.machine.now c.run-gone.new.self c.run-gone.result.steps 1 c.make_step-did.result c.args.printed.now.items c.run-gone.new.printed.items
    c.push_character.new.characters.items c.run-gone.ensures.printed c.run-gone.ensures.state c.make_step-did.ensures.answer c.push_character.ensures.items
    (omega (arith, c.if-gone-gt0.false))
