use Rattle.std.proofs.Common.{◌+◌, ◌-◌, ◌<◌, ◌≤◌, ap, arith, length, subst}
use Rattle.history8.specs.Checkpoints.{first_state}
use Rattle.history8.specs.EntrySteps.{MakesAgain}
use Rattle.history8.proofs.CheckpointLemmas.{are-at, some-of, viewed-place, within-at}
use Rattle.history8.proofs.HistoryLemmas.{remade, remade-few}
use Rattle.history8.proofs.histories.remake_machine.Goals as goal

pub overflow_sub-newest : goal.overflow_sub-newest
overflow_sub-newest c =
    let some = some-of c.args.entries.now (first_state c.args.checkpoints.now) c.args.checkpoints.now c.requires.checkpoints in
    omega (arith, some)

pub bounds-checkpoints-checkpoints : goal.bounds-checkpoints-checkpoints
bounds-checkpoints-checkpoints c =
    let some = some-of c.args.entries.now (first_state c.args.checkpoints.now) c.args.checkpoints.now c.requires.checkpoints in
    omega (arith, some)

pub make_again-replay-requires-clause-before : goal.make_again-replay-requires-clause-before
make_again-replay-requires-clause-before c =
    let cps = c.args.checkpoints.now in
    let some = some-of c.args.entries.now (first_state cps) cps c.requires.checkpoints in
    let below : length cps - 1 < length cps = omega (arith, some) in
    let view = ap (λ x. x.count) c.newest.view_is in
    omega (arith, within-at c.args.target cps (length cps - 1) c.index-checkpoints-checkpoints.result c.requires.within below c.index-checkpoints-checkpoints.is, view)

pub make_again-replay-requires-clause-place : goal.make_again-replay-requires-clause-place
make_again-replay-requires-clause-place c =
    let cps = c.args.checkpoints.now in
    let some = some-of c.args.entries.now (first_state cps) cps c.requires.checkpoints in
    let below : length cps - 1 < length cps = omega (arith, some) in
    viewed-place c.args.entries.now (first_state cps) _ c.index-checkpoints-checkpoints.result c.newest.view_is
    (are-at c.args.entries.now (first_state cps) cps (length cps - 1) c.index-checkpoints-checkpoints.result c.requires.checkpoints below c.index-checkpoints-checkpoints.is)

pub overflow_add-result : goal.overflow_add-result
overflow_add-result c =
    let cps = c.args.checkpoints.now in
    let newest = c.index-checkpoints-checkpoints.result in
    let some = some-of c.args.entries.now (first_state cps) cps c.requires.checkpoints in
    let below : length cps - 1 < length cps = omega (arith, some) in
    let count = ap (λ x. x.count) c.newest.view_is in
    let characters = ap (λ x. x.characters) c.newest.view_is in
    let few : newest.count + c.make_again-replay.result.characters ≤ c.args.target = omega (arith, count, c.make_again-replay.ensures.few) in
    let all = remade-few c.args.entries.now cps (length cps - 1) newest c.args.target c.make_again-replay.result.characters c.requires.checkpoints below
    c.index-checkpoints-checkpoints.is few in
    omega (arith, all, characters, c.ranges.target)

pub returns-clause-machine : goal.returns-clause-machine
returns-clause-machine c =
    let cps = c.args.checkpoints.now in
    let newest = c.index-checkpoints-checkpoints.result in
    let some = some-of c.args.entries.now (first_state cps) cps c.requires.checkpoints in
    let below : length cps - 1 < length cps = omega (arith, some) in
    let made = subst (λ x. MakesAgain c.args.entries.now x.count c.args.target c.restore.new.machine c.make_again-replay.new.machine c.make_again-replay.result.characters)
    c.newest.view_is c.make_again-replay.ensures.made in
    (remade c.args.entries.now cps (length cps - 1) newest c.args.target c.restore.new.machine c.make_again-replay.new.machine c.make_again-replay.result.characters
    c.requires.checkpoints below c.index-checkpoints-checkpoints.is c.restore.ensures made).left

pub returns-clause-characters : goal.returns-clause-characters
returns-clause-characters c =
    let cps = c.args.checkpoints.now in
    let newest = c.index-checkpoints-checkpoints.result in
    let some = some-of c.args.entries.now (first_state cps) cps c.requires.checkpoints in
    let below : length cps - 1 < length cps = omega (arith, some) in
    let made = subst (λ x. MakesAgain c.args.entries.now x.count c.args.target c.restore.new.machine c.make_again-replay.new.machine c.make_again-replay.result.characters)
    c.newest.view_is c.make_again-replay.ensures.made in
    let characters = ap (λ x. x.characters) c.newest.view_is in
    omega (
      arith,
      (remade c.args.entries.now cps (length cps - 1) newest c.args.target c.restore.new.machine c.make_again-replay.new.machine c.make_again-replay.result.characters
          c.requires.checkpoints below c.index-checkpoints-checkpoints.is c.restore.ensures made).printed,
      characters,
    )
