use Rattle.std.proofs.Common.{◌≡◌, ◌∙◌, arith, refl, subst}
use Rattle.history8.specs.EntrySteps.{MakesAgain}
use Rattle.history8.proofs.ReplayLemmas.{made-none, made-more}
use Rattle.history8.proofs.replays.make_again.Goals as goal

pub loop-replay-init : goal.loop-replay-init
loop-replay-init c = record {
  place = c.requires.place;
  made = made-none c.args.entries.now c.args.from.count c.args.machine.now;
  few = omega arith;
  within = c.requires.before;
  room = refl;
}

pub loop-replay-preserved : goal.loop-replay-preserved
loop-replay-preserved c =
    let i = c.loop-replay.invariant in
    let m = c.make_part-is_met in
    record {
      place = m.ensures.place;
      made = made-more c.args.entries.now c.args.from.count c.loop-replay.replay.place.count m.result.0.place.count c.args.machine.now c.loop-replay.machine m.new.machine
          c.loop-replay.replay.characters m.result.0.characters i.made m.ensures.made;
      few = omega (arith, i.few, m.ensures.few);
      within = m.ensures.within;
      room = m.ensures.room ∙ i.room;
    }

pub returns-clause-made : goal.returns-clause-made
returns-clause-made c =
    let i = c.loop-replay.invariant in
    let all : c.loop-replay.replay.place.count ≡ c.args.target = omega (arith, i.within, c.loop-replay-test.false) in
    subst (λ t. MakesAgain c.args.entries.now c.args.from.count t c.args.machine.now c.loop-replay.machine c.loop-replay.replay.characters) all i.made
