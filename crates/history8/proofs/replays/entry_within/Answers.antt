use Rattle.history8.proofs.PlaceLemmas.{place-within}
use Rattle.history8.proofs.replays.entry_within.Goals as goal

pub returns : goal.returns
returns c = place-within c.args.entries.now c.args.place.count c.args.place.entry c.args.place.steps c.requires.place c.requires.before
