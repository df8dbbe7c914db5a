use Rattle.std.proofs.Common.{ap, arith, Some}
use Rattle.std.proofs.lemmas.List.{length-drop}
use Rattle.char_pack.specs.Packing.{frames}
use Rattle.char_pack.specs.Reading.{frames_left}
use Rattle.char_pack.proofs.reading.FramesIterator.size_hint.Goals as goal

pub returns-clause-least : goal.returns-clause-least
unfolding frames_left
returns-clause-least c =
    let it = c.args.self.now in
    omega (arith, length-drop it.index (frames it.words.now), c.saturating_sub-left.ensures)

pub returns-clause-greatest : goal.returns-clause-greatest
returns-clause-greatest c = ap Some (returns-clause-least c)

pub returns-clause-lower : goal.returns-clause-lower
returns-clause-lower c = λ _. omega (arith, returns-clause-least c)

pub returns-clause-upper : goal.returns-clause-upper
returns-clause-upper c = (tt, omega (arith, returns-clause-least c))
