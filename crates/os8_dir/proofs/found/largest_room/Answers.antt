use Rattle.std.proofs.Common.{◌≡◌, ◌∙◌, [], drop, sym}
use Rattle.std.proofs.Math.Nat.{max-zero}
use Rattle.std.proofs.lemmas.List.{drop_all}
use Rattle.os8_dir.proofs.FoundLemmas.{largest-rooms}
use Rattle.os8_dir.proofs.found.largest_room.Goals as goal

pub returns : goal.returns
returns c = λ place.
    let es = c.args.entries.now in
    let none : drop c.loop-entry.entry-index es ≡ [] = drop_all c.loop-entry.entry-index es c.loop-entry-test.false in
    sym (largest-rooms place es ∙ c.loop-entry.invariant ∙ rw none (max-zero c.loop-entry.most))
