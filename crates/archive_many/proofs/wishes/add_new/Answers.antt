use Rattle.archive_many.proofs.WishLemmas.{knows-bad, knows-block, knows-none}
use Rattle.archive_many.proofs.wishes.add_new.Goals as goal

pub returns-in_ok-add-in-BadWord-clause-places : goal.returns-in_ok-add-in-BadWord-clause-places
returns-in_ok-add-in-BadWord-clause-places c = λ knows. rw c.in_ok-add-in-BadWord.ensures (knows-bad c.args.places.now c.args.wishes.now.items c.in-BadWord.place knows)

pub returns-in_ok-add-in-NotFound-clause-places : goal.returns-in_ok-add-in-NotFound-clause-places
returns-in_ok-add-in-NotFound-clause-places c = λ knows. rw c.in_ok-add-in-NotFound.ensures (knows-none c.args.places.now c.args.wishes.now.items c.in-NotFound.place knows)

pub returns-in_ok-add-in-Block-clause-places : goal.returns-in_ok-add-in-Block-clause-places
returns-in_ok-add-in-Block-clause-places c = λ knows. rw c.in_ok-add-in-Block.ensures (knows-block c.args.places.now c.args.wishes.now.items c.in-Block.block knows)
