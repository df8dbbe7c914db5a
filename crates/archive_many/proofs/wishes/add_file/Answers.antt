use Rattle.archive_many.proofs.WishLemmas.{knows-file}
use Rattle.archive_many.proofs.wishes.add_file.Goals as goal

pub returns-in_ok-add-clause-places : goal.returns-in_ok-add-clause-places
returns-in_ok-add-clause-places c = λ knows. rw c.in_ok-add.ensures (knows-file c.args.places.now c.add_place.new.places c.args.wishes.now.items c.args.file c.in_ok-add_place.ensures.more knows)
