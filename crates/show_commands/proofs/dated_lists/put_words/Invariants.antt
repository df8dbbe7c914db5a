use Rattle.std.proofs.Common.{◌≡◌, ◌++◌, length}
use Rattle.archive_files.specs.LongListing.{information_text}
use Rattle.show_commands.proofs.dated_lists.put_words.Given as goal

abbrev pub invariant-loop-rest : goal.invariant-loop-rest
invariant-loop-rest l = l.out.items ++ information_text l.rest ≡ l.fn.out.items ++ information_text l.fn.words

abbrev pub decreases-loop-rest : goal.decreases-loop-rest
decreases-loop-rest l = length l.rest
