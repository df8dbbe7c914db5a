use Rattle.std.proofs.Common.{◌≡◌}
use Rattle.image_kind.specs.Mending.{wide_words}
use Rattle.image_kind.proofs.mending.wide_words_in.Given as goal

-- those of the words so far are listed
abbrev pub invariant-loop-number : goal.invariant-loop-number
invariant-loop-number l = l.wide.items ≡ wide_words l.block l.bytes l.start l.number
