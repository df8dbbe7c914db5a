use Rattle.std.proofs.Common.{List}
use Rattle.bin_tape.specs.Items.{Item}
use Rattle.tape_source.specs.Looks.{Look}
use Rattle.tape_source.specs.Steps.{HoldsMap, HoldsFlags, tagged_below}
use Rattle.tape_source.proofs.tags.mark_all.Given as goal

abbrev pub invariant-loop-number : goal.invariant-loop-number
invariant-loop-number l = (look : Look) (items : List Item) → HoldsMap items l.words → HoldsFlags look.is_code l.code
    → HoldsFlags (tagged_below look items 0) l.fn.tags → HoldsFlags (tagged_below look items l.number) l.tags
