use Rattle.core_image.specs.declared.faults.CoreFault.TheVariants.{Memory}
use Rattle.char_pack.specs.Packing.{words_of_bytes}
use Rattle.file_kind.proofs.judges.no_start.Goals as goal

pub returns-in-BadWord : goal.returns-in-BadWord
returns-in-BadWord c = λ frames is some.
    let one = c.one_fault.ensures (words_of_bytes frames) c.args.fault Memory is some in
    let this = c.in-BadWord.is in
    cc

pub returns-in-TooShort : goal.returns-in-TooShort
returns-in-TooShort c = λ frames is some.
    let one = c.one_fault.ensures (words_of_bytes frames) c.args.fault Memory is some in
    let this = c.in-TooShort.is in
    cc
