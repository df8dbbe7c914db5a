use Rattle.core_image.specs.declared.faults.CoreFault.TheVariants.{Memory}
use Rattle.block_scan.proofs.kinds.is_image_without_room.Goals as goal

pub returns-in-BadWord : goal.returns-in-BadWord
returns-in-BadWord c = λ words is. (
  λ t. absurd cc,
  λ some.
      let one = c.one_fault.ensures words c.args.fault Memory is some in
      let this = c.in-BadWord.is in
      absurd cc,
)

pub returns-in-TooShort : goal.returns-in-TooShort
returns-in-TooShort c = λ words is. (
  λ t. absurd cc,
  λ some.
      let one = c.one_fault.ensures words c.args.fault Memory is some in
      let this = c.in-TooShort.is in
      absurd cc,
)
