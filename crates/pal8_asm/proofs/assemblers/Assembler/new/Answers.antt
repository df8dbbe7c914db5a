use Rattle.std.proofs.Common.{◌∙◌, None, ap}
use Rattle.pal8_asm.specs.Walking.{remainder_after}
use Rattle.pal8_asm.proofs.assemblers.Assembler.new.Goals as goal

pub returns : goal.returns
returns c = ap (λ e. remainder_after c.new.result e None) c.new-2.ensures ∙ c.new.ensures
