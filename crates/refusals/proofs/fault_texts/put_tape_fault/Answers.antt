use Rattle.std.proofs.Common.{[], ◌∷◌, ◌++◌, ◌∙◌, ap}
use Rattle.std.specs.Prelude.{codes}
use Rattle.word12.specs.Octal.{octal4}
use Rattle.refusals.proofs.LineTextLemmas.{two_pieces, three_pieces}
use Rattle.refusals.proofs.fault_texts.put_tape_fault.Goals as goal

pub returns-in-CheckSum-clause-text : goal.returns-in-CheckSum-clause-text
returns-in-CheckSum-clause-text c = rw c.in-CheckSum.is (two_pieces _ _ _ (codes "? 6.3 CHECK SUM ") (octal4 c.in-CheckSum.found ++ 32 ∷ octal4 c.in-CheckSum.computed) c.put-in-CheckSum.ensures.items
    (three_pieces _ _ _ _ (octal4 c.in-CheckSum.found) (32 ∷ []) (octal4 c.in-CheckSum.computed)
    (c.put-in-CheckSum-2.ensures.items ∙ ap (λ l. c.put-in-CheckSum.new.line.items ++ l) c.octal4.ensures.digits)
    c.put-in-CheckSum-3.ensures.items
    (c.put-in-CheckSum-4.ensures.items ∙ ap (λ l. c.put-in-CheckSum-3.new.line.items ++ l) c.octal4-in-CheckSum.ensures.digits)))
