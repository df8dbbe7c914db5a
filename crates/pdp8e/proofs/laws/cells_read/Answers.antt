use Rattle.pdp8e.proofs.laws.cells_read.Goals as goal

pub returns-clause-words : goal.returns-clause-words
returns-clause-words c = λ m n k pack settled small ends is address cell count.
    c.transfer_in_step.ensures.read m.disk m.processor.base.core n k pack settled small ends is address cell count

pub returns-clause-others : goal.returns-clause-others
returns-clause-others c = λ m cell settled within out.
    c.transfer_in_step.ensures.others m.disk m.processor.base.core cell settled within out
