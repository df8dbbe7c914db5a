use Rattle.get_commands.proofs.texts.show_wish.Goals as goal

pub returns-in-BadWord : goal.returns-in-BadWord
returns-in-BadWord g c = rw c.in-BadWord.is (rw c.in-BadWord.is at c.refuse_wish.ensures)

pub returns-in-NotFound : goal.returns-in-NotFound
returns-in-NotFound g c = rw c.in-NotFound.is (rw c.in-NotFound.is at c.refuse_wish-in-NotFound.ensures)

pub returns-in-Block : goal.returns-in-Block
returns-in-Block g c = rw c.in-Block.is (rw c.in-Block.is at c.refuse_wish-in-Block.ensures)
