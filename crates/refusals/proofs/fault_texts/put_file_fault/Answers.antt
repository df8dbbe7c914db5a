use Rattle.refusals.proofs.LineTextLemmas.{two_pieces}
use Rattle.refusals.proofs.fault_texts.put_file_fault.Goals as goal

pub returns-in-NoRoom-clause-text : goal.returns-in-NoRoom-clause-text
returns-in-NoRoom-clause-text c = rw c.in-NoRoom.is (two_pieces _ _ _ _ _ c.put-in-NoRoom.ensures.items c.put_number.ensures.text)

pub returns-in-Busy-clause-text : goal.returns-in-Busy-clause-text
returns-in-Busy-clause-text c = rw c.in-Busy.is (two_pieces _ _ _ _ _ c.put-in-Busy.ensures.items c.put_name.ensures.text)
