use Rattle.std.proofs.Common.{[], ◌∷◌, ◌∙◌, sym, append_assoc}
use Rattle.std.specs.Prelude.{codes}
use Rattle.script8.proofs.line_replies.put_why.Goals as goal

pub returns-in-Halt-clause-text : goal.returns-in-Halt-clause-text
returns-in-Halt-clause-text c = rw c.in-Halt.is (c.put.ensures.items ∙ sym (append_assoc _ (32 ∷ codes "HALT") (32 ∷ [])))

pub returns-in-Unassigned-clause-text : goal.returns-in-Unassigned-clause-text
returns-in-Unassigned-clause-text c = rw c.in-Unassigned.is (c.put-in-Unassigned.ensures.items ∙ sym (append_assoc _ (32 ∷ codes "UNASSIGNED") (32 ∷ [])))

pub returns-in-Break-clause-text : goal.returns-in-Break-clause-text
returns-in-Break-clause-text c = rw c.in-Break.is (c.put-in-Break.ensures.items ∙ sym (append_assoc _ (32 ∷ codes "BREAK") (32 ∷ [])))

pub returns-in-Limit-clause-text : goal.returns-in-Limit-clause-text
returns-in-Limit-clause-text c = rw c.in-Limit.is (c.put-in-Limit.ensures.items ∙ sym (append_assoc _ (32 ∷ codes "LIMIT") (32 ∷ [])))
