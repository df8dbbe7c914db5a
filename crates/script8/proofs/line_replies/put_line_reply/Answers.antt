use Rattle.std.proofs.Common.{◌++◌, ◌∷◌, [], ◌∙◌, ap, sym, append_assoc}
use Rattle.std.specs.Prelude.{codes, decimal}
use Rattle.word12.specs.Octal.{octal4, octal5}
use Rattle.refusals.specs.Shown.{name_text}
use Rattle.script8.specs.Replies.{why_text, setting_text}
use Rattle.script8.proofs.LineTextLemmas.{two_pieces, three_pieces, job_pieces, blank_pieces}
use Rattle.script8.proofs.line_replies.put_line_reply.Goals as goal

pub returns-in-Stored-clause-text : goal.returns-in-Stored-clause-text
returns-in-Stored-clause-text c = rw c.in-Stored.is (two_pieces _ _ _ _ _ c.put.ensures.items c.put_file.ensures.text)

pub returns-in-Deleted-clause-text : goal.returns-in-Deleted-clause-text
returns-in-Deleted-clause-text c = rw c.in-Deleted.is (two_pieces _ _ _ _ _ c.put-in-Deleted.ensures.items c.put_name.ensures.text)

pub returns-in-Job-clause-text : goal.returns-in-Job-clause-text
returns-in-Job-clause-text c = rw c.in-Job.is (c.put_job.ensures.text)

pub returns-in-Working-clause-text : goal.returns-in-Working-clause-text
returns-in-Working-clause-text c = rw c.in-Working.is (two_pieces _ _ _ _ _ c.put-in-Working.ensures.items (c.put_number.ensures.text ∙ ap (λ n. c.put-in-Working.new.line.items ++ decimal n) c.from.ensures))

pub returns-in-Assembled-clause-text : goal.returns-in-Assembled-clause-text
returns-in-Assembled-clause-text c = rw c.in-Assembled.is (c.put_assembled.ensures.text)

pub returns-in-Loaded-clause-text : goal.returns-in-Loaded-clause-text
returns-in-Loaded-clause-text c = rw c.in-Loaded.is (job_pieces _ _ _ (codes "JOB " ++ decimal c.in-Loaded.number) (codes " LOADED " ++ name_text c.in-Loaded.name) c.put_job-in-Loaded.ensures.text (two_pieces _ _ _ (codes " LOADED ") (name_text c.in-Loaded.name) c.put-in-Loaded.ensures.items c.put_name-in-Loaded.ensures.text))

pub returns-in-Squeezed-clause-text : goal.returns-in-Squeezed-clause-text
returns-in-Squeezed-clause-text c = rw c.in-Squeezed.is (job_pieces _ _ _ (codes "JOB " ++ decimal c.in-Squeezed.job) (codes " SQUEEZED") c.put_job-in-Squeezed.ensures.text c.put-in-Squeezed.ensures.items)

pub returns-in-Finished-clause-text : goal.returns-in-Finished-clause-text
returns-in-Finished-clause-text c = rw c.in-Finished.is (c.put-in-Finished.ensures.items)

pub returns-in-Started-clause-text : goal.returns-in-Started-clause-text
returns-in-Started-clause-text c = rw c.in-Started.is (two_pieces _ _ _ _ _ c.put-in-Started.ensures.items c.put_cell.ensures.text)

pub returns-in-Steps-clause-text : goal.returns-in-Steps-clause-text
returns-in-Steps-clause-text c = rw c.in-Steps.is (blank_pieces _ _ _ _ _ (codes "STEPS ") (decimal c.in-Steps.steps) (32 ∷ why_text c.in-Steps.why) (octal5 c.in-Steps.cell) c.put-in-Steps.ensures.items (c.put_number-in-Steps.ensures.text ∙ ap (λ n. c.put-in-Steps.new.line.items ++ decimal n) c.from-in-Steps.ensures) c.put_why.ensures.text c.put_cell-in-Steps.ensures.text ∙ ap (λ l. c.args.line.now.items ++ (codes "STEPS " ++ l)) (sym (append_assoc (decimal c.in-Steps.steps) (32 ∷ why_text c.in-Steps.why) (32 ∷ octal5 c.in-Steps.cell))))

pub returns-in-Key-clause-text : goal.returns-in-Key-clause-text
returns-in-Key-clause-text c = rw c.in-Key.is (two_pieces _ _ _ _ _ c.put-in-Key.ensures.items (c.put-in-Key-2.ensures.items ∙ ap (λ l. c.put-in-Key.new.line.items ++ l) c.octal3.ensures))

pub returns-in-Done-clause-text : goal.returns-in-Done-clause-text
returns-in-Done-clause-text c = rw c.in-Done.is (c.put-in-Done.ensures.items)

pub returns-in-Switches-clause-text : goal.returns-in-Switches-clause-text
returns-in-Switches-clause-text c = rw c.in-Switches.is (two_pieces _ _ _ _ _ c.put-in-Switches.ensures.items (c.put-in-Switches-2.ensures.items ∙ ap (λ l. c.put-in-Switches.new.line.items ++ l) c.octal4.ensures.digits))

pub returns-in-Core-clause-text : goal.returns-in-Core-clause-text
returns-in-Core-clause-text c = rw c.in-Core.is (three_pieces _ _ _ _ (octal5 c.in-Core.cell) (32 ∷ []) (octal4 c.in-Core.word) c.put_cell-in-Core.ensures.text c.put-in-Core.ensures.items (c.put-in-Core-2.ensures.items ∙ ap (λ l. c.put-in-Core.new.line.items ++ l) c.octal4-in-Core.ensures.digits))

pub returns-in-Break-clause-text : goal.returns-in-Break-clause-text
returns-in-Break-clause-text c = rw c.in-Break.is (three_pieces _ _ _ _ (codes "BREAK ") (octal5 c.in-Break.cell) (32 ∷ setting_text c.in-Break.is_on) c.put-in-Break.ensures.items c.put_cell-in-Break.ensures.text c.put_setting.ensures.text)
