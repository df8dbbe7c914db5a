use Rattle.std.proofs.Common.{List, inr, subst, sym}
use Rattle.terminal8.specs.declared.absences.Absence.{Absence}
use Rattle.image_files.proofs.WorkLemmas.{first-and-others}
use Rattle.run_commands.specs.Printing.{NotesAbsences}
use Rattle.run_commands.proofs.printing.+note_absences.Goals as goal

pub returns-in_ok-tell_run-in-len1-up : goal.returns-in_ok-tell_run-in-len1-up
returns-in_ok-tell_run-in-len1-up g t c =
    subst (λ (l : List Absence). NotesAbsences l (g.H.Host.history c.args.host.now) c.note_absences.result (g.H.Host.history c.note_absences.new.host))
    (sym (first-and-others c.args.absences.now c.absence-item.result c.in-len1-up.len_at_least c.absence-item.is))
    (inr (record { given = tt; between = g.H.Host.history c.tell_run.new.host; done = c.in_ok-tell_run-in-len1-up.ensures; after = c.note_absences.ensures }))
