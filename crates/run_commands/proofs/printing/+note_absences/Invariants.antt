use Rattle.std.proofs.Common.{length}
use Rattle.run_commands.proofs.printing.+note_absences.Given as goal

abbrev pub decreases-note_absences : goal.decreases-note_absences
decreases-note_absences g l = length l.absences.now
