use Rattle.std.proofs.Common.{ℕ, List, subst, sym}
use Rattle.program_tasks.specs.declared.forms.TapeForm.{TapeForm}
use Rattle.tape_commands.specs.Programs.{ReadsMember, ReadsProgram}
use Rattle.tape_commands.proofs.programs.program_of.Goals as goal

pub returns-in-Member : goal.returns-in-Member
returns-in-Member g c =
    subst (λ (t : TapeForm). ReadsProgram t (g.H.Host.history c.args.host.now) c.member_program.result (g.H.Host.history c.member_program.new.host)) (sym c.in-Member.is)
    (subst (λ (n : List ℕ). ReadsMember c.in-Member.image n (g.H.Host.history c.args.host.now) c.member_program.result (g.H.Host.history c.member_program.new.host)) c.as_str-in-Member.ensures.value c.member_program.ensures)
