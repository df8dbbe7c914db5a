use Rattle.std.proofs.Common.{ℕ, List, subst, sym}
use Rattle.program_tasks.specs.declared.forms.TapeForm.{TapeForm}
use Rattle.tape_commands.specs.Rims.{GetsMember, ReadsNamed}
use Rattle.tape_commands.proofs.rims.named_frames.Goals as goal

pub returns-in-Member : goal.returns-in-Member
returns-in-Member g c =
    subst (λ (t : TapeForm). ReadsNamed t (g.H.Host.history c.args.host.now) c.member_frames.result (g.H.Host.history c.member_frames.new.host)) (sym c.in-Member.is)
    (subst (λ (n : List ℕ). GetsMember c.in-Member.image n (g.H.Host.history c.args.host.now) c.member_frames.result (g.H.Host.history c.member_frames.new.host)) c.as_str-in-Member.ensures.value c.member_frames.ensures)
