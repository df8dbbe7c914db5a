use Rattle.std.proofs.Common.{rules, subst, inl, true, ◌≡◌}
use Rattle.archive_files.specs.Asking.{target_of}
use Rattle.tape_commands.specs.Programs.{RefusesIf, has_no_tape}
use Rattle.tape_commands.proofs.programs.refuse_member.Goals as goal

pub returns-in-Ok : goal.returns-in-Ok
returns-in-Ok g c =
    let is : true ≡ has_no_tape c.args.fault = search rules in
    subst (λ is. RefusesIf is c.args.image.now (target_of c.args.asked.now) c.args.fault (g.H.Host.history c.args.host.now) c.refuse_tape.result (g.H.Host.history c.refuse_tape.new.host)) is
    (inl (c.in-Ok.frames, c.in-Ok.ensures.0, rw c.in-Ok.ensures.1 at (rw c.from.ensures at (rw c.deref.ensures.value at c.refuse_tape.ensures))))
