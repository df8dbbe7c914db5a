use Rattle.std.proofs.Common.{rules, subst, inl, inr, refl, true, false, ◌≡◌}
use Rattle.archive_files.specs.Asking.{target_of}
use Rattle.image_files.specs.Reading.{LooksAt}
use Rattle.tape_commands.specs.Programs.{TakesIf, is_core_name}
use Rattle.image_files.proofs.WorkLemmas.{ends_with}
use Rattle.tape_commands.proofs.programs.member_program.Goals as goal

pub returns-in_err-bytes : goal.returns-in_err-bytes
returns-in_err-bytes g c = inr (record { given = c.in_ok-asked.asked; between = g.H.Host.history c.args.host.now; done = (c.in_ok-asked.ensures, refl); after = inl (ends_with (LooksAt c.args.image.now) (g.H.Host.history c.args.host.now) (g.H.Host.history c.look_at.new.host) _ c.in_err-bytes.field-0.0 c.in_err-bytes.ensures.looks c.from_residual-in_err-bytes.ensures) })

pub returns-then-is_core_name : goal.returns-then-is_core_name
returns-then-is_core_name g c =
    let is : true ≡ is_core_name c.args.name.now = search rules in
    inr (record {
      given = c.in_ok-asked.asked;
      between = g.H.Host.history c.args.host.now;
      done = (c.in_ok-asked.ensures, refl);
      after = inr (record {
        given = c.in_ok-bytes.bytes;
        between = g.H.Host.history c.look_at.new.host;
        done = c.in_ok-bytes.ensures.looks;
        after =
            subst (λ is. TakesIf is c.in_ok-bytes.bytes.items (target_of c.in_ok-asked.asked) (g.H.Host.history c.look_at.new.host) c.core_on.result (g.H.Host.history c.core_on.new.host)) is
            (rw c.deref.ensures.value at c.core_on.ensures);
      });
    })

pub returns : goal.returns
returns g c =
    let is : false ≡ is_core_name c.args.name.now = search rules in
    inr (record {
      given = c.in_ok-asked.asked;
      between = g.H.Host.history c.args.host.now;
      done = (c.in_ok-asked.ensures, refl);
      after = inr (record {
        given = c.in_ok-bytes.bytes;
        between = g.H.Host.history c.look_at.new.host;
        done = c.in_ok-bytes.ensures.looks;
        after =
            subst (λ is. TakesIf is c.in_ok-bytes.bytes.items (target_of c.in_ok-asked.asked) (g.H.Host.history c.look_at.new.host) c.tape_on.result (g.H.Host.history c.tape_on.new.host)) is
            (rw c.deref-2.ensures.value at c.tape_on.ensures);
      });
    })
