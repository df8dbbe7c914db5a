use Rattle.std.proofs.Common.{rules, inl, inr, option_map}
use Rattle.tape_commands.specs.Sources.{GivesSource, starts_or}
use Rattle.image_files.proofs.WorkLemmas.{ends_with}
use Rattle.tape_commands.proofs.sources.write_source.Goals as goal

pub returns-in_err-program : goal.returns-in_err-program
returns-in_err-program g c = inr (record { given = c.in_ok-names.names; between = g.H.Host.history c.given_names.new.host; done = c.in_ok-names.ensures; after = inl (search rules) })

pub returns-in_err-text : goal.returns-in_err-text
returns-in_err-text g c = inr (record {
  given = c.in_ok-names.names;
  between = g.H.Host.history c.given_names.new.host;
  done = c.in_ok-names.ensures;
  after = inr (record {
    given = c.in_ok-program.program;
    between = g.H.Host.history c.given_program.new.host;
    done = c.in_ok-program.ensures;
    after = inl (ends_with
        (GivesSource c.args.form.now.is_pal8 c.in_ok-program.program.frames.items (starts_or c.args.form.now.starts.items c.in_ok-program.program.start) (option_map (λ names. names.items) c.in_ok-names.names)) _ _ _ _
        c.in_err-text.ensures c.from_residual-in_err-text.ensures);
  });
})

pub returns : goal.returns
returns g c = inr (record { given = c.in_ok-names.names; between = g.H.Host.history c.given_names.new.host; done = c.in_ok-names.ensures; after = inr (record { given = c.in_ok-program.program; between = g.H.Host.history c.given_program.new.host; done = c.in_ok-program.ensures; after = inr (record { given = c.in_ok-text.text; between = g.H.Host.history c.program_source.new.host; done = search rules; after = rw c.deref.ensures.value at c.print.ensures }) }) })
