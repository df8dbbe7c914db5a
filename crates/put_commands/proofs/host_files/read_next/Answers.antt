use Rattle.std.proofs.Common.{rules, inl, inr}
use Rattle.put_commands.specs.Putting.{TakesName, given_name}
use Rattle.image_files.proofs.WorkLemmas.{ends_with}
use Rattle.put_commands.proofs.host_files.read_next.Goals as goal

pub returns-in_err-name-clause-reads : goal.returns-in_err-name-clause-reads
returns-in_err-name-clause-reads g c = λ files knows. inl (ends_with (TakesName (given_name c.args.form.now) files c.args.path.now) _ _ _ _ (c.in_err-name.ensures.takes files knows) c.from_residual.ensures)

pub returns-in_err-bytes-clause-reads : goal.returns-in_err-bytes-clause-reads
returns-in_err-bytes-clause-reads g c = λ files knows. inr (record { given = c.in_ok-name.name; between = g.H.Host.history c.take_name.new.host; done = c.in_ok-name.ensures.takes files knows; after = inl (search rules) })

pub returns-in_err-day-clause-reads : goal.returns-in_err-day-clause-reads
returns-in_err-day-clause-reads g c = λ files knows. inr (record { given = c.in_ok-name.name; between = g.H.Host.history c.take_name.new.host; done = c.in_ok-name.ensures.takes files knows; after = inr (record { given = c.in_ok-bytes.bytes; between = g.H.Host.history c.read_whole.new.host; done = search rules; after = inl (search rules) }) })

pub returns-clause-reads : goal.returns-clause-reads
returns-clause-reads g c = λ files knows. inr (record { given = c.in_ok-name.name; between = g.H.Host.history c.take_name.new.host; done = c.in_ok-name.ensures.takes files knows; after = inr (record { given = c.in_ok-bytes.bytes; between = g.H.Host.history c.read_whole.new.host; done = search rules; after = inr (record { given = c.in_ok-day.day; between = g.H.Host.history c.date_next.new.host; done = search rules; after = c.new_file.ensures }) }) })
