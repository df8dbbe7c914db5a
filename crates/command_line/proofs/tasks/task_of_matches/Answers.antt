use Rattle.command_table.proofs.Names.{box_value, found_of, rows_of}
use Rattle.command_table.specs.Values.{values_in}
use Rattle.clap.specs.declared.parser.matches.ArgMatches.TheViews.{out-ArgMatches, out-SubCommand}
use Rattle.command_line.proofs.TaskLemmas.{met_whole}
use Rattle.command_line.proofs.tasks.task_of_matches.Goals as goal

pub task_of_name-requires : goal.task_of_name-requires
task_of_name-requires c =
    met_whole (out-ArgMatches c.args.matches.now).subcommand (λ b. (out-SubCommand (box_value b)).name.now)
    (λ b. rows_of (found_of (out-SubCommand (box_value b)).matches)) c.in-Some.name.now (values_in c.in-Some.found.now) c.in-Some.ensures.name
    c.in-Some.ensures.rows c.requires
