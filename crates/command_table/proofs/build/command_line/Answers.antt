use Rattle.command_table.specs.Tables.{IsDraft, app_of_table}
use Rattle.std.proofs.Common.{subst}
use Rattle.command_table.proofs.build.command_line.Goals as goal

pub returns : goal.returns
returns c = subst (λ entries. IsDraft c.with_leaves.result (app_of_table entries)) c.table.ensures c.with_leaves.ensures
