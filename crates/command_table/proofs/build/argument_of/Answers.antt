use Rattle.std.proofs.Common.{refl}
use Rattle.command_table.specs.Tables.{kind_rule, row_of}
use Rattle.command_table.proofs.CommandLemmas.{helped_too, hidden_as, required_as}
use Rattle.command_table.proofs.build.argument_of.Goals as goal

pub returns : goal.returns
returns c =
    let row = row_of c.args.row.now in
    let rule = kind_rule row.id row.kind in
    let helped = helped_too c.of_kind.result c.help.result rule _ c.help.ensures c.of_kind.ensures in
    let required = required_as c.help.result c.required.result rule row.is_required c.required.ensures helped in
    c.with_letter.ensures (record rule { required = row.is_required })
    (hidden_as c.required.result c.hide-argument.result (record rule { required = row.is_required }) row.is_hidden c.hide-argument.ensures required) refl
