use Rattle.command_table.proofs.Names.{◌∙◌, ap, [], unwrap_or, raw_values-rows, found_of}
use Rattle.command_table.proofs.found.texts_in.Goals as goal

pub returns : goal.returns
returns c =
    c.texts_or_none.ensures ∙ ap (λ o. unwrap_or o []) (c.get_strs.ensures ∙ raw_values-rows (found_of c.args.found.now) c.args.id.now)
