use Rattle.std.proofs.Common.{[], ◌∷◌}
use Rattle.std.specs.Prelude.{decimal}
use Rattle.refusals.specs.Shown.{name_text}
use Rattle.script8.proofs.LineTextLemmas.{three_pieces}
use Rattle.script8.proofs.line_replies.put_file.Goals as goal

pub returns-clause-text : goal.returns-clause-text
returns-clause-text c = three_pieces _ _ _ _ (name_text c.args.name) (32 ∷ []) (decimal c.args.blocks) c.put_name.ensures.text c.put.ensures.items c.put_number.ensures.text
