use Rattle.std.proofs.Common.{◌∙◌, ◌++◌, ◌∷◌, [], ap, append_assoc, codes}
use Rattle.std.specs.Prelude.{decimal}
use Rattle.change_commands.proofs.patches.put_no_block.Goals as goal

pub returns : goal.returns
returns c =
    c.in_ok-push.ensures.items ∙ ap (λ l. l ++ 10 ∷ []) (c.in_ok-put_number.ensures ∙ ap (λ l. l ++ decimal c.args.count) c.in_ok-extend_from_slice.ensures.items)
    ∙ append_assoc (c.args.line.now.items ++ codes "? PATCH 1 ONLY ") (decimal c.args.count) (10 ∷ [])
    ∙ append_assoc c.args.line.now.items (codes "? PATCH 1 ONLY ") (decimal c.args.count ++ 10 ∷ [])
