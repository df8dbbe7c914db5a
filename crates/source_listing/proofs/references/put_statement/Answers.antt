use Rattle.std.proofs.Common.{◌++◌, ap, ◌∙◌}
use Rattle.source_listing.specs.References.{body_names, mentions_at}
use Rattle.source_listing.proofs.ReferenceLemmas.{puts_both}
use Rattle.source_listing.proofs.references.put_statement.Goals as goal

pub returns : goal.returns
returns c =
    puts_both c.args.spot c.args.statement.now.tags (body_names c.args.statement.now.body) c.args.found.now.items c.put_names.new.found.items c.put_body.new.found.items
    (c.in_ok-put_names.ensures ∙ ap (λ t. c.args.found.now.items ++ mentions_at c.args.spot t) c.names.ensures) c.in_ok-put_body.ensures
