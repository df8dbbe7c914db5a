use Rattle.std.proofs.Common.{[], ◌∷◌}
use Rattle.std.specs.Prelude.{codes}
use Rattle.script8.specs.Replies.{printed_text}
use Rattle.script8.proofs.ReplyLemmas.{more_err}
use Rattle.script8.proofs.LineTextLemmas.{two_pieces, last_piece, no_piece}
use Rattle.script8.proofs.reports.put_printed.Goals as goal

pub returns-clause-ok : goal.returns-clause-ok
returns-clause-ok c = last_piece _ _ _ _ _ (10 ∷ []) (two_pieces _ _ _ (codes "PRINTED") (printed_text c.args.characters.now) c.in_ok-extend_from_slice.ensures.items c.in_ok-put_characters.ensures.ok) c.extend_from_slice-2.ensures.items

pub returns-clause-err : goal.returns-clause-err
returns-clause-err c = more_err _ _ _ _ _ (no_piece _ _ _ (10 ∷ []) c.extend_from_slice-2.ensures.items) (two_pieces _ _ _ (codes "PRINTED") (printed_text c.args.characters.now) c.in_ok-extend_from_slice.ensures.items c.in_ok-put_characters.ensures.ok)
