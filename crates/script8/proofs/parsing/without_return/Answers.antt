use Rattle.std.proofs.Common.{sym, ◌∙◌, ap, ◌++◌, Some, None}
use Rattle.std.proofs.lemmas.Slice.Eq.{strip_suffix_is}
use Rattle.std.proofs.lemmas.Bool.Decides.{Decides-eqb}
use Rattle.script8.proofs.LineLemmas.{without_return, no_return}
use Rattle.script8.proofs.parsing.without_return.Goals as goal

pub returns-in-Some : goal.returns-in-Some
returns-in-Some c =
    without_return _ _ (strip_suffix_is Decides-eqb _ _ (Some c.in-Some.prefix) (c.in-Some.ensures).cases ∙ ap (λ p. c.in-Some.prefix.now ++ p) c.as_slice.ensures)

pub returns-in-None : goal.returns-in-None
returns-in-None c =
    no_return _ (λ prefix is. strip_suffix_is Decides-eqb _ _ None (c.in-None.ensures).cases prefix (is ∙ ap (λ p. prefix ++ p) (sym c.as_slice.ensures)))
