use Rattle.std.proofs.Common.{sym, ◌∙◌, ap, ◌++◌, append-nil, Some, None}
use Rattle.std.proofs.lemmas.Slice.Eq.{strip_suffix_is}
use Rattle.std.proofs.lemmas.Bool.Decides.{Decides-eqb}
use Rattle.script8.proofs.CutLemmas.{is_ended, is_open, some_text}
use Rattle.script8.proofs.items.needs_end.Goals as goal

pub returns-in-Some : goal.returns-in-Some
returns-in-Some c =
    let parts = strip_suffix_is Decides-eqb _ _ (Some c.in-Some.field-0) (c.in-Some.ensures).cases ∙ ap (λ p. c.in-Some.field-0.now ++ p) c.as_slice.ensures in
    is_ended _ _ parts ∙ sym (append-nil _)

pub returns-in-None : goal.returns-in-None
returns-in-None c =
    is_open _ (some_text _ c.if-is_empty.ensures) (λ prefix is. strip_suffix_is Decides-eqb _ _ None (c.in-None.ensures).cases prefix (is ∙ ap (λ p. prefix ++ p) (sym c.as_slice.ensures)))
