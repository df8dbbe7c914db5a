use Rattle.std.proofs.Common.{inl}
use Rattle.pal8_source.proofs.ChoiceLemmas.{has_fault}
use Rattle.pal8_source.proofs.checking.comes_back.Goals as goal

pub returns-in-Err-At : goal.returns-in-Err-At
returns-in-Err-At c =
    inl (has_fault c.as_profile.result c.args.text.now c.in-Err-At.field-0 c.in-Err-At.field-0-0 c.in-Err-At.field-0-1 c.as_profile.ensures c.in-Err-At.field-0-is c.in-Err-At.ensures)
