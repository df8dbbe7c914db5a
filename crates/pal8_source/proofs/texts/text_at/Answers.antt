use Rattle.std.proofs.Common.{ℕ, Bool, IfOk, if◌then◌else◌, ap, subst, sym, ◌∙◌}
use Rattle.pal8_source.specs.Steps.{IsTextOf, sheet_of}
use Rattle.pal8_source.specs.Texts.{size_from}
use Rattle.pal8_source.proofs.texts.text_at.Goals as goal

pub returns-then-is_first : goal.returns-then-is_first
returns-then-is_first c =
    let s = sheet_of c.args.sheet.now in
    subst (λ (n : ℕ). IfOk c.text_from.result (IsTextOf s c.args.cell n))
    (sym (ap (λ (b : Bool). if b then size_from s c.args.cell else 0) (sym c.is_first.ensures ∙ c.if-is_first.true))) c.text_from.ensures

pub returns : goal.returns
returns c =
    let s = sheet_of c.args.sheet.now in
    ap (λ (b : Bool). if b then size_from s c.args.cell else 0) (sym c.is_first.ensures ∙ c.if-is_first.false)
