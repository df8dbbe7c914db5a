use Rattle.std.proofs.Common.{◌≡◌, ◌++◌, append_assoc, ap, subst, ◌∙◌}
use Rattle.std.specs.Prelude.{OnOk, codes}
use Rattle.pointer_notes.specs.Notes.{datum_remark, shown_cell}
use Rattle.pointer_notes.specs.Steps.{view_in}
use Rattle.pointer_notes.proofs.remarks.put_datum_remark.Goals as goal

pub returns-in_ok-extend_from_slice-in-Some : goal.returns-in_ok-extend_from_slice-in-Some
returns-in_ok-extend_from_slice-in-Some g c =
    let view = view_in c.args.views.now in
    let name = g.N.CellNaming.name c.args.names.now in
    let shown = shown_cell view name c.in-Some.first in
    subst (λ first. OnOk c.put_shown_cell.result (c.put_shown_cell.new.text.items ≡ c.args.text.now.items ++ datum_remark view name c.args.cell first))
    c.in-Some.ensures
    (subst (λ text. OnOk c.put_shown_cell.result (c.put_shown_cell.new.text.items ≡ text))
    (ap (λ text. text ++ shown) c.in_ok-extend_from_slice-in-Some.ensures.items ∙ append_assoc c.args.text.now.items (codes " ARGUMENT OF ") shown)
    c.put_shown_cell.ensures)
