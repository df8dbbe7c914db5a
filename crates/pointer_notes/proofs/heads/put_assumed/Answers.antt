use Rattle.std.proofs.Common.{◌≡◌, ◌++◌, sym, subst}
use Rattle.std.specs.Prelude.{OnOk, codes}
use Rattle.source_notes.specs.Notes.{note_lines}
use Rattle.pointer_notes.proofs.ListLemmas.{line_of}
use Rattle.pointer_notes.proofs.heads.put_assumed.Goals as goal

pub returns : goal.returns
returns c =
    subst (λ notes. OnOk c.put_list.result (c.put_list.new.text.items ≡ c.args.text.now.items ++ note_lines notes))
    (sym (line_of (codes " ASSUMED: STORES CHANGE NO POINTER AT") c.args.cells.now c.if-is_empty.ensures)) c.put_list.ensures
