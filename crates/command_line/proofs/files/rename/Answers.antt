use Rattle.command_table.proofs.Names.{◌≡◌, codes, refl, subst, sym, true, Text}
use Rattle.command_refusals.specs.declared.reasons.What.TheVariants as what
use Rattle.command_table.specs.declared.table.Verb.TheVariants as verb
use Rattle.command_table.specs.Values.{Has, kind_at, has_text, values_in}
use Rattle.command_table.specs.Tables.{rows_for}
use Rattle.command_line.proofs.RefusalLemmas.{after_takes, moved_after, moved_named}
use Rattle.command_line.proofs.files.rename.Goals as goal

pub file_of-requires-clause-given : goal.file_of-requires-clause-given
file_of-requires-clause-given c = λ free. moved_named (codes "NEW") what.New what.NameAndNew (values_in c.args.found.now) c.requires.2

pub name_of-requires-clause-kind : goal.name_of-requires-clause-kind
name_of-requires-clause-kind c =
    subst (λ (id : Text). has_text (kind_at id (rows_for verb.Rename)) ≡ true) (sym c.after.ensures)
    (after_takes has_text verb.Rename (codes "NAME") (codes "NEW") (values_in c.args.found.now) refl refl)

pub name_of-requires-clause-given : goal.name_of-requires-clause-given
name_of-requires-clause-given c =
    let rows = values_in c.args.found.now in
    subst (λ (id : Text). Has id rows) (sym c.after.ensures) (moved_after (codes "NEW") what.New what.NameAndNew rows c.requires.2)
