use Rattle.command_table.proofs.Names.{◌≡◌, codes, refl, subst, sym, true, Text}
use Rattle.command_refusals.specs.declared.reasons.What.TheVariants as what
use Rattle.command_table.specs.declared.table.Verb.TheVariants as verb
use Rattle.command_table.specs.Values.{Has, has_text, kind_at, takes_text, values_in}
use Rattle.command_table.specs.Tables.{rows_for}
use Rattle.command_line.proofs.RefusalLemmas.{after_takes, copied_alone, moved_after, moved_named}
use Rattle.command_line.proofs.files.copy_one.Goals as goal

pub file_of-requires-clause-given : goal.file_of-requires-clause-given
file_of-requires-clause-given c = λ free. moved_named (codes "TO") what.To what.NameAndTo (values_in c.args.found.now) (copied_alone (values_in c.args.found.now) c.requires.needs.2 c.requires.one)

pub target_of-requires-clause-kind : goal.target_of-requires-clause-kind
target_of-requires-clause-kind c =
    subst (λ (id : Text). has_text (kind_at id (rows_for verb.Copy)) ≡ true) (sym c.after.ensures)
    (after_takes has_text verb.Copy (codes "NAME") (codes "TO") (values_in c.args.found.now) refl refl)

pub target_of-requires-clause-given : goal.target_of-requires-clause-given
target_of-requires-clause-given c =
    let rows = values_in c.args.found.now in
    subst (λ (id : Text). Has id rows) (sym c.after.ensures) (moved_after (codes "TO") what.To what.NameAndTo rows (copied_alone rows c.requires.needs.2 c.requires.one))

pub name_if_given-requires : goal.name_if_given-requires
name_if_given-requires c =
    subst (λ (id : Text). takes_text (kind_at id (rows_for verb.Copy)) ≡ true) (sym c.after-2.ensures)
    (after_takes takes_text verb.Copy (codes "TO") (codes "NEW") (values_in c.args.found.now) refl refl)
