use Rattle.command_table.proofs.Names.{◌∙◌, List, ap, option_map, sym, find, bytes_eq}
use Rattle.command_table.specs.Tables.{Entry, entry_of}
use Rattle.command_table.specs.Values.{values_in}
use Rattle.command_line.proofs.RefusalLemmas.{entry_needs}
use Rattle.command_line.proofs.tasks.task_of_name.Goals as goal

pub task_of_verb-requires : goal.task_of_verb-requires
task_of_verb-requires c =
    let is = ap (λ (entries : List Entry). find (λ entry. bytes_eq c.args.name.now entry.word) entries) (sym c.table.ensures)
    ∙ (sym c.entry_of_name.ensures ∙ ap (option_map (λ entry. entry_of entry.now)) c.in-Some.is) in
    entry_needs c.args.name.now (values_in c.args.found.now) (entry_of c.in-Some.entry.now) is c.requires c.in_ok-judge_arguments-in-Some.ensures.passed
