use Rattle.command_table.proofs.Names.{map, subst, sym, err_from_is_err_and, app_of, subcommand_rows_of}
use Rattle.command_line.specs.Steps.{HasMet}
use Rattle.command_line.proofs.TaskLemmas.{asked_answer, asked_kind, fault_answer, is_pdp8, met_rows, no_fault, taken_fault, task_whole}
use Rattle.command_line.proofs.tasks.task.Goals as goal

pub task_of_matches-requires : goal.task_of_matches-requires
task_of_matches-requires c =
    let words = map (λ word. word.now) c.args.words.now in
    let none = no_fault (app_of c.in_ok-command.command) words (is_pdp8 c.in_ok-command.command c.in_ok-command.ensures) c.in_ok-matches.ensures.kinds in
    subst HasMet (sym (met_rows (app_of c.in_ok-command.command) words c.in_ok-matches.matches (is_pdp8 c.in_ok-command.command c.in_ok-command.ensures) c.in_ok-matches.ensures.matches))
    (task_whole words none)

pub returns-clause-answer : goal.returns-clause-answer
returns-clause-answer c =
    let words = map (λ word. word.now) c.args.words.now in
    let none = no_fault (app_of c.in_ok-command.command) words (is_pdp8 c.in_ok-command.command c.in_ok-command.ensures) c.in_ok-matches.ensures.kinds in
    let met = met_rows (app_of c.in_ok-command.command) words c.in_ok-matches.matches (is_pdp8 c.in_ok-command.command c.in_ok-command.ensures) c.in_ok-matches.ensures.matches in
    asked_answer words (subcommand_rows_of c.in_ok-matches.matches) c.task_of_matches.result (sym met) none c.task_of_matches.ensures

pub returns-clause-taken : goal.returns-clause-taken
returns-clause-taken c = λ takes. asked_kind (subcommand_rows_of c.in_ok-matches.matches) c.task_of_matches.result c.task_of_matches.ensures

pub returns-in_err-matches-clause-taken : goal.returns-in_err-matches-clause-taken
returns-in_err-matches-clause-taken c = λ taken.
    let p = err_from_is_err_and c.from_residual-in_err-matches.result c.from_residual-in_err-matches.ensures.1 in
    rw p.1 (taken_fault (app_of c.in_ok-command.command) (map (λ word. word.now) c.args.words.now) c.in_err-matches.field-0.0 p.0
    (is_pdp8 c.in_ok-command.command c.in_ok-command.ensures) c.in_err-matches.ensures.passes p.2 taken)

pub returns-in_err-matches-clause-answer : goal.returns-in_err-matches-clause-answer
returns-in_err-matches-clause-answer c =
    let p = err_from_is_err_and c.from_residual-in_err-matches.result c.from_residual-in_err-matches.ensures.1 in
    rw p.1 (fault_answer (app_of c.in_ok-command.command) (map (λ word. word.now) c.args.words.now) c.in_err-matches.field-0.0 p.0
    (is_pdp8 c.in_ok-command.command c.in_ok-command.ensures) c.in_err-matches.ensures.kinds p.2)
