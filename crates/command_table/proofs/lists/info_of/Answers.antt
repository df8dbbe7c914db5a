use Rattle.command_table.proofs.Names.{◌∙◌, ap, codes, map, option_map, Some, IfOk-weaker, first_of}
use Rattle.command_table.specs.Values.{values_in}
use Rattle.command_table.specs.Found.{given_info}
use Rattle.command_table.proofs.InfoLemmas.{info-dated, info-given}
use Rattle.command_table.proofs.lists.info_of.Goals as goal

pub returns-in_ok-push-in-Some : goal.returns-in_ok-push-in-Some
returns-in_ok-push-in-Some c =
    let rows = values_in c.args.found.now in
    info-dated (first_of (codes "date") rows) (given_info rows) c.in-Some.word c.push.new.self.items (c.date_of.ensures ∙ ap (option_map (λ word. Some word)) c.in-Some.is)
    (rw c.new-words.ensures.items at c.in_ok-push-in-Some.ensures.items)

pub returns-in-None : goal.returns-in-None
returns-in-None c =
    let rows = values_in c.args.found.now in
    IfOk-weaker c.given_info.result _ _
    (λ info same. info-given (first_of (codes "date") rows) (given_info rows) (option_map (map (λ word. Some word)) (option_map (λ words. words.items) info)) (c.date_of.ensures ∙ ap (option_map (λ word. Some word)) c.in-None.is) same)
    c.given_info.ensures
