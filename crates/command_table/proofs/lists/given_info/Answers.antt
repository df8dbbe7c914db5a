use Rattle.command_table.proofs.Names.{◌∙◌, ap, sym, map, option_map, [], codes, Some, unwrap_or, raw_values-rows, found_of}
use Rattle.command_table.specs.Found.{first_not, word_of}
use Rattle.command_table.specs.declared.table.Form.TheVariants.{Octal}
use Rattle.command_table.proofs.lists.given_info.Goals as goal

pub words_in-requires : goal.words_in-requires
words_in-requires c =
    let some = ap (option_map (λ s. map (λ v. v.now) s.now)) (sym c.in-Some.is) ∙ (c.get_strs.ensures ∙ raw_values-rows (found_of c.args.found.now) (codes "info")) in
    ap (λ o. first_not Octal (unwrap_or o [])) some ∙ c.requires.well

pub returns-in_ok-words-in-Some : goal.returns-in_ok-words-in-Some
returns-in_ok-words-in-Some c =
    let some = ap (option_map (λ s. map (λ v. v.now) s.now)) (sym c.in-Some.is) ∙ (c.get_strs.ensures ∙ raw_values-rows (found_of c.args.found.now) (codes "info")) in
    ap (option_map (map word_of)) (sym some) ∙ ap Some c.in_ok-words-in-Some.ensures

pub returns-in-None : goal.returns-in-None
returns-in-None c =
    let none = ap (option_map (λ s. map (λ v. v.now) s.now)) (sym c.in-None.is) ∙ (c.get_strs.ensures ∙ raw_values-rows (found_of c.args.found.now) (codes "info")) in
    ap (option_map (map word_of)) (sym none)
