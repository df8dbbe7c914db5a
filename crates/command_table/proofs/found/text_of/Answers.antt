use Rattle.command_table.proofs.Names.{◌≡◌, ◌∙◌, option_map, sym, Option, None, Some, Bor, first_value-rows, Text, first_of, found_of}
use Rattle.command_table.specs.Values.{IsText, values_in}
use Rattle.command_table.proofs.found.text_of.Goals as goal

text_is : (text : Option (Bor Text)) (given : Option Text) → option_map (λ text. text.now) text ≡ given → IsText text given
text_is None given is = sym is
text_is (Some text) given is = sym is

pub returns-clause-value : goal.returns-clause-value
returns-clause-value c = c.get_str.ensures ∙ first_value-rows (found_of c.args.found.now) c.args.id.now

pub returns-clause-text : goal.returns-clause-text
returns-clause-text c =
    text_is c.get_str.result (first_of c.args.id.now (values_in c.args.found.now))
    (c.get_str.ensures ∙ first_value-rows (found_of c.args.found.now) c.args.id.now)
