use Rattle.std.proofs.Common.{◌≡◌, Option, List, subst}
use Rattle.std.specs.Prelude.{IfOk}
use Rattle.pal_lex.specs.declared.phrases.Part.{Part}
use Rattle.pal_lex.proofs.GrammarLemmas.{terms_first}
use Rattle.pal_lex.proofs.expressions.terms.Goals as goal

pub returns-in_ok-push-in-Some : goal.returns-in_ok-push-in-Some
returns-in_ok-push-in-Some c =
    subst (λ (x : Option (List Part)). IfOk c.longer_expression.result (λ e. e ≡ x))
    (terms_first c.args.blanks c.args.tokens.now c.first-item.result c.in-Some.term c.new-parts.result.items c.push.new.self.items
    c.in-len1-up.len_at_least c.first-item.is c.in-Some.ensures c.new-parts.ensures.items c.in_ok-push-in-Some.ensures.ok)
    c.longer_expression.ensures
