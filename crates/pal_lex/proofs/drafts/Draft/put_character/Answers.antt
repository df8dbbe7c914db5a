use Rattle.std.proofs.Common.{◌≡◌, ℕ, ◌+◌, ◌/◌, min, List, ◌∙◌, ap, sym, arith}
use Rattle.std.proofs.lemmas.List.{with_items_is}
use Rattle.pal_lex.specs.Runs.{base}
use Rattle.pal_lex.specs.Text.{limit}
use Rattle.pal_lex.specs.declared.drafts.Tail.{Tail}
use Rattle.pal_lex.specs.declared.drafts.Tail.TheVariants.{Run}
use Rattle.pal_lex.specs.declared.pieces.Token.{Token}
use Rattle.pal_lex.proofs.DraftLemmas.{base_least, run_more}
use Rattle.pal_lex.proofs.drafts.Draft.put_character.Goals as goal

next_place : (end place at : ℕ) → end ≡ min (place + 1) 18446744073709551615 → place ≡ limit at → end ≡ limit (at + 1)
next_place end place at e p = omega arith

pub returns-in-Run-clause-put : goal.returns-in-Run-clause-put
returns-in-Run-clause-put c = λ before at place old.
    let v = c.deref_mut.ensures.value in
    ap (λ (l : List Token). record { illegal = c.self.inside.illegal; tail = Run (c.in-Run.weight / 64); tokens = l })
    (with_items_is c.self.inside.tokens c.lengthen.new.tokens (omega (arith, c.lengthen.auto.tokens, c.deref_mut.ensures.len)))
    ∙ run_more (base c.args.radix) before c.args.byte at c.in-Run.weight c.self.inside.illegal c.self.inside.tokens.items c.lengthen.new.tokens
    c.saturating_add-end.result (base_least c.args.radix)
    (ap (λ (t : Tail). record { illegal = c.self.inside.illegal; tail = t; tokens = c.self.inside.tokens.items }) (sym c.in-Run.is) ∙ c.self.view_is ∙ old)
    (next_place c.saturating_add-end.result c.args.place at c.saturating_add-end.ensures place)
    (λ prefix last e. c.lengthen.ensures prefix last (v ∙ e))
