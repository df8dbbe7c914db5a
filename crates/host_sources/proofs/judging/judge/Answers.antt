use Rattle.std.proofs.Common.{ap, ◌∙◌}
use Rattle.pal_lex.specs.Reading.{with_tokens}
use Rattle.pal_asm.specs.Places.{with_tags as tag_values}
use Rattle.host_sources.specs.Symbols.{with_tags, meaning_in}
use Rattle.host_sources.proofs.NameLemmas.{follows_on}
use Rattle.host_sources.proofs.FurtherLemmas.{judged_word}
use Rattle.host_sources.proofs.judging.judge.Goals as goal

pub returns-clause-follows : goal.returns-clause-follows
returns-clause-follows c = λ older tokens follows fine.
    follows_on (with_tokens tokens c.args.statement.now) older c.args.names.now.symbols c.set_tags.new.symbols c.take_body.new.symbols c.args.names.now.place c.in_ok-place.place follows fine
    (λ n. c.in_ok-set_tags.ensures.values n ∙ ap (λ t. tag_values t c.args.names.now.place (meaning_in c.args.names.now.symbols) n) c.names.ensures)
    (c.in_ok-set_tags.ensures.entries ∙ ap (λ t. with_tags c.args.names.now.symbols.entries t c.args.names.now.place) c.names.ensures) c.in_ok-place.ensures.values c.in_ok-place.ensures.entries c.in_ok-place.ensures.place

pub returns-clause-fault : goal.returns-clause-fault
returns-clause-fault c = λ older follows.
    c.fault_of_statement-fault.ensures
    ∙ judged_word c.args.statement.now.line c.args.statement.now.tags c.args.statement.now.body older c.args.names.now.symbols c.set_tags.new.symbols c.args.last.now c.args.names.now.place follows
    (λ n. c.in_ok-set_tags.ensures.values n ∙ ap (λ t. tag_values t c.args.names.now.place (meaning_in c.args.names.now.symbols) n) c.names.ensures)
