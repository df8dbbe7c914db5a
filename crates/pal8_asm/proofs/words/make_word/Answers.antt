use Rattle.std.proofs.Common.{◌∙◌, ◌/◌, Err, sym, ap, subst}
use Rattle.pal8_grammar.specs.SourceNames.{own_value}
use Rattle.pal8_pools.specs.Asks.{count}
use Rattle.pal8_pools.specs.Clashes.{with_word}
use Rattle.pal8_values.specs.Answering.{IsAsked}
use Rattle.pal8_values.specs.Words.{word_value}
use Rattle.pal8_asm.specs.Kept.{entry_of}
use Rattle.pal8_asm.specs.Making.{IsMaking}
use Rattle.pal8_asm.specs.Steps.{GivesAt}
use Rattle.pal8_asm.specs.Tapes.{spot_of, with_word_entry}
use Rattle.pal8_asm.proofs.MakingLemmas.{others_stay, word_fails, word_goes_on}
use Rattle.pal8_asm.proofs.words.make_word.Goals as goal

pub returns-in-Err : goal.returns-in-Err
returns-in-Err c = λ whole making.
    word_fails (own_value c.args.names.now.table) (entry_of c.args.source.head.now c.args.source.steps.now) c.args.source.steps.now whole c.args.made.now.pools c.word_at.new.pools c.args.made.now.cells c.args.made.now.cells
    c.args.made.now.clash c.args.made.now.clash c.args.made.now.pairs.items c.reserve.new.self.items c.in-Err.fault making (subst (λ s.
    GivesAt c.args.source.head.now.place (word_value (own_value c.args.names.now.table) s c.args.source.steps.now making.made.asks making.made.punched) (Err c.in-Err.fault)
    c.word_at.new.pools)
    (c.spot_of-spot.ensures.value c.args.source.steps.now) (c.in-Err.ensures {u = tt} making.made.asks making.made.punched making.holds))

pub returns : goal.returns
returns c = λ whole making.
    let asked = subst (λ s.
    IsAsked (word_value (own_value c.args.names.now.table) s c.args.source.steps.now making.made.asks making.made.punched) c.in-Ok.word c.word_at.new.pools)
    (c.spot_of-spot.ensures.value c.args.source.steps.now) (c.in-Ok.ensures {u = tt} making.made.asks making.made.punched making.holds) in
    subst (λ o.
    IsMaking (with_word_entry (own_value c.args.names.now.table) (entry_of c.args.source.head.now c.args.source.steps.now) c.args.source.steps.now whole) c.word_at.new.pools c.put-found.new.self o
    c.put_word.new.pairs.items)
    (sym c.first_clash-made.ensures)
    (word_goes_on (own_value c.args.names.now.table) (entry_of c.args.source.head.now c.args.source.steps.now) c.args.source.steps.now whole c.args.made.now.pools c.word_at.new.pools c.args.made.now.cells
    c.put-found.new.self c.args.made.now.clash c.args.made.now.pairs.items c.put_word.new.pairs.items c.in-Ok.word c.put-found.result making asked
    (c.put_word.ensures ∙ ap (with_word c.args.source.head.now.is_punched c.args.source.head.now.cell c.in-Ok.word) c.reserve.ensures.items)
    (c.put-found.ensures.marks making.made.words c.in-Ok.word making.marked)
    (λ none. c.put-found.ensures.clash making.made.words c.in-Ok.word making.made.asks asked.asks asked.punched making.marked asked.holds
    (others_stay c.words_ask_near.ensures (own_value c.args.names.now.table) (spot_of (entry_of c.args.source.head.now c.args.source.steps.now)) c.args.source.steps.now making.made.asks
    making.made.punched c.in-Ok.word c.word_at.new.pools asked)
    none
    (c.count-own.ensures making.made.asks making.made.punched making.holds
    ∙ ap (λ p. count making.made.asks c.spot_of-spot.result.field p) c.page_of.ensures.value
    ∙ ap (λ s. count making.made.asks s.field (s.location / 128)) (c.spot_of-spot.ensures.value c.args.source.steps.now))
    (c.count-zero.ensures making.made.asks making.made.punched making.holds
    ∙ ap (λ s. count making.made.asks s.field 0) (c.spot_of-spot.ensures.value c.args.source.steps.now))))
