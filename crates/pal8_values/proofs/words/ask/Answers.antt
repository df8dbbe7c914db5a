use Rattle.std.proofs.Common.{sym}
use Rattle.pal8_values.proofs.AskLemmas.{gets_cell, gets_none}
use Rattle.pal8_values.proofs.words.ask.Goals as goal

pub returns-in-Ok : goal.returns-in-Ok
returns-in-Ok c = λ asks punched holds.
    gets_cell c.args.spot c.args.pool c.args.value c.page_of-page.result c.stay_at-stay.result asks punched c.args.pools.now c.ask.new.self (sym c.if-is_torn.ensures) c.page_of-page.ensures.page c.stay_at-stay.ensures
    c.in-Ok.address c.address_at.result (c.in-Ok.ensures asks punched holds) c.address_at.ensures

pub returns-in-Err-Full : goal.returns-in-Err-Full
returns-in-Err-Full c = λ asks punched holds.
    gets_none c.args.spot c.args.pool c.args.value c.page_of-page.result c.stay_at-stay.result asks punched c.args.pools.now c.ask.new.self (sym c.if-is_torn.ensures) c.page_of-page.ensures.page c.stay_at-stay.ensures
    c.in-Err-Full.field-0 c.full.result c.in-Err-Full.field-0-is (c.in-Err-Full.ensures asks punched holds) c.full.ensures
