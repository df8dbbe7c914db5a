use Rattle.std.proofs.Common.{◌++◌, ◌∙◌, ap, sym, append-nil}
use Rattle.std.proofs.lemmas.List.{at_drop_all}
use Rattle.terminal8.specs.Keys.{keys_from}
use Rattle.terminal8.proofs.KeyLemmas.{keys_next}
use Rattle.terminal8.proofs.keyboards.keys_of.Goals as goal

pub loop-byte-init : goal.loop-byte-init
loop-byte-init c =
    ap (λ keys. keys ++ keys_from c.new-keyboard.result c.args.bytes.now) c.new-keys.ensures.items
    ∙ ap (λ k. keys_from k c.args.bytes.now) c.new-keyboard.ensures

pub loop-byte-preserved : goal.loop-byte-preserved
loop-byte-preserved c =
    keys_next c.loop-byte.keyboard c.strike.new.self c.loop-byte.keys.items c.put_key.new.keys.items c.args.bytes.now _ c.loop-byte.byte-index c.strike.result
    c.loop-byte-test.true c.strike.ensures.key c.strike.ensures.following c.in_ok-put_key.ensures c.loop-byte.invariant

pub returns : goal.returns
returns c =
    sym (append-nil c.loop-byte.keys.items)
    ∙ sym (at_drop_all (λ bs. c.loop-byte.keys.items ++ keys_from c.loop-byte.keyboard bs) c.args.bytes.now c.loop-byte.byte-index c.loop-byte-test.false)
    ∙ c.loop-byte.invariant
