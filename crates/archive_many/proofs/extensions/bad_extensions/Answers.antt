use Rattle.archive_many.proofs.ExtensionLemmas.{first-bad, good-again}
use Rattle.archive_many.proofs.extensions.bad_extensions.Goals as goal

pub returns-then-not-is_list : goal.returns-then-not-is_list
returns-then-not-is_list c =
    first-bad (λ list. list.bytes.items) c.args.lists.now c.loop-place.place c.index-lists-place.result c.as_bytes.result.now c.is_list.result
    c.loop-place-test.true c.index-lists-place.is c.as_bytes.ensures.value c.is_list.ensures c.if-not-is_list.true c.loop-place.invariant

pub loop-place-preserved : goal.loop-place-preserved
loop-place-preserved c =
    good-again (λ list. list.bytes.items) c.args.lists.now c.loop-place.place c.index-lists-place.result c.as_bytes.result.now c.is_list.result
    c.loop-place-test.true c.index-lists-place.is c.as_bytes.ensures.value c.is_list.ensures c.if-not-is_list.false c.loop-place.invariant
