use Rattle.std.proofs.Common.{◌++◌, ◌∙◌, sym, append-nil, refl}
use Rattle.std.proofs.lemmas.List.{at_drop_all}
use Rattle.program_reports.specs.LineEnds.{lines_from}
use Rattle.program_reports.proofs.LineEndLemmas.{lines_next}
use Rattle.program_reports.proofs.line_ends.with_line_feeds.Goals as goal

pub loop-byte-preserved : goal.loop-byte-preserved
loop-byte-preserved c =
    lines_next c.loop-byte.after_return _ c.loop-byte.text.items c.put_byte.new.text.items c.args.bytes.now _ c.loop-byte.byte-index
    c.loop-byte-test.true refl c.in_ok-put_byte.ensures c.loop-byte.invariant

pub returns : goal.returns
returns c =
    sym (append-nil c.loop-byte.text.items)
    ∙ sym (at_drop_all (λ bs. c.loop-byte.text.items ++ lines_from c.loop-byte.after_return bs) c.args.bytes.now c.loop-byte.byte-index c.loop-byte-test.false)
    ∙ c.loop-byte.invariant
