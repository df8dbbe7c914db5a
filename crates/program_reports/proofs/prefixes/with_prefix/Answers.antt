use Rattle.std.proofs.Common.{◌++◌, ◌∙◌, sym, append-nil, refl}
use Rattle.std.proofs.lemmas.List.{at_drop_all}
use Rattle.program_reports.specs.Prefixes.{with_prefix_from}
use Rattle.program_reports.proofs.PrefixLemmas.{prefixed_next}
use Rattle.program_reports.proofs.prefixes.with_prefix.Goals as goal

pub loop-byte-preserved : goal.loop-byte-preserved
loop-byte-preserved c =
    prefixed_next c.args.prefix.now c.loop-byte.begins _ c.loop-byte.lines.items c.put_byte.new.lines.items c.args.text.now _ c.loop-byte.byte-index
    c.loop-byte-test.true refl c.in_ok-put_byte.ensures c.loop-byte.invariant

pub returns : goal.returns
returns c =
    sym (append-nil c.loop-byte.lines.items)
    ∙ sym (at_drop_all (λ bs. c.loop-byte.lines.items ++ with_prefix_from c.args.prefix.now c.loop-byte.begins bs) c.args.text.now c.loop-byte.byte-index c.loop-byte-test.false)
    ∙ c.loop-byte.invariant
