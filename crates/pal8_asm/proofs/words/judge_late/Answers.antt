use Rattle.pal8_grammar.specs.SourceNames.{own_value}
use Rattle.pal8_asm.specs.Kept.{entry_of}
use Rattle.pal8_asm.specs.Tapes.{late_value}
use Rattle.pal8_asm.proofs.MakingLemmas.{as_asked, asked_fault, value_fails}
use Rattle.pal8_asm.proofs.words.judge_late.Goals as goal

pub returns-in-Err : goal.returns-in-Err
returns-in-Err c =
    let value = late_value (own_value c.args.names.now.table) (entry_of c.args.head c.args.steps.now) c.args.late in
    value_fails (entry_of c.args.head c.args.steps.now) c.args.late value c.fault_at.result
    (c.fault_at.ensures (as_asked value) (asked_fault value c.in-Err.fault (c.in-Err.ensures {u = tt})))
