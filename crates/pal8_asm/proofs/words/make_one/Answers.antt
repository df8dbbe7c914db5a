use Rattle.std.proofs.Common.{◌≡◌, Err, None, subst}
use Rattle.pal8_grammar.specs.SourceNames.{own_value}
use Rattle.pal8_asm.specs.Kept.{entry_of}
use Rattle.pal8_asm.specs.Steps.{IsJudgedLate, late_of}
use Rattle.pal8_asm.specs.Tapes.{late_fault, late_value}
use Rattle.pal8_asm.proofs.MakingLemmas.{late_fails, late_judged, word_made}
use Rattle.pal8_asm.proofs.words.make_one.Goals as goal

pub returns-in_ok-put_entry-in-Some-clause-made : goal.returns-in_ok-put_entry-in-Some-clause-made
returns-in_ok-put_entry-in-Some-clause-made c = λ whole making.
    late_judged (own_value c.args.names.now.table) (late_of c.args.late.now) (entry_of c.args.source.head.now c.args.source.steps.now) c.in-Some.definition whole c.args.made.now.pools
    c.args.made.now.cells c.args.made.now.clash c.args.made.now.pairs.items c.in-Some.is
    (subst (λ d. late_fault (entry_of c.args.source.head.now c.args.source.steps.now) d (late_value (own_value c.args.names.now.table) (entry_of c.args.source.head.now c.args.source.steps.now) d) ≡ None)
    c.in-Some.definition-is (c.in-Ok.ensures {u = tt})) making

pub returns-in-Err-clause-made : goal.returns-in-Err-clause-made
returns-in-Err-clause-made c = λ whole making.
    late_fails (own_value c.args.names.now.table) (late_of c.args.late.now) (entry_of c.args.source.head.now c.args.source.steps.now) c.in-Some.definition whole c.args.made.now.pools c.args.made.now.pools
    c.args.made.now.cells c.args.made.now.cells c.args.made.now.clash c.args.made.now.clash c.args.made.now.pairs.items c.args.made.now.pairs.items c.in-Err.fault c.in-Some.is
    (subst (λ d. IsJudgedLate (late_fault (entry_of c.args.source.head.now c.args.source.steps.now) d (late_value (own_value c.args.names.now.table) (entry_of c.args.source.head.now c.args.source.steps.now) d))
    (Err c.in-Err.fault)) c.in-Some.definition-is (c.in-Err.ensures {u = tt})) making

pub returns-in-None-clause-made : goal.returns-in-None-clause-made
returns-in-None-clause-made c = λ whole making.
    word_made (own_value c.args.names.now.table) (late_of c.args.late.now) (entry_of c.args.source.head.now c.args.source.steps.now) whole c.make_known.new.made.pools c.make_known.new.made.cells
    c.make_known.new.made.clash c.make_known.new.made.pairs.items c.make_known.result c.in-None.is (c.make_known.ensures whole making)
