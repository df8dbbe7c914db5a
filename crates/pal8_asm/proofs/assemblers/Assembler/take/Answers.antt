use Rattle.std.proofs.Common.{◌∙◌, Ok, Err, sym, subst}
use Rattle.pal8_asm.specs.Sources.{with_next}
use Rattle.pal8_asm.specs.Assembling.{Progress, Takes, remainder_of}
use Rattle.pal8_asm.specs.Walking.{remainder_after, statement_in}
use Rattle.pal8_asm.proofs.TakingLemmas.{take_fails}
use Rattle.pal8_asm.proofs.assemblers.Assembler.take.Goals as goal

pub returns-in-Err : goal.returns-in-Err
returns-in-Err c =
    let s = statement_in c.args.at c.args.statement in
    let walk = c.take_selected.new.walk in
    let new : Progress = record { names = walk.names; position = walk.position; entries = c.take_selected.new.entries; brackets = walk.brackets; end = c.self.inside.end } in
    subst (λ (a : Progress). Takes (with_next s (Ok (remainder_of a))) (Err c.in-Err.fault) new) c.self.view_is
    (take_fails s (remainder_after c.self.inside.walk c.self.inside.entries c.self.inside.end) walk c.take_selected.new.entries _ new c.in-Err.fault
    (sym c.is_some.ensures ∙ c.if-is_some.false) (sym c.is_selected.ensures ∙ c.if-not-is_selected.false) (c.in-Err.ensures {u = tt}).takes)
