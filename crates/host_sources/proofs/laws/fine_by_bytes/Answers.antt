use Rattle.std.proofs.Common.{get_or, refl, ap, ◌∙◌}
use Rattle.pal_lex.specs.Statements.{statements}
use Rattle.pal_asm.specs.Faults.{first_order}
use Rattle.source_places.proofs.PlaceLemmas.{next_byte}
use Rattle.host_sources.proofs.ReadingLemmas.{fine_order}
use Rattle.host_sources.proofs.laws.fine_by_bytes.Goals as goal

pub returns : goal.returns
returns c = λ bytes n inside.
    let next = next_byte bytes n (get_or bytes n 0) inside refl in
    (next, λ none. ap (λ t. first_order (statements t)) next ∙ fine_order bytes n c.statements_stay.ensures c.no_fault_before.ensures inside none)
