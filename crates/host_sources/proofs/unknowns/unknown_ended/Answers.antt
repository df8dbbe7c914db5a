use Rattle.std.proofs.Common.{◌∷◌, get_or, refl, ap, sym, ◌∙◌}
use Rattle.pal_lex.specs.Text.{text_of}
use Rattle.pal_lex.specs.Statements.{statements}
use Rattle.pal_asm.specs.Faults.{first_order}
use Rattle.source_places.proofs.PlaceLemmas.{next_byte}
use Rattle.host_sources.specs.Unknowns.{unknown_ended}
use Rattle.host_sources.proofs.unknowns.unknown_ended.Goals as goal

pub returns-clause-name : goal.returns-clause-name
returns-clause-name c = λ standing stands.
    let text = c.args.text.now in
    let end = c.args.end in
    let prefix = c.first_bytes.result.now in
    let same = ap text_of c.first_bytes.ensures in
    let read = c.in_ok-reading.ensures in
    c.in_ok-name.ensures.name (text_of prefix) standing read.read read.setting
    (c.no_lexical_fault.ensures (statements (text_of prefix)) (ap (λ t. first_order (statements t)) same ∙ c.requires.fine)) read.names stands
    ∙ ap (λ t. unknown_ended standing (get_or text end 0 ∷ t)) same
    ∙ ap (unknown_ended standing) (sym (next_byte text end (get_or text end 0) c.requires.inside refl))
