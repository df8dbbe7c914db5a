use Rattle.std.proofs.Common.{◌≡◌, ◌+◌, [], get_or, slice_set, refl, ap, sym, ◌∙◌}
use Rattle.std.proofs.lemmas.Bool.Decides.{Decides-eqb}
use Rattle.std.proofs.lemmas.Slice.Eq.{slice_eq-Decides}
use Rattle.std.proofs.lemmas.List.{set-get_or}
use Rattle.os8_files.proofs.segments.write_segment.Goals as goal

pub returns-then-eq-clause-ok : goal.returns-then-eq-clause-ok
returns-then-eq-clause-ok g c =
    let old = g.S.BlockStore.contents c.args.store.now in
    let same : get_or c.args.kept.now c.args.number [] ≡ c.args.words.now = (slice_eq-Decides Decides-eqb (get_or c.args.kept.now c.args.number []) c.args.words.now _ c.if-eq.ensures).0 refl in
    sym (ap (λ w. slice_set old (c.args.number + 1) w) (sym same ∙ c.requires.kept.words c.args.number c.requires.inside) ∙ set-get_or old (c.args.number + 1) [])
