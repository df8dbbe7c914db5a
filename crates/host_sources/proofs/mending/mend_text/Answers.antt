use Rattle.std.proofs.Common.{◌∷◌, get_or, is_some, sym, ap, ◌∙◌}
use Rattle.pal_lex.specs.Text.{text_of, stretch}
use Rattle.pal_lex.specs.Cutting.{pieces}
use Rattle.host_sources.specs.Runs.{first_run, sets_reading}
use Rattle.host_sources.specs.Mending as mending
use Rattle.host_sources.proofs.MendLemmas.{refused_short, made_harmless}
use Rattle.host_sources.proofs.mending.mend_text.Goals as goal

pub returns-in-Some-clause-mended : goal.returns-in-Some-clause-mended
returns-in-Some-clause-mended c =
    ap mending.turns (refused_short c.args.text.now c.args.end c.requires)
    ∙ ap (λ l. is_some (first_run sets_reading (pieces (stretch (text_of l))))) (sym c.first_bytes-before.ensures)
    ∙ ap is_some (sym c.in_ok-first_run.ensures ∙ c.in-Some.is)

pub returns-in_ok-next-in-None-clause-mended : goal.returns-in_ok-next-in-None-clause-mended
returns-in_ok-next-in-None-clause-mended c =
    let text = c.args.text.now in
    let end = c.args.end in
    let byte = get_or text end 0 in (
      ap mending.turns (refused_short text end c.requires)
          ∙ ap (λ l. is_some (first_run sets_reading (pieces (stretch (text_of l))))) (sym c.first_bytes-before.ensures)
          ∙ ap is_some (sym c.in_ok-first_run.ensures ∙ c.in-None.is),
      c.in_ok-next-in-None.ensures
          ∙ made_harmless text end c.in_ok-from-in-None.from c.requires
          (c.in_ok-from-in-None.ensures.place byte ∙ ap (λ l. mending.body_place (byte ∷ text_of l)) c.first_bytes-before.ensures),
    )
