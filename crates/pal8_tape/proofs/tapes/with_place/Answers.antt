use Rattle.std.proofs.Common.{◌≡◌, ℕ, Err, get_or, List, ap, subst, sym, ◌∙◌}
use Rattle.pal_lex.specs.Text.{text_of}
use Rattle.source_places.specs.Places.{place_in}
use Rattle.pal8_asm.specs.Assembled.{result_of_text}
use Rattle.pal8_asm.specs.Assembling.{Assembles}
use Rattle.pal8_asm.specs.declared.faults.AsmFault.{AsmFault}
use Rattle.pal8_tape.specs.Joins.{bytes_in, counts_of, joined_bytes}
use Rattle.pal8_tape.specs.Marks.{fault_mark}
use Rattle.pal8_tape.specs.Places.{place_by}
use Rattle.pal8_tape.specs.declared.faults.Fault.{Fault}
use Rattle.pal8_tape.proofs.tapes.with_place.Goals as goal

pub returns-in-Ok : goal.returns-in-Ok
returns-in-Ok c =
    let sources = c.args.sources.now in
    let code = c.in-At.code in
    let at = c.in-At.at in
    let marked : List ℕ → List ℕ → Fault =
    λ text counts. record {
      code = code;
      line = at.line;
      place = place_by sources (place_in counts (fault_mark c.args.options text code at.start));
      byte = get_or text (fault_mark c.args.options text code at.start) 0;
    } in (
      record { code = code; place = at },
      ap (λ t. result_of_text c.args.options (text_of t)) (sym c.requires.text)
          ∙ subst (λ (f : AsmFault). Assembles c.args.options (text_of c.args.join.now.text.items) (Err f)) c.in-At.is c.requires.fault,
      (c.in-Ok.ensures {u = tt}).fault ∙ ap (λ t. marked t c.args.join.now.counts.items) c.requires.text
          ∙ ap (λ l. marked (joined_bytes c.args.options (bytes_in sources)) l) c.requires.counts,
    )
