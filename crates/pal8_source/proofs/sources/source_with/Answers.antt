use Rattle.std.proofs.Common.{◌&&◌, not, Bool, List, ◌∷◌, ◌++◌, ap, subst, sym, ◌∙◌}
use Rattle.source_notes.specs.Notes.{is_flagged}
use Rattle.tape_source.specs.Lines.{line_end}
use Rattle.tape_source.specs.Steps.{HoldsFlags}
use Rattle.pal8_source.specs.Steps.{sheet_of}
use Rattle.pal8_source.proofs.ShownLemmas.{shown_is}
use Rattle.pal8_source.proofs.sources.source_with.Goals as goal

pub returns : goal.returns
returns c =
    let words = c.args.words.now in
    let code = c.args.code.now in
    let exempt = c.deref.result.now in
    let pools = c.deref-6.result.now in
    let shown = c.deref-7.result.now in
    let flags = c.deref-8.result.now in
    let marked = c.in_ok-marked.marked.items in
    let notes = c.in_ok-notes.notes in
    let same_pools = c.deref-2.ensures.value ∙ sym c.deref-6.ensures.value in
    let again_pools = c.deref-5.ensures.value ∙ sym c.deref-6.ensures.value in
    let same_shown = c.deref-7.ensures.value ∙ sym c.deref-3.ensures.value in
    record {
      exempt = exempt;
      kept = λ cell small. ap (λ (l : List Bool). is_flagged l cell) c.deref.ensures.value ∙ c.in_ok-exempt.ensures.exempt cell small;
      sheet = sheet_of (record { words = words; pools = pools; code = shown; flags = flags; names = c.args.names.now; notes = notes; has_starts = c.args.has_starts });
      shown = λ items prefix held.
          shown_is words code exempt pools shown marked flags c.args.names.now notes c.args.has_starts
          (λ cell small. ap (λ (l : List Bool). is_flagged l cell) c.deref-6.ensures.value ∙ c.in_ok-pools.ensures.flags cell small)
          (λ cell small.
          ap (λ (l : List Bool). is_flagged l cell) c.deref-7.ensures.value ∙ c.in_ok-shown.ensures.flags cell small
          ∙ ap (λ (l : List Bool). is_flagged code cell && not (is_flagged l cell)) same_pools)
          (λ look other is_map is_code is_named. c.in_ok-marked.ensures.tags look other is_map (subst (HoldsFlags look.is_code) same_shown is_code) is_named)
          (λ cell small.
          ap (λ (l : List Bool). is_flagged l cell) c.deref-8.ensures.value ∙ c.in_ok-flags.ensures.flags cell small
          ∙ ap (λ (l : List Bool). is_flagged l cell && not (is_flagged c.deref-5.result.now cell)) c.deref-4.ensures.value
          ∙ ap (λ (l : List Bool). is_flagged marked cell && not (is_flagged l cell)) again_pools)
          c.in_ok-notes.ensures items held;
      text_is = c.in_ok-extend_from_slice.ensures.items ∙ ap (λ l. l ++ 0o44 ∷ line_end) c.in_ok-text.ensures;
    }
