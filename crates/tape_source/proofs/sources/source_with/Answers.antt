use Rattle.std.proofs.Common.{◌++◌, ◌∷◌, ap, subst, ◌∙◌, sym}
use Rattle.tape_source.specs.Lines.{line_end}
use Rattle.tape_source.specs.Sources.{Says, words_of_tape}
use Rattle.tape_source.specs.Steps.{HoldsFlags, look_with, tagged_below}
use Rattle.tape_source.specs.Tags.{is_flagged}
use Rattle.tape_source.specs.Looks.{is_tagged}
use Rattle.tape_source.proofs.TapeLemmas.{below_pairs}
use Rattle.tape_source.proofs.ShownLemmas.{same_lines, source_says, gives_none, no_bytes, some_bytes}
use Rattle.tape_source.proofs.sources.source_with.Goals as goal

pub returns-then-is_empty-clause-fault : goal.returns-then-is_empty-clause-fault
returns-then-is_empty-clause-fault c = λ items prefix held.
    let look = look_with c.args.names.now c.args.notes.now (is_flagged c.args.code.now) in
    let none = no_bytes c.in_ok-text.text.items _ c.in_ok-text.text.ok.0 (sym c.is_empty.ensures ∙ c.if-is_empty.true) in
    gives_none look (is_flagged c.deref.result.now) items prefix (sym (c.in_ok-text.ensures items held) ∙ none)

pub returns-clause-source : goal.returns-clause-source
returns-clause-source c = λ other items prefix held same notes naming.
    let look = look_with c.args.names.now c.args.notes.now (is_flagged c.args.code.now) in
    let marked = c.in_ok-flags.ensures.tags other items held same.code same.named in
    let tagged = is_tagged other (words_of_tape items) in
    let lines_are =
    c.in_ok-text.ensures items held
    ∙ same_lines look other (is_flagged c.deref.result.now) tagged same (subst (HoldsFlags (tagged_below other items 32768)) (sym c.deref.ensures.value) marked)
    (words_of_tape items) (below_pairs items 32768 prefix) in
    let some = some_bytes c.in_ok-text.text.items _ c.in_ok-text.text.ok.0 (sym c.is_empty.ensures ∙ c.if-is_empty.false) in
    let lines = c.in_ok-extend_from_slice.ensures.items ∙ ap (λ l. l ++ 36 ∷ line_end) lines_are in
    let spelled = source_says other items notes naming prefix (λ e. some (lines_are ∙ e)) in
    (lines, subst (λ l. Says l items) (sym lines) spelled)
