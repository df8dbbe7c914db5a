use Rattle.std.proofs.Common.{ℕ, ◌+◌, ◌≡◌, ◌<◌, length, None, suc, ap, ◌∙◌, sym, arith}
use Rattle.std.proofs.lemmas.List.{get_or_default}
use Rattle.bin_tape.specs.Items.{tape_map}
use Rattle.bin_tape.specs.Writing.{newest_cell}
use Rattle.tape_source.specs.Steps.{look_with}
use Rattle.tape_source.specs.Tags.{is_flagged}
use Rattle.tape_source.specs.Lines.{lines_of}
use Rattle.tape_source.specs.Sources.{words_below, with_word}
use Rattle.tape_source.proofs.TapeLemmas.{below_none, below_more}
use Rattle.tape_source.proofs.sources.lines_of.Goals as goal

next : (n : ℕ) → suc n ≡ n + 1
next n = omega arith

pub loop-number-init : goal.loop-number-init
loop-number-init c = λ items holds. (c.new-text.ensures.items ∙ sym (ap (lines_of (look_with c.args.tags.now.names.now c.args.notes.now (is_flagged c.args.code.now)) (is_flagged c.args.tags.now.flags.now)) (below_none items)), sym (ap newest_cell (below_none items)))

pub loop-number-preserved : goal.loop-number-preserved
loop-number-preserved c = λ items holds.
    let n = c.loop-number.number in
    let older = words_below items n in
    let before = c.loop-number.invariant items holds in
    let inside : n < length c.args.words.now = omega (arith, c.loop-number-test.true) in
    let word = c.index-words-number.is ∙ get_or_default c.args.words.now n _ None inside ∙ holds n c.loop-number-test.true in
    let words =
    ap (λ w. with_word w c.of.result older) word ∙ ap (λ cell. with_word (tape_map items n) cell older) c.of.ensures.number
    ∙ sym (below_more items n) ∙ ap (words_below items) (next n) in (
      c.in_ok-before.ensures.text older before.0 before.1 ∙ ap (lines_of (look_with c.args.tags.now.names.now c.args.notes.now (is_flagged c.args.code.now)) (is_flagged c.args.tags.now.flags.now)) words,
      c.in_ok-before.ensures.cell older before.1 ∙ ap newest_cell words,
    )
