use Rattle.std.proofs.Common.{◌≡◌, ◌≤◌, ap, ◌∙◌, inl, inr, arith}
use Rattle.std.proofs.lemmas.Grind.{get_or_default_zero}
use Rattle.os8_dir.specs.Entries.{minus}
use Rattle.os8_dir.specs.Reading.{word}
use Rattle.os8_dir.proofs.ReadingLemmas.{head_of-count, head_of-low, head_of-high, head_of-ok}
use Rattle.os8_dir.proofs.drafts.Draft.head.Goals as goal

pub returns-then-info-gt10 : goal.returns-then-info-gt10
returns-then-info-gt10 c =
    let words = c.args.words.now in
    let info : c.minus-info.result ≡ minus (word words 4) = c.minus-info.ensures.value ∙ ap minus (get_or_default_zero words 4 c.index-words-4.result (omega arith)) in
    record { reading = head_of-count c.args.volume words (omega (arith, info, c.if-info-gt10.true)) }

pub returns-then-first-lt-FIRST_FILE_BLOCK : goal.returns-then-first-lt-FIRST_FILE_BLOCK
returns-then-first-lt-FIRST_FILE_BLOCK c =
    let words = c.args.words.now in
    let info : c.minus-info.result ≡ minus (word words 4) = c.minus-info.ensures.value ∙ ap minus (get_or_default_zero words 4 c.index-words-4.result (omega arith)) in
    let first : c.from-first.result ≡ word words 1 = c.from-first.ensures ∙ c.get.ensures.value ∙ get_or_default_zero words 1 c.index-words-1.result (omega arith) in
    let few : minus (word words 4) ≤ 10 = omega (arith, info, c.if-info-gt10.false) in
    record {
      reading = elim c.then-first-lt-FIRST_FILE_BLOCK.either [
        | inl low ↦ head_of-low c.args.volume words few (omega (arith, first))
        | inr high ↦ head_of-high c.args.volume words few (omega (arith, first, high.0)) (omega (arith, first, high.1))
      ];
    }

pub returns : goal.returns
returns c =
    let words = c.args.words.now in
    let info : c.minus-info.result ≡ minus (word words 4) = c.minus-info.ensures.value ∙ ap minus (get_or_default_zero words 4 c.index-words-4.result (omega arith)) in
    let first : c.from-first.result ≡ word words 1 = c.from-first.ensures ∙ c.get.ensures.value ∙ get_or_default_zero words 1 c.index-words-1.result (omega arith) in
    record {
      reading = rw (c.new.ensures.items, info, first) (head_of-ok c.args.volume words (omega (arith, info, c.if-info-gt10.false)) (omega (arith, first, c.if-first-lt-FIRST_FILE_BLOCK.false)) (omega (arith, first, c.if-first-volume.false)));
    }
