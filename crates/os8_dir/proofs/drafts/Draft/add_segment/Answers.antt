use Rattle.std.proofs.Common.{◌≡◌, ap, sym, ◌∙◌, arith}
use Rattle.std.proofs.lemmas.Grind.{get_or_default_zero}
use Rattle.os8_dir.specs.Entries.{minus, end_of}
use Rattle.os8_dir.specs.Reading.{word}
use Rattle.os8_dir.proofs.ReadingLemmas.{with_segment-count, with_segment-mixed, with_segment-wrong, with_segment-entries}
use Rattle.os8_dir.proofs.drafts.Draft.add_segment.Goals as goal

pub returns-then-info-gt10 : goal.returns-then-info-gt10
returns-then-info-gt10 c =
    let words = c.args.words.now in
    let info : c.minus-info.result ≡ minus (word words 4) = c.minus-info.ensures.value ∙ ap minus (get_or_default_zero words 4 c.index-words-4.result (omega arith)) in
    record { reading = with_segment-count _ _ _ words (omega (arith, info, c.if-info-gt10.true)) }

pub returns-then-info-self : goal.returns-then-info-self
returns-then-info-self c =
    let words = c.args.words.now in
    let info : c.minus-info.result ≡ minus (word words 4) = c.minus-info.ensures.value ∙ ap minus (get_or_default_zero words 4 c.index-words-4.result (omega arith)) in
    record { reading = rw (← c.self.view_is) (with_segment-mixed _ _ _ words (omega (arith, info, c.if-info-gt10.false)) (λ same. c.if-info-self.true (info ∙ same))) }

pub returns-then-from-self : goal.returns-then-from-self
returns-then-from-self c =
    let words = c.args.words.now in
    let info : c.minus-info.result ≡ minus (word words 4) = c.minus-info.ensures.value ∙ ap minus (get_or_default_zero words 4 c.index-words-4.result (omega arith)) in
    let from : c.from.result ≡ word words 1 = c.from.ensures ∙ c.get.ensures.value ∙ get_or_default_zero words 1 c.index-words-1.result (omega arith) in
    record { reading = rw (← c.self.view_is) (with_segment-wrong _ _ _ words (omega (arith, info, c.if-info-gt10.false)) (sym info ∙ c.if-info-self.false) (λ follows. c.if-from-self.true (from ∙ follows ∙ sym c.self.invariant.kept.ends))) }

pub returns : goal.returns
returns c =
    let words = c.args.words.now in
    let info : c.minus-info.result ≡ minus (word words 4) = c.minus-info.ensures.value ∙ ap minus (get_or_default_zero words 4 c.index-words-4.result (omega arith)) in
    let from : c.from.result ≡ word words 1 = c.from.ensures ∙ c.get.ensures.value ∙ get_or_default_zero words 1 c.index-words-1.result (omega arith) in
    let count : c.minus.result ≡ minus (word words 0) = c.minus.ensures.value ∙ ap minus (get_or_default_zero words 0 c.index-words-0.result (omega arith)) in
    let follows : word words 1 ≡ end_of c.args.self.now = rw (← c.self.view_is) (sym from ∙ c.if-from-self.false ∙ c.self.invariant.kept.ends) in
    let same : minus (word words 4) ≡ c.args.self.now.info = rw (← c.self.view_is) (sym info ∙ c.if-info-self.false) in
    record {
      reading = rw (with_segment-entries c.args.volume c.args.self.now c.args.number words (omega (arith, info, c.if-info-gt10.false)) same follows, ← count, ← c.split_at.ensures.back) c.add_entries.ensures.reading;
    }
