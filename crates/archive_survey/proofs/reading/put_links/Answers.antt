use Rattle.std.proofs.Common.{◌≡◌, ◌∙◌, ◌<◌, true, false, [], ◌∷◌, ◌++◌, List, refl, sym, ap, arith}
use Rattle.std.proofs.Math.ListN.{length-set}
use Rattle.os8_dir.specs.Reading.{is_unread}
use Rattle.archive_survey.specs.declared.parts.Part.{Part}
use Rattle.archive_survey.proofs.ReadingLemmas.{later_past, later_bad, later_more, later_done, unread_high, unread_seen, unread_new, seen_first, seen_more, on_ok, word_read}
use Rattle.archive_survey.proofs.reading.put_links.Goals as goal
use Rattle.archive_survey.proofs.reading.put_links.Goals.{then-link-ge-FIRST_FILE_BLOCK-via-then-link-ge-FIRST_FILE_BLOCK, then-link-ge-FIRST_FILE_BLOCK-via-else-link-ge-FIRST_FILE_BLOCK+then-seen-link, then-loop-left-test+else-link-gt0, else-loop-left-test}

pub loop-left-init : goal.loop-left-init
loop-left-init c = record {
  marks = refl;
  read = (1 ∷ [], (λ k low. seen_first k low), refl);
}

pub returns-then-link-ge-FIRST_FILE_BLOCK : goal.returns-then-link-ge-FIRST_FILE_BLOCK
returns-then-link-ge-FIRST_FILE_BLOCK c =
    let l = c.loop-left in
    let i = l.invariant.read in
    let bad : is_unread i.0 l.link ≡ false = elim c.then-link-ge-FIRST_FILE_BLOCK.branch [
      | then-link-ge-FIRST_FILE_BLOCK-via-then-link-ge-FIRST_FILE_BLOCK w ↦ unread_high i.0 l.link (omega (arith, w.if-link-ge-FIRST_FILE_BLOCK.true))
      | then-link-ge-FIRST_FILE_BLOCK-via-else-link-ge-FIRST_FILE_BLOCK+then-seen-link w ↦ unread_seen i.0 l.link (sym (i.1 l.link (omega (arith, w.if-link-ge-FIRST_FILE_BLOCK.false))) ∙ w.if-seen-link.true)
    ] in
    on_ok c.push_item.result _ _ c.push_item.ensures
    (λ put. put ∙ ap (λ (t : List Part). l.out.items ++ t) (sym (later_bad l.left c.args.info l.from l.end l.link c.args.volume.now.blocks i.0 c.if-link-gt0.true bad)) ∙ i.2)

pub loop-left-preserved : goal.loop-left-preserved
loop-left-preserved c =
    let l = c.loop-left in
    let i = l.invariant.read in
    let low : l.link < 7 = omega arith in
    let unread : is_unread i.0 l.link ≡ true = unread_new i.0 l.link low (sym (i.1 l.link low) ∙ c.if-seen-link.false) in
    let words = c.block-words.result.now in
    record {
      marks = length-set l.seen l.link true ∙ l.invariant.marks;
      read = (
        l.link ∷ i.0,
        (λ k small. seen_more l.seen i.0 l.link k (omega (arith, l.invariant.marks)) (i.1 k small)),
        later_more l.left c.args.info l.from l.end c.in_ok-end.end l.link c.from-link.result c.args.volume.now.blocks i.0 words l.out.items c.put_later.new.out.items _
            c.loop-left-test.true c.if-link-gt0.true unread c.block-words.ensures.words c.in_ok-end.ensures.segment c.in_ok-end.ensures.end
            (c.from-link.ensures ∙ c.get.ensures.value ∙ word_read words 2 _ (omega (arith, c.block-words.ensures.size)) c.index-words-2.is) i.2,
      );
    }

pub returns-then-link-gt0-2 : goal.returns-then-link-gt0-2
returns-then-link-gt0-2 c =
    let l = c.loop-left in
    let i = l.invariant.read in
    let none : l.left ≡ 0 = elim c.loop-left-test.branch [
      | then-loop-left-test+else-link-gt0 w ↦ absurd (omega (arith, w.if-link-gt0.false, c.if-link-gt0-2.true))
      | else-loop-left-test w ↦ omega (arith, w.loop-left-test.false)
    ] in
    on_ok c.push_item-then-link-gt0-2.result _ _ c.push_item-then-link-gt0-2.ensures
    (λ put. put ∙ ap (λ (t : List Part). l.out.items ++ t) (sym (rw none (later_past c.args.info l.from l.end l.link c.args.volume.now.blocks i.0 c.if-link-gt0-2.true))) ∙ i.2)

pub returns : goal.returns
returns c =
    let l = c.loop-left in
    let i = l.invariant.read in
    let none : l.link ≡ 0 = omega arith in
    later_done l.left c.args.info l.from l.end l.link c.args.volume.now.blocks i.0 l.out.items _ none i.2
