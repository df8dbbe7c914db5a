use Rattle.std.proofs.Common.{◌∙◌, ◌%◌, ap, sym, arith, ◌++◌, ◌∷◌, []}
use Rattle.std.proofs.lemmas.List.{take_all, take_more_set, length-set}
use Rattle.char_pack.specs.Packing.{frames}
use Rattle.char_pack.specs.Texts.{characters, is_ended}
use Rattle.pal_blocks.proofs.BeginLemmas.{lt_true, lt_false}
use Rattle.pal_blocks.proofs.TextLemmas.{block_frames, ended_at, one_character, is_eq, not_eq}
use Rattle.pal_blocks.proofs.passing.lay_characters.Goals as goal

pub returns-then-character-eq-CONTROL_Z-clause-characters : goal.returns-then-character-eq-CONTROL_Z-clause-characters
returns-then-character-eq-CONTROL_Z-clause-characters c =
    c.loop-count.invariant.laid
    ∙ sym (ended_at c.joined_text.ensures.characters c.joined_text.ensures.ended (frames c.args.block.now) c.loop-count.count c.frame_at-character.result
    (omega (arith, c.loop-count-test.true, block_frames c.args.block.now c.requires.block)) c.frame_at-character.ensures (is_eq _ _ c.if-character-eq-CONTROL_Z.true) c.loop-count.invariant.not).0

pub returns-then-character-eq-CONTROL_Z-clause-ended : goal.returns-then-character-eq-CONTROL_Z-clause-ended
returns-then-character-eq-CONTROL_Z-clause-ended c =
    (ended_at c.joined_text.ensures.characters c.joined_text.ensures.ended (frames c.args.block.now) c.loop-count.count c.frame_at-character.result
    (omega (arith, c.loop-count-test.true, block_frames c.args.block.now c.requires.block)) c.frame_at-character.ensures (is_eq _ _ c.if-character-eq-CONTROL_Z.true) c.loop-count.invariant.not).1
    ∙ sym (lt_true c.loop-count.count 384 c.loop-count-test.true)

pub loop-count-preserved : goal.loop-count-preserved
loop-count-preserved c =
    let more = one_character c.joined_text.ensures.characters c.joined_text.ensures.ended (frames c.args.block.now) c.loop-count.count c.frame_at-character.result
    (omega (arith, c.loop-count-test.true, block_frames c.args.block.now c.requires.block)) c.frame_at-character.ensures (not_eq _ _ c.if-character-eq-CONTROL_Z.false) c.loop-count.invariant.not in
    record {
      range = omega (arith, c.loop-count-test.true);
      same = length-set c.loop-count.bytes c.loop-count.count (c.frame_at-character.result % 128) ∙ c.loop-count.invariant.same;
      laid = take_more_set c.loop-count.bytes c.loop-count.count (c.frame_at-character.result % 128) (omega (arith, c.loop-count-test.true, c.loop-count.invariant.same))
          ∙ ap (λ l. l ++ (c.frame_at-character.result % 128) ∷ []) c.loop-count.invariant.laid ∙ sym more.0;
      not = more.1;
    }

pub returns-clause-characters : goal.returns-clause-characters
returns-clause-characters c =
    c.loop-count.invariant.laid ∙ ap characters (take_all c.loop-count.count (frames c.args.block.now) (omega (arith, c.loop-count-test.false, block_frames c.args.block.now c.requires.block)))

pub returns-clause-ended : goal.returns-clause-ended
returns-clause-ended c =
    sym (ap is_ended (take_all c.loop-count.count (frames c.args.block.now) (omega (arith, c.loop-count-test.false, block_frames c.args.block.now c.requires.block))))
    ∙ c.loop-count.invariant.not ∙ sym (lt_false c.loop-count.count 384 (omega (arith, c.loop-count-test.false)))
