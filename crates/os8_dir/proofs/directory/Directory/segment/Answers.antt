use Rattle.std.proofs.Common.{◌≡◌, refl, ◌∙◌, arith}
use Rattle.os8_dir.specs.Found.{per_segment}
use Rattle.os8_dir.proofs.SegmentLemmas.{segment-pieces}
use Rattle.os8_dir.proofs.directory.Directory.segment.Goals as goal

pub blocks_of-requires : goal.blocks_of-requires
blocks_of-requires c =
    let d = c.args.self.now in
    let size : c.per_segment-size.result ≡ per_segment d.info = c.per_segment-size.ensures.value ∙ rw c.information_words-info.ensures.value refl in
    let parts = segment-pieces d c.args.number c.per_segment-size.result c.split_at.result.0.now c.split_at.result.1.now c.split_at-2.result.0.now size (rw (← c.entries.ensures.list) c.split_at.ensures.front) (rw (← c.entries.ensures.list) c.split_at.ensures.back) (rw (← c.min.ensures) c.split_at-2.ensures.front) in
    omega (arith, parts.2, c.entries.ensures.blocks)

pub overflow_add-first_block : goal.overflow_add-first_block
overflow_add-first_block c =
    let d = c.args.self.now in
    let size : c.per_segment-size.result ≡ per_segment d.info = c.per_segment-size.ensures.value ∙ rw c.information_words-info.ensures.value refl in
    let parts = segment-pieces d c.args.number c.per_segment-size.result c.split_at.result.0.now c.split_at.result.1.now c.split_at-2.result.0.now size (rw (← c.entries.ensures.list) c.split_at.ensures.front) (rw (← c.entries.ensures.list) c.split_at.ensures.back) (rw (← c.min.ensures) c.split_at-2.ensures.front) in
    omega (arith, parts.2, c.entries.ensures.blocks)

pub put_segment-requires-clause-inside : goal.put_segment-requires-clause-inside
put_segment-requires-clause-inside c =
    let d = c.args.self.now in
    let size : c.per_segment-size.result ≡ per_segment d.info = c.per_segment-size.ensures.value ∙ rw c.information_words-info.ensures.value refl in
    let parts = segment-pieces d c.args.number c.per_segment-size.result c.split_at.result.0.now c.split_at.result.1.now c.split_at-2.result.0.now size (rw (← c.entries.ensures.list) c.split_at.ensures.front) (rw (← c.entries.ensures.list) c.split_at.ensures.back) (rw (← c.min.ensures) c.split_at-2.ensures.front) in
    omega (arith, parts.2, c.entries.ensures.blocks)

pub returns : goal.returns
returns c =
    let d = c.args.self.now in
    let size : c.per_segment-size.result ≡ per_segment d.info = c.per_segment-size.ensures.value ∙ rw c.information_words-info.ensures.value refl in
    let parts = segment-pieces d c.args.number c.per_segment-size.result c.split_at.result.0.now c.split_at.result.1.now c.split_at-2.result.0.now size (rw (← c.entries.ensures.list) c.split_at.ensures.front) (rw (← c.entries.ensures.list) c.split_at.ensures.back) (rw (← c.min.ensures) c.split_at-2.ensures.front) in
    record { words = c.put_segment.ensures ∙ rw (c.first_block.ensures.value, c.blocks_of.ensures, c.link_after-link.ensures.value, c.segment_count.ensures.value, c.information_words-info.ensures.value, parts.0, parts.1) refl }
