use Rattle.std.proofs.Common.{◌≡◌, Result, Ok, Err, [], ◌∷◌, length, refl, ◌∙◌, arith}
use Rattle.std.proofs.lemmas.Grind.{get_or_default_zero}
use Rattle.std.proofs.lemmas.Result.{err_from_is_err_and}
use Rattle.os8_dir.specs.declared.faults.DirFault.{DirFault}
use Rattle.os8_dir.specs.declared.faults.DirFault.TheVariants.{Device}
use Rattle.os8_dir.specs.Reading.{head_of, with_segment, block, word}
use Rattle.os8_dir.specs.Reads.{segments_to_fault}
use Rattle.os8_dir.proofs.ReadingLemmas.{meets-whole, meets-found, directory_of-head, directory_of-first, directory_of-links}
use Rattle.os8_dir.proofs.ReadsLemmas.{words_found, reads_last, reads_after, segments_some, segments_head, segments_first, segments_links}
use Rattle.os8_dir.proofs.LawLemmas.{IsDirectory-read}
use Rattle.os8_dir.proofs.directory.Directory.read.Goals as goal

pub returns-in_err-draft-clause-reading : goal.returns-in_err-draft-clause-reading
returns-in_err-draft-clause-reading g c =
    let blocks = g.S.BlockStore.contents c.args.store.now in
    let p = err_from_is_err_and c.from_residual-in_err-draft.result c.from_residual-in_err-draft.ensures.1 in
    rw (p.1, p.2) (meets-found c.in_err-draft.field-0.0 _ _ c.in_err-draft.ensures.reading (λ met. directory_of-head blocks c.in_err-draft.field-0.0 (rw (← c.blocks-volume.ensures.count, ← c.in_ok-read_block.ensures.ok) met)))

pub returns-in_err-add_segment-clause-reading : goal.returns-in_err-add_segment-clause-reading
returns-in_err-add_segment-clause-reading g c =
    let blocks = g.S.BlockStore.contents c.args.store.now in
    let p = err_from_is_err_and c.from_residual-in_err-add_segment.result c.from_residual-in_err-add_segment.ensures.1 in
    let begun : head_of (length blocks) (block blocks 1) ≡ Ok c.in_ok-draft.draft = rw (← c.blocks-volume.ensures.count, ← c.in_ok-read_block.ensures.ok) c.in_ok-draft.ensures.reading in
    rw (p.1, p.2) (meets-found c.in_err-add_segment.field-0.0 _ _ c.in_err-add_segment.ensures.reading (λ met. directory_of-first blocks c.in_ok-draft.draft c.in_err-add_segment.field-0.0 begun (rw (← c.blocks-volume.ensures.count, ← c.in_ok-read_block.ensures.ok) met)))

pub returns-in_err-add_links-clause-reading : goal.returns-in_err-add_links-clause-reading
returns-in_err-add_links-clause-reading g c =
    let blocks = g.S.BlockStore.contents c.args.store.now in
    let p = err_from_is_err_and c.from_residual-in_err-add_links.result c.from_residual-in_err-add_links.ensures.1 in
    let begun : head_of (length blocks) (block blocks 1) ≡ Ok c.in_ok-draft.draft = rw (← c.blocks-volume.ensures.count, ← c.in_ok-read_block.ensures.ok) c.in_ok-draft.ensures.reading in
    let added : with_segment (length blocks) c.in_ok-draft.draft 1 (block blocks 1) ≡ Ok c.add_segment.new.self = rw (← c.blocks-volume.ensures.count, ← c.in_ok-read_block.ensures.ok) c.in_ok-add_segment.ensures.reading in
    let link : c.from-link.result ≡ word (block blocks 1) 2 = rw (← c.in_ok-read_block.ensures.ok) (c.from-link.ensures ∙ c.get.ensures.value ∙ get_or_default_zero c.read_block.new.words 2 c.index-words-2.result (omega arith)) in
    rw (p.1, p.2) (meets-whole c.in_err-add_links.field-0.0 _ _ c.in_err-add_links.ensures.reading (λ met. directory_of-links blocks c.in_ok-draft.draft c.add_segment.new.self begun added ∙ rw (← link, ← c.in_ok-read_block.ensures.same) met))

pub returns-clause-reading : goal.returns-clause-reading
returns-clause-reading g c =
    let blocks = g.S.BlockStore.contents c.args.store.now in
    let begun : head_of (length blocks) (block blocks 1) ≡ Ok c.in_ok-draft.draft = rw (← c.blocks-volume.ensures.count, ← c.in_ok-read_block.ensures.ok) c.in_ok-draft.ensures.reading in
    let added : with_segment (length blocks) c.in_ok-draft.draft 1 (block blocks 1) ≡ Ok c.add_segment.new.self = rw (← c.blocks-volume.ensures.count, ← c.in_ok-read_block.ensures.ok) c.in_ok-add_segment.ensures.reading in
    let link : c.from-link.result ≡ word (block blocks 1) 2 = rw (← c.in_ok-read_block.ensures.ok) (c.from-link.ensures ∙ c.get.ensures.value ∙ get_or_default_zero c.read_block.new.words 2 c.index-words-2.result (omega arith)) in
    directory_of-links blocks c.in_ok-draft.draft c.add_segment.new.self begun added ∙ rw (← link, ← c.in_ok-read_block.ensures.same, c.finish.ensures) c.in_ok-add_links.ensures.reading

pub returns-clause-directory : goal.returns-clause-directory
returns-clause-directory g c = IsDirectory-read (g.S.BlockStore.contents c.args.store.now) c.finish.result (returns-clause-reading g c)

pub returns-in_err-read_block-clause-segments : goal.returns-in_err-read_block-clause-segments
returns-in_err-read_block-clause-segments g c =
    let blocks = g.S.BlockStore.contents c.args.store.now in
    let p = err_from_is_err_and c.from_residual.result c.from_residual.ensures.1 in
    rw (p.1, p.2, c.in_err-read_block.ensures.err) (reads_last _ 0 Device _ _ _ refl c.in_err-read_block.ensures.count (segments_some blocks) (λ words. absurd words))

pub returns-in_err-draft-clause-segments : goal.returns-in_err-draft-clause-segments
returns-in_err-draft-clause-segments g c =
    let blocks = g.S.BlockStore.contents c.args.store.now in
    let p = err_from_is_err_and c.from_residual-in_err-draft.result c.from_residual-in_err-draft.ensures.1 in
    rw (p.1, p.2) (reads_last _ 0 c.in_err-draft.field-0.0 _ _ _ refl c.in_ok-read_block.ensures.count (segments_some blocks)
    (λ words. segments_head blocks c.in_err-draft.field-0.0 (rw (← c.blocks-volume.ensures.count, ← c.in_ok-read_block.ensures.ok) (words_found c.in_err-draft.field-0.0 _ words c.in_err-draft.ensures.reading))))

pub returns-in_err-add_segment-clause-segments : goal.returns-in_err-add_segment-clause-segments
returns-in_err-add_segment-clause-segments g c =
    let blocks = g.S.BlockStore.contents c.args.store.now in
    let p = err_from_is_err_and c.from_residual-in_err-add_segment.result c.from_residual-in_err-add_segment.ensures.1 in
    let begun : head_of (length blocks) (block blocks 1) ≡ Ok c.in_ok-draft.draft = rw (← c.blocks-volume.ensures.count, ← c.in_ok-read_block.ensures.ok) c.in_ok-draft.ensures.reading in
    rw (p.1, p.2) (reads_last _ 0 c.in_err-add_segment.field-0.0 _ _ _ refl c.in_ok-read_block.ensures.count (segments_some blocks)
    (λ words. segments_first blocks c.in_ok-draft.draft c.in_err-add_segment.field-0.0 begun
    (rw (← c.blocks-volume.ensures.count, ← c.in_ok-read_block.ensures.ok) (words_found c.in_err-add_segment.field-0.0 _ words c.in_err-add_segment.ensures.reading))))

pub returns-in_err-add_links-clause-segments : goal.returns-in_err-add_links-clause-segments
returns-in_err-add_links-clause-segments g c =
    let blocks = g.S.BlockStore.contents c.args.store.now in
    let p = err_from_is_err_and c.from_residual-in_err-add_links.result c.from_residual-in_err-add_links.ensures.1 in
    let begun : head_of (length blocks) (block blocks 1) ≡ Ok c.in_ok-draft.draft = rw (← c.blocks-volume.ensures.count, ← c.in_ok-read_block.ensures.ok) c.in_ok-draft.ensures.reading in
    let added : with_segment (length blocks) c.in_ok-draft.draft 1 (block blocks 1) ≡ Ok c.add_segment.new.self = rw (← c.blocks-volume.ensures.count, ← c.in_ok-read_block.ensures.ok) c.in_ok-add_segment.ensures.reading in
    let link : c.from-link.result ≡ word (block blocks 1) 2 = rw (← c.in_ok-read_block.ensures.ok) (c.from-link.ensures ∙ c.get.ensures.value ∙ get_or_default_zero c.read_block.new.words 2 c.index-words-2.result (omega arith)) in
    let refused : Result (Unit {0}) DirFault = Err c.in_err-add_links.field-0.0 in
    rw (p.1, p.2) (reads_after _ (segments_to_fault 5 c.add_segment.new.self blocks (1 ∷ []) (word (block blocks 1) 2)) refused _ _ _ _ c.in_ok-read_block.ensures.count (segments_links blocks c.in_ok-draft.draft c.add_segment.new.self begun added) (λ judged. judged)
    (rw (← link, ← c.in_ok-read_block.ensures.same) c.in_err-add_links.ensures.segments))

pub returns-clause-segments : goal.returns-clause-segments
returns-clause-segments g c =
    let blocks = g.S.BlockStore.contents c.args.store.now in
    let begun : head_of (length blocks) (block blocks 1) ≡ Ok c.in_ok-draft.draft = rw (← c.blocks-volume.ensures.count, ← c.in_ok-read_block.ensures.ok) c.in_ok-draft.ensures.reading in
    let added : with_segment (length blocks) c.in_ok-draft.draft 1 (block blocks 1) ≡ Ok c.add_segment.new.self = rw (← c.blocks-volume.ensures.count, ← c.in_ok-read_block.ensures.ok) c.in_ok-add_segment.ensures.reading in
    let link : c.from-link.result ≡ word (block blocks 1) 2 = rw (← c.in_ok-read_block.ensures.ok) (c.from-link.ensures ∙ c.get.ensures.value ∙ get_or_default_zero c.read_block.new.words 2 c.index-words-2.result (omega arith)) in
    let done : Result (Unit {0}) DirFault = Ok tt in
    reads_after _ (segments_to_fault 5 c.add_segment.new.self blocks (1 ∷ []) (word (block blocks 1) 2)) done _ _ _ _ c.in_ok-read_block.ensures.count (segments_links blocks c.in_ok-draft.draft c.add_segment.new.self begun added) (λ judged. tt)
    (rw (← link, ← c.in_ok-read_block.ensures.same) c.in_ok-add_links.ensures.segments)
