use Rattle.std.proofs.Common.{◌∙◌, ◌≡◌, ℕ, List, length, ap, subst, drop, take, ◌+◌}
use Rattle.char_pack.specs.Packing.{frames}
use Rattle.archive_files.specs.Getting.{trailer}
use Rattle.archive_files.specs.Steps.{IsFirstTape}
use Rattle.archive_files.proofs.TapeLemmas.{first_tape}
use Rattle.archive_files.proofs.tapes.tape_of.Goals as goal

pub returns : goal.returns
returns c =
    let file = frames c.args.words.now in
    let count = c.in_ok-count.count in
    let more = c.trailer_length-more.result in
    let same : c.in_ok-frames.frames.items ≡ file = c.in_ok-frames.ensures in
    first_tape file _ count more
    (subst (λ (l : List ℕ). IsFirstTape l count) (c.deref.ensures.value ∙ same) c.in_ok-count.ensures)
    (c.trailer_length-more.ensures.count ∙ ap (λ (l : List ℕ). length (trailer l)) (c.split_at.ensures.back ∙ ap (λ (l : List ℕ). drop count l) (c.deref-2.ensures.value ∙ same)))
    (c.truncate.ensures.items ∙ ap (λ (l : List ℕ). take (count + more) l) same)
