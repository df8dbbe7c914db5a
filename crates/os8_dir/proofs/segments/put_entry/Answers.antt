use Rattle.std.proofs.Common.{◌≡◌, ◌+◌, length, refl, ap, sym, ◌∙◌, arith}
use Rattle.os8_dir.specs.Segments.{words_of_entry}
use Rattle.os8_dir.specs.declared.entries.DirEntry.TheVariants.{File}
use Rattle.os8_dir.proofs.SegmentLemmas.{length-file, written-file}
use Rattle.os8_dir.proofs.segments.put_entry.Goals as goal

pub returns-in-File-clause-words : goal.returns-in-File-clause-words
returns-in-File-clause-words c = rw c.in-File.is (written-file _ _ _ _ _ c.in-File.kept c.args.at c.args.info c.in-File.name c.in-File.length _ c.words-words.ensures.words c.put_words.ensures c.split_at.ensures.front c.split_at.ensures.front_len c.put_words-in-File.ensures c.minus_word.ensures)

pub returns-in-File-clause-place : goal.returns-in-File-clause-place
returns-in-File-clause-place c =
    let all : length (words_of_entry c.args.info (File c.in-File.name c.in-File.kept c.in-File.length)) ≡ 5 + c.args.info = length-file c.args.info c.in-File.name c.in-File.length c.in-File.kept (ap length (sym c.split_at.ensures.front) ∙ c.split_at.ensures.front_len) in
    rw (c.in-File.is, all) (omega arith)

pub returns-in-Empty-clause-words : goal.returns-in-Empty-clause-words
returns-in-Empty-clause-words c = rw (c.in-Empty.is, c.minus_word-in-Empty.ensures) refl

pub returns-in-Empty-clause-place : goal.returns-in-Empty-clause-place
returns-in-Empty-clause-place c = rw c.in-Empty.is refl
