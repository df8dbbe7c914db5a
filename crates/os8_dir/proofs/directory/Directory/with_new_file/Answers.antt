use Rattle.std.proofs.Common.{◌≡◌, refl, ap, ◌∙◌, arith}
use Rattle.os8_dir.specs.declared.entries.DirEntry.TheVariants.{File}
use Rattle.os8_dir.specs.Entries.{tidy}
use Rattle.os8_dir.specs.Changes.{entries_without, put, with_new_file, new_file, directory_with}
use Rattle.os8_dir.proofs.ChangeLemmas.{lie-inside, tidied-neat, tidied-total, total-put, total-emptied, take-min-words}
use Rattle.os8_dir.proofs.directory.Directory.with_new_file.Goals as goal

pub with_file-requires : goal.with_file-requires
with_file-requires c =
    let d = c.args.self.now in
    record {
      inside = rw (c.entries.ensures.list, c.first_block-first.ensures.value) c.entries.ensures.blocks;
      near = omega (arith, lie-inside d.first c.args.first_block c.args.length d.entries c.requires.room, c.entries.ensures.blocks);
    }

pub with_list-requires : goal.with_list-requires
with_list-requires c =
    let d = c.args.self.now in
    let kept = c.in_ok-entries.entries.items in
    let laid = put c.first_block-first.result c.args.first_block (File c.args.name.now c.information.result c.args.length) (entries_without c.args.name.now d.entries) in
    let is : kept ≡ tidy laid = rw (← c.entries.ensures.list) c.in_ok-entries.ensures in
    record {
      neat = tidied-neat kept laid is;
      same = tidied-total kept laid is ∙ total-put _ _ _ (entries_without c.args.name.now d.entries) ∙ total-emptied c.args.name.now d.entries;
    }

pub returns : goal.returns
returns c =
    let d = c.args.self.now in
    let kept = c.in_ok-entries.entries.items in
    let words : c.information.result ≡ (new_file d c.args.name.now c.args.info.now c.args.first_block c.args.length).info = c.information.ensures ∙ rw (c.min.ensures, c.information_words-count.ensures.value, take-min-words d.info c.args.info.now) refl in
    let is : kept ≡ with_new_file d.first (new_file d c.args.name.now c.args.info.now c.args.first_block c.args.length) d.entries = c.in_ok-entries.ensures ∙ rw (words, c.entries.ensures.list, c.first_block-first.ensures.value) refl in
    record {
      list = c.with_list.ensures ∙ ap (directory_with d) is;
      err = tt;
    }
