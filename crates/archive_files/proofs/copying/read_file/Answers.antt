use Rattle.archive_files.proofs.CopyLemmas.{file-read}
use Rattle.archive_files.proofs.copying.read_file.Goals as goal

pub returns-in_ok-words-in-Some : goal.returns-in_ok-words-in-Some
returns-in_ok-words-in-Some c =
    let asked = c.in_ok-files.ensures.file in
    let found = c.in_ok-words-in-Some.ensures in
    file-read c.whole_files.ensures.whole c.whole_files.ensures.some c.args.image.now _ c.in_ok-files.files
    (record { name = c.in_ok-files.name; info = c.in-Some.info; words = c.in_ok-words-in-Some.words }) found.0 asked.0 asked.1 c.in_ok-files.ensures.named
    (c.in-Some.ensures.running asked.0.ready.running) found.1 found.2
