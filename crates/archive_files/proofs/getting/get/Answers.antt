use Rattle.std.proofs.Common.{◌∙◌}
use Rattle.std.proofs.lemmas.Result.{err_from_is_err_and}
use Rattle.archive_files.proofs.GetLemmas.{file_is, given_refused}
use Rattle.archive_files.proofs.ImageLemmas.{image_of}
use Rattle.archive_files.proofs.getting.get.Goals as goal

pub returns-in_err-bytes : goal.returns-in_err-bytes
returns-in_err-bytes c =
    let p = err_from_is_err_and c.from_residual-in_err-bytes.result c.from_residual-in_err-bytes.ensures.1 in
    let asked = c.in_ok-files.ensures.file in
    let found = c.in_ok-words.ensures in
    rw (p.1, p.2)
    (given_refused _ _ c.deref.result.now _ _ (image_of _ _ asked.0.opened.is_image)
    (file_is _ _ _ _ _ found.0 asked.0 asked.1 found.1 (c.deref.ensures.value ∙ found.2)) c.in_err-bytes.ensures)

pub returns : goal.returns
returns c =
    let asked = c.in_ok-files.ensures.file in
    let found = c.in_ok-words.ensures in (
      c.deref.result.now,
      file_is _ _ _ _ _ found.0 asked.0 asked.1 found.1 (c.deref.ensures.value ∙ found.2),
      c.in_ok-bytes.ensures,
    )
