use Rattle.std.proofs.Common.{◌-◌, ℕ, Err, List, Ok, drop, length, subst, sym, take}
use Rattle.std.specs.Option.{option_copied}
use Rattle.std.proofs.lemmas.Result.{err_from_is_err_and}
use Rattle.archive_many.specs.CopySteps.{CopiesEach, CopiesNext}
use Rattle.archive_many.specs.declared.opened.VolumeFile.{VolumeFile}
use Rattle.archive_many.proofs.CopyLemmas.{copied-next, not-copied-next}
use Rattle.archive_files.proofs.ListLemmas.{first-and-others}
use Rattle.archive_many.proofs.copying.copy_each.Goals as goal

pub returns-in_err-image : goal.returns-in_err-image
returns-in_err-image c =
    let p = err_from_is_err_and c.from_residual.result c.from_residual.ensures.1 in
    rw (p.1, p.2)
    (c.loop-rest.invariant (Err c.in_err-image.field-0.0)
    (subst (λ (files : List VolumeFile). CopiesEach c.args.from.now c.loop-rest.image.items (option_copied c.args.new_name) files (Err c.in_err-image.field-0.0))
    (sym (first-and-others c.loop-rest.rest.now c.file-item.result c.in-len1-up.len_at_least c.file-item.is))
    (not-copied-next c.args.from.now c.loop-rest.image.items (option_copied c.args.new_name) c.file-item.result (take (length c.loop-rest.rest.now - 1) (drop 1 c.loop-rest.rest.now)) c.in_err-image.field-0.0
    (subst (λ (to : List ℕ). CopiesNext c.args.from.now to (option_copied c.args.new_name) c.file-item.result (Err c.in_err-image.field-0.0)) c.deref.ensures.value c.in_err-image.ensures))))

pub loop-rest-preserved : goal.loop-rest-preserved
loop-rest-preserved c = λ result is.
    c.loop-rest.invariant result
    (subst (λ (files : List VolumeFile). CopiesEach c.args.from.now c.loop-rest.image.items (option_copied c.args.new_name) files result)
    (sym (first-and-others c.loop-rest.rest.now c.file-item.result c.in-len1-up.len_at_least c.file-item.is))
    (copied-next c.args.from.now c.loop-rest.image.items c.in_ok-image.image.items (option_copied c.args.new_name) c.file-item.result (take (length c.loop-rest.rest.now - 1) (drop 1 c.loop-rest.rest.now)) result
    (subst (λ (to : List ℕ). CopiesNext c.args.from.now to (option_copied c.args.new_name) c.file-item.result (Ok c.in_ok-image.image)) c.deref.ensures.value c.in_ok-image.ensures) is))
