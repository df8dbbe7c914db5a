use Rattle.std.proofs.Common.{◌-◌, Err, List, Ok, drop, length, subst, sym, take}
use Rattle.std.specs.Option.{option_copied}
use Rattle.std.proofs.lemmas.Result.{err_from_is_err_and}
use Rattle.os8_dir.specs.declared.file_faults.FileFault.TheVariants.{BadName}
use Rattle.refusals.specs.declared.faults.SessionFault.TheVariants.{File}
use Rattle.archive_many.specs.PutSteps.{PutsFiles}
use Rattle.archive_many.specs.declared.putting.NewFile.{NewFile}
use Rattle.archive_files.proofs.ListLemmas.{first-and-others}
use Rattle.archive_many.proofs.PutLemmas.{begins-low, free-again, head-put, head-refused, none-put, ready-again}
use Rattle.archive_many.proofs.putting.put_files.Goals as goal

pub returns-then-not-has_first_word : goal.returns-then-not-has_first_word
returns-then-not-has_first_word c =
    c.loop-rest.invariant.all (Err (File BadName)) c.loop-rest.blocks.items c.loop-rest.service
    (subst (λ (files : List NewFile). PutsFiles c.loop-rest.service (option_copied c.args.info) files (Err (File BadName)) c.loop-rest.blocks.items c.loop-rest.blocks.items c.loop-rest.service)
    (sym (first-and-others c.loop-rest.rest.now c.file-item.result c.in-len1-up.len_at_least c.file-item.is))
    (head-refused c.loop-rest.service c.loop-rest.service (option_copied c.args.info) c.file-item.result _ c.loop-rest.blocks.items (File BadName)
    (begins-low _ c.has_first_word.result c.has_first_word.ensures c.if-not-has_first_word.true)))

pub returns-in_err-count : goal.returns-in_err-count
returns-in_err-count c =
    let p = err_from_is_err_and c.from_residual.result c.from_residual.ensures.1 in
    rw (p.1, p.2)
    (c.loop-rest.invariant.all (Err c.in_err-count.field-0.0) c.loop-rest.blocks.items c.put_file.new.service
    (subst (λ (files : List NewFile). PutsFiles c.loop-rest.service (option_copied c.args.info) files (Err c.in_err-count.field-0.0) c.loop-rest.blocks.items c.loop-rest.blocks.items c.put_file.new.service)
    (sym (first-and-others c.loop-rest.rest.now c.file-item.result c.in-len1-up.len_at_least c.file-item.is))
    (head-refused c.loop-rest.service c.put_file.new.service (option_copied c.args.info) c.file-item.result _ c.loop-rest.blocks.items _ c.in_err-count.ensures)))

pub loop-rest-preserved : goal.loop-rest-preserved
loop-rest-preserved c =
    let put = c.in_ok-count.ensures in
    record {
      ready = ready-again c.loop-rest.service c.put_file.new.service (option_copied c.args.info) c.file-item.result put.0;
      free = free-again c.loop-rest.service c.put_file.new.service (option_copied c.args.info) c.file-item.result put.0 c.loop-rest.invariant.free;
      all = λ result after new is.
          c.loop-rest.invariant.all result after new
          (subst (λ (files : List NewFile). PutsFiles c.loop-rest.service (option_copied c.args.info) files result c.loop-rest.blocks.items after new)
          (sym (first-and-others c.loop-rest.rest.now c.file-item.result c.in-len1-up.len_at_least c.file-item.is))
          (head-put c.loop-rest.service c.put_file.new.service new (option_copied c.args.info) c.file-item.result (take (length c.loop-rest.rest.now - 1) (drop 1 c.loop-rest.rest.now)) c.in_ok-count.count
          c.loop-rest.blocks.items c.push_count.new.blocks.items after result put.0 put.1 c.in_ok-push_count.ensures is));
    }

pub returns : goal.returns
returns c = c.loop-rest.invariant.all (Ok tt) c.loop-rest.blocks.items c.loop-rest.service (none-put c.loop-rest.service (option_copied c.args.info) c.loop-rest.rest.now c.loop-rest.blocks.items c.in_default.len_below)
