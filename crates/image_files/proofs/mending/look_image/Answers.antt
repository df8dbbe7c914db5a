use Rattle.std.proofs.Common.{Ok, ◌∙◌, inl, inr, rules}
use Rattle.image_files.proofs.KeepLemmas.{looks-if-keeps, judges-keeps}
use Rattle.image_files.proofs.ReadLemmas.{looks-if-output, judges-output}
use Rattle.image_files.proofs.mending.look_image.Goals as goal

pub returns-in_err-file-clause-files : goal.returns-in_err-file-clause-files
returns-in_err-file-clause-files g c path = looks-if-keeps _ _ _ _ _ _ _ c.in_err-file.ensures path

pub returns-in_err-file-clause-output : goal.returns-in_err-file-clause-output
returns-in_err-file-clause-output g c = looks-if-output _ _ _ _ _ _ _ c.in_err-file.ensures

pub returns-in_err-judge_file-clause-looks : goal.returns-in_err-judge_file-clause-looks
returns-in_err-judge_file-clause-looks g c = inr (record { given = c.in_ok-file.file; between = g.H.Host.history c.look_if.new.host; done = search rules; after = inl (search rules) })

pub returns-clause-looks : goal.returns-clause-looks
returns-clause-looks g c = inr (record { given = c.in_ok-file.file; between = g.H.Host.history c.look_if.new.host; done = search rules; after = inr (record { given = c.in_ok-judge_file.field-0; between = g.H.Host.history c.judge_file.new.host; done = rw c.deref.ensures.value at c.in_ok-judge_file.ensures; after = search rules }) })

pub returns-in_err-judge_file-clause-files : goal.returns-in_err-judge_file-clause-files
returns-in_err-judge_file-clause-files g c path =
    judges-keeps c.args.name.now c.args.reading.layout c.args.reading.is_plain c.in_ok-file.file.items _ _ _ (rw c.deref.ensures.value at c.in_err-judge_file.ensures) path
    ∙ looks-if-keeps _ _ _ _ _ (Ok c.in_ok-file.file) _ c.in_ok-file.ensures path

pub returns-in_err-judge_file-clause-output : goal.returns-in_err-judge_file-clause-output
returns-in_err-judge_file-clause-output g c =
    judges-output c.args.name.now c.args.reading.layout c.args.reading.is_plain c.in_ok-file.file.items _ _ _ (rw c.deref.ensures.value at c.in_err-judge_file.ensures)
    ∙ looks-if-output _ _ _ _ _ (Ok c.in_ok-file.file) _ c.in_ok-file.ensures

pub returns-clause-files : goal.returns-clause-files
returns-clause-files g c path =
    judges-keeps c.args.name.now c.args.reading.layout c.args.reading.is_plain c.in_ok-file.file.items _ (Ok c.in_ok-judge_file.field-0) _ (rw c.deref.ensures.value at c.in_ok-judge_file.ensures) path
    ∙ looks-if-keeps _ _ _ _ _ (Ok c.in_ok-file.file) _ c.in_ok-file.ensures path

pub returns-clause-output : goal.returns-clause-output
returns-clause-output g c =
    judges-output c.args.name.now c.args.reading.layout c.args.reading.is_plain c.in_ok-file.file.items _ (Ok c.in_ok-judge_file.field-0) _ (rw c.deref.ensures.value at c.in_ok-judge_file.ensures)
    ∙ looks-if-output _ _ _ _ _ (Ok c.in_ok-file.file) _ c.in_ok-file.ensures
