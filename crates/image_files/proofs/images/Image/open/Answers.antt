use Rattle.std.proofs.Common.{◌∙◌, Ok, rules, inl, inr}
use Rattle.image_files.proofs.KeepLemmas.{holds-keeps, looks-keeps, judges-keeps}
use Rattle.image_files.proofs.ReadLemmas.{held-output, judges-output, looks-output, unread-files, unread-output, unheld-files, unheld-output}
use Rattle.image_files.proofs.images.Image.open.Goals as goal

pub returns-in_err-file-clause-opens : goal.returns-in_err-file-clause-opens
returns-in_err-file-clause-opens g c = inr (record { given = c.in_ok-place.place; between = g.H.Host.history c.hold.new.host; done = search rules; after = inl (search rules) })

pub returns-in_err-place-clause-files : goal.returns-in_err-place-clause-files
returns-in_err-place-clause-files g c path = unheld-files _ _ _ _ c.in_err-place.ensures path

pub returns-in_err-place-clause-output : goal.returns-in_err-place-clause-output
returns-in_err-place-clause-output g c = unheld-output _ _ _ _ c.in_err-place.ensures

pub returns-in_err-file-clause-files : goal.returns-in_err-file-clause-files
returns-in_err-file-clause-files g c path = unread-files _ _ _ _ _ c.in_err-file.ensures path ∙ holds-keeps _ _ (Ok c.in_ok-place.place) _ c.in_ok-place.ensures path

pub returns-in_err-file-clause-output : goal.returns-in_err-file-clause-output
returns-in_err-file-clause-output g c = unread-output _ _ _ _ _ c.in_err-file.ensures ∙ held-output _ c.in_ok-place.place c.in_ok-place.place.is_held _ _ c.in_ok-place.ensures.1

pub returns-in_err-judge_file-clause-opens : goal.returns-in_err-judge_file-clause-opens
returns-in_err-judge_file-clause-opens g c = inr (record { given = c.in_ok-place.place; between = g.H.Host.history c.hold.new.host; done = search rules; after = inr (record { given = c.in_ok-file.file; between = g.H.Host.history c.look.new.host; done = search rules; after = inl (search rules) }) })

pub returns-clause-opens : goal.returns-clause-opens
returns-clause-opens g c = inr (record { given = c.in_ok-place.place; between = g.H.Host.history c.hold.new.host; done = search rules; after = inr (record { given = c.in_ok-file.file; between = g.H.Host.history c.look.new.host; done = search rules; after = inr (record { given = c.in_ok-judge_file.field-0; between = g.H.Host.history c.judge_file.new.host; done = rw (c.deref.ensures.value, c.as_str-name.ensures.value) at c.in_ok-judge_file.ensures; after = search rules }) }) })

pub returns-in_err-judge_file-clause-files : goal.returns-in_err-judge_file-clause-files
returns-in_err-judge_file-clause-files g c path = judges-keeps c.args.form.now.file.bytes.items c.args.form.now.layout c.args.form.now.is_plain c.in_ok-file.file.items _ _ _ (rw (c.deref.ensures.value, c.as_str-name.ensures.value) at c.in_err-judge_file.ensures) path
    ∙ looks-keeps _ c.args.form.now.file.bytes.items _ (Ok c.in_ok-file.file) _ c.in_ok-file.ensures path ∙ holds-keeps _ _ (Ok c.in_ok-place.place) _ c.in_ok-place.ensures path

pub returns-in_err-judge_file-clause-output : goal.returns-in_err-judge_file-clause-output
returns-in_err-judge_file-clause-output g c = judges-output c.args.form.now.file.bytes.items c.args.form.now.layout c.args.form.now.is_plain c.in_ok-file.file.items _ _ _ (rw (c.deref.ensures.value, c.as_str-name.ensures.value) at c.in_err-judge_file.ensures)
    ∙ looks-output _ c.args.form.now.file.bytes.items _ (Ok c.in_ok-file.file) _ c.in_ok-file.ensures ∙ held-output _ c.in_ok-place.place c.in_ok-place.place.is_held _ _ c.in_ok-place.ensures.1

pub returns-clause-files : goal.returns-clause-files
returns-clause-files g c path = c.image_in.ensures.files path ∙ judges-keeps c.args.form.now.file.bytes.items c.args.form.now.layout c.args.form.now.is_plain c.in_ok-file.file.items _ (Ok c.in_ok-judge_file.field-0) _ (rw (c.deref.ensures.value, c.as_str-name.ensures.value) at c.in_ok-judge_file.ensures) path
    ∙ looks-keeps _ c.args.form.now.file.bytes.items _ (Ok c.in_ok-file.file) _ c.in_ok-file.ensures path ∙ holds-keeps _ _ (Ok c.in_ok-place.place) _ c.in_ok-place.ensures path

pub returns-clause-output : goal.returns-clause-output
returns-clause-output g c = c.image_in.ensures.output ∙ judges-output c.args.form.now.file.bytes.items c.args.form.now.layout c.args.form.now.is_plain c.in_ok-file.file.items _ (Ok c.in_ok-judge_file.field-0) _ (rw (c.deref.ensures.value, c.as_str-name.ensures.value) at c.in_ok-judge_file.ensures)
    ∙ looks-output _ c.args.form.now.file.bytes.items _ (Ok c.in_ok-file.file) _ c.in_ok-file.ensures ∙ held-output _ c.in_ok-place.place c.in_ok-place.place.is_held _ _ c.in_ok-place.ensures.1
