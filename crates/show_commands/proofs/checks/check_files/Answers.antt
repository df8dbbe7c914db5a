use Rattle.std.proofs.Common.{map, subst, sym}
use Rattle.show_commands.specs.Checking.{ChecksFiles}
use Rattle.image_files.proofs.WorkLemmas.{one_item}
use Rattle.show_commands.proofs.checks.check_files.Goals as goal

pub returns-in-len1 : goal.returns-in-len1
returns-in-len1 g c =
    subst (λ files. ChecksFiles c.args.form.now (map (λ file. file.bytes.items) files) (g.H.Host.history c.args.host.now) c.check_one.result (g.H.Host.history c.check_one.new.host))
    (sym (one_item c.args.files.now c.file-item.result c.in-len1.len_at_least c.in-len1.len_below c.file-item.is))
    (rw c.as_str.ensures.value at c.check_one.ensures)
