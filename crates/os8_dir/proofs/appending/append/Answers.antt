use Rattle.std.proofs.Common.{◌<◌, ◌∙◌, ap, sym, arith}
use Rattle.std.proofs.lemmas.Result.{on_ok_weaker}
use Rattle.os8_dir.specs.Entries.{size_of}
use Rattle.os8_dir.proofs.TidyLemmas.{tidy-none, tidy-file}
use Rattle.os8_dir.proofs.appending.append.Goals as goal

pub returns-then-length-eq0 : goal.returns-then-length-eq0
returns-then-length-eq0 c = sym (tidy-none _ c.args.entry (ap size_of c.in-File.is ∙ c.if-length-eq0.true) c.requires.neat)

pub returns-else-length-eq0 : goal.returns-else-length-eq0
returns-else-length-eq0 c =
    let some : 0 < c.in-File.length = omega arith in
    on_ok_weaker c.push_item.result (λ is. is ∙ rw c.in-File.is (sym (tidy-file _ _ _ _ some c.requires.neat))) c.push_item.ensures
