use Rattle.std.proofs.Common.{◌≡◌, ◌∙◌, ◌++◌, ap, sym, subst, List, ℕ}
use Rattle.std.specs.Str.{IsUtf8}
use Rattle.std.proofs.lemmas.Str.{IsUtf8-from_ascii}
use Rattle.name_spelling.specs.Spelling.{text_of}
use Rattle.archive_many.proofs.HostLemmas.{safe-ascii}
use Rattle.archive_many.proofs.host_names.host_name.Goals as goal

pub unreachable-requires : goal.unreachable-requires
unreachable-requires c =
    let text = text_of c.args.file.now.name in
    let ascii = safe-ascii text (c.safe_names.ensures c.args.file.now.name) in
    let shown : c.as_slice.result.now ≡ text = c.as_slice.ensures.value ∙ c.put_spelled.ensures.text ∙ ap (λ l. l ++ text) c.new-line.ensures in
    c.in-Err.ensures.cases.0 (subst (λ (l : List ℕ). IsUtf8 l) (sym shown) (IsUtf8-from_ascii text ascii))
