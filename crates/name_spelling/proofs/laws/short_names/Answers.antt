use Rattle.name_spelling.specs.Spelling.{text_of}
use Rattle.name_spelling.proofs.ShortLemmas.{read_few, typed_few}
use Rattle.name_spelling.proofs.TextLemmas.{shown_is_read}
use Rattle.name_spelling.proofs.laws.short_names.Goals as goal

pub returns : goal.returns
returns c = record {
  typed = typed_few;
  shown = λ name small. read_few (text_of name) name (shown_is_read name small);
}
