use Rattle.std.proofs.Common.{arith}
use Rattle.shown_text.proofs.ShowLemmas.{shown_is_graphic}
use Rattle.shown_text.specs.declared.bytes.TheConstants.{BLANK}
use Rattle.shown_text.proofs.laws.shown_texts.Goals as goal

pub returns : goal.returns
returns c = shown_is_graphic BLANK (omega arith)
