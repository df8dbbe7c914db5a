use Rattle.std.proofs.Common.{◌+◌}
use Rattle.shown_text.proofs.ShowLemmas.{shown_is_read}
use Rattle.shown_text.specs.declared.bytes.TheConstants.{BLANK}
use Rattle.shown_text.proofs.laws.one_name.Goals as goal

pub returns : goal.returns
returns c = shown_is_read (BLANK + 1)
