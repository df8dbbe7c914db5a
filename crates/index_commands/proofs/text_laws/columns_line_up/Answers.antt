use Rattle.std.proofs.Common.{refl}
use Rattle.index_commands.proofs.ColumnLemmas.{line-up}
use Rattle.index_commands.proofs.text_laws.columns_line_up.Goals as goal

pub returns : goal.returns
returns c = λ widths text fits. line-up widths text 0 0 0 refl fits
