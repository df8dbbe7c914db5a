use Rattle.std.proofs.Common.{[], ◌∷◌}
use Rattle.block_words.specs.Rows.{beside}
use Rattle.block_words.proofs.LineLemmas.{octals-back}
use Rattle.block_words.proofs.laws.shown_words.Goals as goal

pub returns : goal.returns
returns c = λ form number words fit. octals-back words (λ k within. fit k 0 within) (beside form words) (0o12 ∷ [])
