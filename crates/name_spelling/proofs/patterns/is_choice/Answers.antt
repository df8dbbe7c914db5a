use Rattle.name_spelling.proofs.ChoiceLemmas.{long-no-choice}
use Rattle.name_spelling.proofs.patterns.is_choice.Goals as goal

pub returns-then-word-gt-MOST : goal.returns-then-word-gt-MOST
returns-then-word-gt-MOST c = long-no-choice c.short_names.ensures.typed c.args.word.now c.if-word-gt-MOST.true
