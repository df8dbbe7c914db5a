use Rattle.script8.proofs.LineLemmas.{last_part, ended_part}
use Rattle.script8.proofs.parts.first_part.Goals as goal

pub returns-in-empty-clause-parts : goal.returns-in-empty-clause-parts
returns-in-empty-clause-parts c = last_part _ _ _ _ _ c.part_length.ensures.place c.split_at.ensures.front c.split_at.ensures.back c.in-empty.len_below

pub returns-in-len1-up-clause-parts : goal.returns-in-len1-up-clause-parts
returns-in-len1-up-clause-parts c = ended_part _ _ _ _ _ c.part_length.ensures.place c.split_at.ensures.front c.split_at.ensures.back c.in-len1-up.len_at_least
