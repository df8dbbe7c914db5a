use Rattle.program_laws.proofs.WordLemmas.{words-asked, words-keep, words-refused}
use Rattle.program_laws.proofs.words.refused_words.Goals as goal

pub returns-clause-files : goal.returns-clause-files
returns-clause-files c = words-keep c.kept_files.ensures.prints

pub returns-clause-zero : goal.returns-clause-zero
returns-clause-zero c = words-asked

pub returns-clause-refused : goal.returns-clause-refused
returns-clause-refused c = words-refused
