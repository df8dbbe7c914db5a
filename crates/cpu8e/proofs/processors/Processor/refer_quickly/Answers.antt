use Rattle.cpu8e.proofs.QuickLemmas.{low-quick}
use Rattle.cpu8e.proofs.processors.Processor.refer_quickly.Goals as goal

pub do_quickly-requires-clause-word : goal.do_quickly-requires-clause-word
do_quickly-requires-clause-word c = low-quick c.args.word c.requires.refers
