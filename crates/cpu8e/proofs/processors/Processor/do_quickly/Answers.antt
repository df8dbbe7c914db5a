use Rattle.cpu8e.specs.State.{with_core}
use Rattle.cpu8e.proofs.QuickLemmas.{does}
use Rattle.cpu8e.proofs.processors.Processor.do_quickly.Goals as goal

pub returns : goal.returns
returns c =
    does (with_core c.args.self.now c.args.core.now) (with_core c.execute-ran.new.self c.execute-ran.new.core) c.args.word c.requires.quiet c.requires.word
    c.execute-ran.ensures.state
