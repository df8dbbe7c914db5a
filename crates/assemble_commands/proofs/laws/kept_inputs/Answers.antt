use Rattle.assemble_commands.proofs.AskLemmas.{assembles-asked}
use Rattle.assemble_commands.proofs.laws.kept_inputs.Goals as goal

pub returns : goal.returns
returns c =
    assembles-asked c.kept_files.ensures.looks c.kept_files.ensures.looks_at c.kept_files.ensures.opens c.kept_files.ensures.input c.kept_files.ensures.prints
    c.kept_files.ensures.refuses
