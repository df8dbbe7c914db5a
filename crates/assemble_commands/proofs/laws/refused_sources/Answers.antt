use Rattle.assemble_commands.proofs.KeepLemmas.{assembles-refused}
use Rattle.assemble_commands.proofs.laws.refused_sources.Goals as goal

pub returns : goal.returns
returns c =
    assembles-refused c.kept_files.ensures.looks c.kept_files.ensures.looks_at c.kept_files.ensures.opens c.kept_files.ensures.input c.kept_files.ensures.prints
    c.kept_files.ensures.refuses
