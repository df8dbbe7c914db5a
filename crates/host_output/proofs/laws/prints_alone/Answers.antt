use Rattle.host_output.proofs.PrintLemmas.{same_files, same_errors, same_reads}
use Rattle.host_output.proofs.laws.prints_alone.Goals as goal

pub returns-clause-files : goal.returns-clause-files
returns-clause-files c = same_files

pub returns-clause-tells : goal.returns-clause-tells
returns-clause-tells c = same_errors

pub returns-clause-reads : goal.returns-clause-reads
returns-clause-reads c = same_reads
