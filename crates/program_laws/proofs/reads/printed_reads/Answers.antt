use Rattle.program_laws.proofs.ReadLemmas.{rim-prints, scan-prints, source-prints, tape-prints}
use Rattle.program_laws.proofs.reads.printed_reads.Goals as goal

pub returns-clause-scan : goal.returns-clause-scan
returns-clause-scan c form old new p = scan-prints form old tt new p

pub returns-clause-tape : goal.returns-clause-tape
returns-clause-tape c given old new p = tape-prints given old tt new p

pub returns-clause-rim : goal.returns-clause-rim
returns-clause-rim c form given old new p = rim-prints form given old tt new p

pub returns-clause-source : goal.returns-clause-source
returns-clause-source c form old new p = source-prints form old tt new p
