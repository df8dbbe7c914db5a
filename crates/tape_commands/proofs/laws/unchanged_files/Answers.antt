use Rattle.tape_commands.proofs.KeepLemmas.{frames-refused, program-keeps, tape-keeps, rim-keeps, source-keeps}
use Rattle.tape_commands.proofs.laws.unchanged_files.Goals as goal

pub returns-clause-program : goal.returns-clause-program
returns-clause-program c = program-keeps c.kept_files.ensures.looks c.kept_files.ensures.looks_at c.kept_files.ensures.input c.kept_files.ensures.prints c.kept_files.ensures.refuses

pub returns-clause-tape : goal.returns-clause-tape
returns-clause-tape c = tape-keeps c.kept_files.ensures.looks c.kept_files.ensures.looks_at c.kept_files.ensures.input c.kept_files.ensures.prints c.kept_files.ensures.refuses

pub returns-clause-rim : goal.returns-clause-rim
returns-clause-rim c = rim-keeps c.kept_files.ensures.looks c.kept_files.ensures.looks_at c.kept_files.ensures.input c.kept_files.ensures.prints c.kept_files.ensures.refuses

pub returns-clause-source : goal.returns-clause-source
returns-clause-source c = source-keeps c.kept_files.ensures.looks c.kept_files.ensures.looks_at c.kept_files.ensures.input c.kept_files.ensures.prints c.kept_files.ensures.refuses

pub returns-clause-frames : goal.returns-clause-frames
returns-clause-frames c = λ frames why old ending new p path. frames-refused path frames why old ending new p
