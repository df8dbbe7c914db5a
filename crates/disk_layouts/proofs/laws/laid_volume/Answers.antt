use Rattle.std.proofs.Common.{arith}
use Rattle.disk_layouts.specs.declared.layouts.Layout.TheVariants.{First, Second}
use Rattle.disk_layouts.proofs.LawLemmas.{laid_is_read, read_before, second_stays, first_stays, words_stay, bytes_stay, whole_stays, tape_stays, little_more}
use Rattle.disk_layouts.proofs.laws.laid_volume.Goals as goal

pub returns-clause-again : goal.returns-clause-again
returns-clause-again c = laid_is_read

pub returns-clause-second : goal.returns-clause-second
returns-clause-second c = record {
  bytes = second_stays;
  read = λ old new image other is laid. read_before Second old.bytes new.bytes other (λ k inside. second_stays old new image is laid _ (omega arith));
}

pub returns-clause-first : goal.returns-clause-first
returns-clause-first c = record {
  bytes = first_stays;
  read = λ old new image other is laid. read_before First old.bytes new.bytes other (λ k inside. first_stays old new image is laid k inside);
}

pub returns-clause-words : goal.returns-clause-words
returns-clause-words c = words_stay

pub returns-clause-unchanged : goal.returns-clause-unchanged
returns-clause-unchanged c = record {
  bytes = bytes_stay;
  whole = whole_stays;
  tape = tape_stays;
  most = little_more;
}
