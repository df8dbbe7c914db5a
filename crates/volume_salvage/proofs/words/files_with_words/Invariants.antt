use Rattle.std.proofs.Common.{length}
use Rattle.archive_survey.specs.Laws.{AreInside}
use Rattle.volume_salvage.proofs.WordLemmas.{GoOn}
use Rattle.volume_salvage.proofs.words.files_with_words.Given as goal

abbrev pub invariant-loop-rest : goal.invariant-loop-rest
invariant-loop-rest l = record {
  so : GoOn l.volume.blocks l.fn.files l.kept.items l.rest;
  inside : AreInside (length l.volume.blocks) l.rest;
}

abbrev pub decreases-loop-rest : goal.decreases-loop-rest
decreases-loop-rest l = length l.rest
