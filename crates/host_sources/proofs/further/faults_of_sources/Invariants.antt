use Rattle.std.proofs.Common.{◌≡◌, ◌++◌, length}
use Rattle.source_places.specs.Places.{place_in, place_by}
use Rattle.host_sources.specs.JudgeSteps as spec
use Rattle.host_sources.proofs.further.faults_of_sources.Given as goal

abbrev pub invariant-loop-rest : goal.invariant-loop-rest
invariant-loop-rest l =
    l.faults.items ++ spec.faults_of_words (λ at. place_by l.fn.sources (place_in l.fn.join.counts.items at)) l.fn.join.text.items l.rest
    ≡ spec.faults_of_words (λ at. place_by l.fn.sources (place_in l.fn.join.counts.items at)) l.fn.join.text.items l.fn.found

abbrev pub decreases-loop-rest : goal.decreases-loop-rest
decreases-loop-rest l = length l.rest
