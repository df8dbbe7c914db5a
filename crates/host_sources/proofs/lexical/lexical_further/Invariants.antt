use Rattle.std.proofs.Common.{◌≡◌, ◌++◌}
use Rattle.pal_lex.specs.Text.{text_of}
use Rattle.source_places.specs.Places.{place_in, place_by}
use Rattle.host_sources.specs.Lexical as spec
use Rattle.host_sources.proofs.lexical.lexical_further.Given as goal

abbrev pub invariant-loop-left : goal.invariant-loop-left
invariant-loop-left l =
    l.faults.items ++ spec.lexical_further (λ at. place_by l.fn.sources (place_in l.fn.join.counts.items at)) l.left (text_of l.text.items)
    ≡ spec.lexical_further (λ at. place_by l.fn.sources (place_in l.fn.join.counts.items at)) l.fn.most (text_of l.fn.join.text.items)

abbrev pub decreases-loop-left : goal.decreases-loop-left
decreases-loop-left l = l.left
