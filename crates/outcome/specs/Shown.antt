-- What an outcome of the program is.
use Rattle.std.specs.Prelude.{ℕ, List, [], ◌++◌}
use Rattle.outcome.specs.Notes.{text_on_file}
use Rattle.outcome.specs.Outcomes.{Writing}
use Rattle.outcome.specs.declared.outcomes.Outcome.{Outcome}
use Rattle.outcome.specs.declared.outcomes.Stream.{Stream}
use Rattle.outcome.specs.declared.outcomes.Stream.TheVariants.{Output, Errors}

-- a note on standard error, and then a line on one of the streams
abbrev pub writing_on : Stream → List ℕ → List ℕ → ℕ → Writing
writing_on Output note line status = record { output = line; errors = note; status = status }
writing_on Errors note line status = record { output = []; errors = note ++ line; status = status }

abbrev pub writing_of : Outcome → Writing
writing_of it = writing_on it.stream (text_on_file it.note) it.line.items it.status
