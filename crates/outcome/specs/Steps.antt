-- What private clauses alone cite.
use Rattle.std.specs.Prelude.{Bool, true, false}
use Rattle.outcome.specs.declared.outcomes.Stream.{Stream}
use Rattle.outcome.specs.declared.outcomes.Stream.TheVariants.{Output, Errors}

-- the stream of refusals: standard error, where standard output gets data
abbrev pub refusal_stream : Bool → Stream
refusal_stream true = Errors
refusal_stream false = Output
