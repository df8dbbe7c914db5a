use Rattle.std.proofs.Common.{inr, refl}
use Rattle.assemble_commands.proofs.sources.read_source.Goals as goal

pub returns : goal.returns
returns g c = inr (record { given = c.in_ok-bytes.bytes; between = g.H.Host.history c.read_bytes.new.host; done = c.in_ok-bytes.ensures; after = (c.source_text.ensures, refl) })
