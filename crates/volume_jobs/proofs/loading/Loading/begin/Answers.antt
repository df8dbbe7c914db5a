use Rattle.volume_jobs.proofs.BeginLemmas.{begun_loading}
use Rattle.volume_jobs.proofs.loading.Loading.begin.Goals as goal

pub returns : goal.returns
returns g c = begun_loading c.args.files.now c.hold.new.self c.args.name c.in_ok-hold.hold c.unwrap_or-blocks.result c.new.result c.lookup.result c.in_ok-hold.ensures c.lookup.ensures.running c.unwrap_or-blocks.ensures c.new.ensures
