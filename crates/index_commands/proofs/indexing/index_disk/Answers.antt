use Rattle.std.proofs.Common.{Some, inl, inr, refl}
use Rattle.disk_layouts.specs.declared.layouts.Layout.TheVariants.{Second}
use Rattle.index_commands.specs.Indexing.{IndexesVolume}
use Rattle.image_files.proofs.WorkLemmas.{ends_with}
use Rattle.index_commands.proofs.indexing.index_disk.Goals as goal

pub returns-in_err-second : goal.returns-in_err-second
returns-in_err-second g c = inr (record {
  given = c.in_ok-first.first;
  between = g.H.Host.history c.index_one.new.host;
  done = c.in_ok-first.ensures;
  after = inl (ends_with (IndexesVolume c.args.columns.now c.args.style.now c.args.name.now c.args.bytes.now (Some Second) c.in_ok-first.first.is_refused c.in_ok-first.first.lines.items) _ _ _ _
      c.in_err-second.ensures c.from_residual-in_err-second.ensures);
})

pub returns : goal.returns
returns g c = inr (record {
  given = c.in_ok-first.first;
  between = g.H.Host.history c.index_one.new.host;
  done = c.in_ok-first.ensures;
  after = inr (record { given = c.in_ok-second.second; between = g.H.Host.history c.index_one-2.new.host; done = c.in_ok-second.ensures; after = ((refl, refl), refl) });
})
