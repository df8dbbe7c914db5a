use Rattle.std.proofs.Common.{inr, refl}
use Rattle.program.proofs.doing.list_index.Goals as goal

pub returns : goal.returns
returns g c = inr (record {
  given = record { find = c.in_ok-pattern_or_all.field-0; grep = c.args.form.grep; year = c.args.form.year };
  between = g.H.Host.history c.args.host.now;
  done = (record { find = c.in_ok-pattern_or_all.ensures; grep = refl; year = refl }, refl);
  after = rw (c.deref.ensures.value, c.is_json.ensures) at c.index_images.ensures;
})
