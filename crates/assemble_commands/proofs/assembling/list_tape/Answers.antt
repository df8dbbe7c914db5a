use Rattle.std.proofs.Common.{inl, inr, refl, rules, map}
use Rattle.assemble_commands.specs.Assembling.{Makes}
use Rattle.image_files.proofs.WorkLemmas.{ends_with}
use Rattle.assemble_commands.proofs.assembling.list_tape.Goals as goal

pub returns-in_err-made : goal.returns-in_err-made
returns-in_err-made g c = inr (record { given = c.in_ok-texts.texts; between = g.H.Host.history c.read_sources.new.host; done = search rules; after = inl (ends_with (Makes c.args.form.now (map (λ text. text.items) c.in_ok-texts.texts.items)) _ _ _ _ (rw c.deref-2.ensures.value at c.in_err-made.ensures) c.from_residual-in_err-made.ensures) })

pub returns-in_err-keep_inputs : goal.returns-in_err-keep_inputs
returns-in_err-keep_inputs g c = inr (record { given = c.in_ok-texts.texts; between = g.H.Host.history c.read_sources.new.host; done = search rules; after = inr (record { given = c.in_ok-made.made; between = g.H.Host.history c.assembled_texts.new.host; done = rw c.deref-2.ensures.value at c.in_ok-made.ensures; after = inl (search rules) }) })

pub returns-in_err-write_listing : goal.returns-in_err-write_listing
returns-in_err-write_listing g c = inr (record { given = c.in_ok-texts.texts; between = g.H.Host.history c.read_sources.new.host; done = search rules; after = inr (record { given = c.in_ok-made.made; between = g.H.Host.history c.assembled_texts.new.host; done = rw c.deref-2.ensures.value at c.in_ok-made.ensures; after = inr (record { given = tt; between = g.H.Host.history c.keep_inputs.new.host; done = search rules; after = inl (search rules) }) }) })

pub returns : goal.returns
returns g c = inr (record { given = c.in_ok-texts.texts; between = g.H.Host.history c.read_sources.new.host; done = search rules; after = inr (record { given = c.in_ok-made.made; between = g.H.Host.history c.assembled_texts.new.host; done = rw c.deref-2.ensures.value at c.in_ok-made.ensures; after = inr (record { given = tt; between = g.H.Host.history c.keep_inputs.new.host; done = search rules; after = inr (record { given = tt; between = g.H.Host.history c.write_listing.new.host; done = search rules; after = (refl, refl) }) }) }) })
