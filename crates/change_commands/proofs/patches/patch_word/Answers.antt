use Rattle.std.proofs.Common.{ℕ, Err, List, rules, inl, inr, refl, subst}
use Rattle.change_commands.specs.Patching.{GivesPatched}
use Rattle.image_files.proofs.WorkLemmas.{ends_with}
use Rattle.change_commands.proofs.patches.patch_word.Goals as goal

pub returns-in_err-bytes : goal.returns-in_err-bytes
returns-in_err-bytes g c = inr (record { given = c.in_ok-image.image; between = g.H.Host.history c.open.new.host; done = c.in_ok-image.ensures.opens; after = inl (ends_with (GivesPatched c.args.wanted.now c.in_ok-image.image.bytes.items) _ _ _ c.in_err-bytes.field-0.0 (subst (λ (b : List ℕ). GivesPatched c.args.wanted.now b (g.H.Host.history c.open.new.host) (Err c.in_err-bytes.field-0.0) (g.H.Host.history c.patched_bytes.new.host)) c.deref.ensures.value c.in_err-bytes.ensures) c.from_residual-in_err-bytes.ensures) })

pub returns-in_err-line : goal.returns-in_err-line
returns-in_err-line g c = inr (record { given = c.in_ok-image.image; between = g.H.Host.history c.open.new.host; done = c.in_ok-image.ensures.opens; after = inr (record { given = c.in_ok-bytes.bytes; between = g.H.Host.history c.patched_bytes.new.host; done = search rules; after = inl (search rules) }) })

pub returns : goal.returns
returns g c = inr (record { given = c.in_ok-image.image; between = g.H.Host.history c.open.new.host; done = c.in_ok-image.ensures.opens; after = inr (record { given = c.in_ok-bytes.bytes; between = g.H.Host.history c.patched_bytes.new.host; done = search rules; after = inr (record { given = c.in_ok-line.line; between = g.H.Host.history c.patched_bytes.new.host; done = (c.in_ok-line.ensures, refl); after = rw c.deref-2.ensures.value at (rw c.deref-3.ensures.value at c.store.ensures) }) }) })
