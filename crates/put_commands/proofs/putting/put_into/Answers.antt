use Rattle.std.proofs.Common.{rules, ℕ, List, Err, inl, inr, refl, subst}
use Rattle.image_files.proofs.WorkLemmas.{ends_with}
use Rattle.put_commands.specs.Putting.{MakesMany}
use Rattle.put_commands.proofs.putting.put_into.Goals as goal

pub returns-in_err-new : goal.returns-in_err-new
returns-in_err-new g c = inr (record { given = tt; between = g.H.Host.history c.judge_put.new.host; done = rw c.deref.ensures.value at c.in_ok-judge_put.ensures; after = inl (ends_with (MakesMany c.args.form.now c.args.files.now c.args.image.bytes.items) _ _ _ _ (subst (λ (bytes : List ℕ). MakesMany c.args.form.now c.args.files.now bytes (g.H.Host.history c.judge_put.new.host) (Err c.in_err-new.field-0.0) (g.H.Host.history c.image_with.new.host)) c.deref-2.ensures.value c.in_err-new.ensures) c.from_residual-in_err-new.ensures) })

pub returns-in_err-lines : goal.returns-in_err-lines
returns-in_err-lines g c = inr (record { given = tt; between = g.H.Host.history c.judge_put.new.host; done = rw c.deref.ensures.value at c.in_ok-judge_put.ensures; after = inr (record { given = c.in_ok-new.new; between = g.H.Host.history c.image_with.new.host; done = rw c.deref-2.ensures.value at c.in_ok-new.ensures; after = inl (search rules) }) })

pub returns : goal.returns
returns g c = inr (record { given = tt; between = g.H.Host.history c.judge_put.new.host; done = rw c.deref.ensures.value at c.in_ok-judge_put.ensures; after = inr (record { given = c.in_ok-new.new; between = g.H.Host.history c.image_with.new.host; done = rw c.deref-2.ensures.value at c.in_ok-new.ensures; after = inr (record { given = c.in_ok-lines.lines; between = g.H.Host.history c.image_with.new.host; done = (rw c.deref-3.ensures.value at c.in_ok-lines.ensures, refl); after = rw c.deref-4.ensures.value at (rw c.deref-5.ensures.value at c.store.ensures) }) }) })

pub returns-in_err-judge_put : goal.returns-in_err-judge_put
returns-in_err-judge_put g c = inl (search rules)
