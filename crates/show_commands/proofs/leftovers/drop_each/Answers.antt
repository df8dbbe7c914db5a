use Rattle.std.proofs.Common.{inl, inr, map, refl, subst, sym, Ok}
use Rattle.show_commands.specs.Checking.{DropsBeside, DropsEach, reading_of_check}
use Rattle.image_files.specs.Reading.{file_named}
use Rattle.image_files.proofs.WorkLemmas.{ends_with, first-and-others, no_item}
use Rattle.show_commands.proofs.leftovers.drop_each.Goals as goal

pub returns-in_err-drop_of : goal.returns-in_err-drop_of
returns-in_err-drop_of g c =
    c.loop-rest.invariant c.from_residual.result (g.H.Host.history c.drop_of.new.host)
    (subst (λ files. DropsEach c.args.form.now (map (λ file. file.bytes.items) files) (g.H.Host.history c.loop-rest.host) c.from_residual.result (g.H.Host.history c.drop_of.new.host))
    (sym (first-and-others c.loop-rest.rest.now c.file-item.result c.in-len1-up.len_at_least c.file-item.is))
    (inl (ends_with (DropsBeside (file_named (reading_of_check c.args.form.now) c.file-item.result.bytes.items)) _ _ _ _ (rw c.as_str.ensures.value at c.in_err-drop_of.ensures) c.from_residual.ensures)))

pub loop-rest-preserved : goal.loop-rest-preserved
loop-rest-preserved g c = λ result new is.
    c.loop-rest.invariant result new
    (subst (λ files. DropsEach c.args.form.now (map (λ file. file.bytes.items) files) (g.H.Host.history c.loop-rest.host) result new)
    (sym (first-and-others c.loop-rest.rest.now c.file-item.result c.in-len1-up.len_at_least c.file-item.is))
    (inr (record { given = tt; between = g.H.Host.history c.drop_of.new.host; done = rw c.as_str.ensures.value at c.in_ok-drop_of.ensures; after = is })))

pub returns : goal.returns
returns g c = c.loop-rest.invariant (Ok tt) (g.H.Host.history c.loop-rest.host)
    (subst (λ files. DropsEach c.args.form.now (map (λ file. file.bytes.items) files) (g.H.Host.history c.loop-rest.host) (Ok tt) (g.H.Host.history c.loop-rest.host))
    (sym (no_item c.loop-rest.rest.now c.in_default.len_below)) (refl, refl))
