use Rattle.std.proofs.Common.{◌≡◌, ◌∙◌, ap, refl}
use Rattle.std.specs.List.{insert}
use Rattle.os8_files.specs.Steps.{place_of}
use Rattle.os8_files.proofs.HoldLemmas.{insert-place}
use Rattle.os8_files.proofs.holds.add_hold.Goals as goal

pub returns-clause-ok : goal.returns-clause-ok
returns-clause-ok c =
    let holds = c.args.holds.now.items in
    let at : c.place_of-place.result ≡ place_of c.args.name holds = c.place_of-place.ensures.value ∙ rw c.deref.ensures.value refl in
    c.in_ok-insert.ensures.items ∙ ap (λ p. insert holds p c.args.name) at ∙ insert-place c.args.name holds
