use Rattle.std.proofs.Common.{refl, sym}
use Rattle.command_table.specs.Values.{values_in}
use Rattle.command_table.specs.Found.{place_of}
use Rattle.command_line.proofs.RefusalLemmas.{some_deleted}
use Rattle.command_line.proofs.files.delete.Goals as goal

pub returns : goal.returns
returns c =
    let names = sym c.in_ok-names.ensures in
    let places = c.in_ok-places.ensures in (
      (refl, c.in_ok-image.ensures, names, places),
      some_deleted (values_in c.args.found.now) c.in_ok-names.names.items c.in_ok-places.places.items (λ name. name.bytes.items) place_of
          c.requires.2 names places,
    )
