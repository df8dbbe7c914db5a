-- Why frames have no PAL8 source.
use Rattle.std.proofs.Common.{◌≡◌, ◌∙◌, ℕ, Option, Some, None, List, ap, sym}
use Rattle.bin_tape.specs.Items.{Item, tape_map}
use Rattle.bin_tape.specs.Tape.{IsTape}
use Rattle.source_names.specs.Names.{read_of}
use Rattle.tape_source.specs.Sources.{AllGiven}
use Rattle.tape_source.specs.declared.faults.ListFault.{ListFault}
use Rattle.tape_source.specs.declared.faults.ListFault.TheVariants.{Tape, NoWord, NoStart, Names, Memory}
use Rattle.pal8_source.specs.Sources.{IsPal8Fault}
use Rattle.pal8_source.specs.Steps.{IsUnnamed}
use Rattle.pal8_source.specs.declared.faults.Pal8Fault.TheVariants.{List as InList}

-- a line of the names is refused
pub unnamed : (words : ℕ → Option ℕ) (items : List Item) (frames starts : List ℕ) (names : Option (List ℕ)) (fault : ListFault) → IsTape frames items
    → words ≡ tape_map items → AllGiven (tape_map items) starts → IsUnnamed words names fault → IsPal8Fault frames starts names (InList fault)
unnamed words items frames starts None fault tape same given is = absurd is
unnamed words items frames starts (Some names) (Tape fault) tape same given is = absurd is
unnamed words items frames starts (Some names) NoWord tape same given is = absurd is
unnamed words items frames starts (Some names) (NoStart start) tape same given is = absurd is
unnamed words items frames starts (Some names) (Names line why) tape same given is =
    record { items = items; is_tape = tape; given = given; refused = ap (λ m. read_of m names) (sym same) ∙ is }
unnamed words items frames starts (Some names) Memory tape same given is = tt
