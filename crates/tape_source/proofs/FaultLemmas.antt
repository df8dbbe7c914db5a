-- Why frames have no source with the names of a text.
use Rattle.std.proofs.Common.{◌≡◌, ◌∙◌, ℕ, Option, Result, Ok, Err, List, [], ◌∷◌, ◌++◌, ap, sym}
use Rattle.bin_tape.specs.Items.{IsPrefix, Item, tape_map}
use Rattle.bin_tape.specs.Tape.{IsTape}
use Rattle.flow8.specs.Flow.{word_in}
use Rattle.source_names.specs.Names.{AreNames, Reading, read_of}
use Rattle.source_names.specs.declared.faults.NamesFault.{NamesFault}
use Rattle.source_names.specs.declared.faults.NamesFault.TheVariants.{At}
use Rattle.tape_source.specs.Sources.{AllGiven, IsFlowFault, IsListFault, IsNamedFault}
use Rattle.tape_source.specs.Steps.{HoldsMap, IsRefused, IsUnread}
use Rattle.tape_source.specs.Saying.{IsNoSource}
use Rattle.tape_source.specs.declared.faults.ListFault.{ListFault}
use Rattle.tape_source.specs.declared.faults.ListFault.TheVariants.{Tape, NoWord, NoStart, Names, Memory}

abbrev told : Reading → Result Reading NamesFault
told read = Ok read

pub unread : (frames starts names : List ℕ) (fault : ListFault) → IsUnread frames fault → IsNamedFault frames starts names fault
unread frames starts names (Tape fault) is = is
unread frames starts names NoWord is = absurd is
unread frames starts names (NoStart start) is = absurd is
unread frames starts names (Names line why) is = absurd is
unread frames starts names Memory is = tt

pub refused : (words : List (Option ℕ)) (items : List Item) (frames starts names : List ℕ) (fault : ListFault) → IsTape frames items
    → word_in words ≡ tape_map items → AllGiven (tape_map items) starts → IsRefused (word_in words) names fault → IsNamedFault frames starts names fault
refused words items frames starts names (Tape fault) tape same given is = absurd is
refused words items frames starts names NoWord tape same given is = absurd is
refused words items frames starts names (NoStart start) tape same given is = absurd is
refused words items frames starts names (Names line why) tape same given is =
    record { items = items; is_tape = tape; given = given; refused = ap (λ m. read_of m names) (sym same) ∙ is }
refused words items frames starts names Memory tape same given is = tt

pub no_source : (words : List (Option ℕ)) (items : List Item) (frames starts names : List ℕ) (table : List (Option (List ℕ))) (fault : ListFault) → IsTape frames items
    → IsPrefix items → HoldsMap items words → AllGiven (tape_map items) starts → AreNames (tape_map items) names table → IsNoSource words fault
    → IsNamedFault frames starts names fault
no_source words items frames starts names table (Tape fault) tape prefix holds given named is = absurd is
no_source words items frames starts names table NoWord tape prefix holds given named is =
    record { items = items; is_tape = tape; none = is items prefix holds; given = given; table = table; named = named }
no_source words items frames starts names table (NoStart start) tape prefix holds given named is = absurd is
no_source words items frames starts names table (Names line why) tape prefix holds given named is = absurd is
no_source words items frames starts names table Memory tape prefix holds given named is = tt

-- ## With an empty text

never_read : (a : Reading) (fault : NamesFault) → told a ≡ Err fault → ⊥
never_read a fault is = cc

never_split : (before after : List ℕ) (cell : ℕ) → [] ≡ before ++ cell ∷ after → ⊥
never_split [] after cell is = cc
never_split (first ∷ before) after cell is = cc

pub reached_fault : (frames starts : List ℕ) (fault : ListFault) → IsNamedFault frames starts [] fault → IsFlowFault frames starts fault
reached_fault frames starts (Tape fault) is = is
reached_fault frames starts NoWord is = record { items = is.items; is_tape = is.is_tape; none = is.none }
reached_fault frames starts (NoStart start) is = is
reached_fault frames starts (Names line why) is = never_read (record { lines = 0; entries = [] }) (At line why) is.refused
reached_fault frames starts Memory is = tt

pub all_fault : (frames : List ℕ) (fault : ListFault) → IsNamedFault frames [] [] fault → IsListFault frames fault
all_fault frames (Tape fault) is = is
all_fault frames NoWord is = record { items = is.items; is_tape = is.is_tape; none = is.none }
all_fault frames (NoStart start) is = never_split is.first.before is.first.after start is.first.split
all_fault frames (Names line why) is = never_read (record { lines = 0; entries = [] }) (At line why) is.refused
all_fault frames Memory is = tt
