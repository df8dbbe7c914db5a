-- Names of files that a writer which was ended may have left beside another. Among several names none of them is an image's.
use Rattle.std.specs.Prelude.{◌≡◌, ℕ, Bool, true, false, ◌&&◌, ◌||◌, not, ◌==◌, if◌then◌else◌, codes, Result, Ok, Err, List, [], ◌∷◌, ◌++◌, map, String}
use Rattle.std.specs.Global.{Vec, Global}
use Rattle.std.specs.List.{starts_with}
use Rattle.refusals.specs.declared.faults.SessionFault.TheVariants.{Memory}
use Rattle.outcome.specs.declared.endings.Ending.{Ending}
use Rattle.outcome.specs.declared.endings.Ending.TheVariants.{Fault}

-- what the name of such a file has between that of the other file and its own end
abbrev pub mark : List ℕ
mark = codes ".pdp8-"

abbrev pub has_mark : List ℕ → Bool
has_mark [] = false
has_mark (byte ∷ bytes) = starts_with ◌==◌ (byte ∷ bytes) mark || has_mark bytes

-- the part after the last slash of the second bytes, or the first bytes where there is none
abbrev pub part_after : List ℕ → List ℕ → List ℕ
part_after part [] = part
part_after part (byte ∷ bytes) = part_after (if byte == 0o57 then bytes else part) bytes

-- the last part of a name begins with a dot, and has the mark
abbrev pub is_hidden : List ℕ → Bool
is_hidden [] = false
is_hidden (byte ∷ bytes) = byte == 0o56

abbrev pub is_leftover : List ℕ → Bool
is_leftover name = is_hidden (part_after name name) && has_mark (part_after name name)

abbrev pub image_named : Bool → List ℕ → List (List ℕ)
image_named true name = []
image_named false name = name ∷ []

-- the names but those of leftovers; one alone is asked for, whatever it is
abbrev pub images_in : Bool → List (List ℕ) → List (List ℕ)
images_in is_one [] = []
images_in is_one (name ∷ names) = image_named (is_leftover name && not is_one) name ++ images_in is_one names

abbrev pub is_one : List (List ℕ) → Bool
is_one [] = false
is_one (name ∷ []) = true
is_one (name ∷ other ∷ names) = false

-- the names of images among several
abbrev pub images_among : List (List ℕ) → List (List ℕ)
images_among names = images_in (is_one names) names

-- they are copied, for which memory may be wanted
abbrev pub ChoosesImages : List (List ℕ) → Result (Vec (String Global)) Ending → Type 0
ChoosesImages names (Ok images) = map (λ image. image.bytes.items) images.items ≡ images_among names
ChoosesImages names (Err ending) = ending ≡ Fault Memory
