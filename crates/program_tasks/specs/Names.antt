-- How a volume of a disk is named: the name of its file, a colon, and its number.
use Rattle.std.specs.Prelude.{◌-◌, ℕ, codes, drop, if◌then◌else◌, length, nat_eq, nat_lt, take, List, Option, None, Some}
use Rattle.std.specs.List.{ends_with}
use Rattle.disk_layouts.specs.declared.layouts.Layout.{Layout}
use Rattle.disk_layouts.specs.declared.layouts.Layout.TheVariants.{First, Second}

-- the volume that the end of a name means, where there is a character before it
abbrev pub end_volume : List ℕ → Option Layout
end_volume name =
    if nat_lt (length name) 3 then None
    else if ends_with nat_eq name (codes ":1") then Some First
    else if ends_with nat_eq name (codes ":2") then Some Second
    else None

-- the file of a name with such an end is what stands before it
abbrev pub before_end : List ℕ → Option Layout → List ℕ × Option Layout
before_end name None = (name, None)
before_end name (Some layout) = (take (length name - 2) name, Some layout)

-- The file that a name means, and where its volume lies. Where this is given, the name is taken as it stands.
abbrev pub volume_named : Option Layout → List ℕ → List ℕ × Option Layout
volume_named None name = before_end name (end_volume name)
volume_named (Some layout) name = (name, Some layout)
