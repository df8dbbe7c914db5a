-- Which bytes of a file are those of its volumes: not those that other programs put before or after them (this project's profile).
use Rattle.std.specs.Prelude.{ℕ, ◌-◌, Bool, true, false, if◌then◌else◌, Option, Some, None, List, drop, length, take}
use Rattle.disk_layouts.specs.declared.layouts.Layout.{Layout}
use Rattle.disk_layouts.specs.declared.layouts.Layout.TheVariants as layout
use Rattle.image_kind.specs.declared.kinds.Form.{Form}
use Rattle.image_kind.specs.declared.kinds.Form.TheVariants as form
use Rattle.image_kind.specs.declared.kinds.ImageKind.{ImageKind}
use Rattle.image_kind.specs.Judging.{judged_kind}
use Rattle.image_kind.specs.declared.margins.Margins.{Margins}

-- a file of this form may be read at the layout that is given, if one is
abbrev pub may_be : Option Layout → Form → Bool
may_be None form = true
may_be (Some layout.First) form.Disk = true
may_be (Some layout.First) form.Volume = false
may_be (Some layout.First) form.Dectape = false
may_be (Some layout.Second) form.Disk = true
may_be (Some layout.Second) form.Volume = false
may_be (Some layout.Second) form.Dectape = false
may_be (Some layout.Dectape) form.Dectape = true
may_be (Some layout.Dectape) form.Volume = false
may_be (Some layout.Dectape) form.Disk = false

-- how many bytes stand before and after the volumes of a file of this kind
abbrev pub margins_for : Option Layout → ImageKind → Margins
margins_for given kind = if may_be given kind.form then record { before = kind.before; after = kind.after } else record { before = 0; after = 0 }

abbrev pub margins_by : Option Layout → Option ImageKind → Margins
margins_by given None = record { before = 0; after = 0 }
margins_by given (Some kind) = margins_for given kind

abbrev pub margins_in : Option Layout → Bool → List ℕ → Margins
margins_in given is_plain file = margins_by given (judged_kind is_plain file)

-- the bytes before the volumes of a file
abbrev pub before_of : Option Layout → Bool → List ℕ → List ℕ
before_of given is_plain file = take (margins_in given is_plain file).before file

-- those of the volumes
abbrev pub body_by : Margins → List ℕ → List ℕ
body_by margins file = take (length file - margins.before - margins.after) (drop margins.before file)

abbrev pub body_of : Option Layout → Bool → List ℕ → List ℕ
body_of given is_plain file = body_by (margins_in given is_plain file) file

-- those after them
abbrev pub after_by : Margins → List ℕ → List ℕ
after_by margins file = drop (length file - margins.before - margins.after) (drop margins.before file)

abbrev pub after_of : Option Layout → Bool → List ℕ → List ℕ
after_of given is_plain file = after_by (margins_in given is_plain file) file
