-- Which volumes of a file are meant (OS/8's use of the RK05 disk and of the DECtape; that what is given decides is this project's profile).
use Rattle.std.specs.Prelude.{ℕ, Bool, ◌*◌, ◌%◌, ◌&&◌, nat_eq, nat_le, if◌then◌else◌, Option, Some, None, List, length}
use Rattle.word12.specs.declared.sizes.TheConstants.{BLOCK, MOST_BLOCKS}
use Rattle.disk_layouts.specs.declared.layouts.Layout.{Layout}
use Rattle.disk_layouts.specs.declared.layouts.Layout.TheVariants as layout
use Rattle.image_kind.specs.declared.kinds.Form.{Form}
use Rattle.image_kind.specs.declared.kinds.Form.TheVariants as form
use Rattle.image_kind.specs.declared.kinds.ImageKind.{ImageKind}
use Rattle.image_kind.specs.Judging.{judged_kind}
use Rattle.image_kind.specs.declared.volumes.Volumes.{Volumes}
use Rattle.image_kind.specs.declared.volumes.Volumes.TheVariants.{One, Both}

-- those of a file of this form
abbrev pub volumes_of : Form → Volumes
volumes_of form.Volume = One None
volumes_of form.Disk = Both
volumes_of form.Dectape = One (Some layout.Dectape)

-- those of what a file is; what is unknown is one volume
abbrev pub volumes_by : Option ImageKind → Volumes
volumes_by None = One None
volumes_by (Some kind) = volumes_of kind.form

-- the one of the layout that is given, or else those of what the file is
abbrev pub volumes_with : Option Layout → Option ImageKind → Volumes
volumes_with (Some layout) kind = One (Some layout)
volumes_with None kind = volumes_by kind

abbrev pub volumes_in : Option Layout → Bool → List ℕ → Volumes
volumes_in given is_plain file = volumes_with given (judged_kind is_plain file)

-- What a file is taken for where a script runs over it. Whole blocks, at most as many as a volume has, are of no kind and so are one volume
-- (the system machine's images). Other files are what their length and their directories show.
abbrev pub script_kind : Bool → List ℕ → Option ImageKind
script_kind is_plain file = if nat_eq (length file % (2 * BLOCK)) 0 && nat_le (length file) (2 * BLOCK * MOST_BLOCKS) then None else judged_kind is_plain file
