-- In which ways an image file may be read, as a note says it (this project's profile).
use Rattle.std.specs.Prelude.{ℕ, codes, decimal, List, ◌++◌}
use Rattle.shown_text.specs.Showing.{shown_text}
use Rattle.image_kind.specs.declared.kinds.Form.{Form}
use Rattle.image_kind.specs.declared.kinds.Form.TheVariants as kind
use Rattle.image_kind.specs.declared.kinds.ImageKind.{ImageKind}

-- a form of a file in words
abbrev pub form_words : Form → List ℕ
form_words kind.Volume = codes "a volume"
form_words kind.Disk = codes "an RK05 disk"
form_words kind.Dectape = codes "a DECtape"

-- one way to read it
abbrev pub kind_words : ImageKind → List ℕ
kind_words it = form_words it.form ++ (codes ", with " ++ (decimal it.before ++ (codes " bytes before its blocks and " ++ (decimal it.after ++ codes " after them"))))

-- the note on a file that may be read in two ways
abbrev pub readings_text : List ℕ → ImageKind → ImageKind → List ℕ
readings_text name one other =
    codes "note: " ++ shown_text name ++ codes " may be " ++ kind_words one ++ codes ", or " ++ kind_words other
    ++ codes ": --volume, --dectape or --plain says which, or a file without those bytes\n"
