-- The notes that the program prints on standard error beside its lines (this project's profile).
use Rattle.std.specs.Prelude.{ℕ, codes, decimal, Option, Some, None, List, [], ◌++◌}
use Rattle.shown_text.specs.Showing.{shown_text}
use Rattle.outcome.specs.Contents.{content_name}
use Rattle.outcome.specs.Readings.{readings_text}
use Rattle.outcome.specs.Reasons.{reason_text}
use Rattle.outcome.specs.declared.contents.Content.{Content}
use Rattle.outcome.specs.declared.notes.Note.{Note}
use Rattle.outcome.specs.declared.notes.Note.TheVariants as note
use Rattle.outcome.specs.declared.notes.PlainNote.{PlainNote}
use Rattle.outcome.specs.declared.notes.PlainNote.TheVariants as plain
use Rattle.outcome.specs.declared.notes.FileNote.{FileNote}
use Rattle.outcome.specs.declared.notes.FileNote.TheVariants as file
use Rattle.outcome.specs.declared.notes.NameNote.{NameNote}
use Rattle.outcome.specs.declared.notes.NameNote.TheVariants as named

-- notes that are always the same
abbrev pub plain_text : PlainNote → List ℕ
plain_text plain.NoText = codes "error: an argument is not UTF-8 text\n"
plain_text plain.Dectape = codes "note: 380292 bytes are a DECtape with 129 words a block: --dectape takes it so\n"
plain_text plain.Disk = codes "note: the file may be an RK05 disk of two volumes: --volume 1 or --volume 2 takes one of them\n"
plain_text plain.ShortDisk = codes "note: the file ends before the blocks that its directory covers: if the end of an RK05 disk was never written, --volume 1 takes it as zeros\n"
plain_text plain.RimTape = codes "note: the frames are a RIM tape: addresses and words in turn, and no check sum; rim takes it, and rim --bin makes a BIN tape of it\n"
plain_text plain.TextFile = codes "note: the frames are a text, and no BIN tape; assemble makes the tape of a PAL III source\n"
plain_text plain.CoreImage = codes "note: the frames are a core image, and no BIN tape; get IMAGE NAME --bin makes a BIN tape of one on a volume\n"
plain_text plain.StartAt200 = codes "note: no --start is given, and 00200 has a word: the program starts there\n"
plain_text plain.StartAtFirst = codes "note: no --start is given, and 00200 has no word: the program starts at the first word of the tape\n"
plain_text plain.StartAtNoWord = codes "note: the tape gives no word to the cell where the program starts\n"
plain_text plain.FileNames = codes "note: a file's name is 1 to 6 letters, digits or escapes (_ and two octal digits), then nothing, or a dot and 1 or 2 more\n"
plain_text plain.FurtherFaults = codes "note: these words have a fault too:\n"
plain_text plain.MadeVolume = codes "note: with this change the file would be read as a volume: --dectape makes it all the same in a DECtape without more bytes\n"
plain_text plain.MadeDisk = codes "note: with this change the file would be read as an RK05 disk: --plain makes it in a volume all the same\n"
plain_text plain.MadeDectape = codes "note: with this change the file would be read as a DECtape: --plain makes it in a volume all the same\n"

-- notes on a file of the host, by the word for what it is to hold
abbrev pub file_text : FileNote → List ℕ → List ℕ
file_text file.Busy content = codes "error: another program works on the " ++ content ++ codes "\n"
file_text file.AsItWas content = codes "error: the " ++ content ++ codes " is not written: the file is as it was\n"
file_text file.InPart content = codes "error: the " ++ content ++ codes " is not written whole: the file may hold a part of it\n"
file_text file.NoLock content = codes "note: the file system has no locks, so let no other program work on the " ++ content ++ codes "\n"
file_text file.InPlace content = codes "note: the " ++ content ++ codes " is written in its place, and is not whole if that breaks off\n"
file_text file.NoSync content = codes "note: the " ++ content ++ codes " is written, but its folder is not synced: whether a crash keeps it isn't known\n"

-- what stands before the name in a note on what has one
abbrev pub head_of : NameNote → List ℕ
head_of named.TooLong = codes "note: "
head_of named.NotPut = codes "note: "
head_of named.NotDeleted = codes "note: "
head_of named.NotCopied = codes "note: "
head_of named.Empty = codes "note: "
head_of named.PutAsFrames = codes "note: "
head_of named.GotAsFrames = codes "note: "
head_of named.Replaces = codes "note: "
head_of named.Refuses = codes "note: "
head_of named.HasChange = codes "note: "
head_of named.AsItWas = codes "note: "
head_of named.NoSource = codes "error: the source "
head_of named.TopBits = codes "note: "
head_of named.OverSource = codes "error: "
head_of named.OnePlace = codes "error: the tape and the listing can't both be written to "
head_of named.OneFile = codes "note: "
head_of named.BadExtensions = codes "error: invalid value '"
head_of named.Pal8 = codes "note: "
head_of named.Hint = codes "note: "

-- what stands after it, with the end of the line
abbrev pub tail_of : NameNote → List ℕ
tail_of named.TooLong = codes ": larger than 16777216 bytes\n"
tail_of named.NotPut = codes " is refused, and no file is put\n"
tail_of named.NotDeleted = codes " is refused, and no file is taken out\n"
tail_of named.NotCopied = codes " is refused, and no file is copied\n"
tail_of named.Empty = codes " is empty, and the volume has a file of its name: --empty puts it all the same\n"
tail_of named.PutAsFrames = codes " is put as frames: its extension is none of a text's\n"
tail_of named.GotAsFrames = codes " is got as frames: its extension is none of a text's\n"
tail_of named.Replaces = codes " is there, and is not empty: y replaces it, and anything else leaves it\n"
tail_of named.Refuses = codes " is the image that refuses\n"
tail_of named.HasChange = codes " has the change\n"
tail_of named.AsItWas = codes " is as it was\n"
tail_of named.NoSource = codes " can't be read\n"
tail_of named.TopBits = codes " has the frames of a text, each with its top bit: get IMAGE NAME --text writes the text\n"
tail_of named.OverSource = codes " is a source, and would be written over\n"
tail_of named.OnePlace = codes "\n"
tail_of named.OneFile = codes " are one file\n"
tail_of named.BadExtensions = codes "' for '--text-of <LIST>': no extensions of 1 or 2 capital letters or digits with commas between\n"
tail_of named.Pal8 = codes " is PAL8, the language of OS/8's assembler: assemble --pal8 takes a source of that\n"
tail_of named.Hint = codes "\n"

-- notes on what has a name, which is shown with escapes where it isn't graphic
abbrev pub name_text : NameNote → List ℕ → List ℕ
name_text it name = head_of it ++ shown_text name ++ tail_of it

-- where a text has a byte that may not stand in one
abbrev pub bad_text : ℕ → ℕ → List ℕ
bad_text line byte = codes "note: line " ++ decimal line ++ codes ", byte " ++ decimal byte ++ codes ": a text has no byte above 0177, and no control Z\n"

-- the file at a block is refused
abbrev pub block_text : ℕ → List ℕ
block_text block = codes "note: --at " ++ decimal block ++ codes " is refused, and no file is taken out\n"

-- so many bytes of a file before the blocks of its volumes, and after them
abbrev pub margins_text : List ℕ → ℕ → ℕ → List ℕ
margins_text name before after =
    codes "note: " ++ shown_text name ++ codes " has " ++ decimal before ++ codes " bytes before its blocks and " ++ decimal after ++ codes " after them, which are left alone\n"

-- so many files beside that of a name were taken away
abbrev pub leftovers_text : List ℕ → ℕ → List ℕ
leftovers_text name count = codes "note: files that ended writers left beside " ++ shown_text name ++ codes " are removed: " ++ decimal count ++ codes " in all\n"

-- a note, with the end of its line
abbrev pub note_text : Note → List ℕ
note_text (note.Plain it) = plain_text it
note_text (note.OnFile it content) = file_text it (content_name content)
note_text (note.OnName it name) = name_text it name.now
note_text (note.OnBlock block) = block_text block
note_text (note.OnText place) = bad_text place.line place.byte
note_text (note.OnMargins name before after) = margins_text name.now before after
note_text (note.OnReason why name) = reason_text why name.now
note_text (note.OnLeftovers name count) = leftovers_text name.now count
note_text (note.OnReadings name one other) = readings_text name.now one other

-- that of a note on a file of the host, if there is one
abbrev pub text_on_file : Option (FileNote × Content) → List ℕ
text_on_file None = []
text_on_file (Some it) = file_text it.0 (content_name it.1)
