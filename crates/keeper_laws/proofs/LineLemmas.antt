-- The lines of refusals and of the program are of ASCII.
use Rattle.std.proofs.Common.{◌≡◌, ◌<◌, ◌+◌, ◌/◌, ◌%◌, ◌==◌, ◌&&◌, inl, inr, ℕ, zero, suc, Bool, true, false, if◌then◌else◌, nat_eq, nat_lt, List, [], ◌∷◌, ◌++◌, refl, sym, ap, arith, codes, decimal, true≢false}
use Rattle.std.specs.Str.{IsAscii, IsUtf8}
use Rattle.hosts.specs.Event.{Event, tell_call}
use Rattle.image_files.specs.Ending.{TellsLine}
use Rattle.std.specs.Fmt.{digit_glyph, digits, digits_onto}
use Rattle.std.specs.List.{list_all}
use Rattle.std.proofs.lemmas.Bool.{ltb-true}
use Rattle.std.proofs.lemmas.Str.{IsAscii-append, IsUtf8-from_ascii}
use Rattle.std.proofs.lemmas.Str.Ascii.{IsAscii-nil, IsAscii-cons}
use Rattle.word12.specs.declared.sizes.TheConstants.{FIELD}
use Rattle.word12.specs.Octal.{octal_digit, octal4, octal5}
use Rattle.bin_tape.specs.declared.faults.TapeFault.{TapeFault}
use Rattle.bin_tape.specs.declared.faults.TapeFault.TheVariants as tape
use Rattle.core_image.specs.declared.faults.CoreFault.{CoreFault}
use Rattle.core_image.specs.declared.faults.CoreFault.TheVariants as core
use Rattle.disk_layouts.specs.declared.faults.DiskFault.{DiskFault}
use Rattle.disk_layouts.specs.declared.faults.DiskFault.TheVariants as disk
use Rattle.pal_faults.specs.declared.assembling.Code.{Code}
use Rattle.pal_faults.specs.declared.assembling.Code.TheVariants.{IC, SY, NU, UA, DT, RD, IR, FD, PF, NE, NW}
use Rattle.pal_faults.specs.declared.assembling.AsmFault.{AsmFault}
use Rattle.pal_faults.specs.declared.assembling.AsmFault.TheVariants as asm
use Rattle.pal_faults.specs.declared.names.LineRefusal.{LineRefusal as Unnamed}
use Rattle.pal_faults.specs.declared.names.LineRefusal.TheVariants as unnamed
use Rattle.rim_tape.specs.declared.faults.RimFault.{RimFault}
use Rattle.rim_tape.specs.declared.faults.RimFault.TheVariants as rim
use Rattle.volume_image.specs.declared.faults.ImageFault.{ImageFault}
use Rattle.volume_image.specs.declared.faults.ImageFault.TheVariants as image
use Rattle.os8_dir.specs.declared.faults.DirFault.{DirFault}
use Rattle.os8_dir.specs.declared.faults.DirFault.TheVariants as directory
use Rattle.os8_dir.specs.declared.file_faults.FileFault.{FileFault}
use Rattle.os8_dir.specs.declared.file_faults.FileFault.TheVariants as file
use Rattle.name_spelling.specs.Spelling.{all_zero, is_digit_code, is_letter_code, spelled_code, spelled_codes, text_of, two_codes, with_dot}
use Rattle.program_reports.specs.Program.{core_text, disk_text, drive_text, frame_text, image_text, program_line, program_text, refusal_of_drive, refusal_text, rim_text}
use Rattle.program_reports.specs.declared.drives.DriveRefusal.{DriveRefusal}
use Rattle.program_reports.specs.declared.drives.DriveRefusal.TheVariants as refused
use Rattle.program_reports.specs.declared.programs.ProgramLine.{ProgramLine}
use Rattle.program_reports.specs.declared.programs.ProgramLine.TheVariants as line
use Rattle.refusals.specs.Faults.{asm_fault_text, code_text, directory_fault_text, fault_line, fault_text, file_fault_text, tape_fault_text}
use Rattle.refusals.specs.Shown.{name_text, shown_code, shown_extension, shown_words}
use Rattle.refusals.specs.declared.faults.SessionFault.{SessionFault}
use Rattle.refusals.specs.declared.faults.SessionFault.TheVariants as session

-- ## Texts and numbers

-- each byte is one of ASCII
record IsPlain (text : List ℕ) : Type 0 where
  ascii : IsAscii text

plain-nil : IsPlain []
plain-nil = record { ascii = IsAscii-nil }

plain-cons : (byte : ℕ) (bytes : List ℕ) → byte < 128 → IsPlain bytes → IsPlain (byte ∷ bytes)
plain-cons byte bytes low is = record { ascii = IsAscii-cons byte bytes low is.ascii }

plain-if : (byte : ℕ) (bytes : List ℕ) (is_plain are_plain : Bool) → nat_lt byte 128 ≡ is_plain → list_all (λ byte. nat_lt byte 128) bytes ≡ are_plain
    → (is_plain && are_plain) ≡ true → (list_all (λ byte. nat_lt byte 128) bytes ≡ true → IsPlain bytes) → IsPlain (byte ∷ bytes)
plain-if byte bytes true true is are both others = plain-cons byte bytes (ltb-true byte 128 is) (others are)
plain-if byte bytes true false is are both others = absurd (true≢false (sym both))
plain-if byte bytes false are_plain is are both others = absurd (true≢false (sym both))

-- a text that is spelled out
plain : (text : List ℕ) → list_all (λ byte. nat_lt byte 128) text ≡ true → IsPlain text
plain [] is = plain-nil
plain (byte ∷ bytes) is = plain-if byte bytes (nat_lt byte 128) (list_all (λ byte. nat_lt byte 128) bytes) refl refl is (plain bytes)

glyph-low : (n : ℕ) → digit_glyph false (n % 10) < 128
glyph-low n = grind arith

either : (is_one : Bool) (one other : List ℕ) → IsPlain one → IsPlain other → IsPlain (if is_one then one else other)
either true one other p q = p
either false one other p q = q

digits-plain : (most n : ℕ) (text : List ℕ) → IsPlain text → IsPlain (digits_onto most 10 false n text)
digits-plain zero n text is = is
digits-plain (suc most) n text is =
    either (n / 10 == 0) (digit_glyph false (n % 10) ∷ text) (digits_onto most 10 false (n / 10) (digit_glyph false (n % 10) ∷ text)) (plain-cons (digit_glyph false (n % 10)) text (glyph-low n) is)
    (digits-plain most (n / 10) (digit_glyph false (n % 10) ∷ text) (plain-cons (digit_glyph false (n % 10)) text (glyph-low n) is))

decimal-plain : (n : ℕ) → IsPlain (decimal n)
unfolding digits
decimal-plain n = digits-plain 64 n [] plain-nil

octal4-plain : (word : ℕ) → IsPlain (octal4 word)
octal4-plain word = plain-cons (octal_digit (word / 0o1000)) _ (omega arith) (plain-cons (octal_digit (word / 0o100)) _ (omega arith) (plain-cons (octal_digit (word / 8)) _ (omega arith) (plain-cons (octal_digit word) [] (omega arith) plain-nil)))

octal5-plain : (cell : ℕ) → IsPlain (octal5 cell)
octal5-plain cell = plain-cons (octal_digit (cell / FIELD)) (octal4 (cell % FIELD)) (omega arith) (octal4-plain (cell % FIELD))

frame-plain : (frame : ℕ) → IsPlain (frame_text frame)
frame-plain frame = plain-cons (octal_digit (frame / 0o100)) _ (omega arith) (plain-cons (octal_digit (frame / 8)) _ (omega arith) (plain-cons (octal_digit frame) [] (omega arith) plain-nil))

joined : (one other : List ℕ) → IsPlain one → IsPlain other → IsPlain (one ++ other)
joined one other p q = record { ascii = IsAscii-append one other p.ascii q.ascii }

-- ## Names

code-plain : (code : ℕ) → code < 0o100 → IsPlain (shown_code code)
code-plain zero low = plain-nil
code-plain (suc code) low = plain-cons _ [] (grind (arith, low)) plain-nil

one-word-plain : (word : ℕ) → word < 0o10000 → (rest : List ℕ) → IsPlain rest → IsPlain (shown_code (word / 64) ++ shown_code (word % 64) ++ rest)
one-word-plain word low rest is = joined (shown_code (word / 64) ++ shown_code (word % 64)) rest (joined (shown_code (word / 64)) (shown_code (word % 64)) (code-plain (word / 64) (omega (arith, low))) (code-plain (word % 64) (omega arith))) is

extension-plain : (word : ℕ) → word < 0o10000 → IsPlain (shown_extension word)
extension-plain zero low = plain-nil
extension-plain (suc word) low = plain-cons 0o56 _ (omega arith) (one-word-plain (suc word) low [] plain-nil)

name-plain : (name : ℕ) → name < 0o10000000000000000 → IsPlain (name_text name)
unfolding name_text
name-plain name low = joined (shown_words (name / 0o1000000000000 ∷ name / 0o100000000 % 0o10000 ∷ name / 0o10000 % 0o10000 ∷ [])) (shown_extension (name % 0o10000))
    (one-word-plain (name / 0o1000000000000) (omega (arith, low)) _ (one-word-plain (name / 0o100000000 % 0o10000) (omega arith) _ (one-word-plain (name / 0o10000 % 0o10000) (omega arith) [] plain-nil)))
    (extension-plain (name % 0o10000) (omega arith))

spelled-by : (code : ℕ) (is_letter is_digit : Bool) → is_letter_code code ≡ is_letter → is_digit_code code ≡ is_digit
    → IsPlain (if is_letter then (code + 0o100) ∷ [] else if is_digit then code ∷ [] else 0o137 ∷ octal_digit (code / 8) ∷ octal_digit code ∷ [])
spelled-by code true is_digit is isn't = plain-cons (code + 0o100) [] (grind (arith, is)) plain-nil
spelled-by code false true isn't is = plain-cons code [] (grind (arith, is)) plain-nil
spelled-by code false false isn't is = plain-cons 0o137 _ (omega arith) (plain-cons (octal_digit (code / 8)) _ (omega arith) (plain-cons (octal_digit code) [] (omega arith) plain-nil))

spelled-plain : (code : ℕ) → IsPlain (spelled_code code)
spelled-plain code = spelled-by code (is_letter_code code) (is_digit_code code) refl refl

codes-by : (is_none : Bool) (code : ℕ) (rest : List ℕ) → IsPlain rest → IsPlain (if is_none then [] else spelled_code code ++ rest)
codes-by true code rest is = plain-nil
codes-by false code rest is = joined (spelled_code code) rest (spelled-plain code) is

codes-plain : (all : List ℕ) → IsPlain (spelled_codes all)
codes-plain [] = plain-nil
codes-plain (code ∷ others) = codes-by (all_zero (code ∷ others)) code (spelled_codes others) (codes-plain others)

dot-by : (is_none : Bool) (all : List ℕ) → IsPlain (if is_none then [] else 0o56 ∷ spelled_codes all)
dot-by true all = plain-nil
dot-by false all = plain-cons 0o56 (spelled_codes all) (omega arith) (codes-plain all)

spelling-plain : (name : ℕ) → IsPlain (text_of name)
unfolding text_of
spelling-plain name = joined (spelled_codes (two_codes (name / 0o1000000000000) ++ two_codes (name / 0o100000000 % 0o10000) ++ two_codes (name / 0o10000 % 0o10000))) (with_dot (two_codes (name % 0o10000)))
    (codes-plain (two_codes (name / 0o1000000000000) ++ two_codes (name / 0o100000000 % 0o10000) ++ two_codes (name / 0o10000 % 0o10000))) (dot-by (all_zero (two_codes (name % 0o10000))) (two_codes (name % 0o10000)))

-- ## Refusals

letters-plain : (code : Code) → IsPlain (code_text code)
letters-plain IC = plain _ refl
letters-plain SY = plain _ refl
letters-plain NU = plain _ refl
letters-plain UA = plain _ refl
letters-plain DT = plain _ refl
letters-plain RD = plain _ refl
letters-plain IR = plain _ refl
letters-plain FD = plain _ refl
letters-plain PF = plain _ refl
letters-plain NE = plain _ refl
letters-plain NW = plain _ refl

asm-plain : (fault : AsmFault) → IsPlain (asm_fault_text fault)
asm-plain (asm.At code line) = joined (codes "? 5 " ++ code_text code) (0o40 ∷ decimal line) (joined (codes "? 5 ") (code_text code) (plain _ refl) (letters-plain code)) (plain-cons 0o40 (decimal line) (omega arith) (decimal-plain line))
asm-plain asm.Memory = plain _ refl

tape-plain : (fault : TapeFault) → IsPlain (tape_fault_text fault)
tape-plain (tape.BadFrame at) = joined (codes "? 6.1 BAD FRAME ") (decimal at) (plain _ refl) (decimal-plain at)
tape-plain tape.NoOrigin = plain _ refl
tape-plain (tape.CheckSum found computed) = joined (codes "? 6.3 CHECK SUM " ++ octal4 found ++ codes " ") (octal4 computed)
    (joined (codes "? 6.3 CHECK SUM " ++ octal4 found) (codes " ") (joined (codes "? 6.3 CHECK SUM ") (octal4 found) (plain _ refl) (octal4-plain found)) (plain _ refl)) (octal4-plain computed)
tape-plain tape.NoTrailer = plain _ refl
tape-plain tape.Memory = plain _ refl

file-plain : (fault : FileFault) → ((name : ℕ) → fault ≡ file.Busy name → name < 0o10000000000000000) → IsPlain (file_fault_text fault)
file-plain file.NotFound short = plain _ refl
file-plain (file.NoRoom blocks) short = joined (codes "? 4.2 NO ROOM ") (decimal blocks) (plain _ refl) (decimal-plain blocks)
file-plain file.DirectoryFull short = plain _ refl
file-plain (file.Busy name) short = joined (codes "? 4.4 BUSY ") (name_text name) (plain _ refl) (name-plain name (short name refl))
file-plain file.BadName short = plain _ refl
file-plain file.TooLong short = plain _ refl
file-plain file.TentativeOpen short = plain _ refl
file-plain file.Device short = plain _ refl
file-plain file.Stopped short = plain _ refl
file-plain file.Memory short = plain _ refl
file-plain file.NothingWritten short = plain _ refl

directory-plain : (fault : DirFault) → IsPlain (directory_fault_text fault)
directory-plain (directory.BadLink number) = joined (codes "? DIRECTORY 1 BAD LINK ") (decimal number) (plain _ refl) (decimal-plain number)
directory-plain (directory.BadCount number) = joined (codes "? DIRECTORY 2 BAD COUNT ") (decimal number) (plain _ refl) (decimal-plain number)
directory-plain directory.EntryPastSegment = plain _ refl
directory-plain directory.PastVolume = plain _ refl
directory-plain directory.SameName = plain _ refl
directory-plain directory.WrongFirstBlock = plain _ refl
directory-plain directory.MixedInfo = plain _ refl
directory-plain directory.Device = plain _ refl
directory-plain directory.Memory = plain _ refl

fault-plain : (fault : SessionFault) → ((name : ℕ) → fault ≡ session.File (file.Busy name) → name < 0o10000000000000000) → IsPlain (fault_text fault)
fault-plain session.BadLine short = plain _ refl
fault-plain session.NoJob short = plain _ refl
fault-plain session.TooManyJobs short = plain _ refl
fault-plain (session.File fault) short = file-plain fault (λ name is. short name (ap (λ (f : FileFault). session.File f) is))
fault-plain (session.Asm fault) short = asm-plain fault
fault-plain (session.Tape fault) short = tape-plain fault
fault-plain session.BadText short = plain _ refl
fault-plain session.Reader short = plain _ refl
fault-plain session.Writer short = plain _ refl
fault-plain session.Memory short = plain _ refl
fault-plain session.TooManyBreaks short = plain _ refl

line-end : (text : List ℕ) → IsPlain text → IsUtf8 (text ++ 0o12 ∷ [])
line-end text is = IsUtf8-from_ascii (text ++ 0o12 ∷ []) (joined text (0o12 ∷ []) is (plain _ refl)).ascii

pub fault-text : (fault : SessionFault) → ((name : ℕ) → fault ≡ session.File (file.Busy name) → name < 0o10000000000000000) → IsUtf8 (fault_line fault)
fault-text fault short = line-end (fault_text fault) (fault-plain fault short)

-- ## Lines of the program

image-plain : (fault : ImageFault) → IsPlain (image_text fault)
image-plain image.NotWhole = plain _ refl
image-plain image.TooSmall = plain _ refl
image-plain image.TooLarge = plain _ refl
image-plain (image.BadWord index) = joined (codes "? IMAGE 4 BAD WORD ") (decimal index) (plain _ refl) (decimal-plain index)
image-plain image.Memory = plain _ refl

of-drive-plain : (why : DriveRefusal) → IsPlain (refusal_of_drive why)
of-drive-plain refused.Unread = plain _ refl
of-drive-plain refused.Unwritten = plain _ refl
of-drive-plain refused.Busy = plain _ refl
of-drive-plain (refused.Image fault) = image-plain fault

drive-plain-if : (is : Bool) (drive : ℕ) → IsPlain (if is then [] else codes " RK" ++ octal_digit drive ∷ [])
drive-plain-if true drive = plain-nil
drive-plain-if false drive = joined (codes " RK") (octal_digit drive ∷ []) (plain _ refl) (plain-cons (octal_digit drive) [] (omega arith) plain-nil)

drive-plain : (drive : ℕ) → IsPlain (drive_text drive)
drive-plain drive = drive-plain-if (nat_eq drive 0) drive

rim-plain : (fault : RimFault) → IsPlain (rim_text fault)
rim-plain (rim.BadFrame place frame) = joined (codes "? RIM 1 BAD FRAME " ++ decimal place ++ codes " ") (frame_text frame)
    (joined (codes "? RIM 1 BAD FRAME " ++ decimal place) (codes " ") (joined (codes "? RIM 1 BAD FRAME ") (decimal place) (plain _ refl) (decimal-plain place)) (plain _ refl)) (frame-plain frame)
rim-plain rim.NoTrailer = plain _ refl
rim-plain rim.Memory = plain _ refl

core-plain : (fault : CoreFault) → IsPlain (core_text fault)
core-plain (core.BadWord place word) = joined (codes "? CORE 1 BAD WORD " ++ decimal place ++ codes " ") (octal4 word)
    (joined (codes "? CORE 1 BAD WORD " ++ decimal place) (codes " ") (joined (codes "? CORE 1 BAD WORD ") (decimal place) (plain _ refl) (decimal-plain place)) (plain _ refl)) (octal4-plain word)
core-plain core.TooShort = plain _ refl
core-plain core.Memory = plain _ refl

refusal-plain : (why : Unnamed) → IsPlain (refusal_text why)
refusal-plain unnamed.BadLine = plain _ refl
refusal-plain unnamed.NoName = plain _ refl
refusal-plain unnamed.Permanent = plain _ refl
refusal-plain unnamed.Tag = plain _ refl
refusal-plain unnamed.Twice = plain _ refl
refusal-plain unnamed.NoCell = plain _ refl

disk-plain : (fault : DiskFault) → IsPlain (disk_text fault)
disk-plain disk.TooLong = plain _ refl
disk-plain disk.NoTape = plain _ refl
disk-plain disk.Memory = plain _ refl

-- words, a name, and a number after a blank
named-plain : (head : List ℕ) (name count : ℕ) → IsPlain head → IsPlain (head ++ text_of name ++ codes " " ++ decimal count)
named-plain head name count is = joined (head ++ text_of name ++ codes " ") (decimal count) (joined (head ++ text_of name) (codes " ") (joined head (text_of name) is (spelling-plain name)) (plain _ refl)) (decimal-plain count)

program-plain : (it : ProgramLine) → IsPlain (program_text it)
program-plain (line.Created blocks) = joined (codes "CREATED ") (decimal blocks) (plain _ refl) (decimal-plain blocks)
program-plain line.HostRead = plain _ refl
program-plain line.HostWrite = plain _ refl
program-plain line.HostBusy = plain _ refl
program-plain line.NoWord = plain _ refl
program-plain (line.NoStart cell) = joined (codes "? SOURCE 2 NO WORD AT ") (octal5 cell) (plain _ refl) (octal5-plain cell)
program-plain (line.Reserved cell) = joined (codes "? SOURCE 3 RESERVED NAME AT ") (octal5 cell) (plain _ refl) (octal5-plain cell)
program-plain (line.Names number why) = joined (codes "? NAMES " ++ refusal_text why ++ codes " ") (decimal number)
    (joined (codes "? NAMES " ++ refusal_text why) (codes " ") (joined (codes "? NAMES ") (refusal_text why) (plain _ refl) (refusal-plain why)) (plain _ refl)) (decimal-plain number)
program-plain (line.Renamed old new) = joined (codes "RENAMED " ++ text_of old ++ codes " ") (text_of new)
    (joined (codes "RENAMED " ++ text_of old) (codes " ") (joined (codes "RENAMED ") (text_of old) (plain _ refl) (spelling-plain old)) (plain _ refl)) (spelling-plain new)
program-plain line.Exists = plain _ refl
program-plain line.CopyExists = plain _ refl
program-plain (line.Squeezed moved) = joined (codes "SQUEEZED ") (decimal moved) (plain _ refl) (decimal-plain moved)
program-plain (line.Stored name blocks) = named-plain (codes "STORED ") name blocks (plain _ refl)
program-plain (line.Deleted name) = joined (codes "DELETED ") (text_of name) (plain _ refl) (spelling-plain name)
program-plain (line.Got name blocks) = named-plain (codes "GOT ") name blocks (plain _ refl)
program-plain line.HostExists = plain _ refl
program-plain line.OneFile = plain _ refl
program-plain line.SameName = plain _ refl
program-plain (line.OnlyWords words) = joined (codes "? PUT 2 ONLY " ++ decimal words) (codes " WORDS") (joined (codes "? PUT 2 ONLY ") (decimal words) (plain _ refl) (decimal-plain words)) (plain _ refl)
program-plain (line.OnlyBlocks blocks) = joined (codes "? BLOCKS 1 ONLY ") (decimal blocks) (plain _ refl) (decimal-plain blocks)
program-plain (line.Images count refused) = joined (codes "IMAGES " ++ decimal count ++ codes " REFUSED ") (decimal refused)
    (joined (codes "IMAGES " ++ decimal count) (codes " REFUSED ") (joined (codes "IMAGES ") (decimal count) (plain _ refl) (decimal-plain count)) (plain _ refl)) (decimal-plain refused)
program-plain (line.Disk fault) = disk-plain fault
program-plain line.TwoReadings = plain _ refl
program-plain line.OtherKind = plain _ refl
program-plain line.NothingToRun = plain _ refl
program-plain (line.Start cell) = joined (codes "START ") (octal5 cell) (plain _ refl) (octal5-plain cell)
program-plain (line.Core fault) = core-plain fault
program-plain (line.Rim fault) = rim-plain fault
program-plain (line.Image fault) = image-plain fault
program-plain (line.OfDrive drive why) = joined (refusal_of_drive why) (drive_text drive) (of-drive-plain why) (drive-plain drive)
program-plain (line.Directory fault) = directory-plain fault

pub line-text : (it : ProgramLine) → IsUtf8 (program_line it)
line-text it = line-end (program_text it) (program-plain it)

pub told-line : (it : ProgramLine) (old new : List Event) → TellsLine (program_line it) old new → (ok : Bool) × (new ≡ tell_call ok (program_line it) ∷ old)
told-line it old new (inl (is, ok, told)) = (ok, told)
told-line it old new (inr (isn't, same)) = absurd (isn't (line-text it))
