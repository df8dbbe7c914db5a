-- The names that have a meaning of their own (PAL8, the assembler of OS/8; the choice of the lists is this project's profile). Those that PAL III
-- has are PAL III's.
use Rattle.std.specs.Prelude.{ℕ, nat_eq, Bool, false, ◌||◌, if◌then◌else◌, Option, Some, None, is_some, List, [], ◌∷◌, codes}
use Rattle.std.specs.Ordering.{nat_cmp}
use Rattle.std.specs.FinMap.{find}
use Rattle.word12.specs.Octal.{octal_number}
use Rattle.word12.specs.Sixbit.{name_number}
use Rattle.pal_lex.specs.Language as pal3
use Rattle.pal_sym.specs.Permanent as pal3_names
use Rattle.pal8_grammar.specs.declared.permanent_names.Standing.{Standing}
use Rattle.pal8_grammar.specs.declared.permanent_names.Standing.TheVariants.{Operation, Firm, Soft}
use Rattle.pal8_grammar.specs.declared.permanent_names.Meaning.{Meaning}

-- those that PAL III lacks, each with its value in octal
abbrev pub soft_names : List (ℕ × ℕ)
soft_names =
    (name_number (codes "IOT"), octal_number (codes "6000")) ∷
    (name_number (codes "OPR"), octal_number (codes "7000")) ∷
    (name_number (codes "BSW"), octal_number (codes "7002")) ∷
    (name_number (codes "CDI"), octal_number (codes "6203")) ∷
    (name_number (codes "MQL"), octal_number (codes "7421")) ∷
    (name_number (codes "MQA"), octal_number (codes "7501")) ∷
    (name_number (codes "SWP"), octal_number (codes "7521")) ∷
    (name_number (codes "ACL"), octal_number (codes "7701")) ∷
    (name_number (codes "SKON"), octal_number (codes "6000")) ∷
    (name_number (codes "SRQ"), octal_number (codes "6003")) ∷
    (name_number (codes "GTF"), octal_number (codes "6004")) ∷
    (name_number (codes "RTF"), octal_number (codes "6005")) ∷
    (name_number (codes "SGT"), octal_number (codes "6006")) ∷
    (name_number (codes "CAF"), octal_number (codes "6007")) ∷
    (name_number (codes "KCF"), octal_number (codes "6030")) ∷
    (name_number (codes "KIE"), octal_number (codes "6035")) ∷
    (name_number (codes "TFL"), octal_number (codes "6040")) ∷
    (name_number (codes "TSK"), octal_number (codes "6045")) ∷
    (name_number (codes "RPE"), octal_number (codes "6010")) ∷
    (name_number (codes "RCC"), octal_number (codes "6016")) ∷
    (name_number (codes "PCE"), octal_number (codes "6020")) ∷
    (name_number (codes "DTRA"), octal_number (codes "6761")) ∷
    (name_number (codes "DTCA"), octal_number (codes "6762")) ∷
    (name_number (codes "DTXA"), octal_number (codes "6764")) ∷
    (name_number (codes "DTLA"), octal_number (codes "6766")) ∷
    (name_number (codes "DTSF"), octal_number (codes "6771")) ∷
    (name_number (codes "DTRB"), octal_number (codes "6772")) ∷
    (name_number (codes "DTLB"), octal_number (codes "6774")) ∷
    (name_number (codes "DCMA"), octal_number (codes "6601")) ∷
    (name_number (codes "DMAR"), octal_number (codes "6603")) ∷
    (name_number (codes "DMAW"), octal_number (codes "6605")) ∷
    (name_number (codes "DCEA"), octal_number (codes "6611")) ∷
    (name_number (codes "DSAC"), octal_number (codes "6612")) ∷
    (name_number (codes "DEAL"), octal_number (codes "6615")) ∷
    (name_number (codes "DEAC"), octal_number (codes "6616")) ∷
    (name_number (codes "DFSE"), octal_number (codes "6621")) ∷
    (name_number (codes "DFSC"), octal_number (codes "6622")) ∷
    (name_number (codes "DMAC"), octal_number (codes "6626")) ∷
    (name_number (codes "DCXA"), octal_number (codes "6641")) ∷
    (name_number (codes "DXAL"), octal_number (codes "6643")) ∷
    (name_number (codes "DXAC"), octal_number (codes "6645")) ∷
    (name_number (codes "DMMT"), octal_number (codes "6646")) ∷ []

-- the reserved names that PAL III lacks; six characters of each count
abbrev pub reserved_names : List ℕ
reserved_names =
    name_number (codes "PAGE") ∷
    name_number (codes "ZBLOCK") ∷
    name_number (codes "TEXT") ∷
    name_number (codes "FILENAME") ∷
    name_number (codes "DEVICE") ∷
    name_number (codes "RELOC") ∷
    name_number (codes "ENPUNCH") ∷
    name_number (codes "NOPUNCH") ∷
    name_number (codes "EJECT") ∷
    name_number (codes "XLIST") ∷
    name_number (codes "IFDEF") ∷
    name_number (codes "IFNDEF") ∷
    name_number (codes "IFZERO") ∷
    name_number (codes "IFNZRO") ∷
    name_number (codes "EXPUNGE") ∷
    name_number (codes "FIXTAB") ∷
    name_number (codes "FIXMRI") ∷ []

abbrev pub is_one_of : List ℕ → ℕ → Bool
is_one_of [] name = false
is_one_of (other ∷ others) name = nat_eq name other || is_one_of others name

-- a name that stands for no value
abbrev pub is_reserved : ℕ → Bool
is_reserved name = pal3.is_reserved name || is_one_of reserved_names name

abbrev pub standing_of : ℕ → Standing
standing_of name = if is_some (pal3.operation_of name) then Operation else Firm

abbrev pub soft_by : Option ℕ → Option Meaning
soft_by None = None
soft_by (Some v) = Some record { value = v; standing = Soft }

abbrev pub permanent_by : Option ℕ → ℕ → Option Meaning
permanent_by None name = soft_by (find nat_cmp name soft_names)
permanent_by (Some v) name = Some record { value = v; standing = standing_of name }

-- the permanent value of a name: PAL III's, or that of a soft name
unfoldable pub permanent : ℕ → Option Meaning
permanent name = permanent_by (pal3_names.permanent name) name
