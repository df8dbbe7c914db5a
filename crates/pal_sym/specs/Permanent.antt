-- The permanent names (PAL III Symbolic Assembler manual; the choice of the list is this project's profile).
use Rattle.std.specs.Prelude.{ℕ, Option, List, [], ◌∷◌, codes}
use Rattle.word12.specs.Octal.{octal_number}
use Rattle.pal_sym.specs.Names.{name_number}
use Rattle.std.specs.Ordering.{nat_cmp}
use Rattle.std.specs.FinMap.{find}

-- each with its value in octal
abbrev pub permanent_names : List (ℕ × ℕ)
permanent_names =
    (name_number (codes "AND"), octal_number (codes "0000")) ∷
    (name_number (codes "TAD"), octal_number (codes "1000")) ∷
    (name_number (codes "ISZ"), octal_number (codes "2000")) ∷
    (name_number (codes "DCA"), octal_number (codes "3000")) ∷
    (name_number (codes "JMS"), octal_number (codes "4000")) ∷
    (name_number (codes "JMP"), octal_number (codes "5000")) ∷
    (name_number (codes "NOP"), octal_number (codes "7000")) ∷
    (name_number (codes "IAC"), octal_number (codes "7001")) ∷
    (name_number (codes "RAL"), octal_number (codes "7004")) ∷
    (name_number (codes "RTL"), octal_number (codes "7006")) ∷
    (name_number (codes "RAR"), octal_number (codes "7010")) ∷
    (name_number (codes "RTR"), octal_number (codes "7012")) ∷
    (name_number (codes "CML"), octal_number (codes "7020")) ∷
    (name_number (codes "CMA"), octal_number (codes "7040")) ∷
    (name_number (codes "CIA"), octal_number (codes "7041")) ∷
    (name_number (codes "CLL"), octal_number (codes "7100")) ∷
    (name_number (codes "STL"), octal_number (codes "7120")) ∷
    (name_number (codes "CLA"), octal_number (codes "7200")) ∷
    (name_number (codes "GLK"), octal_number (codes "7204")) ∷
    (name_number (codes "STA"), octal_number (codes "7240")) ∷
    (name_number (codes "HLT"), octal_number (codes "7402")) ∷
    (name_number (codes "OSR"), octal_number (codes "7404")) ∷
    (name_number (codes "SKP"), octal_number (codes "7410")) ∷
    (name_number (codes "SNL"), octal_number (codes "7420")) ∷
    (name_number (codes "SZL"), octal_number (codes "7430")) ∷
    (name_number (codes "SZA"), octal_number (codes "7440")) ∷
    (name_number (codes "SNA"), octal_number (codes "7450")) ∷
    (name_number (codes "SMA"), octal_number (codes "7500")) ∷
    (name_number (codes "SPA"), octal_number (codes "7510")) ∷
    (name_number (codes "LAS"), octal_number (codes "7604")) ∷
    (name_number (codes "ION"), octal_number (codes "6001")) ∷
    (name_number (codes "IOF"), octal_number (codes "6002")) ∷
    (name_number (codes "RSF"), octal_number (codes "6011")) ∷
    (name_number (codes "RRB"), octal_number (codes "6012")) ∷
    (name_number (codes "RFC"), octal_number (codes "6014")) ∷
    (name_number (codes "PSF"), octal_number (codes "6021")) ∷
    (name_number (codes "PCF"), octal_number (codes "6022")) ∷
    (name_number (codes "PPC"), octal_number (codes "6024")) ∷
    (name_number (codes "PLS"), octal_number (codes "6026")) ∷
    (name_number (codes "KSF"), octal_number (codes "6031")) ∷
    (name_number (codes "KCC"), octal_number (codes "6032")) ∷
    (name_number (codes "KRS"), octal_number (codes "6034")) ∷
    (name_number (codes "KRB"), octal_number (codes "6036")) ∷
    (name_number (codes "TSF"), octal_number (codes "6041")) ∷
    (name_number (codes "TCF"), octal_number (codes "6042")) ∷
    (name_number (codes "TPC"), octal_number (codes "6044")) ∷
    (name_number (codes "TLS"), octal_number (codes "6046")) ∷
    (name_number (codes "CDF"), octal_number (codes "6201")) ∷
    (name_number (codes "CIF"), octal_number (codes "6202")) ∷
    (name_number (codes "RDF"), octal_number (codes "6214")) ∷
    (name_number (codes "RIF"), octal_number (codes "6224")) ∷
    (name_number (codes "RIB"), octal_number (codes "6234")) ∷
    (name_number (codes "RMF"), octal_number (codes "6244")) ∷ []

-- the permanent value of a name
unfoldable pub permanent : ℕ → Option ℕ
permanent name = find nat_cmp name permanent_names
