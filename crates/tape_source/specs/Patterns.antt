-- Which permanent names are shown for a word of operation 6 or 7 (PAL III Symbolic Assembler manual).
use Rattle.std.specs.Prelude.{ℕ, nat_eq, if◌then◌else◌, bit_and, bit_or, List, [], ◌∷◌, codes}
use Rattle.word12.specs.Octal.{octal_number}

-- bits of a word that decide, what they are where the name is shown, the name, and its value
abbrev pub Pattern : Type 0
Pattern = ℕ × ℕ × List ℕ × ℕ

-- the same in octal
abbrev pub pattern : List ℕ → List ℕ → List ℕ → List ℕ → Pattern
pattern mask bits name value = (octal_number mask, octal_number bits, name, octal_number value)

-- The names that are shown. An instruction of the interrupt, the reader, the punch, the Teletype and the extended memory has
-- a name for its whole word. `CDF` and `CIF` have the number of the field after them, 10 to 70, where it isn't 0. An operate
-- has names for its bits, as few as its group has. One name is for two bits where that makes them fewer, as CIA, STL, GLK, STA
-- and LAS.
unfoldable pub patterns : List Pattern
patterns =
    pattern (codes "7777") (codes "6001") (codes "ION") (codes "6001") ∷
    pattern (codes "7777") (codes "6002") (codes "IOF") (codes "6002") ∷
    pattern (codes "7777") (codes "6011") (codes "RSF") (codes "6011") ∷
    pattern (codes "7777") (codes "6012") (codes "RRB") (codes "6012") ∷
    pattern (codes "7777") (codes "6014") (codes "RFC") (codes "6014") ∷
    pattern (codes "7777") (codes "6021") (codes "PSF") (codes "6021") ∷
    pattern (codes "7777") (codes "6022") (codes "PCF") (codes "6022") ∷
    pattern (codes "7777") (codes "6024") (codes "PPC") (codes "6024") ∷
    pattern (codes "7777") (codes "6026") (codes "PLS") (codes "6026") ∷
    pattern (codes "7777") (codes "6031") (codes "KSF") (codes "6031") ∷
    pattern (codes "7777") (codes "6032") (codes "KCC") (codes "6032") ∷
    pattern (codes "7777") (codes "6034") (codes "KRS") (codes "6034") ∷
    pattern (codes "7777") (codes "6036") (codes "KRB") (codes "6036") ∷
    pattern (codes "7777") (codes "6041") (codes "TSF") (codes "6041") ∷
    pattern (codes "7777") (codes "6042") (codes "TCF") (codes "6042") ∷
    pattern (codes "7777") (codes "6044") (codes "TPC") (codes "6044") ∷
    pattern (codes "7777") (codes "6046") (codes "TLS") (codes "6046") ∷
    pattern (codes "7777") (codes "6214") (codes "RDF") (codes "6214") ∷
    pattern (codes "7777") (codes "6224") (codes "RIF") (codes "6224") ∷
    pattern (codes "7777") (codes "6234") (codes "RIB") (codes "6234") ∷
    pattern (codes "7777") (codes "6244") (codes "RMF") (codes "6244") ∷
    pattern (codes "7705") (codes "6201") (codes "CDF") (codes "6201") ∷
    pattern (codes "7706") (codes "6202") (codes "CIF") (codes "6202") ∷
    pattern (codes "7774") (codes "6210") (codes "010") (codes "0010") ∷
    pattern (codes "7774") (codes "6220") (codes "020") (codes "0020") ∷
    pattern (codes "7774") (codes "6230") (codes "030") (codes "0030") ∷
    pattern (codes "7774") (codes "6240") (codes "040") (codes "0040") ∷
    pattern (codes "7774") (codes "6250") (codes "050") (codes "0050") ∷
    pattern (codes "7774") (codes "6260") (codes "060") (codes "0060") ∷
    pattern (codes "7774") (codes "6270") (codes "070") (codes "0070") ∷
    pattern (codes "7777") (codes "7000") (codes "NOP") (codes "7000") ∷
    pattern (codes "7644") (codes "7200") (codes "CLA") (codes "7200") ∷
    pattern (codes "7645") (codes "7241") (codes "CLA") (codes "7200") ∷
    pattern (codes "7656") (codes "7206") (codes "CLA") (codes "7200") ∷
    pattern (codes "7657") (codes "7247") (codes "CLA") (codes "7200") ∷
    pattern (codes "7645") (codes "7240") (codes "STA") (codes "7240") ∷
    pattern (codes "7657") (codes "7246") (codes "STA") (codes "7240") ∷
    pattern (codes "7520") (codes "7100") (codes "CLL") (codes "7100") ∷
    pattern (codes "7641") (codes "7040") (codes "CMA") (codes "7040") ∷
    pattern (codes "7647") (codes "7244") (codes "CMA") (codes "7040") ∷
    pattern (codes "7657") (codes "7256") (codes "CMA") (codes "7040") ∷
    pattern (codes "7520") (codes "7020") (codes "CML") (codes "7020") ∷
    pattern (codes "7520") (codes "7120") (codes "STL") (codes "7120") ∷
    pattern (codes "7441") (codes "7001") (codes "IAC") (codes "7001") ∷
    pattern (codes "7441") (codes "7041") (codes "CIA") (codes "7041") ∷
    pattern (codes "7412") (codes "7010") (codes "RAR") (codes "7010") ∷
    pattern (codes "7412") (codes "7012") (codes "RTR") (codes "7012") ∷
    pattern (codes "7606") (codes "7004") (codes "RAL") (codes "7004") ∷
    pattern (codes "7616") (codes "7016") (codes "RAL") (codes "7004") ∷
    pattern (codes "7606") (codes "7204") (codes "GLK") (codes "7204") ∷
    pattern (codes "7616") (codes "7216") (codes "GLK") (codes "7204") ∷
    pattern (codes "7416") (codes "7006") (codes "RTL") (codes "7006") ∷
    pattern (codes "7510") (codes "7500") (codes "SMA") (codes "7500") ∷
    pattern (codes "7510") (codes "7510") (codes "SPA") (codes "7510") ∷
    pattern (codes "7450") (codes "7440") (codes "SZA") (codes "7440") ∷
    pattern (codes "7450") (codes "7450") (codes "SNA") (codes "7450") ∷
    pattern (codes "7430") (codes "7420") (codes "SNL") (codes "7420") ∷
    pattern (codes "7430") (codes "7430") (codes "SZL") (codes "7430") ∷
    pattern (codes "7570") (codes "7410") (codes "SKP") (codes "7410") ∷
    pattern (codes "7604") (codes "7600") (codes "CLA") (codes "7200") ∷
    pattern (codes "7604") (codes "7604") (codes "LAS") (codes "7604") ∷
    pattern (codes "7604") (codes "7404") (codes "OSR") (codes "7404") ∷
    pattern (codes "7402") (codes "7402") (codes "HLT") (codes "7402") ∷ []

-- the patterns that a word has
abbrev pub patterns_of : ℕ → List Pattern → List Pattern
patterns_of word [] = []
patterns_of word (p ∷ others) = if nat_eq (bit_and word p.0) p.1 then p ∷ patterns_of word others else patterns_of word others

-- the inclusive or of a number and the values of patterns, one after the other
abbrev pub or_after : ℕ → List Pattern → ℕ
or_after before [] = before
or_after before (p ∷ others) = or_after (bit_or before p.3) others

-- a name, or a number without a zero in front
abbrev pub shown_name : List ℕ → List ℕ
shown_name [] = []
shown_name (first ∷ others) = if nat_eq first 0o60 then others else first ∷ others

-- the names that are shown for patterns
abbrev pub names : List Pattern → List (List ℕ)
names [] = []
names (p ∷ others) = shown_name p.2 ∷ names others
