-- The instructions of the PDP-8: the name, the code and the kind of each (Small Computer Handbook, PAL III Symbolic
-- Assembler manual; the choice of the list is this project's profile).
use Rattle.std.specs.Prelude.{ℕ, List, [], ◌∷◌, codes}
use Rattle.cpu8.specs.State.{State}
use Rattle.cpu8.specs.Reference.{and_row, tad_row, isz_row, dca_row, jms_row, jmp_row}
use Rattle.cpu8.specs.Transfer.{ion_row, iof_row, cdf_row, cif_row, rdf_row, rif_row, rib_row, rmf_row}

-- the bits of an operate: those of group 1, then those of group 2; CLA is a bit of both
pub data Bit : Type 0 where
  Cla : Bit
  Cll : Bit
  Cma : Bit
  Cml : Bit
  Rar : Bit
  Ral : Bit
  Twice : Bit
  Iac : Bit
  Sma : Bit
  Sza : Bit
  Snl : Bit
  Reverse : Bit
  Osr : Bit
  Hlt : Bit

-- the kinds of instructions, with what they do to a machine
pub data Kind : Type 0 where
  -- a reference to memory, whatever its address; the row takes the word
  Reference : (State → ℕ → State) → Kind
  -- an operate that has these bits: of group 1, of group 2, of either group
  Group1 : List Bit → Kind
  Group2 : List Bit → Kind
  EitherGroup : List Bit → Kind
  -- an IOT of the interrupts or of the extended memory
  Transfer : (State → State) → Kind
  -- one with the number of a field; the row takes that
  FieldTransfer : (State → ℕ → State) → Kind
  -- these pulses of the keyboard, and of the printer
  Keyboard : ℕ → Kind
  Printer : ℕ → Kind
  -- an IOT of the paper tape's reader or punch, which the machine does not have
  PaperTape : Kind

pub record Instruction : Type 0 where
  pub name : List ℕ
  pub code : ℕ
  pub kind : Kind

abbrev pub line : List ℕ → ℕ → Kind → Instruction
line name code kind = record { name = name; code = code; kind = kind }

-- The table. AND is 0000, a reference to memory; CIA is 7041, an operate of group 1 with the bits CMA and IAC.
unfoldable pub instructions : List Instruction
instructions =
    line (codes "AND") 0o0000 (Reference and_row) ∷
    line (codes "TAD") 0o1000 (Reference tad_row) ∷
    line (codes "ISZ") 0o2000 (Reference isz_row) ∷
    line (codes "DCA") 0o3000 (Reference dca_row) ∷
    line (codes "JMS") 0o4000 (Reference jms_row) ∷
    line (codes "JMP") 0o5000 (Reference jmp_row) ∷
    line (codes "NOP") 0o7000 (Group1 []) ∷
    line (codes "IAC") 0o7001 (Group1 (Iac ∷ [])) ∷
    line (codes "RAL") 0o7004 (Group1 (Ral ∷ [])) ∷
    line (codes "RTL") 0o7006 (Group1 (Ral ∷ Twice ∷ [])) ∷
    line (codes "RAR") 0o7010 (Group1 (Rar ∷ [])) ∷
    line (codes "RTR") 0o7012 (Group1 (Rar ∷ Twice ∷ [])) ∷
    line (codes "CML") 0o7020 (Group1 (Cml ∷ [])) ∷
    line (codes "CMA") 0o7040 (Group1 (Cma ∷ [])) ∷
    line (codes "CIA") 0o7041 (Group1 (Cma ∷ Iac ∷ [])) ∷
    line (codes "CLL") 0o7100 (Group1 (Cll ∷ [])) ∷
    line (codes "STL") 0o7120 (Group1 (Cll ∷ Cml ∷ [])) ∷
    line (codes "CLA") 0o7200 (EitherGroup (Cla ∷ [])) ∷
    line (codes "GLK") 0o7204 (Group1 (Cla ∷ Ral ∷ [])) ∷
    line (codes "STA") 0o7240 (Group1 (Cla ∷ Cma ∷ [])) ∷
    line (codes "HLT") 0o7402 (Group2 (Hlt ∷ [])) ∷
    line (codes "OSR") 0o7404 (Group2 (Osr ∷ [])) ∷
    line (codes "SKP") 0o7410 (Group2 (Reverse ∷ [])) ∷
    line (codes "SNL") 0o7420 (Group2 (Snl ∷ [])) ∷
    line (codes "SZL") 0o7430 (Group2 (Snl ∷ Reverse ∷ [])) ∷
    line (codes "SZA") 0o7440 (Group2 (Sza ∷ [])) ∷
    line (codes "SNA") 0o7450 (Group2 (Sza ∷ Reverse ∷ [])) ∷
    line (codes "SMA") 0o7500 (Group2 (Sma ∷ [])) ∷
    line (codes "SPA") 0o7510 (Group2 (Sma ∷ Reverse ∷ [])) ∷
    line (codes "LAS") 0o7604 (Group2 (Cla ∷ Osr ∷ [])) ∷
    line (codes "ION") 0o6001 (Transfer ion_row) ∷
    line (codes "IOF") 0o6002 (Transfer iof_row) ∷
    line (codes "RSF") 0o6011 PaperTape ∷
    line (codes "RRB") 0o6012 PaperTape ∷
    line (codes "RFC") 0o6014 PaperTape ∷
    line (codes "PSF") 0o6021 PaperTape ∷
    line (codes "PCF") 0o6022 PaperTape ∷
    line (codes "PPC") 0o6024 PaperTape ∷
    line (codes "PLS") 0o6026 PaperTape ∷
    line (codes "KSF") 0o6031 (Keyboard 1) ∷
    line (codes "KCC") 0o6032 (Keyboard 2) ∷
    line (codes "KRS") 0o6034 (Keyboard 4) ∷
    line (codes "KRB") 0o6036 (Keyboard 6) ∷
    line (codes "TSF") 0o6041 (Printer 1) ∷
    line (codes "TCF") 0o6042 (Printer 2) ∷
    line (codes "TPC") 0o6044 (Printer 4) ∷
    line (codes "TLS") 0o6046 (Printer 6) ∷
    line (codes "CDF") 0o6201 (FieldTransfer cdf_row) ∷
    line (codes "CIF") 0o6202 (FieldTransfer cif_row) ∷
    line (codes "RDF") 0o6214 (Transfer rdf_row) ∷
    line (codes "RIF") 0o6224 (Transfer rif_row) ∷
    line (codes "RIB") 0o6234 (Transfer rib_row) ∷
    line (codes "RMF") 0o6244 (Transfer rmf_row) ∷ []

-- this holds of each line of a table
abbrev pub Each : (Instruction → Type 0) → List Instruction → Type 0
Each Holds [] = Unit {0}
Each Holds (one ∷ others) = Holds one × Each Holds others
