-- A fault of the lexer as one of the assembler.
use Rattle.pal_faults.specs.declared.lexical.LexFault.{LexFault}
use Rattle.pal_faults.specs.declared.lexical.LexFault.TheVariants as lex
use Rattle.pal_faults.specs.declared.assembling.Code.TheVariants.{IC, SY, NU, NE}
use Rattle.pal_faults.specs.declared.assembling.AsmFault.{AsmFault}
use Rattle.pal_faults.specs.declared.assembling.AsmFault.TheVariants.{At, Memory}

-- a fault of the lexer among those of the assembler
abbrev pub lexical : LexFault → AsmFault
lexical (lex.IC line) = At IC line
lexical (lex.SY line) = At SY line
lexical (lex.NU line) = At NU line
lexical (lex.NE line) = At NE line
lexical lex.Memory = Memory
