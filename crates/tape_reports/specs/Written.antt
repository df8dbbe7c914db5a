-- The source of a tape, and why it has none.
use Rattle.std.specs.Prelude.{ℕ, Option, None, Some, List, [], ◌∷◌}
use Rattle.tape_source.specs.Sources.{IsFlowFault, IsNamedFault, IsNamedSourceFrom, IsNamedSourceOf, IsSourceFrom, IsSourceOf}
use Rattle.tape_source.specs.declared.faults.ListFault.{ListFault}
use Rattle.tape_source.specs.declared.faults.ListFault.TheVariants as list
use Rattle.refusals.specs.declared.faults.SessionFault.TheVariants.{Tape, Memory}
use Rattle.program_reports.specs.declared.faults.SourceFault.{SourceFault}
use Rattle.pal8_source.specs.declared.faults.Pal8Fault.{Pal8Fault}
use Rattle.pal8_source.specs.declared.faults.Pal8Fault.TheVariants as pal8
use Rattle.program_reports.specs.declared.faults.SourceFault.TheVariants.{NoWord, NoStart, Names, Reserved, Session}

-- why a tape has no source, as a fault of what is written
abbrev pub fault_of_list : ListFault → SourceFault
fault_of_list (list.Tape fault) = Session (Tape fault)
fault_of_list list.NoWord = NoWord
fault_of_list (list.NoStart start) = NoStart start
fault_of_list (list.Names line why) = Names line why
fault_of_list list.Memory = Session Memory

abbrev pub fault_of_pal8 : Pal8Fault → SourceFault
fault_of_pal8 (pal8.List fault) = fault_of_list fault
fault_of_pal8 (pal8.Reserved cell) = Reserved cell

-- a text is the source of frames: with the instructions that a program reaches, where its starts are given, else with all words as such
abbrev pub IsPlainText : List ℕ → List ℕ → List ℕ → Type 0
IsPlainText frames [] text = IsSourceOf frames text
IsPlainText frames (start ∷ starts) text = IsSourceFrom frames (start ∷ starts) text

-- the same with the names that a text gives
abbrev pub IsNamedText : List ℕ → List ℕ → List ℕ → List ℕ → Type 0
IsNamedText frames [] names text = IsNamedSourceOf frames names text
IsNamedText frames (start ∷ starts) names text = IsNamedSourceFrom frames (start ∷ starts) names text

-- with names, if some are given
abbrev pub IsSourceText : List ℕ → List ℕ → Option (List ℕ) → List ℕ → Type 0
IsSourceText frames starts None text = IsPlainText frames starts text
IsSourceText frames starts (Some names) text = IsNamedText frames starts names text

-- why frames have no such source
abbrev pub IsTextFault : List ℕ → List ℕ → Option (List ℕ) → ListFault → Type 0
IsTextFault frames starts None fault = IsFlowFault frames starts fault
IsTextFault frames starts (Some names) fault = IsNamedFault frames starts names fault
