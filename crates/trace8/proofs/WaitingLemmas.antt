-- Lines that wait for a writer, and steps that end no run, whatever the machine is.
use Rattle.std.proofs.Common.{◌≡◌, inl, inr, ℕ, ◌+◌, true, unwrap_or, Option, Some, None, List, [], ◌++◌, append-nil, append_assoc, refl, ap, sym, subst, ◌∙◌, arith}
use Rattle.std.specs.Io.KnownBytes.{Appends}
use Rattle.cpu8.specs.Laws.{runs_on}
use Rattle.cpu8.specs.declared.outcomes.Stepped.{Stepped}
use Rattle.cpu8.specs.declared.outcomes.Stepped.TheVariants.{Stopped, Interrupted, Ran, Halted, Unassigned}
use Rattle.terminal8.specs.Terminal.{stop_of}
use Rattle.terminal8.specs.declared.outcomes.TerminalEnd.{TerminalEnd}
use Rattle.terminal8.specs.declared.outcomes.TerminalEnd.TheVariants as why
use Rattle.terminal8.proofs.ByteLemmas.{appends_more, appends_none}
use Rattle.trace8.specs.TracingSteps.{AreLinesOf, HandsOn}
use Rattle.trace8.specs.declared.faults.TraceFault.{TraceFault}
use Rattle.trace8.specs.declared.faults.TraceFault.TheVariants.{Memory, Writer}

-- ## Ends

pub none-some : (y : TerminalEnd) → Some y ≡ None → ⊥
none-some y h = cc

pub goes-by : (did : Stepped) → stop_of did ≡ None → runs_on did ≡ true
goes-by Halted h = absurd (none-some why.Halt h)
goes-by (Unassigned word) h = absurd (none-some why.Unassigned h)
goes-by Stopped h = absurd (none-some why.Halt h)
goes-by Interrupted h = refl
goes-by (Ran printed) h = refl

pub why-is : (a b : TerminalEnd) → Some a ≡ Some b → a ≡ b
why-is a b h = ap (λ o. unwrap_or o a) h

pub no-memory : (fault : TraceFault) → fault ≡ Writer → fault ≡ Memory → ⊥
no-memory fault a b = cc

-- ## Lines

pub no-lines : (lines_of : ℕ → List ℕ) (w : Option (List ℕ)) (lines : List ℕ) → lines_of 0 ≡ [] → lines ≡ [] → AreLinesOf lines_of w w lines 0
no-lines lines_of w lines first none = record {
  written = 0;
  first = omega arith;
  handed = subst (λ l. Appends w w l) (sym first) (appends_none w);
  in_order = ap (λ l. lines_of 0 ++ l) none ∙ append-nil (lines_of 0);
}

-- lines were handed on, if they were many
pub handed-lines : (lines_of : ℕ → List ℕ) (w w' w'' : Option (List ℕ)) (lines lines' : List ℕ) (made : ℕ)
    → AreLinesOf lines_of w w' lines made → HandsOn lines lines' w' w'' → AreLinesOf lines_of w w'' lines' made
handed-lines lines_of w w' w'' lines lines' made are (inl kept) = record {
  written = are.written;
  first = are.first;
  handed = subst (λ l. Appends w w'' l) (append-nil (lines_of are.written)) (appends_more w w' w'' (lines_of are.written) [] are.handed kept.1);
  in_order = ap (λ l. lines_of are.written ++ l) kept.0 ∙ are.in_order;
}
handed-lines lines_of w w' w'' lines lines' made are (inr handed) = record {
  written = made;
  first = omega arith;
  handed = subst (λ l. Appends w w'' l) are.in_order (appends_more w w' w'' (lines_of are.written) lines are.handed handed.1);
  in_order = ap (λ l. lines_of made ++ l) handed.0 ∙ append-nil (lines_of made);
}

-- the line of one step more waits
pub more-lines : (lines_of : ℕ → List ℕ) (w w' : Option (List ℕ)) (lines lines' line : List ℕ) (made : ℕ)
    → lines_of (made + 1) ≡ lines_of made ++ line → AreLinesOf lines_of w w' lines made → lines' ≡ lines ++ line → AreLinesOf lines_of w w' lines' (made + 1)
more-lines lines_of w w' lines lines' line made next are is = record {
  written = are.written;
  first = omega (arith, are.first);
  handed = are.handed;
  in_order =
      ap (λ l. lines_of are.written ++ l) is
      ∙ sym (append_assoc (lines_of are.written) lines line)
      ∙ ap (λ l. l ++ line) are.in_order
      ∙ sym next;
}
