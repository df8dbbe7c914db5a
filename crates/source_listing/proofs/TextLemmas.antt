-- Texts and their faults.
use Rattle.std.proofs.Common.{◌≡◌, ℕ, ◌+◌, ◌≤◌, None, length, take, List, [], ap, ◌∙◌, arith}
use Rattle.std.proofs.lemmas.List.{length-take-le}
use Rattle.std.specs.Borrow.{Bor}
use Rattle.pal_lex.specs.Text.{text_of}
use Rattle.pal_lex.specs.Statements.{statements}
use Rattle.pal_asm.specs.Faults.{first_order}
use Rattle.host_sources.specs.Answers.{IsAssemblyOf}
use Rattle.host_sources.specs.declared.assembling.Assembly.{Assembly}
use Rattle.source_places.proofs.PlaceLemmas.{length_from}
use Rattle.host_sources.proofs.NameLemmas.{first_none}

pub length_taken : (bytes : List ℕ) (n : ℕ) → n ≤ length bytes → length (text_of (take n bytes)) ≡ n
length_taken bytes n inside = length_from (take n bytes) [] ∙ ap (λ k. k + 0) (length-take-le n bytes inside) ∙ omega arith

-- the text of an assembly has no fault that the first pass meets
pub fine_text : (sources : List (Bor (List ℕ))) (assembly : Assembly) → IsAssemblyOf sources assembly → first_order (statements (text_of assembly.join.text.items)) ≡ None
fine_text sources assembly made = ap (λ t. first_order (statements t)) made.text ∙ (first_none _ _ made.pairs.0).0
