-- Comparisons that are read one after another.
use Rattle.std.proofs.Common.{◌≡◌, ◌∙◌, ◌≤◌, ◌++◌, ℕ, zero, suc, Bool, true, false, List, [], ◌∷◌, length, drop, get_or, Option, Some, None, Result, Ok, Err, ap, sym, refl, subst, arith, codes, if◌then◌else◌}
use Rattle.debug_lines.specs.declared.commands.Command.{Command}
use Rattle.debug_lines.specs.declared.comparisons.Comparison.{Comparison}
use Rattle.debug_lines.specs.declared.faults.LineFault.{LineFault}
use Rattle.debug_lines.specs.declared.faults.Refusal.{Refusal}
use Rattle.debug_lines.specs.declared.parts.Part.{Part}
use Rattle.debug_lines.specs.declared.spots.Spot.{Spot}
use Rattle.debug_lines.specs.Answers.{Reads}
use Rattle.debug_lines.specs.BreakSteps.{joint_end}
use Rattle.debug_lines.specs.Breaks.{with_comparisons, with_number}
use Rattle.debug_lines.specs.CompareSteps.{and_read}
use Rattle.debug_lines.specs.Operands.{comparison_in}
use Rattle.debug_lines.specs.Parts.{part, is_word, if_read}

abbrev pub value_or : List Comparison → Result (List Comparison) Refusal → List Comparison
value_or other (Ok it) = it
value_or other (Err why) = other

abbrev pub place_or : ℕ → Option ℕ → ℕ
place_or other (Some it) = it
place_or other None = other

no_error : (why : Refusal) (it : List Comparison) → Err why ≡ Ok it → ⊥
no_error why it same = cc

pub no_place : (it : ℕ) → None ≡ Some it → ⊥
no_place it same = cc

pub some_place : (it : ℕ) → Some it ≡ None → ⊥
some_place it same = cc

-- what follows a comparison that was read
read_on : (next : List Comparison → Result Command Refusal) (before after : List Comparison) (read : Result Comparison Refusal)
    → and_read before read ≡ Ok after → if_read read (λ it. next (before ++ it ∷ [])) ≡ next after
read_on next before after (Ok it) put = ap (λ condition. next (value_or before condition)) put
read_on next before after (Err why) put = absurd (no_error why after put)

joined_so : (joined : Bool) (own end : ℕ) (next : ℕ → Result Command Refusal) (other : Result Command Refusal)
    → (if joined then Some own else None) ≡ Some end → (if joined then next own else other) ≡ next end
joined_so true own end next other is = ap (λ place. next (place_or 0 place)) is
joined_so false own end next other is = absurd (no_place end is)

ended_so : (joined : Bool) (own : ℕ) (next other : Result Command Refusal)
    → (if joined then Some own else None) ≡ None → (if joined then next else other) ≡ other
ended_so true own next other is = absurd (some_place own is)
ended_so false own next other is = refl

-- after `and` further comparisons are read
pub read_more : (line : List ℕ) (spot : Spot) (before after : List Comparison) (place : ℕ) (rest : List Part) (end : ℕ) → 3 ≤ length rest
    → and_read before (comparison_in line (get_or rest 0 (part 0 0)) (get_or rest 1 (part 0 0)) (get_or rest 2 (part 0 0))) ≡ Ok after
    → joint_end line (drop 3 rest) ≡ Some end
    → with_comparisons line spot before place rest ≡ with_comparisons line spot after end (drop 1 (drop 3 rest))
read_more line spot before after place [] end long put joined = absurd (omega (arith, long))
read_more line spot before after place (a ∷ []) end long put joined = absurd (omega (arith, long))
read_more line spot before after place (a ∷ b ∷ []) end long put joined = absurd (omega (arith, long))
read_more line spot before after place (a ∷ b ∷ c ∷ []) end long put joined = absurd (no_place end joined)
read_more line spot before after place (a ∷ b ∷ c ∷ joint ∷ others) end long put joined =
    read_on (λ condition. if is_word (codes "and") line joint then with_comparisons line spot condition joint.end others
    else with_number line spot condition (joint ∷ others)) before after (comparison_in line a b c) put
    ∙ joined_so (is_word (codes "and") line joint) joint.end end (λ at. with_comparisons line spot after at others)
    (with_number line spot after (joint ∷ others)) joined

-- and else a number or nothing
pub read_last : (line : List ℕ) (spot : Spot) (before after : List Comparison) (place : ℕ) (rest : List Part) → 3 ≤ length rest
    → and_read before (comparison_in line (get_or rest 0 (part 0 0)) (get_or rest 1 (part 0 0)) (get_or rest 2 (part 0 0))) ≡ Ok after
    → joint_end line (drop 3 rest) ≡ None
    → with_comparisons line spot before place rest ≡ with_number line spot after (drop 3 rest)
read_last line spot before after place [] long put joined = absurd (omega (arith, long))
read_last line spot before after place (a ∷ []) long put joined = absurd (omega (arith, long))
read_last line spot before after place (a ∷ b ∷ []) long put joined = absurd (omega (arith, long))
read_last line spot before after place (a ∷ b ∷ c ∷ []) long put joined =
    read_on (λ condition. with_number line spot condition []) before after (comparison_in line a b c) put
read_last line spot before after place (a ∷ b ∷ c ∷ joint ∷ others) long put joined =
    read_on (λ condition. if is_word (codes "and") line joint then with_comparisons line spot condition joint.end others
    else with_number line spot condition (joint ∷ others)) before after (comparison_in line a b c) put
    ∙ ended_so (is_word (codes "and") line joint) joint.end (with_comparisons line spot after joint.end others)
    (with_number line spot after (joint ∷ others)) joined

-- what is read is the same, so the answer to it is
pub reads_same : (meaning other : Result Command Refusal) (result : Result Command LineFault) → meaning ≡ other → Reads other result → Reads meaning result
reads_same meaning other result is reads = subst (λ (it : Result Command Refusal). Reads it result) (sym is) reads
