-- Runs of entries.
use Rattle.std.proofs.Common.{ℕ, arith, IsErrOf, OnOk, true≢false, ◌≡◌, ◌≢◌, ◌+◌, refl, sym, ◌∙◌, ap, subst, true, false, List, [], ◌∷◌, ◌++◌, Result, Ok, Err}
use Rattle.script8.specs.declared.entries.Entry.{Entry}
use Rattle.refusals.specs.declared.faults.SessionFault.TheVariants as fault
use Rattle.system_session.specs.Refusals.{MayLack}
use Rattle.system_session.specs.State.{State}
use Rattle.system_session.specs.System.{Answer, MayAnswer, Run}
use Rattle.system_session.specs.SessionSteps.{is_memory}

pub memory_is : (a : Answer) → is_memory a ≡ true → a ≡ Err fault.Memory
memory_is (Ok reply) is = absurd (true≢false (sym is))
memory_is (Err fault.Memory) is = refl
memory_is (Err fault.BadLine) is = absurd (true≢false (sym is))
memory_is (Err fault.NoJob) is = absurd (true≢false (sym is))
memory_is (Err fault.TooManyJobs) is = absurd (true≢false (sym is))
memory_is (Err (fault.File why)) is = absurd (true≢false (sym is))
memory_is (Err (fault.Asm why)) is = absurd (true≢false (sym is))
memory_is (Err (fault.Tape why)) is = absurd (true≢false (sym is))
memory_is (Err fault.BadText) is = absurd (true≢false (sym is))
memory_is (Err fault.Reader) is = absurd (true≢false (sym is))
memory_is (Err fault.Writer) is = absurd (true≢false (sym is))
memory_is (Err fault.TooManyBreaks) is = absurd (true≢false (sym is))

pub no_memory : (a : Answer) → is_memory a ≡ false → a ≢ Err fault.Memory
no_memory a other is = true≢false (sym (ap is_memory is) ∙ other)

-- one more entry of a run
pub run_more : (prefix : List Entry) (answers : List Answer) (old mid new : State) (entry : Entry) (answer : Answer) → Run old prefix answers false mid → MayAnswer mid entry answer new → answer ≢ Err fault.Memory → Run old (prefix ++ entry ∷ []) (answers ++ answer ∷ []) false new
run_more [] [] old mid new entry answer run step other = (new, subst (λ (s : State). MayAnswer s entry answer new) run.1 step, other, (refl, refl))
run_more [] (a ∷ answers) old mid new entry answer run step other = absurd run
run_more (e ∷ prefix) [] old mid new entry answer run step other = absurd (true≢false (sym run.0))
run_more (e ∷ prefix) (a ∷ answers) old mid new entry answer run step other = (run.0, run.1, run.2, run_more prefix answers run.0 mid new entry answer run.3 step other)

-- a run that want of memory ends before an entry
pub run_stopped : (prefix rest : List Entry) (answers : List Answer) (old mid : State) (entry : Entry) → Run old prefix answers false mid → MayLack mid entry → Run old (prefix ++ entry ∷ rest) answers true mid
run_stopped [] rest [] old mid entry run lack = (refl, subst (λ (s : State). MayLack s entry) run.1 lack, run.1)
run_stopped [] rest (a ∷ answers) old mid entry run lack = absurd run
run_stopped (e ∷ prefix) rest [] old mid entry run lack = absurd (true≢false (sym run.0))
run_stopped (e ∷ prefix) rest (a ∷ answers) old mid entry run lack = (run.0, run.1, run.2, run_stopped prefix rest answers run.0 mid entry run.3 lack)

pub not_first : (n : ℕ) → n + 1 ≡ 0 → ⊥
not_first n is = omega (arith, is)

-- an answer that is not want of memory
pub not_err : (a : Answer) → is_memory a ≡ false → IsErrOf a fault.Memory → ⊥
not_err a other is = true≢false (sym (ap is_memory is) ∙ other)

pub on_ok : {A E : Type 0} {P : Type 0} (r : Result A E) → P → OnOk r P
on_ok (Ok x) p = p
on_ok (Err e) p = tt
