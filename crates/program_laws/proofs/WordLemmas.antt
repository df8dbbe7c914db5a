-- What words come to that ask for no task.
use Rattle.std.proofs.Common.{◌≡◌, ◌∙◌, ◌⊎◌, ℕ, Bool, true, false, None, Err, List, ap, subst, arith, inl, inr, refl}
use Rattle.clap.specs.Words.{kind_of}
use Rattle.hosts.specs.Event.{Event}
use Rattle.hosts.specs.Streams.{changes_at}
use Rattle.command_refusals.specs.declared.faults.TaskFault.{TaskFault}
use Rattle.command_refusals.specs.declared.faults.TaskFault.TheVariants.{Words, Memory, Refused}
use Rattle.refusals.specs.declared.faults.SessionFault.TheVariants.{Memory as no_memory}
use Rattle.outcome.specs.declared.endings.Ending.TheVariants.{Fault}
use Rattle.image_files.specs.Laws.{ChangesNothing, KeepsFiles}
use Rattle.image_files.specs.Saving.{Prints}
use Rattle.program.specs.Words.{IsMisuse, IsShown, RefusesWords, ShowsText, WantsMemory, is_request}
use Rattle.program_laws.specs.Refused.{asks_help}
use Rattle.program_laws.proofs.QuietLemmas.{ends-so}
use Rattle.program_laws.proofs.StatusLemmas.{zero-done}

-- ## Words

abbrev pub PrintsKeep : Type 0
PrintsKeep = (bytes : List ℕ) → KeepsFiles (Prints bytes)

wants-keep : (old new : List Event) (status : ℕ) → WantsMemory old new status → ChangesNothing old new
wants-keep old new status p = ends-so false None (Err (Fault no_memory)) old new status p

misuse-keeps : (old new : List Event) (status : ℕ) → IsMisuse old new status → ChangesNothing old new
misuse-keeps old new status p path = ap (λ (n : List Event). changes_at path n) p.tells

shown-keeps : PrintsKeep → (old new : List Event) (status : ℕ) → IsShown old new status → ChangesNothing old new
shown-keeps prints old new status p path = ends-so false None p.work p.between new status p.ends path ∙ prints p.text old p.work p.between p.prints path

text-keeps : PrintsKeep → (is : Bool) (old new : List Event) (status : ℕ) → ShowsText is old new status → ChangesNothing old new
text-keeps prints true old new status p = shown-keeps prints old new status p
text-keeps prints false old new status p = misuse-keeps old new status p

pub words-keep : PrintsKeep → (fault : TaskFault) (old new : List Event) (status : ℕ) → RefusesWords fault old new status → ChangesNothing old new
words-keep prints Memory old new status p = wants-keep old new status p
words-keep prints (Words error) old new status (inl p) = wants-keep old new status p
words-keep prints (Words error) old new status (inr p) = text-keeps prints (is_request (kind_of error)) old new status p
words-keep prints (Refused usage refusal) old new status (inl p) = wants-keep old new status p
words-keep prints (Refused usage refusal) old new status (inr p) = misuse-keeps old new status p

wants-some : (old new : List Event) (status : ℕ) → WantsMemory old new status → status ≡ 0 → ⊥
wants-some old new status p zero = zero-done None (Err (Fault no_memory)) old new status p zero

misuse-some : (old new : List Event) (status : ℕ) → IsMisuse old new status → status ≡ 0 → ⊥
misuse-some old new status p zero = omega (arith, p.misuse, zero)

text-asked : (is : Bool) (old new : List Event) (status : ℕ) → ShowsText is old new status → status ≡ 0 → is ≡ true
text-asked true old new status p zero = refl
text-asked false old new status p zero = absurd (misuse-some old new status p zero)

pub words-asked : (fault : TaskFault) (old new : List Event) (status : ℕ) → RefusesWords fault old new status → status ≡ 0 → asks_help fault ≡ true
words-asked Memory old new status p zero = absurd (wants-some old new status p zero)
words-asked (Words error) old new status (inl p) zero = absurd (wants-some old new status p zero)
words-asked (Words error) old new status (inr p) zero = text-asked (is_request (kind_of error)) old new status p zero
words-asked (Refused usage refusal) old new status (inl p) zero = absurd (wants-some old new status p zero)
words-asked (Refused usage refusal) old new status (inr p) zero = absurd (misuse-some old new status p zero)

pub words-refused : (fault : TaskFault) (old new : List Event) (status : ℕ) → RefusesWords fault old new status → asks_help fault ≡ false → IsMisuse old new status ⊎ WantsMemory old new status
words-refused Memory old new status p plain = inr p
words-refused (Words error) old new status (inl p) plain = inr p
words-refused (Words error) old new status (inr p) plain = inl (subst (λ (is : Bool). ShowsText is old new status) plain p)
words-refused (Refused usage refusal) old new status (inl p) plain = inr p
words-refused (Refused usage refusal) old new status (inr p) plain = inl p
