-- What the program does with the words that it was started with (this project's profile).
use Rattle.std.specs.Prelude.{◌≡◌, ◌⊎◌, ℕ, suc, Bool, false, codes, decimal, Some, None, String, Result, Ok, Err, List, [], ◌∷◌, ◌++◌, IsUtf8, length, map}
use Rattle.std.specs.Global.{Global, Vec}
use Rattle.byte_reader.specs.Readings.{Reading}
use Rattle.clap.specs.Words.{Text}
use Rattle.hosts.specs.Event.{Event, Word, failed_call, print_call, tell_call, terminal_call, word_call}
use Rattle.hosts.specs.declared.faults.HostFault.TheVariants as host
use Rattle.volume_index.specs.Quoting.{with_quotes}
use Rattle.refusals.specs.Faults.{fault_line}
use Rattle.refusals.specs.declared.faults.SessionFault.TheVariants.{Memory}
use Rattle.outcome.specs.Notes.{plain_text}
use Rattle.outcome.specs.declared.endings.Ending.{Ending}
use Rattle.outcome.specs.declared.endings.Ending.TheVariants.{Fault, Misuse}
use Rattle.outcome.specs.declared.notes.PlainNote.TheVariants.{NoText}
use Rattle.program.specs.Words.{RunsWords, WantsMemory}
use Rattle.image_files.specs.Work.{Lacks}
use Rattle.image_files.specs.Ending.{EndsSo, TellsLine}

-- ## The words

-- the word at a place of the command line was asked for, and has these bytes
pub record IsAsked (place : ℕ) (word : Text) (old new : List Event) : Type 0 where
  pub bytes : Vec ℕ
  pub is : bytes.items ≡ word
  pub asked : new ≡ word_call place (Some bytes) ∷ old

-- the words from a place on were asked for, one after another
abbrev pub AreAsked : ℕ → List Text → List Event → List Event → Type 0
AreAsked place [] old new = new ≡ old
AreAsked place (word ∷ others) old new = (mid : List Event) × IsAsked place word old mid × AreAsked (suc place) others mid new

-- the line of an argument that is no text: its place, and its bytes
abbrev pub argument_line : ℕ → List ℕ → List ℕ
argument_line place argument =
    codes "note: argument " ++ decimal place ++ codes " is " ++ with_quotes argument
    ++ codes ": a file is opened by a name of UTF-8 text alone" ++ 0o12 ∷ []

-- the place and the bytes of a word are printed on standard error, unless memory is wanted for that
abbrev pub ShowsWord : ℕ → Text → List Event → Ending → List Event → Type 0
ShowsWord place word old ending new = Lacks old ending new ⊎ ((ending ≡ Misuse) × TellsLine (argument_line place word) old new)

-- before that a note says that it is no text
abbrev pub RefusesWord : ℕ → Text → List Event → Ending → List Event → Type 0
RefusesWord place word old ending new = Lacks old ending new ⊎ ((ok : Bool) × ShowsWord place word (tell_call ok (plain_text NoText) ∷ old) ending new)

-- why a word with these bytes is not taken: memory is wanted for it, or it is no text
abbrev pub LosesWord : ℕ → Text → List Event → Ending → List Event → Type 0
LosesWord place word old ending new = Lacks old ending new ⊎ ((IsUtf8 word → ⊥) × RefusesWord place word old ending new)

-- why a program doesn't have the word at a place: memory is wanted for it, or it is not taken
abbrev pub LacksWord : ℕ → List Event → Ending → List Event → Type 0
LacksWord place old ending new =
    ((ending ≡ Fault Memory) × (new ≡ failed_call Word [] host.Memory ∷ old))
    ⊎ ((word : Text) × (between : List Event) × IsAsked place word old between × LosesWord place word between ending new)

-- all words up to the last, the program's own name first; or those up to one that the program doesn't have
abbrev pub GetsWords : List Event → Result (Vec (String Global)) Ending → List Event → Type 0
GetsWords old (Ok words) new = (mid : List Event) × AreAsked 0 (map (λ word. word.bytes.items) words.items) old mid × (new ≡ word_call (length words.items) None ∷ mid)
GetsWords old (Err ending) new = (words : List Text) × (mid : List Event) × AreAsked 0 words old mid × LacksWord (length words) mid ending new

-- ## The program

-- The words of a command line are done as they ask, unless memory is wanted for them first. It is asked whether a person types the input.
abbrev pub RunsGiven : List Text → Reading → List Event → List Event → ℕ → Type 0
RunsGiven words input old new status = WantsMemory old new status ⊎ ((is_typed : Bool) × RunsWords words is_typed input (terminal_call is_typed 0 ∷ old) new status)

-- there is no memory for the last line of a command, and nothing is done
pub record LacksRoom (old new : List Event) (status : ℕ) : Type 0 where
  pub ok : Bool
  pub fault : ℕ
  pub printed : new ≡ print_call ok fault (fault_line Memory) ∷ old
  pub failure : status ≡ 1

-- the words that a program has are done as they ask, and else it ends
abbrev pub RunsGot : Reading → List Event → Result (Vec (String Global)) Ending → List Event → ℕ → Type 0
RunsGot input old (Ok words) new status = RunsGiven (map (λ word. word.bytes.items) words.items) input old new status
RunsGot input old (Err ending) new status = EndsSo false None (Err ending) old new status

-- The words that the host gives are done as they ask. Before anything else memory for the last line is taken.
abbrev pub RunsProgram : Reading → List Event → List Event → ℕ → Type 0
RunsProgram input old new status =
    LacksRoom old new status
    ⊎ ((words : Result (Vec (String Global)) Ending) × (between : List Event) × GetsWords old words between × RunsGot input between words new status)
