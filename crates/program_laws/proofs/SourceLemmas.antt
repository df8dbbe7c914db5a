-- Steps that change no file, and of which standard output gets nothing, before outputs are written.
use Rattle.std.proofs.Common.{ℕ, Bool, true, false, Option, None, Some, String, Result, Ok, Err, List, [], ◌∷◌, ◌++◌, ap, inl, inr, map}
use Rattle.std.specs.Global.{Vec, Global}
use Rattle.hosts.specs.Event.{Event, failed_same}
use Rattle.hosts.specs.Streams.{output, changes_at}
use Rattle.archive_files.specs.Asking.{Target, target_of}
use Rattle.outcome.specs.declared.contents.Content.{Content}
use Rattle.outcome.specs.declared.contents.Content.TheVariants.{Tape, Listing}
use Rattle.outcome.specs.declared.endings.Ending.{Ending}
use Rattle.outcome.specs.declared.reasons.Reason.TheVariants as reason
use Rattle.program_tasks.specs.declared.forms.ImageForm.{ImageForm}
use Rattle.program_tasks.specs.declared.tasks.AssembleForm.{AssembleForm}
use Rattle.image_files.specs.Inputs.{TakesInput}
use Rattle.image_files.specs.Places.{IsApart}
use Rattle.image_files.specs.Reading.{Looks, LooksAt, Opens}
use Rattle.image_files.specs.Reasons.{is_untold}
use Rattle.image_files.specs.Saving.{IsDone}
use Rattle.image_files.specs.Work.{Then, Purely}
use Rattle.image_files.proofs.KeepLemmas.{input-keeps, looks-at-keeps, looks-keeps, opens-keeps}
use Rattle.image_files.proofs.ReasonLemmas.{unless-keeps, unless-output}
use Rattle.assemble_commands.specs.Clashes.{RefusesClash, clash_of}
use Rattle.assemble_commands.specs.Places.{AreApart, IsApartFromInputs, IsApartFromListing, KeepsInputs, KeepsListing, KeepsTape, input_place, output_place, tape_of}
use Rattle.assemble_commands.specs.Sources.{AreTexts, GetsText, IsAsked, IsText, NamesIf, ReadsBytes, ReadsEach, ReadsFile, ReadsIf, ReadsSource, is_standard, is_unread, source_text}
use Rattle.keeper_laws.specs.Ended.{DoesNothing}
use Rattle.keeper_laws.proofs.OpenLemmas.{has-opened}
use Rattle.keeper_laws.proofs.PrepareLemmas.{nothing, noted}
use Rattle.keeper_laws.proofs.RefuseLemmas.{looks-refuses, opens-refuses, reads-refuses}
use Rattle.keeper_laws.proofs.SeenLemmas.{at-refuses, seen-at}
use Rattle.program_laws.proofs.AssembleLemmas.{clash-rejected, text-rejects}
use Rattle.program_laws.proofs.StatusLemmas.{nothing-joined}

-- a step does nothing of that kind, in whichever way it ends
abbrev pub IsVain : {A : Type 0} → (List Event → Result A Ending → List Event → Type 0) → Type 0
IsVain {A} step = (old : List Event) (result : Result A Ending) (new : List Event) → step old result new → DoesNothing old new

pub then-vain : {A B : Type 0} (first : List Event → Result A Ending → List Event → Type 0) (next : A → List Event → Result B Ending → List Event → Type 0) → IsVain first → ((given : A) → IsVain (next given))
    → IsVain (Then first next)
then-vain first next f n old (Ok r) new (inl ends) = absurd ends
then-vain first next f n old (Err e) new (inl ends) = f old (Err e) new ends
then-vain first next f n old result new (inr it) = nothing-joined old it.between new (f old (Ok it.given) it.between it.done) (n it.given it.between result new it.after)

pub purely-vain : {A : Type 0} (gives : Result A Ending → Type 0) → IsVain (Purely gives)
purely-vain gives old result new p = nothing old new p.1

-- ## Images

pub at-vain : (form : ImageForm) → IsVain (LooksAt form)
at-vain form old (Ok found) new p = let s = seen-at form old found new p in (λ path. s.quiet.files path, s.quiet.prints)
at-vain form old (Err ending) new p = (λ path. looks-at-keeps form old (Err ending) new p path, (at-refuses form old ending new p).1)

pub opens-vain : (form : ImageForm) → IsVain (Opens form)
opens-vain form old (Ok image) new p = let o = has-opened form old image new p in (λ path. o.quiet.files path, o.quiet.prints)
opens-vain form old (Err ending) new p = (λ path. opens-keeps form old (Err ending) new p path, (opens-refuses form old ending new p).1)

-- ## Sources

looks-vain : (name : List ℕ) → IsVain (Looks name name)
looks-vain name old (Ok bytes) new p = (λ path. ap (λ (n : List Event). changes_at path n) p.1, ap output p.1)
looks-vain name old (Err ending) new p = (λ path. looks-keeps name name old (Err ending) new p path, (looks-refuses name name old ending new p).1)

input-vain : IsVain TakesInput
input-vain old (Ok bytes) new p = (λ path. ap (λ (n : List Event). changes_at path n) p.1, ap output p.1)
input-vain old (Err ending) new p = (λ path. input-keeps old (Err ending) new p path, (reads-refuses true [] old ending new p).1)

named-vain : (is : Bool) (name : List ℕ) (why : Ending) (old : List Event) (ending : Ending) (new : List Event) → NamesIf is name why old ending new → DoesNothing old new
named-vain false name why old ending new p = nothing old new p.1
named-vain true name why old ending new (inl (is, ok, p)) = noted ok _ old new p
named-vain true name why old ending new (inr p) = nothing old new p.1

file-vain : (name : List ℕ) → IsVain (ReadsFile name)
file-vain name old (Ok bytes) new p = looks-vain name old (Ok bytes) new p
file-vain name old (Err ending) new (why, between, p, q) = nothing-joined old between new (looks-vain name old (Err why) between p) (named-vain (is_unread why) name why between ending new q)

reads-if-vain : (is : Bool) (name : List ℕ) → IsVain (ReadsIf is name)
reads-if-vain true name old result new p = input-vain old result new p
reads-if-vain false name old result new p = file-vain name old result new p

text-vain : (image name : List ℕ) (wanted : Target) → IsVain (GetsText image name wanted)
text-vain image name wanted old (Ok text) new p = nothing old new p.1
text-vain image name wanted old (Err ending) new p = (text-rejects image name wanted old ending new p).1

bytes-vain : (volume : Option (List ℕ)) (name : List ℕ) → IsVain (ReadsBytes volume name)
bytes-vain None name old result new p = reads-if-vain (is_standard name) name old result new p
bytes-vain (Some image) name old result new p =
    then-vain (Purely (IsAsked name)) (λ asked. GetsText image name (target_of asked)) (purely-vain (IsAsked name)) (λ asked. text-vain image name (target_of asked)) old result new p

source-vain : (volume : Option (List ℕ)) (name : List ℕ) → IsVain (ReadsSource volume name)
source-vain volume name = then-vain (ReadsBytes volume name) (λ bytes. Purely (IsText (source_text volume bytes.items))) (bytes-vain volume name) (λ bytes. purely-vain (IsText (source_text volume bytes.items)))

pub each-vain : (volume : Option (List ℕ)) (texts : List (Vec ℕ)) (names : List (List ℕ)) → IsVain (ReadsEach volume texts names)
each-vain volume texts [] = purely-vain (AreTexts texts)
each-vain volume texts (name ∷ names) = then-vain (ReadsSource volume name) (λ text. ReadsEach volume (texts ++ text ∷ []) names) (source-vain volume name) (λ text. each-vain volume (texts ++ text ∷ []) names)

-- ## What is asked of the host before anything is written

apart-vain : (content : Content) (place input : List ℕ) → IsVain (IsApart content place input)
apart-vain content place input old (Ok it) new p = (λ path. ap (λ (n : List Event). changes_at path n) p, ap output p)
apart-vain content place input old (Err ending) new (inl (inl (is, ok, p))) = (λ path. ap (λ (n : List Event). changes_at path n) p, ap output p)
apart-vain content place input old (Err ending) new (inl (inr p)) = (λ path. ap (λ (n : List Event). changes_at path n) p.1, ap output p.1)
apart-vain content place input old (Err ending) new (inr (fault, is, p)) = (
  λ path. unless-keeps (is_untold content fault) (reason.Fault fault) place (failed_same place input fault ∷ old) new p path,
  unless-output (is_untold content fault) (reason.Fault fault) place (failed_same place input fault ∷ old) new p,
)

each-apart : (content : Content) (place : List ℕ) (inputs : List (List ℕ)) → IsVain (AreApart content place inputs)
each-apart content place [] = purely-vain IsDone
each-apart content place (input ∷ inputs) = then-vain (IsApart content place (input_place input)) (λ it. AreApart content place inputs) (apart-vain content place (input_place input)) (λ it. each-apart content place inputs)

inputs-apart : (content : Content) (place : List ℕ) (form : AssembleForm) (from : Option ImageForm) → IsVain (IsApartFromInputs content place form from)
inputs-apart content place form None old result new p = each-apart content place (map (λ name. name.bytes.items) form.sources.items) old result new p
inputs-apart content place form (Some image) old result new p = apart-vain content place image.file.bytes.items old result new p

listing-apart : (form : AssembleForm) (list : Option (String Global)) → IsVain (KeepsListing form list)
listing-apart form None old result new p = nothing old new p.1
listing-apart form (Some name) old result new p = inputs-apart Listing (output_place name.bytes.items) form form.from old result new p

from-listing : (tape : List ℕ) (list : Option (String Global)) → IsVain (IsApartFromListing tape list)
from-listing tape None old result new p = nothing old new p.1
from-listing tape (Some name) old result new p = apart-vain Tape tape (output_place name.bytes.items) old result new p

tape-apart : (form : AssembleForm) (tape : Option (List ℕ)) → IsVain (KeepsTape form tape)
tape-apart form None old result new p = nothing old new p.1
tape-apart form (Some tape) old result new p =
    then-vain (IsApartFromInputs Tape tape form form.from) (λ it. IsApartFromListing tape form.list) (inputs-apart Tape tape form form.from) (λ it. from-listing tape form.list) old result new p

pub inputs-vain : (form : AssembleForm) → IsVain (KeepsInputs form)
inputs-vain form = then-vain (KeepsListing form form.list) (λ it. KeepsTape form (tape_of form.onto form.output)) (listing-apart form form.list) (λ it. tape-apart form (tape_of form.onto form.output))

-- ## Words that clash

pub clash-vain : (form : AssembleForm) → IsVain (RefusesClash form)
clash-vain form old (Ok it) new p = nothing old new p.1
clash-vain form old (Err ending) new p = (clash-rejected (clash_of form) old ending new p).1
