-- A change whose steps after its image is opened come to a volume that is stored, or to a refusal.
use Rattle.std.proofs.Common.{◌≡◌, ◌∙◌, ◌⊎◌, ℕ, Bool, true, Result, Ok, Err, List, [], ◌∷◌, ◌++◌, refl, sym, subst, inl, inr}
use Rattle.hosts.specs.Event.{Event, look_call, tell_call}
use Rattle.hosts.specs.Streams.{output, read}
use Rattle.archive_files.specs.declared.faults.ArchiveFault.{ArchiveFault}
use Rattle.outcome.specs.declared.endings.Ending.{Ending}
use Rattle.program_tasks.specs.declared.forms.ImageForm.{ImageForm}
use Rattle.image_files.specs.Answers.{Answers, AreLines, Refuses}
use Rattle.image_files.specs.Laws.{KeepsFiles, LeavesFiles, is_refusal}
use Rattle.image_files.specs.Reading.{Opens}
use Rattle.image_files.specs.Saving.{Stores}
use Rattle.image_files.specs.Work.{Then, Purely}
use Rattle.image_files.specs.declared.images.Image.{Image}
use Rattle.image_files.proofs.KeepLemmas.{opens-keeps, refuses-keeps}
use Rattle.keeper_laws.specs.Changed.{GetsVolume, IsOpened}
use Rattle.keeper_laws.specs.Ended.{DoesNothing, EndsAs}
use Rattle.keeper_laws.proofs.OpenLemmas.{FindsSaved, FindsUnsaved, HasOpened, IsQuiet, StaysQuiet, has-opened, quiet-then, still}
use Rattle.keeper_laws.proofs.RefuseLemmas.{IsRefused, OnlyRefuses, ends-so, opens-refuses, refuses-refused}
use Rattle.keeper_laws.proofs.StoreLemmas.{by-refusal, by-store}

-- ## Refusals

-- a command is refused, which has changed no file and printed nothing on standard output yet
abbrev pub IsRejected : {A : Type 0} → Result A Ending → List Event → List Event → Type 0
IsRejected (Ok it) old new = ⊥
IsRejected (Err ending) old new = (is_refusal ending ≡ true) × DoesNothing old new

-- a step ends its command so, or goes on
abbrev pub Rejects : {A : Type 0} → (List Event → Result A Ending → List Event → Type 0) → Type 0
Rejects step = (old : List Event) (ending : Ending) (new : List Event) → step old (Err ending) new → (is_refusal ending ≡ true) × DoesNothing old new

-- where a step succeeds it has changed no file and printed nothing
abbrev pub GoesOn : {A : Type 0} → (List Event → Result A Ending → List Event → Type 0) → Type 0
GoesOn {A} step = (old : List Event) (it : A) (new : List Event) → step old (Ok it) new → DoesNothing old new

pub nothing : (old new : List Event) → new ≡ old → DoesNothing old new
nothing old new is = subst (λ (n : List Event). DoesNothing old n) (sym is) (λ path. refl, refl)

pub noted : (ok : Bool) (text : List ℕ) (old new : List Event) → new ≡ tell_call ok text ∷ old → DoesNothing old new
noted ok text old new is = subst (λ (n : List Event). DoesNothing old n) (sym is) (λ path. refl, refl)

pub nothing-then : (old mid new : List Event) → DoesNothing old mid → DoesNothing mid new → DoesNothing old new
nothing-then old mid new a b = (λ path. b.0 path ∙ a.0 path, b.1 ∙ a.1)

pub rejected-after : {A : Type 0} (result : Result A Ending) (old mid new : List Event) → DoesNothing old mid → IsRejected result mid new → IsRejected result old new
rejected-after (Ok it) old mid new none rejected = rejected
rejected-after (Err ending) old mid new none rejected = (rejected.0, nothing-then old mid new none rejected.1)

pub rejects-by : {A : Type 0} (step : List Event → Result A Ending → List Event → Type 0) → OnlyRefuses step → KeepsFiles step → Rejects step
rejects-by step refuses keeps old ending new p = ((refuses old ending new p).0, (λ path. keeps old (Err ending) new p path, (refuses old ending new p).1))

pub then-rejects : {A B : Type 0} (first : List Event → Result A Ending → List Event → Type 0) (next : A → List Event → Result B Ending → List Event → Type 0) → Rejects first → GoesOn first
    → ((a : A) → Rejects (next a)) → Rejects (Then first next)
then-rejects first next f on n old ending new (inl ends) = f old ending new ends
then-rejects first next f on n old ending new (inr it) =
    let rejected = n it.given it.between ending new it.after in
    (rejected.0, nothing-then old it.between new (on old it.given it.between it.done) rejected.1)

pub lines-reject : (text : List ℕ) → Rejects (Purely (AreLines text))
lines-reject text old ending new p = (ends-so ending _ p.0 refl, nothing old new p.1)

-- a step that is quiet goes on
pub quiet-on : {A : Type 0} (step : List Event → Result A Ending → List Event → Type 0) → StaysQuiet step → GoesOn step
quiet-on step quiet old it new p = let q = quiet old it new p in (λ path. q.files path, q.prints)

pub refuses-rejected : (fault : ArchiveFault) (size : ℕ) (old : List Event) (ending : Ending) (new : List Event) → Refuses fault size old ending new → (is_refusal ending ≡ true) × DoesNothing old new
refuses-rejected fault size old ending new p = let r = refuses-refused fault size old ending new p in (r.0, (λ path. refuses-keeps path fault size old ending new p, r.1))

pub answers-reject : {A : Type 0} (gives : Result A ArchiveFault → Type 0) (size : ℕ) → Rejects (Answers gives size)
answers-reject gives size old ending new (why, gave, p) = refuses-rejected why size old ending new p

-- a change whose new volume is made, or that is refused before
pub made-or-refused : {M : Type 0} (form : ImageForm) (done : Bool → List Event → List Event → Type 0) (command : List Event → Result (Unit {0}) Ending → List Event → Type 0) → LeavesFiles command
    → (old : List Event) (result : Result (Unit {0}) Ending) (new : List Event) → command old result new → M ⊎ IsRefused result old new → (M → EndsAs form done result old new) → EndsAs form done result old new
made-or-refused form done command leaves old result new p (inl made) f = f made
made-or-refused form done command leaves old (Ok it) new p (inr refused) f = absurd refused
made-or-refused form done command leaves old (Err ending) new p (inr refused) f = by-refusal form done old ending new refused.0 (leaves old ending new p refused.0, refused.1)

-- ## What is to be stored

-- the steps after the image is opened read these calls, and are to store these bytes and to print these lines
pub record Prepared (image : Image) (gives : List Event → List ℕ → List ℕ → Type 0) (old : List Event) (result : Result (Unit {0}) Ending) (new : List Event) : Type 0 where
  pub calls : List Event
  pub bytes : List ℕ
  pub lines : List ℕ
  pub gave : gives calls bytes lines
  pub mid : List Event
  pub quiet : IsQuiet calls old mid
  pub stores : Stores image bytes lines mid result new

abbrev pub Prepares : Image → (List Event → List ℕ → List ℕ → Type 0) → (List Event → Result (Unit {0}) Ending → List Event → Type 0) → Type 0
Prepares image gives step = (old : List Event) (result : Result (Unit {0}) Ending) (new : List Event) → step old result new → Prepared image gives old result new ⊎ IsRejected result old new

quiet-nothing : (calls old new : List Event) → IsQuiet calls old new → DoesNothing old new
quiet-nothing calls old new quiet = (λ path. quiet.files path, quiet.prints)

-- after a step that read these calls
pub prepared-after : (first : List Event) (image : Image) (gives : List Event → List ℕ → List ℕ → Type 0) (old mid : List Event) (result : Result (Unit {0}) Ending) (new : List Event) → IsQuiet first old mid
    → Prepared image (λ calls bytes lines. gives (calls ++ first) bytes lines) mid result new ⊎ IsRejected result mid new → Prepared image gives old result new ⊎ IsRejected result old new
prepared-after first image gives old mid result new quiet (inl p) = inl (record {
  calls = p.calls ++ first;
  bytes = p.bytes;
  lines = p.lines;
  gave = p.gave;
  mid = p.mid;
  quiet = quiet-then first p.calls old mid p.mid quiet p.quiet;
  stores = p.stores;
})
prepared-after first image gives old mid result new quiet (inr rejected) = inr (rejected-after result old mid new (quiet-nothing first old mid quiet) rejected)

module _ {A : Type 0} (image : Image) (gives : List Event → List ℕ → List ℕ → Type 0) (first : List Event → Result A Ending → List Event → Type 0)
    (next : A → List Event → Result (Unit {0}) Ending → List Event → Type 0) (calls_of : A → List Event) (fact : A → Type 0) (rejects : Rejects first)
    (gives_fact : (old : List Event) (it : A) (new : List Event) → first old (Ok it) new → fact it × IsQuiet (calls_of it) old new)
    (prepares : (it : A) → fact it → Prepares image (λ calls bytes lines. gives (calls ++ calls_of it) bytes lines) (next it))
  where
    -- a step that reads these calls, and then others
    pub prepares-then : Prepares image gives (Then first next)
    prepares-then old (Ok it) new (inl ends) = absurd ends
    prepares-then old (Err ending) new (inl ends) = inr (rejects old ending new ends)
    prepares-then old result new (inr it) = go (gives_fact old it.given it.between it.done)
      where
        go : fact it.given × IsQuiet (calls_of it.given) old it.between → Prepared image gives old result new ⊎ IsRejected result old new
        go (is, quiet) = prepared-after (calls_of it.given) image gives old it.between result new quiet (prepares it.given is it.between result new it.after)

-- the last steps: the lines are made, and the volume is stored
pub prepares-store : (image : Image) (gives : List Event → List ℕ → List ℕ → Type 0) (bytes text : List ℕ) → gives [] bytes text
    → Prepares image gives (Then (Purely (AreLines text)) (λ lines. Stores image bytes lines.items))
prepares-store image gives bytes text gave old (Ok it) new (inl ends) = absurd ends
prepares-store image gives bytes text gave old (Err ending) new (inl ends) = inr (lines-reject text old ending new ends)
prepares-store image gives bytes text gave old result new (inr it) = inl (record {
  calls = [];
  bytes = bytes;
  lines = text;
  gave = gave;
  mid = it.between;
  quiet = still old it.between it.done.1;
  stores = subst (λ (x : List ℕ). Stores image bytes x it.between result new) it.done.0 it.after;
})

-- ## The endings

pub opens-reject : (form : ImageForm) → Rejects (Opens form)
opens-reject form = rejects-by (Opens form) (opens-refuses form) (opens-keeps form)

pub rejected-ends : (form : ImageForm) (done : Bool → List Event → List Event → Type 0) (old : List Event) (ending : Ending) (new : List Event) → (is_refusal ending ≡ true) × DoesNothing old new
    → EndsAs form done (Err ending) old new
rejected-ends form done old ending new rejected = by-refusal form done old ending new rejected.0 rejected.1

-- how a change has ended that was prepared so, once its image was opened
pub opened-ends : FindsSaved → FindsUnsaved → (form : ImageForm) (gives : Image → List Event → List ℕ → List ℕ → Type 0) (done : Bool → List Event → List Event → Type 0) (old mid : List Event) (image : Image)
    → HasOpened form old image mid → (result : Result (Unit {0}) Ending) (new : List Event)
    → ((ok : Bool) (image : Image) (path was : List ℕ) → IsOpened form path was image old → (calls : List Event) (bytes lines : List ℕ) → gives image calls bytes lines → GetsVolume form image path was bytes old new
    → read new ≡ calls ++ (look_call path was ∷ read old) → output new ≡ (ok, lines) ∷ output old → done ok old new)
    → Prepared image (gives image) mid result new ⊎ IsRejected result mid new → EndsAs form done result old new
opened-ends saves stays form gives done old mid image o result new f (inl p) =
    by-store saves stays form p.calls image p.bytes p.lines done old result new (record { opened_at = mid; start = o; mid = p.mid; quiet = p.quiet; stores = p.stores })
    (λ ok has reads prints. f ok image o.path o.was o.opened p.calls p.bytes p.lines p.gave has reads prints)
opened-ends saves stays form gives done old mid image o (Ok other) new f (inr rejected) = absurd rejected
opened-ends saves stays form gives done old mid image o (Err ending) new f (inr rejected) = by-refusal form done old ending new rejected.0 (nothing-then old mid new (λ path. o.quiet.files path, o.quiet.prints) rejected.1)

-- how one has ended that was to open its image first
pub prepared-ends : FindsSaved → FindsUnsaved → (form : ImageForm) (rest : Image → List Event → Result (Unit {0}) Ending → List Event → Type 0) (gives : Image → List Event → List ℕ → List ℕ → Type 0)
    (done : Bool → List Event → List Event → Type 0) → ((image : Image) → Prepares image (gives image) (rest image)) → (old : List Event) (result : Result (Unit {0}) Ending) (new : List Event)
    → ((ok : Bool) (image : Image) (path was : List ℕ) → IsOpened form path was image old → (calls : List Event) (bytes lines : List ℕ) → gives image calls bytes lines → GetsVolume form image path was bytes old new
    → read new ≡ calls ++ (look_call path was ∷ read old) → output new ≡ (ok, lines) ∷ output old → done ok old new)
    → Then (Opens form) rest old result new → EndsAs form done result old new
prepared-ends saves stays form rest gives done prepares old (Ok it) new f (inl ends) = absurd ends
prepared-ends saves stays form rest gives done prepares old (Err ending) new f (inl ends) =
    rejected-ends form done old ending new (opens-reject form old ending new ends)
prepared-ends saves stays form rest gives done prepares old result new f (inr it) =
    opened-ends saves stays form gives done old it.between it.given (has-opened form old it.given it.between it.done) result new f (prepares it.given it.between result new it.after)
