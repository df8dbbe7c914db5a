-- Names of files that are to be put.
use Rattle.std.proofs.Common.{◌≡◌, ◌∙◌, ◌⊎◌, ◌||◌, ◌++◌, ◌∷◌, ℕ, Bool, true, false, not, nat_eq, Option, None, Some, Result, Ok, Err, List, [], ap, sym, refl, inl, inr}
use Rattle.std.specs.BTreeSet.{BTreeSet}
use Rattle.hosts.specs.Event.{Event}
use Rattle.refusals.specs.declared.faults.SessionFault.TheVariants.{Memory}
use Rattle.outcome.specs.declared.endings.Ending.{Ending}
use Rattle.outcome.specs.declared.endings.Ending.TheVariants.{Fault}
use Rattle.archive_many.specs.declared.putting.NewFile.{NewFile}
use Rattle.program_tasks.specs.declared.forms.PutFilesForm.{PutFilesForm}
use Rattle.image_files.specs.Work.{Then}
use Rattle.put_commands.specs.NameSteps.{KnowsNames, has_key}
use Rattle.put_commands.specs.Putting.{DatesNext, IsNoName, MakesFile, Names, ReadsNext, ReadsWhole, RefusesName, RefusesPath, given_name, has_name}

pub or-assoc : (a b c : Bool) → (a || (b || c)) ≡ ((a || b) || c)
or-assoc true b c = refl
or-assoc false b c = refl

pub or-false : (a : Bool) → (a || false) ≡ a
or-false true = refl
or-false false = refl

name-more : (files : List NewFile) (file : NewFile) (q : ℕ) → has_name q (files ++ file ∷ []) ≡ (has_name q files || nat_eq file.name q)
name-more [] file q = or-false (nat_eq file.name q)
name-more (first ∷ files) file q = ap (λ b. nat_eq first.name q || b) (name-more files file q) ∙ or-assoc (nat_eq first.name q) (has_name q files) (nat_eq file.name q)

-- the set with the name of one more file
pub knows-more : (old new : BTreeSet ℕ) (files : List NewFile) (file : NewFile) → ((q : ℕ) → has_key new q ≡ (has_key old q || nat_eq file.name q)) → KnowsNames old files → KnowsNames new (files ++ file ∷ [])
knows-more old new files file more knows = λ q. more q ∙ ap (λ b. b || nat_eq file.name q) (knows q) ∙ sym (name-more files file q)

-- what is wanted to keep a file that was read is wanted for its step
module _ (form : PutFilesForm) (files : List NewFile) (path : List ℕ) (file : NewFile) (new : List Event)
  where
    abbrev Dated : ℕ → List ℕ → List Event → Result NewFile Ending → List Event → Type 0
    Dated name bytes = Then (DatesNext (given_name form) form.is_dated path) (λ day. MakesFile form.texts path name bytes day)

    abbrev Whole : ℕ → List Event → Result NewFile Ending → List Event → Type 0
    Whole name = Then (ReadsWhole (given_name form) path) (λ bytes. Dated name bytes.items)

    unkept-date : (name : ℕ) (bytes : List ℕ) (old : List Event) → Dated name bytes old (Ok file) new → Dated name bytes old (Err (Fault Memory)) new
    unkept-date name bytes old (inl ends) = absurd ends
    unkept-date name bytes old (inr it) = inr (record { given = it.given; between = it.between; done = it.done; after = (refl, inr it.after.1) })

    unkept-bytes : (name : ℕ) (old : List Event) → Whole name old (Ok file) new → Whole name old (Err (Fault Memory)) new
    unkept-bytes name old (inl ends) = absurd ends
    unkept-bytes name old (inr it) = inr (record { given = it.given; between = it.between; done = it.done; after = unkept-date name it.given.items it.between it.after })

    pub unkept : (old : List Event) → ReadsNext form files path old (Ok file) new → ReadsNext form files path old (Err (Fault Memory)) new
    unkept old (inl ends) = absurd ends
    unkept old (inr it) = inr (record { given = it.given; between = it.between; done = it.done; after = unkept-bytes it.given it.between it.after })

-- a path that spells no name
pub bad-path : (given : Option (List ℕ)) (files : List NewFile) (path : List ℕ) (old : List Event) (ending : Ending) (new : List Event) → Names given path None
    → RefusesPath path old ending new ⊎ ((ending ≡ Fault Memory) × (new ≡ old)) → IsNoName given files path old ending new
bad-path given files path old ending new names (inl refused) = inl (names, refused)
bad-path given files path old ending new names (inr wants) = inr (inr wants)

-- a path whose name another file has
pub same-name : (given : Option (List ℕ)) (names : BTreeSet ℕ) (files : List NewFile) (path : List ℕ) (old : List Event) (ending : Ending) (new : List Event) (name : ℕ) (is_new : Bool) → KnowsNames names files → Names given path (Some name)
    → is_new ≡ not (has_key names name) → is_new ≡ false → RefusesName path old ending new ⊎ ((ending ≡ Fault Memory) × (new ≡ old)) → IsNoName given files path old ending new
same-name given names files path old ending new name is_new knows named is is_old (inl refused) = inr (inl (name, named, sym (knows name) ∙ has-key (has_key names name) (sym is ∙ is_old), refused))
  where
    has-key : (b : Bool) → not b ≡ false → b ≡ true
    has-key true e = refl
    has-key false e = absurd cc
same-name given names files path old ending new name is_new knows named is is_old (inr wants) = inr (inr wants)

-- a path whose name no other file has
pub new-name : (names : BTreeSet ℕ) (files : List NewFile) (name : ℕ) (is_new : Bool) → KnowsNames names files → is_new ≡ not (has_key names name) → is_new ≡ true → has_name name files ≡ false
new-name names files name is_new knows is is_true = sym (knows name) ∙ has-no-key (has_key names name) (sym is ∙ is_true)
  where
    has-no-key : (b : Bool) → not b ≡ true → b ≡ false
    has-no-key false e = refl
    has-no-key true e = absurd cc
