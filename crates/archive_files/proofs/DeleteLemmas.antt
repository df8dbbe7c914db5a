-- Files that are taken out one after the other.
use Rattle.std.proofs.Common.{◌≡◌, ◌<◌, ◌≤◌, ◌∙◌, true≢false, Err, subst, add-zero, add-one, map, drop, drop-cons, get_or, ℕ, suc, ◌+◌, false, Some, None, List, [], ◌∷◌, ◌++◌, append_assoc, length, length-append, refl, sym, ap, arith, inl, inr}
use Rattle.os8_dir.specs.Entries.{contains}
use Rattle.std.specs.FinMap.{get}
use Rattle.os8_files.specs.Mounted.{MountState}
use Rattle.os8_files.specs.Calls.{HasDeleted, IsReady, KeepsBlocks}
use Rattle.os8_files.specs.Laws.{extent_on}
use Rattle.std.proofs.lemmas.Bool.Decides.{eqb_tells}
use Rattle.std.proofs.lemmas.List.{append-nil, drop_all}
use Rattle.os8_dir.specs.Reading.{block}
use Rattle.os8_dir.specs.Files.{files_of}
use Rattle.os8_dir.specs.declared.file_faults.FileFault.{FileFault}
use Rattle.os8_dir.specs.declared.file_faults.FileFault.TheVariants.{NotFound, NoRoom, DirectoryFull, Busy, BadName, TooLong, TentativeOpen, Device, Stopped, Memory, NothingWritten}
use Rattle.archive_files.specs.Asking.{Target, OfName, AtBlock, asked_name, AreAsked, IsMissing}
use Rattle.archive_files.specs.ChangeSteps.{DeletesAll, DeletesOne}
use Rattle.archive_files.specs.Deleting.{AreDeleted, IsRefusedAt, IsRefusedName, without}

-- the files that are wanted of a volume are taken out, and these are their names
abbrev pub DeletesSo : MountState → List Target → List ℕ → MountState → Type 0
DeletesSo old wanted names new = AreAsked old.blocks wanted names × AreDeleted old names new

-- the first that is wanted is refused
pub first-refused : (was : List (List ℕ)) (old : MountState) (one : Target) (others : List Target) (fault : FileFault) → IsRefusedName was old one fault → IsRefusedAt was old (one ∷ others) 0 fault
first-refused was old one others fault refused = record {
  prefix = [];
  one = one;
  following = others;
  wanted_are = refl;
  place_is = refl;
  numbers = [];
  named = tt;
  next = old;
  deleted = refl;
  refused = refused;
}

-- a later one is
pub later-refused : (was : List (List ℕ)) (old next : MountState) (one : Target) (others : List Target) (number place : ℕ) (fault : FileFault) → asked_name was one ≡ Some number
    → HasDeleted old number next → IsRefusedAt was next others place fault → IsRefusedAt was old (one ∷ others) (place + 1) fault
later-refused was old next one others number place fault named deleted is = record {
  prefix = one ∷ is.prefix;
  one = is.one;
  following = is.following;
  wanted_are = ap (λ l. one ∷ l) is.wanted_are;
  place_is = omega (arith, is.place_is);
  numbers = number ∷ is.numbers;
  named = (named, is.named);
  next = is.next;
  deleted = (next, deleted, is.deleted);
  refused = is.refused;
}

-- ## What a call answers

pub none-there : (blocks : List (List ℕ)) (wanted : Target) (was : List (List ℕ)) (number : ℕ) → asked_name was wanted ≡ Some number → get (files_of blocks) number ≡ None → IsMissing was blocks wanted
none-there blocks (OfName text) was number named none = (number, named, none)
none-there blocks (AtBlock place) was number named none = inr (number, named, none)

-- a service is ready again after a file that was taken out
pub ready-again : (old new : MountState) (number : ℕ) → HasDeleted old number new → IsReady new
ready-again old new number is = record {
  running = ap (λ (m : MountState). m.stopped) is.others ∙ is.ready.running;
  none = ap (λ (m : MountState). m.tentative) is.others ∙ is.ready.none;
}

pub free-again : (old new : MountState) (number : ℕ) → HasDeleted old number new → old.holds ≡ [] → new.holds ≡ []
free-again old new number is free = ap (λ (m : MountState). m.holds) is.others ∙ free

at-first : (start old : MountState) (all others : List Target) (one : Target) (names : List ℕ) (fault : FileFault)
    → ((k : ℕ) (fault : FileFault) → IsRefusedAt start.blocks old (one ∷ others) k fault → IsRefusedAt start.blocks start all (length names + k) fault)
    → IsRefusedName start.blocks old one fault → IsRefusedAt start.blocks start all (length names) fault
at-first start old all others one names fault more is =
    subst (λ n. IsRefusedAt start.blocks start all n fault) (add-zero (length names)) (more 0 fault (first-refused start.blocks old one others fault is))

-- one of those that are left is refused
pub one-refused : (start old new : MountState) (all others : List Target) (one : Target) (names : List ℕ) (fault : FileFault)
    → ((k : ℕ) (fault : FileFault) → IsRefusedAt start.blocks old (one ∷ others) k fault → IsRefusedAt start.blocks start all (length names + k) fault)
    → DeletesOne start.blocks old one (Err fault) new → DeletesAll start all (Err fault) names new
one-refused start old new all others one names BadName more is = at-first start old all others one names BadName more is
one-refused start old new all others one names NotFound more is = at-first start old all others one names NotFound more is
one-refused start old new all others one names DirectoryFull more is = at-first start old all others one names DirectoryFull more is
one-refused start old new all others one names Device more is = is
one-refused start old new all others one names Memory more is = tt
one-refused start old new all others one names (NoRoom n) more is = absurd is
one-refused start old new all others one names (Busy other) more is = absurd is
one-refused start old new all others one names TooLong more is = absurd is
one-refused start old new all others one names TentativeOpen more is = absurd is
one-refused start old new all others one names Stopped more is = absurd is
one-refused start old new all others one names NothingWritten more is = absurd is

-- ## The loop

map-drop : {X : Type 0} (f : X → Target) (asked : List X) (k : ℕ) (one : X) → k < length asked → one ≡ get_or asked k one → map f (drop k asked) ≡ f one ∷ map f (drop (k + 1) asked)
map-drop f asked k one inside is = ap (map f) (drop-cons asked k one inside) ∙ ap (λ x. f x ∷ map f (drop (suc k) asked)) (sym is) ∙ ap (λ n. f one ∷ map f (drop n asked)) (sym (add-one k))

pub delete-step : {X : Type 0} (f : X → Target) (asked : List X) (k : ℕ) (one : X) (start old next : MountState) (name : ℕ) (names : List ℕ) → k < length asked → one ≡ get_or asked k one
    → asked_name start.blocks (f one) ≡ Some name → HasDeleted old name next
    → ((new : MountState) (numbers : List ℕ) → AreAsked start.blocks (map f (drop k asked)) numbers → AreDeleted old numbers new → DeletesSo start (map f asked) (names ++ numbers) new)
    → (new : MountState) (numbers : List ℕ) → AreAsked start.blocks (map f (drop (k + 1) asked)) numbers → AreDeleted next numbers new
    → DeletesSo start (map f asked) ((names ++ name ∷ []) ++ numbers) new
delete-step f asked k one start old next name names inside is named deleted before new numbers are rest =
    subst (λ l. DeletesSo start (map f asked) l new) (sym (append_assoc names (name ∷ []) numbers))
    (before new (name ∷ numbers) (subst (λ l. AreAsked start.blocks l (name ∷ numbers)) (sym (map-drop f asked k one inside is)) (named, are)) (next, deleted, rest))

pub refuse-step : {X : Type 0} (f : X → Target) (asked : List X) (k : ℕ) (one : X) (start old next : MountState) (name : ℕ) → k < length asked → one ≡ get_or asked k one
    → asked_name start.blocks (f one) ≡ Some name → HasDeleted old name next
    → ((j : ℕ) (fault : FileFault) → IsRefusedAt start.blocks old (map f (drop k asked)) j fault → IsRefusedAt start.blocks start (map f asked) (k + j) fault)
    → (j : ℕ) (fault : FileFault) → IsRefusedAt start.blocks next (map f (drop (k + 1) asked)) j fault → IsRefusedAt start.blocks start (map f asked) ((k + 1) + j) fault
refuse-step f asked k one start old next name inside is named deleted before j fault refused =
    let sum : k + (j + 1) ≡ (k + 1) + j = omega arith in
    subst (λ n. IsRefusedAt start.blocks start (map f asked) n fault) sum
    (before (j + 1) fault (subst (λ l. IsRefusedAt start.blocks old l (j + 1) fault) (sym (map-drop f asked k one inside is))
    (later-refused start.blocks old next (f one) (map f (drop (k + 1) asked)) name j fault named deleted refused)))

pub refuse-here : {X : Type 0} (f : X → Target) (asked : List X) (k : ℕ) (one : X) (start old new : MountState) (names : List ℕ) (fault : FileFault) → k < length asked → one ≡ get_or asked k one
    → length names ≡ k → ((j : ℕ) (fault : FileFault) → IsRefusedAt start.blocks old (map f (drop k asked)) j fault → IsRefusedAt start.blocks start (map f asked) (k + j) fault)
    → DeletesOne start.blocks old (f one) (Err fault) new → DeletesAll start (map f asked) (Err fault) names new
refuse-here f asked k one start old new names fault inside is same before refused =
    one-refused start old new (map f asked) (map f (drop (k + 1) asked)) (f one) names fault
    (λ j other at. subst (λ n. IsRefusedAt start.blocks start (map f asked) (n + j) other) (sym same)
    (before j other (subst (λ l. IsRefusedAt start.blocks old l j other) (sym (map-drop f asked k one inside is)) at))) refused

pub one-longer : (names more : List ℕ) (name k : ℕ) → more ≡ names ++ name ∷ [] → length names ≡ k → length more ≡ k + 1
one-longer names more name k is count = ap length is ∙ length-append names (name ∷ []) ∙ omega (arith, count)

-- none is left
pub delete-end : {X : Type 0} (f : X → Target) (asked : List X) (k : ℕ) (start old : MountState) (names : List ℕ) → length asked ≤ k
    → ((new : MountState) (numbers : List ℕ) → AreAsked start.blocks (map f (drop k asked)) numbers → AreDeleted old numbers new → DeletesSo start (map f asked) (names ++ numbers) new)
    → DeletesSo start (map f asked) names old
delete-end f asked k start old names all done =
    subst (λ l. DeletesSo start (map f asked) l old) (append-nil names)
    (done old [] (subst (λ l. AreAsked start.blocks (map f l) []) (sym (drop_all k asked all)) tt) refl)

-- ## What is left

pub deleted-files : (names : List ℕ) (old new : MountState) → AreDeleted old names new → files_of new.blocks ≡ without (files_of old.blocks) names
deleted-files [] old new is = ap (λ (m : MountState). files_of m.blocks) is
deleted-files (name ∷ names) old new is = deleted-files names is.0 new is.2 ∙ ap (λ m. without m names) is.1.files

pub deleted-places : (names : List ℕ) (old new : MountState) → AreDeleted old names new → (other : ℕ) → contains names other ≡ false → extent_on new other ≡ extent_on old other
deleted-places [] old new is other none = ap (λ (m : MountState). extent_on m other) is
deleted-places (name ∷ names) old new is other none = elim (eqb_tells name other) [
  | inl here ↦ absurd (true≢false (rw here.0 at none))
  | inr there ↦ deleted-places names is.0 new is.2 other (rw there.0 at none) ∙ is.1.places other there.1
]

pub deleted-blocks : (names : List ℕ) (old new : MountState) → AreDeleted old names new → KeepsBlocks old.blocks new.blocks 0 0
deleted-blocks [] old new is = record {
  count = ap (λ (m : MountState). length m.blocks) is;
  first = ap (λ (m : MountState). block m.blocks 0) is;
  following = λ k high beside. ap (λ (m : MountState). block m.blocks k) is;
}
deleted-blocks (name ∷ names) old new is =
    let rest = deleted-blocks names is.0 new is.2 in
    record {
      count = rest.count ∙ is.1.blocks.count;
      first = rest.first ∙ is.1.blocks.first;
      following = λ k high beside. rest.following k high beside ∙ is.1.blocks.following k high beside;
    }
