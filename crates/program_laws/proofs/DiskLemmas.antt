-- When disks and papers are saved.
use Rattle.std.proofs.Common.{◌≡◌, ◌≢◌, ◌∙◌, ◌&&◌, ◌-◌, ℕ, Bool, true, false, true≢false, not, nat_eq, nat_le, nat_lt, Option, None, Some, String, Result, Ok, Err, List, refl, sym, subst, ap, inl, inr, eq-eqb}
use Rattle.std.proofs.lemmas.Bool.{and_parts, leb-true, ltb-true, not-true}
use Rattle.std.specs.Global.{Global}
use Rattle.hosts.specs.Event.{Event}
use Rattle.hosts.specs.Streams.{changes_at}
use Rattle.outcome.specs.declared.endings.Ending.{Ending}
use Rattle.program_tasks.specs.declared.boots.ConsoleForm.{ConsoleForm}
use Rattle.image_files.specs.Laws.{ChangesNothing}
use Rattle.drive_files.specs.Consoles.{bytes_on_paper, is_at_wait, is_waiting}
use Rattle.drive_files.specs.Rounds.{AsksAfter, AsksForEnd, DoesAfter, DoesBetween, FilesIfGrown, SavedPlaces, SavesIfDue, is_due, is_grown, last_after}
use Rattle.drive_files.specs.declared.rounds.Unsaved.{Unsaved}
use Rattle.drive_files.specs.declared.rounds.Unsaved.TheVariants.{Disk, Paper}
use Rattle.drive_files.specs.Devices.{SavesPapers}
use Rattle.drive_files.specs.Saving.{SavesDrives}
use Rattle.drive_files.specs.declared.consoles.Console.{Console}
use Rattle.drive_files.specs.declared.mounting.Places.{Places}
use Rattle.run_commands.specs.Runs8e.{SavesRest}
use Rattle.program_laws.specs.Disks.{FilesAtEnd, FilesBetween, IsDue, IsGrown, NoDiskFailed, NoPaperFailed, SavesAtEnd, SavesBetween, SavesFirst}

apart : (a b : ℕ) → not (nat_eq a b) ≡ true → a ≢ b
apart a b is same = true≢false (sym (eq-eqb a b same) ∙ not-true (nat_eq a b) is)

pub due : (form : ConsoleForm) (steps : ℕ) (s : Console) (kept : SavedPlaces) → is_due form steps s kept.1 ≡ true → IsDue form steps s kept
due form steps s kept is =
    let three = and_parts (nat_lt 0 form.every && nat_le form.every (steps - kept.1.steps) && not (nat_eq s.transfers kept.1.transfers)) (is_at_wait s) is in
    let two = and_parts (nat_lt 0 form.every && nat_le form.every (steps - kept.1.steps)) (not (nat_eq s.transfers kept.1.transfers)) three.0 in
    let one = and_parts (nat_lt 0 form.every) (nat_le form.every (steps - kept.1.steps)) two.0 in
    record { asked = ltb-true 0 form.every one.0; since = leb-true form.every (steps - kept.1.steps) one.1; changed = apart s.transfers kept.1.transfers two.1; waits = three.1 }

pub grown : (s : Console) (kept : SavedPlaces) → is_grown s kept.1 ≡ true → IsGrown s kept
grown s kept is =
    let two = and_parts (not (nat_eq (bytes_on_paper s) kept.1.bytes)) (is_waiting s) is in
    record { grown = apart (bytes_on_paper s) kept.1.bytes two.0; waits = two.1 }

after-then : (name : Option (String Global)) (s : Console) (saved : Result (Unit {0}) Ending) (kept after : SavedPlaces) (old : List Event) (result : Result Bool Unsaved) (new : List Event)
    → DoesAfter name s saved kept after old result new → after.0 ≡ kept.0
after-then name s (Ok it) kept after old result new (filed, last, between, files, is, asks) = ap (λ (k : SavedPlaces). k.0) is
after-then name s (Err ending) kept after old (Ok is_asked) new p = absurd p
after-then name s (Err ending) kept after old (Err why) new (is, same, p) = ap (λ (k : SavedPlaces). k.0) same

pub saved-then : (form : ConsoleForm) (steps : ℕ) (s : Console) (kept after : SavedPlaces) (old : List Event) (result : Result Bool Unsaved) (new : List Event) → DoesBetween form steps s kept after old result new
    → is_due form steps s kept.1 ≡ true → SavesBetween form s kept after old result new
saved-then form steps s kept after old result new (saved, mid, between, inl (idle, same, p), next) is = absurd (true≢false (sym is ∙ idle))
saved-then form steps s kept after old result new (saved, mid, between, inr there, next) is =
    (saved, mid, between, subst (λ (p : Places). SavesDrives s.machine.disk kept.0 p old saved between) (sym (after-then form.ends_with s saved mid after between result new next)) there.saves, next)

asks-keep : (name : Option (String Global)) (old : List Event) (is_asked : Bool) (new : List Event) → AsksForEnd name old is_asked new → ChangesNothing old new
asks-keep None old is_asked new p path = ap (λ (n : List Event). changes_at path n) p.1
asks-keep (Some name) old is_asked new p path = ap (λ (n : List Event). changes_at path n) p

asks-after-keep : (name : Option (String Global)) (filed : Result (Unit {0}) Ending) (old : List Event) (result : Result Bool Unsaved) (new : List Event) → AsksAfter name filed old result new → ChangesNothing old new
asks-after-keep name (Ok it) old (Ok is_asked) new p path = asks-keep name old is_asked new p path
asks-after-keep name (Ok it) old (Err why) new p path = absurd p
asks-after-keep name (Err ending) old (Ok is_asked) new p path = absurd p
asks-after-keep name (Err ending) old (Err why) new p path = ap (λ (n : List Event). changes_at path n) p.1

files-then : (name : Option (String Global)) (s : Console) (places : Places) (last last' : _) (filed : Result (Unit {0}) Ending) (old between : List Event) (result : Result Bool Unsaved) (new : List Event)
    → is_grown s last ≡ false → FilesIfGrown s places last last' old filed between → AsksAfter name filed between result new → ChangesNothing old new
files-then name s places last last' filed old between result new idle (inl (still, is, p)) asks path =
    asks-after-keep name filed between result new asks path ∙ ap (λ (n : List Event). changes_at path n) p.1
files-then name s places last last' filed old between result new idle (inr there) asks path = absurd (true≢false (sym there.grown ∙ idle))

pub idle-then : (form : ConsoleForm) (steps : ℕ) (s : Console) (kept after : SavedPlaces) (old : List Event) (result : Result Bool Unsaved) (new : List Event) → DoesBetween form steps s kept after old result new
    → is_due form steps s kept.1 ≡ false → is_grown s kept.1 ≡ false → ChangesNothing old new
idle-then form steps s kept after old result new (Ok it, mid, between, inl (idle, same, p), (filed, last, written, files, is, asks)) due-not none path =
    files-then form.ends_with s mid.0 mid.1 last filed between written result new (ap (λ (k : SavedPlaces). is_grown s k.1) same ∙ none) files asks path ∙ ap (λ (n : List Event). changes_at path n) p.1
idle-then form steps s kept after old result new (Err ending, mid, between, inl (idle, same, p), next) due-not none path = absurd p.0
idle-then form steps s kept after old result new (saved, mid, between, inr there, next) due-not none path = absurd (true≢false (sym there.due ∙ due-not))

-- a save of the disks leaves what is known of the papers
last-same : (saved : Result (Unit {0}) Ending) (steps : ℕ) (s : Console) (places : Places) (kept : SavedPlaces) → is_grown s (last_after saved steps s places kept) ≡ is_grown s kept.1
last-same (Ok it) steps s places kept = refl
last-same (Err ending) steps s places kept = refl

due-same : (form : ConsoleForm) (steps : ℕ) (s : Console) (kept mid : SavedPlaces) (old : List Event) (saved : Result (Unit {0}) Ending) (between : List Event) → SavesIfDue form steps s kept mid old saved between
    → is_grown s mid.1 ≡ is_grown s kept.1
due-same form steps s kept mid old saved between (inl (idle, same, p)) = ap (λ (k : SavedPlaces). is_grown s k.1) same
due-same form steps s kept mid old saved between (inr there) = ap (λ l. is_grown s l) there.last ∙ last-same saved steps s mid.0 kept

filed-then : (s : Console) (places : Places) (last last' : _) (filed : Result (Unit {0}) Ending) (old between : List Event) → is_grown s last ≡ true → FilesIfGrown s places last last' old filed between
    → SavesPapers s.papers places.papers old filed between
filed-then s places last last' filed old between is (inl (idle, same, p)) = absurd (true≢false (sym is ∙ idle))
filed-then s places last last' filed old between is (inr there) = there.saves

saved-first : (form : ConsoleForm) (steps : ℕ) (s : Console) (kept mid : SavedPlaces) (old : List Event) (saved : Result (Unit {0}) Ending) (between : List Event) → SavesIfDue form steps s kept mid old saved between
    → SavesFirst s kept.0 mid.0 old between
saved-first form steps s kept mid old saved between (inl (idle, same, p)) = inl p.1
saved-first form steps s kept mid old saved between (inr there) = inr (saved, there.saves)

pub grown-then : (form : ConsoleForm) (steps : ℕ) (s : Console) (kept after : SavedPlaces) (old : List Event) (is_asked : Bool) (new : List Event) → DoesBetween form steps s kept after old (Ok is_asked) new
    → is_grown s kept.1 ≡ true → FilesBetween form s kept.0 after.0 old is_asked new
grown-then form steps s kept after old is_asked new (Ok it, mid, between, saves, (filed, last, written, files, is, asks)) more =
    subst (λ (p : Places). FilesBetween form s kept.0 p old is_asked new) (sym (ap (λ (k : SavedPlaces). k.0) is))
    (between, written, filed, saved-first form steps s kept mid old (Ok it) between saves, filed-then s mid.0 mid.1 last filed between written (due-same form steps s kept mid old (Ok it) between saves ∙ more) files, asks)
grown-then form steps s kept after old is_asked new (Err ending, mid, between, saves, next) more = absurd next

pub saved-rest : (s : Console) (places after : Places) (before : Result (Unit {0}) Unsaved) (old : List Event) (result : Result (Unit {0}) Ending) (new : List Event) → SavesRest s places after before old result new → NoDiskFailed before
    → SavesAtEnd s places after old new
saved-rest s places after (Ok it) old result new p done = (p.saved, p.between, p.disks, inr (p.filed, p.papers))
saved-rest s places after (Err (Disk ending)) old result new p done = absurd done
saved-rest s places after (Err (Paper ending)) old result new (saved, disks, is) done = (saved, new, disks, inl refl)

pub filed-rest : (s : Console) (places after : Places) (before : Result (Unit {0}) Unsaved) (old : List Event) (result : Result (Unit {0}) Ending) (new : List Event) → SavesRest s places after before old result new → NoPaperFailed before
    → FilesAtEnd s places after old new
filed-rest s places after (Ok it) old result new p done = (p.filed, p.between, inr (p.saved, p.disks), p.papers)
filed-rest s places after (Err (Disk ending)) old result new (filed, papers, is, same) done = (filed, old, inl refl, papers)
filed-rest s places after (Err (Paper ending)) old result new p done = absurd done
