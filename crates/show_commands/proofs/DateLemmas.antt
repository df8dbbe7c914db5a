-- The lines of a list with dates.
use Rattle.std.proofs.Common.{◌≡◌, if◌then◌else◌, ℕ, zero, suc, ◌+◌, List, [], ◌∷◌, ◌++◌, ◌∙◌, refl, ap, arith, append_assoc}
use Rattle.os8_dir.specs.declared.entries.DirEntry.{DirEntry}
use Rattle.os8_dir.specs.declared.entries.DirEntry.TheVariants.{File, Empty}
use Rattle.os8_dir.specs.Entries.{DirectoryState, IsTidy}
use Rattle.os8_dir.specs.Found.{files_at, free_blocks}
use Rattle.refusals.specs.Listed.{free_line}
use Rattle.show_commands.specs.Dates.{dated_line, dated_lines, is_listed, lines_of_files}
use Rattle.show_commands.specs.DateSteps.{lines_of_entries}

-- the lines of entries are those of their files
files-of-entries : (last info : ℕ) (words : List (List ℕ)) (place : ℕ) (es : List DirEntry) → IsTidy es → lines_of_entries last info words place es ≡ lines_of_files last info words (files_at place es)
files-of-entries last info words place [] neat = refl
files-of-entries last info words place (File name given zero ∷ es) neat = absurd (omega (arith, neat.0))
files-of-entries last info words place (File name given (suc size) ∷ es) neat =
    ap (λ l. (if is_listed words name then dated_line last info (record { name = name; info = given; place = place; size = suc size }) else []) ++ l) (files-of-entries last info words (place + suc size) es neat.2)
files-of-entries last info words place (Empty size ∷ es) neat = files-of-entries last info words (place + size) es neat.2

pub list-lines : (last : ℕ) (words : List (List ℕ)) (d : DirectoryState) (info first free : ℕ) (entries : List DirEntry) (out mid new : List ℕ) → info ≡ d.info → first ≡ d.first → entries ≡ d.entries → free ≡ free_blocks d.entries
    → IsTidy d.entries → mid ≡ out ++ lines_of_entries last info words first entries → new ≡ mid ++ free_line free → new ≡ out ++ dated_lines last words d
list-lines last words d info first free entries out mid new is_info is_first is_entries is_free neat is_mid is_new =
    is_new ∙ ap (λ l. l ++ free_line free) is_mid ∙ append_assoc out (lines_of_entries last info words first entries) (free_line free)
    ∙ ap (λ l. out ++ l) (rw (is_info, is_first, is_entries, is_free) (ap (λ l. l ++ free_line (free_blocks d.entries)) (files-of-entries last d.info words d.first d.entries neat)))
