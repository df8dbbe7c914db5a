-- The lines of a long list.
use Rattle.std.proofs.Common.{◌≡◌, ℕ, zero, suc, ◌+◌, List, [], ◌∷◌, ◌++◌, ◌∙◌, refl, ap, arith, append_assoc}
use Rattle.os8_dir.specs.declared.entries.DirEntry.{DirEntry}
use Rattle.os8_dir.specs.declared.entries.DirEntry.TheVariants.{File, Empty}
use Rattle.os8_dir.specs.Entries.{DirectoryState, IsTidy}
use Rattle.os8_dir.specs.Found.{files_at, free_blocks}
use Rattle.refusals.specs.Listed.{free_line}
use Rattle.archive_files.specs.LongListing.{long_line, lines_of_files, long_lines}
use Rattle.archive_files.specs.LongSteps.{lines_of_entries}

-- the lines of entries are those of their files
pub files-of-entries : (info place : ℕ) (es : List DirEntry) → IsTidy es → lines_of_entries info place es ≡ lines_of_files info (files_at place es)
files-of-entries info place [] neat = refl
files-of-entries info place (File name words zero ∷ es) neat = absurd (omega (arith, neat.0))
files-of-entries info place (File name words (suc size) ∷ es) neat =
    ap (λ l. long_line info (record { name = name; info = words; place = place; size = suc size }) ++ l) (files-of-entries info (place + suc size) es neat.2)
files-of-entries info place (Empty size ∷ es) neat = files-of-entries info (place + size) es neat.2

pub list-lines : (d : DirectoryState) (info first free : ℕ) (entries : List DirEntry) (out mid new : List ℕ) → info ≡ d.info → first ≡ d.first → entries ≡ d.entries → free ≡ free_blocks d.entries
    → IsTidy d.entries → mid ≡ out ++ lines_of_entries info first entries → new ≡ mid ++ free_line free → new ≡ out ++ long_lines d
list-lines d info first free entries out mid new is_info is_first is_entries is_free neat is_mid is_new =
    is_new ∙ ap (λ l. l ++ free_line free) is_mid ∙ append_assoc out (lines_of_entries info first entries) (free_line free)
    ∙ ap (λ l. out ++ l) (rw (is_info, is_first, is_entries, is_free) (ap (λ l. l ++ free_line (free_blocks d.entries)) (files-of-entries d.info d.first d.entries neat)))
