-- What an empty volume is read as.
use Rattle.std.proofs.Common.{◌≡◌, ℕ, ◌+◌, ◌-◌, ◌<◌, ◌≤◌, List, [], ◌∷◌, length, drop, Ok, refl, ap, ◌∙◌, arith, drop-cons}
use Rattle.std.specs.Prelude.{is_ok}
use Rattle.std.specs.FinMap.{from_entries}
use Rattle.std.proofs.lemmas.List.Elements.{All-get_or}
use Rattle.volume_image.specs.Volume.{IsBlock}
use Rattle.volume_image.specs.Image.{IsNewVolume, new_word}
use Rattle.os8_dir.specs.declared.entries.DirEntry.TheVariants.{Empty}
use Rattle.os8_dir.specs.Entries.{DirectoryState, minus}
use Rattle.os8_dir.specs.Reading.{word, block, entry_at, empty_at, with_entries, with_segment, with_links, head_of, directory_of, Sound}
use Rattle.os8_dir.specs.Changes.{directory_with}
use Rattle.os8_dir.specs.Files.{files_of, files_in, capacity_of}
use Rattle.os8_dir.proofs.MapLemmas.{capacity_of-read}
use Rattle.os8_dir.proofs.ReadingLemmas.{with_entry-more, with_entries-more, with_entries-none, with_segment-entries, head_of-ok, with_links-end, directory_of-links}
use Rattle.os8_dir.proofs.TidyLemmas.{tidy-empty_first}

-- an empty's two words
empty-read : (info size : ℕ) (rest : List ℕ) → entry_at info (0 ∷ size ∷ rest) ≡ Ok (Empty (minus size), rest)
unfolding entry_at empty_at
empty-read info size rest = refl

again : (n : ℕ) → 0 < n → n ≤ 4088 → minus (minus n) ≡ n
again n some few = omega (arith, some, few)

-- the directory of an empty volume of so many blocks
abbrev pub new_listed : ℕ → DirectoryState
new_listed count = record { first = 7; info = 1; entries = Empty (count - 7) ∷ [] }

abbrev headed : ℕ → ℕ → DirectoryState
headed first info = record { first = first; info = info; entries = [] }

segment-read : (volume : ℕ) (words : List ℕ) (count : ℕ) → 7 ≤ length words → word words 0 ≡ 4095 → word words 1 ≡ 7 → word words 4 ≡ 4095 → word words 5 ≡ 0 → word words 6 ≡ minus (count - 7) → 8 ≤ count → count ≤ 4095 → volume ≡ count
    → (head_of volume words ≡ Ok (headed 7 1)) × (with_segment volume (headed 7 1) 1 words ≡ Ok (new_listed count))
segment-read volume words count long zeroth first fourth fifth sixth least most same =
    let one : minus (word words 4) ≡ 1 = ap minus fourth in
    let entry : drop 5 words ≡ 0 ∷ minus (count - 7) ∷ drop 7 words = drop-cons words 5 0 (omega (arith, long)) ∙ ap (λ l. word words 5 ∷ l) (drop-cons words 6 0 (omega (arith, long))) ∙ ap (λ w. w ∷ word words 6 ∷ drop 7 words) fifth ∙ ap (λ w. 0 ∷ w ∷ drop 7 words) sixth in
    let size : minus (minus (count - 7)) ≡ count - 7 = again (count - 7) (omega (arith, least)) (omega (arith, most)) in
    let read : entry_at 1 (drop 5 words) ≡ Ok (Empty (count - 7), drop 7 words) = ap (entry_at 1) entry ∙ empty-read 1 (minus (count - 7)) (drop 7 words) ∙ ap (λ n. Ok (Empty n, drop 7 words)) size in (
      head_of-ok volume words (omega (arith, one)) (omega (arith, first)) (omega (arith, first, least, same)) ∙ ap (λ n. Ok (headed n (minus (word words 4)))) first ∙ ap (λ n. Ok (headed 7 n)) one,
      with_segment-entries volume (headed 7 1) 1 words (omega (arith, one)) one first
          ∙ ap (λ n. with_entries (minus n) volume (headed 7 1) (drop 5 words)) zeroth
          ∙ with_entries-more 1 volume (headed 7 1) (new_listed count) (drop 5 words) (Empty (count - 7), drop 7 words) (omega arith) read (with_entry-more volume (headed 7 1) (Empty (count - 7)) (omega (arith, least, same)) refl ∙ ap (λ es. Ok (directory_with (headed 7 1) es)) (tidy-empty_first (count - 7) (omega (arith, least))))
          ∙ with_entries-none volume (new_listed count) (drop 7 words),
    )

pub new-directory : (count : ℕ) (blocks : List (List ℕ)) → IsNewVolume count blocks → directory_of blocks ≡ Ok (new_listed count)
new-directory count blocks new =
    let words = block blocks 1 in
    let inside : 1 < length blocks = omega (arith, new.volume.least) in
    let long : length words ≡ 256 = All-get_or IsBlock blocks 1 [] inside new.volume.each in
    let at : (k : ℕ) → k < 256 → word words k ≡ new_word count 1 k = λ k low. new.words 1 k (omega (arith, inside, new.size)) low in
    let both = segment-read (length blocks) words count (omega (arith, long)) (at 0 (omega arith)) (at 1 (omega arith)) (at 4 (omega arith)) (at 5 (omega arith)) (at 6 (omega arith)) (omega (arith, new.volume.least, new.size)) (omega (arith, new.volume.most, new.size)) new.size in
    directory_of-links blocks (headed 7 1) (new_listed count) both.0 both.1
    ∙ ap (λ n. with_links 5 (new_listed count) blocks (1 ∷ []) 1 n) (at 2 (omega arith))
    ∙ with_links-end 5 (new_listed count) blocks (1 ∷ []) 1

pub new-sound : (count : ℕ) (blocks : List (List ℕ)) → IsNewVolume count blocks → Sound blocks
new-sound count blocks new = ap is_ok (new-directory count blocks new)

pub new-files : (count : ℕ) (blocks : List (List ℕ)) → IsNewVolume count blocks → files_of blocks ≡ from_entries []
unfolding files_of files_in
new-files count blocks new = rw (new-directory count blocks new) refl

pub new-capacity : (count : ℕ) (blocks : List (List ℕ)) → IsNewVolume count blocks → capacity_of blocks ≡ count - 7
new-capacity count blocks new = capacity_of-read blocks (new_listed count) (new-directory count blocks new) ∙ none (count - 7)
  where
    none : (n : ℕ) → n + 0 ≡ n
    none n = omega arith
