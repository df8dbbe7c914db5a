-- The command that puts one word of an image in place of another (this project's profile).
use Rattle.std.specs.Prelude.{◌≡◌, ◌⊎◌, ℕ, codes, decimal, Result, Ok, Err, List, [], ◌∷◌, ◌++◌}
use Rattle.std.specs.Global.{Vec}
use Rattle.hosts.specs.Event.{Event}
use Rattle.word12.specs.Octal.{octal4}
use Rattle.block_words.specs.Patching.{Patches}
use Rattle.block_words.specs.declared.faults.PatchFault.{PatchFault}
use Rattle.block_words.specs.declared.faults.PatchFault.TheVariants.{NoBlock, NoWord, OtherWord}
use Rattle.program_tasks.specs.declared.forms.ImageForm.{ImageForm}
use Rattle.outcome.specs.declared.endings.Ending.{Ending}
use Rattle.image_files.specs.Work.{Then, Purely, Lacks, OrLacks}
use Rattle.image_files.specs.Reading.{Opens}
use Rattle.image_files.specs.Saving.{Stores}
use Rattle.image_files.specs.Answers.{AreLines}
use Rattle.block_words.specs.Lines.{bits_text}
use Rattle.change_commands.specs.PatchRefusals.{EndsWith}
use Rattle.change_commands.specs.declared.patches.WordPatch.{WordPatch}

-- the line for why a word is not patched
abbrev pub fault_text : PatchFault → List ℕ
fault_text (NoBlock count) = codes "? PATCH 1 ONLY " ++ decimal count ++ 0o12 ∷ []
fault_text NoWord = codes "? PATCH 2 NO WORD\n"
fault_text (OtherWord there) = codes "? PATCH 3 OTHER WORD " ++ bits_text there ++ 0o12 ∷ []

-- the line of a word that was patched: its block, its number there, what it was and what it is
abbrev pub patched_text : WordPatch → List ℕ
patched_text wanted =
    codes "PATCHED " ++ decimal wanted.block ++ 0o40 ∷ decimal wanted.number ++ 0o40 ∷ bits_text wanted.old ++ 0o40 ∷ octal4 wanted.new ++ 0o12 ∷ []

-- why a word is not patched is printed; or memory was wanted for that
abbrev pub RefusesPatch : PatchFault → List Event → Ending → List Event → Type 0
RefusesPatch fault = OrLacks (EndsWith (fault_text fault))

-- the image with the word in its place, each other byte as it was; or why not
abbrev pub GivesPatched : WordPatch → List ℕ → List Event → Result (Vec ℕ) Ending → List Event → Type 0
GivesPatched wanted image old (Ok bytes) new = Patches image wanted.block wanted.number wanted.old wanted.new (Ok tt) bytes.items × (new ≡ old)
GivesPatched wanted image old (Err ending) new =
    Lacks old ending new
    ⊎ ((fault : PatchFault) × Patches image wanted.block wanted.number wanted.old wanted.new (Err fault) image × RefusesPatch fault old ending new)

-- An image file is held and read. The image with the word in its place is saved, and only then its line is printed.
abbrev pub PatchesWord : WordPatch → ImageForm → List Event → Result (Unit {0}) Ending → List Event → Type 0
PatchesWord wanted form = Then (Opens form) (λ image. Then (GivesPatched wanted image.bytes.items) (λ bytes. Then (Purely (AreLines (patched_text wanted))) (λ line. Stores image bytes.items line.items)))
