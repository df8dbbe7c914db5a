-- Files that are kept one after the other.
use Rattle.std.proofs.Common.{◌≡◌, ℕ, ◌+◌, List, [], ◌∷◌, ◌++◌, length, length-append, append_assoc, sym, ap, ◌∙◌}
use Rattle.std.specs.FinMap.{insert}
use Rattle.os8_dir.specs.Files.{Files, files_of}
use Rattle.os8_dir.specs.Names.{with_end_zeros}
use Rattle.os8_files.specs.Calls.{IsReady, info_of}
use Rattle.os8_files.specs.Mounted.{MountState}
use Rattle.os8_files.specs.Puts.{HasPutWith}
use Rattle.volume_salvage.specs.Rescued.{with_files}
use Rattle.volume_salvage.specs.declared.volumes.KeptFile.{KeptFile}

pub ready-again : (old new : MountState) (f : KeptFile) → HasPutWith old f.name f.info f.words.items new → IsReady new
ready-again old new f put = record {
  running = ap (λ (m : MountState). m.stopped) put.others ∙ put.ready.running;
  none = ap (λ (m : MountState). m.tentative) put.others ∙ put.ready.none;
}

pub files-left : (info : ℕ) (old new : MountState) (f : KeptFile) (rest others : List KeptFile) (all : Files) → HasPutWith old f.name f.info f.words.items new
    → info_of old.blocks ≡ info → rest ≡ f ∷ others → with_files info (files_of old.blocks) rest ≡ all → with_files info (files_of new.blocks) others ≡ all
files-left info old new f rest others all put same is left =
    ap (λ (files : Files). with_files info files others) put.files
    ∙ ap (λ i. with_files info (insert (files_of old.blocks) f.name (with_end_zeros i f.info, f.words.items)) others) same
    ∙ ap (with_files info (files_of old.blocks)) (sym is)
    ∙ left

pub one-more : (all before rest others : List KeptFile) (f : KeptFile) → all ≡ before ++ rest → rest ≡ f ∷ others → all ≡ (before ++ f ∷ []) ++ others
one-more all before rest others f split is = split ∙ ap (λ l. before ++ l) is ∙ sym (append_assoc before (f ∷ []) others)

pub one-longer : (before : List KeptFile) (f : KeptFile) (place : ℕ) → place ≡ length before → place + 1 ≡ length (before ++ f ∷ [])
one-longer before f place is = ap (λ n. n + 1) is ∙ sym (length-append before (f ∷ []))

pub one-at : (all before rest others : List KeptFile) (f : KeptFile) → all ≡ before ++ rest → rest ≡ f ∷ others → all ≡ before ++ f ∷ others
one-at all before rest others f split is = split ∙ ap (λ l. before ++ l) is
