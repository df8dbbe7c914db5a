-- The lines of blocks.
use Rattle.std.proofs.Common.{◌≡◌, ◌∙◌, ℕ, suc, ◌+◌, ◌-◌, ◌*◌, ◌/◌, ◌<◌, nat_lt, true, List, ◌++◌, Result, Ok, Err, OnOk, length, ap, subst, arith, append_assoc}
use Rattle.std.specs.Global.{Vec}
use Rattle.std.proofs.lemmas.Bool.Decides.{nat_tests}
use Rattle.word12.specs.declared.sizes.TheConstants.{BLOCK}
use Rattle.block_words.specs.Rows.{rows}
use Rattle.block_words.specs.declared.dumping.DumpForm.{DumpForm}
use Rattle.volume_image.specs.Image.{image_word}
use Rattle.archive_many.specs.declared.opened.VolumeFile.{VolumeFile}
use Rattle.show_commands.specs.Dumping.{HasFiles, IsDumpOf, bad_line, bad_lines, block_lines, block_rows, block_text, block_words, heading}

one-more : (k : ℕ) → suc k ≡ k + 1
one-more k = omega arith

pub bad-more : (image out : List ℕ) (block k word : ℕ) → word ≡ image_word image (BLOCK * block + k)
    → (out ++ bad_lines image block k) ++ bad_line word k ≡ out ++ bad_lines image block (k + 1)
bad-more image out block k word is =
    append_assoc out (bad_lines image block k) (bad_line word k)
    ∙ ap (λ w. out ++ (bad_lines image block k ++ bad_line w k)) is
    ∙ ap (λ n. out ++ bad_lines image block n) (one-more k)

pub block-joined : (form : DumpForm) (files : List VolumeFile) (image : List ℕ) (block : ℕ) (out a b c : List ℕ) → a ≡ out ++ heading files block
    → b ≡ a ++ bad_lines image block BLOCK → c ≡ b ++ block_rows form image block → c ≡ out ++ block_text form files image block
unfolding block_text
block-joined form files image block out a b c is_a is_b is_c =
    is_c
    ∙ ap (λ l. l ++ block_rows form image block) (is_b ∙ ap (λ l. l ++ bad_lines image block BLOCK) is_a ∙ append_assoc out (heading files block) (bad_lines image block BLOCK))
    ∙ append_assoc out (heading files block ++ bad_lines image block BLOCK) (block_rows form image block)

pub rows-of : {E : Type 0} (form : DumpForm) (image : List ℕ) (block : ℕ) (words given : List ℕ) (result : Result (Unit {0}) E) (old new : List ℕ) → given ≡ words
    → words ≡ block_words image block BLOCK → OnOk result (new ≡ old ++ rows form given 32) → OnOk result (new ≡ old ++ block_rows form image block)
unfolding block_rows
rows-of form image block words given result old new is_given is_words has = subst (λ w. OnOk result (new ≡ old ++ rows form w 32)) (is_given ∙ is_words) has

less-true : (a b : ℕ) → a < b → nat_lt a b ≡ true
less-true a b less = grind (arith, nat_tests)

pub dump-whole : (form : DumpForm) (image : List ℕ) (span given : ℕ × ℕ) (files : Vec VolumeFile) (text : Vec ℕ) → given ≡ span → given.1 < length image / 512
    → HasFiles image (Ok files) → text.items ≡ block_lines form files.items image given.0 (given.1 - given.0 + 1) → IsDumpOf form image span (Ok text)
dump-whole form image span given files text is inside has lines =
    subst (λ s. IsDumpOf form image s (Ok text)) is (less-true given.1 (length image / 512) inside, files, has, lines)
