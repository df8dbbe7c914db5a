-- What was put, as it comes back in each form.
use Rattle.std.proofs.Common.{◌≡◌, ◌∙◌, ℕ, zero, suc, true, false, Bool, nat_eq, if◌then◌else◌, Option, Ok, List, [], ◌∷◌, ◌++◌, replicate, refl, sym, ap, subst, append_assoc}
use Rattle.std.specs.Global.{Vec}
use Rattle.volume_image.specs.Image.{WrittenIsReadBack}
use Rattle.char_pack.specs.Texts.{text, is_storable}
use Rattle.archive_files.specs.declared.forms.GetForm.TheVariants.{Text}
use Rattle.archive_files.specs.declared.putting.NewImage.{NewImage}
use Rattle.archive_files.specs.Asking.{Target, OfName}
use Rattle.archive_files.specs.Getting.{IsFile, IsTapeOf, Gets, line_feeds, trailer}
use Rattle.archive_files.specs.HostTexts.{file_text, text_words}
use Rattle.archive_files.specs.Putting.{HasPutInto}
use Rattle.archive_files.specs.Laws.{HasLineEnds}
use Rattle.archive_files.proofs.AgainLemmas.{one_file}
use Rattle.archive_files.proofs.HostTextLemmas.{feeds-returns, put-again, storable-file}
use Rattle.archive_files.proofs.LawLemmas.{put_file}

-- ## Tapes

-- zeros after a trailer don't belong to it
trailer-zeros : (following : List ℕ) (count : ℕ) → trailer (following ++ replicate count 0) ≡ trailer following
trailer-zeros [] zero = refl
trailer-zeros [] (suc count) = refl
trailer-zeros (frame ∷ others) count = go (nat_eq frame 128) (trailer-zeros others count)
  where
    go : (b : Bool) → trailer (others ++ replicate count 0) ≡ trailer others
        → (if b then frame ∷ trailer (others ++ replicate count 0) else []) ≡ (if b then frame ∷ trailer others else [])
    go true rest = ap (λ l. frame ∷ l) rest
    go false rest = refl

-- frames begin with a tape also with zeros after them
pub tape-zeros : (bytes tape : List ℕ) (count : ℕ) → IsTapeOf bytes tape → IsTapeOf (bytes ++ replicate count 0) tape
tape-zeros bytes tape count is = record {
  before = is.before;
  first = is.first;
  following = is.following ++ replicate count 0;
  items = is.items;
  file_is = ap (λ l. l ++ replicate count 0) is.file_is ∙ append_assoc is.before (is.first ∷ is.following) (replicate count 0);
  is_tape = is.is_tape;
  none_before = is.none_before;
  tape_is = is.tape_is ∙ ap (λ l. is.before ++ is.first ∷ l) (sym (trailer-zeros is.following count));
}

-- ## Texts

-- characters that are packed as a text are read back
abbrev pub CharactersReadBack : Type 0
CharactersReadBack = (chars : List ℕ) → is_storable chars ≡ true → text (text_words chars) ≡ chars

-- the lines of a text that was put
pub lines-back : CharactersReadBack → (host : List ℕ) → is_storable host ≡ true → line_feeds (text (text_words (file_text host))) ≡ line_feeds host
lines-back law host storable = ap line_feeds (law (file_text host) (storable-file host storable)) ∙ feeds-returns (line_feeds host)

-- a text that was got and is put has its words again
pub words-back : CharactersReadBack → WrittenIsReadBack → (image : List ℕ) (wanted : Target) (again chars : List ℕ) (info : Option (List ℕ)) (given : Vec ℕ) (other : List ℕ) (new : NewImage) → is_storable chars ≡ true
    → HasLineEnds chars → IsFile image wanted (text_words chars) → Gets image wanted Text (Ok given)
    → HasPutInto other again info (text_words (file_text given.items)) new → IsFile new.bytes.items (OfName again) (text_words chars)
words-back read law image wanted again chars info given other new storable ends file gets put =
    subst (λ l. IsFile new.bytes.items (OfName again) (text_words l)) same (put_file other again (text_words (file_text given.items)) info new put)
  where
    was : given.items ≡ line_feeds chars
    was = gets.2 ∙ ap (λ words. line_feeds (text words)) (one_file law image wanted (text_words chars) gets.0 file gets.1) ∙ ap line_feeds (read chars storable)

    same : file_text given.items ≡ chars
    same = ap file_text was ∙ put-again chars ends
