-- The lines of a volume's files.
use Rattle.std.proofs.Common.{◌≡◌, ℕ, zero, suc, ◌+◌, ◌-◌, ◌<◌, ◌≤◌, ◌∙◌, Bool, true, false, if◌then◌else◌, Option, Result, Ok, Err, OnOk, List, [], ◌∷◌, ◌++◌, take, drop, length, get_or, refl, sym, ap, subst, arith}
use Rattle.std.specs.Prelude.{slice_index}
use Rattle.std.proofs.lemmas.List.{append-nil, take_all}
use Rattle.os8_dir.specs.declared.entries.DirEntry.{DirEntry}
use Rattle.os8_dir.specs.declared.entries.DirEntry.TheVariants.{File, Empty}
use Rattle.char_pack.specs.Packing.{frames}
use Rattle.file_kind.specs.Kinds.{IsKind}
use Rattle.file_kind.specs.declared.kinds.FileKind.{FileKind}
use Rattle.volume_index.specs.Lines.{index_line}
use Rattle.volume_image.specs.Image.{IsImageOf}
use Rattle.os8_dir.specs.Entries.{DirectoryState, IsTidy, size_of, total}
use Rattle.os8_dir.specs.Reading.{directory_of}
use Rattle.os8_dir.specs.Found.{FilePlace, files_at}
use Rattle.os8_dir.specs.Files.{run}
use Rattle.volume_index.specs.Indexing.{AreLinesOf, IsIndex, IsLineIf, block_bytes, entry_of, holds_wanted, is_chosen}
use Rattle.volume_index.specs.Years.{last_in}
use Rattle.volume_index.specs.declared.styles.IndexStyle.{IndexStyle}
use Rattle.volume_index.specs.IndexSteps.{AreLinesAt, IsLineAt}

-- the lines of entries are those of their files
pub lines-of-files : (style : IndexStyle) (name : List ℕ) (number : Option ℕ) (last : ℕ) (image : List ℕ) (blocks : List (List ℕ)) (place : ℕ) (es : List DirEntry) (text : List ℕ) → IsTidy es
    → AreLinesAt style name number last image blocks place es text → AreLinesOf style name number last image blocks (files_at place es) text
lines-of-files style name number last image blocks place [] text neat are = are
lines-of-files style name number last image blocks place (File title info zero ∷ es) text neat are = absurd (omega (arith, neat.0))
lines-of-files style name number last image blocks place (File title info (suc size) ∷ es) text neat are =
    (are.0, are.1, are.2, lines-of-files style name number last image blocks (place + suc size) es are.1 neat.2 are.3, are.4)
lines-of-files style name number last image blocks place (Empty size ∷ es) text neat are =
    lines-of-files style name number last image blocks (place + size) es text neat.2
    (subst (AreLinesAt style name number last image blocks (place + size) es) (sym (are.4 ∙ ap (λ l. l ++ are.1) are.2)) are.3)

-- an index, from what its steps came to
pub index-whole : (style : IndexStyle) (name : List ℕ) (number : Option ℕ) (image text : List ℕ) (blocks after : List (List ℕ)) (d : DirectoryState) (last first : ℕ) (entries : List DirEntry) (lines : List ℕ)
    → IsImageOf image blocks → after ≡ blocks → directory_of blocks ≡ Ok d → IsTidy d.entries → last ≡ last_in style.year blocks → first ≡ d.first → entries ≡ d.entries
    → AreLinesAt style name number last image after first entries lines → text ≡ lines → IsIndex style name number image text
index-whole style name number image text blocks after d last first entries lines is_image is_after read neat is_last is_first is_entries are is_text =
    let with_blocks : AreLinesAt style name number last image blocks first entries lines = subst (λ b. AreLinesAt style name number last image b first entries lines) is_after are in
    let with_last : AreLinesAt style name number (last_in style.year blocks) image blocks first entries lines = subst (λ n. AreLinesAt style name number n image blocks first entries lines) is_last with_blocks in
    let with_first : AreLinesAt style name number (last_in style.year blocks) image blocks d.first entries lines = subst (λ n. AreLinesAt style name number (last_in style.year blocks) image blocks n entries lines) is_first with_last in
    record {
      blocks = blocks;
      is_image = is_image;
      directory = d;
      read = read;
      lines_are =
          subst (AreLinesOf style name number (last_in style.year blocks) image blocks (files_at d.first d.entries)) (sym is_text)
          (lines-of-files style name number (last_in style.year blocks) image blocks d.first d.entries lines neat
          (subst (λ es. AreLinesAt style name number (last_in style.year blocks) image blocks d.first es lines) is_entries with_first));
    }

-- ## The line of an entry

-- a file that doesn't hold the text that is wanted, or does
line-if : (style : IndexStyle) (name : List ℕ) (number : Option ℕ) (last : ℕ) (image : List ℕ) (blocks : List (List ℕ)) (f : FilePlace) (kind : FileKind) (held : Bool) → is_chosen style.find.bytes.items f.name ≡ true
    → IsKind (frames (run blocks f.place f.size)) kind → held ≡ holds_wanted style.grep kind (run blocks f.place f.size)
    → IsLineIf (is_chosen style.find.bytes.items f.name) style name number last image blocks f (if held then index_line name (entry_of number f kind) last (block_bytes image f.place f.size) else [])
line-if style name number last image blocks f kind held chosen is_kind is_held =
    subst (λ (b : Bool). IsLineIf b style name number last image blocks f (if held then index_line name (entry_of number f kind) last (block_bytes image f.place f.size) else [])) (sym chosen)
    (record {
      kind = kind;
      is_kind = is_kind;
      line_is = ap (λ (b : Bool). if b then index_line name (entry_of number f kind) last (block_bytes image f.place f.size) else []) is_held;
    })

pub entry-line : (style : IndexStyle) (name : List ℕ) (number : Option ℕ) (last : ℕ) (image : List ℕ) (blocks : List (List ℕ)) (place title : ℕ) (info : List ℕ) (size : ℕ) (entry : DirEntry) (word words one two : List ℕ)
    (kind : FileKind) (is held : Bool) → entry ≡ File title info size → word ≡ style.find.bytes.items → is ≡ is_chosen word title → is ≡ true → words ≡ run blocks place size → one ≡ words → IsKind (frames one) kind
    → two ≡ words → held ≡ holds_wanted style.grep kind two
    → IsLineAt style name number last image blocks place entry
    (if held then index_line name (entry_of number (record { name = title; info = info; place = place; size = size }) kind) last (block_bytes image place size) else [])
entry-line style name number last image blocks place title info size entry word words one two kind is held is_entry is_word is_is was_chosen is_words is_one is_kind is_two is_held =
    subst (λ e. IsLineAt style name number last image blocks place e (if held then index_line name (entry_of number (record { name = title; info = info; place = place; size = size }) kind) last (block_bytes image place size) else []))
    (sym is_entry)
    (line-if style name number last image blocks (record { name = title; info = info; place = place; size = size }) kind held
    (ap (λ w. is_chosen w title) (sym is_word) ∙ sym is_is ∙ was_chosen)
    (subst (λ w. IsKind (frames w) kind) (is_one ∙ is_words) is_kind)
    (is_held ∙ ap (holds_wanted style.grep kind) (is_two ∙ is_words)))

pub no-line : (P : List ℕ → Type 0) (held : Bool) (line old : List ℕ) → P (if held then line else []) → held ≡ false → (x : List ℕ) × P x × (old ≡ old ++ x)
no-line P held line old has lacks = ([], subst (λ (b : Bool). P (if b then line else [])) lacks has, sym (append-nil old))

pub one-line : {E : Type 0} (P : List ℕ → Type 0) (held : Bool) (line given old new : List ℕ) (result : Result (Unit {0}) E) → P (if held then line else []) → held ≡ true → given ≡ line
    → OnOk result (new ≡ old ++ given) → OnOk result ((x : List ℕ) × P x × (new ≡ old ++ x))
one-line P held line given old new (Ok it) has was_held is put = (line, subst (λ (b : Bool). P (if b then line else [])) was_held has, put ∙ ap (λ l. old ++ l) is)
one-line P held line given old new (Err why) has was_held is put = put

pub same-line : (name : List ℕ) (number : Option ℕ) (last : ℕ) (image : List ℕ) (place title date : ℕ) (info : List ℕ) (size : ℕ) (kind : FileKind) (bytes : List ℕ) → date ≡ slice_index info 0 → bytes ≡ block_bytes image place size
    → index_line name (record { volume = number; first = place; length = size; name = title; date = date; kind = kind }) last bytes
    ≡ index_line name (entry_of number (record { name = title; info = info; place = place; size = size }) kind) last (block_bytes image place size)
same-line name number last image place title date info size kind bytes is_date is_bytes =
    ap (λ d. index_line name (record { volume = number; first = place; length = size; name = title; date = d; kind = kind }) last bytes) is_date
    ∙ ap (λ b. index_line name (entry_of number (record { name = title; info = info; place = place; size = size }) kind) last b) is_bytes

-- ## Entry after entry

first-one : {A : Type 0} (l : List A) (a : A) → 1 ≤ length l → a ≡ get_or l 0 a → l ≡ a ∷ take (length l - 1) (drop 1 l)
first-one [] a long first = absurd (omega (arith, long))
first-one (x ∷ xs) a long first = ap (λ l. x ∷ l) (sym (take_all (length (x ∷ xs) - 1) xs (omega arith))) ∙ ap (λ y. y ∷ take (length (x ∷ xs) - 1) xs) (sym first)

-- the lines from an entry on
pub one-more : (style : IndexStyle) (name : List ℕ) (number : Option ℕ) (last : ℕ) (image : List ℕ) (blocks : List (List ℕ)) (place : ℕ) (rest : List DirEntry) (entry : DirEntry) (size : ℕ) (line more : List ℕ)
    → 1 ≤ length rest → entry ≡ get_or rest 0 entry → size ≡ size_of entry → IsLineAt style name number last image blocks place entry line
    → AreLinesAt style name number last image blocks (place + size) (take (length rest - 1) (drop 1 rest)) more → AreLinesAt style name number last image blocks place rest (line ++ more)
one-more style name number last image blocks place rest entry size line more long first is_size is are =
    subst (λ l. AreLinesAt style name number last image blocks place l (line ++ more)) (sym (first-one rest entry long first))
    (line, more, is, subst (λ n. AreLinesAt style name number last image blocks (place + n) (take (length rest - 1) (drop 1 rest)) more) is_size are, refl)

pub blocks-more : (place size whole : ℕ) (rest : List DirEntry) (entry : DirEntry) → 1 ≤ length rest → entry ≡ get_or rest 0 entry → size ≡ size_of entry → place + total rest ≡ whole
    → (place + size) + total (take (length rest - 1) (drop 1 rest)) ≡ whole
blocks-more place size whole rest entry long first is_size sum = omega (arith, is_size, ap total (first-one rest entry long first), sum)

pub no-more : (style : IndexStyle) (name : List ℕ) (number : Option ℕ) (last : ℕ) (image : List ℕ) (blocks : List (List ℕ)) (place : ℕ) (rest : List DirEntry) → length rest < 1
    → AreLinesAt style name number last image blocks place rest []
no-more style name number last image blocks place [] none = refl
no-more style name number last image blocks place (entry ∷ rest) none = absurd (omega (arith, none))

-- ## Words
