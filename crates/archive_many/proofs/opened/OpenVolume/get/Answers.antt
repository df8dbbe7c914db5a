use Rattle.std.proofs.Common.{subst, List, ℕ, Err, refl}
use Rattle.std.proofs.lemmas.Result.{err_from_is_err_and}
use Rattle.archive_files.specs.Getting.{IsGiven}
use Rattle.archive_files.specs.Parts.{GivesFile}
use Rattle.archive_many.specs.Opened.{GetsFile, LiesOn}
use Rattle.archive_many.proofs.FileLemmas.{file-refused, lies, lies-inside, words-lie}
use Rattle.archive_many.proofs.opened.OpenVolume.get.Goals as goal

pub words_at-requires : goal.words_at-requires
words_at-requires c =
    lies-inside c.sound_directory.ensures c.files_inside.ensures.inside c.self.inside.volume.blocks c.self.inside.directory c.args.file.now.name c.in-Some.place c.in-Some.size c.self.invariant c.in-Some.ensures

pub returns-in_err-words-in-Some : goal.returns-in_err-words-in-Some
returns-in_err-words-in-Some c =
    let p = err_from_is_err_and c.from_residual.result c.from_residual.ensures.1 in
    let so = lies c.files_found.ensures c.self.inside.volume.blocks c.self.inside.directory c.args.file.now c.in-Some.place c.in-Some.size c.self.invariant c.in-Some.ensures c.if-place-file.false c.if-size-file.false in
    rw (p.1, p.2) (refl, so.0, subst (λ (b : List (List ℕ)). LiesOn b c.args.file.now so.0) c.self.view_is so.1)

pub returns-in_err-bytes-in-Some : goal.returns-in_err-bytes-in-Some
returns-in_err-bytes-in-Some c =
    let p = err_from_is_err_and c.from_residual-in_err-bytes-in-Some.result c.from_residual-in_err-bytes-in-Some.ensures.1 in
    let so = lies c.files_found.ensures c.self.inside.volume.blocks c.self.inside.directory c.args.file.now c.in-Some.place c.in-Some.size c.self.invariant c.in-Some.ensures c.if-place-file.false c.if-size-file.false in
    let words = words-lie c.self.inside.volume.blocks c.args.file.now c.in-Some.place c.in-Some.size so.0 c.in_ok-words-in-Some.words.items c.deref.result.now so.1 c.if-place-file.false c.if-size-file.false
    c.in_ok-words-in-Some.ensures c.deref.ensures.value in
    rw (p.1, p.2) (subst (λ (b : List (List ℕ)). GetsFile b c.args.file.now c.args.form (Err c.in_err-bytes-in-Some.field-0.0)) c.self.view_is (file-refused c.self.inside.volume.blocks c.args.file.now so.0 c.args.form _ so.1 (subst (λ (l : List ℕ). GivesFile c.args.form l (Err c.in_err-bytes-in-Some.field-0.0)) words c.in_err-bytes-in-Some.ensures)))

pub returns-in_ok-bytes-in-Some : goal.returns-in_ok-bytes-in-Some
returns-in_ok-bytes-in-Some c =
    let so = lies c.files_found.ensures c.self.inside.volume.blocks c.self.inside.directory c.args.file.now c.in-Some.place c.in-Some.size c.self.invariant c.in-Some.ensures c.if-place-file.false c.if-size-file.false in
    let words = words-lie c.self.inside.volume.blocks c.args.file.now c.in-Some.place c.in-Some.size so.0 c.in_ok-words-in-Some.words.items c.deref.result.now so.1 c.if-place-file.false c.if-size-file.false
    c.in_ok-words-in-Some.ensures c.deref.ensures.value in
    (so.0, subst (λ (b : List (List ℕ)). LiesOn b c.args.file.now so.0) c.self.view_is so.1, subst (λ (l : List ℕ). IsGiven c.args.form l c.in_ok-bytes-in-Some.bytes.items) words c.in_ok-bytes-in-Some.ensures)
