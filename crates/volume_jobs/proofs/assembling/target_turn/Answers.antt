use Rattle.std.proofs.Common.{◌∙◌, ◌≡◌, ◌*◌, ◌/◌, ◌<◌, ℕ, List, length, Ok, Err, None, refl, ap, sym, subst}
use Rattle.os8_dir.specs.Files.{files_of}
use Rattle.os8_files.specs.Puts.{PutsFile, blocks_filled}
use Rattle.pal_blocks.specs.Progress.{IsAssembling}
use Rattle.os8_dir.specs.declared.file_faults.FileFault.TheVariants as file
use Rattle.volume_jobs.specs.Steps.{TurnsJob}
use Rattle.volume_jobs.specs.Steps.{is_memory}
use Rattle.volume_jobs.specs.Faults.{fault_of_file}
use Rattle.volume_jobs.specs.Sources.{names_of}
use Rattle.volume_jobs.specs.State.{words_in}
use Rattle.volume_jobs.proofs.AssembleLemmas.{the_assembly}
use Rattle.volume_jobs.proofs.FillLemmas.{target_whole, target_some}
use Rattle.volume_jobs.proofs.TargetLemmas.{no_target, memory_of_asm, memory_of_file, put_memory, put_done, put_refused}
use Rattle.volume_jobs.proofs.assembling.target_turn.Goals as goal

pub returns-in-Err : goal.returns-in-Err
returns-in-Err g c = λ core.
    let sources = words_in (files_of c.args.files.now.blocks) (names_of c.args.job.holds) in
    let wants = c.in-Err.ensures.last sources (subst (λ n. IsAssembling sources c.args.job.assembling n) c.requires.last c.requires.stands.reads) in
    subst (λ f. TurnsJob c.args.files.now core (the_assembly c.args.job c.args.left) (Err f) c.assembles_on.result c.args.files.now core) (sym (c.from.ensures ∙ memory_of_asm sources c.in-Err.fault wants))
    (subst (λ o. TurnsJob c.args.files.now core (the_assembly c.args.job c.args.left) _ o c.args.files.now core) (sym c.assembles_on.ensures)
    (no_target c.args.files.now core c.args.job c.args.left c.requires.running c.requires.none c.requires.fits c.requires.stands))

pub put-requires-clause-some : goal.put-requires-clause-some
put-requires-clause-some g c =
    let sources = words_in (files_of c.args.files.now.blocks) (names_of c.args.job.holds) in
    let made = c.in-Ok.ensures.last sources (subst (λ n. IsAssembling sources c.args.job.assembling n) c.requires.last c.requires.stands.reads) in
    subst (λ l. 0 < blocks_filled l) (sym c.deref.ensures.value) (target_some sources c.in-Ok.words.items made.0 made.2)

pub put-requires-clause-whole : goal.put-requires-clause-whole
put-requires-clause-whole g c =
    let sources = words_in (files_of c.args.files.now.blocks) (names_of c.args.job.holds) in
    let made = c.in-Ok.ensures.last sources (subst (λ n. IsAssembling sources c.args.job.assembling n) c.requires.last c.requires.stands.reads) in
    subst (λ l. 256 * blocks_filled l ≡ length l) (sym c.deref.ensures.value) (target_whole sources c.in-Ok.words.items made.0)

pub returns-in-Ok-put : goal.returns-in-Ok-put
returns-in-Ok-put g c = λ core.
    let sources = words_in (files_of c.args.files.now.blocks) (names_of c.args.job.holds) in
    let made = c.in-Ok.ensures.last sources (subst (λ n. IsAssembling sources c.args.job.assembling n) c.requires.last c.requires.stands.reads) in
    put_done c.counted_holds.ensures.released c.args.files.now c.put.new.self c.let_go.new.files core c.args.job c.args.left c.args.job.to (c.len-blocks.result / 256) c.in-Ok.words.items c.requires.last c.requires.held
    (c.kept_holds.ensures.put c.args.files.now c.put.new.self c.args.job.to c.deref.result.now (Ok tt) c.in-Ok-put.ensures.call) c.in-Ok-put.ensures.none refl (ap (λ n. n / 256) (c.len-blocks.ensures ∙ sym c.deref.ensures.len ∙ ap (λ (l : List ℕ). length l) c.deref.ensures.value))
    made.0 made.1 made.2 (subst (λ l. PutsFile c.args.files.now c.args.job.to l (Ok tt) c.put.new.self) c.deref.ensures.value c.in-Ok-put.ensures.call) c.let_go.ensures

pub returns-then-is_memory : goal.returns-then-is_memory
returns-then-is_memory g c = λ core.
    let is_it = memory_of_file c.in-Err-put.fault (ap is_memory (sym c.from-fault.ensures) ∙ sym c.is_memory.ensures ∙ c.if-is_memory.true) in
    let put = subst (λ why. PutsFile c.args.files.now c.args.job.to c.deref.result.now (Err why) c.put.new.self) is_it c.in-Err-put.ensures.call in
    subst (λ why. TurnsJob c.args.files.now core (the_assembly c.args.job c.args.left) (Err why) c.assembles_on-then-is_memory.result c.put.new.self core) (sym (c.from-fault.ensures ∙ ap fault_of_file is_it))
    (subst (λ o. TurnsJob c.args.files.now core (the_assembly c.args.job c.args.left) _ o c.put.new.self core) (sym c.assembles_on-then-is_memory.ensures)
    (put_memory c.args.files.now c.put.new.self core c.args.job c.args.left c.deref.result.now c.requires.last c.requires.fits c.requires.stands
    (c.kept_holds.ensures.put c.args.files.now c.put.new.self c.args.job.to c.deref.result.now (Err file.Memory) put) c.in-Err-put.ensures.none put))

pub returns : goal.returns
returns g c = λ core.
    let sources = words_in (files_of c.args.files.now.blocks) (names_of c.args.job.holds) in
    let made = c.in-Ok.ensures.last sources (subst (λ n. IsAssembling sources c.args.job.assembling n) c.requires.last c.requires.stands.reads) in
    let why = c.in-Err-put.fault in
    subst (λ f. TurnsJob c.args.files.now core (the_assembly c.args.job c.args.left) (Err f) None c.let_go-in-Err-put.new.files core) (sym c.from-fault.ensures)
    (put_refused c.counted_holds.ensures.released c.args.files.now c.put.new.self c.let_go-in-Err-put.new.files core c.args.job c.args.left c.in-Ok.words.items why (ap is_memory (sym c.from-fault.ensures) ∙ sym c.is_memory.ensures ∙ c.if-is_memory.false)
    c.requires.last c.requires.held (c.kept_holds.ensures.put c.args.files.now c.put.new.self c.args.job.to c.deref.result.now (Err why) c.in-Err-put.ensures.call) c.in-Err-put.ensures.none c.requires.running made.0 made.1
    (c.failed_writes.ensures.put c.args.files.now c.put.new.self c.args.job.to c.deref.result.now (Err why) c.in-Err-put.ensures.call)
    (subst (λ l. PutsFile c.args.files.now c.args.job.to l (Err why) c.put.new.self) c.deref.ensures.value c.in-Err-put.ensures.call) c.let_go-in-Err-put.ensures)
