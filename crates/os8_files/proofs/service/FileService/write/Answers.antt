use Rattle.std.proofs.Math.ListN.{length-set}
use Rattle.std.proofs.Common.{get_or-set_other, true, List, [], ℕ, length, ◌≡◌, ◌+◌, Some, Ok, slice_set, refl, ap, sym, subst, ◌∙◌, arith}
use Rattle.os8_dir.specs.Reading.{directory_of, block}
use Rattle.os8_dir.specs.Files.{files_of, run}
use Rattle.os8_files.specs.Mounted.{MountState, NewFile, IsBegun, AreSegments}
use Rattle.volume_image.specs.Volume.{next_count}
use Rattle.os8_files.specs.Failed.{directory_or}
use Rattle.os8_files.proofs.SegmentLemmas.{segments-written}
use Rattle.os8_files.proofs.FailedLemmas.{write-failed}
use Rattle.os8_files.proofs.KeepLemmas.{text-more, info-of, written-keeps}
use Rattle.os8_files.proofs.PlaceLemmas.{some-same, write-inside, written-directory, written-files}
use Rattle.os8_files.proofs.service.FileService.write.Goals as goal

pub overflow_add-place : goal.overflow_add-place
overflow_add-place g c =
    let blocks = g.S.BlockStore.contents c.self.inside.store in
    let d = c.self.inside.directory in
    let kept = c.self.invariant.kept c.if-self.false in
    let is = c.sound_directory.ensures blocks d kept in
    let b : NewFile = record { name = c.begun.inside.name; place = c.begun.inside.place; room = c.begun.inside.room; blocks_written = c.begun.inside.blocks_written } in
    let lies : IsBegun d b = subst (λ (x : NewFile). IsBegun d x) (sym c.begun.view_is) (c.self.invariant.begun c.if-self.false c.in-Some.begun c.in-Some.is) in
    let inside = write-inside blocks d b is lies c.if-written-room.false in
    omega (arith, inside.1, c.self.invariant.volume.most)

pub write-result-requires : goal.write-result-requires
write-result-requires g c =
    let blocks = g.S.BlockStore.contents c.self.inside.store in
    let d = c.self.inside.directory in
    let kept = c.self.invariant.kept c.if-self.false in
    let is = c.sound_directory.ensures blocks d kept in
    let b : NewFile = record { name = c.begun.inside.name; place = c.begun.inside.place; room = c.begun.inside.room; blocks_written = c.begun.inside.blocks_written } in
    let lies : IsBegun d b = subst (λ (x : NewFile). IsBegun d x) (sym c.begun.view_is) (c.self.invariant.begun c.if-self.false c.in-Some.begun c.in-Some.is) in
    let inside = write-inside blocks d b is lies c.if-written-room.false in
    inside.1

pub invariant_of-self : goal.invariant_of-self
invariant_of-self g c =
    let blocks = g.S.BlockStore.contents c.self.inside.store in
    let d = c.self.inside.directory in
    let kept = c.self.invariant.kept c.if-self.false in
    let is = c.sound_directory.ensures blocks d kept in
    let b : NewFile = record { name = c.begun.inside.name; place = c.begun.inside.place; room = c.begun.inside.room; blocks_written = c.begun.inside.blocks_written } in
    let lies : IsBegun d b = subst (λ (x : NewFile). IsBegun d x) (sym c.begun.view_is) (c.self.invariant.begun c.if-self.false c.in-Some.begun c.in-Some.is) in
    let inside = write-inside blocks d b is lies c.if-written-room.false in
    let k = b.place + b.blocks_written in
    record {
      segments = λ running. subst (λ bs. AreSegments bs c.self.inside.segments.items) (sym c.in-Ok.ensures.ok) (segments-written blocks c.self.inside.segments.items k c.args.words.now (c.self.invariant.segments c.if-self.false) (omega (arith, inside.0)));
      volume = c.blocks-blocks.ensures.volume;
      kept = λ running. ap (λ bs. directory_of bs) c.in-Ok.ensures.ok ∙ written-directory c.directory_blocks.ensures blocks k c.args.words.now (omega (arith, inside.0)) ∙ kept;
      begun = λ running x same. subst (λ (y : NewFile). IsBegun d y) (some-same _ x same) (record { named = lies.named; room = lies.room; most = omega (arith, c.if-written-room.false) });
    }

pub returns-in-Ok-clause-call : goal.returns-in-Ok-clause-call
returns-in-Ok-clause-call g c =
    let blocks = g.S.BlockStore.contents c.self.inside.store in
    let d = c.self.inside.directory in
    let kept = c.self.invariant.kept c.if-self.false in
    let is = c.sound_directory.ensures blocks d kept in
    let b : NewFile = record { name = c.begun.inside.name; place = c.begun.inside.place; room = c.begun.inside.room; blocks_written = c.begun.inside.blocks_written } in
    let lies : IsBegun d b = subst (λ (x : NewFile). IsBegun d x) (sym c.begun.view_is) (c.self.invariant.begun c.if-self.false c.in-Some.begun c.in-Some.is) in
    let inside = write-inside blocks d b is lies c.if-written-room.false in
    let k = b.place + b.blocks_written in
    let new = g.S.BlockStore.contents c.write-result.new.self in
    let steady : directory_of new ≡ directory_of blocks = ap (λ bs. directory_of bs) c.in-Ok.ensures.ok ∙ written-directory c.directory_blocks.ensures blocks k c.args.words.now (omega (arith, inside.0)) in
    rw (← c.self.view_is) (record {
      running = c.if-self.false;
      begun = b;
      was = c.in-Some.is ∙ ap Some (sym c.begun.view_is);
      short = c.if-written-room.false;
      blocks = c.in-Ok.ensures.ok;
      text = ap (λ bs. run bs b.place (b.blocks_written + 1)) c.in-Ok.ensures.ok ∙ text-more blocks b.place b.blocks_written c.args.words.now inside.1;
      kept = record {
        count = ap (λ (bs : List (List ℕ)). length bs) c.in-Ok.ensures.ok ∙ length-set blocks k c.args.words.now;
        segments = λ j low high. ap (λ bs. block bs j) c.in-Ok.ensures.ok ∙ get_or-set_other blocks k j c.args.words.now [] (omega (arith, inside.0, high));
        directory = steady;
      };
      others_kept = written-keeps blocks new k c.args.words.now (omega (arith, inside.0)) c.in-Ok.ensures.ok;
      capacity = c.directory_numbers.ensures.capacity new d (steady ∙ kept) ∙ sym (c.directory_numbers.ensures.capacity blocks d kept);
      limit = c.directory_numbers.ensures.limit new d (steady ∙ kept) ∙ sym (c.directory_numbers.ensures.limit blocks d kept);
      info = info-of new d (steady ∙ kept) ∙ sym (info-of blocks d kept);
      above = c.directory_numbers.ensures.above new d (steady ∙ kept) ∙ sym (c.directory_numbers.ensures.above blocks d kept);
      files = ap (λ bs. files_of bs) c.in-Ok.ensures.ok ∙ written-files c.directory_blocks.ensures c.files_found.ensures c.rooms.ensures.lie c.rooms.ensures.outside blocks d b c.args.words.now kept is lies c.if-written-room.false;
      others = rw (c.write-result.ensures.reads, c.write-result.ensures.writes, c.write-result.ensures.failed_reads, c.in-Ok.ensures.failed_writes) refl;
    })

pub returns-in-Err-clause-call : goal.returns-in-Err-clause-call
returns-in-Err-clause-call g c =
    let blocks = g.S.BlockStore.contents c.self.inside.store in
    let d = c.self.inside.directory in
    let old = c.args.self.now in
    let same : old.blocks ≡ blocks = ap (λ (m : MountState). m.blocks) (sym c.self.view_is) in
    let kept : directory_of old.blocks ≡ Ok d = subst (λ bs. directory_of bs ≡ Ok d) (sym same) (c.self.invariant.kept c.if-self.false) in
    let is = c.sound_directory.ensures old.blocks d kept in
    let b : NewFile = record { name = c.begun.inside.name; place = c.begun.inside.place; room = c.begun.inside.room; blocks_written = c.begun.inside.blocks_written } in
    let lies : IsBegun d b = subst (λ (x : NewFile). IsBegun d x) (sym c.begun.view_is) (c.self.invariant.begun c.if-self.false c.in-Some.begun c.in-Some.is) in
    let kept' = c.self.invariant.kept c.if-self.false in
    write-failed c.directory_blocks.ensures c.files_found.ensures c.rooms.ensures.lie c.rooms.ensures.outside old _ d b c.in-Err.ensures.err.words
    (ap (λ (m : MountState). m.stopped) (sym c.self.view_is) ∙ c.if-self.false)
    (ap (λ (m : MountState). m.tentative) (sym c.self.view_is) ∙ c.in-Some.is ∙ ap Some (sym c.begun.view_is))
    kept is lies c.if-written-room.false
    (c.in-Err.ensures.err.rest ∙ ap (λ bs. slice_set bs (b.place + b.blocks_written) c.in-Err.ensures.err.words) (sym same))
    (c.write-result.ensures.writes ∙ ap (λ (m : MountState). next_count m.writes) c.self.view_is)
    (rw (← c.self.view_is, c.write-result.ensures.reads, c.write-result.ensures.failed_reads, c.in-Err.ensures.failed_writes) (ap (λ r. record {
      blocks = g.S.BlockStore.contents c.write-result.new.self;
      reads = g.S.BlockStore.reads c.self.inside.store;
      writes = g.S.BlockStore.writes c.write-result.new.self;
      failed_reads = g.S.BlockStore.failed_reads c.self.inside.store;
      failed_writes = g.S.BlockStore.failed_writes c.self.inside.store + 1;
      stopped = true;
      last = directory_or r;
      holds = c.self.inside.holds.items;
      tentative = c.self.inside.tentative;
    }) (sym kept')))
