use Rattle.std.proofs.Common.{Some, None}
use Rattle.archive_files.proofs.CopyLemmas.{copied, not-copied, put-result}
use Rattle.archive_files.proofs.copying.copy.Goals as goal
use Rattle.archive_files.proofs.copying.copy.Goals.{in-Some, in-None}

pub returns-in-Err-put : goal.returns-in-Err-put
returns-in-Err-put c = elim c.match-new_name.branch [
  | in-Some w ↦ rw w.in-Some.is (not-copied c.args.from.now c.args.to.now _ (Some w.in-Some.other.now) c.in-Ok.file c.in-Err-put.fault c.in-Ok.ensures
      (put-result c.args.to.now _ c.in-Ok.file.info c.in-Ok.file.words.items w.deref.result.now c.match-new_name.put w.put_typed-put.result _ w.put-is c.in-Err-put.is w.deref.ensures.value w.put_typed-put.ensures))
  | in-None w ↦ rw w.in-None.is (not-copied c.args.from.now c.args.to.now _ None c.in-Ok.file c.in-Err-put.fault c.in-Ok.ensures
      (put-result c.args.to.now _ c.in-Ok.file.info c.in-Ok.file.words.items w.deref-in-None.result.now c.match-new_name.put w.put_blocks-put.result _ w.put-is c.in-Err-put.is w.deref-in-None.ensures.value w.put_blocks-put.ensures))
]

pub returns : goal.returns
returns c = elim c.match-new_name.branch [
  | in-Some w ↦ rw w.in-Some.is (copied c.args.from.now c.args.to.now _ (Some w.in-Some.other.now) c.in-Ok.file c.in-Ok-put.new c.in-Ok.ensures
      (put-result c.args.to.now _ c.in-Ok.file.info c.in-Ok.file.words.items w.deref.result.now c.match-new_name.put w.put_typed-put.result _ w.put-is c.in-Ok-put.is w.deref.ensures.value w.put_typed-put.ensures))
  | in-None w ↦ rw w.in-None.is (copied c.args.from.now c.args.to.now _ None c.in-Ok.file c.in-Ok-put.new c.in-Ok.ensures
      (put-result c.args.to.now _ c.in-Ok.file.info c.in-Ok.file.words.items w.deref-in-None.result.now c.match-new_name.put w.put_blocks-put.result _ w.put-is c.in-Ok-put.is w.deref-in-None.ensures.value w.put_blocks-put.ensures))
]
