use Rattle.os8_files.proofs.PutLaws.{plain-puts}
use Rattle.os8_files.proofs.service.FileService.put.Goals as goal

pub returns-clause-call : goal.returns-clause-call
returns-clause-call g c = plain-puts c.args.self.now c.put_file.new.files c.args.name c.args.words.now c.put_file.result c.put_file.ensures.call
