use Rattle.command_table.proofs.Names.{◌&&◌, if◌then◌else◌, ap, codes, false, refl, true, [], ◌∷◌, None, Some, Accepts-accepts}
use Rattle.clap.specs.declared.builder.value_parser.ValueParser.TheVariants.{Unsigned}
use Rattle.command_line.specs.Plain.{only_gives, in_place}
use Rattle.command_line.proofs.GetLemmas.{get-file, get-text, get-tape, get-bin, get-at, get-into, get-lenient, get-all, get-blocks}
use Rattle.command_line.proofs.EnteredLemmas.{all_taken, taken}
use Rattle.command_line.proofs.laws.plain_words.Goals as goal

pub returns : goal.returns
returns c = record {
  tape = λ image file. all_taken _ _ refl;
  rim = λ tape. all_taken _ _ refl;
  source = λ tape start names. all_taken _ _ refl;
  run = λ image text. all_taken _ _ refl;
  create_tape = λ image. all_taken _ _ refl;
  create = λ image blocks fit.
      let uses = in_place (codes "IMAGE") image ∷ in_place (codes "BLOCKS") blocks ∷ [] in
      taken (codes "create") uses (ap (λ b. if (b && true) && true then Some (only_gives (codes "create") uses) else None) (Accepts-accepts false (Unsigned 8 4095) blocks fit));
  list = λ image text. all_taken _ _ refl;
  get = λ image file text. record { each = (get-file image file text, (get-text image file text, (get-tape image file text, (get-bin image file text, (get-at image file text, (get-into image file text, (get-lenient image file text, (get-all image file text, (get-blocks image file text, tt))))))))) };
  put = λ image file text info. all_taken _ _ refl;
  delete = λ image file text. all_taken _ _ refl;
  rename = λ image file new. all_taken _ _ refl;
  copy = λ image file to new. all_taken _ _ refl;
  copy_more = λ image one other third fourth to. all_taken _ _ refl;
  squeeze = λ image text. all_taken _ _ refl;
  assemble = λ file other text. all_taken _ _ refl;
  teletype = λ tape text. all_taken _ _ refl;
  trace = λ tape text. all_taken _ _ refl;
  profile = λ tape text. all_taken _ _ refl;
  boot = λ image text. all_taken _ _ refl;
  check = λ image text. all_taken _ _ refl;
  index = λ image text. all_taken _ _ refl;
  dump = λ image text. all_taken _ _ refl;
  patch = λ image block number old new. all_taken _ _ refl;
  rescue = λ image new text. all_taken _ _ refl;
  scan = λ image. all_taken _ _ refl;
}
