use Rattle.std.proofs.Common.{◌≡◌, false, true, None, Some, Ok, refl, ap, sym, subst, ◌∙◌, inl, inr}
use Rattle.std.proofs.lemmas.Bool.{ltb-true}
use Rattle.std.specs.FinMap.{get}
use Rattle.std.specs.Option.{is_some}
use Rattle.os8_dir.specs.Entries.{IsNamed}
use Rattle.os8_dir.specs.Reading.{directory_of}
use Rattle.os8_dir.specs.Found.{files_at, find}
use Rattle.os8_dir.specs.Files.{files_of, data_if_there}
use Rattle.os8_files.specs.Mounted.{MountState, NewFile}
use Rattle.os8_files.specs.Calls.{IsReady}
use Rattle.os8_files.proofs.CallLemmas.{some-of, none-of, held-none, found-some}
use Rattle.os8_files.proofs.service.FileService.rename.Goals as goal

pub returns-then-is_some : goal.returns-then-is_some
returns-then-is_some g c =
    let named : IsNamed c.args.new_name = ltb-true 0 _ (sym c.has_first_word.ensures ∙ c.if-not-has_first_word.false) in
    let s = some-of c.self.inside.tentative (sym c.is_some.ensures ∙ c.if-is_some.true) in
    subst (λ (m : MountState). (m.stopped ≡ false) × IsNamed c.args.new_name × (x : NewFile) × (m.tentative ≡ Some x) × (m ≡ m)) c.self.view_is (c.if-self.false, named, s.0, s.1, refl)

pub returns-then-is_none : goal.returns-then-is_none
returns-then-is_none g c =
    let named : IsNamed c.args.new_name = ltb-true 0 _ (sym c.has_first_word.ensures ∙ c.if-not-has_first_word.false) in
    let blocks = g.S.BlockStore.contents c.self.inside.store in
    let d = c.self.inside.directory in
    let out : is_some c.find.result ≡ false = c.is_none.ensures ∙ rw c.if-is_none.true refl in
    subst (λ (m : MountState). IsReady m × IsNamed c.args.new_name × (get (files_of m.blocks) c.args.name.now ≡ None) × (m ≡ m)) c.self.view_is (
      record { running = c.if-self.false; none = none-of c.self.inside.tentative (sym c.is_some.ensures ∙ c.if-is_some.false) },
      named,
      c.files_found.ensures blocks d c.args.name.now (c.self.invariant.kept c.if-self.false) ∙ held-none blocks d.info (find c.args.name.now (files_at d.first d.entries)) (sym c.find.ensures ∙ none-of c.find.result out),
      refl,
    )

pub returns-then-is_held : goal.returns-then-is_held
returns-then-is_held g c =
    let named : IsNamed c.args.new_name = ltb-true 0 _ (sym c.has_first_word.ensures ∙ c.if-not-has_first_word.false) in
    let d = c.self.inside.directory in
    let name = c.args.name.now in
    let old = c.args.self.now in
    let kept : directory_of old.blocks ≡ Ok d = subst (λ (m : MountState). directory_of m.blocks ≡ Ok d) c.self.view_is (c.self.invariant.kept c.if-self.false) in
    let ready : IsReady old = subst (λ (m : MountState). IsReady m) c.self.view_is (record { running = c.if-self.false; none = none-of c.self.inside.tentative (sym c.is_some.ensures ∙ c.if-is_some.false) }) in
    let there : is_some c.find.result ≡ true = c.is_none.ensures ∙ rw c.if-is_none.false refl in
    let p = some-of c.find.result there in
    let f = found-some (find name (files_at d.first d.entries)) p.0.0 p.0.1 (sym c.find.ensures ∙ p.1) in
    (ready, named, (_, c.files_found.ensures old.blocks d name kept ∙ ap (data_if_there old.blocks d.info) f.1), inl (refl, sym c.is_held.ensures ∙ c.if-is_held.true), refl)

pub returns-then-is_held-2 : goal.returns-then-is_held-2
returns-then-is_held-2 g c =
    let named : IsNamed c.args.new_name = ltb-true 0 _ (sym c.has_first_word.ensures ∙ c.if-not-has_first_word.false) in
    let d = c.self.inside.directory in
    let name = c.args.name.now in
    let old = c.args.self.now in
    let kept : directory_of old.blocks ≡ Ok d = subst (λ (m : MountState). directory_of m.blocks ≡ Ok d) c.self.view_is (c.self.invariant.kept c.if-self.false) in
    let ready : IsReady old = subst (λ (m : MountState). IsReady m) c.self.view_is (record { running = c.if-self.false; none = none-of c.self.inside.tentative (sym c.is_some.ensures ∙ c.if-is_some.false) }) in
    let there : is_some c.find.result ≡ true = c.is_none.ensures ∙ rw c.if-is_none.false refl in
    let p = some-of c.find.result there in
    let f = found-some (find name (files_at d.first d.entries)) p.0.0 p.0.1 (sym c.find.ensures ∙ p.1) in (
      ready,
      named,
      (_, c.files_found.ensures old.blocks d name kept ∙ ap (data_if_there old.blocks d.info) f.1),
      inr (refl, sym c.is_held.ensures ∙ c.if-is_held.false, sym c.is_held-2.ensures ∙ c.if-is_held-2.true),
      refl,
    )

pub give_name-requires-clause-there : goal.give_name-requires-clause-there
give_name-requires-clause-there g c =
    let d = c.self.inside.directory in
    let name = c.args.name.now in
    let old = c.args.self.now in
    let kept : directory_of old.blocks ≡ Ok d = subst (λ (m : MountState). directory_of m.blocks ≡ Ok d) c.self.view_is (c.self.invariant.kept c.if-self.false) in
    let there : is_some c.find.result ≡ true = c.is_none.ensures ∙ rw c.if-is_none.false refl in
    let p = some-of c.find.result there in
    let f = found-some (find name (files_at d.first d.entries)) p.0.0 p.0.1 (sym c.find.ensures ∙ p.1) in
    (_, c.files_found.ensures old.blocks d name kept ∙ ap (data_if_there old.blocks d.info) f.1)
