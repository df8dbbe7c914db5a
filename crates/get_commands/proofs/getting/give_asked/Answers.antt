use Rattle.std.proofs.Common.{rules, inl, inr, refl}
use Rattle.get_commands.proofs.getting.give_asked.Goals as goal

pub returns-in_err-wishes : goal.returns-in_err-wishes
returns-in_err-wishes g c = inr (record { given = c.in_ok-files.files; between = g.H.Host.history c.args.host.now; done = (c.in_ok-files.ensures, refl); after = inl (search rules) })

pub returns-in_err-make_folder : goal.returns-in_err-make_folder
returns-in_err-make_folder g c = inr (record { given = c.in_ok-files.files; between = g.H.Host.history c.args.host.now; done = (c.in_ok-files.ensures, refl); after = inr (record { given = c.in_ok-wishes.wishes; between = g.H.Host.history c.args.host.now; done = (rw c.deref.ensures.value at c.in_ok-wishes.ensures, refl); after = inl (search rules) }) })

pub returns-in_err-are_there : goal.returns-in_err-are_there
returns-in_err-are_there g c = inr (record { given = c.in_ok-files.files; between = g.H.Host.history c.args.host.now; done = (c.in_ok-files.ensures, refl); after = inr (record { given = c.in_ok-wishes.wishes; between = g.H.Host.history c.args.host.now; done = (rw c.deref.ensures.value at c.in_ok-wishes.ensures, refl); after = inr (record { given = tt; between = g.H.Host.history c.make_folder.new.host; done = search rules; after = inl (search rules) }) }) })

pub returns : goal.returns
returns g c = inr (record { given = c.in_ok-files.files; between = g.H.Host.history c.args.host.now; done = (c.in_ok-files.ensures, refl); after = inr (record { given = c.in_ok-wishes.wishes; between = g.H.Host.history c.args.host.now; done = (rw c.deref.ensures.value at c.in_ok-wishes.ensures, refl); after = inr (record { given = tt; between = g.H.Host.history c.make_folder.new.host; done = search rules; after = inr (record { given = c.in_ok-are_there.are_there; between = g.H.Host.history c.give_all.new.host; done = search rules; after = (c.end_sound.ensures, refl) }) }) }) })
