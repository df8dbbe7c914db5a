use Rattle.std.proofs.Common.{rules, inl, inr, refl}
use Rattle.change_commands.proofs.copying.find_like.Goals as goal

pub returns-in_err-wishes : goal.returns-in_err-wishes
returns-in_err-wishes g c = inl (search rules)

pub returns : goal.returns
returns g c = inr (record { given = c.in_ok-wishes.wishes; between = g.H.Host.history c.args.host.now; done = (search rules, refl); after = search rules })
