use Rattle.std.proofs.Common.{◌≤◌, ◌-◌, ◌<◌, ◌≡◌, arith}
use Rattle.os8_dir.proofs.NameLemmas.{place-fits, place-some, digit-small, digit-fits-before}
use Rattle.os8_dir.proofs.names.+number_of_codes.Goals as goal

pub pow-requires : goal.pow-requires
pow-requires t c =
    let small : c.from-in-len1-up.result - 1 ≤ 5 = omega arith in
    omega (arith, place-fits (c.from-in-len1-up.result - 1) small)

pub overflow_mul-result : goal.overflow_mul-result
overflow_mul-result t c =
    let small : c.from-in-len1-up.result - 1 ≤ 5 = omega arith in
    let fits : c.pow.result ≤ 1073741824 = omega (arith, place-fits (c.from-in-len1-up.result - 1) small) in
    omega (arith, digit-small c.from.result c.pow.result (omega (arith, c.in_ok-code-in-len1-up.ensures)) fits)

pub overflow_add-result : goal.overflow_add-result
overflow_add-result t c =
    let small : c.from-in-len1-up.result - 1 ≤ 5 = omega arith in
    let same : c.from-in-len1-up.result - 1 ≡ c.args.size - 1 = omega arith in
    let fits : c.pow.result ≤ 1073741824 = omega (arith, place-fits (c.from-in-len1-up.result - 1) small) in
    omega (arith, digit-small c.from.result c.pow.result (omega (arith, c.in_ok-code-in-len1-up.ensures)) fits, c.in_ok-following-in-len1-up.ensures.range, rw same at c.pow.ensures)

pub returns-in-empty-clause-range : goal.returns-in-empty-clause-range
returns-in-empty-clause-range t c = place-some c.args.size

pub returns-in_ok-following-in-len1-up-clause-range : goal.returns-in_ok-following-in-len1-up-clause-range
returns-in_ok-following-in-len1-up-clause-range t c =
    let same : c.from-in-len1-up.result - 1 ≡ c.args.size - 1 = omega arith in
    let some : 0 < c.args.size = omega arith in
    let digit : c.from.result < 64 = omega (arith, c.in_ok-code-in-len1-up.ensures) in
    rw (c.pow.ensures, same) (digit-fits-before c.args.size c.from.result c.in_ok-following-in-len1-up.following some digit c.in_ok-following-in-len1-up.ensures.range)
