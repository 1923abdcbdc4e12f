-- `text_requests::item_at` meets its contract: the arm says which case of `item` it is, and what `number_at` answered is the number there.
use Prim.Native.Nat.{◌*◌, ◌%◌, ◌^◌, ◌<◌}
use mathlib.Core.Path.{sym, ◌≡◌}
use native.Mathlib.Omega.{arith}
use borrow.Author.Tests.{ne_eqb}
use Rattle.std.proofs.Common.{◌≢◌}
use Rattle.std.proofs.lemmas.Nat.{or_shifted}
use Rattle.text_requests.specs.Shapes.{item, set_octet, set_length, set_hop}
use Rattle.text_requests.proofs.Digits.{number_most}
use Rattle.text_requests.proofs.item_at.Goals as goal

pub returns-in_err-octet-in-79 : goal.returns-in_err-octet-in-79
unfolding item set_octet set_length set_hop
returns-in_err-octet-in-79 c =
    let told = sym c.in_err-octet-in-79.ensures in
    simp (c.from_residual.ensures, c.in-79.is, told)

pub returns-in_ok-octet-in-79 : goal.returns-in_ok-octet-in-79
unfolding item set_octet set_length set_hop
returns-in_ok-octet-in-79 c =
    let a = c.args in
    let told = sym c.in_ok-octet-in-79.ensures in
    let octet = c.in_ok-octet-in-79.octet in
    let moved : a.numbers.address * 256 % 4294967296 ≡ a.numbers.address % 16777216 * 256 = omega arith in
    let low : octet < 2 ^ 8 = omega (arith, number_most a.line.now a.at 255 told) in
    simp (c.in-79.is, told, moved, or_shifted (a.numbers.address % 16777216) 8 octet low)

pub returns-in_err-length-in-76 : goal.returns-in_err-length-in-76
unfolding item set_octet set_length set_hop
returns-in_err-length-in-76 c =
    let told = sym c.in_err-length-in-76.ensures in
    simp (c.from_residual-in_err-length-in-76.ensures, c.in-76.is, told)

pub returns-in_ok-length-in-76 : goal.returns-in_ok-length-in-76
unfolding item set_octet set_length set_hop
returns-in_ok-length-in-76 c =
    let told = sym c.in_ok-length-in-76.ensures in
    simp (c.in-76.is, told)

pub returns-in_err-hop-in-72 : goal.returns-in_err-hop-in-72
unfolding item set_octet set_length set_hop
returns-in_err-hop-in-72 c =
    let told = sym c.in_err-hop-in-72.ensures in
    simp (c.from_residual-in_err-hop-in-72.ensures, c.in-72.is, told)

pub returns-in_ok-hop-in-72 : goal.returns-in_ok-hop-in-72
unfolding item set_octet set_length set_hop
returns-in_ok-hop-in-72 c =
    let told = sym c.in_ok-hop-in-72.ensures in
    simp (c.in-72.is, told)

pub returns-in_err-get-in_default : goal.returns-in_err-get-in_default
unfolding item
returns-in_err-get-in_default c =
    let octet : c.args.shape ≢ 79 = omega arith in
    let length : c.args.shape ≢ 76 = omega arith in
    let hop : c.args.shape ≢ 72 = omega arith in
    let past = c.in_err-get-in_default.ensures.lookup.0 in
    simp (c.from_residual-in_err-get-in_default.ensures, ne_eqb _ _ octet, ne_eqb _ _ length, ne_eqb _ _ hop, sym past)

pub returns-in_ok-get-in_default : goal.returns-in_ok-get-in_default
unfolding item
returns-in_ok-get-in_default c =
    let octet : c.args.shape ≢ 79 = omega arith in
    let length : c.args.shape ≢ 76 = omega arith in
    let hop : c.args.shape ≢ 72 = omega arith in
    let lookup = c.in_ok-get-in_default.ensures.lookup in
    let there = lookup.3.1 0 in
    simp (c.then_some.ensures, ne_eqb _ _ octet, ne_eqb _ _ length, ne_eqb _ _ hop, sym lookup.0, there)
