-- What is left decides, after the hop that was found: `Reading`.
use Prim.Native.Nat.{ℕ, ◌+◌, ◌-◌}
use mathlib.Core.List.{List}
use mathlib.Core.Path.{◌≡◌, sym, ap}
use native.Mathlib.Omega.{arith}
use borrow.Author.Rules.{rules}
use Rattle.std.proofs.lemmas.Result.{err_from_is_err_and}
use Rattle.message_format.specs.Format.{two_bytes}
use Rattle.import_format.specs.Routes.{after_entry, entry_attributes}
use Rattle.import_format.proofs.Entries.{entry_later}
use Rattle.import_readers.proofs.Entries.{first_of, begun, ended, left_over, over, broken, goes_on}
use Rattle.import_readers.proofs.read_entries.Goals as goal

-- where the entry at hand ends
ends : (bytes : List ℕ) (at size : ℕ) → size ≡ two_bytes bytes (at + 6) → at + 8 + size ≡ after_entry bytes at
unfolding after_entry entry_attributes
ends bytes at size e = ap (λ (size : ℕ). at + 8 + size) e

pub loop-init : goal.loop-init
loop-init c = let all : c.args.many - 0 ≡ c.args.many = omega arith in rw all (begun _ _ _ _ c.requires)

pub returns-then-bytes-at-lt8 : goal.returns-then-bytes-at-lt8
returns-then-bytes-at-lt8 c =
    sym (over c.loop.invariant (omega (arith, c.loop-test.true)) (omega (arith, entry_later c.args.bytes.now c.loop.at, c.if-bytes-at-lt8.true)))

pub returns-then-bytes-attributes : goal.returns-then-bytes-attributes
returns-then-bytes-attributes c =
    sym (over c.loop.invariant (omega (arith, c.loop-test.true)) (omega (arith, ends _ _ _ c.two_bytes-size.ensures, c.if-bytes-attributes.true)))

pub returns-in_err-next_hop : goal.returns-in_err-next_hop
returns-in_err-next_hop c =
    let handed = err_from_is_err_and c.from_residual.result c.from_residual.ensures.1 in
    rw (handed.1, handed.2) (sym (broken c.loop.invariant (omega (arith, c.loop-test.true)) (ends _ _ _ c.two_bytes-size.ensures) (sym c.in_err-next_hop.ensures)))

pub loop-preserved : goal.loop-preserved
unfolding first_of
loop-preserved c =
    let fewer : c.args.many - (c.loop.counter + 1) ≡ c.args.many - c.loop.counter - 1 = omega arith in
    rw fewer (goes_on c.loop.invariant (omega (arith, c.loop-test.true)) (ends _ _ _ c.two_bytes-size.ensures) (omega (arith, c.if-bytes-attributes.false)) (sym c.in_ok-next_hop.ensures)
    (search rules))

pub returns-then-at-bytes : goal.returns-then-at-bytes
returns-then-at-bytes c = sym (left_over c.loop.invariant (omega (arith, c.loop-test.false)) c.if-at-bytes.true)

pub returns : goal.returns
returns c = sym (ended c.loop.invariant (omega (arith, c.loop-test.false)) c.if-at-bytes.false)
