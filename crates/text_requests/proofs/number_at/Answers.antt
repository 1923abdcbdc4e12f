-- `text_requests::number_at` meets its contract. The invariant: the digits passed have written the value.
use Prim.Native.Nat.{◌<◌}
use mathlib.Core.Path.{refl, sym, ◌∙◌}
use mathlib.Core.Logic.{inl, inr}
use native.Mathlib.Omega.{arith}
use lib.ListN.{length, length-drop}
use lib.Seq.{take_all}
use Rattle.std.proofs.lemmas.Bool.Decides.{nat_tests}
use Rattle.text_requests.specs.Shapes.{value}
use Rattle.text_requests.proofs.Digits.{number_past, next_byte, read_more, too_large, read_all}
use Rattle.text_requests.proofs.number_at.Goals as goal

pub returns-in_err-bytes : goal.returns-in_err-bytes
returns-in_err-bytes c =
    let past : length c.args.line.now < c.args.at = elim c.in_err-bytes.ensures.lookup.0 [ inl h ↦ h | inr h ↦ absurd (omega arith) ] in
    c.from_residual.ensures ∙ sym (number_past c.args.line.now c.args.at c.args.most past)

pub loop-b-init : goal.loop-b-init
unfolding value
loop-b-init c =
    record {
      bytes_are = c.in_ok-bytes.ensures.lookup.0.2 ∙ take_all _ _ (omega (arith, length-drop c.args.at c.args.line.now));
      many = c.count_digits-count.ensures;
      writes = refl;
    }

pub overflow_sub-b : goal.overflow_sub-b
overflow_sub-b c = (next_byte c.loop-b.invariant c.loop-b-test.true).0

pub returns-in_err-checked_mul : goal.returns-in_err-checked_mul
returns-in_err-checked_mul c =
    c.from_residual-in_err-checked_mul.ensures ∙ sym (too_large c.loop-b.invariant c.loop-b-test.true c.args.most (omega (arith, c.in_err-checked_mul.ensures)))

pub returns-in_err-value : goal.returns-in_err-value
returns-in_err-value c =
    c.from_residual-in_err-value.ensures ∙ sym (too_large c.loop-b.invariant c.loop-b-test.true c.args.most (omega (arith, c.from.ensures, c.in_ok-checked_mul.ensures, c.in_err-value.ensures)))

pub loop-b-preserved : goal.loop-b-preserved
loop-b-preserved c = read_more c.loop-b.invariant c.loop-b-test.true c.in_ok-value.value (omega (arith, c.from.ensures))

pub returns-then-value-most : goal.returns-then-value-most
returns-then-value-most c = sym (read_all c.loop-b.invariant c.args.most c.loop-b-test.false ∙ grind (arith, nat_tests))

pub returns-then-count-gt1 : goal.returns-then-count-gt1
returns-then-count-gt1 c = sym (read_all c.loop-b.invariant c.args.most c.loop-b-test.false ∙ grind (arith, nat_tests))

pub returns : goal.returns
returns c = sym (read_all c.loop-b.invariant c.args.most c.loop-b-test.false ∙ grind (arith, nat_tests))
