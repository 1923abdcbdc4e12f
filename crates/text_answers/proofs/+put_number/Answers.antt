-- `text_answers::put_number` meets its contract: the last digit goes after those of a tenth of the number, if there are any.
use Rattle.std.proofs.Common.{arith, ◌+◌, ◌%◌, ◌≡◌}
use Rattle.text_answers.proofs.Puts.{put_byte, put_both, put_length}
use Rattle.text_answers.proofs.Decimals.{decimal_one, decimal_more, decimal_fits, tenth_fits}
use Rattle.text_answers.proofs.+put_number.Goals as goal
use Rattle.text_answers.proofs.+put_number.Goals.{then-one_digit, else-one_digit}

pub bounds-out-last : goal.bounds-out-last
bounds-out-last t c =
    let a = c.args in
    elim c.if-one_digit.branch [
      | then-one_digit w ↦ omega arith
      | else-one_digit w ↦ omega (arith, tenth_fits a.n (omega arith), put_length w.put_number-last.ensures.put)
    ]

pub returns : goal.returns
returns t c =
    let a = c.args in
    elim c.if-one_digit.branch [
      | then-one_digit w ↦
          let last : a.n % 10 ≡ a.n = omega arith in
          rw (w.out-is, w.last-is, last) (record {
            put = rw (decimal_one a.n w.if-one_digit.true) (put_byte a.out.now a.at (48 + a.n));
            short = decimal_fits 9 a.n (omega arith);
          })
      | else-one_digit w ↦
          rw (w.out-is, w.last-is) (record {
            put = rw (decimal_more a.n w.if-one_digit.false) (put_both w.put_number-last.ensures.put (put_byte _ _ (48 + a.n % 10)));
            short = decimal_fits 9 a.n (omega arith);
          })
    ]
