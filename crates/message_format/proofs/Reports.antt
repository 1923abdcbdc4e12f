-- What a message is given back tells the call's result: the counts, or which refusal.
use mathlib.Core.Path.{◌≡◌, sym, ap, ◌∙◌}
use Rattle.std.specs.Prelude.{Result, Ok, Err}
use Rattle.rules.specs.declared.Refusal.{Refusal}
use Rattle.rules.proofs.Numbers.{refusal_nonzero, same_refusal}
use Rattle.message_format.specs.declared.Report.{Report as Accepted}
use Rattle.message_format.specs.Reading.{Report}
use Rattle.message_format.specs.Reports.{report_given}

pub same_report : (r s : Result Accepted Refusal) → report_given r ≡ report_given s → r ≡ s
same_report (Ok x) (Ok y) h =
    let accepted = ap (λ (a : Report). a.accepted) h in
    let refused = ap (λ (a : Report). a.refused) h in
    ap (λ n. Ok (record { accepted = n; refused = x.refused })) accepted ∙ ap (λ n. Ok (record { accepted = y.accepted; refused = n })) refused
same_report (Ok x) (Err e) h = absurd (refusal_nonzero e (sym (ap (λ (a : Report). a.refusal) h)))
same_report (Err e) (Ok y) h = absurd (refusal_nonzero e (ap (λ (a : Report). a.refusal) h))
same_report (Err e) (Err f) h = ap Err (same_refusal e f (ap (λ (a : Report). a.refusal) h))
