-- Each way out has the tests before it: the ranges, then the two lengths against the sizes that the settings ask.
use Prim.Native.Nat.{ℕ}
use mathlib.Core.Path.{◌≡◌, refl, sym, ◌∙◌}
use mathlib.Core.Bool.{Bool, true, false}
use borrow.Author.Tests.{eq-eqb, ne_eqb}
use Rattle.std.specs.Prelude.{Ok, Err, Option}
use Rattle.std.specs.Bool.{then_some}
use Rattle.std.specs.Option.{ok_or}
use Rattle.std.proofs.lemmas.Bool.{false_from_ne_true}
use Rattle.std.proofs.lemmas.Result.{err_from_is_err_and}
use Rattle.rules.proofs.Placing.{list_good}
use Rattle.rules.proofs.Refusals.{fits}
use Rattle.rules.specs.declared.Refusal.{Refusal}
use Rattle.rules.specs.declared.Refusal.TheVariants.{BadSettings}
use Rattle.rules.specs.Table.{memory_refusal, in_range, list_in_range, refuse, sized}
use Rattle.settings.proofs.refuse_sizes.Goals as goal
use Rattle.settings.proofs.refuse_sizes.Goals.{then-counters-asked-via-then-counters-asked, then-counters-asked-via-else-counters-asked+then-slots-slots_asked}

-- how a list that is good or not goes on
asked_err : (good : Bool) (size : ℕ) {o : Option ℕ} {e : Refusal} → o ≡ then_some good size → Err e ≡ ok_or o BadSettings → (good ≡ false) × (e ≡ BadSettings)
asked_err true size o is = absurd (cc (rw o at is))
asked_err false size o is = (refl, cc (rw o at is))

asked_ok : (good : Bool) (size : ℕ) {o : Option ℕ} {n : ℕ} → o ≡ then_some good size → Ok n ≡ ok_or o BadSettings → (good ≡ true) × (n ≡ size)
asked_ok true size o is = (refl, cc (rw o at is))
asked_ok false size o is = absurd (cc (rw o at is))

pub returns-in_err-asked : goal.returns-in_err-asked
unfolding memory_refusal refuse
returns-in_err-asked c m _ _ =
    let p = err_from_is_err_and c.from_residual.result c.from_residual.ensures.1 in
    let none = asked_err (list_in_range c.args.settings.d) _ c.filters_asked.ensures c.in_err-asked.ensures.value in
    rw (p.1, p.2, none.1) (simp (false_from_ne_true (in_range c.args.settings) (λ good. absurd (cc (list_good c.args.settings good, none.0)))))

pub returns-then-not-is_in_range : goal.returns-then-not-is_in_range
unfolding memory_refusal refuse
returns-then-not-is_in_range c m _ _ = simp (sym c.is_in_range.ensures ∙ c.if-not-is_in_range.true)

pub returns-then-counters-asked : goal.returns-then-counters-asked
unfolding memory_refusal refuse sized
returns-then-counters-asked c m counters slots =
    let asked = asked_ok (list_in_range c.args.settings.d) _ c.filters_asked.ensures c.in_ok-asked.ensures.value in
    let good = sym c.is_in_range.ensures ∙ c.if-not-is_in_range.false in
    elim c.then-counters-asked.branch [
      | then-counters-asked-via-then-counters-asked w ↦ simp (good, ne_eqb _ _ (λ e. w.if-counters-asked.true (sym counters ∙ e ∙ sym asked.1)))
      | then-counters-asked-via-else-counters-asked+then-slots-slots_asked w ↦ simp (good, eq-eqb _ _ (counters ∙ w.if-counters-asked.false ∙ asked.1), ne_eqb _ _ (λ e. w.if-slots-slots_asked.true (sym slots ∙ e ∙ sym w.slots_asked.ensures)))
    ]

pub returns : goal.returns
returns c m counters slots =
    let asked = asked_ok (list_in_range c.args.settings.d) _ c.filters_asked.ensures c.in_ok-asked.ensures.value in
    sym (fits _ _ _ (record {
      range = sym c.is_in_range.ensures ∙ c.if-not-is_in_range.false;
      counters_fit = counters ∙ c.if-counters-asked.false ∙ asked.1;
      slots_fit = slots ∙ c.if-slots-slots_asked.false ∙ c.slots_asked.ensures;
    }) 0)
