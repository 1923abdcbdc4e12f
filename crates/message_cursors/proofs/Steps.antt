-- What a step gives, by what stands at the cursor.
use Prim.Native.Nat.{ℕ, ◌+◌, ◌≤◌, ◌<◌}
use mathlib.Core.Path.{◌≡◌, refl, subst, ap}
use mathlib.Core.Bool.{Bool, true, false, not, ◌&&◌}
use mathlib.Core.List.{List}
use lib.ListN.{length}
use lib.Dec.{ltb, leb}
use native.Mathlib.Omega.{arith}
use borrow.Author.Tests.{leb-true, ltb-true, ltb-false, lt-ltb, le-ltb}
use Rattle.rules.specs.Table.{refuse}
use Rattle.rules.proofs.Members.{both}
use Rattle.message_format.specs.Format.{prefix_fits, value_from, value_size, after_attribute, attribute_fits}
use Rattle.std.specs.Prelude.{Result, Ok, Err, Option, Some, None}
use Rattle.rules.specs.declared.Refusal.{Refusal}
use Rattle.rules.specs.declared.Refusal.TheVariants.{Malformed}
use Rattle.rules.specs.Numbers.{number_given}
use Rattle.message_cursors.specs.declared.Cursor.{Cursor}
use Rattle.message_cursors.specs.declared.PrefixRead.{PrefixRead}
use Rattle.message_cursors.specs.declared.AttributeRead.{AttributeRead}
use Rattle.message_cursors.specs.Steps.{step, read_prefix, next_prefix, read_attribute, next_attribute}

-- ---- A step, by what is tested

module _ {A : Type 0} (size at end : ℕ) (fits : Bool) (read : A) where
  abbrev stepped : Result (Option A) Refusal
  stepped = step size at end fits read

  pub outside : size < end → stepped ≡ Err Malformed
  unfolding step
  outside l = simp (lt-ltb _ _ l)

  module _ (inside : end ≤ size) where
    pub ended : end ≤ at → stepped ≡ Ok None
    unfolding step
    ended e = simp (le-ltb _ _ inside, le-ltb _ _ e)

    module _ (more : at < end) where
      pub faulty : fits ≡ false → stepped ≡ Err Malformed
      unfolding step
      faulty f = simp (le-ltb _ _ inside, lt-ltb _ _ more, f)

      pub moved : fits ≡ true → stepped ≡ Ok (Some read)
      unfolding step
      moved f = simp (le-ltb _ _ inside, lt-ltb _ _ more, f)

    -- whatever is so in each of the three cases is so of the step
    pub by_step : (P : Result (Option A) Refusal → Type 0) → (at < end → fits ≡ true → P (Ok (Some read))) → (end ≤ at → P (Ok None)) → (at < end → fits ≡ false → P (Err Malformed)) → P stepped
    by_step P reads ends faults = go (ltb at end) fits refl refl
      where
        go : (l f : Bool) → ltb at end ≡ l → fits ≡ f → P stepped
        go true true el ef = rw (moved (ltb-true _ _ el) ef) (reads (ltb-true _ _ el) ef)
        go true false el ef = rw (faulty (ltb-true _ _ el) ef) (faults (ltb-true _ _ el) ef)
        go false f el ef = rw (ended (ltb-false _ _ el)) (ends (ltb-false _ _ el))

    -- a step has number 12 exactly if something is left that does not fit
    pub step_number : number_given stepped ≡ refuse (ltb at end && not fits) 12 0
    unfolding refuse
    step_number = by_step (λ answer. number_given answer ≡ refuse (ltb at end && not fits) 12 0)
        (λ more fit. rw (lt-ltb _ _ more, fit) refl)
        (λ past. rw (le-ltb _ _ past) refl)
        (λ more unfit. rw (lt-ltb _ _ more, unfit) refl)

-- ---- What a step's answer means, and what it tells

-- A step is refused with 12 exactly where a prefix is left that does not fit,
pub prefix_refused : (bytes : List ℕ) (c : Cursor) → c.end ≤ length bytes
    → number_given (next_prefix bytes c) ≡ refuse (ltb c.at c.end && not (prefix_fits bytes c.at c.end)) 12 0
unfolding next_prefix
prefix_refused bytes c inside = step_number _ _ _ _ _ inside

-- or an attribute.
pub attribute_refused : (bytes : List ℕ) (c : Cursor) → c.end ≤ length bytes
    → number_given (next_attribute bytes c) ≡ refuse (ltb c.at c.end && not (attribute_fits bytes c.at c.end)) 12 0
unfolding next_attribute
attribute_refused bytes c inside = step_number _ _ _ _ _ inside

-- something is left at the cursor, and it fits
pub record Moved {A : Type 0} (c : Cursor) (good : Bool) (there here : A) : Type 0 where
  pub more : c.at < c.end
  pub fits : good ≡ true
  pub read : here ≡ there

-- what an answer tells: what was read there, that nothing is left, or that what is left does not fit
abbrev pub Told : {A : Type 0} → Cursor → (good : Bool) (there : A) → Result (Option A) Refusal → Type 0
Told c good there (Ok (Some here)) = Moved c good there here
Told c good there (Ok None) = c.end ≤ c.at
Told c good there (Err e) = (e ≡ Malformed) × ((c.at < c.end) × (good ≡ false))

told : {A : Type 0} {size : ℕ} (c : Cursor) (good : Bool) (there : A) → c.end ≤ size → {answer : Result (Option A) Refusal} → step size c.at c.end good there ≡ answer
    → Told c good there answer
told c good there inside given =
    subst (Told c good there) given
    (by_step _ _ _ _ _ inside (Told c good there)
    (λ more fits. record { more = more; fits = fits; read = refl })
    (λ e. e)
    (λ more fault. (refl, (more, fault))))

pub prefix_told : (bytes : List ℕ) (c : Cursor) → c.end ≤ length bytes → {answer : Result (Option PrefixRead) Refusal} → next_prefix bytes c ≡ answer
    → Told c (prefix_fits bytes c.at c.end) (read_prefix bytes c) answer
unfolding next_prefix
prefix_told bytes c inside given = told _ _ _ inside given

pub attribute_told : (bytes : List ℕ) (c : Cursor) → c.end ≤ length bytes → {answer : Result (Option AttributeRead) Refusal} → next_attribute bytes c ≡ answer
    → Told c (attribute_fits bytes c.at c.end) (read_attribute bytes c) answer
unfolding next_attribute
attribute_told bytes c inside given = told _ _ _ inside given

-- a value of four bytes is there to be read
pub value_inside : (bytes : List ℕ) (c : Cursor) {read : AttributeRead} → Moved c (attribute_fits bytes c.at c.end) (read_attribute bytes c) read → read.size ≡ 4 → c.end ≤ length bytes
    → read.from + 4 ≤ length bytes
unfolding attribute_fits after_attribute read_attribute
value_inside bytes c m four inside =
    let over : value_from bytes c.at + value_size bytes c.at ≤ c.end = leb-true _ _ (both (leb (value_from bytes c.at) c.end) _ m.fits).1 in
    rw m.read (omega (arith, ap (λ (r : AttributeRead). r.size) m.read, four))
