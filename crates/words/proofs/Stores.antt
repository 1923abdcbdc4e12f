-- Cells that are put one after the other.
use Prim.Native.Nat.{ℕ, suc, ◌+◌, ◌*◌, ◌<◌}
use mathlib.Core.Path.{◌≡◌, sym, ap, ◌∙◌}
use mathlib.Core.List.{List, [], ◌∷◌, ◌++◌}
use native.Mathlib.Omega.{arith}
use lib.ListN.{length, set, take, get_or}
use lib.Seq.{sets}
use Rattle.std.proofs.lemmas.List.{take_more, length-take-le}

-- stores that follow on others
pub sets_append : {A : Type 0} (d : List A) (place : ℕ) (one other : List A) → sets (sets d place one) (place + length one) other ≡ sets d place (one ++ other)
sets_append d place [] other = ap (λ (at : ℕ). sets d at other) (omega arith)
sets_append d place (n ∷ one) other =
    ap (λ (at : ℕ). sets (sets d place (n ∷ one)) at other) (omega arith) ∙ sets_append (set d place n) (suc place) one other

-- the cells of the first i words are put
pub record Put {A : Type 0} (cells : List ℕ → List A) (d : List A) (at : ℕ) (words : List ℕ) (now : List A) (i : ℕ) : Type 0 where
  pub put : now ≡ sets d at (cells (take i words))

pub put_more : {A : Type 0} {cells : List ℕ → List A} (wide : ℕ)
    → ((one other : List ℕ) → cells (one ++ other) ≡ cells one ++ cells other) → ((list : List ℕ) → length (cells list) ≡ wide * length list)
    → {d now next : List A} {at i : ℕ} {words : List ℕ} → Put cells d at words now i → i < length words
    → next ≡ sets now (at + wide * i) (cells (get_or words i 0 ∷ [])) → Put cells d at words next (i + 1)
put_more {cells} wide append size {d} {at} {i} {words} so_far h e =
    let before = take i words in
    let fresh = cells (get_or words i 0 ∷ []) in
    let reach : at + wide * i ≡ at + length (cells before) = ap (λ (n : ℕ). at + n) (sym (size before ∙ ap (λ (n : ℕ). wide * n) (length-take-le i words (omega arith)))) in
    record { put = e ∙ rw (so_far.put, reach, take_more words i 0 h, append before (get_or words i 0 ∷ [])) (sets_append d at (cells before) fresh) }
