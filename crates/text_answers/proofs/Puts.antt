-- Laws of putting texts: one after the other is one longer text, and no byte more is touched.
use Prim.Native.Nat.{ℕ, suc, ◌+◌, ◌≤◌}
use mathlib.Core.Path.{◌≡◌, refl, ap, sym, ◌∙◌}
use mathlib.Core.List.{List, [], ◌∷◌, ◌++◌, append_assoc}
use native.Mathlib.Omega.{arith}
use borrow.Rule.Slice.PartMut.{put_mid}
use lib.ListN.{length, take, drop, set, length-append}
use lib.Seq.{sets, sets-eq, length-sets, drop-drop, take-append_seam}
use Rattle.text_answers.specs.Texts.{Put}

pub sets_append : (l : List ℕ) (i : ℕ) (a b : List ℕ) → sets l i (a ++ b) ≡ sets (sets l i a) (i + length a) b
sets_append l i [] b = ap (λ (k : ℕ). sets l k b) (omega arith)
sets_append l i (x ∷ a) b =
    sets_append (set l i x) (suc i) a b ∙ ap (λ (k : ℕ). sets (sets (set l i x) (suc i) a) k b) (omega arith)

-- a part that is overwritten is its bytes set one after the other
pub sets_part : (l : List ℕ) (at k : ℕ) (bytes : List ℕ) → k ≡ length bytes → at + k ≤ length l → put_mid at k l bytes ≡ sets l at bytes
sets_part l at k bytes e room = rw (e, sets-eq bytes l at (omega arith), append_assoc, drop-drop)

-- a byte
pub put_byte : (a : List ℕ) (i b : ℕ) → Put a i (b ∷ []) (set a i b) (i + 1)
put_byte a i b = record { holds = refl; end = refl }

-- a text after a text
pub put_both : {a b c s t : List ℕ} {i j k : ℕ} → Put a i s b j → Put b j t c k → Put a i (s ++ t) c k
put_both {a} {b} {c} {s} {t} {i} {j} {k} p q = record {
  holds = q.holds ∙ rw (sets_append, p.holds, p.end);
  end = omega (arith, length-append s t);
}

-- lent bytes stay as many
pub put_length : {a b s : List ℕ} {i j : ℕ} → Put a i s b j → length b ≡ length a
put_length {a} {b} {s} {i} {j} p = ap length p.holds ∙ length-sets a i s

-- what is put, and where the next text goes, is settled by the text and its place
pub put_settled : {a b b' s : List ℕ} {i j j' : ℕ} → Put a i s b j → Put a i s b' j' → (b ≡ b') × (j ≡ j')
put_settled p q = (p.holds ∙ sym q.holds, p.end ∙ sym q.end)

-- a text put at the front, where there is room for it, is what is read there
pub put_front : {a b s : List ℕ} {j : ℕ} → Put a 0 s b j → length s ≤ length a → take j b ≡ s
put_front {a} {b} {s} {j} p room =
    let end : j ≡ length s = omega (arith, p.end) in
    rw (end, p.holds, sets-eq s a 0 (omega arith)) (take-append_seam s (drop (0 + length s) a))
