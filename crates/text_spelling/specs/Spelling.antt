-- A quoted text as bytes.
use Rattle.std.specs.Prelude.{ℕ, Bool, true, false, ◌&&◌, List, [] as nil, ◌∷◌ as cons, eqb}
use Prim.Native.Char.{code}
use Prim.Native.String.{String, [], ◌∷◌}

-- the codes of a text's characters, which for the characters of ASCII are its bytes
abbrev pub spelled : String → List ℕ
spelled [] = nil
spelled (c ∷ s) = cons (code c) (spelled s)

-- two lists of numbers are the same, as a test: a worked case is computed to true
abbrev pub same_bytes : (a b : List ℕ) → Bool
same_bytes nil nil = true
same_bytes nil (cons y ys) = false
same_bytes (cons x xs) nil = false
same_bytes (cons x xs) (cons y ys) = eqb x y && same_bytes xs ys
