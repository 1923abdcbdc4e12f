-- What a branch on a callee's Bool tells of the definition that the callee's contract cites.
use mathlib.Core.Path.{◌≡◌, ◌∙◌, sym}
use mathlib.Core.Bool.{Bool, true, false, not}
use borrow.Author.Tests.{not-true, not-false}

-- `if !r` was taken
pub told_false : {r b : Bool} → r ≡ b → not r ≡ true → b ≡ false
told_false {r} e taken = sym e ∙ not-true r taken

-- `if !r` was passed by
pub told_true : {r b : Bool} → r ≡ b → not r ≡ false → b ≡ true
told_true {r} e left = sym e ∙ not-false r left
