-- A test t that is made as r: what `if !r` says of it. Assumes nothing.
use mathlib.Core.Path.{◌≡◌, sym, ◌∙◌}
use mathlib.Core.Bool.{Bool, true, false, not}
use borrow.Author.Tests.{not-true, not-false}

pub failed : {r t : Bool} → r ≡ t → not r ≡ true → t ≡ false
failed e h = sym e ∙ not-true _ h

pub held : {r t : Bool} → r ≡ t → not r ≡ false → t ≡ true
held e h = sym e ∙ not-false _ h
