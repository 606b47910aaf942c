use Prim.Native.Nat.{◌<◌}
use mathlib.Core.List.{List, map}
use mathlib.Core.Path.{◌≡◌, ◌∙◌}
use mathlib.Core.Bool.{true}
use native.Mathlib.Omega.{arith}
use lib.Dec.{T}
use lib.IntN.{ℤ, nat_abs}
use lib.Signed.{non_neg}
use mir.Facts.{to_z-of_z}
use mir.Syntax.{w32}
use mir.Val.{of_z, to_z}
use Rattle.definitions.specs.Record.{detail_of, rule7}
use Rattle.records.proofs.Words.{four-bits}
use borrow.Author.Rules.{rules}
use Rattle.macroblock.proofs.said_in.Goals as goal

small : (r : List ℤ) → rule7 r ≡ true → T (non_neg (detail_of r)) × (nat_abs (detail_of r) < 16)
unfolding rule7
small r e = four-bits (detail_of r) e

pub overflow_cast-result : goal.overflow_cast-result
overflow_cast-result g c =
    let s = small (map g.W.Word.value c.args.out.now) c.requires.1 in
    let e : to_z w32 (of_z w32 c.word_at-6.result) ≡ detail_of (map g.W.Word.value c.args.out.now) = to_z-of_z {w = w32} (search rules) ∙ c.word_at-6.ensures.is in
    rw e (s.0, record { fits = omega (arith, s.1) })
