-- Where each quadrant is live, step 3 leaves them. Assumes nothing.
use Prim.Native.Nat.{ℕ}
use mathlib.Core.Path.{◌≡◌, sym, ap}
use mathlib.Core.Bool.{Bool, true, false, ◌&&◌}
use mathlib.Core.List.{List, []}
use lib.ListN.{get_or}
use Rattle.definitions.specs.declared.Motion.{Motion}
use Rattle.definitions.specs.Basics.{four}
use Rattle.definitions.specs.Inheriting.{copied_from, copied}
use Rattle.definitions.proofs.Choices.{yes, both_true, four_same}

pub copied_all : (live : List Bool) (f : ℕ → List Motion)
    → (((get_or live 0 false && get_or live 1 false) && get_or live 2 false) && get_or live 3 false) ≡ true → four f ≡ copied live (four f)
unfolding copied copied_from
copied_all live f e =
    let abc = both_true ((get_or live 0 false && get_or live 1 false) && get_or live 2 false) (get_or live 3 false) e in
    let ab = both_true (get_or live 0 false && get_or live 1 false) (get_or live 2 false) abc.0 in
    let a = both_true (get_or live 0 false) (get_or live 1 false) ab.0 in
    let own : (q : ℕ) → get_or live q false ≡ true → get_or (four f) q [] ≡ get_or (four f) (copied_from live q) [] =
    λ q l. ap (λ (j : ℕ). get_or (four f) j []) (sym (yes _ _ l)) in
    four_same (own 0 a.0) (own 1 a.1) (own 2 ab.1) (own 3 abc.1)
