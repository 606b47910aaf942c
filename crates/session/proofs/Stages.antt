-- Where a session stands (specs/Stage): what the code finds, and what each stage says of the state. Assumes nothing.
use Prim.Native.Nat.{ℕ}
use mathlib.Core.Path.{◌≡◌, refl, sym, ap, ◌∙◌}
use mathlib.Core.Bool.{Bool, true, false, ◌&&◌}
use native.Mathlib.Omega.{arith}
use lib.Dec.{leb, ltb}
use borrow.Author.Tests.{ltb-true, ltb-false, le-leb, lt-leb}
use Rattle.definitions.specs.declared.Axes.{Axes}
use Rattle.definitions.specs.declared.Refusal.{Refusal}
use Rattle.definitions.specs.Replies.{Verdict, Accepted}
use Rattle.std.specs.Prelude.{Err as Refused}
use Rattle.definitions.specs.Basics.{pick}
use Rattle.definitions.specs.Geometry.{axes_of}
use Rattle.definitions.specs.Refusals.{geometry_verdict}
use Rattle.definitions.specs.Calls.{sum_of}
use Rattle.definitions.specs.Session.{State, fresh, begun, finished, accepts, sound}
use Rattle.definitions.specs.Raster.{full_count, column_at, row_at}
use Rattle.definitions.proofs.Choices.{yes, no, and_intro, and_no}
use Rattle.session.specs.declared.Session.{Session}
use Rattle.session.specs.declared.Stage.TheVariants.{Nothing, Unfinished, Finished}
use Rattle.session.specs.Values.{state_of}
use Rattle.session.specs.Stage.{stage_of, stage_in}

-- ---- what the code finds
module _ (v : Session) where
  pub stands-fresh : (v.begun && sound (begun v.numbers v.counts)) ≡ false → state_of v ≡ fresh
  unfolding state_of
  stands-fresh e = no _ _ e

  pub not-begun : v.begun ≡ false → state_of v ≡ fresh
  not-begun e = stands-fresh (rw e)

  pub wrong-numbers : (r : Refusal) → geometry_verdict v.numbers ≡ Refused r → state_of v ≡ fresh
  wrong-numbers r e =
      stands-fresh (and_no v.begun (ap (λ (w : Verdict). accepts w && leb (sum_of v.counts) (full_count (axes_of v.numbers))) e))

  pub right-numbers : v.begun ≡ true → geometry_verdict v.numbers ≡ Accepted → (g : Axes) → g ≡ axes_of v.numbers → stage_in g (sum_of v.counts) ≡ stage_of (state_of v)
  unfolding stage_in state_of
  right-numbers b a g e = ap (λ (h : Axes). stage_in h (sum_of v.counts)) e ∙ by (ltb (full_count (axes_of v.numbers)) (sum_of v.counts)) refl
    where
      by : (t : Bool) → ltb (full_count (axes_of v.numbers)) (sum_of v.counts) ≡ t → stage_in (axes_of v.numbers) (sum_of v.counts) ≡ stage_of (state_of v)
      by true p =
          let high = ltb-true (full_count (axes_of v.numbers)) (sum_of v.counts) p in
          let low : leb (sum_of v.counts) (full_count (axes_of v.numbers)) ≡ false = lt-leb _ _ high in
          yes _ _ p ∙ sym (ap stage_of (stands-fresh (and_no v.begun (and_no (accepts (geometry_verdict v.numbers)) low))))
      by false p =
          let low : leb (sum_of v.counts) (full_count (axes_of v.numbers)) ≡ true = le-leb _ _ (ltb-false (full_count (axes_of v.numbers)) (sum_of v.counts) p) in
          no _ _ p ∙ sym (ap stage_of (yes (begun v.numbers v.counts) fresh (and_intro {a = v.begun} {b = sound (begun v.numbers v.counts)} b (and_intro {a = accepts (geometry_verdict v.numbers)} {b = leb (sum_of v.counts) (full_count (axes_of v.numbers))} (ap accepts a) low))))

-- ---- what a stage says
pub nothing-begun : (s : State) → stage_of s ≡ Nothing → s ≡ fresh
unfolding pick
nothing-begun fresh e = refl
nothing-begun (begun n c) e = absurd (by (finished (begun n c)) e)
  where
    by : (b : Bool) → pick b Finished (Unfinished (column_at (axes_of n) (sum_of c)) (row_at (axes_of n) (sum_of c))) ≡ Nothing → ⊥
    by true p = let z : ◌≡◌ {A = ℕ} 0 1 = cc in omega arith
    by false p = let z : ◌≡◌ {A = ℕ} 0 1 = cc in omega arith

-- a value that stands for no fresh session stands for what it holds
stands-begun : (v : Session) → (stage_of (state_of v) ≡ Nothing → ⊥) → state_of v ≡ begun v.numbers v.counts
unfolding state_of
stands-begun v n = by (v.begun && sound (begun v.numbers v.counts)) refl
  where
    by : (b : Bool) → (v.begun && sound (begun v.numbers v.counts)) ≡ b → state_of v ≡ begun v.numbers v.counts
    by true e = yes _ _ e
    by false e = absurd (n (ap stage_of (stands-fresh v e)))

pub record Going (v : Session) (column row : ℕ) : Type 0 where
  pub state : state_of v ≡ begun v.numbers v.counts
  pub on : finished (begun v.numbers v.counts) ≡ false
  pub column-is : column ≡ column_at (axes_of v.numbers) (sum_of v.counts)
  pub row_is : row ≡ row_at (axes_of v.numbers) (sum_of v.counts)

pub going : (v : Session) (column row : ℕ) → stage_of (state_of v) ≡ Unfinished column row → Going v column row
unfolding pick
going v column row e =
    let s = stands-begun v (λ p. let z : ◌≡◌ {A = ℕ} 0 1 = cc in omega arith) in
    by s (finished (begun v.numbers v.counts)) refl (sym (ap stage_of s) ∙ e)
  where
    by : state_of v ≡ begun v.numbers v.counts → (b : Bool) → finished (begun v.numbers v.counts) ≡ b
        → pick b Finished (Unfinished (column_at (axes_of v.numbers) (sum_of v.counts)) (row_at (axes_of v.numbers) (sum_of v.counts))) ≡ Unfinished column row → Going v column row
    by s true p q = absurd (let z : ◌≡◌ {A = ℕ} 0 1 = cc in omega arith)
    by s false p q = record { state = s; on = p; column-is = cc; row_is = cc }

pub record Over (v : Session) : Type 0 where
  pub state : state_of v ≡ begun v.numbers v.counts
  pub over : finished (begun v.numbers v.counts) ≡ true

pub over-of : (v : Session) → stage_of (state_of v) ≡ Finished → Over v
unfolding pick
over-of v e =
    let s = stands-begun v (λ p. let z : ◌≡◌ {A = ℕ} 0 1 = cc in omega arith) in
    by s (finished (begun v.numbers v.counts)) refl (sym (ap stage_of s) ∙ e)
  where
    by : state_of v ≡ begun v.numbers v.counts → (b : Bool) → finished (begun v.numbers v.counts) ≡ b
        → pick b Finished (Unfinished (column_at (axes_of v.numbers) (sum_of v.counts)) (row_at (axes_of v.numbers) (sum_of v.counts))) ≡ Finished → Over v
    by s true p q = record { state = s; over = p }
    by s false p q = absurd (let z : ◌≡◌ {A = ℕ} 0 1 = cc in omega arith)
