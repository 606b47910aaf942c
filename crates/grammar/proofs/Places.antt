-- Refusal 9's place, as the machine finds it.
use Prim.Native.Nat.{ℕ, ◌<◌, ◌≤◌, ◌+◌}
use mathlib.Core.Path.{◌≡◌, ◌∙◌, ap}
use mathlib.Core.Logic.{⊎_elim}
use mathlib.Core.List.{List, [], ◌∷◌}
use native.Mathlib.Omega.{arith}
use native.Mathlib.Nat.{eq-or-lt_of_le}
use lib.ListN.{length, take, drop, take-append-drop}
use lib.Seq.{take_all}
use Rattle.definitions.specs.Text.{Belongs, CanGoOn, BreaksAt}
use Rattle.grammar.proofs.Machine.{Ev, Cfg, dead, live, runs, start, state_at, Alive, Waiting}
use Rattle.grammar.proofs.Runs.{goes-alive, alive-can, text-ends}

-- the machine stops at p for good, or p is the length and more is asked
pub record Ended (s : List ℕ) (p : ℕ) : Type 0 where
  pub within : p ≤ length s
  pub alive : Alive (state_at s p)
  pub stuck : p < length s → state_at s (p + 1) ≡ dead
  pub asks : length s ≤ p → Waiting (state_at s p)

pub waiting-alive : (c : Cfg) → Waiting c → Alive c
waiting-alive dead h = h
waiting-alive (live g []) h = tt
waiting-alive (live g (y ∷ k)) h = tt

begins : (s : List ℕ) (n : ℕ) → Belongs s → CanGoOn (take n s)
begins s n h = record { rest = drop n s; belongs = rw take-append-drop h }

whole : (s : List ℕ) (p : ℕ) → length s ≤ p → state_at s p ≡ runs start s
unfolding state_at
whole s p h = ap (λ (t : List ℕ). runs start t) (take_all p s h)

module _ (s : List ℕ) (p : ℕ) where
  goes-state : CanGoOn (take p s) → Alive (state_at s p)
  unfolding state_at
  goes-state h = goes-alive h

  state-goes : Alive (state_at s p) → CanGoOn (take p s)
  unfolding state_at
  state-goes h = alive-can h

not-alive : {c : Cfg} → c ≡ dead → Alive c → ⊥
not-alive e h = rw e at h

not-waiting : {c : Cfg} {g : List Ev} → c ≡ live g [] → Waiting c → ⊥
not-waiting e h = rw e at h

pub ended-breaks : (s : List ℕ) (p : ℕ) → Ended s p → BreaksAt s p
ended-breaks s p h =
    let l : p ≤ length s = h.within in
    record {
      breaks = λ b. ⊎_elim
          (λ e. let q : length s ≤ p = omega arith in not-waiting (whole s p q ∙ text-ends b.text) (h.asks q))
          (λ q. not-alive (h.stuck q) (goes-state s (p + 1) (begins s (p + 1) b)))
          (eq-or-lt_of_le l);
      within = l;
      before = state-goes s p h.alive;
      there = λ q v. not-alive (h.stuck q) (goes-state s (p + 1) v);
    }
