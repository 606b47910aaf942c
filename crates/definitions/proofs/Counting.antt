-- Counts of answers: one macroblock more, their sum, and each by its sort (specs/Calls). Assumes nothing.
use Prim.Native.Nat.{ℕ, zero, suc, ◌+◌, ◌<◌}
use mathlib.Core.Path.{◌≡◌, refl, ap, ◌∙◌}
use mathlib.Core.Bool.{Bool}
use mathlib.Core.List.{List, [], ◌∷◌, ◌++◌}
use native.Mathlib.Omega.{arith}
use lib.ListN.{length}
use Rattle.definitions.specs.declared.Answer.{Answer}
use Rattle.definitions.specs.declared.Answer.TheVariants.{Outside, Intra, Inherited}
use Rattle.definitions.specs.declared.Counts.{Counts}
use Rattle.definitions.specs.Basics.{pick, how_many, up_to}
use Rattle.definitions.specs.Answer.{Made}
use Rattle.definitions.specs.Calls.{counted, no_counts, counts_of, sum_of}
use Rattle.definitions.proofs.Choices.{up_to-length}

-- the order of two answers does not matter
counted-swap : (a b : Answer) (c : Counts) → counted a (counted b c) ≡ counted b (counted a c)
counted-swap Outside Outside c = refl
counted-swap Outside (Intra n) c = refl
counted-swap Outside (Inherited n s) c = refl
counted-swap (Intra m) Outside c = refl
counted-swap (Intra m) (Intra n) c = refl
counted-swap (Intra m) (Inherited n s) c = refl
counted-swap (Inherited m r) Outside c = refl
counted-swap (Inherited m r) (Intra n) c = refl
counted-swap (Inherited m r) (Inherited n s) c = refl

pub counted-last : (ms : List Made) (m : Made) → counts_of (ms ++ (m ∷ [])) ≡ counted m.answer (counts_of ms)
unfolding counts_of
counted-last [] m = refl
counted-last (x ∷ xs) m = ap (counted x.answer) (counted-last xs m) ∙ counted-swap x.answer m.answer (counts_of xs)

-- one macroblock more
pub counts-more : (n : ℕ) (f : ℕ → Made) → counts_of (up_to (suc n) f) ≡ counted (f n).answer (counts_of (up_to n f))
unfolding up_to
counts-more n f = counted-last (up_to n f) (f n)

-- the counts add up to the number of macroblocks
pub counted-sum : (a : Answer) (c : Counts) → sum_of (counted a c) ≡ sum_of c + 1
counted-sum Outside c = omega arith
counted-sum (Intra n) c = omega arith
counted-sum (Inherited n s) c = omega arith

pub counts-length : (ms : List Made) → sum_of (counts_of ms) ≡ length ms
unfolding counts_of
counts-length [] = refl
counts-length (m ∷ ms) = counted-sum m.answer (counts_of ms) ∙ omega (arith, counts-length ms)

pub counts-sum : (n : ℕ) (f : ℕ → Made) → sum_of (counts_of (up_to n f)) ≡ n
counts-sum n f = counts-length (up_to n f) ∙ up_to-length n f

-- a count is the number of macroblocks of its sort
pub counts-sort : (field : Counts → ℕ) (sort : Answer → Bool) → field no_counts ≡ 0 → ((a : Answer) (c : Counts) → field (counted a c) ≡ field c + pick (sort a) 1 0)
    → (n : ℕ) (f : ℕ → Made) → field (counts_of (up_to n f)) ≡ how_many n (λ k. sort (f k).answer)
unfolding up_to counts_of how_many
counts-sort field sort none more zero f = none
counts-sort field sort none more (suc n) f =
    ap field (counts-more n f) ∙ (more (f n).answer (counts_of (up_to n f)) ∙ ap (λ (k : ℕ). k + pick (sort (f n).answer) 1 0) (counts-sort field sort none more n f))

-- tests that agree hold as often
pub as_many : (n : ℕ) (f g : ℕ → Bool) → ((k : ℕ) → k < n → f k ≡ g k) → how_many n f ≡ how_many n g
unfolding how_many
as_many zero f g h = refl
as_many (suc n) f g h =
    let p : how_many n f ≡ how_many n g = as_many n f g (λ k l. h k (omega arith)) in
    let q : f n ≡ g n = h n (omega arith) in
    λ i. p i + pick (q i) 1 0
