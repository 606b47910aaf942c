-- Tests at each index below a number: two at once, a search for the first index at which one fails, a turn at a time, and the blocks by quadrants. Assumes nothing.
use Prim.Native.Nat.{ℕ, zero, suc, ◌+◌, ◌<◌, ◌≤◌}
use mathlib.Core.Path.{◌≡◌, refl, sym, ap, ◌∙◌}
use mathlib.Core.Bool.{Bool, true, false, ◌&&◌, and-false}
use native.Mathlib.Numerals.{add-one}
use native.Mathlib.Omega.{arith}
use Rattle.definitions.specs.Basics.{all_below}
use Rattle.definitions.specs.Blocks.{quadrant_of, in_quadrant, raster_of}
use Rattle.definitions.proofs.Choices.{both_ways, below_true, below-intro}
use Rattle.definitions.proofs.Records.{raster-below, raster-is}

pub and-swap : (a b c d : Bool) → ((a && b) && (c && d)) ≡ ((a && c) && (b && d))
and-swap true true c d = refl
and-swap true false c d = sym (and-false c)
and-swap false b c d = refl

pub below_both : (n : ℕ) (f g h : ℕ → Bool) → ((k : ℕ) → (f k && g k) ≡ h k) → (all_below n f && all_below n g) ≡ all_below n h
unfolding all_below
below_both zero f g h e = refl
below_both (suc n) f g h e =
    let p : (all_below n f && all_below n g) ≡ all_below n h = below_both n f g h e in
    let q : (f n && g n) ≡ h n = e n in
    and-swap (all_below n f) (f n) (all_below n g) (g n) ∙ (λ i. p i && q i)

pub search-none : (f : ℕ → Bool) → all_below 0 f ≡ true
unfolding all_below
search-none f = refl

-- the test so far, and the next
pub below_more : (f : ℕ → Bool) (k : ℕ) {t u : Bool} → t ≡ all_below k f → u ≡ f k → (t && u) ≡ all_below (k + 1) f
unfolding all_below
below_more f k so_far here = rw add-one (λ i. so_far i && here i)

pub search-more : (f : ℕ → Bool) (k : ℕ) → all_below k f ≡ true → f k ≡ true → all_below (k + 1) f ≡ true
search-more f k passed here = sym (below_more f k (sym passed) (sym here))

pub search-end : (f : ℕ → Bool) (n k : ℕ) → k ≤ n → n ≤ k → {t : Bool} → all_below k f ≡ t → all_below n f ≡ t
search-end f n k le ge passed = let e : k ≡ n = omega arith in rw e at passed

pub search-fault : (f : ℕ → Bool) (n k : ℕ) → k < n → f k ≡ false → all_below n f ≡ false
search-fault f n k lt here = fault (all_below n f) refl
  where
    fault : (t : Bool) → all_below n f ≡ t → t ≡ false
    fault true e = sym (below_true n f e k lt) ∙ here
    fault false e = refl

-- the blocks by quadrant and place
pub by-quadrants : (f : ℕ → Bool) → all_below 16 f ≡ all_below 4 (λ q. all_below 4 (λ k. f (raster_of q k)))
by-quadrants f =
    both_ways _ _
    (λ e. below-intro 4 _ (λ q hq. below-intro 4 _ (λ k hk. below_true 16 f e (raster_of q k) (raster-below q k hq hk))))
    (λ e. below-intro 16 f (λ b h.
    ap f (sym (raster-is b h)) ∙ below_true 4 (λ k. f (raster_of (quadrant_of b) k)) (below_true 4 _ e (quadrant_of b) (omega arith)) (in_quadrant b) (omega arith)))
