-- Parts of a record that are lent and put back are words that are set. Assumes nothing.
use Prim.Native.Nat.{ℕ, ◌+◌, ◌*◌, ◌≤◌, ◌<◌}
use mathlib.Core.Path.{◌≡◌, sym, ap, ◌∙◌}
use mathlib.Core.List.{List, [], ◌∷◌, ◌++◌, append_assoc}
use native.Mathlib.Omega.{arith}
use lib.IntN.{ℤ}
use lib.ListN.{length, get_or, take, drop, length-drop, length-take}
use lib.Seq.{drop-drop, length-sets, sets, sets-eq}
use Rattle.std.specs.Prelude.{map}
use Rattle.std.proofs.lemmas.List.{length-map, map-append, take-map, drop-map}
use Rattle.definitions.specs.declared.Motion.{Motion}
use Rattle.definitions.specs.Blocks.{raster_of}
use Rattle.definitions.specs.Inheriting.{zero_motion}
use Rattle.definitions.specs.Record.{record_words, references_of}
use Rattle.definitions.proofs.Choices.{each}
use Rattle.writing.specs.Words.{pair_of, quadrant_put}

-- ---- one part
-- n words from a on, where they are lent
pub part-long : (l : List ℤ) (a n m : ℕ) → n ≡ m → a + m ≤ length l → length (take n (drop a l)) ≡ m
part-long l a n m e h = simp (length-take, length-drop) (omega arith)

-- and with others in their place
abbrev put : {A : Type 0} → ℕ → ℕ → List A → List A → List A
put a n l part = take a l ++ (part ++ drop n (drop a l))

-- by the numbers of the words
pub put-mapped : {A : Type 0} (f : A → ℤ) (l part : List A) (a n : ℕ) → map f (put a n l part) ≡ put a n (map f l) (map f part)
put-mapped f l part a n =
    map-append f (take a l) (part ++ drop n (drop a l))
    ∙ (λ i. sym (take-map f a l) i ++ map-append f part (drop n (drop a l)) i)
    ∙ ap (λ (t : List ℤ). take a (map f l) ++ (map f part ++ t)) (sym (drop-map f n (drop a l)) ∙ ap (drop n) (sym (drop-map f a l)))

put-sets : (l part words : List ℤ) (a n : ℕ) → part ≡ words → n ≡ length words → a + length words ≤ length l → put a n l part ≡ sets l a words
put-sets l part words a n e f h =
    (λ i. put a (f i) l (e i))
    ∙ (ap (λ (t : List ℤ). take a l ++ (words ++ t)) (drop-drop (length words) a l)
    ∙ (sym (append_assoc (take a l) words (drop (a + length words) l)) ∙ sym (sets-eq words l a h)))

-- the words behind the first n stay
pub behind-mapped : {A : Type 0} (f : A → ℤ) (part l : List A) (n : ℕ) → map f (part ++ drop n l) ≡ map f part ++ drop n (map f l)
behind-mapped f part l n = map-append f part (drop n l) ∙ ap (λ (t : List ℤ). map f part ++ t) (sym (drop-map f n l))

-- ---- a quadrant, by its first block
pub first-low : (q : ℕ) → q < 4 → get_or (0 ∷ 2 ∷ 8 ∷ 10 ∷ []) q 0 ≤ 10
first-low = each (λ q. get_or (0 ∷ 2 ∷ 8 ∷ 10 ∷ []) q 0 ≤ 10) (omega arith) (omega arith) (omega arith) (omega arith)

module _ (m : List Motion) (l : List ℤ) (q k : ℕ) (long : length l ≡ record_words) (h : q < 4) (first : k ≡ raster_of q 0) where
  pub quadrant-put : (x y z : List ℤ) (a b c : ℕ) → x ≡ references_of (get_or m 0 zero_motion) → y ≡ pair_of m 0 → z ≡ pair_of m 2 → a ≡ 2 → b ≡ 8 → c ≡ 8
      → put (13 + 4 * (k + 4)) c (put (13 + 4 * k) b (put (5 + 2 * q) a l x) y) z ≡ quadrant_put q m l
  unfolding quadrant_put
  quadrant-put x y z a b c ex ey ez ea eb ec =
      let low = first-low q h in
      let one = sets l (5 + 2 * q) (references_of (get_or m 0 zero_motion)) in
      let two = sets one (13 + 4 * raster_of q 0) (pair_of m 0) in
      let long1 : length one ≡ record_words = length-sets l (5 + 2 * q) (references_of (get_or m 0 zero_motion)) ∙ long in
      let long2 : length two ≡ record_words = length-sets one (13 + 4 * raster_of q 0) (pair_of m 0) ∙ long1 in
      let upper : 13 + 4 * k ≡ 13 + 4 * raster_of q 0 = omega arith in
      let lower : 13 + 4 * (k + 4) ≡ 13 + 4 * raster_of q 2 = omega arith in
      (λ i. put (lower i) c (put (upper i) b (put (5 + 2 * q) a l x) y) z)
      ∙ (ap (λ (w : List ℤ). put (13 + 4 * raster_of q 2) c (put (13 + 4 * raster_of q 0) b w y) z) (put-sets l x (references_of (get_or m 0 zero_motion)) (5 + 2 * q) a ex ea (omega arith))
      ∙ (ap (λ (w : List ℤ). put (13 + 4 * raster_of q 2) c w z) (put-sets one y (pair_of m 0) (13 + 4 * raster_of q 0) b ey eb (omega arith))
      ∙ put-sets two z (pair_of m 2) (13 + 4 * raster_of q 2) c ez ec (omega arith)))

-- and by the numbers of its words
module _ {A : Type 0} (f : A → ℤ) (m : List Motion) (l : List A) (q k : ℕ) (long : length l ≡ record_words) (h : q < 4) (first : k ≡ raster_of q 0) where
  pub quadrant-mapped : (x y z : List A) (a b c : ℕ) → map f x ≡ references_of (get_or m 0 zero_motion) → map f y ≡ pair_of m 0 → map f z ≡ pair_of m 2 → a ≡ 2 → b ≡ 8 → c ≡ 8
      → map f (put (13 + 4 * (k + 4)) c (put (13 + 4 * k) b (put (5 + 2 * q) a l x) y) z) ≡ quadrant_put q m (map f l)
  quadrant-mapped x y z a b c ex ey ez ea eb ec =
      let one = put (5 + 2 * q) a l x in
      let two = put (13 + 4 * k) b one y in
      put-mapped f two z (13 + 4 * (k + 4)) c
      ∙ ap (λ (w : List ℤ). put (13 + 4 * (k + 4)) c w (map f z)) (put-mapped f one y (13 + 4 * k) b ∙ ap (λ (w : List ℤ). put (13 + 4 * k) b w (map f y)) (put-mapped f l x (5 + 2 * q) a))
      ∙ quadrant-put m (map f l) q k (length-map l f ∙ long) h first (map f x) (map f y) (map f z) a b c ex ey ez ea eb ec
