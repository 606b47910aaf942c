-- A record that is written whole: four quadrants, its types after them, and the detail. Assumes nothing.
use Prim.Native.Nat.{ℕ, zero, suc, ◌≤◌}
use mathlib.Core.Path.{◌≡◌, refl, sym, ap, ◌∙◌}
use mathlib.Core.List.{List, [], ◌∷◌, ◌++◌}
use native.Mathlib.Omega.{arith}
use lib.IntN.{ℤ, pos}
use lib.ListN.{length, get_or, take, drop, set}
use lib.Seq.{take_all, take-suc}
use Rattle.definitions.specs.declared.Motion.{Motion}
use Rattle.definitions.specs.declared.Split.{Split}
use Rattle.definitions.specs.Answer.{divided_by}
use Rattle.definitions.specs.Basics.{for_each, four, up_to}
use Rattle.definitions.specs.Blocks.{raster_of}
use Rattle.definitions.specs.Inheriting.{at, chosen, motion_at}
use Rattle.definitions.specs.Record.{laid_out, motion_of, record_words, references_of, vectors_of, word_of}
use Rattle.motion.specs.declared.Scales.{Scales}
use Rattle.motion.specs.Scales.{AcceptedScales, all_scaled}
use Rattle.split.specs.declared.Types.{Types}
use Rattle.split.specs.Types.{contents_by, type_words, types_of}
use Rattle.writing.specs.Words.{firsts_in, quadrant_put}
use Rattle.writing.proofs.Apart.{chosen-with}

-- ---- a list by its words
words-taken : (l : List ℤ) (n : ℕ) → n ≤ length l → take n l ≡ up_to n (word_of l)
unfolding up_to
words-taken l zero h = refl
words-taken l (suc n) h =
    take-suc l n (pos 0) (omega arith) ∙ ap (λ (t : List ℤ). t ++ (word_of l n ∷ [])) (words-taken l n (omega arith))

by-words : (l : List ℤ) → length l ≡ record_words → l ≡ up_to record_words (word_of l)
by-words l e = sym (take_all record_words l (omega arith)) ∙ words-taken l record_words (omega arith)

module _ (m : List (List Motion)) where
  abbrev quadrants_put : List ℤ → List ℤ
  quadrants_put l = quadrant_put 3 (get_or m 3 []) (quadrant_put 2 (get_or m 2 []) (quadrant_put 1 (get_or m 1 []) (quadrant_put 0 (get_or m 0 []) l)))

  -- the references of the quadrants, and the vectors of the blocks
  abbrev motion_words : List ℤ
  motion_words = for_each (up_to 4 (λ q. q)) (λ q. references_of (motion_at m (raster_of q 0))) ++ for_each (up_to 16 (λ b. b)) (λ b. vectors_of (motion_at m b))

  written : (f : ℕ → ℤ) → quadrants_put (up_to record_words f) ≡ f 0 ∷ f 1 ∷ f 2 ∷ f 3 ∷ f 4 ∷ (motion_words ++ (f 77 ∷ []))
  unfolding quadrant_put up_to
  written f = refl

  -- the motions of the quadrants' first blocks stand there
  firsts : (f : ℕ → ℤ) → firsts_in (f 0 ∷ f 1 ∷ f 2 ∷ f 3 ∷ f 4 ∷ (motion_words ++ (f 77 ∷ []))) ≡ four (λ q. at m q 0)
  unfolding motion_of up_to
  firsts f = refl

  module _ (l : List ℤ) (long : length l ≡ record_words) (l1 l2 l3 l4 : List ℤ)
      (e1 : l1 ≡ quadrant_put 0 (get_or m 0 []) l) (e2 : l2 ≡ quadrant_put 1 (get_or m 1 []) l1)
      (e3 : l3 ≡ quadrant_put 2 (get_or m 2 []) l2) (e4 : l4 ≡ quadrant_put 3 (get_or m 3 []) l3) where
    in-turn : l4 ≡ word_of l 0 ∷ word_of l 1 ∷ word_of l 2 ∷ word_of l 3 ∷ word_of l 4 ∷ (motion_words ++ (word_of l 77 ∷ []))
    in-turn =
        e4 ∙ ap (quadrant_put 3 (get_or m 3 []))
        (e3 ∙ ap (quadrant_put 2 (get_or m 2 [])) (e2 ∙ ap (quadrant_put 1 (get_or m 1 [])) e1))
        ∙ (ap quadrants_put (by-words l long) ∙ written (word_of l))

    pub firsts-put : firsts_in l4 ≡ four (λ q. at m q 0)
    firsts-put = ap firsts_in in-turn ∙ firsts (word_of l)

    -- with the types and the detail
    pub assembled-after : (t : Types) (types : List ℤ) (detail : ℤ) → types ≡ type_words t → set (types ++ drop 5 l4) 77 detail ≡ laid_out (contents_by t (motion_at m) detail)
    unfolding laid_out up_to
    assembled-after t types detail e = λ i. set (e i ++ drop 5 (in-turn i)) 77 detail

-- ---- by a split, and by the one that is chosen before step 4
said : (t : Split) (m : ℕ → Motion) (detail : ℤ) → laid_out (contents_by (types_of t) m detail) ≡ laid_out (divided_by t m detail)
unfolding laid_out up_to
said t m detail = refl

pub made-of : (s : Scales) → AcceptedScales s → (m : List (List Motion)) (t : Types) (detail : ℤ) → t ≡ types_of (chosen m)
    → laid_out (contents_by t (motion_at (all_scaled s m)) detail) ≡ laid_out (divided_by (chosen (all_scaled s m)) (motion_at (all_scaled s m)) detail)
made-of s a m t detail e =
    let c = e ∙ ap types_of (sym (chosen-with s a m)) in
    (λ i. laid_out (contents_by (c i) (motion_at (all_scaled s m)) detail)) ∙ said (chosen (all_scaled s m)) (motion_at (all_scaled s m)) detail
