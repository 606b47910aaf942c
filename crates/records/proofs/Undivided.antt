-- The blocks of a record of type 1, and of a quadrant that is not divided, whatever the type, have one motion. Assumes nothing.
use Prim.Native.Nat.{ℕ, ◌<◌}
use mathlib.Core.Path.{◌≡◌, refl, sym, ap, ◌∙◌}
use mathlib.Core.Bool.{Bool, true, false, ◌||◌}
use mathlib.Core.List.{List, [], ◌∷◌}
use native.Mathlib.Omega.{arith}
use lib.IntN.{ℤ, pos}
use lib.ListN.{get_or}
use Rattle.definitions.specs.declared.SubSplit.{SubSplit}
use Rattle.definitions.specs.declared.SubSplit.TheVariants.{S8x8}
use Rattle.definitions.specs.declared.SubSplits.{SubSplits}
use Rattle.definitions.specs.declared.Split.{Split}
use Rattle.definitions.specs.declared.Split.TheVariants.{S16x16, S16x8, S8x16, S8x8 as Quarters}
use Rattle.definitions.specs.Basics.{pick, eq_z}
use Rattle.definitions.specs.Splits.{same_motion, one_each}
use Rattle.definitions.specs.Record.{type_of, sub_type_of, is_intra, motion_of, sub_split_of, split_said, rule6, well_formed}
use Rattle.definitions.specs.Blocks.{quadrant_of, raster_of}
use Rattle.definitions.proofs.Choices.{yes, each, below_true}
use Rattle.definitions.proofs.Formed.{rules-of}
use Rattle.definitions.proofs.Motions.{motion-true}
use Rattle.records.specs.Checking.{sub_first_block, sub_split_at, first_block_in}
use Rattle.records.proofs.FirstBlocks.{by-first-blocks}

-- the sub-splits of a split that was said to be 8×8
said-quarters : (a b c : Bool) (u t : SubSplits) → pick a S16x16 (pick b S16x8 (pick c S8x16 (Quarters u))) ≡ Quarters t → u ≡ t
unfolding pick
said-quarters true b c u t e = cc
said-quarters false true c u t e = cc
said-quarters false false true u t e = cc
said-quarters false false false u t e = cc

module _ (limit : ℕ) (r : List ℤ) (formed : well_formed limit r ≡ true) (inter : is_intra r ≡ false) where
  one : one_each (motion_of r) (split_said r) ≡ true
  unfolding rule6
  one = by (is_intra r) inter (rules-of limit r formed).pieces
    where
      by : {o : Bool} (t : Bool) → t ≡ false → (t || o) ≡ true → o ≡ true
      by true e s = cc
      by false e s = s

  as_first : (i : ℕ) → i < 16 → motion_of r i ≡ motion_of r (first_block_in (split_said r) i)
  as_first i h = motion-true _ _ (below_true 16 (λ j. same_motion (motion_of r j) (motion_of r (first_block_in (split_said r) j))) (by-first-blocks (motion_of r) (split_said r) ∙ one) i h)

  module _ (b c : ℕ) (hb : b < 16) (hc : c < 16) where
    pub by_first : first_block_in (split_said r) b ≡ first_block_in (split_said r) c → motion_of r b ≡ motion_of r c
    by_first e = as_first b hb ∙ (ap (motion_of r) e ∙ sym (as_first c hc))

    -- type 1: all blocks
    pub whole : eq_z (type_of r) (pos 1) ≡ true → motion_of r b ≡ motion_of r c
    unfolding split_said
    whole t = let s : split_said r ≡ S16x16 = yes _ _ t in by_first (ap (λ (x : Split). first_block_in x b) s ∙ sym (ap (λ (x : Split). first_block_in x c) s))

    -- sub-type 0: the blocks of that quadrant
    module _ (same : quadrant_of b ≡ quadrant_of c) (single : eq_z (sub_type_of r (quadrant_of c)) (pos 0) ≡ true) where
      said : (t : SubSplits) → split_said r ≡ Quarters t → sub_split_at t (quadrant_of c) ≡ S8x8
      unfolding split_said
      said t e =
          ap (λ (u : SubSplits). sub_split_at u (quadrant_of c)) (sym (said-quarters _ _ _ _ t e))
          ∙ (each (λ q. get_or (sub_split_of (sub_type_of r 0) ∷ sub_split_of (sub_type_of r 1) ∷ sub_split_of (sub_type_of r 2) ∷ sub_split_of (sub_type_of r 3) ∷ []) q S8x8 ≡ sub_split_of (sub_type_of r q))
          refl refl refl refl (quadrant_of c) (omega arith) ∙ yes _ _ single)

      first-same : (s : Split) → ((t : SubSplits) → s ≡ Quarters t → sub_split_at t (quadrant_of c) ≡ S8x8) → first_block_in s b ≡ first_block_in s c
      first-same S16x16 w = refl
      first-same S16x8 w = omega (arith, same)
      first-same S8x16 w = omega (arith, same)
      first-same (Quarters t) w =
          ap (λ (s : SubSplit). sub_first_block s b) (ap (sub_split_at t) same ∙ w t refl)
          ∙ (ap (λ (q : ℕ). raster_of q 0) same ∙ ap (λ (s : SubSplit). sub_first_block s c) (sym (w t refl)))

      pub undivided : motion_of r b ≡ motion_of r c
      undivided = by_first (first-same (split_said r) said)
