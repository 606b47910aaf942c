-- References, vectors and motions that are the same; rule 6 of a record whose blocks have the motion of their piece's first. Assumes nothing.
use Prim.Native.Nat.{ℕ, ◌<◌}
use mathlib.Core.Path.{◌≡◌, refl, sym, ap, ◌∙◌}
use mathlib.Core.Bool.{true}
use mathlib.Core.List.{List}
use native.Mathlib.Omega.{arith}
use lib.IntN.{ℤ}
use Rattle.definitions.specs.declared.Split.{Split}
use Rattle.definitions.specs.Basics.{eq_z}
use Rattle.definitions.specs.Blocks.{quadrant_of}
use Rattle.definitions.specs.Splits.{one_each}
use Rattle.definitions.specs.Record.{reference_of, vector_x_of, vector_y_of, motion_of, is_intra, split_said, rule6}
use Rattle.definitions.proofs.Choices.{both_true, and_intro, or_right, eq_z-true, eq_z-refl, below_true, below-intro}
use Rattle.definitions.proofs.Motions.{motion-same}
use Rattle.records.specs.Checking.{first_block_in, same_references, same_vectors}
use Rattle.records.proofs.FirstBlocks.{by-first-blocks}

eq_z-same : (a b : ℤ) → a ≡ b → eq_z a b ≡ true
eq_z-same a b e = ap (eq_z a) (sym e) ∙ eq_z-refl a

module _ (r : List ℤ) where
  -- quadrants q and e have the same references
  abbrev pub Referred : ℕ → ℕ → Type 0
  Referred q e = (l : ℕ) → l < 2 → reference_of r q l ≡ reference_of r e l

  pub referred : (q e : ℕ) → same_references r q e ≡ true → Referred q e
  unfolding same_references
  referred q e s l h = eq_z-true _ _ (below_true 2 (λ l. eq_z (reference_of r q l) (reference_of r e l)) s l h)

  pub references-self : (q : ℕ) → same_references r q q ≡ true
  unfolding same_references
  references-self q = below-intro 2 _ (λ l h. eq_z-refl (reference_of r q l))

  -- blocks b and d have the same vectors
  abbrev pub Alike : ℕ → ℕ → Type 0
  Alike b d = (l : ℕ) → l < 2 → (vector_x_of r b l ≡ vector_x_of r d l) × (vector_y_of r b l ≡ vector_y_of r d l)

  pub alike : (b d : ℕ) → same_vectors r b d ≡ true → Alike b d
  unfolding same_vectors
  alike b d s l h =
      let both = both_true _ _ (below_true 2 (λ l. _) s l h) in
      (eq_z-true _ _ both.0, eq_z-true _ _ both.1)

  pub alike_same : (b d : ℕ) → Alike b d → same_vectors r b d ≡ true
  unfolding same_vectors
  alike_same b d a = below-intro 2 _ (λ l h. and_intro (eq_z-same _ _ (a l h).0) (eq_z-same _ _ (a l h).1))

  pub alike_self : (b : ℕ) → Alike b b
  alike_self b l h = (refl, refl)

  pub alike-back : (b d : ℕ) → Alike b d → Alike d b
  alike-back b d a l h = (sym (a l h).0, sym (a l h).1)

  pub alike_then : (b d e : ℕ) → Alike b d → Alike d e → Alike b e
  alike_then b d e a c l h = ((a l h).0 ∙ (c l h).0, (a l h).1 ∙ (c l h).1)

  pub alike-motion : (b d : ℕ) → Referred (quadrant_of b) (quadrant_of d) → Alike b d → motion_of r b ≡ motion_of r d
  unfolding motion_of
  alike-motion b d f a =
      let r0 = f 0 (omega arith) in
      let r1 = f 1 (omega arith) in
      let v0 = a 0 (omega arith) in
      let v1 = a 1 (omega arith) in
      λ i. record { list0 = record { reference = r0 i; x = v0.0 i; y = v0.1 i }; list1 = record { reference = r1 i; x = v1.0 i; y = v1.1 i } }

  -- rule 6
  pub one-motion-each : (s : Split) → split_said r ≡ s → ((b : ℕ) → b < 16 → motion_of r b ≡ motion_of r (first_block_in s b)) → rule6 r ≡ true
  unfolding rule6
  one-motion-each s said motions =
      or_right (is_intra r)
      (ap (one_each (motion_of r)) said ∙ (sym (by-first-blocks (motion_of r) s) ∙ below-intro 16 _ (λ b h. motion-same _ _ (motions b h))))
