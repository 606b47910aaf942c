-- Of four references, at least one is the lowest, so the two tests of a block's row and two more say whose vector it takes. Assumes nothing.
use Rattle.std.proofs.Common.{◌≡◌, ℕ, ◌<◌, Bool, true, false, ◌||◌, eqb, [], ◌∷◌, ℤ, pos, sym, refl, ap, ◌∙◌, subst, true≢false, arith, to_z-of_z, w32, to_z, of_z}
use Rattle.definitions.specs.declared.Prediction.{Prediction}
use Rattle.definitions.specs.Basics.{pick, eq_z, some_of}
use Rattle.definitions.specs.Inheriting.{source, lowest, having}
use Rattle.definitions.proofs.Steps.{source-below, having-some}
use Rattle.motion.specs.ByValue.{Reference}
use Rattle.quadrant.specs.declared.Sources.{Sources}
use Rattle.quadrant.specs.Merging.{lowest_of, having4}
use Rattle.quadrant.proofs.Ranks.{reference-fits, lowest-reference, same_bits}

-- the first of four that is good, in the order own, horizontal, vertical, diagonal
first_good : (own h v d row : Bool) (a b c e : ℕ) → row ≡ (own || h) → (own ≡ false → h ≡ false → v ≡ false → d ≡ false → ⊥)
    → pick row (pick own a b) (pick v c e) ≡ pick own a (pick h b (pick v c (pick d e a)))
unfolding pick
first_good true h v d row a b c e r n = ap (λ (t : Bool). pick t a (pick v c e)) r
first_good false true v d row a b c e r n = ap (λ (t : Bool). pick t b (pick v c e)) r
first_good false false true d row a b c e r n = ap (λ (t : Bool). pick t b c) r
first_good false false false true row a b c e r n = ap (λ (t : Bool). pick t b e) r
first_good false false false false row a b c e r n = absurd (n refl refl refl refl)

or_comm : (s t : Bool) → (s || t) ≡ (t || s)
or_comm true true = refl
or_comm true false = refl
or_comm false true = refl
or_comm false false = refl

-- what the code compares
abbrev has : ℤ → ℤ → Bool
has r z = eqb (of_z w32 z) (of_z w32 r)

abbrev bare : ℤ → Prediction
bare r = record { reference = r; x = pos 0; y = pos 0 }

module _ (p q s t : ℤ) where
  abbrev low : ℤ
  low = lowest_of p q s t

  none : eq_z p low ≡ false → eq_z q low ≡ false → eq_z s low ≡ false → eq_z t low ≡ false → ⊥
  unfolding having lowest some_of lowest_of
  none a b c d = true≢false (sym (having-some (bare p ∷ bare q ∷ bare s ∷ bare t ∷ [])) ∙ rw (a, b, c, d))

  -- the block whose vector block k takes
  abbrev At : ℕ → ℕ → Type 0
  At k j = (j ≡ source (having4 p q s t) k) × (j < 4)

  abbrev pub Chosen : Sources → Type 0
  Chosen r = (r.reference ≡ low) × (At 0 r.a × (At 1 r.b × (At 2 r.c × At 3 r.d)))

  placed : (k : ℕ) → k < 4 → {j : ℕ} → j ≡ source (having4 p q s t) k → At k j
  placed k h e = (e, subst (λ (n : ℕ). n < 4) (sym e) (source-below (having4 p q s t) k h))

  pub chosen : Reference p × Reference q × Reference s × Reference t → {r : ℤ} → r ≡ low → {a b c d e f g h : ℕ}
      → a ≡ pick (has r p) 0 1 → b ≡ pick (has r q) 1 0 → c ≡ pick (has r s) 2 3 → d ≡ pick (has r t) 3 2
      → e ≡ pick (has r p || has r q) a c → f ≡ pick (has r p || has r q) b d → g ≡ pick (has r s || has r t) c a → h ≡ pick (has r s || has r t) d b
      → Chosen (record { reference = to_z w32 (of_z w32 r); a = e; b = f; c = g; d = h })
  unfolding source having4
  chosen refer {r} is ea eb ec ed ee ef eg eh =
      let refers = lowest-reference p q s t refer in
      let test : (z : ℤ) → Reference z → has r z ≡ eq_z z low = λ z y. ap (λ (x : ℤ). has x z) is ∙ same_bits z low y refers in
      let hp = test p refer.0 in
      let hq = test q refer.1 in
      let hs = test s refer.2 in
      let ht = test t refer.3 in
      let a = ea ∙ (λ i. pick (hp i) 0 1) in
      let b = eb ∙ (λ i. pick (hq i) 1 0) in
      let c = ec ∙ (λ i. pick (hs i) 2 3) in
      let d = ed ∙ (λ i. pick (ht i) 3 2) in
      let P = eq_z p low in
      let Q = eq_z q low in
      let S = eq_z s low in
      let T = eq_z t low in
      let e = ee ∙ ((λ i. pick (hp i || hq i) (a i) (c i)) ∙ first_good P Q S T (P || Q) 0 1 2 3 refl (λ w x y z. none w x y z)) in
      let f = ef ∙ ((λ i. pick (hp i || hq i) (b i) (d i)) ∙ first_good Q P T S (P || Q) 1 0 3 2 (or_comm P Q) (λ x w z y. none w x y z)) in
      let g = eg ∙ ((λ i. pick (hs i || ht i) (c i) (a i)) ∙ first_good S T P Q (S || T) 2 3 0 1 refl (λ y z w x. none w x y z)) in
      let h = eh ∙ ((λ i. pick (hs i || ht i) (d i) (b i)) ∙ first_good T S Q P (S || T) 3 2 1 0 (or_comm S T) (λ z y x w. none w x y z)) in
      let same = ap (λ (x : ℤ). to_z w32 (of_z w32 x)) is ∙ to_z-of_z (reference-fits low refers) in
      (same, (placed 0 (omega arith) e, (placed 1 (omega arith) f, (placed 2 (omega arith) g, placed 3 (omega arith) h))))
