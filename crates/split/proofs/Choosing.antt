-- The type and the sub-types of the split that is chosen, by the shapes of the quadrants and of the whole. Assumes nothing.
use Prim.Native.Nat.{ℕ, ◌+◌}
use mathlib.Core.Path.{◌≡◌, refl, sym, ◌∙◌, ap, subst}
use mathlib.Core.Bool.{Bool, true, false, ◌&&◌}
use mathlib.Core.List.{List, []}
use native.Mathlib.Omega.{arith}
use lib.ListN.{get_or}
use Rattle.definitions.specs.declared.Motion.{Motion}
use Rattle.definitions.specs.declared.SubSplit.{SubSplit}
use Rattle.definitions.specs.declared.SubSplit.TheVariants.{S8x8, S8x4, S4x8, S4x4}
use Rattle.definitions.specs.declared.SubSplits.{SubSplits}
use Rattle.definitions.specs.declared.Split.{Split}
use Rattle.definitions.specs.declared.Split.TheVariants.{S8x8 as Quarters}
use Rattle.definitions.specs.Basics.{four}
use Rattle.definitions.specs.Inheriting.{at, chosen}
use Rattle.definitions.specs.Record.{sub_type_number}
use Rattle.definitions.proofs.Choices.{and_intro, both_true, no, yes}
use Rattle.definitions.proofs.Fewest.{chosen_is}
use Rattle.definitions.proofs.Shapes.{all_whole, is_whole, joined, quadrant_shape, shapes_of, split_of}
use Rattle.split.specs.declared.Types.{Types}
use Rattle.split.specs.Quadrant.{sub_chosen}
use Rattle.split.specs.Types.{type_among, types_of}
use Rattle.split.proofs.Chosen.{sub-chosen-is}

-- ---- a sub-type is 0 where the quadrant is whole
zero-whole : (x : SubSplit) → sub_type_number x ≡ 0 → is_whole x ≡ true
zero-whole S8x8 e = refl
zero-whole S8x4 e = absurd (omega arith)
zero-whole S4x8 e = absurd (omega arith)
zero-whole S4x4 e = absurd (omega arith)

whole-zero : (x : SubSplit) → is_whole x ≡ true → sub_type_number x ≡ 0
whole-zero S8x8 e = refl
whole-zero S8x4 e = cc
whole-zero S4x8 e = cc
whole-zero S4x4 e = cc

-- ---- the type and the sub-types of a split
abbrev pub Says : Split → ℕ → ℕ → ℕ → ℕ → ℕ → Type 0
Says t kind a b c d = ◌≡◌ {A = Types} (record { kind = kind; a = a; b = b; c = c; d = d }) (types_of t)

module _ (t : SubSplits) (a b c d : ℕ) (ea : a ≡ sub_type_number t.a) (eb : b ≡ sub_type_number t.b) (ec : c ≡ sub_type_number t.c) (ed : d ≡ sub_type_number t.d) where
  all_whole_lem : a + b + c + d ≡ 0 → all_whole t ≡ true
  unfolding all_whole
  all_whole_lem z =
      and_intro (zero-whole t.a (omega arith)) (and_intro (zero-whole t.b (omega arith)) (and_intro (zero-whole t.c (omega arith)) (zero-whole t.d (omega arith))))

  zero-sum : all_whole t ≡ true → a + b + c + d ≡ 0
  unfolding all_whole
  zero-sum e =
      let p = both_true (is_whole t.a) (is_whole t.b && (is_whole t.c && is_whole t.d)) e in
      let q = both_true (is_whole t.b) (is_whole t.c && is_whole t.d) p.1 in
      let r = both_true (is_whole t.c) (is_whole t.d) q.1 in
      omega (arith, whole-zero t.a p.0, whole-zero t.b q.0, whole-zero t.c r.0, whole-zero t.d r.1)

  not-whole : (a + b + c + d ≡ 0 → ⊥) → all_whole t ≡ false
  not-whole n = by (all_whole t) refl
    where
      by : (w : Bool) → all_whole t ≡ w → w ≡ false
      by true e = absurd (n (zero-sum e))
      by false e = refl

  said-quarters : Says (Quarters t) 4 a b c d
  said-quarters = λ i. record { kind = 4; a = ea i; b = eb i; c = ec i; d = ed i }

  said-whole : a + b + c + d ≡ 0 → (s : SubSplit) → Says (joined s t) (sub_type_number s + 1) a b c d
  said-whole z s = by s
    where
      none : (kind : ℕ) → ◌≡◌ {A = Types} (record { kind = kind; a = a; b = b; c = c; d = d }) (record { kind = kind; a = 0; b = 0; c = 0; d = 0 })
      none kind =
          let ha : a ≡ 0 = omega arith in
          let hb : b ≡ 0 = omega arith in
          let hc : c ≡ 0 = omega arith in
          let hd : d ≡ 0 = omega arith in
          λ i. record { kind = kind; a = ha i; b = hb i; c = hc i; d = hd i }

      by : (s : SubSplit) → Says (joined s t) (sub_type_number s + 1) a b c d
      by S8x8 = none 1
      by S8x4 = none 2
      by S4x8 = none 3
      by S4x4 = said-quarters

-- ---- the split that is chosen, by the sub-types of the quadrants
module _
    (m : List (List Motion)) (a b c d : ℕ)
    (ea : a ≡ sub_type_number (sub_chosen (get_or m 0 []))) (eb : b ≡ sub_type_number (sub_chosen (get_or m 1 [])))
    (ec : c ≡ sub_type_number (sub_chosen (get_or m 2 []))) (ed : d ≡ sub_type_number (sub_chosen (get_or m 3 []))) where
  top : SubSplit
  top = quadrant_shape (four (λ q. at m q 0))

  shape : (x : List Motion) → sub_type_number (sub_chosen x) ≡ sub_type_number (quadrant_shape x)
  shape x = ap sub_type_number (sub-chosen-is x)

  pub chosen-whole : (kind : ℕ) → a + b + c + d ≡ 0 → kind ≡ type_among (four (λ q. at m q 0)) → Says (chosen m) kind a b c d
  unfolding split_of shapes_of quadrant_shape top type_among
  chosen-whole kind z e =
      let sa = ea ∙ shape (get_or m 0 []) in
      let sb = eb ∙ shape (get_or m 1 []) in
      let sc = ec ∙ shape (get_or m 2 []) in
      let sd = ed ∙ shape (get_or m 3 []) in
      let t = shapes_of m in
      let is : chosen m ≡ joined top t = chosen_is m ∙ yes _ _ (all_whole_lem t a b c d sa sb sc sd z) in
      subst (λ (k : ℕ). Says (chosen m) k a b c d) (sym (e ∙ ap (λ (x : SubSplit). sub_type_number x + 1) (sub-chosen-is (four (λ q. at m q 0)))))
      (subst (λ (x : Split). Says x (sub_type_number top + 1) a b c d) (sym is) (said-whole t a b c d sa sb sc sd z top))

  pub chosen-quarters : (a + b + c + d ≡ 0 → ⊥) → Says (chosen m) 4 a b c d
  unfolding split_of shapes_of
  chosen-quarters n =
      let sa = ea ∙ shape (get_or m 0 []) in
      let sb = eb ∙ shape (get_or m 1 []) in
      let sc = ec ∙ shape (get_or m 2 []) in
      let sd = ed ∙ shape (get_or m 3 []) in
      let t = shapes_of m in
      let is : chosen m ≡ Quarters t = chosen_is m ∙ no _ _ (not-whole t a b c d sa sb sc sd n) in
      subst (λ (x : Split). Says x 4 a b c d) (sym is) (said-quarters t a b c d sa sb sc sd)
