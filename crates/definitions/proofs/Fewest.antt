-- Step 5: the split that is chosen has one motion in each piece, and every other such split has more pieces; it is split_of. Assumes nothing.
use Prim.Native.Nat.{ℕ, zero, suc, ◌+◌, ◌≤◌, ◌<◌}
use mathlib.Core.Path.{◌≡◌, refl, sym, ◌∙◌, ap, subst}
use mathlib.Core.Logic.{◌≢◌, ⊎_elim}
use mathlib.Core.Bool.{Bool, true, false, true≢false, ◌&&◌}
use mathlib.Core.List.{List, [], ◌∷◌, ◌++◌}
use native.Mathlib.Nat.{eq-or-lt_of_le, le_of_lt, le_of_suc-le-suc, not-suc-le-zero}
use native.Mathlib.Omega.{arith}
use lib.ListN.{length, get_or}
use borrow.Author.Tests.{ltb-true, ltb-false}
use Rattle.definitions.specs.declared.Motion.{Motion}
use Rattle.definitions.specs.declared.SubSplit.{SubSplit}
use Rattle.definitions.specs.declared.SubSplit.TheVariants.{S8x8, S8x4, S4x8, S4x4}
use Rattle.definitions.specs.declared.SubSplits.{SubSplits}
use Rattle.definitions.specs.declared.Split.{Split}
use Rattle.definitions.specs.declared.Split.TheVariants.{S16x16, S16x8, S8x16, S8x8 as Quarters}
use Rattle.definitions.specs.Basics.{pick, all_of}
use Rattle.definitions.specs.Splits.{same_motion, sub_pieces, pieces, alike, one_each, sub_count, count, splits, sixteen_pieces, fewer, fewest_in}
use Rattle.definitions.specs.Inheriting.{motion_at, chosen}
use Rattle.definitions.proofs.Choices.{yes, pick-cases, both_true, and_intro}
use Rattle.definitions.proofs.Motions.{motion-true, motion-same}
use Rattle.definitions.proofs.Pieces.{split-cases, all_listed}
use Rattle.definitions.proofs.Shapes.{cut, same_pairs, shape_of, quadrant_shape, shapes_of, is_whole, all_whole, joined, split_of}

-- One motion in each piece, and every other split whose pieces each carry one motion has more pieces. (proofs/Pieces: the values of Split are the 259.)
pub record Fewest (m : ℕ → Motion) (s : Split) : Type 0 where
  pub one : one_each m s ≡ true
  pub more : (t : Split) → one_each m t ≡ true → t ≢ s → count s < count t

-- ---- one motion in each piece, as equations
abbrev Each : {A : Type 0} → (A → Type 0) → List A → Type 0
Each P [] = Unit
Each P (x ∷ xs) = P x × Each P xs

abbrev Alike : (ℕ → Motion) → List ℕ → Type 0
Alike m [] = Unit
Alike m (i ∷ is) = Each (λ j. m j ≡ m i) is

abbrev pub OneEach : (ℕ → Motion) → Split → Type 0
OneEach m s = Each (Alike m) (pieces s)

each_of : {A : Type 0} (f : A → Bool) (P : A → Type 0) → ((x : A) → f x ≡ true → P x) → (l : List A) → all_of f l ≡ true → Each P l
unfolding all_of
each_of f P h [] e = tt
each_of f P h (x ∷ xs) e = let b = both_true (f x) (all_of f xs) e in (h x b.0, each_of f P h xs b.1)

of-each : {A : Type 0} (f : A → Bool) (P : A → Type 0) → ((x : A) → P x → f x ≡ true) → (l : List A) → Each P l → all_of f l ≡ true
unfolding all_of
of-each f P h [] e = refl
of-each f P h (x ∷ xs) e = and_intro (h x e.0) (of-each f P h xs e.1)

module _ (m : ℕ → Motion) where
  alike-each : (p : List ℕ) → alike m p ≡ true → Alike m p
  unfolding alike
  alike-each [] e = tt
  alike-each (i ∷ is) e = each_of (λ j. same_motion (m j) (m i)) (λ j. m j ≡ m i) (λ j. motion-true (m j) (m i)) is e

  each-alike : (p : List ℕ) → Alike m p → alike m p ≡ true
  unfolding alike
  each-alike [] e = refl
  each-alike (i ∷ is) e = of-each (λ j. same_motion (m j) (m i)) (λ j. m j ≡ m i) (λ j. motion-same (m j) (m i)) is e

  pub one_each_lem : (s : Split) → one_each m s ≡ true → OneEach m s
  unfolding one_each
  one_each_lem s e = each_of (alike m) (Alike m) alike-each (pieces s) e

  each-one : (s : Split) → OneEach m s → one_each m s ≡ true
  unfolding one_each
  each-one s e = of-each (alike m) (Alike m) each-alike (pieces s) e

-- ---- a square of four motions
pairs-true : (a b c d : Motion) → same_pairs a b c d ≡ true → (a ≡ b) × (c ≡ d)
unfolding same_pairs
pairs-true a b c d e =
    let h = both_true (same_motion a b) (same_motion c d) e in
    (motion-true a b h.0, motion-true c d h.1)

pairs-false : (a b c d : Motion) → same_pairs a b c d ≡ false → a ≡ b → c ≡ d → ⊥
unfolding same_pairs
pairs-false a b c d e p q = true≢false (sym (and_intro (motion-same a b p) (motion-same c d q)) ∙ e)

abbrev pub One : (ℕ → Motion) → ℕ → SubSplit → Type 0
One m i s = Each (Alike m) (sub_pieces i s)

-- a sub-split of the quadrant whose first block is i: one motion in each piece, and no other such one has fewer or as many
record Least (m : ℕ → Motion) (i : ℕ) (s : SubSplit) : Type 0 where
  one : One m i s
  least : (t : SubSplit) → One m i t → (sub_count s ≤ sub_count t) × (sub_count t ≤ sub_count s → t ≡ s)

module _ (m : ℕ → Motion) (i : ℕ) where
  abbrev Rows : Bool → Type 0
  Rows r = same_pairs (m i) (m (i + 1)) (m (i + 4)) (m (i + 5)) ≡ r

  abbrev Columns : Bool → Type 0
  Columns c = same_pairs (m i) (m (i + 4)) (m (i + 1)) (m (i + 5)) ≡ c

  not-rows : Rows false → (m (i + 1) ≡ m i) → (m (i + 5) ≡ m (i + 4)) → ⊥
  not-rows r p q = pairs-false _ _ _ _ r (sym p) (sym q)

  not-columns : Columns false → (m (i + 4) ≡ m i) → (m (i + 5) ≡ m (i + 1)) → ⊥
  not-columns c p q = pairs-false _ _ _ _ c (sym p) (sym q)

  cut-one : (r c : Bool) → Rows r → Columns c → One m i (cut r c)
  cut-one true true r c =
      let x = pairs-true (m i) (m (i + 1)) (m (i + 4)) (m (i + 5)) r in
      let y = pairs-true (m i) (m (i + 4)) (m (i + 1)) (m (i + 5)) c in
      ((sym x.0, (sym y.0, (sym y.1 ∙ sym x.0, tt))), tt)
  cut-one true false r c =
      let x = pairs-true (m i) (m (i + 1)) (m (i + 4)) (m (i + 5)) r in
      ((sym x.0, tt), ((sym x.1, tt), tt))
  cut-one false true r c =
      let y = pairs-true (m i) (m (i + 4)) (m (i + 1)) (m (i + 5)) c in
      ((sym y.0, tt), ((sym y.1, tt), tt))
  cut-one false false r c = (tt, (tt, (tt, (tt, tt))))

  cut-least : (r c : Bool) → Rows r → Columns c → (t : SubSplit) → One m i t → (sub_count (cut r c) ≤ sub_count t) × (sub_count t ≤ sub_count (cut r c) → t ≡ cut r c)
  cut-least true true r c S8x8 o = (omega arith, λ h. refl)
  cut-least true true r c S8x4 o = (omega arith, λ h. absurd (omega arith))
  cut-least true true r c S4x8 o = (omega arith, λ h. absurd (omega arith))
  cut-least true true r c S4x4 o = (omega arith, λ h. absurd (omega arith))
  cut-least true false r c S8x8 o = absurd (not-columns c o.0.1.0 (o.0.1.1.0 ∙ sym o.0.0))
  cut-least true false r c S8x4 o = (omega arith, λ h. refl)
  cut-least true false r c S4x8 o = absurd (not-columns c o.0.0 o.1.0.0)
  cut-least true false r c S4x4 o = (omega arith, λ h. absurd (omega arith))
  cut-least false true r c S8x8 o = absurd (not-rows r o.0.0 (o.0.1.1.0 ∙ sym o.0.1.0))
  cut-least false true r c S8x4 o = absurd (not-rows r o.0.0 o.1.0.0)
  cut-least false true r c S4x8 o = (omega arith, λ h. refl)
  cut-least false true r c S4x4 o = (omega arith, λ h. absurd (omega arith))
  cut-least false false r c S8x8 o = absurd (not-rows r o.0.0 (o.0.1.1.0 ∙ sym o.0.1.0))
  cut-least false false r c S8x4 o = absurd (not-rows r o.0.0 o.1.0.0)
  cut-least false false r c S4x8 o = absurd (not-columns c o.0.0 o.1.0.0)
  cut-least false false r c S4x4 o = (omega arith, λ h. refl)

  shape-least : Least m i (shape_of (m i) (m (i + 1)) (m (i + 4)) (m (i + 5)))
  unfolding shape_of
  shape-least = record { one = cut-one _ _ refl refl; least = cut-least _ _ refl refl }

-- ---- the whole macroblock
each-split : {A : Type 0} (P : A → Type 0) (xs ys : List A) → Each P (xs ++ ys) → Each P xs × Each P ys
each-split P [] ys h = (tt, h)
each-split P (x ∷ xs) ys h = let r = each-split P xs ys h.1 in ((h.0, r.0), r.1)

each-join : {A : Type 0} (P : A → Type 0) (xs ys : List A) → Each P xs → Each P ys → Each P (xs ++ ys)
each-join P [] ys h k = k
each-join P (x ∷ xs) ys h k = (h.0, each-join P xs ys h.1 k)

-- P of each quadrant, by its first block and its sub-split
record Quadrants (P : ℕ → SubSplit → Type 0) (t : SubSplits) : Type 0 where
  a : P 0 t.a
  b : P 2 t.b
  c : P 8 t.c
  d : P 10 t.d

positive : (s : SubSplit) → 1 ≤ sub_count s
positive S8x8 = omega arith
positive S8x4 = omega arith
positive S4x8 = omega arith
positive S4x4 = omega arith

four-or-more : (t : SubSplits) → 4 ≤ count (Quarters t)
four-or-more t = omega (arith, positive t.a, positive t.b, positive t.c, positive t.d)

is-whole : (s : SubSplit) → is_whole s ≡ true → s ≡ S8x8
is-whole S8x8 e = refl
is-whole S8x4 e = cc
is-whole S4x8 e = cc
is-whole S4x4 e = cc

more-whole : (t : Split) → t ≢ S16x16 → 1 < count t
more-whole S16x16 n = absurd (n refl)
more-whole S16x8 n = omega arith
more-whole S8x16 n = omega arith
more-whole (Quarters u) n = omega (arith, four-or-more u)

module _ (m : ℕ → Motion) where
  quads-of : (t : SubSplits) → OneEach m (Quarters t) → Quadrants (One m) t
  quads-of t o =
      let x = each-split (Alike m) (sub_pieces 0 t.a) (sub_pieces 2 t.b ++ (sub_pieces 8 t.c ++ sub_pieces 10 t.d)) o in
      let y = each-split (Alike m) (sub_pieces 2 t.b) (sub_pieces 8 t.c ++ sub_pieces 10 t.d) x.1 in
      let z = each-split (Alike m) (sub_pieces 8 t.c) (sub_pieces 10 t.d) y.1 in
      record { a = x.0; b = y.0; c = z.0; d = z.1 }

  of-quads : (t : SubSplits) → Quadrants (One m) t → OneEach m (Quarters t)
  of-quads t q =
      each-join (Alike m) (sub_pieces 0 t.a) (sub_pieces 2 t.b ++ (sub_pieces 8 t.c ++ sub_pieces 10 t.d)) q.a
      (each-join (Alike m) (sub_pieces 2 t.b) (sub_pieces 8 t.c ++ sub_pieces 10 t.d) q.b
      (each-join (Alike m) (sub_pieces 8 t.c) (sub_pieces 10 t.d) q.c q.d))

  -- four quadrants of one motion each, and how their motions agree
  abbrev Whole : Type 0
  Whole = Quadrants (One m) (record { a = S8x8; b = S8x8; c = S8x8; d = S8x8 })

  record Rows₂ : Type 0 where
    top : m 2 ≡ m 0
    low : m 10 ≡ m 8

  record Columns₂ : Type 0 where
    left : m 8 ≡ m 0
    right : m 10 ≡ m 2

  to-16x8 : Whole → Rows₂ → OneEach m S16x8
  to-16x8 w r = ((cc, (cc, (cc, (cc, (cc, (cc, (cc, tt))))))), ((cc, (cc, (cc, (cc, (cc, (cc, (cc, tt))))))), tt))

  to-8x16 : Whole → Columns₂ → OneEach m S8x16
  to-8x16 w c = ((cc, (cc, (cc, (cc, (cc, (cc, (cc, tt))))))), ((cc, (cc, (cc, (cc, (cc, (cc, (cc, tt))))))), tt))

  to-16x16 : Whole → Rows₂ → Columns₂ → OneEach m S16x16
  to-16x16 w r c = ((cc, (cc, (cc, (cc, (cc, (cc, (cc, (cc, (cc, (cc, (cc, (cc, (cc, (cc, (cc, tt))))))))))))))), tt)

  of-16x8 : OneEach m S16x8 → Whole × Rows₂
  of-16x8 o = (
    record { a = ((cc, (cc, (cc, tt))), tt); b = ((cc, (cc, (cc, tt))), tt); c = ((cc, (cc, (cc, tt))), tt); d = ((cc, (cc, (cc, tt))), tt) },
    record { top = cc; low = cc },
  )

  of-8x16 : OneEach m S8x16 → Whole × Columns₂
  of-8x16 o = (
    record { a = ((cc, (cc, (cc, tt))), tt); b = ((cc, (cc, (cc, tt))), tt); c = ((cc, (cc, (cc, tt))), tt); d = ((cc, (cc, (cc, tt))), tt) },
    record { left = cc; right = cc },
  )

  of-16x16 : OneEach m S16x16 → OneEach m S16x8 × OneEach m S8x16
  of-16x16 o = (
    ((cc, (cc, (cc, (cc, (cc, (cc, (cc, tt))))))), ((cc, (cc, (cc, (cc, (cc, (cc, (cc, tt))))))), tt)),
    ((cc, (cc, (cc, (cc, (cc, (cc, (cc, tt))))))), ((cc, (cc, (cc, (cc, (cc, (cc, (cc, tt))))))), tt)),
  )

  quarters-one : (t : SubSplits) → Quadrants (Least m) t → OneEach m (Quarters t)
  quarters-one t l = of-quads t (record { a = l.a.one; b = l.b.one; c = l.c.one; d = l.d.one })

  quarters-more : (t : SubSplits) → Quadrants (Least m) t → (u : SubSplits) → OneEach m (Quarters u) → Quarters u ≢ Quarters t → count (Quarters t) < count (Quarters u)
  quarters-more t l u o other =
      let q = quads-of u o in
      let a = l.a.least u.a q.a in
      let b = l.b.least u.b q.b in
      let c = l.c.least u.c q.c in
      let d = l.d.least u.d q.d in
      let most : count (Quarters t) ≤ count (Quarters u) = omega (arith, a.0, b.0, c.0, d.0) in
      ⊎_elim
      (λ same. let ea : u.a ≡ t.a = a.1 (omega (arith, a.0, b.0, c.0, d.0)) in
      let eb : u.b ≡ t.b = b.1 (omega (arith, a.0, b.0, c.0, d.0)) in
      let ec : u.c ≡ t.c = c.1 (omega (arith, a.0, b.0, c.0, d.0)) in
      let ed : u.d ≡ t.d = d.1 (omega (arith, a.0, b.0, c.0, d.0)) in
      absurd (other (λ i. Quarters (record { a = ea i; b = eb i; c = ec i; d = ed i }))))
      (λ less. less)
      (eq-or-lt_of_le most)

  whole-least : (i : ℕ) (s : SubSplit) → Least m i s → One m i S8x8 → is_whole s ≡ true
  whole-least i s l o = ap is_whole (sym ((l.least S8x8 o).1 (positive s)))

  not-whole : (t : SubSplits) → Quadrants (Least m) t → all_whole t ≡ false → Whole → ⊥
  unfolding all_whole
  not-whole t l e w =
      true≢false (sym
      (and_intro (whole-least 0 t.a l.a w.a) (and_intro (whole-least 2 t.b l.b w.b) (and_intro (whole-least 8 t.c l.c w.c) (whole-least 10 t.d l.d w.d))))
      ∙ e)

  all_whole_lem : (t : SubSplits) → Quadrants (Least m) t → all_whole t ≡ true → Whole
  unfolding all_whole
  all_whole_lem t l e =
      let x = both_true (is_whole t.a) (is_whole t.b && (is_whole t.c && is_whole t.d)) e in
      let y = both_true (is_whole t.b) (is_whole t.c && is_whole t.d) x.1 in
      let z = both_true (is_whole t.c) (is_whole t.d) y.1 in
      record {
        a = subst (One m 0) (is-whole t.a x.0) l.a.one;
        b = subst (One m 2) (is-whole t.b y.0) l.b.one;
        c = subst (One m 8) (is-whole t.c z.0) l.c.one;
        d = subst (One m 10) (is-whole t.d z.1) l.d.one;
      }

  abbrev TopRows : Bool → Type 0
  TopRows r = same_pairs (m 0) (m 2) (m 8) (m 10) ≡ r

  abbrev TopColumns : Bool → Type 0
  TopColumns c = same_pairs (m 0) (m 8) (m 2) (m 10) ≡ c

  top-rows : TopRows true → Rows₂
  top-rows e = let h = pairs-true (m 0) (m 2) (m 8) (m 10) e in record { top = sym h.0; low = sym h.1 }

  top-columns : TopColumns true → Columns₂
  top-columns e = let h = pairs-true (m 0) (m 8) (m 2) (m 10) e in record { left = sym h.0; right = sym h.1 }

  no_rows : TopRows false → OneEach m S16x8 → ⊥
  no_rows e o = let r = (of-16x8 o).1 in pairs-false (m 0) (m 2) (m 8) (m 10) e (sym r.top) (sym r.low)

  no-columns : TopColumns false → OneEach m S8x16 → ⊥
  no-columns e o = let c = (of-8x16 o).1 in pairs-false (m 0) (m 8) (m 2) (m 10) e (sym c.left) (sym c.right)

  -- the others, against each of the answers
  more_rows : TopColumns false → (t : Split) → OneEach m t → t ≢ S16x8 → 2 < count t
  more_rows e S16x16 o n = absurd (no-columns e (of-16x16 o).1)
  more_rows e S16x8 o n = absurd (n refl)
  more_rows e S8x16 o n = absurd (no-columns e o)
  more_rows e (Quarters u) o n = omega (arith, four-or-more u)

  more-columns : TopRows false → (t : Split) → OneEach m t → t ≢ S8x16 → 2 < count t
  more-columns e S16x16 o n = absurd (no_rows e (of-16x16 o).0)
  more-columns e S16x8 o n = absurd (no_rows e o)
  more-columns e S8x16 o n = absurd (n refl)
  more-columns e (Quarters u) o n = omega (arith, four-or-more u)

  more-quarters : (s : SubSplits) → Quadrants (Least m) s → (OneEach m S16x8 → ⊥) → (OneEach m S8x16 → ⊥) → (t : Split) → OneEach m t → t ≢ Quarters s → count (Quarters s) < count t
  more-quarters s l r c S16x16 o n = absurd (r (of-16x16 o).0)
  more-quarters s l r c S16x8 o n = absurd (r o)
  more-quarters s l r c S8x16 o n = absurd (c o)
  more-quarters s l r c (Quarters u) o n = quarters-more s l u o n

  fewest-of : (s : Split) → OneEach m s → ((t : Split) → OneEach m t → t ≢ s → count s < count t) → Fewest m s
  fewest-of s o h = record { one = each-one m s o; more = λ t e n. h t (one_each_lem m t e) n }

  fewest-by : (s : SubSplits) → Quadrants (Least m) s → (w r c : Bool) → all_whole s ≡ w → TopRows r → TopColumns c → Fewest m (pick w (joined (cut r c) s) (Quarters s))
  unfolding pick
  fewest-by s l false r c ew er ec =
      fewest-of (Quarters s) (quarters-one s l) (more-quarters s l (λ o. not-whole s l ew (of-16x8 o).0) (λ o. not-whole s l ew (of-8x16 o).0))
  fewest-by s l true true true ew er ec = fewest-of S16x16 (to-16x16 (all_whole_lem s l ew) (top-rows er) (top-columns ec)) (λ t o n. more-whole t n)
  fewest-by s l true true false ew er ec = fewest-of S16x8 (to-16x8 (all_whole_lem s l ew) (top-rows er)) (more_rows ec)
  fewest-by s l true false true ew er ec = fewest-of S8x16 (to-8x16 (all_whole_lem s l ew) (top-columns ec)) (more-columns er)
  fewest-by s l true false false ew er ec = fewest-of (Quarters s) (quarters-one s l) (more-quarters s l (no_rows er) (no-columns ec))

split_of-fewest : (q : List (List Motion)) → Fewest (motion_at q) (split_of q)
unfolding split_of shapes_of quadrant_shape shape_of
split_of-fewest q =
    fewest-by (motion_at q) (shapes_of q)
    (record { a = shape-least (motion_at q) 0; b = shape-least (motion_at q) 2; c = shape-least (motion_at q) 8; d = shape-least (motion_at q) 10 })
    _ _ _ refl refl refl

-- ---- the fewest in a list that has it is the one against which every other has more
sixteen-one : (m : ℕ → Motion) → one_each m sixteen_pieces ≡ true
sixteen-one m = each-one m sixteen_pieces (tt, (tt, (tt, (tt, (tt, (tt, (tt, (tt, (tt, (tt, (tt, (tt, (tt, (tt, (tt, (tt, tt))))))))))))))))

fewest-one : (m : ℕ → Motion) (l : List Split) → one_each m (fewest_in l m) ≡ true
unfolding fewest_in
fewest-one m [] = sixteen-one m
fewest-one m (x ∷ xs) =
    let rest = fewest-one m xs in
    pick-cases (λ t. one_each m t ≡ true) _ _ _ (λ o. pick-cases (λ t. one_each m t ≡ true) _ _ _ (λ _. rest) (λ _. o)) (λ _. rest)

module _ (m : ℕ → Motion) (s : Split) (f : Fewest m s) where
  abbrev IsIt : Split → Type 0
  IsIt t = t ≡ s

  not_more : (t : Split) → one_each m t ≡ true → count t ≤ count s → IsIt t
  not_more t o h = ⊎_elim (λ e. e) (λ n. absurd (omega (arith, f.more t o n))) (split-cases t s)

  fewer-left : (t : Split) → one_each m t ≡ true → IsIt (fewer s t)
  fewer-left t o =
      pick-cases IsIt _ _ _ (λ l. not_more t o (le_of_lt (ltb-true (count t) (count s) l))) (λ _. refl)

  fewer-right : (t : Split) → one_each m t ≡ true → IsIt (fewer t s)
  fewer-right t o = pick-cases IsIt _ _ _ (λ _. refl) (λ l. not_more t o (ltb-false (count s) (count t) l))

  fewest-is : (l : List Split) (k : ℕ) → k < length l → IsIt (get_or l k S16x16) → IsIt (fewest_in l m)
  unfolding fewest_in
  fewest-is [] k h e = absurd (not-suc-le-zero h)
  fewest-is (x ∷ xs) zero h e =
      yes _ _ (ap (one_each m) e ∙ f.one) ∙ (ap (λ (t : Split). fewer t (fewest_in xs m)) e ∙ fewer-left (fewest_in xs m) (fewest-one m xs))
  fewest-is (x ∷ xs) (suc k) h e =
      let rest = fewest-is xs k (le_of_suc-le-suc h) e in
      pick-cases IsIt _ _ _ (λ o. ap (fewer x) rest ∙ fewer-right x o) (λ _. rest)

-- ---- step 5
pub chosen_is : (m : List (List Motion)) → chosen m ≡ split_of m
chosen_is m =
    let k = all_listed (split_of m) in
    fewest-is (motion_at m) (split_of m) (split_of-fewest m) splits k.0 k.1 k.2

pub chosen-fewest : (m : List (List Motion)) → Fewest (motion_at m) (chosen m)
chosen-fewest m = subst (Fewest (motion_at m)) (sym (chosen_is m)) (split_of-fewest m)
