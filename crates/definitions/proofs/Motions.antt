-- The tests on words, predictions and motions tell exactly whether the two are equal. Assumes nothing.
use mathlib.Core.Path.{◌≡◌, refl, sym, ◌∙◌, ap}
use mathlib.Core.Bool.{Bool, true, false, true≢false, ◌&&◌}
use lib.IntN.{ℤ}
use lib.Dec.{eqb}
use mir.Syntax.{Width, w16}
use mir.Val.{SFits, of_z, to_z}
use mir.Facts.{to_z-of_z}
use borrow.Author.Tests.{eq-eqb, ne_eqb}
use Rattle.definitions.specs.declared.Prediction.{Prediction}
use Rattle.definitions.specs.declared.Motion.{Motion}
use Rattle.definitions.specs.Basics.{eq_z}
use Rattle.definitions.specs.Splits.{same_prediction, same_motion}
use Rattle.definitions.proofs.Choices.{both_true, and_intro, eq_z-true, eq_z-refl}

-- The machine compares the bits of two numbers.
by_bits : {w : Width} (a b : ℤ) → SFits w a → SFits w b → (t : Bool) → eq_z a b ≡ t → eqb (of_z w a) (of_z w b) ≡ t
by_bits {w} a b fa fb true e = eq-eqb _ _ (ap (of_z w) (eq_z-true a b e))
by_bits {w} a b fa fb false e =
    ne_eqb (of_z w a) (of_z w b)
    (λ h. let same : a ≡ b = sym (to_z-of_z fa) ∙ ap (to_z w) h ∙ to_z-of_z fb in
    true≢false (sym (eq_z-refl a) ∙ ap (eq_z a) same ∙ e))

pub bits-same : (w : Width) (a b : ℤ) → SFits w a → SFits w b → eqb (of_z w a) (of_z w b) ≡ eq_z a b
bits-same w a b fa fb = by_bits a b fa fb (eq_z a b) refl

pub word_same : (a b : ℤ) → SFits w16 a → SFits w16 b → eqb (of_z w16 a) (of_z w16 b) ≡ eq_z a b
word_same = bits-same w16

prediction-true : (p q : Prediction) → same_prediction p q ≡ true → p ≡ q
unfolding same_prediction
prediction-true p q e =
    let h = both_true (eq_z p.reference q.reference) (eq_z p.x q.x && eq_z p.y q.y) e in
    let k = both_true (eq_z p.x q.x) (eq_z p.y q.y) h.1 in
    let r : p.reference ≡ q.reference = eq_z-true _ _ h.0 in
    let s : p.x ≡ q.x = eq_z-true _ _ k.0 in
    let t : p.y ≡ q.y = eq_z-true _ _ k.1 in
    λ i. record { reference = r i; x = s i; y = t i }

pub motion-true : (m n : Motion) → same_motion m n ≡ true → m ≡ n
unfolding same_motion
motion-true m n e =
    let h = both_true (same_prediction m.list0 n.list0) (same_prediction m.list1 n.list1) e in
    let p : m.list0 ≡ n.list0 = prediction-true _ _ h.0 in
    let q : m.list1 ≡ n.list1 = prediction-true _ _ h.1 in
    λ i. record { list0 = p i; list1 = q i }

prediction-refl : (p : Prediction) → same_prediction p p ≡ true
unfolding same_prediction
prediction-refl p = and_intro (eq_z-refl p.reference) (and_intro (eq_z-refl p.x) (eq_z-refl p.y))

motion-refl : (m : Motion) → same_motion m m ≡ true
unfolding same_motion
motion-refl m = and_intro (prediction-refl m.list0) (prediction-refl m.list1)

pub motion-same : (m n : Motion) → m ≡ n → same_motion m n ≡ true
motion-same m n e = ap (λ (x : Motion). same_motion x n) e ∙ motion-refl n
