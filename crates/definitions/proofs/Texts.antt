-- Laws of the text: a text has one place of refusal 9, a refused call leaves every word, and what the words of a record line are.
use Prim.Native.Nat.{ℕ, ◌≤◌, ◌<◌, ◌+◌}
use mathlib.Core.Path.{◌≡◌, refl, sym, ◌∙◌, ap, subst}
use mathlib.Core.Bool.{Bool, true, false}
use mathlib.Core.List.{List, [], ◌∷◌, ◌++◌, append_assoc}
use native.Mathlib.Omega.{arith}
use lib.Dec.{leb}
use lib.IntN.{ℤ, pos}
use lib.ListN.{length, take, drop, take-append-drop}
use lib.Seq.{take-take}
use borrow.Author.Tests.{leb-true, leb-false}
use Rattle.definitions.specs.declared.Motion.{Motion}
use Rattle.definitions.specs.declared.Refusal.{Refusal}
use Rattle.definitions.specs.Replies.{TextReply, NoPicture, Read}
use Rattle.std.specs.Prelude.{Err as Refused}
use Rattle.definitions.specs.Record.{record_words, type_of, sub_type_of, motion_of, detail_of, all_one}
use Rattle.definitions.specs.Answer.{unused_motion}
use Rattle.definitions.specs.Text.{Belongs, CanGoOn, BreaksAt, intra, whole, words_for, TextAnswer, wrong_words, no_picture, refused, given}
use Rattle.definitions.proofs.Records.{laid-length, laid-type, laid-sub-type, laid-motion, laid-detail}

-- ---- The place
goes-shorter : (t : List ℕ) (m n : ℕ) → m ≤ n → CanGoOn (take n t) → CanGoOn (take m t)
goes-shorter t m n l h =
    let e : take n t ++ h.rest ≡ take m t ++ (drop m (take n t) ++ h.rest) =
    ap (λ (o : List ℕ). o ++ h.rest) (sym (take-append-drop m (take n t)) ∙ ap (λ (o : List ℕ). o ++ drop m (take n t)) (take-take m n t l))
    ∙ append_assoc (take m t) (drop m (take n t)) h.rest in
    record { rest = drop m (take n t) ++ h.rest; belongs = subst Belongs e h.belongs }

-- a text does not go on after its place
not_beyond : (t : List ℕ) (p q : ℕ) → BreaksAt t p → BreaksAt t q → p < q → ⊥
not_beyond t p q h k l =
    let m = k.within in
    h.there (omega arith) (goes-shorter t (p + 1) q (omega arith) k.before)

pub one_place : (t : List ℕ) (p q : ℕ) → BreaksAt t p → BreaksAt t q → p ≡ q
one_place t p q h k = by-test (leb p q) (leb q p) refl refl
  where
    by-test : (u v : Bool) → leb p q ≡ u → leb q p ≡ v → p ≡ q
    by-test true true e f = let a = leb-true p q e in let b = leb-true q p f in omega arith
    by-test false v e f = absurd (not_beyond t q p k h (leb-false p q e))
    by-test true false e f = absurd (not_beyond t p q h k (leb-false q p f))

-- ---- A refused call leaves every word.
abbrev Kept : TextReply → List ℤ → List ℤ → Type 0
Kept NoPicture old new = new ≡ old
Kept (Read t) old new = Unit {0}
Kept (Refused r) old new = new ≡ old

kept : {t : List ℕ} {old : List ℤ} {r : TextReply} {new : List ℤ} → TextAnswer t old r new → Kept r old new
kept (wrong_words n) = refl
kept (no_picture e x) = refl
kept (refused e x) = refl
kept (given e x) = tt

pub refused-keeps : {t : List ℕ} {old : List ℤ} {r : Refusal} {new : List ℤ} → TextAnswer t old (Refused r) new → new ≡ old
refused-keeps h = kept h

-- A text without a picture leaves them too.
pub empty-keeps : {t : List ℕ} {old : List ℤ} {new : List ℤ} → TextAnswer t old NoPicture new → new ≡ old
empty-keeps h = kept h

-- ---- The words of (intra ..) and (whole ..): a record of a type, with no sub-types, one motion in all blocks, and this last word
record Uniform (words : List ℤ) (type : ℕ) (m : Motion) (d : ℤ) : Type 0 where
  many : length words ≡ record_words
  type-is : type_of words ≡ pos type
  sub-types : (q : ℕ) → q < 4 → sub_type_of words q ≡ pos 0
  motions : (b : ℕ) → b < 16 → motion_of words b ≡ m
  detail-is : detail_of words ≡ d

intra-words : (d : ℤ) → Uniform (words_for intra (d ∷ [])) 0 unused_motion d
intra-words d =
    record {
      many = laid-length (all_one 0 unused_motion d);
      type-is = laid-type (all_one 0 unused_motion d);
      sub-types = laid-sub-type (all_one 0 unused_motion d);
      motions = λ b h. laid-motion (all_one 0 unused_motion d) b h refl refl;
      detail-is = laid-detail (all_one 0 unused_motion d);
    }

whole_words : (r0 r1 x0 y0 x1 y1 d : ℤ) →
    Uniform (words_for whole (r0 ∷ r1 ∷ x0 ∷ y0 ∷ x1 ∷ y1 ∷ d ∷ [])) 1
    (record { list0 = record { reference = r0; x = x0; y = y0 }; list1 = record { reference = r1; x = x1; y = y1 } }) d
whole_words r0 r1 x0 y0 x1 y1 d =
    let m : Motion = record { list0 = record { reference = r0; x = x0; y = y0 }; list1 = record { reference = r1; x = x1; y = y1 } } in
    record {
      many = laid-length (all_one 1 m d);
      type-is = laid-type (all_one 1 m d);
      sub-types = laid-sub-type (all_one 1 m d);
      motions = λ b h. laid-motion (all_one 1 m d) b h refl refl;
      detail-is = laid-detail (all_one 1 m d);
    }
