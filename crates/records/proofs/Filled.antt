-- A buffer that is filled from its front with a record of one motion. Assumes nothing.
use Prim.Native.Nat.{ℕ, suc, ◌+◌, ◌*◌, ◌-◌, ◌≤◌, ◌<◌}
use mathlib.Core.Path.{◌≡◌, refl, sym, ap, subst, ◌∙◌}
use mathlib.Core.List.{List, [], ◌∷◌, ◌++◌}
use native.Mathlib.Omega.{arith}
use lib.IntN.{ℤ, pos}
use lib.ListN.{length, take, set, length-set}
use lib.Seq.{take_all, take-suc, take-suc-set}
use Rattle.definitions.specs.declared.Motion.{Motion}
use Rattle.definitions.specs.Record.{all_one, laid_out, record_words, word_of}
use Rattle.definitions.proofs.Records.{laid-detail, laid-length, laid-references, laid-sub-type, laid-type, laid-vectors}

-- the first w words are the record's
pub record Filled (kind : ℕ) (m : Motion) (d : ℤ) (out : List ℤ) (w : ℕ) : Type 0 where
  pub long : length out ≡ record_words
  pub same : take w out ≡ take w (laid_out (all_one kind m d))

module _ (kind : ℕ) (m : Motion) (d : ℤ) where
  words : List ℤ
  words = laid_out (all_one kind m d)

  filled_more : (out : List ℤ) (v : ℤ) (w n : ℕ) → Filled kind m d out w → w < record_words → n ≡ suc w → word_of words w ≡ v → Filled kind m d (set out w v) n
  unfolding words
  filled_more out v w n f h e is =
      let l = laid-length (all_one kind m d) in
      let last = sym is in
      subst (Filled kind m d (set out w v)) (sym e) (record {
        long = length-set out w v ∙ f.long;
        same = take-suc-set out w v (omega (arith, f.long)) ∙ ((λ i. f.same i ++ (last i ∷ [])) ∙ sym (take-suc words w (pos 0) (omega arith)));
      })

  pub filled-all : (out : List ℤ) (w : ℕ) → Filled kind m d out w → w ≡ record_words → out ≡ laid_out (all_one kind m d)
  filled-all out w f e =
      sym (take_all w out (omega (arith, f.long))) ∙ (f.same ∙ take_all w (laid_out (all_one kind m d)) (omega (arith, laid-length (all_one kind m d))))

  -- one word more: what is held after it, and the place after it
  more : (out next : List ℤ) (v : ℤ) (w n : ℕ) → Filled kind m d out w → next ≡ set out w v → w < record_words → n ≡ suc w → word_of words w ≡ v → Filled kind m d next n
  more out next v w n f s h e is = subst (λ (l : List ℤ). Filled kind m d l n) (sym s) (filled_more out v w n f h e is)

  module _ (out next : List ℤ) (v : ℤ) where
    pub filled-type : length out ≡ record_words → next ≡ set out 0 v → v ≡ pos kind → Filled kind m d next 1
    unfolding words
    filled-type l s e = more out next v 0 1 (record { long = l; same = λ i. [] }) s (omega arith) (omega arith) (laid-type (all_one kind m d) ∙ sym e)

    pub filled-sub-type : (w : ℕ) → Filled kind m d out w → next ≡ set out w v → 1 ≤ w → w < 5 → v ≡ pos 0 → Filled kind m d next (w + 1)
    unfolding words
    filled-sub-type w f s low high e =
        let at : 1 + (w - 1) ≡ w = omega arith in
        more out next v w (w + 1) f s (omega arith) (omega arith) (ap (word_of words) (sym at) ∙ (laid-sub-type (all_one kind m d) (w - 1) (omega arith) ∙ sym e))

    pub filled-detail : (b : ℕ) → Filled kind m d out (13 + 4 * b) → next ≡ set out 77 v → b ≡ 16 → v ≡ d → next ≡ laid_out (all_one kind m d)
    unfolding words
    filled-detail b f s h e =
        let at : 13 + 4 * b ≡ 77 = omega arith in
        filled-all next 78 (more out next v 77 78 (subst (Filled kind m d out) at f) s (omega arith) (omega arith) (laid-detail (all_one kind m d) ∙ sym e)) refl

  -- the two references of a quadrant, and the four vector words of a block
  module _ (out one two : List ℤ) (r s : ℤ) where
    pub filled-references : (q : ℕ) → Filled kind m d out (5 + 2 * q) → q < 4 → one ≡ set out (5 + 2 * q) r → two ≡ set one (5 + 2 * q + 1) s
        → r ≡ m.list0.reference → s ≡ m.list1.reference → Filled kind m d two (5 + 2 * (q + 1))
    unfolding words
    filled-references q f h e1 e2 er es =
        let w = 5 + 2 * q in
        let at : 5 + 2 * q + 0 ≡ w = omega arith in
        let laid = laid-references (all_one kind m d) q h in
        let a = more out one r w (w + 1) f e1 (omega arith) (omega arith) (ap (word_of words) (sym at) ∙ (laid.0 ∙ sym er)) in
        more one two s (w + 1) (5 + 2 * (q + 1)) a e2 (omega arith) (omega arith) (laid.1 ∙ sym es)

  module _ (out one two three four : List ℤ) (x y z t : ℤ) where
    pub filled-vectors : (b : ℕ) → Filled kind m d out (13 + 4 * b) → b < 16
        → one ≡ set out (13 + 4 * b) x → two ≡ set one (13 + 4 * b + 1) y → three ≡ set two (13 + 4 * b + 2) z → four ≡ set three (13 + 4 * b + 3) t
        → x ≡ m.list0.x → y ≡ m.list0.y → z ≡ m.list1.x → t ≡ m.list1.y → Filled kind m d four (13 + 4 * (b + 1))
    unfolding words
    filled-vectors b f h e1 e2 e3 e4 ex ey ez et =
        let w = 13 + 4 * b in
        let at0 : w ≡ 13 + 4 * b + 2 * 0 = omega arith in
        let at1 : w + 1 ≡ 13 + 4 * b + 2 * 0 + 1 = omega arith in
        let at2 : w + 2 ≡ 13 + 4 * b + 2 * 1 = omega arith in
        let at3 : w + 3 ≡ 13 + 4 * b + 2 * 1 + 1 = omega arith in
        let laid = laid-vectors (all_one kind m d) b h in
        let a = more out one x w (w + 1) f e1 (omega arith) (omega arith) (ap (word_of words) at0 ∙ (laid.0 ∙ sym ex)) in
        let k = more one two y (w + 1) (w + 2) a e2 (omega arith) (omega arith) (ap (word_of words) at1 ∙ (laid.1 ∙ sym ey)) in
        let g = more two three z (w + 2) (w + 3) k e3 (omega arith) (omega arith) (ap (word_of words) at2 ∙ (laid.2 ∙ sym ez)) in
        more three four t (w + 3) (13 + 4 * (b + 1)) g e4 (omega arith) (omega arith) (ap (word_of words) at3 ∙ (laid.3 ∙ sym et))
