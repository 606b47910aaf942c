-- With other detail bits in the base, an answer and its record have other bits at most. Assumes nothing.
use Prim.Native.Nat.{ℕ, zero, suc, ◌+◌, ◌*◌, ◌<◌}
use mathlib.Core.Path.{◌≡◌, refl, sym, ap, subst, ◌∙◌}
use mathlib.Core.List.{List}
use native.Mathlib.Omega.{arith}
use lib.IntN.{ℤ, pos}
use lib.ListN.{get_or, take}
use lib.Seq.{get_or-take}
use Rattle.definitions.specs.declared.Axes.{Axes}
use Rattle.definitions.specs.declared.Motion.{Motion}
use Rattle.definitions.specs.declared.Answer.{Answer}
use Rattle.definitions.specs.declared.Answer.TheVariants.{Outside, Intra, Inherited}
use Rattle.definitions.specs.declared.Counts.{Counts}
use Rattle.definitions.specs.Basics.{eq_z, up_to}
use Rattle.definitions.specs.Geometry.{axes_of}
use Rattle.definitions.specs.BlockMap.{address_read, block_read}
use Rattle.definitions.specs.Blocks.{quadrant_of}
use Rattle.definitions.specs.Record.{record_at, word_of, reference_of, vector_x_of, vector_y_of, motion_of, is_intra, laid_out}
use Rattle.definitions.specs.Inheriting.{inherited_motions}
use Rattle.definitions.specs.Detail.{detail_at}
use Rattle.definitions.specs.Answer.{answer_detail, with_bits, answer_of, written_for, Made, made_of}
use Rattle.definitions.specs.Calls.{counted, counts_of, made_at}
use Rattle.definitions.specs.Raster.{full_count, column_at, row_at}
use Rattle.definitions.specs.Apart.{SameButDetail, ButBits, DetailApart}
use Rattle.definitions.proofs.Sameness.{but-bits}
use Rattle.definitions.proofs.Counting.{counts-more}
use Rattle.definitions.proofs.Demand.{singly-made, picture-made, counted-accepted, counted-made}

-- ---- A record's first 77 words say whether it is intra, and its motions
module _ (r s : List ℤ) (e : take 77 r ≡ take 77 s) where
  word : (w : ℕ) → w < 77 → word_of r w ≡ word_of s w
  word w h = sym (get_or-take 77 r w (pos 0) h) ∙ (ap (λ (l : List ℤ). get_or l w (pos 0)) e ∙ get_or-take 77 s w (pos 0) h)

  intra-cut : is_intra r ≡ is_intra s
  intra-cut = ap (λ (z : ℤ). eq_z z (pos 0)) (word 0 (omega arith))

  motion-cut : (b : ℕ) → b < 16 → motion_of r b ≡ motion_of s b
  unfolding motion_of
  motion-cut b h = λ i. record {
    list0 = record { reference = reference 0 (omega arith) i; x = x 0 (omega arith) i; y = y 0 (omega arith) i };
    list1 = record { reference = reference 1 (omega arith) i; x = x 1 (omega arith) i; y = y 1 (omega arith) i };
  }
    where
      reference : (l : ℕ) → l < 2 → reference_of r (quadrant_of b) l ≡ reference_of s (quadrant_of b) l
      reference l k = word (5 + 2 * quadrant_of b + l) (omega arith)

      x : (l : ℕ) → l < 2 → vector_x_of r b l ≡ vector_x_of s b l
      x l k = word (13 + 4 * b + 2 * l) (omega arith)

      y : (l : ℕ) → l < 2 → vector_y_of r b l ≡ vector_y_of s b l
      y l k = word (13 + 4 * b + 2 * l + 1) (omega arith)

-- ---- Other bits, and the words of the record
same-words : (d : ℕ) (a : Answer) (m : List (List Motion)) → take 77 (written_for (with_bits d a) m) ≡ take 77 (written_for a m)
unfolding written_for laid_out up_to
same-words d Outside m = refl
same-words d (Intra b) m = refl
same-words d (Inherited b s) m = refl

bits-kept : (d : ℕ) (a : Answer) → with_bits d a ≡ with_bits (answer_detail (with_bits d a)) a
bits-kept d Outside = refl
bits-kept d (Intra b) = refl
bits-kept d (Inherited b s) = refl

-- ---- What is made
block-low : (g : Axes) (column row i : ℕ) → block_read g column row i < 16
unfolding block_read
block-low g column row i = omega arith

module _ (g : Axes) (column row : ℕ) (base other : List ℤ) (same : SameButDetail base other) where
  made-apart : ButBits (made_of g base column row).answer (made_of g base column row).written (made_of g other column row).answer (made_of g other column row).written
  unfolding made_of
  made-apart =
      let p = but-bits g base other column row
      (λ i h. intra-cut (record_at other (address_read g column row i)) (record_at base (address_read g column row i)) (same (address_read g column row i)))
      (λ i h. motion-cut (record_at other (address_read g column row i)) (record_at base (address_read g column row i)) (same (address_read g column row i)) (block_read g column row i) (block-low g column row i)) in
      let d = detail_at g other column row in
      let a = answer_of g base column row in
      let q = ap (λ (m : Made). m.answer) p in
      record {
        answers = q ∙ (bits-kept d a ∙ ap (λ (x : Answer). with_bits (answer_detail x) a) (sym q));
        words = ap (λ (m : Made). take 77 m.written) p ∙ same-words d a (inherited_motions g base column row);
      }

-- ---- Counts: other bits make no other sort
same-sort : (d : ℕ) (a : Answer) (c : Counts) → counted (with_bits d a) c ≡ counted a c
same-sort d Outside c = refl
same-sort d (Intra b) c = refl
same-sort d (Inherited b s) c = refl

made_at_lem : (g : Axes) (base other : List ℤ) → SameButDetail base other → (k : ℕ) → ButBits (made_at g base k).answer (made_at g base k).written (made_at g other k).answer (made_at g other k).written
unfolding made_at
made_at_lem g base other same k = made-apart g (column_at g k) (row_at g k) base other same

same-counts : (n : ℕ) (f f' : ℕ → Made) → ((k : ℕ) → ButBits (f k).answer (f k).written (f' k).answer (f' k).written) → counts_of (up_to n f') ≡ counts_of (up_to n f)
unfolding up_to
same-counts zero f f' h = refl
same-counts (suc n) f f' h =
    counts-more n f'
    ∙ ((λ i. counted ((h n).answers i) (same-counts n f f' h i)) ∙ (same-sort (answer_detail (f' n).answer) (f n).answer (counts_of (up_to n f)) ∙ sym (counts-more n f)))

-- ---- Both calls
carried : {a b a' b' : Answer} {w v w' v' : List ℤ} → ButBits a w a' w' → a ≡ b → w ≡ v → a' ≡ b' → w' ≡ v' → ButBits b v b' v'
carried p e f e' f' = subst (λ (x : Answer × List ℤ × Answer × List ℤ). ButBits x.0 x.1 x.2 x.3) (λ i. (e i, f i, e' i, f' i)) p

pub detail-apart : (limit : ℕ) → DetailApart limit
detail-apart limit = record {
  singly = λ n column row words base other answer answer' written written' same e f.
      let p = singly-made limit n column row words base answer written e in
      let q = singly-made limit n column row words other answer' written' f in
      carried (made-apart (axes_of n) column row base other same) p.0 p.1 q.0 q.1;
  picture = λ n column row words alone base other answer answer' written written' same e f.
      let p = picture-made limit n column row words alone base answer written e in
      let q = picture-made limit n column row words alone other answer' written' f in
      carried (made-apart (axes_of n) column row base other same) p.0 p.1 q.0 q.1;
  counts = λ n words base other c c' same e f.
      let g = axes_of n in
      let p : c ≡ counts_of (up_to (full_count g) (made_at g base)) = cc (sym e ∙ counted-made limit n words base (counted-accepted limit n words base c e)) in
      let q : c' ≡ counts_of (up_to (full_count g) (made_at g other)) = cc (sym f ∙ counted-made limit n words other (counted-accepted limit n words other c' f)) in
      q ∙ (same-counts (full_count g) (made_at g base) (made_at g other) (made_at_lem g base other same) ∙ sym p);
}
