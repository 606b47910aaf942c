-- No column yet and one more; the words and counts of the macroblocks made so far. Assumes nothing.
use Prim.Native.Nat.{ℕ, ◌+◌, ◌*◌, ◌-◌, ◌<◌, ◌≤◌}
use mathlib.Core.Path.{◌≡◌, refl, sym, ap, subst, ◌∙◌}
use mathlib.Core.List.{List, ◌++◌, map}
use mathlib.Core.Logic.{◌⊎◌, ⊎_elim}
use native.Mathlib.Nat.{eq-or-lt_of_le, mul-le-mul, mul_comm}
use native.Mathlib.Omega.{arith}
use lib.IntN.{ℤ}
use lib.ListN.{get_or, set, length, take, drop, replicate, length-set, length-drop, length-replicate, length-take, get_or-replicate}
use lib.Seq.{get_or-set_same, get_or-set_other}
use Rattle.std.proofs.lemmas.List.{map-append, take-map, drop-map}
use Rattle.definitions.specs.declared.Axes.{Axes}
use Rattle.definitions.specs.declared.Axis.{Axis}
use Rattle.definitions.specs.declared.Counts.{Counts}
use Rattle.definitions.specs.Basics.{up_to, for_each}
use Rattle.definitions.specs.Geometry.{full_size, macroblocks}
use Rattle.definitions.specs.Answer.{Made}
use Rattle.definitions.specs.Calls.{counted, counts_of, made_at, no_counts}
use Rattle.definitions.specs.Raster.{full_count}
use Rattle.definitions.specs.Record.{record_words}
use Rattle.definitions.proofs.Demand.{made-length}
use Rattle.definitions.proofs.Parts.{parts, parts_none, parts_all, part-back}
use Rattle.definitions.proofs.RecordLists.{each_same}
use Rattle.common.proofs.Counted.{counts-none, counts-next}
use Rattle.macroblock.specs.declared.AxisRead.{AxisRead}
use Rattle.common.specs.Bases.{BaseFormed}
use Rattle.common.specs.Sorts.{sort_of}
use Rattle.macroblock.specs.declared.Fixed.{Fixed}
use Rattle.macroblock.specs.Made.{Makeable, fixed_of, made_by, nowhere, read_of, sort_by, written_by}
use Rattle.macroblock.proofs.Paper.{sort-is}
use Rattle.upsample.proofs.Addresses.{makeable, made-there}
use Rattle.picture.specs.Reads.{no_read, AxisReads}

below_last : (k x : ℕ) → k < x + 1 → (k ≡ x) ⊎ (k < x)
below_last k x l = let m : k ≤ x = omega arith in eq-or-lt_of_le m

pub read_none : (a : Axis) (r : AxisRead) → r ≡ nowhere → AxisReads a 0 (replicate 256 r)
read_none a r e = record {
  size = length-replicate {A = AxisRead} 256 r;
  each = λ k l. absurd (omega arith);
  rest = λ k l m. get_or-replicate {A = AxisRead} 256 k r no_read m ∙ e;
}

pub read_more : (a : Axis) (x : ℕ) (reads : List AxisRead) (r : AxisRead) → x < 256 → AxisReads a x reads → r ≡ read_of a x → AxisReads a (x + 1) (set reads x r)
read_more a x reads r h so_far e = record {
  size = length-set reads x r ∙ so_far.size;
  each = λ k l. ⊎_elim
      (λ same. ap (λ (j : ℕ). get_or (set reads x r) j no_read) same ∙ (get_or-set_same reads x r no_read (omega (arith, so_far.size)) ∙ (e ∙ ap (read_of a) (sym same))))
      (λ less. get_or-set_other reads x k r no_read (λ same. omega arith) ∙ so_far.each k less)
      (below_last k x l);
  rest = λ k l m. get_or-set_other reads x k r no_read (λ same. omega arith) ∙ so_far.rest k (omega arith) m;
}

-- ---- the macroblocks made so far: those below an address
module _ (g : Axes) (base : List ℤ) where
  abbrev f : ℕ → Made
  f = made_at g base

  pub record SoFar (out now : List ℤ) (counts : Counts) (a : ℕ) : Type 0 where
    pub words : now ≡ parts a (λ k. (f k).written) ++ drop (record_words * a) out
    pub counted : counts ≡ counts_of (up_to a f)

  pub so_far_none : (out : List ℤ) (counts : Counts) → counts ≡ no_counts → SoFar out out counts 0
  so_far_none out counts e = record { words = parts_none (λ k. (f k).written) record_words out; counted = e ∙ counts-none f }

  pub so_far_at : {out now : List ℤ} {counts : Counts} (a b : ℕ) → a ≡ b → SoFar out now counts a → SoFar out now counts b
  so_far_at {out} {now} {counts} a b e s = subst (λ (k : ℕ). SoFar out now counts k) e s

  module _ {A : Type 0} (value : A → ℤ) (out now part : List A) where
    pub so_far_more : (counts next : Counts) (a from k : ℕ) → from ≡ record_words * a → k ≡ record_words → SoFar (map value out) (map value now) counts a
        → map value part ≡ (f a).written → next ≡ counted (f a).answer counts
        → SoFar (map value out) (map value (take from now ++ (part ++ drop k (drop from now)))) next (a + 1)
    so_far_more counts next a from k at e s written one = record {
      words =
          rw (at, map-append, ← take-map, map-append, ← drop-map, ← drop-map)
          (part-back (λ k. (f k).written) record_words (made-length g base) (map value out) (map value now) (map value part) a k e s.words written);
      counted = counts-next f a counts next (f a).answer s.counted refl one;
    }

  -- all of them
  pub all_made : (out now : List ℤ) (counts : Counts) (a : ℕ) → length out ≡ record_words * full_count g → a ≡ full_count g → SoFar out now counts a
      → (counts ≡ counts_of (up_to (full_count g) f)) × (now ≡ for_each (up_to (full_count g) f) (λ m. m.written))
  all_made out now counts a l e s = (
    s.counted ∙ ap (λ (k : ℕ). counts_of (up_to k f)) e,
    s.words ∙ (parts_all (λ k. (f k).written) record_words out (full_count g) a l e ∙ each_same (λ k. k) f (λ k. (f k).written) (λ m. m.written) (λ k. refl) (full_count g)),
  )

-- the words of one of them, in a buffer of so many
pub room : {A : Type 0} (a total : ℕ) (out : List A) → a < total → length out ≡ record_words * total → length (take (record_words * a + record_words - record_words * a) (drop (record_words * a) out)) ≡ record_words
room a total out l e = simp (length-take, length-drop) (omega arith)

module _ {limit : ℕ} (g : Axes) (base : List ℤ) (formed : BaseFormed limit g base) (width row column : ℕ) (w : width ≡ macroblocks (full_size g.horizontal)) (c : column < width)
    (fixed : Fixed) (e : fixed ≡ fixed_of g) (h v : AxisRead) (p : h ≡ read_of g.horizontal column) (q : v ≡ read_of g.vertical row) where
  pub ready : Makeable limit fixed h v base
  ready = subst (λ (x : Fixed). Makeable limit x h v base) (sym e) (makeable g column row base formed h v p q)

  abbrev pub it : Made
  it = made_at g base (row * width + column)

  is_made : made_by fixed h v base ≡ it
  is_made =
      let l : column < macroblocks (full_size g.horizontal) = omega (arith, w) in
      (λ i. made_by (e i) h v base) ∙ made-there g column row base formed h v p q (row * width + column) l (ap (λ (x : ℕ). row * x + column) (sym w))

  pub sort-made : sort_by fixed h v base ≡ sort_of it.answer
  sort-made = sort-is fixed h v base ∙ ap (λ (m : Made). sort_of m.answer) is_made

  pub written-made : written_by fixed h v base ≡ it.written
  unfolding made_by
  written-made = ap (λ (m : Made). m.written) is_made
