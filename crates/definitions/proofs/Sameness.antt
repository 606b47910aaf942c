-- What is made of a macroblock depends on the base only through the records that its blocks read. Assumes nothing.
use Prim.Native.Nat.{ℕ, zero, suc, ◌+◌, ◌^◌, ◌<◌}
use mathlib.Core.Path.{◌≡◌, refl, ap, ◌∙◌}
use mathlib.Core.Bool.{Bool, true, false}
use mathlib.Core.List.{List}
use native.Mathlib.Omega.{arith}
use lib.IntN.{ℤ}
use Rattle.definitions.specs.declared.Axes.{Axes}
use Rattle.definitions.specs.declared.Answer.TheVariants.{Outside, Intra, Inherited}
use Rattle.definitions.specs.Basics.{pick, four, set_of, some_of}
use Rattle.definitions.specs.Geometry.{inside}
use Rattle.definitions.specs.BlockMap.{address_read, block_read}
use Rattle.definitions.specs.Record.{record_at, is_intra, motion_of}
use Rattle.definitions.specs.Inheriting.{intra_set, mostly_intra, gathered, resolved, at, scaled_motion, inherited_motions, chosen}
use Rattle.definitions.specs.Detail.{reads_detail, quadrant_detail, detail_at}
use Rattle.definitions.specs.Fed.{fed_at}
use Rattle.definitions.specs.Answer.{origin_at, basis_at, with_bits, answer_of, written_for, made_of}
use Rattle.definitions.proofs.Choices.{each, four_same}

-- sets of the same members
pub set_same : (n : ℕ) (f h : ℕ → Bool) → ((k : ℕ) → k < n → f k ≡ h k) → set_of n f ≡ set_of n h
unfolding set_of
set_same zero f h e = refl
set_same (suc n) f h e =
    let p : set_of n f ≡ set_of n h = set_same n f h (λ k l. e k (omega arith)) in
    let q : f n ≡ h n = e n (omega arith) in
    λ i. p i + pick (q i) (2 ^ n) 0

-- Two bases: the blocks read intra macroblocks of both alike, and the same motions.
module _ (g : Axes) (base other : List ℤ) (column row : ℕ)
    (intra : (i : ℕ) → i < 16 → is_intra (record_at other (address_read g column row i)) ≡ is_intra (record_at base (address_read g column row i)))
    (motion : (i : ℕ) → i < 16 → motion_of (record_at other (address_read g column row i)) (block_read g column row i) ≡ motion_of (record_at base (address_read g column row i)) (block_read g column row i)) where
  set-alike : intra_set g other column row ≡ intra_set g base column row
  unfolding intra_set
  set-alike = set_same 16 _ _ intra

  gathered-alike : gathered g other column row ≡ gathered g base column row
  unfolding gathered
  gathered-alike =
      four_same
      (four_same (motion 0 (omega arith)) (motion 1 (omega arith)) (motion 4 (omega arith)) (motion 5 (omega arith)))
      (four_same (motion 2 (omega arith)) (motion 3 (omega arith)) (motion 6 (omega arith)) (motion 7 (omega arith)))
      (four_same (motion 8 (omega arith)) (motion 9 (omega arith)) (motion 12 (omega arith)) (motion 13 (omega arith)))
      (four_same (motion 10 (omega arith)) (motion 11 (omega arith)) (motion 14 (omega arith)) (motion 15 (omega arith)))

  inherited-alike : inherited_motions g other column row ≡ inherited_motions g base column row
  unfolding inherited_motions
  inherited-alike = λ i. four (λ q. four (λ k. scaled_motion g (at (resolved (set-alike i) (gathered-alike i)) q k)))

  -- so that they differ in their bits at most
  pub but-bits : made_of g other column row ≡ record {
    answer = with_bits (detail_at g other column row) (answer_of g base column row);
    written = written_for (with_bits (detail_at g other column row) (answer_of g base column row)) (inherited_motions g base column row);
  }
  unfolding made_of answer_of basis_at pick
  but-bits = λ i. record { answer = answer i; written = written_for (answer i) (inherited-alike i) }
    where
      answer : answer_of g other column row ≡ with_bits (detail_at g other column row) (answer_of g base column row)
      answer =
          (λ i.
          pick (inside g column row)
          (pick (mostly_intra (set-alike i)) (Intra (basis_at g other column row)) (Inherited (basis_at g other column row) (chosen (inherited-alike i))))
          Outside)
          ∙ given (inside g column row) (mostly_intra (intra_set g base column row))
        where
          given : (t u : Bool)
              → pick t (pick u (Intra (basis_at g other column row)) (Inherited (basis_at g other column row) (chosen (inherited_motions g base column row)))) Outside
              ≡ with_bits (detail_at g other column row) (pick t (pick u (Intra (basis_at g base column row)) (Inherited (basis_at g base column row) (chosen (inherited_motions g base column row)))) Outside)
          given true true = refl
          given true false = refl
          given false u = refl

module _ (g : Axes) (base other : List ℤ) (column row : ℕ) (agree : (i : ℕ) → i < 16 → record_at other (address_read g column row i) ≡ record_at base (address_read g column row i)) where
  intra-same : (i : ℕ) → i < 16 → is_intra (record_at other (address_read g column row i)) ≡ is_intra (record_at base (address_read g column row i))
  intra-same i h = ap is_intra (agree i h)

  motion-same : (i : ℕ) → i < 16 → motion_of (record_at other (address_read g column row i)) (block_read g column row i) ≡ motion_of (record_at base (address_read g column row i)) (block_read g column row i)
  motion-same i h = ap (λ (r : List ℤ). motion_of r (block_read g column row i)) (agree i h)

  pub same_set : intra_set g other column row ≡ intra_set g base column row
  same_set = set-alike g base other column row intra-same motion-same

  same-inherited : inherited_motions g other column row ≡ inherited_motions g base column row
  same-inherited = inherited-alike g base other column row intra-same motion-same

  same_reads : (i : ℕ) → i < 16 → reads_detail g other column row i ≡ reads_detail g base column row i
  same_reads i h = cc (agree i h)

  same-detail : detail_at g other column row ≡ detail_at g base column row
  unfolding detail_at quadrant_detail
  same-detail =
      set_same 4 _ _ (each (λ q. quadrant_detail g other column row q ≡ quadrant_detail g base column row q)
      (ap some_of (four_same (same_reads 0 (omega arith)) (same_reads 1 (omega arith)) (same_reads 4 (omega arith)) (same_reads 5 (omega arith))))
      (ap some_of (four_same (same_reads 2 (omega arith)) (same_reads 3 (omega arith)) (same_reads 6 (omega arith)) (same_reads 7 (omega arith))))
      (ap some_of (four_same (same_reads 8 (omega arith)) (same_reads 9 (omega arith)) (same_reads 12 (omega arith)) (same_reads 13 (omega arith))))
      (ap some_of (four_same (same_reads 10 (omega arith)) (same_reads 11 (omega arith)) (same_reads 14 (omega arith)) (same_reads 15 (omega arith)))))

  same-basis : basis_at g other column row ≡ basis_at g base column row
  unfolding basis_at
  same-basis = λ i. record {
    origin = origin_at g column row;
    detail = same-detail i;
    first = (fed_at g column row).first;
    right = (fed_at g column row).right;
    below = (fed_at g column row).below;
    diagonal = (fed_at g column row).diagonal;
  }

  same_answer : answer_of g other column row ≡ answer_of g base column row
  unfolding answer_of
  same_answer = λ i.
      pick (inside g column row)
      (pick (mostly_intra (same_set i)) (Intra (same-basis i)) (Inherited (same-basis i) (chosen (same-inherited i))))
      Outside

  pub same-made : made_of g other column row ≡ made_of g base column row
  unfolding made_of
  same-made = λ i. record { answer = same_answer i; written = written_for (same_answer i) (same-inherited i) }
