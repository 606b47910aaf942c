-- "Long vectors on wide screens" of document 02 (E12): records of 32-bit words have the places and rules of those of 16 bits; the limit of their vectors is the one difference.
use Rattle.std.specs.Prelude.{ℕ, ◌≡◌, true, List, ℤ, pos}
use Rattle.definitions.specs.declared.Numbers.{Numbers}
use Rattle.definitions.specs.declared.Class.TheVariants.{Corner}
use Rattle.definitions.specs.declared.Split.TheVariants.{S16x16}
use Rattle.definitions.specs.declared.Answer.TheVariants.{Inherited}
use Rattle.std.specs.Prelude.{Err as Declined}
use Rattle.std.specs.Prelude.{Err as NotMade}
use Rattle.definitions.specs.Basics.{minus}
use Rattle.definitions.specs.Record.{record_at, laid_out, narrow, wide, all_one}
use Rattle.definitions.specs.Inheriting.{unused}
use Rattle.definitions.specs.Calls.{macroblock_call, picture_call}
use Rattle.definitions.specs.Examples.{whole_case}
use Rattle.definitions.specs.Cases.{blank, Concrete, from_zero, three_counts}
use Rattle.definitions.specs.Written.{vectors_in_range}

-- the vectors of a base fit a limit
abbrev pub VectorsFit : ℕ → List ℤ → Type 0
VectorsFit limit base = (a : ℕ) → vectors_in_range limit (record_at base a) ≡ true

-- "On a base whose vectors fit the narrow limit both widths give equal words": words, and answers, counts and refusals, of both calls; and so a limit and any larger one.
pub record WidthsSame (small large : ℕ) : Type 0 where
  pub singly : (n : Numbers) (base : List ℤ) (column row : ℤ) (words : List ℤ) → VectorsFit small base
      → macroblock_call large n base column row words ≡ macroblock_call small n base column row words
  pub picture : (n : Numbers) (base words : List ℤ) → VectorsFit small base → picture_call large n base words ≡ picture_call small n base words

-- a record of one piece, with this horizontal vector in list 0
abbrev pub vector_record : ℕ → ℤ → List ℤ
vector_record kind x = laid_out (all_one kind (record { list0 = record { reference = pos 0; x = x; y = pos 0 }; list1 = unused }) (pos 0))

-- Both widths; and a base that is such a one, with a vector of 8,191.
pub record BothWidths : Type 0 where
  pub same : WidthsSame narrow wide
  pub met : VectorsFit narrow (vector_record 1 (pos 8191))

-- Document 01's whole case, at ratio 2, with another base: what both calls answer, or refuse by 8
abbrev pub AnsweredAt : ℕ → List ℤ → List ℤ → Type 0
AnsweredAt limit base written = Concrete limit whole_case 0 0 base (Inherited (from_zero Corner 16 0 0 0) S16x16) written (three_counts 4 0 2)

pub record RefusedBy (limit rule : ℕ) (base : List ℤ) : Type 0 where
  pub singly : (macroblock_call limit whole_case base (pos 0) (pos 0) (blank 1)).reply ≡ Declined (record { number = 8; place = 0; rule = rule })
  pub picture : (picture_call limit whole_case base (blank 6)).reply ≡ NotMade (record { number = 8; place = 0; rule = rule })

pub record WideCases : Type 0 where
  -- A vector of 8,192: the wide calls answer, with 16,384, and the narrow ones refuse by rule 5.
  pub answered : AnsweredAt wide (vector_record 1 (pos 8192)) (vector_record 1 (pos 16384))
  pub refused : RefusedBy narrow 5 (vector_record 1 (pos 8192))
  -- The ends of the wide limit, and what is beyond them.
  pub highest : AnsweredAt wide (vector_record 1 (pos 131071)) (vector_record 1 (pos 262142))
  pub lowest : AnsweredAt wide (vector_record 1 (minus 131072)) (vector_record 1 (minus 262144))
  pub above : RefusedBy wide 5 (vector_record 1 (pos 131072))
  pub below : RefusedBy wide 5 (vector_record 1 (minus 131073))
  -- A wide word is judged whole: a type of 65,537, which is 1 in its lower sixteen bits, breaks rule 1.
  pub whole-type : RefusedBy wide 1 (vector_record 65537 (pos 0))
