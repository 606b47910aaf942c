-- Concrete cases of demand 3: in each of them every premise of Demand3Entire is met, and this is what both calls give.
use Rattle.std.specs.Prelude.{ℕ, ◌*◌, ◌≡◌, List, ℤ, pos, length, replicate}
use Rattle.definitions.specs.declared.Numbers.{Numbers}
use Rattle.definitions.specs.declared.Counts.{Counts}
use Rattle.definitions.specs.declared.Class.{Class}
use Rattle.definitions.specs.declared.Class.TheVariants.{Corner, Center}
use Rattle.definitions.specs.declared.Basis.{Basis}
use Rattle.definitions.specs.declared.Split.TheVariants.{S16x16}
use Rattle.definitions.specs.declared.Answer.{Answer}
use Rattle.definitions.specs.declared.Answer.TheVariants.{Outside, Intra, Inherited}
use Rattle.definitions.specs.Basics.{minus}
use Rattle.definitions.specs.Geometry.{axes_of}
use Rattle.definitions.specs.Record.{record_words, narrow, laid_out, all_one}
use Rattle.definitions.specs.Inheriting.{unused}
use Rattle.definitions.specs.Answer.{without_motion}
use Rattle.definitions.specs.Calls.{AsSingly, picture_call}
use Rattle.definitions.specs.Demand3.{SinglyGives, PictureGives, Case, SinglyCase, PictureCase}
use Rattle.definitions.specs.Examples.{centred, intra_record, whole_record, only_last, all_but_last, whole_case}
use Rattle.definitions.specs.Raster.{full_count}

-- the words of some records, to lend
abbrev pub blank : ℕ → List ℤ
blank records = replicate (record_words * records) (pos 0)

-- At a limit: a geometry, a macroblock and a base; the answer, the written record, and the picture's counts
pub record Concrete (limit : ℕ) (n : Numbers) (column row : ℕ) (base : List ℤ) (answer : Answer) (written : List ℤ) (counts : Counts) : Type 0 where
  pub case : Case limit n column row base
  pub singly-case : SinglyCase limit n (pos column) (pos row) base (blank 1)
  pub picture-case : PictureCase limit n base (blank (full_count (axes_of n)))
  pub singly : SinglyGives limit n column row (blank 1) base answer written
  pub picture : PictureGives limit n column row (blank (full_count (axes_of n))) (blank 1) base answer written
  pub picture-counts : picture.counts ≡ counts

-- a class, from column and row 0 on, without detail, fed so (document 02, E5)
abbrev pub from_zero : Class → ℕ → ℕ → ℕ → ℕ → Basis
from_zero class first right below diagonal =
    record { origin = record { class = class; column = 0; row = 0 }; detail = 0; first = first; right = right; below = below; diagonal = diagonal }

-- the whole case's record with its vector doubled, and the record of an outside macroblock
abbrev pub doubled_record : List ℤ
doubled_record = laid_out (all_one 1 (record { list0 = record { reference = pos 0; x = pos 8; y = minus 16 }; list1 = unused }) (pos 0))

abbrev pub outside_record : List ℤ
outside_record = without_motion 5 (pos 0)

abbrev pub three_counts : ℕ → ℕ → ℕ → Counts
three_counts inherited intra outside = record { inherited = inherited; intra = intra; outside = outside }

pub record Cases : Type 0 where
  -- document 01's whole case,
  pub inherited : Concrete narrow whole_case 0 0 whole_record (Inherited (from_zero Corner 16 0 0 0) S16x16) doubled_record (three_counts 4 0 2)
  -- and to the right of the window,
  pub outside : Concrete narrow whole_case 2 0 whole_record Outside outside_record (three_counts 4 0 2)
  -- where every base record is another one, and may be malformed;
  pub others-case : (base : List ℤ) → length base ≡ record_words → SinglyCase narrow whole_case (pos 2) (pos 0) base (blank 1)
  pub others : (base : List ℤ) → length base ≡ record_words → SinglyGives narrow whole_case 2 0 (blank 1) base Outside outside_record
  -- the picture by one-macroblock calls;
  pub by-calls : AsSingly narrow whole_case whole_record (three_counts 4 0 2) (picture_call narrow whole_case whole_record (blank 6)).words (λ a. blank 1)
  -- the starred macroblock at 16,16, with base 0, 1 and 2 intra, which is filled from base 3,
  pub filled-there : Concrete narrow centred 1 1 only_last (Inherited (from_zero Center 1 3 3 9) S16x16) whole_record (three_counts 1 0 15)
  -- and with only base 3 intra.
  pub intra : Concrete narrow centred 1 1 all_but_last (Intra (from_zero Center 1 3 3 9)) intra_record (three_counts 0 1 15)
