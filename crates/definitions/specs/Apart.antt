-- Detail (document 02, E7) takes no part in anything else that the two calls hand over: with other bits in the base, an answer and its written record have other bits at most.
use Rattle.std.specs.Prelude.{ℕ, ◌≡◌, List, ℤ, take}
use Rattle.definitions.specs.declared.Numbers.{Numbers}
use Rattle.definitions.specs.declared.Answer.{Answer}
use Rattle.definitions.specs.declared.Counts.{Counts}
use Rattle.std.specs.Prelude.{Ok as Counted}
use Rattle.definitions.specs.Record.{record_at}
use Rattle.definitions.specs.Answer.{answer_detail, with_bits}
use Rattle.definitions.specs.Calls.{picture_call}
use Rattle.definitions.specs.Demand3.{SinglyGives, PictureGives}

-- the records of two bases have the same words but for word 77, the last
abbrev pub SameButDetail : List ℤ → List ℤ → Type 0
SameButDetail base other = (a : ℕ) → take 77 (record_at other a) ≡ take 77 (record_at base a)

-- answer' is answer but for its bits, and its record the same but for word 77
pub record ButBits (answer : Answer) (written : List ℤ) (answer' : Answer) (written' : List ℤ) : Type 0 where
  pub answers : answer' ≡ with_bits (answer_detail answer') answer
  pub words : take 77 written' ≡ take 77 written

-- of both calls, wherever they hand something over on both bases (on two well-formed bases they do: singly-given and picture-given of Demand3Entire); and the picture's counts are
-- the same
pub record DetailApart (limit : ℕ) : Type 0 where
  pub singly : (n : Numbers) (column row : ℕ) (words base other : List ℤ) (answer answer' : Answer) (written written' : List ℤ) → SameButDetail base other
      → SinglyGives limit n column row words base answer written → SinglyGives limit n column row words other answer' written' → ButBits answer written answer' written'
  pub picture : (n : Numbers) (column row : ℕ) (words alone base other : List ℤ) (answer answer' : Answer) (written written' : List ℤ) → SameButDetail base other
      → PictureGives limit n column row words alone base answer written → PictureGives limit n column row words alone other answer' written' → ButBits answer written answer' written'
  pub counts : (n : Numbers) (words base other : List ℤ) (c c' : Counts) → SameButDetail base other
      → (picture_call limit n base words).reply ≡ Counted c → (picture_call limit n other words).reply ≡ Counted c' → c' ≡ c
