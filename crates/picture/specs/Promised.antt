-- Demand 3 of what the picture call hands over, and the picture by one-macroblock calls, as its contract says them.
use Rattle.std.specs.Prelude.{ℕ, ◌<◌, ◌≡◌, List, ℤ, pos, length}
use Rattle.definitions.specs.declared.Numbers.{Numbers}
use Rattle.definitions.specs.declared.Answer.{Answer}
use Rattle.std.specs.Prelude.{Ok as Answered}
use Rattle.definitions.specs.Replies.{PictureReply}
use Rattle.std.specs.Prelude.{Ok as Counted, Err as NotMade}
use Rattle.definitions.specs.Geometry.{axes_of, full_size, macroblocks}
use Rattle.definitions.specs.Raster.{full_address, full_count}
use Rattle.definitions.specs.Record.{record_words, record_at}
use Rattle.definitions.specs.Calls.{macroblock_call, AsSingly}
use Rattle.definitions.specs.Demand3.{Demand3Picture, PictureCase}

-- one of its macroblocks: the one-macroblock call answers on the same base, and with that answer the record at its address is as demanded
-- (alone: 78 words lent to that call, whatever they hold)
pub record InPicture (limit : ℕ) (n : Numbers) (base words out : List ℤ) (column row : ℕ) (alone : List ℤ) : Type 0 where
  pub answer : Answer
  pub answered : (macroblock_call limit n base (pos column) (pos row) alone).reply ≡ Answered answer
  pub demand3 : Demand3Picture limit n column row words alone base answer (record_at out (full_address (axes_of n) column row))

-- made, each of its macroblocks is so; refused, there is no case of the demand
abbrev pub PicturePromised : ℕ → Numbers → List ℤ → List ℤ → PictureReply → List ℤ → Type 0
PicturePromised limit n base words (Counted counts) out =
    (column row : ℕ) → column < macroblocks (full_size (axes_of n).horizontal) → row < macroblocks (full_size (axes_of n).vertical)
    → (alone : List ℤ) → length alone ≡ record_words → InPicture limit n base words out column row alone
PicturePromised limit n base words (NotMade r) out = PictureCase limit n base words → ⊥

-- made, its counts and words are those of one-macroblock calls (of a refusal the clauses reply and demand3 speak)
abbrev pub SinglyCounted : ℕ → Numbers → List ℤ → PictureReply → List ℤ → Type 0
SinglyCounted limit n base (Counted counts) out =
    (lent : ℕ → List ℤ) → ((a : ℕ) → a < full_count (axes_of n) → length (lent a) ≡ record_words) → AsSingly limit n base counts out lent
SinglyCounted limit n base (NotMade r) out = Unit
