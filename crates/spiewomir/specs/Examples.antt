-- Examples of what C is handed, in one table. The numbers that stand beside each other differ, so that a definition which gives one of them for another is refused, also
-- where the code is changed alike.
use Rattle.std.specs.Prelude.{ℕ, ◌≡◌, refl, true, false, List, [], ◌∷◌, map, pos}
use Rattle.definitions.specs.declared.Numbers.{Numbers}
use Rattle.definitions.specs.declared.Class.{Class}
use Rattle.definitions.specs.declared.Class.TheVariants.{Corner, Vert, Hori, Center}
use Rattle.definitions.specs.declared.SubSplit.TheVariants.{S8x8, S8x4, S4x8, S4x4}
use Rattle.definitions.specs.declared.Split.TheVariants.{S16x16, S16x8, S8x16, S8x8 as Quarters}
use Rattle.definitions.specs.declared.Basis.{Basis}
use Rattle.definitions.specs.declared.Answer.TheVariants.{Outside, Intra, Inherited}
use Rattle.definitions.specs.declared.Counts.{Counts}
use Rattle.definitions.specs.declared.Refusal.{Refusal}
use Rattle.definitions.specs.Replies.{Accepted}
use Rattle.std.specs.Prelude.{Err as Refused}
use Rattle.std.specs.Prelude.{Ok as Answered, Err as Declined}
use Rattle.std.specs.Prelude.{Ok as Counted, Err as NotMade}
use Rattle.definitions.specs.Replies.{NoPicture, Read}
use Rattle.std.specs.Prelude.{Err as NotRead}
use Rattle.std.specs.Prelude.{Ok as Written, Err as NotWritten}
use Rattle.session.specs.declared.Session.{Session}
use Rattle.spiewomir.specs.declared.GeometryNumbers.{GeometryNumbers}
use Rattle.spiewomir.specs.declared.MacroblockResult.{MacroblockResult}
use Rattle.spiewomir.specs.declared.PictureResult.{PictureResult}
use Rattle.spiewomir.specs.declared.SessionNumbers.{SessionNumbers}
use Rattle.spiewomir.specs.declared.JudgedResult.{JudgedResult}
use Rattle.spiewomir.specs.declared.AdvancedResult.{AdvancedResult}
use Rattle.spiewomir.specs.declared.TotalsResult.{TotalsResult}
use Rattle.spiewomir.specs.declared.TextResult.{TextResult}
use Rattle.spiewomir.specs.declared.LogResult.{LogResult}
use Rattle.spiewomir.specs.Results.{macroblock_result, picture_result}
use Rattle.spiewomir.specs.Sessions.{session_from_c, session_to_c, judged_result, advanced_result, totals_result}
use Rattle.spiewomir.specs.Texts.{text_result, log_result}

-- what C is handed, and the session that its numbers are taken for
pub data Handed : Type 0 where
  macroblock : MacroblockResult → Handed
  picture : PictureResult → Handed
  session : SessionNumbers → Handed
  taken : Session → Handed
  judged : JudgedResult → Handed
  advanced : AdvancedResult → Handed
  told : TotalsResult → Handed
  text : TextResult → Handed
  log : LogResult → Handed

-- by the definitions, and as the header has it. (Some of what is handed over here comes of no call, as a text refused by 8, or numbers whose begun is 3: the definitions
-- are of any reply and of any numbers.)
pub record Instance : Type 0 where
  pub given : Handed
  pub expected : Handed

-- ---- What is handed over
abbrev from : Class → Basis
from class = record { origin = record { class = class; column = 5; row = 7 }; detail = 13; first = 1; right = 3; below = 2; diagonal = 10 }

abbrev refused : Refusal
refused = record { number = 8; place = 41; rule = 6 }

abbrev counts : Counts
counts = record { inherited = 4; intra = 9; outside = 2 }

abbrev numbers : Numbers
numbers = record { horizontal = record { base = pos 16; scaled = pos 32; offset = pos 2; full = pos 48 }; vertical = record { base = pos 64; scaled = pos 80; offset = pos 6; full = pos 96 } }

abbrev geometry : GeometryNumbers
geometry = record { bw = pos 16; bh = pos 64; sw = pos 32; sh = pos 80; x = pos 2; y = pos 6; fw = pos 48; fh = pos 96 }

abbrev nothing : GeometryNumbers
nothing = record { bw = pos 0; bh = pos 0; sw = pos 0; sh = pos 0; x = pos 0; y = pos 0; fw = pos 0; fh = pos 0 }

abbrev no_numbers : Numbers
no_numbers = record { horizontal = record { base = pos 0; scaled = pos 0; offset = pos 0; full = pos 0 }; vertical = record { base = pos 0; scaled = pos 0; offset = pos 0; full = pos 0 } }

abbrev begun : Session
begun = record { begun = true; numbers = numbers; counts = counts }

abbrev begun_numbers : SessionNumbers
begun_numbers = record { begun = 1; geometry = geometry; inherited = 4; intra = 9; outside = 2 }

-- numbers that a refused call hands back, and that no call makes: begun is neither 0 nor 1, which stands for nothing begun
abbrev before : SessionNumbers
before = record { begun = 3; geometry = nothing; inherited = 10; intra = 11; outside = 12 }

abbrev unbegun : Session
unbegun = record { begun = false; numbers = no_numbers; counts = record { inherited = 10; intra = 11; outside = 12 } }

-- an answer's type, sub-types, class, column, row, detail and the four counts of what fed it
abbrev answer : ℕ → ℕ → ℕ → ℕ → ℕ → ℕ → ℕ → ℕ → ℕ → ℕ → ℕ → ℕ → ℕ → MacroblockResult
answer kind a b c d class column row detail first right below diagonal = record {
  refusal = 0;
  place = 0;
  rule = 0;
  kind = kind;
  sub0 = a;
  sub1 = b;
  sub2 = c;
  sub3 = d;
  class = class;
  column = column;
  row = row;
  detail = detail;
  first = first;
  right = right;
  below = below;
  diagonal = diagonal;
}

abbrev no_answer : MacroblockResult
no_answer = record { refusal = 8; place = 41; rule = 6; kind = 0; sub0 = 0; sub1 = 0; sub2 = 0; sub3 = 0; class = 0; column = 0; row = 0; detail = 0; first = 0; right = 0; below = 0; diagonal = 0 }

abbrev pub examples : List Instance
examples =
    record { given = macroblock (macroblock_result (Answered (Inherited (from Hori) (Quarters (record { a = S8x4; b = S4x8; c = S4x4; d = S8x8 }))))); expected = macroblock (answer 4 1 2 3 0 2 5 7 13 1 3 2 10) }
    ∷ record { given = macroblock (macroblock_result (Answered (Inherited (from Center) (Quarters (record { a = S4x4; b = S8x8; c = S8x4; d = S4x8 }))))); expected = macroblock (answer 4 3 0 1 2 3 5 7 13 1 3 2 10) }
    ∷ record { given = macroblock (macroblock_result (Answered (Inherited (from Vert) S16x16))); expected = macroblock (answer 1 0 0 0 0 1 5 7 13 1 3 2 10) }
    ∷ record { given = macroblock (macroblock_result (Answered (Inherited (from Corner) S16x8))); expected = macroblock (answer 2 0 0 0 0 0 5 7 13 1 3 2 10) }
    ∷ record { given = macroblock (macroblock_result (Answered (Inherited (from Center) S8x16))); expected = macroblock (answer 3 0 0 0 0 3 5 7 13 1 3 2 10) }
    ∷ record { given = macroblock (macroblock_result (Answered (Intra (from Vert)))); expected = macroblock (answer 0 0 0 0 0 1 5 7 13 1 3 2 10) }
    ∷ record { given = macroblock (macroblock_result (Answered Outside)); expected = macroblock (answer 5 0 0 0 0 0 0 0 0 0 0 0 0) }
    ∷ record { given = macroblock (macroblock_result (Declined refused)); expected = macroblock no_answer }
    ∷ record { given = picture (picture_result (Counted counts)); expected = picture (record { refusal = 0; place = 0; rule = 0; inherited = 4; intra = 9; outside = 2 }) }
    ∷ record { given = picture (picture_result (NotMade refused)); expected = picture (record { refusal = 8; place = 41; rule = 6; inherited = 0; intra = 0; outside = 0 }) }
    ∷ record { given = session (session_to_c begun); expected = session begun_numbers }
    ∷ record { given = taken (session_from_c begun_numbers); expected = taken begun }
    ∷ record { given = taken (session_from_c before); expected = taken unbegun }
    ∷ record { given = judged (judged_result before Accepted begun); expected = judged (record { session = begun_numbers; refusal = 0; place = 0; rule = 0 }) }
    ∷ record { given = judged (judged_result before (Refused refused) begun); expected = judged (record { session = before; refusal = 8; place = 41; rule = 6 }) }
    ∷ record { given = advanced (advanced_result before (Answered Outside) begun); expected = advanced (record { session = begun_numbers; macroblock = answer 5 0 0 0 0 0 0 0 0 0 0 0 0 }) }
    ∷ record { given = advanced (advanced_result before (Declined refused) begun); expected = advanced (record { session = before; macroblock = no_answer }) }
    ∷ record { given = told (totals_result before counts); expected = told (record { session = before; inherited = 4; intra = 9; outside = 2 }) }
    ∷ record { given = text (text_result (Read (record { numbers = numbers; lines = 3 }))); expected = text (record { refusal = 0; place = 0; rule = 0; geometry = geometry; lines = 3; empty = 0 }) }
    ∷ record { given = text (text_result NoPicture); expected = text (record { refusal = 0; place = 0; rule = 0; geometry = nothing; lines = 0; empty = 1 }) }
    ∷ record { given = text (text_result (NotRead refused)); expected = text (record { refusal = 8; place = 41; rule = 6; geometry = nothing; lines = 0; empty = 0 }) }
    ∷ record { given = log (log_result (Written (record { bytes = 93; verdict = Accepted; empty = false }))); expected = log (record { refusal = 0; text = 0; place = 0; rule = 0; bytes = 93; empty = 0 }) }
    ∷ record { given = log (log_result (Written (record { bytes = 15; verdict = Accepted; empty = true }))); expected = log (record { refusal = 0; text = 0; place = 0; rule = 0; bytes = 15; empty = 1 }) }
    ∷ record { given = log (log_result (Written (record { bytes = 15; verdict = Refused refused; empty = false }))); expected = log (record { refusal = 0; text = 8; place = 41; rule = 6; bytes = 15; empty = 0 }) }
    ∷ record { given = log (log_result (NotWritten (record { number = 6; place = 0; rule = 0 }))); expected = log (record { refusal = 6; text = 0; place = 0; rule = 0; bytes = 0; empty = 0 }) }
    ∷ []

-- They hold.
pub examples-hold : map (λ e. e.given) examples ≡ map (λ e. e.expected) examples
examples-hold = refl
