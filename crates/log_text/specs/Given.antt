-- What the inner functions of the log hand back: that there is no picture, or a refusal, and then no byte is written; or of the lines.
use Rattle.std.specs.Prelude.{ℕ, List, ◌++◌, length, drop, Option, Some, None, Result, Ok, Err}
use Rattle.definitions.specs.declared.Refusal.{Refusal}
use Rattle.definitions.specs.Text.{Reading, Reads}
use Rattle.definitions.specs.Log.{Finding, finds_none, refuses, makes, finding_of}

-- the text has no bytes, it has a picture whose lines have so many bytes, or it is refused
abbrev pub Found : Type 0
Found = Result (Option ℕ) Refusal

pattern abbrev pub NoneFound : Found
NoneFound = Ok None

pattern abbrev pub Made : ℕ → Found
Made n = Ok (Some n)

pub data Given (out : List ℕ) : Finding → Found → List ℕ → Type 0 where
  nothing_found : Given out finds_none NoneFound out
  kept : {r : Refusal} → Given out (refuses r) (Err r) out
  lines : {log : List ℕ} → Given out (makes log) (Made (length log)) (log ++ drop (length log) out)

-- what is found of a text
pub record LinesGiven (t out : List ℕ) (reply : Found) (new : List ℕ) : Type 0 where
  pub reading : Reading
  pub reads : Reads t reading
  pub given : Given out (finding_of reading) reply new
