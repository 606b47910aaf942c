-- What the text's readers hand back (src/lib.rt).
use Rattle.std.specs.Prelude.{ℕ, ℤ, Result}
use Rattle.definitions.specs.declared.Numbers.{Numbers}

abbrev pub Got : Type 0
Got = Result ℕ ℕ

abbrev pub Num : Type 0
Num = Result (ℤ × ℕ) ℕ

abbrev pub Lines : Type 0
Lines = Result ℕ ℕ

abbrev pub TextParse : Type 0
TextParse = Result (Numbers × ℕ) ℕ
