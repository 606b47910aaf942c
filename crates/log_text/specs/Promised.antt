-- Demand 2 of what the log call writes and hands back, as its contract says it.
use Rattle.std.specs.Prelude.{ℕ, ◌≤◌, ◌<◌, ◌≡◌, Bool, true, ◌↔◌, List, length, take}
use Rattle.definitions.specs.declared.Numbers.{Numbers}
use Rattle.definitions.specs.declared.Refusal.{Refusal}
use Rattle.definitions.specs.Replies.{Verdict}
use Rattle.std.specs.Prelude.{Err as Refused}
use Rattle.definitions.specs.Replies.{LogReply}
use Rattle.std.specs.Prelude.{Ok as Written, Err as NotWritten}
use Rattle.definitions.specs.Refusals.{verdict_of}
use Rattle.definitions.specs.Text.{Entry, Text, base_of, text_records, text_bytes}
use Rattle.definitions.specs.Log.{program_tests, log_bytes, SaidByLog, RefusedOnly}

-- of a text that belongs to the grammar and keeps the limits: the verdict is that of 1 to 5 and 8, and the log is refused only for what they say
pub record AsJudged (n : Numbers) (entries : List Entry) (verdict : Verdict) (log : List ℕ) : Type 0 where
  pub verdict-is : verdict ≡ verdict_of (program_tests n (length entries) (base_of entries))
  pub refused-only : RefusedOnly n (length entries) (base_of entries) log

-- of every text: the verdict says what the log says; there is no picture exactly where it has no bytes, and 9 refuses no such text
pub record Promised (t : List ℕ) (verdict : Verdict) (without : Bool) (log : List ℕ) : Type 0 where
  pub said : SaidByLog verdict without log
  pub no_bytes : (without ≡ true) ↔ (length t ≡ 0)
  pub nine : (r : Refusal) → verdict ≡ Refused r → r.number ≡ 9 → 0 < length t
  pub as-judged : (n : Numbers) (entries : List Entry) → Text n entries t → length t ≤ text_bytes → length entries ≤ text_records → AsJudged n entries verdict log

-- the log stands in the first bytes; refused, the bytes lent are too few for it
abbrev pub LogPromised : List ℕ → LogReply → List ℕ → Type 0
LogPromised t (Written l) out = Promised t l.verdict l.empty (take l.bytes out)
LogPromised t (NotWritten r) out = log_bytes ≤ length out → ⊥
