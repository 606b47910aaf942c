-- The sync text and its log, as the C interface hands them over: the numbers of a reply that the call's definition allows, with demand 2 of it.
use Rattle.std.specs.Prelude.{ℕ, ◌≡◌, Bool, List, ℤ, pos}
use Rattle.definitions.specs.Replies.{Verdict, Accepted}
use Rattle.std.specs.Prelude.{Err as RefusedBy}
use Rattle.definitions.specs.Replies.{TextReply, NoPicture, Read}
use Rattle.std.specs.Prelude.{Err as Refused}
use Rattle.definitions.specs.Replies.{LogReply}
use Rattle.std.specs.Prelude.{Ok as Written, Err as NotWritten}
use Rattle.definitions.specs.Text.{TextAnswer}
use Rattle.definitions.specs.Log.{LogAnswer}
use Rattle.sync_text.specs.Promised.{TextPromised}
use Rattle.log_text.specs.Promised.{LogPromised}
use Rattle.spiewomir.specs.declared.GeometryNumbers.{GeometryNumbers}
use Rattle.spiewomir.specs.declared.TextResult.{TextResult}
use Rattle.spiewomir.specs.declared.LogResult.{LogResult}
use Rattle.spiewomir.specs.Sessions.{flag, numbers_to_c}

abbrev pub no_geometry : GeometryNumbers
no_geometry = record { bw = pos 0; bh = pos 0; sw = pos 0; sh = pos 0; x = pos 0; y = pos 0; fw = pos 0; fh = pos 0 }

-- empty is 1 where there is no picture, else 0 (document 02, E2)
abbrev pub text_result : TextReply → TextResult
text_result NoPicture = record { refusal = 0; place = 0; rule = 0; geometry = no_geometry; lines = 0; empty = 1 }
text_result (Read t) = record { refusal = 0; place = 0; rule = 0; geometry = numbers_to_c t.numbers; lines = t.lines; empty = 0 }
text_result (Refused r) = record { refusal = r.number; place = r.place; rule = r.rule; geometry = no_geometry; lines = 0; empty = 0 }

-- a written log of so many bytes, with the text's refusal that it says (its number is text), or zeros; and whether there is no picture
abbrev pub written_result : ℕ → Verdict → Bool → LogResult
written_result n Accepted without = record { refusal = 0; text = 0; place = 0; rule = 0; bytes = n; empty = flag without }
written_result n (RefusedBy r) without = record { refusal = 0; text = r.number; place = r.place; rule = r.rule; bytes = n; empty = flag without }

-- refusal is the call's own
abbrev pub log_result : LogReply → LogResult
log_result (Written l) = written_result l.bytes l.verdict l.empty
log_result (NotWritten r) = record { refusal = r.number; text = 0; place = 0; rule = 0; bytes = 0; empty = 0 }

pub record TextGiven (t : List ℕ) (words : List ℤ) (result : TextResult) (new : List ℤ) : Type 0 where
  pub reply : TextReply
  pub answer : TextAnswer t words reply new
  pub demand2 : TextPromised t words reply new
  pub is : result ≡ text_result reply

pub record LogGiven (t out : List ℕ) (result : LogResult) (new : List ℕ) : Type 0 where
  pub reply : LogReply
  pub answer : LogAnswer t out reply new
  pub demand2 : LogPromised t reply new
  pub is : result ≡ log_result reply
