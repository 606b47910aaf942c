-- What the calls hand back: a value, or why there is none. Accepted, NoPicture and Read are also matched on.
use Rattle.std.specs.Prelude.{Option, Some, None, Result, Ok}
use Rattle.definitions.specs.declared.Answer.{Answer}
use Rattle.definitions.specs.declared.Counts.{Counts}
use Rattle.definitions.specs.declared.Logged.{Logged}
use Rattle.definitions.specs.declared.Refusal.{Refusal}
use Rattle.definitions.specs.declared.TextRead.{TextRead}

abbrev pub Verdict : Type 0
Verdict = Result (Unit {0}) Refusal

pattern abbrev pub Accepted : Verdict
Accepted = Ok tt

abbrev pub MacroblockReply : Type 0
MacroblockReply = Result Answer Refusal

abbrev pub PictureReply : Type 0
PictureReply = Result Counts Refusal

abbrev pub TextReply : Type 0
TextReply = Result (Option TextRead) Refusal

-- the text has no bytes
pattern abbrev pub NoPicture : TextReply
NoPicture = Ok None

pattern abbrev pub Read : TextRead → TextReply
Read t = Ok (Some t)

abbrev pub LogReply : Type 0
LogReply = Result Logged Refusal
