-- What the session's laws say of what next and totals hand over, as their contracts say it.
use Rattle.std.specs.Prelude.{◌≡◌, false, ℤ, pos, length}
use mathlib.Core.List.{List, Memᴰ}
use Rattle.definitions.specs.Record.{narrow}
use Rattle.definitions.specs.declared.Numbers.{Numbers}
use Rattle.definitions.specs.declared.Counts.{Counts}
use Rattle.definitions.specs.declared.Refusal.{Refusal}
use Rattle.definitions.specs.Replies.{MacroblockReply}
use Rattle.std.specs.Prelude.{Err as Declined}
use Rattle.definitions.specs.Geometry.{axes_of}
use Rattle.definitions.specs.Raster.{column_at, row_at}
use Rattle.definitions.specs.Calls.{sum_of, counts_of}
use Rattle.definitions.specs.Session.{Call, State, begun, finished, made_since, refuses_next}
use Rattle.upsample.specs.Promised.{SinglyPromised}
use Rattle.session.specs.declared.Session.{Session}
use Rattle.session.specs.Values.{fresh_session, value_after}

-- next: while a picture is unfinished, what the one-macroblock call promises for the next address in raster order, demand 3; refused, it is by 20, 21, 5, 6 or 8
pub record NextPromised (s : State) (base words : List ℤ) (reply : MacroblockReply) (new : List ℤ) : Type 0 where
  pub demand3 : (n : Numbers) (c : Counts) → s ≡ begun n c → finished s ≡ false
      → SinglyPromised narrow n base (pos (column_at (axes_of n) (sum_of c))) (pos (row_at (axes_of n) (sum_of c))) words reply new
  pub refusals : (r : Refusal) → reply ≡ Declined r → Memᴰ r.number refuses_next

-- totals, after any list of calls from a fresh session: the counts of accepted next calls of each sort since the last accepted begin or abandon, and their sum is
-- their number
pub record TotalsPromised (v : Session) (counts : Counts) : Type 0 where
  pub made : (calls : List Call) → v ≡ value_after fresh_session calls → counts ≡ counts_of (made_since calls)
  pub sum : (calls : List Call) → v ≡ value_after fresh_session calls → sum_of counts ≡ length (made_since calls)
