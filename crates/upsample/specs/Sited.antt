-- What the one-macroblock call knows of a macroblock before it reads a word of the base, and what it makes of that. For both widths.
use Rattle.std.specs.Prelude.{ℕ, ◌+◌, ◌*◌, ◌≤◌, Bool, ◌&&◌, ◌≡◌, List, [], ◌∷◌, ◌++◌, ℤ, nat_abs, length}
use Rattle.definitions.specs.declared.Axes.{Axes}
use Rattle.definitions.specs.declared.Numbers.{Numbers}
use Rattle.definitions.specs.declared.Refusal.{Refusal}
use Rattle.definitions.specs.Replies.{MacroblockReply, Verdict, Accepted}
use Rattle.std.specs.Prelude.{Result, Ok as Answered, Ok as At, Err as Declined, Err as Refused, Err as Wrong}
use Rattle.definitions.specs.Basics.{pick}
use Rattle.definitions.specs.Geometry.{axes_of}
use Rattle.definitions.specs.Record.{record_words}
use Rattle.definitions.specs.Refusals.{Test, verdict_of, geometry_tests, base_test, output_test, position_test, record_tests}
use Rattle.definitions.specs.Calls.{Outcome, by_verdict}
use Rattle.macroblock.specs.declared.AxisRead.{AxisRead}
use Rattle.macroblock.specs.Made.{Makeable, answer_by, first_of, fixed_of, read_of, two_read, written_by}
use Rattle.records.specs.Checking.{addresses}
use Rattle.upsample.specs.declared.site.Run.{Run}
use Rattle.upsample.specs.declared.site.Site.{Site}
use Rattle.upsample.specs.declared.place.Place.{Place}

-- ---- Refusals 1 to 7
-- a macroblock of the picture, by its column and row
pub record Placed : Type 0 where
  pub axes : Axes
  pub column : ℕ
  pub row : ℕ

-- such a macroblock, or the first refusal of 1 to 7
abbrev pub Placing : Type 0
Placing = Result Placed Refusal

-- what a value of the code says of it
abbrev pub placed : Place → Placed
placed p = record { axes = p.geometry.axes; column = p.column; row = p.row }

-- accepted, the macroblock; else the refusal
abbrev pub placing_by : Verdict → Axes → ℤ → ℤ → Placing
placing_by Accepted g column row = At (record { axes = g; column = nat_abs column; row = nat_abs row })
placing_by (Refused r) g column row = Wrong r

-- 5 to 7, of an accepted geometry
unfoldable pub place_tests : Axes → List ℤ → ℤ → ℤ → List ℤ → List Test
place_tests g base column row words = base_test g base ∷ output_test 1 words ∷ position_test g column row ∷ []

unfoldable pub placing_in : Axes → List ℤ → ℤ → ℤ → List ℤ → Placing
placing_in g base column row words = placing_by (verdict_of (place_tests g base column row words)) g column row

-- and 1 to 4 before them
unfoldable pub placing_of : Numbers → List ℤ → ℤ → ℤ → List ℤ → Placing
placing_of n base column row words = placing_by (verdict_of (geometry_tests n ++ place_tests (axes_of n) base column row words)) (axes_of n) column row

-- ---- The records that are read
-- those of a row, in a base of so many columns, if it is read: one, or two next to each other; else none (0 to 0)
unfoldable pub run_of : ℕ → AxisRead → ℕ → Bool → Run
run_of width h row read =
    let a = row * width + first_of h in
    pick read (record { from = a; to = a + pick (two_read h) 2 1 }) (record { from = 0; to = 0 })

-- by the axes' readings: inside, those of the first row, and of the next if two are read; outside none
unfoldable pub site_by : Axes → AxisRead → AxisRead → Site
site_by g h v =
    let inside = h.inside && v.inside in
    record {
      fixed = fixed_of g;
      h = h;
      v = v;
      upper = run_of (fixed_of g).width h (first_of v) inside;
      lower = run_of (fixed_of g).width h (first_of v + 1) (inside && two_read v);
    }

-- of a macroblock of the picture
abbrev pub site_of : Placed → Site
site_of p = site_by p.axes (read_of p.axes.horizontal p.column) (read_of p.axes.vertical p.row)

-- the addresses of both, those of the upper row first
abbrev pub runs_of : Run → Run → List ℕ
runs_of upper lower = addresses upper.from upper.to ++ addresses lower.from lower.to

-- a run that lies in the base (no base has more than 65,536 records)
abbrev pub RunIn : List ℤ → Run → Type 0
RunIn base r = (r.to * record_words ≤ length base) × (r.from ≤ r.to) × (r.to ≤ 65536)

-- ---- Refusal 8, or the answer
-- (of a macroblock that 1 to 7 pass this is `macroblock_call`: `right-place` of proofs/Staging)
unfoldable pub site_call : ℕ → Site → List ℤ → List ℤ → Outcome MacroblockReply
site_call limit s base words =
    by_verdict (verdict_of (record_tests limit base (runs_of s.upper s.lower))) Declined words (record { reply = Answered (answer_by s.fixed s.h s.v base); words = written_by s.fixed s.h s.v base })

-- what `site_call` asks: the records lie in the base, and once they are accepted the macroblock can be made; words for one record are lent
pub record Callable (limit : ℕ) (s : Site) (base words : List ℤ) : Type 0 where
  pub upper : RunIn base s.upper
  pub lower : RunIn base s.lower
  pub makeable : verdict_of (record_tests limit base (runs_of s.upper s.lower)) ≡ Accepted → Makeable limit s.fixed s.h s.v base
  pub lent : length words ≡ record_words
