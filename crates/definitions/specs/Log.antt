-- "Sync text and log" of document 01: the log of a text, and that of a text of no bytes (document 02, E2). Bytes are as in Text.
use Rattle.std.specs.Prelude.{ℕ, zero, suc, ◌+◌, ◌*◌, ◌/◌, ◌%◌, ◌≤◌, ◌<◌, ◌≡◌, Bool, true, false, not, ◌↔◌, eqb, ltb, ℤ, length, drop}
use mathlib.Core.List.{List, [], ◌∷◌, ◌++◌, Memᴰ}
use Rattle.definitions.specs.declared.Axes.{Axes}
use Rattle.definitions.specs.declared.Numbers.{Numbers}
use Rattle.definitions.specs.declared.Answer.{Answer}
use Rattle.definitions.specs.declared.Answer.TheVariants.{Outside, Intra, Inherited}
use Rattle.definitions.specs.declared.Refusal.{Refusal}
use Rattle.definitions.specs.Replies.{Verdict, Accepted}
use Rattle.std.specs.Prelude.{Err as Refused}
use Rattle.definitions.specs.Replies.{LogReply}
use Rattle.std.specs.Prelude.{Ok as Written, Err as NotWritten}
use Rattle.definitions.specs.Basics.{pick, up_to, for_each}
use Rattle.definitions.specs.Geometry.{axes_of}
use Rattle.definitions.specs.Splits.{count}
use Rattle.definitions.specs.Record.{narrow}
use Rattle.definitions.specs.Answer.{answer_type}
use Rattle.definitions.specs.Refusals.{refusal, Test, test, verdict_of, geometry_tests, record_tests, all_addresses, LowestMalformed}
use Rattle.definitions.specs.Calls.{made_at, counts_of}
use Rattle.definitions.specs.Text.{Entry, Text, base_of, text_records, text_bytes, Reading, empty, not_read, read_as, Reads, Demand2Text}
use Rattle.definitions.specs.Raster.{base_count, full_count, column_at, row_at}

-- ---- Lines
-- the decimal digits of n, no leading zero, if there are at most m
unfoldable pub digits_in : ℕ → ℕ → List ℕ
digits_in zero n = []
digits_in (suc m) n = pick (ltb n 10) ((48 + n) ∷ []) (digits_in m (n / 10) ++ ((48 + n % 10) ∷ []))

-- a number in decimal. (n has no more than n + 1 digits.)
unfoldable pub decimal : ℕ → List ℕ
decimal n = digits_in (suc n) n

-- One bracket form a line, line feed after each, items separated by one space: a word and numbers
unfoldable pub line_of : List ℕ → List ℕ → List ℕ
line_of word numbers = 40 ∷ (word ++ (for_each numbers (λ n. 32 ∷ decimal n) ++ (41 ∷ 10 ∷ [])))

-- the words mb, sync and refused
abbrev pub mb_word : List ℕ
mb_word = 109 ∷ 98 ∷ []

abbrev pub sync_word : List ℕ
sync_word = 115 ∷ 121 ∷ 110 ∷ 99 ∷ []

abbrev pub refused_word : List ℕ
refused_word = 114 ∷ 101 ∷ 102 ∷ 117 ∷ 115 ∷ 101 ∷ 100 ∷ []

-- pieces: those of the answer's split, 0 for types 0 and 5
abbrev pub answer_pieces : Answer → ℕ
answer_pieces Outside = 0
answer_pieces (Intra b) = 0
answer_pieces (Inherited b s) = count s

-- (mb column row type pieces), of the macroblock at an address
unfoldable pub macroblock_line : Axes → List ℤ → ℕ → List ℕ
macroblock_line g base address =
    let answer = (made_at g base address).answer in
    line_of mb_word (column_at g address ∷ row_at g address ∷ answer_type answer ∷ answer_pieces answer ∷ [])

-- (sync macroblocks inherited intra outside)
unfoldable pub sync_line : Axes → List ℤ → List ℕ
sync_line g base =
    let counts = counts_of (up_to (full_count g) (made_at g base)) in
    line_of sync_word (full_count g ∷ counts.inherited ∷ counts.intra ∷ counts.outside ∷ [])

-- a line per macroblock, in raster order, then the sync line
unfoldable pub picture_lines : Axes → List ℤ → List ℕ
picture_lines g base = for_each (up_to (full_count g) (λ a. a)) (macroblock_line g base) ++ sync_line g base

-- (sync 0 0 0 0): a text of no bytes means no picture (document 02, E2)
unfoldable pub no_picture_line : List ℕ
no_picture_line = line_of sync_word (0 ∷ 0 ∷ 0 ∷ 0 ∷ [])

-- (refused number place)
unfoldable pub refused_line : Refusal → List ℕ
refused_line r = line_of refused_word (r.number ∷ r.place ∷ [])

-- ---- What the program finds of a text
-- 5 (program: record lines too few or many)
abbrev pub lines_test : Axes → ℕ → Test
lines_test g lines = test (not (eqb lines (base_count g))) (refusal 5)

-- 1 to 5, then 8 on all records: the geometry's numbers, the count of record lines, and their words
unfoldable pub program_tests : Numbers → ℕ → List ℤ → List Test
program_tests n lines base =
    let g = axes_of n in
    geometry_tests n ++ (lines_test g lines ∷ record_tests narrow base (all_addresses g))

-- 8 of these has the lowest malformed address of all records.
abbrev pub LowestInProgram : Type 0
LowestInProgram =
    (n : Numbers) (lines : ℕ) (base : List ℤ) (r : Refusal) → verdict_of (program_tests n lines base) ≡ Refused r → r.number ≡ 8
    → LowestMalformed narrow base (all_addresses (axes_of n)) r

-- no picture, a refusal, or the lines of the picture
pub data Finding : Type 0 where
  finds_none : Finding
  refuses : Refusal → Finding
  makes : List ℕ → Finding

abbrev pub finding_by : Verdict → List ℕ → Finding
finding_by Accepted lines = makes lines
finding_by (Refused r) lines = refuses r

-- what they leave of the numbers, the count of record lines and their words
abbrev pub judged : Numbers → ℕ → List ℤ → Finding
judged n lines base = finding_by (verdict_of (program_tests n lines base)) (picture_lines (axes_of n) base)

-- A text of no bytes has no picture. Else the program tests the length by 10, then 9, then the record lines by 10 (Reads of Text), then 1 to 5, then 8 on all records.
abbrev pub finding_of : Reading → Finding
finding_of empty = finds_none
finding_of (not_read r) = refuses r
finding_of (read_as n entries) = judged n (length entries) (base_of entries)

-- ---- The log
-- A refusal writes only (refused number place), and no picture only (sync 0 0 0 0).
abbrev pub log_for : Finding → List ℕ
log_for finds_none = no_picture_line
log_for (refuses r) = refused_line r
log_for (makes lines) = lines

pub record LogOf (t log : List ℕ) : Type 0 where
  pub reading : Reading
  pub reads : Reads t reading
  pub is : log ≡ log_for (finding_of reading)

-- the verdict on a text, by the same finding; and whether it means no picture
abbrev pub verdict_for : Finding → Verdict
verdict_for finds_none = Accepted
verdict_for (refuses r) = Refused r
verdict_for (makes lines) = Accepted

abbrev pub empty_for : Finding → Bool
empty_for finds_none = true
empty_for (refuses r) = false
empty_for (makes lines) = false

-- The log call is ours (document 01 has the program alone): the bytes of a text, and bytes to write its log into, as many as every log fits: 65,536 lines of at
-- most 18 bytes, and a last one of at most 31. Fewer are refused by 6, tested first, and left as they are. Else the log stands first, the rest unchanged, and the
-- call gives its length, the verdict on the text, and whether it means no picture.
abbrev pub log_bytes : ℕ
log_bytes = 65536 * 18 + 31

pub data LogAnswer (t out : List ℕ) : LogReply → List ℕ → Type 0 where
  too_few : length out < log_bytes → LogAnswer t out (NotWritten (refusal 6)) out
  logged :
      {log : List ℕ} → log_bytes ≤ length out → (found : LogOf t log)
      → LogAnswer t out (Written (record { bytes = length log; verdict = verdict_for (finding_of found.reading); empty = empty_for (finding_of found.reading) })) (log ++ drop (length log) out)

-- The verdict says what the log says: refused, the log is the line of that refusal; accepted, it is that of none. And the log is (sync 0 0 0 0) exactly where there is no picture.
pub record SaidByLog (verdict : Verdict) (without : Bool) (log : List ℕ) : Type 0 where
  pub refused : (r : Refusal) → verdict ≡ Refused r → log ≡ refused_line r
  pub accepted : verdict ≡ Accepted → (r : Refusal) → log ≡ refused_line r → ⊥
  pub no-picture : (without ≡ true) ↔ (log ≡ no_picture_line)

-- ---- Demand 2: "it is then refused only for what refusals 1 to 5 and 8 say of its numbers and its count of record lines"
-- Of a text that belongs to the grammar and keeps the limits: its log is a refusal exactly where one of these applies, and is then the first of them; and a log
-- that has the bytes of a refusal has one of their numbers.
pub record RefusedOnly (n : Numbers) (lines : ℕ) (base : List ℤ) (log : List ℕ) : Type 0 where
  pub refused : (r : Refusal) → verdict_of (program_tests n lines base) ≡ Refused r → log ≡ refused_line r
  pub numbers : (r : Refusal) → verdict_of (program_tests n lines base) ≡ Refused r → Memᴰ r.number (1 ∷ 2 ∷ 3 ∷ 4 ∷ 5 ∷ 8 ∷ [])
  pub made : verdict_of (program_tests n lines base) ≡ Accepted → log ≡ picture_lines (axes_of n) base
  pub no-refusal : verdict_of (program_tests n lines base) ≡ Accepted → (r : Refusal) → log ≡ refused_line r → ⊥
  pub only : (r : Refusal) → log ≡ refused_line r → Memᴰ r.number (1 ∷ 2 ∷ 3 ∷ 4 ∷ 5 ∷ 8 ∷ [])

abbrev pub Demand2Log : Type 0
Demand2Log =
    (t : List ℕ) (n : Numbers) (entries : List Entry) → Text n entries t → length t ≤ text_bytes → length entries ≤ text_records
    → (log : List ℕ) → LogOf t log → RefusedOnly n (length entries) (base_of entries) log

-- The empty text is refused for none (document 02, E2): its log is (sync 0 0 0 0), which is no refusal's, and no other text's.
pub record Demand2Empty : Type 0 where
  pub log : (log : List ℕ) → LogOf [] log → log ≡ no_picture_line
  pub no-refusal : (r : Refusal) → no_picture_line ≡ refused_line r → ⊥
  pub alone : (t : List ℕ) → LogOf t no_picture_line → t ≡ []

-- Demand 2 of texts: both halves, and of the empty text
pub record Demand2Entire : Type 0 where
  pub text : Demand2Text
  pub log : Demand2Log
  pub empty : Demand2Empty
