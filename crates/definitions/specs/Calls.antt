-- "Calls" of document 01: one macroblock, and the picture. Each tests its refusals in rising order, and refused leaves what it was lent.
use Rattle.std.specs.Prelude.{ℕ, ◌+◌, ◌*◌, ◌<◌, ◌≡◌, Bool, true, false, List, [], ◌∷◌, ◌++◌, ℤ, pos, nat_abs, length}
use Rattle.definitions.specs.declared.Axes.{Axes}
use Rattle.definitions.specs.declared.Numbers.{Numbers}
use Rattle.definitions.specs.declared.Answer.{Answer}
use Rattle.definitions.specs.declared.Answer.TheVariants.{Outside, Intra, Inherited}
use Rattle.definitions.specs.declared.Refusal.{Refusal}
use Rattle.definitions.specs.Replies.{Verdict, Accepted}
use Rattle.std.specs.Prelude.{Err as Refused}
use Rattle.definitions.specs.declared.Counts.{Counts}
use Rattle.definitions.specs.Replies.{MacroblockReply}
use Rattle.std.specs.Prelude.{Ok as Answered, Err as Declined}
use Rattle.definitions.specs.Replies.{PictureReply}
use Rattle.std.specs.Prelude.{Ok as Counted, Err as NotMade}
use Rattle.definitions.specs.Basics.{how_many, up_to, for_each}
use Rattle.definitions.specs.Geometry.{axes_of}
use Rattle.definitions.specs.Raster.{full_count, column_at, row_at}
use Rattle.definitions.specs.Record.{record_words, record_at}
use Rattle.definitions.specs.Answer.{Made, made_of}
use Rattle.definitions.specs.Refusals.{Test, verdict_of, geometry_tests, base_test, output_test, position_test, record_tests, addresses_read, all_addresses, LowestMalformed}

-- what a call hands back, and the words that it was lent, afterwards
pub record Outcome (Reply : Type 0) : Type 0 where
  pub reply : Reply
  pub words : List ℤ

-- refused, the reply says so and the words are as they were; else what is made
abbrev pub by_verdict : {Reply : Type 0} → Verdict → (Refusal → Reply) → List ℤ → Outcome Reply → Outcome Reply
by_verdict Accepted refused words made = made
by_verdict (Refused r) refused words made = record { reply = refused r; words = words }

-- One macroblock: geometry, base, column, row, and 78 words to write. It checks only the records that it reads; outside it reads none.
unfoldable pub macroblock_tests : ℕ → Numbers → List ℤ → ℤ → ℤ → List ℤ → List Test
macroblock_tests limit n base column row words =
    let g = axes_of n in
    geometry_tests n ++ (base_test g base ∷ output_test 1 words ∷ position_test g column row ∷ record_tests limit base (addresses_read g (nat_abs column) (nat_abs row)))

unfoldable pub macroblock_call : ℕ → Numbers → List ℤ → ℤ → ℤ → List ℤ → Outcome MacroblockReply
macroblock_call limit n base column row words =
    let made = made_of (axes_of n) base (nat_abs column) (nat_abs row) in
    by_verdict (verdict_of (macroblock_tests limit n base column row words)) Declined words (record { reply = Answered made.answer; words = made.written })

-- Picture: checks all base records, then writes all answers in raster order and returns counts inherited, intra, outside.
unfoldable pub picture_tests : ℕ → Numbers → List ℤ → List ℤ → List Test
picture_tests limit n base words =
    let g = axes_of n in
    geometry_tests n ++ (base_test g base ∷ output_test (full_count g) words ∷ record_tests limit base (all_addresses g))

-- the macroblock at an address of the picture
unfoldable pub made_at : Axes → List ℤ → ℕ → Made
made_at g base address = made_of g base (column_at g address) (row_at g address)

-- one more of an answer's sort
abbrev pub counted : Answer → Counts → Counts
counted Outside c = record { inherited = c.inherited; intra = c.intra; outside = c.outside + 1 }
counted (Intra b) c = record { inherited = c.inherited; intra = c.intra + 1; outside = c.outside }
counted (Inherited b s) c = record { inherited = c.inherited + 1; intra = c.intra; outside = c.outside }

abbrev pub no_counts : Counts
no_counts = record { inherited = 0; intra = 0; outside = 0 }

unfoldable pub counts_of : List Made → Counts
counts_of [] = no_counts
counts_of (m ∷ ms) = counted m.answer (counts_of ms)

-- the sum of counts
abbrev pub sum_of : Counts → ℕ
sum_of c = c.inherited + c.intra + c.outside

unfoldable pub picture_call : ℕ → Numbers → List ℤ → List ℤ → Outcome PictureReply
picture_call limit n base words =
    let g = axes_of n in
    let made = up_to (full_count g) (made_at g base) in
    by_verdict (verdict_of (picture_tests limit n base words)) NotMade words (record { reply = Counted (counts_of made); words = for_each made (λ m. m.written) })

-- Refusal 8 of either call has the lowest malformed address among the records that it checks.
pub record LowestRefused (limit : ℕ) : Type 0 where
  pub singly : (n : Numbers) (base : List ℤ) (column row : ℤ) (words : List ℤ) (r : Refusal) → (macroblock_call limit n base column row words).reply ≡ Declined r → r.number ≡ 8
      → LowestMalformed limit base (addresses_read (axes_of n) (nat_abs column) (nat_abs row)) r
  pub picture : (n : Numbers) (base words : List ℤ) (r : Refusal) → (picture_call limit n base words).reply ≡ NotMade r → r.number ≡ 8
      → LowestMalformed limit base (all_addresses (axes_of n)) r

-- The picture by one-macroblock calls. The call at an address of the picture
abbrev pub call_at : ℕ → Numbers → List ℤ → ℕ → List ℤ → Outcome MacroblockReply
call_at limit n base address words = macroblock_call limit n base (pos (column_at (axes_of n) address)) (pos (row_at (axes_of n) address)) words

-- a reply is an answer of a sort
abbrev pub replies_inherited : MacroblockReply → Bool
replies_inherited (Answered Outside) = false
replies_inherited (Answered (Intra b)) = false
replies_inherited (Answered (Inherited b s)) = true
replies_inherited (Declined r) = false

abbrev pub replies_intra : MacroblockReply → Bool
replies_intra (Answered Outside) = false
replies_intra (Answered (Intra b)) = true
replies_intra (Answered (Inherited b s)) = false
replies_intra (Declined r) = false

abbrev pub replies_outside : MacroblockReply → Bool
replies_outside (Answered Outside) = true
replies_outside (Answered (Intra b)) = false
replies_outside (Answered (Inherited b s)) = false
replies_outside (Declined r) = false

-- Each macroblock's words are those that the one-macroblock call writes for it, and each count is the number of macroblocks for which that call's answer
-- is of its sort. (lent a: the 78 words lent to the call at address a, whatever they hold. Each macroblock is counted, so that each call answers.)
pub record AsSingly (limit : ℕ) (n : Numbers) (base : List ℤ) (counts : Counts) (written : List ℤ) (lent : ℕ → List ℤ) : Type 0 where
  pub inherited : counts.inherited ≡ how_many (full_count (axes_of n)) (λ a. replies_inherited (call_at limit n base a (lent a)).reply)
  pub intra : counts.intra ≡ how_many (full_count (axes_of n)) (λ a. replies_intra (call_at limit n base a (lent a)).reply)
  pub outside : counts.outside ≡ how_many (full_count (axes_of n)) (λ a. replies_outside (call_at limit n base a (lent a)).reply)
  pub sum : sum_of counts ≡ full_count (axes_of n)
  pub words-length : length written ≡ record_words * full_count (axes_of n)
  pub words_same : (a : ℕ) → a < full_count (axes_of n) → record_at written a ≡ (call_at limit n base a (lent a)).words

abbrev pub PictureBySingly : ℕ → Type 0
PictureBySingly limit =
    (n : Numbers) (base words : List ℤ) (counts : Counts) (lent : ℕ → List ℤ)
    → (picture_call limit n base words).reply ≡ Counted counts
    → ((a : ℕ) → a < full_count (axes_of n) → length (lent a) ≡ record_words)
    → AsSingly limit n base counts (picture_call limit n base words).words lent
