-- "Sync text and log" of document 01: the grammar of the text, with the last number that document 02's E7 gives record lines, and the text call, for which a text of no bytes
-- means no picture (E2).
-- A text is a list of bytes. The grammar says of a list of bytes what it is, and which numbers stand in it; no reader is described here.
-- Bytes: 10 is a line feed, 32 a space, 40 and 41 the brackets, 45 a minus, 48 to 57 the digits, 97 to 122 the letters a to z.
use Rattle.std.specs.Prelude.{ℕ, zero, suc, ◌+◌, ◌-◌, ◌*◌, ◌≤◌, ◌<◌, ◌≡◌, ◌⊎◌, List, [], ◌∷◌, ◌++◌, length, take, drop, ℤ, pos, negsuc}
use Rattle.definitions.specs.declared.Motion.{Motion}
use Rattle.definitions.specs.declared.Numbers.{Numbers}
use Rattle.definitions.specs.declared.Refusal.{Refusal}
use Rattle.definitions.specs.declared.TextRead.{TextRead}
use Rattle.definitions.specs.Replies.{TextReply, NoPicture, Read}
use Rattle.std.specs.Prelude.{Err as Refused}
use Rattle.definitions.specs.Basics.{for_each}
use Rattle.definitions.specs.Record.{record_words, word_of, laid_out, all_one}
use Rattle.definitions.specs.Answer.{without_motion}
use Rattle.definitions.specs.Refusals.{refusal}

-- ---- Words and numbers
abbrev pub Letter : ℕ → Type 0
Letter c = (97 ≤ c) × (c ≤ 122)

abbrev pub Digit : ℕ → Type 0
Digit c = (48 ≤ c) × (c ≤ 57)

-- each byte of a list is a P
pub data All (P : ℕ → Type 0) : List ℕ → Type 0 where
  none : All P []
  each : {c : ℕ} {t : List ℕ} → P c → All P t → All P (c ∷ t)

-- words (one or more letters a to z)
pub data Word : List ℕ → Type 0 where
  word : {c : ℕ} {t : List ℕ} → Letter c → All Letter t → Word (c ∷ t)

-- what decimal digits are worth, read after digits worth a
abbrev pub valued : ℕ → List ℕ → ℕ
valued a [] = a
valued a (c ∷ t) = valued (10 * a + (c - 48)) t

-- no leading zero: `0`, or digits of which the first is no zero; n is what they are worth
pub data Plain : ℕ → List ℕ → Type 0 where
  zero_alone : Plain 0 (48 ∷ [])
  digits : {c : ℕ} {t : List ℕ} → 49 ≤ c → c ≤ 57 → All Digit t → Plain (valued (c - 48) t) (c ∷ t)

-- Numbers: optional minus, no leading zero, no −0, range −32,768..32,767. (negsuc n is −(n + 1).)
pub data Number : ℤ → List ℕ → Type 0 where
  unsigned : {n : ℕ} {t : List ℕ} → n ≤ 32767 → Plain n t → Number (pos n) t
  negative : {n : ℕ} {t : List ℕ} → n ≤ 32767 → Plain (suc n) t → Number (negsuc n) (45 ∷ t)

-- ---- Notes
-- the rest of a bracket form: items of P, each after one space, and the closing bracket
pub data Rest (P : List ℕ → Type 0) : List ℕ → Type 0 where
  close : Rest P (41 ∷ [])
  item : {w t : List ℕ} → P w → Rest P t → Rest P (32 ∷ (w ++ t))

-- a list, non-empty, of items of P
pub data Listed (P : List ℕ → Type 0) : List ℕ → Type 0 where
  listed : {w t : List ℕ} → P w → Rest P t → Listed P (40 ∷ (w ++ t))

-- a word or a number
pub data Simple : List ℕ → Type 0 where
  is_word : {t : List ℕ} → Word t → Simple t
  is_number : {z : ℤ} {t : List ℕ} → Number z t → Simple t

-- words, numbers and lists, each list holding the same: an item in which lists nest d deep at the most
abbrev pub Item : ℕ → List ℕ → Type 0
Item zero t = Simple t
Item (suc d) t = Simple t ⊎ Listed (Item d) t

-- lines (note ...), to depth 8 with the note at 1: lists nest 7 deep in it
pub data Note : List ℕ → Type 0 where
  note : {t : List ℕ} → Rest (Item 7) t → Note (40 ∷ 110 ∷ 111 ∷ 116 ∷ 101 ∷ (t ++ (10 ∷ [])))

pub data Notes : List ℕ → Type 0 where
  none : Notes []
  more : {t u : List ℕ} → Note t → Notes u → Notes (t ++ u)

-- ---- Lines
-- a part of a line's pattern: a byte; a number and one space; a number and a closing bracket
pub data Part : Type 0 where
  byte : ℕ → Part
  spaced ended : Part

-- the lists of bytes of a pattern, with the numbers that stand in them
pub data Form : List Part → List ℤ → List ℕ → Type 0 where
  nothing : Form [] [] []
  is_byte : {c : ℕ} {ps : List Part} {vs : List ℤ} {t : List ℕ} → Form ps vs t → Form (byte c ∷ ps) vs (c ∷ t)
  is_spaced : {z : ℤ} {w : List ℕ} {ps : List Part} {vs : List ℤ} {t : List ℕ} → Number z w → Form ps vs t → Form (spaced ∷ ps) (z ∷ vs) (w ++ (32 ∷ t))
  is_ended : {z : ℤ} {w : List ℕ} {ps : List Part} {vs : List ℤ} {t : List ℕ} → Number z w → Form ps vs t → Form (ended ∷ ps) (z ∷ vs) (w ++ (41 ∷ t))

-- these bytes, and then ps
abbrev pub bytes_then : List ℕ → List Part → List Part
bytes_then [] ps = ps
bytes_then (c ∷ w) ps = byte c ∷ bytes_then w ps

-- n + 1 numbers separated by one space, a closing bracket, and then ps
abbrev pub numbers_then : ℕ → List Part → List Part
numbers_then zero ps = ended ∷ ps
numbers_then (suc n) ps = spaced ∷ numbers_then n ps

-- the kinds of line: each begins with a bracket and a letter of its own, which is not that of a note
pub data Kind : Type 0 where
  base_line scaled_line at_line full_line intra_line whole_line mb_line : Kind

abbrev pub letter : Kind → ℕ
letter base_line = 98
letter scaled_line = 115
letter at_line = 97
letter full_line = 102
letter intra_line = 105
letter whole_line = 119
letter mb_line = 109

-- what comes after the letter: (base W H), (scaled W H), (at X Y), (full W H), (intra D), (whole (R0 R1) (X0 Y0 X1 Y1) D),
-- (mb T (4 sub-types) (8 references) (64 vector words) D), line feed after each. (D, the record's detail, is document 02's E7.)
abbrev pub tail_of : Kind → List Part
tail_of base_line = bytes_then (97 ∷ 115 ∷ 101 ∷ 32 ∷ []) (numbers_then 1 (byte 10 ∷ []))
tail_of scaled_line = bytes_then (99 ∷ 97 ∷ 108 ∷ 101 ∷ 100 ∷ 32 ∷ []) (numbers_then 1 (byte 10 ∷ []))
tail_of at_line = bytes_then (116 ∷ 32 ∷ []) (numbers_then 1 (byte 10 ∷ []))
tail_of full_line = bytes_then (117 ∷ 108 ∷ 108 ∷ 32 ∷ []) (numbers_then 1 (byte 10 ∷ []))
tail_of intra_line = bytes_then (110 ∷ 116 ∷ 114 ∷ 97 ∷ 32 ∷ []) (numbers_then 0 (byte 10 ∷ []))
tail_of whole_line = bytes_then (104 ∷ 111 ∷ 108 ∷ 101 ∷ 32 ∷ 40 ∷ []) (numbers_then 1 (bytes_then (32 ∷ 40 ∷ []) (numbers_then 3 (byte 32 ∷ numbers_then 0 (byte 10 ∷ [])))))
tail_of mb_line =
    bytes_then (98 ∷ 32 ∷ []) (spaced ∷ bytes_then (40 ∷ []) (numbers_then 3 (bytes_then (32 ∷ 40 ∷ []) (numbers_then 7 (bytes_then (32 ∷ 40 ∷ []) (numbers_then 63 (byte 32 ∷ numbers_then 0 (byte 10 ∷ []))))))))

-- a line of a kind, with its numbers
abbrev pub LineOf : Kind → List ℤ → List ℕ → Type 0
LineOf k = Form (byte 40 ∷ byte (letter k) ∷ tail_of k)

-- lines of these kinds, one of each in this order, with notes before each; the numbers of all
pub data Heads : List Kind → List ℤ → List ℕ → Type 0 where
  no_head : Heads [] [] []
  head : {k : Kind} {ks : List Kind} {vs ws : List ℤ} {n t u : List ℕ} → Notes n → LineOf k vs t → Heads ks ws u → Heads (k ∷ ks) (vs ++ ws) (n ++ (t ++ u))

-- none or more lines, one per base record: their kinds
pub data RecordKind : Type 0 where
  intra whole mb : RecordKind

abbrev pub kind_of : RecordKind → Kind
kind_of intra = intra_line
kind_of whole = whole_line
kind_of mb = mb_line

-- a record line, as its kind and its numbers
pub record Entry : Type 0 where
  pub kind : RecordKind
  pub fields : List ℤ

-- record lines and notes, in any order
pub data Records : List Entry → List ℕ → Type 0 where
  no_record : Records [] []
  a_note : {rs : List Entry} {t u : List ℕ} → Note t → Records rs u → Records rs (t ++ u)
  a_record :
      {r : RecordKind} {vs : List ℤ} {rs : List Entry} {t u : List ℕ} → LineOf (kind_of r) vs t → Records rs u → Records (record { kind = r; fields = vs } ∷ rs) (t ++ u)

-- ---- The text
-- the numbers of its first four lines
abbrev pub head_numbers : Numbers → List ℤ
head_numbers n =
    let h = n.horizontal in
    let v = n.vertical in
    h.base ∷ v.base ∷ h.scaled ∷ v.scaled ∷ h.offset ∷ v.offset ∷ h.full ∷ v.full ∷ []

-- t is a text of the grammar, with the geometry's numbers and the record lines
pub record Text (n : Numbers) (entries : List Entry) (t : List ℕ) : Type 0 where
  pub top : List ℕ
  pub bottom : List ℕ
  pub heads : Heads (base_line ∷ scaled_line ∷ at_line ∷ full_line ∷ []) (head_numbers n) top
  pub lines : Records entries bottom
  pub parts : t ≡ top ++ bottom

-- t belongs to the grammar: there is such a text
pub record Belongs (t : List ℕ) : Type 0 where
  pub numbers : Numbers
  pub entries : List Entry
  pub text : Text numbers entries t

-- a text can go on after p: some text of the grammar, however long, begins with p
pub record CanGoOn (p : List ℕ) : Type 0 where
  pub rest : List ℕ
  pub belongs : Belongs (p ++ rest)

-- 9: text breaks the grammar; place is the first byte offset at which no text of the grammar can go on (length if the text ends early)
pub record BreaksAt (t : List ℕ) (place : ℕ) : Type 0 where
  pub breaks : Belongs t → ⊥
  pub within : place ≤ length t
  pub before : CanGoOn (take place t)
  pub there : place < length t → CanGoOn (take (place + 1) t) → ⊥

-- ---- The words of a record line
-- the one motion of a line (whole (R0 R1) (X0 Y0 X1 Y1) D), by its numbers in order
abbrev pub whole_motion : List ℤ → Motion
whole_motion v =
    record {
      list0 = record { reference = word_of v 0; x = word_of v 2; y = word_of v 3 };
      list1 = record { reference = word_of v 1; x = word_of v 4; y = word_of v 5 };
    }

-- (intra ..) is type 0; (whole ..) is type 1, with its motion in all blocks; the last word of both is the line's last number, D. The numbers of (mb ..) are the words, in order.
abbrev pub words_for : RecordKind → List ℤ → List ℤ
words_for intra v = without_motion 0 (word_of v 0)
words_for whole v = laid_out (all_one 1 (whole_motion v) (word_of v 6))
words_for mb v = v

abbrev pub words_of : Entry → List ℤ
words_of e = words_for e.kind e.fields

-- the words of record lines, one record after the other
abbrev pub base_of : List Entry → List ℤ
base_of entries = for_each entries words_of

-- ---- What becomes of a text: it means no picture, it is refused, or it is read as the geometry's numbers and its record lines
-- 10: text above 65,536 bytes, tested before 9, or more than 99 record lines, tested after 9
abbrev pub text_records : ℕ
text_records = 99

abbrev pub text_bytes : ℕ
text_bytes = 65536

pub data Reading : Type 0 where
  empty : Reading
  not_read : Refusal → Reading
  read_as : Numbers → List Entry → Reading

-- A text of no bytes means no picture (document 02, E2). Else 10 by length, then 9, then 10 by lines: the text call and the program both test in this order.
pub data Reads (t : List ℕ) : Reading → Type 0 where
  no_bytes : length t ≡ 0 → Reads t empty
  too_long : text_bytes < length t → Reads t (not_read (refusal 10))
  broken : {place : ℕ} → 0 < length t → length t ≤ text_bytes → BreaksAt t place → Reads t (not_read (record { number = 9; place = place; rule = 0 }))
  too_many : {n : Numbers} {entries : List Entry} → length t ≤ text_bytes → Text n entries t → text_records < length entries → Reads t (not_read (refusal 10))
  read : {n : Numbers} {entries : List Entry} → length t ≤ text_bytes → Text n entries t → length entries ≤ text_records → Reads t (read_as n entries)

-- ---- Text: the bytes, and the words of 99 records to write
-- What the call hands back, and the words afterwards. It tests 6 first, and refused leaves every word. A text of no bytes it answers with no picture, and leaves every word too; else
-- it gives the geometry's numbers and the count of record lines, whose words stand first, the rest unchanged.
pub data TextAnswer (t : List ℕ) (words : List ℤ) : TextReply → List ℤ → Type 0 where
  wrong_words : (length words ≡ record_words * text_records → ⊥) → TextAnswer t words (Refused (refusal 6)) words
  no_picture : length words ≡ record_words * text_records → Reads t empty → TextAnswer t words NoPicture words
  refused : {r : Refusal} → length words ≡ record_words * text_records → Reads t (not_read r) → TextAnswer t words (Refused r) words
  given :
      {n : Numbers} {entries : List Entry} → length words ≡ record_words * text_records → Reads t (read_as n entries)
      → TextAnswer t words (Read (record { numbers = n; lines = length entries })) (base_of entries ++ drop (record_words * length entries) words)

-- ---- Demand 2: "With words for 99 records lent, a text is read exactly when it belongs to document 01's grammar and keeps its limits", and document 02's E2: "covers the empty
-- text as accepted"
-- t belongs to the grammar with the numbers and the count of record lines of u, and keeps the limits
pub record BelongsAs (t : List ℕ) (u : TextRead) : Type 0 where
  pub entries : List Entry
  pub text : Text u.numbers entries t
  pub lines : u.lines ≡ length entries
  pub bytes-kept : length t ≤ text_bytes
  pub records-kept : length entries ≤ text_records

-- It is accepted exactly when it is empty, or belongs and keeps the limits; and the reply says which.
pub record ReadExactly (t : List ℕ) (words : List ℤ) (reply : TextReply) (new : List ℤ) : Type 0 where
  pub then-read :
      (n : Numbers) (entries : List Entry) → Text n entries t → length t ≤ text_bytes → length entries ≤ text_records
      → (reply ≡ Read (record { numbers = n; lines = length entries })) × (new ≡ base_of entries ++ drop (record_words * length entries) words)
  pub read-then : (u : TextRead) → reply ≡ Read u → BelongsAs t u
  pub then-empty : length t ≡ 0 → (reply ≡ NoPicture) × (new ≡ words)
  pub empty-then : reply ≡ NoPicture → length t ≡ 0
  -- refusal 9 never has place 0 with length 0
  pub nine : (r : Refusal) → reply ≡ Refused r → r.number ≡ 9 → 0 < length t

abbrev pub Demand2Text : Type 0
Demand2Text =
    (t : List ℕ) (words : List ℤ) (reply : TextReply) (new : List ℤ) → length words ≡ record_words * text_records
    → TextAnswer t words reply new → ReadExactly t words reply new
