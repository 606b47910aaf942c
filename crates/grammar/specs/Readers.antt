-- What the readers of the text promise, in the terms of the grammar (specs/Text of crate definitions). Each promise is local: it speaks of the bytes from
-- where the reader starts, whatever stands before them. One by ReadAt, NumAt or StoresAt allows one end or one place where it breaks, and not both (proofs/Reading:
-- one_end, one-break, read-or-bad); what is read up to there is one too, for a number and a pattern of one line (proofs/Alone: one_number, one_form), and for a whole
-- text (proofs/Runs: one-reading).
use Rattle.std.specs.Prelude.{ℕ, Result, ◌+◌, ◌-◌, ◌*◌, ◌≤◌, ◌<◌, ◌≡◌, Bool, true, false, cond, List, [], ◌∷◌, ◌++◌, leb, eqb, length, get_or, take, drop, ℤ}
use Rattle.std.proofs.lemmas.List.Edits.{sets}
use Rattle.definitions.specs.declared.Numbers.{Numbers}
use Rattle.definitions.specs.Record.{record_words}
use Rattle.definitions.specs.Text.{Digit, All, valued, Number, Listed, Item, Note, Notes, Part, byte, spaced, ended, Form, bytes_then, numbers_then, tail_of, LineOf, RecordKind, kind_of, Entry, Records, Text, BreaksAt, base_of, text_records}
use Rattle.grammar.specs.declared.ByteClass.{ByteClass}
use Rattle.grammar.specs.declared.ByteClass.TheVariants.{Alpha, Zero, Nonzero, Dash, Open, Close, Space, Other}
use Rattle.grammar.specs.Found.{Got, Num, Lines, TextParse}
use Rattle.std.specs.Prelude.{Ok as At, Err as Bad, Ok as Value, Ok as Count, Ok as Parsed}

-- what a byte is
unfoldable pub byte_class_of : ℕ → ByteClass
byte_class_of b =
    cond (leb 97 b) (cond (leb b 122) Alpha Other)
    (cond (leb 49 b) (cond (leb b 57) Nonzero Other)
    (cond (eqb b 48) Zero
    (cond (eqb b 45) Dash
    (cond (eqb b 40) Open
    (cond (eqb b 41) Close
    (cond (eqb b 32) Space Other))))))

-- the byte at i, or i itself, where s ends
abbrev pub ByteAt : List ℕ → ℕ → Result ℕ ℕ → Type 0
ByteAt s i (Value b) = (i < length s) × (b ≡ get_or s i 0)
ByteAt s i (Bad p) = (length s ≤ i) × (p ≡ i)

-- ---- What stands at a byte of s. P says of a list of bytes that it is such a thing.
-- the bytes of s from byte i on, up to byte e
unfoldable pub part : List ℕ → ℕ → ℕ → List ℕ
part s i e = take (e - i) (drop i s)

-- w begins a P: with some rest behind it, it is one
pub record Begins (P : List ℕ → Type 0) (w : List ℕ) : Type 0 where
  pub rest : List ℕ
  pub is : P (w ++ rest)

-- the bytes from i on begin no P any more, once the byte at e is among them
pub record Stops (P : List ℕ → Type 0) (s : List ℕ) (i e : ℕ) : Type 0 where
  pub up : i ≤ e
  pub within : e ≤ length s
  pub no-further : e < length s → Begins P (part s i (e + 1)) → ⊥

-- a P stands at i and ends at e; with the byte at e, if there is one, none begins any more, so that no longer one stands there
pub record Stands (P : List ℕ → Type 0) (s : List ℕ) (i e : ℕ) : Type 0 where
  pub is : P (part s i e)
  pub stops : Stops P s i e

-- no P stands at i, and p is the first byte at which none can go on, or the length
pub record Breaks (P : List ℕ → Type 0) (s : List ℕ) (i p : ℕ) : Type 0 where
  pub none : (e : ℕ) → P (part s i e) → ⊥
  pub so_far : Begins P (part s i p)
  pub stops : Stops P s i p

-- what a reader of P hands back
abbrev pub ReadAt : (List ℕ → Type 0) → List ℕ → ℕ → Got → Type 0
ReadAt P s i (At e) = Stands P s i e
ReadAt P s i (Bad p) = Breaks P s i p

-- a reader that moved on to e
abbrev pub ends_at : ℕ → Result Unit ℕ → Got
ends_at e (Value v) = At e
ends_at e (Bad p) = Bad p

-- things that hold a value: such a thing, with any value
abbrev pub Any : {A : Type 0} → (A → List ℕ → Type 0) → List ℕ → Type 0
Any {A} P w = (v : A) × P v w

-- ---- Numbers
-- digits from i to e, after digits worth a: all are worth n, which is at most top; the byte at e is no digit, or one too many
pub record DigitsAt (s : List ℕ) (i a top n e : ℕ) : Type 0 where
  pub up : i ≤ e
  pub within : e ≤ length s
  pub all : All Digit (part s i e)
  pub worth : n ≡ valued a (part s i e)
  pub most : n ≤ top
  pub full : e < length s → Digit (get_or s e 0) → top < 10 * n + (get_or s e 0 - 48)

-- a number and where it ends; P says which numbers stand in which bytes
abbrev pub NumAt : (ℤ → List ℕ → Type 0) → List ℕ → ℕ → Num → Type 0
NumAt P s i (Value (z, e)) = P z (part s i e) × Stops (Any P) s i e
NumAt P s i (Bad p) = Breaks (Any P) s i p

-- a reader of a number that moved on to e
abbrev pub up_to : ℕ → Result ℤ ℕ → Num
up_to e (Value z) = Value (z, e)
up_to e (Bad p) = Bad p

-- a number after its minus
abbrev pub AfterMinus : ℤ → List ℕ → Type 0
AfterMinus z w = Number z (45 ∷ w)

-- a number, and a closing bracket if it is the last, else a space
abbrev pub field_part : Bool → Part
field_part true = ended
field_part false = spaced

abbrev pub FieldOf : Bool → ℤ → List ℕ → Type 0
FieldOf last z w = Form (field_part last ∷ []) (z ∷ []) w

-- ---- Notes
-- the items of a list after its bracket, and its closing bracket
abbrev pub Items : ℕ → List ℕ → Type 0
Items d w = Listed (Item d) (40 ∷ w)

-- a note after its bracket and its n
abbrev pub NoteTail : List ℕ → Type 0
NoteTail w = Note (40 ∷ 110 ∷ w)

-- these bytes
abbrev pub Exactly : List ℕ → List ℕ → Type 0
Exactly w u = u ≡ w

-- ---- Lines. A reader stores the words of what it reads, in words that were old and are new; where what it reads is bad, the words stay.
-- a P stands at i and ends at e, and the words of its value stand in the lent words from `from` on
pub record Stored {A : Type 0} (P : A → List ℕ → Type 0) (words : A → List ℤ) (s : List ℕ) (i : ℕ) (old : List ℤ) (from : ℕ) (new : List ℤ) (e : ℕ) : Type 0 where
  pub value : A
  pub is : P value (part s i e)
  pub stops : Stops (Any P) s i e
  pub stored : new ≡ sets old from (words value)

abbrev pub StoresAt : {A : Type 0} → (A → List ℕ → Type 0) → (A → List ℤ) → List ℕ → ℕ → List ℤ → ℕ → List ℤ → Got → Type 0
StoresAt P words s i old from new (At e) = Stored P words s i old from new e
StoresAt P words s i old from new (Bad p) = (new ≡ old) × Breaks (Any P) s i p

-- the numbers of a pattern are the words that are stored
abbrev pub as_read : List ℤ → List ℤ
as_read vs = vs

-- n + 1 numbers separated by one space, and the closing bracket
abbrev pub Fields : ℕ → List ℤ → List ℕ → Type 0
Fields n = Form (numbers_then n [])

-- the bytes of w, n + 1 numbers separated by one space, and the closing bracket
abbrev pub FieldsAfter : List ℕ → ℕ → List ℤ → List ℕ → Type 0
FieldsAfter w n = Form (bytes_then w (numbers_then n []))

-- a record line after its letter, and after its bracket
abbrev pub TailOf : RecordKind → List ℤ → List ℕ → Type 0
TailOf r = Form (tail_of (kind_of r))

abbrev pub EntryTail : Entry → List ℕ → Type 0
EntryTail e w = LineOf (kind_of e.kind) e.fields (40 ∷ w)

-- the bytes of w, two numbers and the end of a line
abbrev pub HeadTail : List ℕ → List ℤ → List ℕ → Type 0
HeadTail w = Form (bytes_then w (numbers_then 1 (byte 10 ∷ [])))

-- they do not begin as a note does after its bracket
abbrev pub NoNote : List ℕ → Type 0
NoNote w = (0 < length w) × (get_or w 0 0 ≡ 110 → ⊥)

-- notes, and a bracket with these bytes, numbers and end
pub data HeadLine (w : List ℕ) : List ℤ → List ℕ → Type 0 where
  head_line : {vs : List ℤ} {n t : List ℕ} → Notes n → HeadTail w vs t → HeadLine w vs (n ++ (40 ∷ t))

-- ---- The text
-- the words after a text with these record lines: theirs stand first, the rest unchanged; too many leave every word
abbrev pub WordsOf : List Entry → List ℤ → List ℤ → Type 0
WordsOf entries old new =
    (length entries ≤ text_records → new ≡ base_of entries ++ drop (record_words * length entries) old) × (text_records < length entries → new ≡ old)

-- what stands from i up to the end of s is no P, and p is the first byte at which none can go on, or the length
pub record BreaksToEnd (P : List ℕ → Type 0) (s : List ℕ) (i p : ℕ) : Type 0 where
  pub none : P (part s i (length s)) → ⊥
  pub so_far : Begins P (part s i p)
  pub stops : Stops P s i p

-- from i up to the end of s stand notes and n record lines
pub record LinesRead (s : List ℕ) (i : ℕ) (old new : List ℤ) (n : ℕ) : Type 0 where
  pub entries : List Entry
  pub many : n ≡ length entries
  pub is : Records entries (part s i (length s))
  pub words : WordsOf entries old new

abbrev pub LinesAt : List ℕ → ℕ → List ℤ → List ℤ → Lines → Type 0
LinesAt s i old new (Count n) = LinesRead s i old new n
LinesAt s i old new (Bad p) = (new ≡ old) × BreaksToEnd (Any Records) s i p

-- the whole text
pub record TextIs (s : List ℕ) (old new : List ℤ) (n : Numbers) (count : ℕ) : Type 0 where
  pub entries : List Entry
  pub many : count ≡ length entries
  pub text : Text n entries s
  pub words : WordsOf entries old new

abbrev pub ParsedAs : List ℕ → List ℤ → List ℤ → TextParse → Type 0
ParsedAs s old new (Parsed (n, count)) = TextIs s old new n count
ParsedAs s old new (Bad p) = (new ≡ old) × BreaksAt s p
