-- What the calls hand over is as demand 3 says: the theorem of definitions, at their replies. Assumes nothing.
use Prim.Native.Nat.{ℕ}
use mathlib.Core.Path.{◌≡◌, refl, sym, ◌∙◌}
use mathlib.Core.List.{List}
use lib.IntN.{ℤ, pos, nat_abs}
use lib.ListN.{length}
use lib.Signed.{pos-nat_abs}
use Rattle.definitions.specs.declared.Numbers.{Numbers}
use Rattle.definitions.specs.declared.Basis.{Basis}
use Rattle.definitions.specs.declared.Split.{Split}
use Rattle.definitions.specs.declared.Answer.{Answer}
use Rattle.definitions.specs.declared.Answer.TheVariants.{Inherited}
use Rattle.definitions.specs.declared.Refusal.{Refusal}
use Rattle.definitions.specs.Replies.{MacroblockReply}
use Rattle.std.specs.Prelude.{Ok as Answered, Err as Declined}
use Rattle.definitions.specs.Geometry.{axes_of, full_size}
use Rattle.definitions.specs.Record.{record_words, narrow}
use Rattle.definitions.specs.Calls.{macroblock_call}
use Rattle.definitions.specs.Examples.{whole_case, whole_record}
use Rattle.definitions.specs.Cases.{blank}
use Rattle.definitions.proofs.Demand.{demand3, call-accepted, case-answered, AskedAt, asked-at}
use Rattle.definitions.proofs.Cases.{cases}
use Rattle.upsample.specs.Promised.{SinglyPromised}
use Rattle.upsample.proofs.Within.{within-natural}

-- where a call answers, its column and row are those of the picture
module _ (limit : ℕ) (n : Numbers) (base : List ℤ) (column row : ℤ) (words : List ℤ) (answer : Answer) (e : (macroblock_call limit n base column row words).reply ≡ Answered answer) where
  asked : AskedAt n column row words
  asked = asked-at limit n base column row words (call-accepted limit n base column row words answer e)

  natural-column : pos (nat_abs column) ≡ column
  natural-column = pos-nat_abs column (within-natural (full_size (axes_of n).horizontal) column asked.column-within)

  natural-row : pos (nat_abs row) ≡ row
  natural-row = pos-nat_abs row (within-natural (full_size (axes_of n).vertical) row asked.row_within)

pub singly-promised : (limit : ℕ) (n : Numbers) (base : List ℤ) (column row : ℤ) (words : List ℤ) (reply : MacroblockReply) (out : List ℤ)
    → reply ≡ (macroblock_call limit n base column row words).reply → out ≡ (macroblock_call limit n base column row words).words → SinglyPromised limit n base column row words reply out
singly-promised limit n base column row words (Answered answer) out r w =
    let c = natural-column limit n base column row words answer (sym r) in
    let d = natural-row limit n base column row words answer (sym r) in
    let e : macroblock_call limit n base (pos (nat_abs column)) (pos (nat_abs row)) words ≡ macroblock_call limit n base column row words = λ i. macroblock_call limit n base (c i) (d i) words in
    (demand3 limit).singly n (nat_abs column) (nat_abs row) words base answer out (e ∙ (λ i. record { reply = sym r i; words = sym w i }))
singly-promised limit n base column row words (Declined r) out e w = case-answered limit n column row base words r (sym e)

-- a call's reply and words with the promise of them: the contract's three parts
pub singly-kept : (limit : ℕ) (n : Numbers) (base : List ℤ) (column row : ℤ) (words : List ℤ) (reply : MacroblockReply) (out : List ℤ)
    → reply ≡ (macroblock_call limit n base column row words).reply → out ≡ (macroblock_call limit n base column row words).words
    → (reply ≡ (macroblock_call limit n base column row words).reply) × ((out ≡ (macroblock_call limit n base column row words).words) × SinglyPromised limit n base column row words reply out)
singly-kept limit n base column row words reply out r w = (r, (w, singly-promised limit n base column row words reply out r w))

-- The promise alone shuts refusals out: in document 01's whole case none keeps it.
pub whole-answered : (r : Refusal) (out : List ℤ) → SinglyPromised narrow whole_case whole_record (pos 0) (pos 0) (blank 1) (Declined r) out → ⊥
whole-answered r out promised = promised cases.inherited.singly-case

-- nor beside the window, whatever the base holds
pub outside-answered : (base : List ℤ) → length base ≡ record_words → (r : Refusal) (out : List ℤ) → SinglyPromised narrow whole_case base (pos 2) (pos 0) (blank 1) (Declined r) out → ⊥
outside-answered base l r out promised = promised (cases.others-case base l)

-- Nor can it be met by answering intra or outside everywhere: at the whole case's first macroblock each answer that keeps it is inherited.
pub whole-inherited : (answer : Answer) (out : List ℤ) → SinglyPromised narrow whole_case whole_record (pos 0) (pos 0) (blank 1) (Answered answer) out
    → (b : Basis) × (s : Split) × (answer ≡ Inherited b s)
whole-inherited answer out promised =
    let there = (demand3 narrow).singly whole_case 0 0 (blank 1) whole_record _ _ cases.inherited.singly in
    promised.inherited.1 (there.inherited.0 (_, _, refl))
