-- The tests of lengths and of the count of lines, the reply of a text that was read whole, and whose words are stored; and demand 2 of every answer.
use Prim.Native.Nat.{ℕ, zero, suc, ◌≤◌, ◌<◌, ◌*◌}
use mathlib.Core.Path.{◌≡◌, refl}
use mathlib.Core.Bool.{Bool, true, false, not}
use lib.Dec.{leb, eqb}
use borrow.Author.Tests.{leb-true, eqb-true}
use mathlib.Core.List.{List}
use native.Mathlib.Omega.{arith}
use lib.IntN.{ℤ}
use lib.ListN.{length}
use Rattle.definitions.specs.declared.Numbers.{Numbers}
use Rattle.definitions.specs.declared.Refusal.{Refusal}
use Rattle.definitions.specs.Basics.{pick}
use Rattle.definitions.specs.Replies.{Verdict, Accepted, TextReply, Read}
use Rattle.std.proofs.lemmas.Bool.{leb-false, eqb-false}
use Rattle.std.specs.Prelude.{Ok, Err as Refused}
use Rattle.definitions.specs.Record.{record_words}
use Rattle.definitions.specs.Refusals.{refusal}
use Rattle.definitions.specs.Text.{text_bytes, text_records, too_many, read, TextAnswer, refused, given, ReadExactly}
use Rattle.grammar.specs.Readers.{TextIs}
use Rattle.grammar.proofs.OneLog.{demand2}

pub some_bytes : (n : ℕ) → (n ≡ 0 → ⊥) → 0 < n
some_bytes zero d = absurd (d refl)
some_bytes (suc n) d = omega arith

-- ---- what `unless` hands back says of its test
module _ (r : Refusal) where
  test-failed : (b : Bool) {q : Refusal} → ◌≡◌ {A = Verdict} (Refused q) (pick (not b) (Refused r) Accepted) → (b ≡ false) × (q ≡ r)
  unfolding pick
  test-failed true e = absurd (let z : ◌≡◌ {A = ℕ} 0 1 = cc in omega arith)
  test-failed false e = (refl, cc)

  test-held : (b : Bool) {u : Unit {0}} → ◌≡◌ {A = Verdict} (Ok u) (pick (not b) (Refused r) Accepted) → b ≡ true
  unfolding pick
  test-held true e = refl
  test-held false e = absurd (let z : ◌≡◌ {A = ℕ} 0 1 = cc in omega arith)

  module _ (n m : ℕ) where
    pub not-equal : {q : Refusal} → ◌≡◌ {A = Verdict} (Refused q) (pick (not (eqb n m)) (Refused r) Accepted) → (n ≡ m → ⊥) × (q ≡ r)
    not-equal e = let k = test-failed (eqb n m) e in (eqb-false n m k.0, k.1)

    pub too-large : {q : Refusal} → ◌≡◌ {A = Verdict} (Refused q) (pick (not (leb n m)) (Refused r) Accepted) → (m < n) × (q ≡ r)
    too-large e = let k = test-failed (leb n m) e in (leb-false n m k.0, k.1)

    pub are-equal : {u : Unit {0}} → ◌≡◌ {A = Verdict} (Ok u) (pick (not (eqb n m)) (Refused r) Accepted) → n ≡ m
    are-equal e = eqb-true n m (test-held (eqb n m) e)

    pub at-most : {u : Unit {0}} → ◌≡◌ {A = Verdict} (Ok u) (pick (not (leb n m)) (Refused r) Accepted) → n ≤ m
    at-most e = leb-true n m (test-held (leb n m) e)

-- an answer with demand 2 of it: the contract's two parts
pub answered :
    {t : List ℕ} {words new : List ℤ} {reply : TextReply} → TextAnswer t words reply new
    → TextAnswer t words reply new × (length words ≡ record_words * text_records → ReadExactly t words reply new)
answered a = (a, λ e. demand2.text _ _ _ _ e a)

module _
    (t : List ℕ)
    (words new : List ℤ)
    (n : Numbers)
    (count : ℕ)
    (e : length words ≡ record_words * text_records)
    (l : length t ≤ text_bytes)
    (j : TextIs t words new n count) where
  pub too_many_lem : text_records < count → TextAnswer t words (Refused (refusal 10)) new
  too_many_lem h =
      let m = j.many in
      rw (j.words.1 (omega arith)) (refused e (too_many l j.text (omega arith)))

  pub text-read : count ≤ text_records → TextAnswer t words (Read (record { numbers = n; lines = count })) new
  text-read h =
      let m = j.many in
      rw (j.many, j.words.0 (omega arith)) (given e (read l j.text (omega arith)))
