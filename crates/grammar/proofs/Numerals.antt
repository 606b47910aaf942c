-- The readers of numbers: digits, a number, a number after its minus, and a number with the byte that closes it.
use Prim.Native.Nat.{ℕ, zero, suc, ◌≤◌, ◌<◌, ◌+◌, ◌*◌, ◌-◌}
use mathlib.Core.Path.{◌≡◌, refl, sym, ◌∙◌, ap, subst}
use mathlib.Core.Bool.{Bool, true, false}
use mathlib.Core.Logic.{◌⊎◌, ⊎_elim}
use mathlib.Core.List.{List, [], ◌∷◌, ◌++◌, append_assoc, head-eq_of_cons-eq as heads, tail-eq_of_cons-eq as tails}
use native.Mathlib.Omega.{arith}
use lib.IntN.{ℤ, pos}
use lib.ListN.{length, get_or, length-append}
use Rattle.definitions.specs.Basics.{minus}
use Rattle.definitions.specs.Text.{Digit, All, none, each, valued, Plain, digits, Number, unsigned, negative, nothing, is_spaced, is_ended}
use Rattle.grammar.specs.declared.ByteClass.{ByteClass}
use Rattle.grammar.specs.declared.ByteClass.TheVariants.{Zero, Nonzero, Dash}
use Rattle.grammar.specs.Found.{Num, Got}
use Rattle.std.specs.Prelude.{Ok as At, Ok as Value, Err as Bad}
use Rattle.grammar.specs.Readers.{byte_class_of, part, Stops, Stands, Breaks, ReadAt, Any, DigitsAt, NumAt, AfterMinus, FieldOf, Exactly}
use Rattle.grammar.proofs.Cats.{Cat, no-cons}
use Rattle.grammar.proofs.Bytes.{class-in, class-zero, class-nonzero, class-dash}
use Rattle.grammar.proofs.Residue.{Figures}
use Rattle.grammar.proofs.Forward.{plain-none, plain-cons, number-none, valued-grows, all_head, all_tail}
use Rattle.grammar.proofs.Live.{zero_number, one_plain}
use Rattle.grammar.proofs.Pieces.{lt-or-le, part_none, part-first, part-next}
use Rattle.grammar.proofs.Reading.{bad-here, stops-after, breaks-after, stops_as, breaks-as, read_as, read-after, Separate, breaks-first, then-stands, then-breaks}
use Rattle.grammar.proofs.Alone.{number-tall, all-at}

-- the bytes of an arm
pub nonzero-of : (b : ℕ) (c : ByteClass) → c ≡ byte_class_of b → c ≡ Nonzero → (49 ≤ b) × (b ≤ 57)
nonzero-of b c e n = class-in b (sym e ∙ n)

pub zero_of : (b : ℕ) (c : ByteClass) → c ≡ byte_class_of b → c ≡ Zero → b ≡ 48
zero_of b c e n = class-in b (sym e ∙ n)

pub dash-of : (b : ℕ) (c : ByteClass) → c ≡ byte_class_of b → c ≡ Dash → b ≡ 45
dash-of b c e n = class-in b (sym e ∙ n)

pub digit-of : (b : ℕ) (c : ByteClass) → c ≡ byte_class_of b → (c ≡ Zero) ⊎ (c ≡ Nonzero) → Digit b
digit-of b c e h =
    ⊎_elim (λ (z : c ≡ Zero). let k = zero_of b c e z in omega arith)
    (λ (n : c ≡ Nonzero). let k = nonzero-of b c e n in omega arith)
    h

digit-class : (b : ℕ) → Digit b → (C : ByteClass → Type 0) → C Zero → C Nonzero → C (byte_class_of b)
digit-class b h C z n =
    ⊎_elim (λ (q : b < 49). subst C (sym (class-zero b (let k : 48 ≤ b = h.0 in omega arith))) z)
    (λ (q : 49 ≤ b). subst C (sym (class-nonzero b q h.1)) n)
    (lt-or-le b 49)

pub no_digit : (b : ℕ) (c : ByteClass) → c ≡ byte_class_of b → (c ≡ Zero → ⊥) → (c ≡ Nonzero → ⊥) → Digit b → ⊥
no_digit b c e z n d = digit-class b d (λ (k : ByteClass). c ≡ k → ⊥) z n e

-- ---- digits
pub all_more : {P : ℕ → Type 0} (t : List ℕ) (c : ℕ) → All P t → P c → All P (t ++ (c ∷ []))
all_more [] c h p = each p none
all_more (b ∷ t) c h p = each (all_head h) (all_more t c (all_tail h) p)

valued-append : (a : ℕ) (t u : List ℕ) → valued a (t ++ u) ≡ valued (valued a t) u
valued-append a [] u = refl
valued-append a (c ∷ t) u = valued-append (10 * a + (c - 48)) t u

-- digits up to p, worth n
pub record DigitsSoFar (s : List ℕ) (i a top n p : ℕ) : Type 0 where
  pub up : i ≤ p
  pub within : p ≤ length s
  pub all : All Digit (part s i p)
  pub worth : n ≡ valued a (part s i p)
  pub most : n ≤ top

pub digits-first : (s : List ℕ) (i a top : ℕ) → i ≤ length s → a ≤ top → DigitsSoFar s i a top a i
digits-first s i a top l m =
    let e = part_none s i i (omega arith) in
    record { up = omega arith; within = l; all = rw e none; worth = rw e refl; most = m }

pub digits_more :
    (s : List ℕ) (i a top n p : ℕ) → DigitsSoFar s i a top n p → p < length s → Digit (get_or s p 0) → 10 * n + (get_or s p 0 - 48) ≤ top
    → DigitsSoFar s i a top (10 * n + (get_or s p 0 - 48)) (p + 1)
digits_more s i a top n p h l d m =
    let u : i ≤ p = h.up in
    let e = part-next s i p u l in
    record {
      up = omega arith;
      within = omega arith;
      all = subst (All Digit) (sym e) (all_more (part s i p) (get_or s p 0) h.all d);
      worth = ap (λ (n : ℕ). 10 * n + (get_or s p 0 - 48)) h.worth ∙ sym (valued-append a (part s i p) (get_or s p 0 ∷ [])) ∙ ap (valued a) (sym e);
      most = m;
    }

pub digits-end :
    (s : List ℕ) (i a top n p : ℕ) → DigitsSoFar s i a top n p → (p < length s → Digit (get_or s p 0) → top < 10 * n + (get_or s p 0 - 48)) → DigitsAt s i a top n p
digits-end s i a top n p h f = record { up = h.up; within = h.within; all = h.all; worth = h.worth; most = h.most; full = f }

-- no number goes on after all its digits
digits-stop :
    (s : List ℕ) (i a top n e : ℕ) → DigitsAt s i a top n e → e < length s → (m : ℕ) (rest : List ℕ) → m ≤ top → Figures a m (part s i (e + 1) ++ rest) → ⊥
digits-stop s i a top n e h l m rest q f =
    let b = get_or s e 0 in
    let t = part s i e in
    let j : part s i (e + 1) ++ rest ≡ t ++ (b ∷ rest) = ap (λ (w : List ℕ). w ++ rest) (part-next s i e h.up l) ∙ append_assoc t (b ∷ []) rest in
    let d : Digit b = all-at t b rest (subst (All Digit) j f.all) in
    let v : valued (10 * n + (b - 48)) rest ≡ m = ap (λ (n : ℕ). valued (10 * n + (b - 48)) rest) h.worth ∙ sym (valued-append a t (b ∷ rest)) ∙ ap (valued a) (sym j) ∙ f.worth in
    omega (arith, h.full l d, valued-grows (10 * n + (b - 48)) rest)

-- ---- a number
pub number-cons :
    {z : ℤ} {b : ℕ} {u : List ℕ} {C : Type 0} → Number z (b ∷ u) → (b ≡ 48 → u ≡ [] → C)
    → ((m : ℕ) → 49 ≤ b → b ≤ 57 → m ≤ 32767 → Figures (b - 48) m u → C) → (b ≡ 45 → C) → C
number-cons {z} {b} {u} {C} h f g k = by-text h refl
  where
    by-text : {z : ℤ} {t : List ℕ} → Number z t → t ≡ b ∷ u → C
    by-text (unsigned {n = n} l p) e = plain-cons (subst (Plain n) e p) (λ q r s. f q s) (λ q r s. g n q r l s)
    by-text (negative l p) e = k (sym (heads e))

minus-cons :
    {z : ℤ} {b : ℕ} {u : List ℕ} {C : Type 0} → Number z (45 ∷ b ∷ u) → ((m : ℕ) → 49 ≤ b → b ≤ 57 → m ≤ 32768 → Figures (b - 48) m u → C) → C
minus-cons {z} {b} {u} {C} h g = by-text h refl
  where
    by-text : {z : ℤ} {t : List ℕ} → Number z t → t ≡ 45 ∷ b ∷ u → C
    by-text (unsigned {n = n} l p) e = plain-cons (subst (Plain n) e p) (λ q r s. absurd (omega arith)) (λ q r s. absurd (omega arith))
    by-text (negative {n = n} l p) e = plain-cons (subst (Plain (suc n)) (tails e) p) (λ q r s. absurd (omega arith)) (λ q r s. g (suc n) q r (omega arith) s)

minus-none : {z : ℤ} → Number z (45 ∷ []) → ⊥
minus-none h = by-text h refl
  where
    by-text : {z : ℤ} {t : List ℕ} → Number z t → t ≡ 45 ∷ [] → ⊥
    by-text (unsigned {n = n} l p) e = plain-cons (subst (Plain n) e p) (λ q r s. omega arith) (λ q r s. omega arith)
    by-text (negative {n = n} l p) e = plain-none (subst (Plain (suc n)) (tails e) p)

minus_number : (n : ℕ) {t : List ℕ} → 1 ≤ n → n ≤ 32768 → Plain n t → Number (minus n) (45 ∷ t)
minus_number zero l m p = absurd (omega arith)
minus_number (suc n) l m p = negative {n = n} (omega arith) p

digits-plain : (s : List ℕ) (i b top n e : ℕ) → 49 ≤ b → b ≤ 57 → DigitsAt s i (b - 48) top n e → Plain n (b ∷ part s i e)
digits-plain s i b top n e l m h = subst (λ (n : ℕ). Plain n (b ∷ part s i e)) (sym h.worth) (digits l m h.all)

module _ (s : List ℕ) (i : ℕ) (l : i < length s) where
  pub number-zero : get_or s i 0 ≡ 48 → NumAt Number s i (Value (pos 0, i + 1))
  number-zero b = (
    subst (Number (pos 0)) (sym (part-first s i (i + 1) (omega arith) l ∙ (cc (b, part_none s (i + 1) (i + 1) (omega arith))))) zero_number,
    stops-after (Any Number) s i l (i + 1)
        (record {
          up = omega arith;
          within = omega arith;
          no-further = λ m h.
              let f = part-first s (i + 1) (i + 1 + 1) (omega arith) m in
              number-cons h.is.1 (λ q r. no-cons (sym (ap (λ (w : List ℕ). w ++ h.rest) (sym f) ∙ r))) (λ m q r v w. omega arith) (λ q. omega arith);
        }),
  )

  module _ (low : 49 ≤ get_or s i 0) (high : get_or s i 0 ≤ 57) where
    pub number_digits : (n e : ℕ) → DigitsAt s (i + 1) (get_or s i 0 - 48) 32767 n e → NumAt Number s i (Value (pos n, e))
    number_digits n e h =
        let u : i + 1 ≤ e = h.up in (
          subst (Number (pos n)) (sym (part-first s i e (omega arith) l)) (unsigned h.most (digits-plain s (i + 1) (get_or s i 0) 32767 n e low high h)),
          stops-after (Any Number) s i l e
              (record {
                up = h.up;
                within = h.within;
                no-further = λ m k.
                    number-cons k.is.1 (λ q r. omega arith) (λ j q r v w. digits-stop s (i + 1) (get_or s i 0 - 48) 32767 n e h m j k.rest v w) (λ q. omega arith);
              }),
        )

    pub minus-digits : (n e : ℕ) → DigitsAt s (i + 1) (get_or s i 0 - 48) 32768 n e → NumAt AfterMinus s i (Value (minus n, e))
    minus-digits n e h =
        let u : i + 1 ≤ e = h.up in
        let v = valued-grows (get_or s i 0 - 48) (part s (i + 1) e) in
        let w = h.worth in (
          subst (λ (t : List ℕ). Number (minus n) (45 ∷ t)) (sym (part-first s i e (omega arith) l)) (minus_number n (omega arith) h.most (digits-plain s (i + 1) (get_or s i 0) 32768 n e low high h)),
          stops-after (Any AfterMinus) s i l e
              (record {
                up = h.up;
                within = h.within;
                no-further = λ m k. minus-cons k.is.1 (λ j q r v w. digits-stop s (i + 1) (get_or s i 0 - 48) 32768 n e h m j k.rest v w);
              }),
        )

  pub number-minus : get_or s i 0 ≡ 45 → (r : Num) → NumAt AfterMinus s (i + 1) r → NumAt Number s i r
  number-minus b (Value (z, e)) h =
      let u : i + 1 ≤ e = h.1.up in (
        subst (Number z) (sym (part-first s i e (omega arith) l ∙ ap (λ (x : ℕ). x ∷ part s (i + 1) e) b)) h.0,
        stops-after (Any Number) s i l e (subst (λ (x : ℕ). Stops (λ w. Any Number (x ∷ w)) s (i + 1) e) (sym b) h.1),
      )
  number-minus b (Bad p) h =
      breaks-after (Any Number) s i l (λ x. number-none x.1) p (subst (λ (x : ℕ). Breaks (λ w. Any Number (x ∷ w)) s (i + 1) p) (sym b) h)

number-class : {z : ℤ} {b : ℕ} {u : List ℕ} → Number z (b ∷ u) → (C : ByteClass → Type 0) → C Zero → C Nonzero → C Dash → C (byte_class_of b)
number-class {b = b} h C z n d =
    number-cons h (λ q r. subst C (sym (class-zero b q)) z) (λ m q r v w. subst C (sym (class-nonzero b q r)) n) (λ q. subst C (sym (class-dash b q)) d)

module _ (s : List ℕ) (i : ℕ) (l : i ≤ length s) where
  number-breaks : ((u : List ℕ) → i < length s → Any Number (get_or s i 0 ∷ u) → ⊥) → Breaks (Any Number) s i i
  number-breaks = bad-here (Any Number) s i l (λ x. number-none x.1) (record { rest = 48 ∷ []; is = (pos 0, zero_number) })

  minus-breaks : ((u : List ℕ) → i < length s → Any AfterMinus (get_or s i 0 ∷ u) → ⊥) → Breaks (Any AfterMinus) s i i
  minus-breaks = bad-here (Any AfterMinus) s i l (λ x. minus-none x.1) (record { rest = 49 ∷ []; is = (minus 1, minus_number 1 (omega arith) (omega arith) one_plain) })

  pub number-ends : length s ≤ i → Breaks (Any Number) s i i
  number-ends e = number-breaks (λ u m h. omega arith)

  pub minus-ends : length s ≤ i → Breaks (Any AfterMinus) s i i
  minus-ends e = minus-breaks (λ u m h. omega arith)

  module _ (c : ByteClass) (e : c ≡ byte_class_of (get_or s i 0)) where
    pub number-bad : (c ≡ Zero → ⊥) → (c ≡ Nonzero → ⊥) → (c ≡ Dash → ⊥) → Breaks (Any Number) s i i
    number-bad z n d = number-breaks (λ u m h. number-class h.1 (λ (k : ByteClass). c ≡ k → ⊥) z n d e)

    pub minus-bad : (c ≡ Nonzero → ⊥) → Breaks (Any AfterMinus) s i i
    minus-bad n = minus-breaks (λ u m h. minus-cons h.1 (λ j q r v w. n (e ∙ class-nonzero (get_or s i 0) q r)))

-- ---- these bytes
exactly-alone : (w l : List ℕ) (c : ℕ) (y : List ℕ) → l ≡ w → l ++ (c ∷ y) ≡ w → ⊥
exactly-alone w l c y p q = omega (arith, simp length-append at (ap length q), ap length p)

pub exactly-separate : (w : List ℕ) (Q : List ℕ → Type 0) → Separate (Exactly w) Q
exactly-separate w Q = record { apart = λ l c y r p q k. exactly-alone w l c y p q }

module _ (s : List ℕ) (i : ℕ) where
  pub exactly-none : i ≤ length s → Stands (Exactly []) s i i
  exactly-none l =
      record {
        is = part_none s i i (omega arith);
        stops = record { up = omega arith; within = l; no-further = λ m h. no-cons (sym (ap (λ (w : List ℕ). w ++ h.rest) (sym (part-first s i (i + 1) (omega arith) m)) ∙ h.is)) };
      }

  pub exactly-more : (c : ℕ) (w : List ℕ) → i < length s → get_or s i 0 ≡ c → (r : Got) → ReadAt (Exactly w) s (i + 1) r → ReadAt (Exactly (c ∷ w)) s i r
  exactly-more c w l b r h =
      read-after (Exactly (c ∷ w)) s i l (λ e. no-cons e) r
      (read_as (Exactly w) (λ (u : List ℕ). get_or s i 0 ∷ u ≡ c ∷ w) s (i + 1) (λ u e. (cc (e, b))) (λ u e. tails e) r h)

  pub exactly-bad : (c : ℕ) (w : List ℕ) → i ≤ length s → (i < length s → get_or s i 0 ≡ c → ⊥) → Breaks (Exactly (c ∷ w)) s i i
  exactly-bad c w l n = bad-here (Exactly (c ∷ w)) s i l (λ e. no-cons e) (record { rest = c ∷ w; is = refl }) (λ u m e. n m (heads e))

-- ---- a number, and the byte that closes it
abbrev pub closer : Bool → ℕ
closer true = 41
closer false = 32

abbrev Closed : Bool → List ℕ → Type 0
Closed last = Cat (Any Number) (Exactly (closer last ∷ []))

field_of : (last : Bool) (z : ℤ) (t : List ℕ) → Number z t → FieldOf last z (t ++ (closer last ∷ []))
field_of true z t h = is_ended h nothing
field_of false z t h = is_spaced h nothing

closed-field : (last : Bool) (w : List ℕ) → Closed last w → Any (FieldOf last) w
closed-field last w h =
    (h.is.0, subst (FieldOf last h.is.0) (sym (h.cut ∙ ap (λ (u : List ℕ). h.left ++ u) h.then)) (field_of last h.is.0 h.left h.is.1))

field-closed : (last : Bool) (w : List ℕ) → Any (FieldOf last) w → Closed last w
field-closed true w (z, is_ended {w = t} n nothing) = record { left = t; right = 41 ∷ []; is = (z, n); then = refl; cut = refl }
field-closed false w (z, is_spaced {w = t} n nothing) = record { left = t; right = 32 ∷ []; is = (z, n); then = refl; cut = refl }

closer-low : (last : Bool) → closer last ≤ 41
closer-low true = omega arith
closer-low false = omega arith

number-separate : (last : Bool) → Separate (Any Number) (Exactly (closer last ∷ []))
number-separate last =
    record {
      apart = λ l c y r p q k.
          let a : 42 ≤ c = all-at l c y (number-tall q.1) in
          let b : c ≡ closer last = heads k in
          omega (arith, closer-low last);
    }

module _ (s : List ℕ) (i : ℕ) (last : Bool) where
  pub field-bad : (p : ℕ) → Breaks (Any Number) s i p → NumAt (FieldOf last) s i (Bad p)
  field-bad p h =
      breaks-as (Closed last) (Any (FieldOf last)) s i (closed-field last) (field-closed last) p
      (breaks-first (Any Number) (Exactly (closer last ∷ [])) s i (record { rest = closer last ∷ []; is = refl }) p h)

  module _ (z : ℤ) (e : ℕ) (h : NumAt Number s i (Value (z, e))) where
    stands : Stands (Any Number) s i e
    stands = record { is = (z, h.0); stops = h.1 }

    pub field_open : (e < length s → get_or s e 0 ≡ closer last → ⊥) → NumAt (FieldOf last) s i (Bad e)
    field_open n =
        breaks-as (Closed last) (Any (FieldOf last)) s i (closed-field last) (field-closed last) e
        (then-breaks (Any Number) (Exactly (closer last ∷ [])) s i (number-separate last) e stands e (exactly-bad s e (closer last) [] h.1.within n))

    pub field-read : e < length s → get_or s e 0 ≡ closer last → NumAt (FieldOf last) s i (Value (z, e + 1))
    field-read l b =
        let m : e + 1 ≤ length s = omega arith in
        let k = then-stands (Any Number) (Exactly (closer last ∷ [])) s i (number-separate last) e stands (e + 1) (exactly-more s e (closer last) [] l b (At (e + 1)) (exactly-none s (e + 1) m)) in (
          subst (FieldOf last z) (sym (part-next s i e h.1.up l ∙ ap (λ (x : ℕ). part s i e ++ (x ∷ [])) b)) (field_of last z (part s i e) h.0),
          stops_as (Closed last) (Any (FieldOf last)) s i (closed-field last) (field-closed last) (e + 1) k.stops,
        )
