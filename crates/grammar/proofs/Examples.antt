-- The examples of a text (specs/Examples of crate definitions): refusal 9's place, by one statement over the table, and the Whole case from its text to its log. The machine
-- computes each. And what the number reader's contract says of 123.
use Prim.Native.Nat.{ℕ, ◌+◌}
use mathlib.Core.Path.{◌≡◌, refl, sym, ap, subst}
use mathlib.Core.Bool.{Bool, true, false, not, ◌&&◌, cond, false≢true}
use mathlib.Core.List.{List, [], ◌∷◌}
use native.Mathlib.Omega.{arith}
use lib.Dec.{ltb, leb}
use lib.IntN.{ℤ, pos}
use lib.ListN.{length}
use borrow.Author.Tests.{ltb-true, ltb-false, leb-true}
use Rattle.definitions.specs.Basics.{all_of}
use Rattle.definitions.specs.Text.{none, each, digits, Number, unsigned, text_bytes, read_as, broken, read}
use Rattle.definitions.specs.Log.{log_for, LogOf}
use Rattle.definitions.specs.Examples.{whole_case, whole_entries, whole_text, noted_text, whole_log, whole-holds, Broken, broken_texts, PlacesRight}
use Rattle.definitions.proofs.Choices.{both_true}
use Rattle.std.specs.Prelude.{Ok as Value, Err as Bad}
use Rattle.grammar.specs.Readers.{byte_class_of, part, Stands, Any, NumAt}
use Rattle.grammar.proofs.Machine.{Cfg, dead, live, step, step_k, δ, runs, state_at, Alive, Waiting}
use Rattle.grammar.proofs.Runs.{ends-text-as}
use Rattle.grammar.proofs.Reading.{one_end, read-or-bad}
use Rattle.grammar.proofs.Alone.{one_number}
use Rattle.grammar.proofs.Places.{Ended, waiting-alive, ended-breaks}

abbrev is_dead : Cfg → Bool
is_dead dead = true
is_dead (live g k) = false

abbrev is_waiting : Cfg → Bool
is_waiting dead = false
is_waiting (live g []) = false
is_waiting (live g (y ∷ k)) = true

-- the machine ends at p
abbrev ends_at : List ℕ → ℕ → Bool
ends_at s p = cond (ltb p (length s)) (not (is_dead (state_at s p)) && is_dead (state_at s (p + 1))) (leb p (length s) && is_waiting (state_at s p))

dead-is : (c : Cfg) → is_dead c ≡ true → c ≡ dead
dead-is dead e = refl
dead-is (live g k) e = cc

alive-is : (c : Cfg) → not (is_dead c) ≡ true → Alive c
alive-is dead e = false≢true e
alive-is (live g k) e = tt

waiting-is : (c : Cfg) → is_waiting c ≡ true → Waiting c
waiting-is dead e = false≢true e
waiting-is (live g []) e = false≢true e
waiting-is (live g (y ∷ k)) e = tt

ended_by :
    (s : List ℕ) (p : ℕ) (t : Bool) → ltb p (length s) ≡ t
    → cond t (not (is_dead (state_at s p)) && is_dead (state_at s (p + 1))) (leb p (length s) && is_waiting (state_at s p)) ≡ true → Ended s p
ended_by s p true e h =
    let l = ltb-true p (length s) e in
    let both = both_true (not (is_dead (state_at s p))) (is_dead (state_at s (p + 1))) h in
    record { within = omega arith; alive = alive-is (state_at s p) both.0; stuck = λ q. dead-is (state_at s (p + 1)) both.1; asks = λ q. absurd (omega arith) }
ended_by s p false e h =
    let l = ltb-false p (length s) e in
    let both = both_true (leb p (length s)) (is_waiting (state_at s p)) h in
    let w = waiting-is (state_at s p) both.1 in
    record { within = leb-true p (length s) both.0; alive = waiting-alive (state_at s p) w; stuck = λ q. absurd (omega arith); asks = λ q. w }

-- a text that has bytes, and not too many
abbrev fits : List ℕ → Bool
fits t = ltb 0 (length t) && leb (length t) text_bytes

all_right : (rs : List Broken) → all_of (λ r. fits r.text && ends_at r.text r.place) rs ≡ true → PlacesRight rs
unfolding all_of
all_right [] h = tt
all_right (r ∷ rs) h =
    let both = both_true (fits r.text && ends_at r.text r.place) (all_of (λ r. fits r.text && ends_at r.text r.place) rs) h in
    let ended = both_true (fits r.text) (ends_at r.text r.place) both.0 in
    let lengths = both_true (ltb 0 (length r.text)) (leb (length r.text) text_bytes) ended.0 in
    (broken (ltb-true _ _ lengths.0) (leb-true _ _ lengths.1) (ended-breaks r.text r.place (ended_by r.text r.place _ refl ended.1)), all_right rs both.1)

pub places-right : PlacesRight broken_texts
unfolding all_of state_at runs step step_k δ byte_class_of
places-right = all_right broken_texts refl

-- Whole case of document 01, from the text to the log
pub whole-log : LogOf whole_text whole_log
unfolding runs step step_k δ byte_class_of
whole-log =
    record {
      reading = read_as whole_case whole_entries;
      reads = read (leb-true _ _ refl) (ends-text-as whole_case whole_entries refl) (leb-true _ _ refl);
      is = sym (ap log_for whole-holds);
    }

-- and with notes before, between and after its lines
pub noted-log : LogOf noted_text whole_log
unfolding runs step step_k δ byte_class_of
noted-log =
    record {
      reading = read_as whole_case whole_entries;
      reads = read (leb-true _ _ refl) (ends-text-as whole_case whole_entries refl) (leb-true _ _ refl);
      is = sym (ap log_for whole-holds);
    }

-- of 123 at byte 0 the number reader's contract allows one answer
abbrev digits123 : List ℕ
digits123 = 49 ∷ 50 ∷ 51 ∷ []

number123 : Number (pos 123) (part digits123 0 3)
unfolding part
number123 =
    unsigned {n = 123} (omega arith) (digits {c = 49} (omega arith) (omega arith) (each {c = 50} (omega arith, omega arith) (each {c = 51} (omega arith, omega arith) none)))

stands123 : Stands (Any Number) digits123 0 3
stands123 = record { is = (pos 123, number123); stops = record { up = omega arith; within = omega arith; no-further = λ m b. omega arith } }

pub reads-123 : (z : ℤ) (e : ℕ) → NumAt Number digits123 0 (Value (z, e)) → (z ≡ pos 123) × (e ≡ 3)
reads-123 z e h =
    let q : e ≡ 3 = one_end (Any Number) digits123 0 e 3 (record { is = (z, h.0); stops = h.1 }) stands123 in
    (one_number (part digits123 0 3) z (pos 123) (subst (λ (e : ℕ). Number z (part digits123 0 e)) q h.0) number123, q)

pub no-break-123 : (p : ℕ) → NumAt Number digits123 0 (Bad p) → ⊥
no-break-123 p h = read-or-bad (Any Number) digits123 0 3 p stands123 h
