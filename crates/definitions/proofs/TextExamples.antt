-- The examples of texts of specs/Unstarred: written out by the grammar's own rules. Assumes nothing.
use Prim.Native.Nat.{ℕ, zero, suc, ◌*◌, ◌-◌, ◌≤◌}
use mathlib.Core.Path.{◌≡◌, refl, ap, ◌∙◌}
use mathlib.Core.Logic.{inl}
use mathlib.Core.List.{List, [], ◌∷◌}
use native.Mathlib.Omega.{arith}
use lib.IntN.{ℤ, pos}
use lib.ListN.{length}
use Rattle.definitions.specs.Replies.{LogReply}
use Rattle.std.specs.Prelude.{Err as NotWritten}
use Rattle.definitions.specs.declared.Refusal.{Refusal}
use Rattle.definitions.specs.Replies.{TextReply}
use Rattle.std.specs.Prelude.{Err as NotRead}
use Rattle.definitions.specs.Basics.{pick, minus, all_below, up_to}
use Rattle.definitions.specs.Record.{record_words, laid_out, record_at, rule1, rule2, rule3, rule4, rule5, rule6, rule7, first_broken}
use Rattle.definitions.specs.Refusals.{refusal, geometry_tests, record_tests}
use Rattle.definitions.specs.Text.{Digit, none, each, valued, zero_alone, digits, word, Number, unsigned, negative, close, item, is_word, Note, note, Part, Form, nothing, is_byte, is_spaced, is_ended, numbers_then, mb_line, LineOf, Notes, no_head, head, no_record, a_record, Text, text_records, Reading, empty, not_read, read_as, Reads, no_bytes, too_long, broken, too_many, read, TextAnswer, wrong_words, no_picture, refused, given}
use Rattle.definitions.specs.Log.{digits_in, decimal, line_of, no_picture_line, refused_line, program_tests, LogAnswer, too_few, logged}
use Rattle.definitions.specs.Unstarred.{zeros_then, mb_line_text, mb_text, mb_numbers, mb_entries, TextsHold}

-- 0, numbers of two digits, 4 and −2
zero_is : Number (pos 0) (48 ∷ [])
zero_is = unsigned {n = 0} (omega arith) zero_alone

two_digits : (c d : ℕ) → 49 ≤ c → c ≤ 57 → Digit d → valued (c - 48) (d ∷ []) ≤ 32767 → Number (pos (valued (c - 48) (d ∷ []))) (c ∷ d ∷ [])
two_digits c d low high digit n = unsigned n (digits low high (each digit none))

four_is : Number (pos 4) (52 ∷ [])
four_is = unsigned {n = 4} (omega arith) (digits {c = 52} (omega arith) (omega arith) none)

minus-two-is : Number (minus 2) (45 ∷ 50 ∷ [])
minus-two-is = negative {n = 1} (omega arith) (digits {c = 50} (omega arith) (omega arith) none)

abbrev zero_numbers : ℕ → List ℤ → List ℤ
zero_numbers zero vs = pos 0 ∷ vs
zero_numbers (suc n) vs = pos 0 ∷ zero_numbers n vs

zeros-form : (n : ℕ) {ps : List Part} {vs : List ℤ} {t : List ℕ} → Form ps vs t → Form (numbers_then n ps) (zero_numbers n vs) (zeros_then n t)
zeros-form zero f = is_ended zero_is f
zeros-form (suc n) f = is_spaced zero_is (zeros-form n f)

mb-line : LineOf mb_line (pos 0 ∷ zero_numbers 3 (zero_numbers 7 (zero_numbers 63 (zero_numbers 0 [])))) mb_line_text
mb-line =
    is_byte (is_byte (is_byte (is_byte (is_spaced zero_is (is_byte
    (zeros-form 3 (is_byte (is_byte (zeros-form 7 (is_byte (is_byte (zeros-form 63 (is_byte (zeros-form 0 (is_byte nothing)))))))))))))))

mb-text : Text mb_numbers mb_entries mb_text
mb-text =
    let n32 = two_digits 51 50 (omega arith) (omega arith) (omega arith, omega arith) (omega arith) in
    let n16 = two_digits 49 54 (omega arith) (omega arith) (omega arith, omega arith) (omega arith) in
    let n48 = two_digits 52 56 (omega arith) (omega arith) (omega arith, omega arith) (omega arith) in
    let n18 = two_digits 49 56 (omega arith) (omega arith) (omega arith, omega arith) (omega arith) in
    let n64 = two_digits 54 52 (omega arith) (omega arith) (omega arith, omega arith) (omega arith) in
    let n80 = two_digits 56 48 (omega arith) (omega arith) (omega arith, omega arith) (omega arith) in
    record {
      top = _;
      bottom = _;
      heads =
          head Notes.none (is_byte (is_byte (is_byte (is_byte (is_byte (is_byte (is_spaced n32 (is_ended n16 (is_byte nothing)))))))))
          (head Notes.none (is_byte (is_byte (is_byte (is_byte (is_byte (is_byte (is_byte (is_byte (is_spaced n48 (is_ended n18 (is_byte nothing)))))))))))
          (head Notes.none (is_byte (is_byte (is_byte (is_byte (is_spaced four_is (is_ended minus-two-is (is_byte nothing)))))))
          (head Notes.none (is_byte (is_byte (is_byte (is_byte (is_byte (is_byte (is_spaced n64 (is_ended n80 (is_byte nothing))))))))) no_head)));
      lines = a_record (is_byte (is_byte (is_byte (is_byte (is_byte (is_byte (is_byte (zeros-form 0 (is_byte nothing))))))))) (a_record mb-line no_record);
      parts = refl;
    }

long : {t : List ℕ} {r : Reading} → length t ≡ 65537 → Reads t r → r ≡ not_read (refusal 10)
long l (no_bytes h) = absurd (omega arith)
long l (too_long h) = refl
long l (broken p h b) = absurd (omega arith)
long l (too_many h x m) = refl
long l (read h x m) = absurd (omega arith)

never-nine : {v : Reading} {r : Refusal} → Reads [] v → v ≡ not_read r → r.number ≡ 9 → ⊥
never-nine (no_bytes h) q e = let z : ◌≡◌ {A = ℕ} 0 1 = cc in omega arith
never-nine {r = r} (too_long h) q e = absurd (omega (arith, h))
never-nine (broken p h b) q e = omega (arith, p)
never-nine {r = r} (too_many h x m) q e = let same : refusal 10 ≡ r = cc in let ten : ◌≡◌ {A = ℕ} 10 9 = ap (λ (s : Refusal). s.number) same ∙ e in omega (arith, ten)
never-nine (read h x m) q e = let z : ◌≡◌ {A = ℕ} 0 1 = cc in omega arith

no_more : {c : ℕ} {t : List ℕ} → Reads (c ∷ t) empty → ⊥
no_more (no_bytes h) = omega (arith, h)

wrong : {t : List ℕ} {words new : List ℤ} {reply : TextReply} → (length words ≡ record_words * text_records → ⊥) → TextAnswer t words reply new → reply ≡ NotRead (refusal 6)
wrong n (wrong_words m) = refl
wrong n (no_picture e x) = absurd (n e)
wrong n (refused e x) = absurd (n e)
wrong n (given e x) = absurd (n e)

few : {t out new : List ℕ} {reply : LogReply} → length out ≡ 1179678 → LogAnswer t out reply new → (reply ≡ NotWritten (refusal 6)) × (new ≡ out)
few l (too_few h) = (refl, refl)
few l (logged h found) = absurd (omega arith)

letters : Note (40 ∷ 110 ∷ 111 ∷ 116 ∷ 101 ∷ 32 ∷ 97 ∷ 122 ∷ 41 ∷ 10 ∷ [])
letters = note (item (inl (is_word (word {c = 97} (omega arith, omega arith) (each {c = 122} (omega arith, omega arith) none)))) close)

pub texts-hold : TextsHold
unfolding pick all_below up_to laid_out record_at rule1 rule2 rule3 rule4 rule5 rule6 rule7 first_broken geometry_tests record_tests digits_in decimal line_of no_picture_line refused_line program_tests
texts-hold = record {
  mb-text = mb-text;
  mb-log = record { reading = read_as _ _; reads = read (omega arith) mb-text (omega arith); is = refl };
  whole-line = is_byte (is_byte (is_byte (is_byte (is_byte (is_byte (is_byte (is_byte (zeros-form 1 (is_byte (is_byte (zeros-form 3 (is_byte (zeros-form 0 (is_byte nothing))))))))))))));
  note-line = note close;
  most_bytes = λ t place l b. broken (omega arith) (omega arith) b;
  too-many-bytes = λ t r l x. long l x;
  most-lines = λ t n entries l x e. read (omega arith) x (omega arith);
  too-many-lines = λ t n entries l x e. too_many (omega arith) x (omega arith);
  right-words = λ t words r l x. refused (omega arith) x;
  few_words = λ t words new reply l x. wrong (λ e. omega arith) x;
  many-words = λ t words new reply l x. wrong (λ e. omega arith) x;
  words-first = λ t n entries words l x. given (omega arith) x;
  right-bytes = λ t log out found l. logged (omega arith) found;
  few_bytes = λ t out new reply l x. few l x;
  letters = letters;
  no_bytes = no_bytes (omega arith);
  no-bytes-words = λ words l. no_picture (omega arith) (no_bytes (omega arith));
  no-bytes-nine = λ r x e. never-nine x refl e;
  line-feed = λ x. no_more x;
  note-only = λ x. no_more x;
  no-bytes-log = record { reading = empty; reads = no_bytes (omega arith); is = refl };
}
