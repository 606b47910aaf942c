-- The text call has one answer: the tests exclude each other, refusal 9 has one place, and a text one reading. Hence demand 2's first half (specs/Text).
use Prim.Native.Nat.{ℕ, ◌*◌, ◌<◌}
use mathlib.Core.Path.{◌≡◌, refl, ap, subst, ◌∙◌}
use mathlib.Core.List.{List, ◌∷◌, ◌++◌}
use native.Mathlib.Omega.{arith}
use lib.IntN.{ℤ}
use lib.ListN.{length, drop, length-append}
use Rattle.definitions.specs.declared.Numbers.{Numbers}
use Rattle.definitions.specs.declared.Refusal.{Refusal}
use Rattle.definitions.specs.declared.TextRead.{TextRead}
use Rattle.definitions.specs.Replies.{TextReply, NoPicture, Read}
use Rattle.std.specs.Prelude.{Err as Refused}
use Rattle.definitions.specs.Record.{record_words}
use Rattle.definitions.specs.Text.{Kind, Entry, Heads, head, is_byte, Text, Belongs, base_of, Reading, empty, not_read, read_as, Reads, no_bytes, too_long, broken, too_many, read, TextAnswer, wrong_words, no_picture, refused, given, BelongsAs, Demand2Text}
use Rattle.definitions.proofs.Texts.{one_place}
use Rattle.grammar.proofs.Runs.{one-reading}

pub record Same (r s : TextReply) (v w : List ℤ) : Type 0 where
  pub reply : r ≡ s
  pub words : v ≡ w

pub belongs : {t : List ℕ} (n : Numbers) (es : List Entry) → Text n es t → Belongs t
belongs n es h = record { numbers = n; entries = es; text = h }

-- a text of the grammar has bytes: its first line, behind notes
line-bytes : {k : Kind} {ks : List Kind} {vs : List ℤ} {top : List ℕ} → Heads (k ∷ ks) vs top → 0 < length top
line-bytes (head {n = n} {u = u} notes (is_byte {t = l} f) rest) = omega (arith, length-append n ((40 ∷ l) ++ u))

pub has-bytes : {t : List ℕ} {n : Numbers} {es : List Entry} → Text n es t → 0 < length t
has-bytes x = let h = line-bytes x.heads in omega (arith, h, ap length x.parts, length-append x.top x.bottom)

-- a text is read in one way
pub reads-once : {t : List ℕ} {u v : Reading} → Reads t u → Reads t v → u ≡ v
reads-once (no_bytes l) (no_bytes m) = refl
reads-once (no_bytes l) (too_long m) = absurd (omega arith)
reads-once (no_bytes l) (broken p m b) = absurd (omega arith)
reads-once (no_bytes l) (too_many m x k) = absurd (omega (arith, l, has-bytes x))
reads-once (no_bytes l) (read m x k) = absurd (omega (arith, l, has-bytes x))
reads-once (too_long l) (no_bytes m) = absurd (omega arith)
reads-once (broken p l b) (no_bytes m) = absurd (omega arith)
reads-once (too_many l x k) (no_bytes m) = absurd (omega (arith, m, has-bytes x))
reads-once (read l x k) (no_bytes m) = absurd (omega (arith, m, has-bytes x))
reads-once (too_long l) (too_long m) = refl
reads-once (too_long l) (broken p m b) = absurd (omega arith)
reads-once (too_long l) (too_many m x k) = absurd (omega arith)
reads-once (too_long l) (read m x k) = absurd (omega arith)
reads-once (broken p l b) (too_long m) = absurd (omega arith)
reads-once {t} (broken {place = p} i l b) (broken {place = q} j m c) = ap (λ (p : ℕ). not_read (record { number = 9; place = p; rule = 0 })) (one_place t p q b c)
reads-once (broken p l b) (too_many {n = n} {entries = es} m x k) = absurd (b.breaks (belongs n es x))
reads-once (broken p l b) (read {n = n} {entries = es} m x k) = absurd (b.breaks (belongs n es x))
reads-once (too_many l x k) (too_long m) = absurd (omega arith)
reads-once (too_many {n = n} {entries = es} l x k) (broken p m b) = absurd (b.breaks (belongs n es x))
reads-once (too_many l x k) (too_many m y i) = refl
reads-once (too_many l x k) (read m y i) = let s = one-reading x y in absurd (omega (arith, ap length s.1))
reads-once (read l x k) (too_long m) = absurd (omega arith)
reads-once (read {n = n} {entries = es} l x k) (broken p m b) = absurd (b.breaks (belongs n es x))
reads-once (read l x k) (too_many m y i) = let s = one-reading x y in absurd (omega (arith, ap length s.1))
reads-once (read l x k) (read m y i) =
    let s = one-reading x y in
    let a = s.0 in
    let b = s.1 in
    λ (j : 𝕀). read_as (a j) (b j)

-- so the call has one answer
pub one_answer : {t : List ℕ} {words : List ℤ} {r s : TextReply} {v w : List ℤ} → TextAnswer t words r v → TextAnswer t words s w → Same r s v w
one_answer (wrong_words n) (wrong_words m) = record { reply = refl; words = refl }
one_answer (wrong_words n) (no_picture e x) = absurd (n e)
one_answer (no_picture e x) (wrong_words n) = absurd (n e)
one_answer (no_picture e x) (no_picture f y) = record { reply = refl; words = refl }
one_answer (no_picture e x) (refused {r = r} f y) = absurd (let z : empty ≡ not_read r = reads-once x y in let w : ◌≡◌ {A = ℕ} 0 1 = cc in omega arith)
one_answer (no_picture e x) (given {n = n} {entries = es} f y) = absurd (let z : empty ≡ read_as n es = reads-once x y in let w : ◌≡◌ {A = ℕ} 0 1 = cc in omega arith)
one_answer (refused {r = r} e x) (no_picture f y) = absurd (let z : empty ≡ not_read r = reads-once y x in let w : ◌≡◌ {A = ℕ} 0 1 = cc in omega arith)
one_answer (given {n = n} {entries = es} e x) (no_picture f y) = absurd (let z : empty ≡ read_as n es = reads-once y x in let w : ◌≡◌ {A = ℕ} 0 1 = cc in omega arith)
one_answer (wrong_words n) (refused e x) = absurd (n e)
one_answer (wrong_words n) (given e x) = absurd (n e)
one_answer (refused e x) (wrong_words n) = absurd (n e)
one_answer (refused {r = r} e x) (refused {r = s} f y) =
    let z : not_read r ≡ not_read s = reads-once x y in
    let q : r ≡ s = cc in
    record { reply = ap Refused q; words = refl }
one_answer (refused {r = r} e x) (given {n = n} {entries = es} f y) = absurd (let z : not_read r ≡ read_as n es = reads-once x y in let w : ◌≡◌ {A = ℕ} 0 1 = cc in omega arith)
one_answer (given e x) (wrong_words n) = absurd (n e)
one_answer (given {n = n} {entries = es} e x) (refused {r = r} f y) = absurd (let z : not_read r ≡ read_as n es = reads-once y x in let w : ◌≡◌ {A = ℕ} 0 1 = cc in omega arith)
one_answer {words = words} (given {n = n} {entries = es} e x) (given {n = m} {entries = fs} f y) =
    let z : read_as n es ≡ read_as m fs = reads-once x y in
    let a : n ≡ m = cc in
    let b : es ≡ fs = cc in
    record {
      reply = (λ (j : 𝕀). Read (record { numbers = a j; lines = length (b j) }));
      words = ap (λ (l : List Entry). base_of l ++ drop (record_words * length l) words) b;
    }

no_read : {A : Type 0} {r : Refusal} {u : TextRead} → Refused r ≡ Read u → A
no_read e = absurd (let z : ◌≡◌ {A = ℕ} 0 1 = cc in omega arith)

same_read : {u v : TextRead} → Read u ≡ Read v → u ≡ v
same_read e = cc

-- what a reading says of its text
abbrev pub Had : List ℕ → Reading → Type 0
Had t empty = length t ≡ 0
Had t (not_read r) = r.number ≡ 9 → 0 < length t
Had t (read_as n entries) = BelongsAs t (record { numbers = n; lines = length entries })

pub had : {t : List ℕ} {v : Reading} → Reads t v → Had t v
had (no_bytes l) = l
had (too_long l) = λ e. omega arith
had (broken p l b) = λ e. p
had (too_many l x k) = λ e. has-bytes x
had (read {entries = es} l x k) = record { entries = es; text = x; lines = refl; bytes-kept = l; records-kept = k }

read_as_lem : {t : List ℕ} {words new : List ℤ} {reply : TextReply} {u : TextRead} → TextAnswer t words reply new → reply ≡ Read u → BelongsAs t u
read_as_lem (wrong_words n) h = no_read h
read_as_lem (no_picture e x) h = absurd (let z : ◌≡◌ {A = ℕ} 0 1 = cc in omega arith)
read_as_lem (refused e x) h = no_read h
read_as_lem {t} (given e x) h = subst (BelongsAs t) (same_read h) (had x)

empty-as : {t : List ℕ} {words new : List ℤ} {reply : TextReply} → TextAnswer t words reply new → reply ≡ NoPicture → length t ≡ 0
empty-as (wrong_words n) h = absurd (let z : ◌≡◌ {A = ℕ} 0 1 = cc in omega arith)
empty-as (no_picture e x) h = had x
empty-as (refused e x) h = absurd (let z : ◌≡◌ {A = ℕ} 0 1 = cc in omega arith)
empty-as (given e x) h = absurd (let z : ◌≡◌ {A = ℕ} 0 1 = cc in omega arith)

same-refusal : {r s : Refusal} → ◌≡◌ {A = TextReply} (Refused r) (Refused s) → r ≡ s
same-refusal e = cc

nine-as : {t : List ℕ} {words new : List ℤ} {reply : TextReply} {r : Refusal} → TextAnswer t words reply new → reply ≡ Refused r → r.number ≡ 9 → 0 < length t
nine-as (wrong_words n) h e = let six : ◌≡◌ {A = ℕ} 6 9 = ap (λ (s : Refusal). s.number) (same-refusal h) ∙ e in absurd (omega (arith, six))
nine-as (no_picture f x) h e = absurd (let z : ◌≡◌ {A = ℕ} 0 1 = cc in omega arith)
nine-as (refused f x) h e = had x (ap (λ (s : Refusal). s.number) (same-refusal h) ∙ e)
nine-as (given f x) h e = absurd (let z : ◌≡◌ {A = ℕ} 0 1 = cc in omega arith)

-- demand 2, the first half
pub demand2-text : Demand2Text
demand2-text t words reply new e a =
    record {
      then-read = λ n entries x l k. let s = one_answer a (given e (read l x k)) in (s.reply, s.words);
      read-then = λ u h. read_as_lem a h;
      then-empty = λ l. let s = one_answer a (no_picture e (no_bytes l)) in (s.reply, s.words);
      empty-then = λ h. empty-as a h;
      nine = λ r h n. nine-as a h n;
    }
