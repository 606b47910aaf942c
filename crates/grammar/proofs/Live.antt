-- Each symbol leaves something to come, and never nothing; and a step keeps the digits read so far within their limit.
use Prim.Native.Nat.{ℕ, zero, suc, ◌≤◌, ◌-◌}
use mathlib.Core.Path.{◌≡◌, refl}
use mathlib.Core.Bool.{Bool, true, false, cond}
use mathlib.Core.Logic.{inl, inr}
use mathlib.Core.List.{List, [], ◌∷◌, ◌++◌, tail-eq_of_cons-eq as tails}
use native.Mathlib.Omega.{arith}
use lib.IntN.{ℤ, pos, negsuc}
use lib.Dec.{leb, eqb}
use borrow.Author.Tests.{leb-true}
use Rattle.grammar.specs.declared.ByteClass.{ByteClass}
use Rattle.grammar.specs.declared.ByteClass.TheVariants.{Alpha, Zero, Nonzero, Dash, Open, Close, Space, Other}
use Rattle.definitions.specs.Text.{Letter, none, word, Plain, zero_alone, digits, Number, unsigned, close, is_word, Item, Note, note, Notes, more, Part, byte, spaced, ended, is_byte, Kind, intra_line, whole_line, mb_line, letter, tail_of, LineOf, kind_of}
use Rattle.grammar.specs.Readers.{byte_class_of}
use Rattle.grammar.proofs.Machine.{Follow, gap, shut, in_list, Sym, lit, first, letters, rest, field, dashed, zeroed, figures, line, opened, entry, Ev, num, Delta, halt, go, emit, limit, with_minus, choose, shuts, gaps, grow, opens, note_tail, syms, δ}
use Rattle.grammar.proofs.Cats.{Cat, no-cons}
use Rattle.grammar.proofs.Bytes.{class-in}
use Rattle.grammar.proofs.Forward.{rest-none, item-none, plain-none, number-none}
use Rattle.grammar.proofs.Backward.{Sound, seq-form, formed-line}
use Rattle.grammar.proofs.Residue.{Lang, Fol, Line, L, Seq}

pub record Some (B : Lang) : Type 0 where
  pub numbers : List Ev
  pub text : List ℕ
  pub is : B numbers text

pub zero_number : Number (pos 0) (48 ∷ [])
zero_number = unsigned {n = 0} (omega arith) zero_alone

a-letter : Letter 97
a-letter = omega arith

pub one_plain : Plain 1 (49 ∷ [])
one_plain = digits {c = 49} (omega arith) (omega arith) none

fol-some : (B : Lang) → Some B → (f : Follow) (z : ℤ) → Some (Fol f z B)
fol-some B h gap z =
    record {
      numbers = num z ∷ h.numbers;
      text = 32 ∷ h.text;
      is = record { more = h.text; is = refl; then = record { others = h.numbers; is = refl; then = h.is } };
    }
fol-some B h shut z =
    record {
      numbers = num z ∷ h.numbers;
      text = 41 ∷ h.text;
      is = record { more = h.text; is = refl; then = record { others = h.numbers; is = refl; then = h.is } };
    }
fol-some B h (in_list d) z = record { numbers = h.numbers; text = 41 ∷ h.text; is = record { left = 41 ∷ []; right = h.text; is = close; then = h.is; cut = refl } }

parts-some : (ps : List Part) (B : Lang) → Some B → Some (Seq (syms ps) B)
parts-some [] B h = h
parts-some (byte c ∷ ps) B h =
    let k = parts-some ps B h in
    record { numbers = k.numbers; text = c ∷ k.text; is = record { more = k.text; is = refl; then = k.is } }
parts-some (spaced ∷ ps) B h =
    let k = fol-some (Seq (syms ps) B) (parts-some ps B h) gap (pos 0) in
    record { numbers = k.numbers; text = 48 ∷ k.text; is = (pos 0, record { left = 48 ∷ []; right = k.text; is = zero_number; then = k.is; cut = refl }) }
parts-some (ended ∷ ps) B h =
    let k = fol-some (Seq (syms ps) B) (parts-some ps B h) shut (pos 0) in
    record { numbers = k.numbers; text = 48 ∷ k.text; is = (pos 0, record { left = 48 ∷ []; right = k.text; is = zero_number; then = k.is; cut = refl }) }

pub a_word : (d : ℕ) → Item d (97 ∷ [])
a_word zero = is_word (word a-letter none)
a_word (suc d) = inl (is_word (word a-letter none))

inhabit : (s : Sym) → Sound s → (B : Lang) → Some B → Some (L s B)
inhabit (lit c) ok B h = record { numbers = h.numbers; text = c ∷ h.text; is = record { more = h.text; is = refl; then = h.is } }
inhabit (first d) ok B h =
    let k = fol-some B h (in_list d) (pos 0) in
    record { numbers = k.numbers; text = 97 ∷ k.text; is = record { left = 97 ∷ []; right = k.text; is = a_word d; then = k.is; cut = refl } }
inhabit (letters d) ok B h =
    let k = fol-some B h (in_list d) (pos 0) in
    record { numbers = k.numbers; text = k.text; is = record { left = []; right = k.text; is = none; then = k.is; cut = refl } }
inhabit (rest d) ok B h = fol-some B h (in_list d) (pos 0)
inhabit (field f) ok B h =
    let k = fol-some B h f (pos 0) in
    record { numbers = k.numbers; text = 48 ∷ k.text; is = (pos 0, record { left = 48 ∷ []; right = k.text; is = zero_number; then = k.is; cut = refl }) }
inhabit (dashed f) ok B h =
    let k = fol-some B h f (negsuc 0) in
    record { numbers = k.numbers; text = 49 ∷ k.text; is = (0, omega arith, record { left = 49 ∷ []; right = k.text; is = one_plain; then = k.is; cut = refl }) }
inhabit (zeroed f) ok B h = fol-some B h f (pos 0)
inhabit (figures sg a f) ok B h =
    let k = fol-some B h f (with_minus sg a) in
    record {
      numbers = k.numbers;
      text = k.text;
      is = (a, ok, record { left = []; right = k.text; is = record { all = none; worth = refl }; then = k.is; cut = refl });
    }
inhabit (line k) ok B h =
    let n = parts-some (tail_of k) B h in
    record { numbers = n.numbers; text = 40 ∷ letter k ∷ n.text; is = formed-line refl (seq-form (tail_of k) B n.numbers n.text n.is) }
inhabit (opened k) ok B h =
    let n = parts-some (tail_of k) B h in
    record { numbers = n.numbers; text = letter k ∷ n.text; is = formed-line refl (seq-form (tail_of k) B n.numbers n.text n.is) }
inhabit entry ok B h =
    record {
      numbers = h.numbers;
      text = 110 ∷ 111 ∷ 116 ∷ 101 ∷ 41 ∷ 10 ∷ h.text;
      is = inl (record { left = 40 ∷ 110 ∷ 111 ∷ 116 ∷ 101 ∷ 41 ∷ 10 ∷ []; right = h.text; is = note close; then = h.is; cut = refl });
    }

abbrev pub Sounds : List Sym → Type 0
Sounds [] = Unit {0}
Sounds (s ∷ k) = Sound s × Sounds k

pub seq-some : (k : List Sym) → Sounds k → (B : Lang) → Some B → Some (Seq k B)
seq-some [] ok B h = h
seq-some (s ∷ k) ok B h = inhabit s ok.0 (Seq k B) (seq-some k ok.1 B h)

cat-none : {P B : List ℕ → Type 0} → Cat P B [] → (P [] → B [] → ⊥) → ⊥
cat-none {P} {B} h f = by_left h.left h.is h.cut
  where
    by_left : (w : List ℕ) → P w → [] ≡ w ++ h.right → ⊥
    by_left [] p e = f p (rw (← e) at h.then)
    by_left (c ∷ w) p e = no-cons e

fol-none : (f : Follow) (z : ℤ) (B : Lang) (ws : List Ev) → Fol f z B ws [] → ⊥
fol-none gap z B ws h = no-cons h.is
fol-none shut z B ws h = no-cons h.is
fol-none (in_list d) z B ws h = cat-none h (λ p q. rest-none p)

line-none : {k : Kind} {B : Lang} {ws : List Ev} → Line k B ws [] → ⊥
line-none {k} h = by-notes h.notes h.cut
  where
    by_form : {vs : List ℤ} {t : List ℕ} → LineOf k vs t → [] ≡ t ++ h.after → ⊥
    by_form (is_byte f) e = no-cons e

    by-note : {t : List ℕ} (u : List ℕ) → Note t → [] ≡ (t ++ u) ++ (h.here ++ h.after) → ⊥
    by-note u (note r) e = no-cons e

    by-notes : {t : List ℕ} → Notes t → [] ≡ t ++ (h.here ++ h.after) → ⊥
    by-notes none e = by_form h.this e
    by-notes (more {u = u} n ns) e = by-note u n e

line-one : {k : Kind} {B : Lang} {ws : List Ev} → Line k B ws (40 ∷ []) → ⊥
line-one {k} h = by-notes h.notes h.cut
  where
    by_form : {vs : List ℤ} {t : List ℕ} → LineOf k vs t → 40 ∷ [] ≡ t ++ h.after → ⊥
    by_form (is_byte (is_byte f)) e = no-cons (tails e)

    by-note : {t : List ℕ} (u : List ℕ) → Note t → 40 ∷ [] ≡ (t ++ u) ++ (h.here ++ h.after) → ⊥
    by-note u (note r) e = no-cons (tails e)

    by-notes : {t : List ℕ} → Notes t → 40 ∷ [] ≡ t ++ (h.here ++ h.after) → ⊥
    by-notes none e = by_form h.this e
    by-notes (more {u = u} n ns) e = by-note u n e

pub not_none : (s : Sym) (B : Lang) (ws : List Ev) → L s B ws [] → ⊥
not_none (lit c) B ws h = no-cons h.is
not_none (first d) B ws h = cat-none h (λ p q. item-none d p)
not_none (letters d) B ws h = cat-none h (λ p q. cat-none q (λ p q. rest-none p))
not_none (rest d) B ws h = cat-none h (λ p q. rest-none p)
not_none (field f) B ws h = cat-none h.1 (λ p q. number-none p)
not_none (dashed f) B ws h = cat-none h.2 (λ p q. plain-none p)
not_none (zeroed f) B ws h = fol-none f (pos 0) B ws h
not_none (figures sg a f) B ws h = cat-none h.2 (λ p q. fol-none f (with_minus sg h.0) B ws q)
not_none (line k) B ws h = line-none h
not_none (opened k) B ws h = line-one h
not_none entry B ws (inl h) = by-note h.is h.cut
  where
    by-note : {t : List ℕ} → Note t → 40 ∷ [] ≡ t ++ h.right → ⊥
    by-note (note r) e = no-cons (tails e)
not_none entry B ws (inr h) = by_form h.this h.cut
  where
    by_form : {vs : List ℤ} {t : List ℕ} → LineOf (kind_of h.kind) vs t → 40 ∷ [] ≡ t ++ h.after → ⊥
    by_form (is_byte (is_byte f)) e = no-cons (tails e)

pub data SoundD : Delta → Type 0 where
  at-halt : SoundD halt
  at-go : {k : List Sym} → Sounds k → SoundD (go k)
  at-emit : {z : Ev} {k : List Sym} → Sounds k → SoundD (emit z k)

one : (s : Sym) → Sound s → SoundD (go (s ∷ []))
one s h = at-go {k = s ∷ []} (h, tt)

choose-all :
    (b : ℕ) {p q r s o c g : Delta} (k : ByteClass) → byte_class_of b ≡ k → SoundD p → SoundD q → (49 ≤ b → b ≤ 57 → SoundD r) → SoundD s → SoundD o → SoundD c
    → SoundD g → SoundD (choose k p q r s o c g)
choose-all b Alpha e p q r s o c g = p
choose-all b Zero e p q r s o c g = q
choose-all b Nonzero e p q r s o c g = let k = class-in b e in r k.0 k.1
choose-all b Dash e p q r s o c g = s
choose-all b Open e p q r s o c g = o
choose-all b Close e p q r s o c g = c
choose-all b Space e p q r s o c g = g
choose-all b Other e p q r s o c g = at-halt

pick_all : (t : Bool) {x y : Delta} → (t ≡ true → SoundD x) → SoundD y → SoundD (cond t x y)
pick_all true f g = f refl
pick_all false f g = g

parts-sound : (ps : List Part) → Sounds (syms ps)
parts-sound [] = tt
parts-sound (byte c ∷ ps) = (tt, parts-sound ps)
parts-sound (spaced ∷ ps) = (tt, parts-sound ps)
parts-sound (ended ∷ ps) = (tt, parts-sound ps)

opens-sound : (d : ℕ) → SoundD (opens d)
opens-sound zero = at-halt
opens-sound (suc d) = at-go {k = first d ∷ rest (suc d) ∷ []} (tt, (tt, tt))

shuts-sound : (f : Follow) (z : ℤ) → SoundD (shuts f z)
shuts-sound gap z = at-halt
shuts-sound shut z = at-emit tt
shuts-sound (in_list d) z = at-go tt

gaps-sound : (f : Follow) (z : ℤ) → SoundD (gaps f z)
gaps-sound gap z = at-emit tt
gaps-sound shut z = at-halt
gaps-sound (in_list d) z = at-go {k = first d ∷ []} (tt, tt)

grow-sound : (sg : Bool) (a : ℕ) (f : Follow) → SoundD (grow sg a f)
grow-sound sg a f = pick_all (leb a (limit sg)) (λ e. one (figures sg a f) (leb-true _ _ e)) at-halt

pub sound-step : (s : Sym) (b : ℕ) → SoundD (δ s b)
unfolding δ
sound-step (lit c) b = pick_all (eqb b c) (λ e. at-go tt) at-halt
sound-step (first d) b =
    choose-all b (byte_class_of b) refl (one (letters d) tt) (one (zeroed (in_list d)) tt) (λ l m. one (figures false (b - 48) (in_list d)) (omega arith)) (one (dashed (in_list d)) tt) (opens-sound d) at-halt at-halt
sound-step (letters d) b = choose-all b (byte_class_of b) refl (one (letters d) tt) at-halt (λ l m. at-halt) at-halt at-halt (at-go tt) (one (first d) tt)
sound-step (rest d) b = choose-all b (byte_class_of b) refl at-halt at-halt (λ l m. at-halt) at-halt at-halt (at-go tt) (one (first d) tt)
sound-step (field f) b =
    choose-all b (byte_class_of b) refl at-halt (one (zeroed f) tt) (λ l m. one (figures false (b - 48) f) (omega arith)) (one (dashed f) tt) at-halt at-halt at-halt
sound-step (dashed f) b = choose-all b (byte_class_of b) refl at-halt at-halt (λ l m. one (figures true (b - 48) f) (omega arith)) at-halt at-halt at-halt at-halt
sound-step (zeroed f) b = choose-all b (byte_class_of b) refl at-halt at-halt (λ l m. at-halt) at-halt at-halt (shuts-sound f _) (gaps-sound f _)
sound-step (figures sg a f) b = choose-all b (byte_class_of b) refl at-halt (grow-sound sg _ f) (λ l m. grow-sound sg _ f) at-halt at-halt (shuts-sound f _) (gaps-sound f _)
sound-step (line k) b = pick_all (eqb b 40) (λ e. one (opened k) tt) at-halt
sound-step (opened k) b =
    pick_all (eqb b 110) (λ e. at-go {k = note_tail (line k ∷ [])} (tt, (tt, (tt, (tt, (tt, (tt, tt))))))) (pick_all (eqb b (letter k)) (λ e. at-go (parts-sound (tail_of k))) at-halt)
sound-step entry b =
    pick_all (eqb b 110) (λ e. at-go {k = note_tail []} (tt, (tt, (tt, (tt, (tt, tt))))))
    (pick_all (eqb b 105) (λ e. at-emit (parts-sound (tail_of intra_line)))
    (pick_all (eqb b 119) (λ e. at-emit (parts-sound (tail_of whole_line)))
    (pick_all (eqb b 109) (λ e. at-emit (parts-sound (tail_of mb_line))) at-halt)))
