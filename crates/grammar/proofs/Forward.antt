-- If a text that may come after a symbol begins with b, then what is left of it may come after the step by b.
use Prim.Native.Nat.{ℕ, zero, suc, ◌≤◌, ◌+◌, ◌*◌, ◌-◌}
use mathlib.Core.Path.{◌≡◌, refl, sym, ◌∙◌, ap}
use mathlib.Core.Bool.{Bool, false}
use mathlib.Core.Logic.{◌⊎◌, inl, inr, ⊎_elim, ⊎_map}
use mathlib.Core.List.{List, [], ◌∷◌, ◌++◌, append_assoc, head-eq_of_cons-eq as heads, tail-eq_of_cons-eq as tails}
use native.Mathlib.Nat.{eq-or-lt_of_le}
use native.Mathlib.Omega.{arith}
use lib.IntN.{ℤ, pos}
use lib.Dec.{eqb}
use borrow.Author.Tests.{le-leb, eq-eqb, ne_eqb}
use Rattle.definitions.specs.Text.{All, none, each, Word, word, valued, Plain, zero_alone, digits, Number, unsigned, negative, Rest, close, item, Listed, listed, Simple, is_word, is_number, Item, Note, note, Notes, more, Part, Form, nothing, is_byte, is_spaced, is_ended, Kind, base_line, scaled_line, at_line, full_line, intra_line, whole_line, mb_line, letter, tail_of, RecordKind, intra, whole, mb, kind_of}
use Rattle.grammar.specs.Readers.{byte_class_of}
use Rattle.grammar.proofs.Machine.{Follow, gap, shut, in_list, Sym, lit, first, letters, rest, field, dashed, zeroed, figures, line, opened, entry, Ev, rec, Delta, go, limit, with_minus, choose, shuts, gaps, grow, syms, δ, nums}
use Rattle.grammar.proofs.Cats.{Cat, cat-cons, cat-either, cat-empty, cat-with, cat-right, no-cons}
use Rattle.grammar.proofs.Bytes.{class-alpha, class-nonzero, class-zero, class-dash, class-open, class-close, class-space}
use Rattle.grammar.proofs.Residue.{Lang, Lit, Gives, Fol, Figures, Line, RecLine, EntryOf, L, Seq, Next}

-- the first byte of the rest of a list
pub rest-none : {P : List ℕ → Type 0} → Rest P [] → ⊥
rest-none {P} h = by-text h refl
  where
    by-text : {t : List ℕ} → Rest P t → [] ≡ t → ⊥
    by-text close e = no-cons e
    by-text (item p r) e = no-cons e

pub rest-cons : {P : List ℕ → Type 0} {C : Type 0} {b : ℕ} {u : List ℕ} → Rest P (b ∷ u) → (b ≡ 41 → u ≡ [] → C) → (b ≡ 32 → Cat P (Rest P) u → C) → C
rest-cons {P} {C} {b} {u} h f g = by-text h refl
  where
    by-text : {t : List ℕ} → Rest P t → b ∷ u ≡ t → C
    by-text close e = f (heads e) (tails e)
    by-text (item {w = w} {t = t} p r) e = g (heads e) (record { left = w; right = t; is = p; then = r; cut = tails e })

rest-split : {P B : List ℕ → Type 0} {C : Type 0} {b : ℕ} {u : List ℕ} → Cat (Rest P) B (b ∷ u) → (b ≡ 41 → B u → C) → (b ≡ 32 → Cat P (Cat (Rest P) B) u → C) → C
rest-split h f g =
    let k = cat-cons rest-none h in
    rest-cons k.is (λ e n. f e (cat-empty k n)) (λ e n. g e (cat-right (cat-with k n)))

pub all_head : {P : ℕ → Type 0} {b : ℕ} {w : List ℕ} → All P (b ∷ w) → P b
all_head (each p r) = p

pub all_tail : {P : ℕ → Type 0} {b : ℕ} {w : List ℕ} → All P (b ∷ w) → All P w
all_tail (each p r) = r

pub valued-grows : (a : ℕ) (t : List ℕ) → a ≤ valued a t
valued-grows a [] = omega arith
valued-grows a (c ∷ t) = omega (arith, valued-grows (10 * a + (c - 48)) t)

pub plain-none : {n : ℕ} → Plain n [] → ⊥
plain-none h = by-text h refl
  where
    by-text : {n : ℕ} {t : List ℕ} → Plain n t → [] ≡ t → ⊥
    by-text zero_alone e = no-cons e
    by-text (digits l m a) e = no-cons e

pub plain-cons : {n : ℕ} {C : Type 0} {b : ℕ} {u : List ℕ} → Plain n (b ∷ u) → (b ≡ 48 → n ≡ 0 → u ≡ [] → C) → (49 ≤ b → b ≤ 57 → Figures (b - 48) n u → C) → C
plain-cons {n} {C} {b} {u} h f g = by-text h refl refl
  where
    by-text : {m : ℕ} {t : List ℕ} → Plain m t → n ≡ m → b ∷ u ≡ t → C
    by-text zero_alone z e = f (heads e) z (tails e)
    by-text (digits {c = c} {t = t} l m a) z e =
        let h : b ≡ c = heads e in
        g (omega arith) (omega arith) (record { all = rw (tails e) a; worth = rw (tails e, heads e) (sym z) })

pub number-none : {z : ℤ} → Number z [] → ⊥
number-none h = by-text h refl
  where
    by-text : {z : ℤ} {t : List ℕ} → Number z t → [] ≡ t → ⊥
    by-text (unsigned l p) e = plain-none (rw (← e) at p)
    by-text (negative l p) e = no-cons e

pub simple-none : Simple [] → ⊥
simple-none h = by-text h refl
  where
    by_word : {t : List ℕ} → Word t → [] ≡ t → ⊥
    by_word (word c a) e = no-cons e

    by-text : {t : List ℕ} → Simple t → [] ≡ t → ⊥
    by-text (is_word w) e = by_word w e
    by-text (is_number n) e = number-none (rw (← e) at n)

pub item-none : (d : ℕ) → Item d [] → ⊥
item-none zero h = simple-none h
item-none (suc d) (inl h) = simple-none h
item-none (suc d) (inr h) = by-text h refl
  where
    by-text : {t : List ℕ} → Listed (Item d) t → [] ≡ t → ⊥
    by-text (listed p r) e = no-cons e

zero_or : (b : ℕ) → 48 ≤ b → (b ≡ 48) ⊎ (49 ≤ b)
zero_or b h = ⊎_map (λ e. sym e) (λ l. l) (eq-or-lt_of_le h)

module _ (B : Lang) (ws : List Ev) (b : ℕ) (u : List ℕ) where
  -- what follows a number
  fol-forward : (f : Follow) (z : ℤ) (p q r s o : Delta) → Fol f z B ws (b ∷ u) → Next (choose (byte_class_of b) p q r s o (shuts f z) (gaps f z)) B ws u
  fol-forward gap z p q r s o h = rw (class-space b (heads h.is)) (rw (tails h.is) h.then)
  fol-forward shut z p q r s o h = rw (class-close b (heads h.is)) (rw (tails h.is) h.then)
  fol-forward (in_list d) z p q r s o h = rest-split h (λ e n. rw (class-close b e) n) (λ e n. rw (class-space b e) n)

  module _ (w v : List ℕ) (cut : u ≡ w ++ v) where
    same-right : w ≡ [] → u ≡ v
    same-right n = cut ∙ ap (λ (l : List ℕ). l ++ v) n

    number_by :
        (f : Follow) (p o s r : Delta) {z : ℤ} {t : List ℕ} → Number z t → t ≡ b ∷ w → Fol f z B ws v
        → Next (choose (byte_class_of b) p (go (zeroed f ∷ [])) (go (figures false (b - 48) f ∷ [])) (go (dashed f ∷ [])) o s r) B ws u
    number_by f p o s r (unsigned {n = n} le pl) e k =
        plain-cons (rw e at pl)
        (λ b48 n0 nil. rw (class-zero b b48, same-right nil) (rw n0 at k))
        (λ l m g. rw (class-nonzero b l m) (n, le, record { left = w; right = v; is = g; then = k; cut = cut }))
    number_by f p o s r (negative {n = n} {t = t} le pl) e k =
        rw (class-dash b (sym (heads e))) (n, le, record { left = w; right = v; is = rw (tails e) at pl; then = k; cut = cut })

    word-by :
        (d : ℕ) (p o q r s i : Delta) {t : List ℕ} → Word t → t ≡ b ∷ w → Cat (Rest (Item d)) (B ws) v
        → Next (choose (byte_class_of b) (go (letters d ∷ [])) p o q r s i) B ws u
    word-by d p o q r s i (word {c = c} {t = t} l a) e k =
        let h : c ≡ b = heads e in
        rw (class-alpha b (rw h at l)) (record { left = w; right = v; is = rw (tails e) at a; then = k; cut = cut })

    simple-by :
        (d : ℕ) (o s i : Delta) {t : List ℕ} → Simple t → t ≡ b ∷ w → Cat (Rest (Item d)) (B ws) v
        → Next (choose (byte_class_of b) (go (letters d ∷ [])) (go (zeroed (in_list d) ∷ [])) (go (figures false (b - 48) (in_list d) ∷ [])) (go (dashed (in_list d) ∷ [])) o s i) B ws u
    simple-by d o s i (is_word h) e k = word-by d _ _ _ _ _ _ h e k
    simple-by d o s i (is_number h) e k = number_by (in_list d) _ _ _ _ h e k

    item_by : (d : ℕ) → Item d (b ∷ w) → Cat (Rest (Item d)) (B ws) v → Next (δ (first d) b) B ws u
    unfolding δ
    item_by zero h k = simple-by zero _ _ _ h refl k
    item_by (suc d) (inl h) k = simple-by (suc d) _ _ _ h refl k
    item_by (suc d) (inr h) k = list-by h refl
      where
        list-by : {t : List ℕ} → Listed (Item d) t → t ≡ b ∷ w → Next (δ (first (suc d)) b) B ws u
        list-by (listed {w = x} {t = y} i r) e =
            let c : Cat (Cat (Item d) (Rest (Item d))) (Cat (Rest (Item (suc d))) (B ws)) u = record { left = w; right = v; is = record { left = x; right = y; is = i; then = r; cut = sym (tails e) }; then = k; cut = cut } in
            rw (class-open b (sym (heads e))) (cat-right c)

    figures-by : (sg : Bool) (a : ℕ) (f : Follow) (n : ℕ) → n ≤ limit sg → Figures a n (b ∷ w) → Fol f (with_minus sg n) B ws v → Next (δ (figures sg a f) b) B ws u
    unfolding δ
    figures-by sg a f n le h k =
        let dg = all_head h.all in
        let gr = valued-grows (10 * a + (b - 48)) w in
        let wo : valued (10 * a + (b - 48)) w ≡ n = h.worth in
        let ok : 10 * a + (b - 48) ≤ limit sg = omega arith in
        let to : Next (grow sg (10 * a + (b - 48)) f) B ws u = rw (le-leb _ _ ok) (n, le, record { left = w; right = v; is = record { all = all_tail h.all; worth = wo }; then = k; cut = cut }) in
        ⊎_elim (λ e. rw (class-zero b e) to) (λ l. rw (class-nonzero b l dg.1) to) (zero_or b dg.0)

  figures-end : (sg : Bool) (a : ℕ) (f : Follow) (n : ℕ) → valued a [] ≡ n → Fol f (with_minus sg n) B ws (b ∷ u) → Next (δ (figures sg a f) b) B ws u
  unfolding δ
  figures-end sg a f n e h = fol-forward f (with_minus sg a) _ _ _ _ _ (rw e h)

-- a pattern's text, and after it B
pub form-seq :
    {ps : List Part} {vs : List ℤ} {t : List ℕ} → Form ps vs t → (B : Lang) (others : List Ev) (r : List ℕ) → B others r
    → Seq (syms ps) B (nums vs others) (t ++ r)
form-seq nothing B os r h = h
form-seq (is_byte {t = t} f) B os r h = record { more = t ++ r; is = refl; then = form-seq f B os r h }
form-seq (is_spaced {z = z} {w = w} {vs = vs} {t = t} n f) B os r h =
    (z, record { left = w; right = 32 ∷ (t ++ r); is = n; then = record { more = t ++ r; is = refl; then = record { others = nums vs os; is = refl; then = form-seq f B os r h } }; cut = append_assoc w (32 ∷ t) r })
form-seq (is_ended {z = z} {w = w} {vs = vs} {t = t} n f) B os r h =
    (z, record { left = w; right = 41 ∷ (t ++ r); is = n; then = record { more = t ++ r; is = refl; then = record { others = nums vs os; is = refl; then = form-seq f B os r h } }; cut = append_assoc w (41 ∷ t) r })

-- a note, after its bracket and its n
note-open :
    {B : List ℕ → Type 0} {b : ℕ} {u : List ℕ} {C : Type 0} → Cat Note B (40 ∷ b ∷ u)
    → (b ≡ 110 → Lit 111 (Lit 116 (Lit 101 (Cat (Rest (Item 7)) (Lit 10 B)))) u → C) → C
note-open {B} {b} {u} {C} h k = by-note h.is h.cut
  where
    by-note : {t : List ℕ} → Note t → 40 ∷ b ∷ u ≡ t ++ h.right → C
    by-note (note {t = t} r) e =
        k (heads (tails e))
        (record { more = _; is = tails (tails e); then = record { more = _; is = refl; then = record { more = _; is = refl; then = record { left = t; right = 10 ∷ h.right; is = r; then = record { more = h.right; is = refl; then = h.then }; cut = append_assoc t (10 ∷ []) h.right } } } })

pub note-first : {B : List ℕ → Type 0} {b : ℕ} {u : List ℕ} → Cat Note B (b ∷ u) → b ≡ 40
note-first {B} {b} {u} h = by-note h.is h.cut
  where
    by-note : {t : List ℕ} → Note t → b ∷ u ≡ t ++ h.right → b ≡ 40
    by-note (note {t = t} r) e = heads e

-- the first line of a text with a line of this kind
line-cases :
    {k : Kind} {B : Lang} {ws : List Ev} {u : List ℕ} {C : Type 0} → Line k B ws u → (Seq (lit 40 ∷ lit (letter k) ∷ syms (tail_of k)) B ws u → C)
    → (Cat Note (Line k B ws) u → C) → C
line-cases {k} {B} {ws} {u} {C} h f g = by-notes h.notes h.cut
  where
    by-notes : {t : List ℕ} → Notes t → u ≡ t ++ (h.here ++ h.after) → C
    by-notes none e = f (rw (h.gives, e) (form-seq h.this B h.others h.after h.then))
    by-notes (more {t = t} {u = v} n ns) e =
        g (record {
          left =
              t;
          right = v ++ (h.here ++ h.after);
          is = n;
          then = record { before = v; here = h.here; after = h.after; found = h.found; others = h.others; notes = ns; this = h.this; gives = h.gives; then = h.then; cut = refl };
          cut = e
              ∙ append_assoc t v (h.here ++ h.after);
        })

no_note : (k : Kind) → letter k ≡ 110 → ⊥
no_note base_line e = omega arith
no_note scaled_line e = omega arith
no_note at_line e = omega arith
no_note full_line e = omega arith
no_note intra_line e = omega arith
no_note whole_line e = omega arith
no_note mb_line e = omega arith

-- the bytes of a record line after its bracket
rec-cases :
    {B : Lang} {ws : List Ev} {b : ℕ} {u : List ℕ} {C : Type 0} → RecLine B ws (40 ∷ b ∷ u)
    → ((r : RecordKind) → b ≡ letter (kind_of r) → Gives (rec r) (Seq (syms (tail_of (kind_of r))) B) ws u → C) → C
rec-cases {B} {ws} {b} {u} {C} h k =
    let f : Seq (lit 40 ∷ lit (letter (kind_of h.kind)) ∷ syms (tail_of (kind_of h.kind))) B (nums h.found h.others) (40 ∷ b ∷ u) = rw h.cut (form-seq h.this B h.others h.after h.then) in
    let t = tails f.is ∙ f.then.is in
    k h.kind (heads t) (record { others = nums h.found h.others; is = h.gives; then = rw (tails t) f.then.then })

entry-forward : (B : Lang) (ws : List Ev) (b : ℕ) (u : List ℕ) → EntryOf B ws (40 ∷ b ∷ u) → Next (δ entry b) B ws u
unfolding δ
entry-forward B ws b u (inl h) = note-open h (λ e n. rw (eq-eqb b 110 e) n)
entry-forward B ws b u (inr h) = rec-cases h by-rec
  where
    by-rec : (r : RecordKind) → b ≡ letter (kind_of r) → Gives (rec r) (Seq (syms (tail_of (kind_of r))) B) ws u → Next (δ entry b) B ws u
    by-rec intra e g = rw e g
    by-rec whole e g = rw e g
    by-rec mb e g = rw e g

pub forward : (s : Sym) (B : Lang) (ws : List Ev) (b : ℕ) (u : List ℕ) → L s B ws (b ∷ u) → Next (δ s b) B ws u
unfolding δ
forward (lit c) B ws b u h = rw (eq-eqb b c (heads h.is), tails h.is) h.then
forward (first d) B ws b u h =
    let k = cat-cons (item-none d) h in
    item_by B ws b u k.left k.right k.cut d k.is k.then
forward (letters d) B ws b u h =
    cat-either h
    (λ n k. rest-split k (λ e r. rw (class-close b e) r) (λ e r. rw (class-space b e) r))
    (λ k. rw (class-alpha b (all_head k.is)) (cat-with k (all_tail k.is)))
forward (rest d) B ws b u h = rest-split h (λ e r. rw (class-close b e) r) (λ e r. rw (class-space b e) r)
forward (field f) B ws b u h =
    let k = cat-cons number-none h.1 in
    number_by B ws b u k.left k.right k.cut f _ _ _ _ k.is refl k.then
forward (dashed f) B ws b u h =
    let k = cat-cons plain-none h.2 in
    plain-cons k.is (λ e z n. absurd (omega arith))
    (λ l m g. rw (class-nonzero b l m) (suc h.0, omega arith, cat-with k g))
forward (zeroed f) B ws b u h = fol-forward B ws b u f (pos 0) _ _ _ _ _ h
forward (figures sg a f) B ws b u h =
    cat-either h.2
    (λ n k. figures-end B ws b u sg a f h.0 n.worth k)
    (λ k. figures-by B ws b u k.left k.right k.cut sg a f h.0 h.1 k.is k.then)
forward (line k) B ws b u h =
    let e : b ≡ 40 = line-cases h (λ f. heads f.is) note-first in
    rw (eq-eqb b 40 e) (rw e at h)
forward (opened k) B ws b u h =
    line-cases h
    (λ f.
    let t = tails f.is in
    let e : b ≡ letter k = heads (t ∙ f.then.is) in
    let n : eqb b 110 ≡ false = ne_eqb b 110 (λ z. no_note k (sym e ∙ z)) in
    rw (n, eq-eqb b (letter k) e, tails (t ∙ f.then.is)) f.then.then)
    (λ c. note-open c (λ e n. rw (eq-eqb b 110 e) n))
forward entry B ws b u h = entry-forward B ws b u h
