-- The readers of notes: words, items, lists, the rest of a list, and a note.
use Prim.Native.Nat.{ℕ, zero, suc, ◌≤◌, ◌<◌, ◌+◌, ◌-◌}
use mathlib.Core.Path.{◌≡◌, refl, sym, ◌∙◌, ap, subst}
use mathlib.Core.Logic.{◌⊎◌, ⊎_elim, inl, inr}
use mathlib.Core.List.{List, [], ◌∷◌, ◌++◌, append_assoc, head-eq_of_cons-eq as heads, tail-eq_of_cons-eq as tails}
use native.Mathlib.Omega.{arith}
use native.Mathlib.Numerals.{add-one}
use lib.IntN.{ℤ}
use lib.ListN.{length, get_or, drop}
use lib.Seq.{drop-cons}
use Rattle.definitions.specs.Text.{Letter, All, none, Word, word, Number, Rest, close, item, Listed, listed, Simple, is_word, is_number, Item, Note, note}
use Rattle.grammar.specs.declared.ByteClass.{ByteClass}
use Rattle.grammar.specs.declared.ByteClass.TheVariants.{Alpha, Zero, Nonzero, Dash, Open, Close, Space}
use Rattle.std.specs.Prelude.{Err as Bad, Ok as Value}
use Rattle.grammar.specs.Found.{Got}
use Rattle.grammar.specs.Readers.{byte_class_of, part, Begins, Stands, Breaks, ReadAt, Any, NumAt, Items, NoteTail, Exactly}
use Rattle.grammar.proofs.Machine.{lit, rest}
use Rattle.grammar.proofs.Cats.{Cat, no-cons}
use Rattle.grammar.proofs.Residue.{Lit, Seq}
use Rattle.grammar.proofs.Bytes.{class-in, class-alpha, class-zero, class-nonzero, class-dash, class-open, class-close, class-space}
use Rattle.grammar.proofs.Forward.{rest-none, rest-cons, item-none, number-none, all_head}
use Rattle.grammar.proofs.Backward.{simple-item}
use Rattle.grammar.proofs.Live.{a_word}
use Rattle.grammar.proofs.Pieces.{part_none, part-first, part-next}
use Rattle.grammar.proofs.Reading.{bad-here, stops-after, read-after, read_as, breaks-as, Separate, breaks-first, then-read, stands-as-here, breaks-as-here}
use Rattle.grammar.proofs.Alone.{End, alone, rest-alone, listed-cat, cat-listed, simple-tall, all-at, item-separate}
use Rattle.grammar.proofs.Numerals.{all_more, number-cons, exactly-separate, exactly-more, exactly-bad}

-- ---- letters
pub letter-of : (b : ℕ) (c : ByteClass) → c ≡ byte_class_of b → c ≡ Alpha → Letter b
letter-of b c e n = class-in b (sym e ∙ n)

pub no-letter : (b : ℕ) (c : ByteClass) → c ≡ byte_class_of b → (c ≡ Alpha → ⊥) → Letter b → ⊥
no-letter b c e n l = n (e ∙ class-alpha b l)

module _ (s : List ℕ) (i : ℕ) where
  pub letters-none : All Letter (part s i i)
  letters-none = subst (All Letter) (sym (part_none s i i (omega arith))) none

  module _ (p : ℕ) (u : i ≤ p) (h : All Letter (part s i p)) where
    pub letters-more : p < length s → Letter (get_or s p 0) → All Letter (part s i (p + 1))
    letters-more l d = subst (All Letter) (sym (part-next s i p u l)) (all_more (part s i p) (get_or s p 0) h d)

    pub letters-end : p ≤ length s → (p < length s → Letter (get_or s p 0) → ⊥) → Stands (All Letter) s i p
    letters-end l n =
        record {
          is = h;
          stops = record {
            up = u;
            within = l;
            no-further = λ m b.
                n m
                (all-at (part s i p) (get_or s p 0) b.rest
                (subst (All Letter) (ap (λ (w : List ℕ). w ++ b.rest) (part-next s i p u m) ∙ append_assoc (part s i p) (get_or s p 0 ∷ []) b.rest) b.is));
          };
        }

-- ---- items, by their first byte
listed-first : {P : List ℕ → Type 0} {b : ℕ} {u : List ℕ} → Listed P (b ∷ u) → b ≡ 40
listed-first {P} {b} {u} h = by-text h refl
  where
    by-text : {t : List ℕ} → Listed P t → b ∷ u ≡ t → b ≡ 40
    by-text (listed p r) e = heads e

word-cons : {b : ℕ} {u : List ℕ} → Word (b ∷ u) → Letter b × All Letter u
word-cons {b} {u} h = by-text h refl
  where
    by-text : {t : List ℕ} → Word t → t ≡ b ∷ u → Letter b × All Letter u
    by-text (word {c = c} l a) e = let k : c ≡ b = heads e in (subst Letter k l, subst (All Letter) (tails e) a)

module _ (b : ℕ) (u : List ℕ) {C : Type 0} (f : Letter b → All Letter u → C) (g : Any Number (b ∷ u) → C) where
  by-simple : Simple (b ∷ u) → C
  by-simple (is_word h) = let w = word-cons h in f w.0 w.1
  by-simple (is_number {z = z} h) = g (z, h)

  item-cons : (d : ℕ) → Item d (b ∷ u) → (b ≡ 40 → C) → C
  item-cons zero h k = by-simple h
  item-cons (suc d) (inl h) k = by-simple h
  item-cons (suc d) (inr h) k = k (listed-first h)

number-bounds : {z : ℤ} {b : ℕ} {u : List ℕ} → Number z (b ∷ u) → (45 ≤ b) × (b ≤ 57)
number-bounds h = number-cons h (λ q r. omega arith) (λ m q r v w. omega arith) (λ q. omega arith)

item-class :
    (d b : ℕ) (u : List ℕ) → Item d (b ∷ u) → (C : ByteClass → Type 0) → C Alpha → C Zero → C Nonzero → C Dash → C Open → C (byte_class_of b)
item-class d b u h C a z n m o =
    item-cons b u (λ l r. subst C (sym (class-alpha b l)) a)
    (λ k. number-cons k.1 (λ q r. subst C (sym (class-zero b q)) z) (λ j q r v w. subst C (sym (class-nonzero b q r)) n) (λ q. subst C (sym (class-dash b q)) m)) d h
    (λ q. subst C (sym (class-open b q)) o)

pub item-some : (d : ℕ) → Begins (Item d) []
item-some d = record { rest = 97 ∷ []; is = a_word d }

module _ (s : List ℕ) (i d : ℕ) (l : i ≤ length s) where
  item-breaks : ((u : List ℕ) → i < length s → Item d (get_or s i 0 ∷ u) → ⊥) → Breaks (Item d) s i i
  item-breaks = bad-here (Item d) s i l (item-none d) (item-some d)

  pub item-ends : length s ≤ i → Breaks (Item d) s i i
  item-ends e = item-breaks (λ u m h. omega arith)

  module _ (c : ByteClass) (e : c ≡ byte_class_of (get_or s i 0)) where
    pub item-bad : (c ≡ Alpha → ⊥) → (c ≡ Zero → ⊥) → (c ≡ Nonzero → ⊥) → (c ≡ Dash → ⊥) → (c ≡ Open → ⊥) → Breaks (Item d) s i i
    item-bad a z n m o =
        item-breaks (λ u h x. item-class d (get_or s i 0) u x (λ (k : ByteClass). c ≡ k → ⊥) a z n m o e)

    pub item-shallow : c ≡ Open → d ≡ 0 → Breaks (Item d) s i i
    item-shallow n z =
        let b : get_or s i 0 ≡ 40 = class-in (get_or s i 0) (sym e ∙ n) in
        item-breaks (λ u m h. let q : 42 ≤ get_or s i 0 = all_head (simple-tall (subst (λ (d : ℕ). Item d (get_or s i 0 ∷ u)) z h)) in omega arith)

module _ (s : List ℕ) (i d : ℕ) (l : i < length s) where
  pub item-word : Letter (get_or s i 0) → (e : ℕ) → Stands (All Letter) s (i + 1) e → Stands (Item d) s i e
  item-word b e h =
      let u : i + 1 ≤ e = h.stops.up in
      record {
        is = subst (Item d) (sym (part-first s i e (omega arith) l)) (simple-item d (is_word (word b h.is)));
        stops = stops-after (Item d) s i l e
            (record {
              up = h.stops.up;
              within = h.stops.within;
              no-further = λ m k. h.stops.no-further m
                  (record {
                    rest = k.rest;
                    is = item-cons (get_or s i 0) (part s (i + 1) (e + 1) ++ k.rest) (λ q r. r) (λ q. let t = number-bounds q.1 in absurd (omega arith)) d k.is (λ q. absurd (omega arith));
                  });
            });
      }

  module _ (c : ByteClass) (e : c ≡ byte_class_of (get_or s i 0)) where
    numeric : (c ≡ Zero) ⊎ ((c ≡ Nonzero) ⊎ (c ≡ Dash)) → (45 ≤ get_or s i 0) × (get_or s i 0 ≤ 57)
    numeric k =
        ⊎_elim (λ (z : c ≡ Zero). let b : get_or s i 0 ≡ 48 = class-in (get_or s i 0) (sym e ∙ z) in omega arith)
        (λ (k : (c ≡ Nonzero) ⊎ (c ≡ Dash)).
        ⊎_elim (λ (n : c ≡ Nonzero). let b = class-in (get_or s i 0) (sym e ∙ n) in omega arith)
        (λ (m : c ≡ Dash). let b : get_or s i 0 ≡ 45 = class-in (get_or s i 0) (sym e ∙ m) in omega arith)
        k)
        k

    module _ (k : (c ≡ Zero) ⊎ ((c ≡ Nonzero) ⊎ (c ≡ Dash))) where
      of_number : (u : List ℕ) → Any Number (get_or s i 0 ∷ u) → Item d (get_or s i 0 ∷ u)
      of_number u h = simple-item d (is_number h.1)

      to_number : (u : List ℕ) → Item d (get_or s i 0 ∷ u) → Any Number (get_or s i 0 ∷ u)
      to_number u h = let n = numeric k in item-cons (get_or s i 0) u (λ q r. absurd (omega arith)) (λ q. q) d h (λ q. absurd (omega arith))

      pub item-number : (z : ℤ) (e : ℕ) → NumAt Number s i (Value (z, e)) → Stands (Item d) s i e
      item-number z e h =
          stands-as-here (Any Number) (Item d) s i l of_number to_number (λ x. number-none x.1) (item-none d) (item-some d) e (record { is = (z, h.0); stops = h.1 })

      pub item-no-number : (p : ℕ) → NumAt Number s i (Bad p) → Breaks (Item d) s i p
      item-no-number p h = breaks-as-here (Any Number) (Item d) s i l of_number to_number (λ x. number-none x.1) (item-none d) (item-some d) p h

    pub item-list : c ≡ Open → (d ≡ 0 → ⊥) → (r : Got) → ReadAt (Items (d - 1)) s (i + 1) r → ReadAt (Item d) s i r
    item-list n z r h =
        let b : get_or s i 0 ≡ 40 = class-in (get_or s i 0) (sym e ∙ n) in
        read-after (Item d) s i l (item-none d) r (read_as (Items (d - 1)) (λ (w : List ℕ). Item d (get_or s i 0 ∷ w)) s (i + 1) (deeper d z b) (shallower d z b) r h)
      where
        deeper : (d : ℕ) → (d ≡ 0 → ⊥) → get_or s i 0 ≡ 40 → (w : List ℕ) → Items (d - 1) w → Item d (get_or s i 0 ∷ w)
        deeper zero z b w h = absurd (z refl)
        deeper (suc d) z b w h = let q : suc d - 1 ≡ d = omega arith in inr (subst (λ (x : ℕ). Listed (Item d) (x ∷ w)) (sym b) (subst (λ (d : ℕ). Items d w) q h))

        shallower : (d : ℕ) → (d ≡ 0 → ⊥) → get_or s i 0 ≡ 40 → (w : List ℕ) → Item d (get_or s i 0 ∷ w) → Items (d - 1) w
        shallower zero z b w h = absurd (z refl)
        shallower (suc d) z b w (inl h) = let q : 42 ≤ get_or s i 0 = all_head (simple-tall h) in absurd (omega arith)
        shallower (suc d) z b w (inr h) = let q : suc d - 1 ≡ d = omega arith in subst (λ (d : ℕ). Items d w) (sym q) (subst (λ (x : ℕ). Listed (Item d) (x ∷ w)) b h)

-- ---- the rest of a list
rest-first : {P : List ℕ → Type 0} {b : ℕ} {u : List ℕ} → Rest P (b ∷ u) → (C : ByteClass → Type 0) → C Close → C Space → C (byte_class_of b)
rest-first {b = b} h C x y = rest-cons h (λ q r. subst C (sym (class-close b q)) x) (λ q r. subst C (sym (class-space b q)) y)

module _ (s : List ℕ) (i d : ℕ) (l : i ≤ length s) where
  rest-breaks : ((u : List ℕ) → i < length s → Rest (Item d) (get_or s i 0 ∷ u) → ⊥) → Breaks (Rest (Item d)) s i i
  rest-breaks = bad-here (Rest (Item d)) s i l rest-none (record { rest = 41 ∷ []; is = close })

  pub rest-ends : length s ≤ i → Breaks (Rest (Item d)) s i i
  rest-ends e = rest-breaks (λ u m h. omega arith)

  pub rest-bad : (c : ByteClass) → c ≡ byte_class_of (get_or s i 0) → (c ≡ Close → ⊥) → (c ≡ Space → ⊥) → Breaks (Rest (Item d)) s i i
  rest-bad c e x y = rest-breaks (λ u m h. rest-first h (λ (k : ByteClass). c ≡ k → ⊥) x y e)

module _ (s : List ℕ) (i d : ℕ) (l : i < length s) (c : ByteClass) (e : c ≡ byte_class_of (get_or s i 0)) where
  pub rest-close : c ≡ Close → Stands (Rest (Item d)) s i (i + 1)
  rest-close n =
      let b : get_or s i 0 ≡ 41 = class-in (get_or s i 0) (sym e ∙ n) in
      let t : part s i (i + 1) ≡ 41 ∷ [] = part-first s i (i + 1) (omega arith) l ∙ (cc (b, part_none s (i + 1) (i + 1) (omega arith))) in
      record {
        is = subst (Rest (Item d)) (sym t) close;
        stops = record {
          up = omega arith;
          within = omega arith;
          no-further = λ m h.
              rest-alone d (41 ∷ []) (get_or s (i + 1) 0) h.rest close
              (subst (Rest (Item d)) (ap (λ (w : List ℕ). w ++ h.rest) (part-next s i (i + 1) (omega arith) m ∙ ap (λ (w : List ℕ). w ++ (get_or s (i + 1) 0 ∷ [])) t)) h.is);
        };
      }

  pub rest-space : c ≡ Space → (r : Got) → ReadAt (Items d) s (i + 1) r → ReadAt (Rest (Item d)) s i r
  rest-space n r h =
      let b : get_or s i 0 ≡ 32 = class-in (get_or s i 0) (sym e ∙ n) in
      read-after (Rest (Item d)) s i l rest-none r (read_as (Items d) (λ (w : List ℕ). Rest (Item d) (get_or s i 0 ∷ w)) s (i + 1) (to b) (back b) r h)
    where
      to : get_or s i 0 ≡ 32 → (w : List ℕ) → Items d w → Rest (Item d) (get_or s i 0 ∷ w)
      to b w h =
          let k = listed-cat h in
          subst (Rest (Item d)) (ap (λ (u : List ℕ). 32 ∷ u) (sym k.cut) ∙ ap (λ (x : ℕ). x ∷ w) (sym b)) (item k.is k.then)

      back : get_or s i 0 ≡ 32 → (w : List ℕ) → Rest (Item d) (get_or s i 0 ∷ w) → Items d w
      back b w h = rest-cons h (λ q r. absurd (omega arith)) (λ q r. cat-listed r)

-- ---- the items of a list
module _ (s : List ℕ) (p d : ℕ) where
  pub items-item : (e : ℕ) → Stands (Item d) s p e → (r : Got) → ReadAt (Rest (Item d)) s e r → ReadAt (Items d) s p r
  items-item e h r k =
      read_as (Cat (Item d) (Rest (Item d))) (Items d) s p (λ w x. cat-listed x) (λ w x. listed-cat x) r (then-read (Item d) (Rest (Item d)) s p (item-separate d) e h r k)

  pub items-bad : (q : ℕ) → Breaks (Item d) s p q → Breaks (Items d) s p q
  items-bad q h =
      breaks-as (Cat (Item d) (Rest (Item d))) (Items d) s p (λ w x. cat-listed x) (λ w x. listed-cat x) q
      (breaks-first (Item d) (Rest (Item d)) s p (record { rest = 41 ∷ []; is = close }) q h)

-- ---- the bytes of w, of which j are read
module _ (s w : List ℕ) (p j : ℕ) where
  pub word_more :
      j < length w → p < length s → get_or s p 0 ≡ get_or w j 0 → (r : Got) → ReadAt (Exactly (drop (j + 1) w)) s (p + 1) r → ReadAt (Exactly (drop j w)) s p r
  word_more l m e r h =
      let q : drop j w ≡ get_or w j 0 ∷ drop (j + 1) w = drop-cons w j 0 l ∙ ap (λ (k : ℕ). get_or w j 0 ∷ drop k w) (sym (add-one j)) in
      subst (λ (u : List ℕ). ReadAt (Exactly u) s p r) (sym q) (exactly-more s p (get_or w j 0) (drop (j + 1) w) m e r h)

  pub word-bad : j < length w → p ≤ length s → (p < length s → get_or s p 0 ≡ get_or w j 0 → ⊥) → Breaks (Exactly (drop j w)) s p p
  word-bad l m n =
      let q : drop j w ≡ get_or w j 0 ∷ drop (j + 1) w = drop-cons w j 0 l ∙ ap (λ (k : ℕ). get_or w j 0 ∷ drop k w) (sym (add-one j)) in
      subst (λ (u : List ℕ). Breaks (Exactly u) s p p) (sym q) (exactly-bad s p (get_or w j 0) (drop (j + 1) w) m n)

-- ---- a note after its bracket and its n
abbrev Noted : List ℕ → Type 0
Noted = Cat (Exactly (111 ∷ 116 ∷ 101 ∷ [])) (Cat (Rest (Item 7)) (Exactly (10 ∷ [])))

noted : (w : List ℕ) → NoteTail w → Noted w
noted w h = by-text h refl
  where
    by-text : {t : List ℕ} → Note t → 40 ∷ 110 ∷ w ≡ t → Noted w
    by-text (note {t = t} r) e =
        record {
          left = 111 ∷ 116 ∷ 101 ∷ [];
          right = t ++ (10 ∷ []);
          is = refl;
          then = record { left = t; right = 10 ∷ []; is = r; then = refl; cut = refl };
          cut = tails (tails e);
        }

tail-noted : (w : List ℕ) → Noted w → NoteTail w
tail-noted w h =
    let r = h.then in
    let a : h.left ≡ 111 ∷ 116 ∷ 101 ∷ [] = h.is in
    let b : r.right ≡ 10 ∷ [] = r.then in
    subst NoteTail (sym (h.cut ∙ (cc (a, b, r.cut)))) (note r.is)

rest-separate : (d : ℕ) (Q : List ℕ → Type 0) → Separate (Rest (Item d)) Q
rest-separate d Q = record { apart = λ l c y r p q k. rest-alone d l c y p q }

abbrev Line : List ℕ → Type 0
Line = Cat (Rest (Item 7)) (Exactly (10 ∷ []))

module _ (s : List ℕ) (i : ℕ) where
  pub note-first-bad : (p : ℕ) → Breaks (Exactly (111 ∷ 116 ∷ 101 ∷ [])) s i p → Breaks NoteTail s i p
  note-first-bad p h =
      breaks-as Noted NoteTail s i tail-noted noted p
      (breaks-first (Exactly (111 ∷ 116 ∷ 101 ∷ [])) Line s i (record { rest = 41 ∷ 10 ∷ []; is = record { left = 41 ∷ []; right = 10 ∷ []; is = close; then = refl; cut = refl } }) p h)

  module _ (a : ℕ) (h : Stands (Exactly (111 ∷ 116 ∷ 101 ∷ [])) s i a) where
    note-then : (r : Got) → ReadAt Line s a r → ReadAt NoteTail s i r
    note-then r k =
        read_as Noted NoteTail s i tail-noted noted r
        (then-read (Exactly (111 ∷ 116 ∷ 101 ∷ [])) Line s i (exactly-separate (111 ∷ 116 ∷ 101 ∷ []) Line) a h r k)

    pub note-rest-bad : (p : ℕ) → Breaks (Rest (Item 7)) s a p → Breaks NoteTail s i p
    note-rest-bad p k = note-then (Bad p) (breaks-first (Rest (Item 7)) (Exactly (10 ∷ [])) s a (record { rest = 10 ∷ []; is = refl }) p k)

    pub note-read : (e : ℕ) → Stands (Rest (Item 7)) s a e → (r : Got) → ReadAt (Exactly (10 ∷ [])) s e r → ReadAt NoteTail s i r
    note-read e k r m = note-then r (then-read (Rest (Item 7)) (Exactly (10 ∷ [])) s a (rest-separate 7 (Exactly (10 ∷ []))) e k r m)

-- a note ends in one place
pub note-tail-alone : (l : List ℕ) (c : ℕ) (y : List ℕ) → NoteTail l → NoteTail (l ++ (c ∷ y)) → ⊥
note-tail-alone l c y h g =
    no-cons (sym (alone l (c ∷ y) (lit 111 ∷ lit 116 ∷ lit 101 ∷ rest 7 ∷ lit 10 ∷ []) [] [] (as-lits (noted l h)) (as-lits (noted (l ++ (c ∷ y)) g))))
  where
    as-lits : {w : List ℕ} → Noted w → Seq (lit 111 ∷ lit 116 ∷ lit 101 ∷ rest 7 ∷ lit 10 ∷ []) End [] w
    as-lits {w} h =
        let r = h.then in
        let a : w ≡ 111 ∷ 116 ∷ 101 ∷ h.right = h.cut ∙ ap (λ (x : List ℕ). x ++ h.right) h.is in
        let b : Cat (Rest (Item 7)) (Lit 10 (End [])) h.right =
        record { left = r.left; right = r.right; is = r.is; then = record { more = []; is = r.then; then = (refl, refl) }; cut = r.cut } in
        record { more = _; is = a; then = record { more = _; is = refl; then = record { more = _; is = refl; then = b } } }
