-- What may come after the step by b may, after b, come after the symbol.
use Prim.Native.Nat.{ℕ, zero, suc, ◌≤◌, ◌+◌, ◌*◌, ◌-◌}
use mathlib.Core.Path.{◌≡◌, refl, ◌∙◌, ap}
use mathlib.Core.Bool.{Bool, true, false, cond}
use mathlib.Core.Logic.{inl, inr}
use mathlib.Core.List.{List, [], ◌∷◌, ◌++◌, append_assoc}
use native.Mathlib.Omega.{arith}
use lib.IntN.{ℤ, pos, negsuc}
use lib.Dec.{leb, eqb}
use borrow.Author.Tests.{eqb-true}
use Rattle.grammar.specs.declared.ByteClass.{ByteClass}
use Rattle.grammar.specs.declared.ByteClass.TheVariants.{Alpha, Zero, Nonzero, Dash, Open, Close, Space, Other}
use Rattle.definitions.specs.Text.{Letter, Digit, none, each, word, zero_alone, digits, Number, unsigned, negative, Rest, close, item, listed, Simple, is_word, is_number, Item, Note, note, more, Part, byte, spaced, ended, Form, nothing, is_byte, is_spaced, is_ended, Kind, letter, tail_of, RecordKind, intra, whole, mb, kind_of}
use Rattle.grammar.specs.Readers.{byte_class_of}
use Rattle.grammar.proofs.Machine.{Follow, gap, shut, in_list, Sym, lit, first, letters, rest, field, dashed, zeroed, figures, line, opened, entry, Ev, rec, Delta, halt, limit, with_minus, choose, shuts, gaps, grow, opens, syms, δ, nums}
use Rattle.grammar.proofs.Cats.{Cat, cons-cat, cat-with}
use Rattle.grammar.proofs.Bytes.{class-in}
use Rattle.grammar.proofs.Forward.{valued-grows}
use Rattle.grammar.proofs.Residue.{Lang, Lit, Gives, Fol, Figures, Line, RecLine, EntryOf, L, Seq, Next}

-- the digits read so far are not worth too much
abbrev pub Sound : Sym → Type 0
Sound (lit c) = Unit {0}
Sound (first d) = Unit {0}
Sound (letters d) = Unit {0}
Sound (rest d) = Unit {0}
Sound (field f) = Unit {0}
Sound (dashed f) = Unit {0}
Sound (zeroed f) = Unit {0}
Sound (figures sg a f) = a ≤ limit sg
Sound (line k) = Unit {0}
Sound (opened k) = Unit {0}
Sound entry = Unit {0}

-- the classes of b, each with what a step came to
module _ {G : Type 0} (F : Delta → Type 0) (no-halt : F halt → G) (b : ℕ) {p q r s o c g : Delta} where
  choose-by :
      (k : ByteClass) → byte_class_of b ≡ k → F (choose k p q r s o c g) → (Letter b → F p → G) → (b ≡ 48 → F q → G) → (49 ≤ b → b ≤ 57 → F r → G)
      → (b ≡ 45 → F s → G) → (b ≡ 40 → F o → G) → (b ≡ 41 → F c → G) → (b ≡ 32 → F g → G) → G
  choose-by Alpha e h 𝒑 𝒒 𝒓 𝒔 𝒐 𝒄 𝒈 = 𝒑 (class-in b e) h
  choose-by Zero e h 𝒑 𝒒 𝒓 𝒔 𝒐 𝒄 𝒈 = 𝒒 (class-in b e) h
  choose-by Nonzero e h 𝒑 𝒒 𝒓 𝒔 𝒐 𝒄 𝒈 = let k = class-in b e in 𝒓 k.0 k.1 h
  choose-by Dash e h 𝒑 𝒒 𝒓 𝒔 𝒐 𝒄 𝒈 = 𝒔 (class-in b e) h
  choose-by Open e h 𝒑 𝒒 𝒓 𝒔 𝒐 𝒄 𝒈 = 𝒐 (class-in b e) h
  choose-by Close e h 𝒑 𝒒 𝒓 𝒔 𝒐 𝒄 𝒈 = 𝒄 (class-in b e) h
  choose-by Space e h 𝒑 𝒒 𝒓 𝒔 𝒐 𝒄 𝒈 = 𝒈 (class-in b e) h
  choose-by Other e h 𝒑 𝒒 𝒓 𝒔 𝒐 𝒄 𝒈 = no-halt h

pick-by : {G : Type 0} (F : Delta → Type 0) (t : Bool) {x y : Delta} → F (cond t x y) → (t ≡ true → F x → G) → (t ≡ false → F y → G) → G
pick-by F true h f g = f refl h
pick-by F false h f g = g refl h

pub simple-item : (d : ℕ) {t : List ℕ} → Simple t → Item d t
simple-item zero h = h
simple-item (suc d) h = inl h

figures-number : {b n : ℕ} {w : List ℕ} → 49 ≤ b → b ≤ 57 → n ≤ 32767 → Figures (b - 48) n w → Number (pos n) (b ∷ w)
figures-number l m le h = unsigned le (rw h.worth at (digits l m h.all))

module _ {P B : List ℕ → Type 0} {b : ℕ} {u : List ℕ} where
  rest-close : b ≡ 41 → B u → Cat (Rest P) B (b ∷ u)
  rest-close e h = record { left = 41 ∷ []; right = u; is = close; then = h; cut = ap (λ (x : ℕ). x ∷ u) e }

  rest-item : b ≡ 32 → Cat P (Cat (Rest P) B) u → Cat (Rest P) B (b ∷ u)
  rest-item e h =
      record {
        left = 32 ∷ (h.left ++ h.then.left);
        right = h.then.right;
        is = item h.is h.then.is;
        then = h.then.then;
        cut = cc (append_assoc h.left h.then.left h.then.right);
      }

note-close : {B : List ℕ → Type 0} {b : ℕ} {u : List ℕ} → b ≡ 110 → Lit 111 (Lit 116 (Lit 101 (Cat (Rest (Item 7)) (Lit 10 B)))) u → Cat Note B (40 ∷ b ∷ u)
note-close e h =
    let r = h.then.then.then in
    record {
      left = 40 ∷ 110 ∷ 111 ∷ 116 ∷ 101 ∷ (r.left ++ (10 ∷ []));
      right = r.then.more;
      is = note r.is;
      then = r.then.then;
      cut = cc (h.is, h.then.is, h.then.then.is, r.cut, r.then.is, append_assoc r.left (10 ∷ []) r.then.more);
    }

note-line : {k : Kind} {B : Lang} {ws : List Ev} {u : List ℕ} → Cat Note (Line k B ws) u → Line k B ws u
note-line h =
    let n = h.then in
    record {
      before = h.left ++ n.before;
      here = n.here;
      after = n.after;
      found = n.found;
      others = n.others;
      notes = more h.is n.notes;
      this = n.this;
      gives = n.gives;
      then = n.then;
      cut = cc (h.cut, n.cut, append_assoc h.left n.before (n.here ++ n.after));
    }

-- a pattern's text, and after it B
pub record Formed (ps : List Part) (B : Lang) (ws : List Ev) (u : List ℕ) : Type 0 where
  pub here : List ℕ
  pub after : List ℕ
  pub found : List ℤ
  pub others : List Ev
  pub this : Form ps found here
  pub gives : ws ≡ nums found others
  pub then : B others after
  pub cut : u ≡ here ++ after

pub seq-form : (ps : List Part) (B : Lang) (ws : List Ev) (u : List ℕ) → Seq (syms ps) B ws u → Formed ps B ws u
seq-form [] B ws u h = record { here = []; after = u; found = []; others = ws; this = nothing; gives = refl; then = h; cut = refl }
seq-form (byte c ∷ ps) B ws u h =
    let f = seq-form ps B ws h.more h.then in
    record {
      here = c ∷ f.here;
      after = f.after;
      found = f.found;
      others = f.others;
      this = is_byte f.this;
      gives = f.gives;
      then = f.then;
      cut = cc (h.is, f.cut);
    }
seq-form (spaced ∷ ps) B ws u h =
    let l = h.1.then in
    let f = seq-form ps B l.then.others l.more l.then.then in
    record {
      here = h.1.left ++ (32 ∷ f.here);
      after = f.after;
      found = h.0 ∷ f.found;
      others = f.others;
      this = is_spaced h.1.is f.this;
      gives = cc (l.then.is, f.gives);
      then = f.then;
      cut = cc (h.1.cut, l.is, f.cut, append_assoc h.1.left (32 ∷ f.here) f.after);
    }
seq-form (ended ∷ ps) B ws u h =
    let l = h.1.then in
    let f = seq-form ps B l.then.others l.more l.then.then in
    record {
      here = h.1.left ++ (41 ∷ f.here);
      after = f.after;
      found = h.0 ∷ f.found;
      others = f.others;
      this = is_ended h.1.is f.this;
      gives = cc (l.then.is, f.gives);
      then = f.then;
      cut = cc (h.1.cut, l.is, f.cut, append_assoc h.1.left (41 ∷ f.here) f.after);
    }

pub formed-line : {k : Kind} {B : Lang} {ws : List Ev} {b : ℕ} {u : List ℕ} → b ≡ letter k → Formed (tail_of k) B ws u → Line k B ws (40 ∷ b ∷ u)
formed-line {k} e f =
    record {
      before = [];
      here = 40 ∷ letter k ∷ f.here;
      after = f.after;
      found = f.found;
      others = f.others;
      notes = none;
      this = is_byte (is_byte f.this);
      gives = f.gives;
      then = f.then;
      cut = cc (e, f.cut);
    }

formed-rec :
    {B : Lang} {ws : List Ev} {b : ℕ} {u : List ℕ} (r : RecordKind) → b ≡ letter (kind_of r) → Gives (rec r) (Seq (syms (tail_of (kind_of r))) B) ws u
    → RecLine B ws (40 ∷ b ∷ u)
formed-rec {B} {ws} {b} {u} r e h =
    let f = seq-form (tail_of (kind_of r)) B h.others u h.then in
    record {
      kind = r;
      here = 40 ∷ letter (kind_of r) ∷ f.here;
      after = f.after;
      found = f.found;
      others = f.others;
      this = is_byte (is_byte f.this);
      gives = h.is ∙ ap (λ (o : List Ev). rec r ∷ o) f.gives;
      then = f.then;
      cut = cc (e, f.cut);
    }

entry-back : (B : Lang) (ws : List Ev) (b : ℕ) (u : List ℕ) → Next (δ entry b) B ws u → EntryOf B ws (40 ∷ b ∷ u)
unfolding δ
entry-back B ws b u h =
    pick-by F (eqb b 110) h (λ e n. inl (note-close (eqb-true b 110 e) n))
    (λ e n. pick-by F (eqb b 105) n (λ e n. inr (formed-rec intra (eqb-true b 105 e) n))
    (λ e n. pick-by F (eqb b 119) n (λ e n. inr (formed-rec whole (eqb-true b 119 e) n))
    (λ e n. pick-by F (eqb b 109) n (λ e n. inr (formed-rec mb (eqb-true b 109 e) n))
    (λ e n. absurd n))))
  where
    F : Delta → Type 0
    F d = Next d B ws u

module _ (B : Lang) (ws : List Ev) (b : ℕ) (u : List ℕ) where
  abbrev pub To : Delta → Type 0
  To d = Next d B ws u

  shut-back : (f : Follow) (z : ℤ) → b ≡ 41 → To (shuts f z) → Fol f z B ws (b ∷ u)
  shut-back gap z e h = absurd h
  shut-back shut z e h = record { more = u; is = ap (λ (x : ℕ). x ∷ u) e; then = h }
  shut-back (in_list d) z e h = rest-close e h

  gap_back : (f : Follow) (z : ℤ) → b ≡ 32 → To (gaps f z) → Fol f z B ws (b ∷ u)
  gap_back gap z e h = record { more = u; is = ap (λ (x : ℕ). x ∷ u) e; then = h }
  gap_back shut z e h = absurd h
  gap_back (in_list d) z e h = rest-item e h

  open-back : (d : ℕ) → b ≡ 40 → To (opens d) → L (first d) B ws (b ∷ u)
  open-back zero e h = absurd h
  open-back (suc d) e h =
      record {
        left = 40 ∷ (h.left ++ h.then.left);
        right = h.then.right;
        is = inr (listed h.is h.then.is);
        then = h.then.then;
        cut = cc (append_assoc h.left h.then.left h.then.right);
      }

  dash-back : (f : Follow) → 49 ≤ b → b ≤ 57 → (n : ℕ) → n ≤ 32768 → Cat (Figures (b - 48) n) (Fol f (with_minus true n) B ws) u → L (dashed f) B ws (b ∷ u)
  dash-back f l m zero le k =
      let w = k.is.worth in
      absurd (omega (arith, valued-grows (b - 48) k.left))
  dash-back f l m (suc n) le k = (n, omega arith, cons-cat (cat-with k (rw k.is.worth at (digits l m k.is.all))))

  fig-back : (sg : Bool) (a : ℕ) (f : Follow) → Digit b → To (grow sg (10 * a + (b - 48)) f) → L (figures sg a f) B ws (b ∷ u)
  fig-back sg a f dg h =
      pick-by To (leb (10 * a + (b - 48)) (limit sg)) h
      (λ e k. (k.0, k.1, cons-cat (cat-with k.2 (record { all = each dg k.2.is.all; worth = k.2.is.worth }))))
      (λ e k. absurd k)

  pub backward : (s : Sym) → Sound s → To (δ s b) → L s B ws (b ∷ u)
  unfolding δ
  backward (lit c) ok h = pick-by To (eqb b c) h (λ e k. record { more = u; is = ap (λ (x : ℕ). x ∷ u) (eqb-true b c e); then = k }) (λ e k. absurd k)
  backward (first d) ok h =
      choose-by To absurd b (byte_class_of b) refl h
      (λ l k. cons-cat (cat-with k (simple-item d (is_word (word l k.is)))))
      (λ e k. record { left = 48 ∷ []; right = u; is = simple-item d (is_number (unsigned (omega arith) zero_alone)); then = k; cut = ap (λ (x : ℕ). x ∷ u) e })
      (λ l m k. cons-cat (cat-with k.2 (simple-item d (is_number (figures-number l m k.1 k.2.is)))))
      (λ e k. rw e (cons-cat (cat-with k.2 (simple-item d (is_number (negative k.1 k.2.is))))))
      (λ e k. open-back d e k)
      (λ e k. absurd k)
      (λ e k. absurd k)
  backward (letters d) ok h =
      choose-by To absurd b (byte_class_of b) refl h
      (λ l k. cons-cat (cat-with k (each l k.is)))
      (λ e k. absurd k)
      (λ l m k. absurd k)
      (λ e k. absurd k)
      (λ e k. absurd k)
      (λ e k. record { left = []; right = b ∷ u; is = none; then = rest-close e k; cut = refl })
      (λ e k. record { left = []; right = b ∷ u; is = none; then = rest-item e k; cut = refl })
  backward (rest d) ok h =
      choose-by To absurd b (byte_class_of b) refl h
      (λ l k. absurd k)
      (λ e k. absurd k)
      (λ l m k. absurd k)
      (λ e k. absurd k)
      (λ e k. absurd k)
      (λ e k. rest-close e k)
      (λ e k. rest-item e k)
  backward (field f) ok h =
      choose-by To absurd b (byte_class_of b) refl h
      (λ l k. absurd k)
      (λ e k. (pos 0, record { left = 48 ∷ []; right = u; is = unsigned (omega arith) zero_alone; then = k; cut = ap (λ (x : ℕ). x ∷ u) e }))
      (λ l m k. (pos k.0, cons-cat (cat-with k.2 (figures-number l m k.1 k.2.is))))
      (λ e k. (negsuc k.0, rw e (cons-cat (cat-with k.2 (negative k.1 k.2.is)))))
      (λ e k. absurd k)
      (λ e k. absurd k)
      (λ e k. absurd k)
  backward (dashed f) ok h =
      choose-by To absurd b (byte_class_of b) refl h
      (λ l k. absurd k)
      (λ e k. absurd k)
      (λ l m k. dash-back f l m k.0 k.1 k.2)
      (λ e k. absurd k)
      (λ e k. absurd k)
      (λ e k. absurd k)
      (λ e k. absurd k)
  backward (zeroed f) ok h =
      choose-by To absurd b (byte_class_of b) refl h
      (λ l k. absurd k)
      (λ e k. absurd k)
      (λ l m k. absurd k)
      (λ e k. absurd k)
      (λ e k. absurd k)
      (λ e k. shut-back f (pos 0) e k)
      (λ e k. gap_back f (pos 0) e k)
  backward (figures sg a f) ok h =
      choose-by To absurd b (byte_class_of b) refl h
      (λ l k. absurd k)
      (λ e k. fig-back sg a f (omega arith) k)
      (λ l m k. fig-back sg a f (omega arith) k)
      (λ e k. absurd k)
      (λ e k. absurd k)
      (λ e k. (a, ok, record { left = []; right = b ∷ u; is = record { all = none; worth = refl }; then = shut-back f (with_minus sg a) e k; cut = refl }))
      (λ e k. (a, ok, record { left = []; right = b ∷ u; is = record { all = none; worth = refl }; then = gap_back f (with_minus sg a) e k; cut = refl }))
  backward (line k) ok h =
      pick-by To (eqb b 40) h (λ e n. rw (eqb-true b 40 e) n) (λ e n. absurd n)
  backward (opened k) ok h =
      pick-by To (eqb b 110) h
      (λ e n. note-line (note-close (eqb-true b 110 e) n))
      (λ e n. pick-by To (eqb b (letter k)) n
      (λ e n. formed-line (eqb-true b (letter k) e) (seq-form (tail_of k) B ws u n))
      (λ e n. absurd n))
  backward entry ok h = entry-back B ws b u h
