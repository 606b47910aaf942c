-- The readers of lines: patterns one after another, and the words of their numbers, stored.
use Prim.Native.Nat.{ℕ, zero, suc, ◌≤◌, ◌<◌, ◌+◌, ◌-◌}
use mathlib.Core.Path.{◌≡◌, refl, sym, ◌∙◌, ap, subst}
use mathlib.Core.Bool.{Bool, true, false}
use mathlib.Core.List.{List, [], ◌∷◌, ◌++◌, append_assoc, append-nil, head-eq_of_cons-eq as heads, tail-eq_of_cons-eq as tails}
use native.Mathlib.Omega.{arith}
use native.Mathlib.Numerals.{add-one}
use lib.IntN.{ℤ, pos}
use lib.ListN.{length, get_or, take, set}
use lib.Seq.{sets, take-suc-set}
use Rattle.definitions.specs.Text.{Part, byte, spaced, ended, Form, nothing, is_byte, is_spaced, is_ended, bytes_then, numbers_then, letter, tail_of, LineOf, RecordKind, intra, whole, mb, kind_of, words_for, words_of}
use Rattle.definitions.proofs.Parts.{stored-all, sets-append}
use Rattle.grammar.specs.Found.{Got}
use Rattle.std.specs.Prelude.{Ok as At, Err as Bad, Ok as Value}
use Rattle.grammar.specs.Readers.{part, Begins, Stops, Stands, Breaks, ReadAt, Any, NumAt, field_part, FieldOf, Exactly, Stored, StoresAt, as_read, Fields, FieldsAfter, TailOf, EntryTail}
use Rattle.grammar.proofs.Cats.{Cat, no-cons}
use Rattle.grammar.proofs.Runs.{fields_in, form-count}
use Rattle.grammar.proofs.Pieces.{part_none, part_join, part-first}
use Rattle.grammar.proofs.Reading.{bad-here, stops-after, breaks-after, stops_as, breaks-as, read_as, Separate, breaks-first, then-read}
use Rattle.grammar.proofs.Alone.{form-alone}
use Rattle.grammar.proofs.Live.{zero_number}
use Rattle.grammar.proofs.Numerals.{exactly-none}

-- ---- one pattern after another
pub form-append : {ps qs : List Part} {vs ws : List ℤ} {t u : List ℕ} → Form ps vs t → Form qs ws u → Form (ps ++ qs) (vs ++ ws) (t ++ u)
form-append nothing g = g
form-append (is_byte f) g = is_byte (form-append f g)
form-append {qs = qs} {ws = ws} {u = u} (is_spaced {z = z} {w = w} {ps = ps} {vs = vs} {t = t} n f) g =
    subst (Form (spaced ∷ (ps ++ qs)) (z ∷ (vs ++ ws))) (sym (append_assoc w (32 ∷ t) u)) (is_spaced n (form-append f g))
form-append {qs = qs} {ws = ws} {u = u} (is_ended {z = z} {w = w} {ps = ps} {vs = vs} {t = t} n f) g =
    subst (Form (ended ∷ (ps ++ qs)) (z ∷ (vs ++ ws))) (sym (append_assoc w (41 ∷ t) u)) (is_ended n (form-append f g))

abbrev pub Pattern : List Part → List ℕ → Type 0
Pattern ps = Any (Form ps)

pub form-split : (ps qs : List Part) (w : List ℕ) → Pattern (ps ++ qs) w → Cat (Pattern ps) (Pattern qs) w
form-split [] qs w h = record { left = []; right = w; is = ([], nothing); then = h; cut = refl }
form-split (byte c ∷ ps) qs w (vs, is_byte {t = t} f) =
    let k = form-split ps qs t (vs, f) in
    record { left = c ∷ k.left; right = k.right; is = (k.is.0, is_byte k.is.1); then = k.then; cut = ap (λ (l : List ℕ). c ∷ l) k.cut }
form-split (spaced ∷ ps) qs w (vs, is_spaced {z = z} {w = x} {vs = us} {t = t} n f) =
    let k = form-split ps qs t (us, f) in
    record {
      left = x ++ (32 ∷ k.left);
      right = k.right;
      is = (z ∷ k.is.0, is_spaced n k.is.1);
      then = k.then;
      cut = ap (λ (l : List ℕ). x ++ (32 ∷ l)) k.cut ∙ sym (append_assoc x (32 ∷ k.left) k.right);
    }
form-split (ended ∷ ps) qs w (vs, is_ended {z = z} {w = x} {vs = us} {t = t} n f) =
    let k = form-split ps qs t (us, f) in
    record {
      left = x ++ (41 ∷ k.left);
      right = k.right;
      is = (z ∷ k.is.0, is_ended n k.is.1);
      then = k.then;
      cut = ap (λ (l : List ℕ). x ++ (41 ∷ l)) k.cut ∙ sym (append_assoc x (41 ∷ k.left) k.right);
    }

form-join : (ps qs : List Part) (w : List ℕ) → Cat (Pattern ps) (Pattern qs) w → Pattern (ps ++ qs) w
form-join ps qs w h = (h.is.0 ++ h.then.0, subst (Form (ps ++ qs) (h.is.0 ++ h.then.0)) (sym h.cut) (form-append h.is.1 h.then.1))

pub form-some : (ps : List Part) → Begins (Pattern ps) []
form-some [] = record { rest = []; is = ([], nothing) }
form-some (byte c ∷ ps) = let k = form-some ps in record { rest = c ∷ k.rest; is = (k.is.0, is_byte k.is.1) }
form-some (spaced ∷ ps) = let k = form-some ps in record { rest = 48 ∷ 32 ∷ k.rest; is = (pos 0 ∷ k.is.0, is_spaced zero_number k.is.1) }
form-some (ended ∷ ps) = let k = form-some ps in record { rest = 48 ∷ 41 ∷ k.rest; is = (pos 0 ∷ k.is.0, is_ended zero_number k.is.1) }

form-separate : (ps : List Part) (Q : List ℕ → Type 0) → Separate (Pattern ps) Q
form-separate ps Q = record { apart = λ l c y r p q k. form-alone ps l c y p.1 q.1 }

module _ (ps qs : List Part) (s : List ℕ) (i : ℕ) where
  pub form-bad : (p : ℕ) → Breaks (Pattern ps) s i p → Breaks (Pattern (ps ++ qs)) s i p
  form-bad p h =
      breaks-as (Cat (Pattern ps) (Pattern qs)) (Pattern (ps ++ qs)) s i (form-join ps qs) (form-split ps qs) p (breaks-first (Pattern ps) (Pattern qs) s i (form-some qs) p h)

  module _ (a : ℕ) (h : Stands (Pattern ps) s i a) where
    pub form-then : (r : Got) → ReadAt (Pattern qs) s a r → ReadAt (Pattern (ps ++ qs)) s i r
    form-then r k =
        read_as (Cat (Pattern ps) (Pattern qs)) (Pattern (ps ++ qs)) s i (form-join ps qs) (form-split ps qs) r
        (then-read (Pattern ps) (Pattern qs) s i (form-separate ps (Pattern qs)) a h r k)

    pub form-then-stops : (e : ℕ) → Stands (Pattern qs) s a e → Stops (Pattern (ps ++ qs)) s i e
    form-then-stops e k = (form-then (At e) k).stops

  pub form-values :
      (a e : ℕ) (vs ws : List ℤ) → i ≤ a → a ≤ e → Form ps vs (part s i a) → Form qs ws (part s a e) → Form (ps ++ qs) (vs ++ ws) (part s i e)
  form-values a e vs ws l m f g = subst (Form (ps ++ qs) (vs ++ ws)) (sym (part_join s i a e l m)) (form-append f g)

-- ---- the bytes of w, as a pattern
pub bytes-form : (w : List ℕ) → Form (bytes_then w []) [] w
bytes-form [] = nothing
bytes-form (c ∷ w) = is_byte (bytes-form w)

pub form-bytes : (w u : List ℕ) → Pattern (bytes_then w []) u → u ≡ w
form-bytes [] u (vs, nothing) = refl
form-bytes (c ∷ w) u (vs, is_byte {t = t} f) = ap (λ (l : List ℕ). c ∷ l) (form-bytes w t (vs, f))

pub word-pattern : (w s : List ℕ) (i : ℕ) (r : Got) → ReadAt (Exactly w) s i r → ReadAt (Pattern (bytes_then w [])) s i r
word-pattern w s i r h = read_as (Exactly w) (Pattern (bytes_then w [])) s i (λ u e. ([], subst (Form (bytes_then w []) []) (sym e) (bytes-form w))) (form-bytes w) r h

-- ---- one number, as a pattern
field-pattern : (last : Bool) (w : List ℕ) → Any (FieldOf last) w → Pattern (field_part last ∷ []) w
field-pattern last w h = (h.0 ∷ [], h.1)

pattern-field : (last : Bool) (w : List ℕ) → Pattern (field_part last ∷ []) w → Any (FieldOf last) w
pattern-field true w (vs, is_ended {z = z} n nothing) = (z, is_ended n nothing)
pattern-field false w (vs, is_spaced {z = z} n nothing) = (z, is_spaced n nothing)

module _ (last : Bool) (s : List ℕ) (i : ℕ) where
  pub field-breaks : (p : ℕ) → NumAt (FieldOf last) s i (Bad p) → Breaks (Pattern (field_part last ∷ [])) s i p
  field-breaks p h = breaks-as (Any (FieldOf last)) (Pattern (field_part last ∷ [])) s i (field-pattern last) (pattern-field last) p h

  pub field-stands : (z : ℤ) (e : ℕ) → NumAt (FieldOf last) s i (Value (z, e)) → Stands (Pattern (field_part last ∷ [])) s i e
  field-stands z e h =
      record { is = (z ∷ [], h.0); stops = stops_as (Any (FieldOf last)) (Pattern (field_part last ∷ [])) s i (field-pattern last) (pattern-field last) e h.1 }

-- ---- readers one after another, which store in words of their caller's own; after a bad byte nothing is said of these
-- two runs of words, the second behind the first
behind :
    (old : List ℤ) (from n : ℕ) (mid xs new ys : List ℤ) → length xs ≡ n → mid ≡ sets old from xs → new ≡ sets mid (from + n) ys
    → new ≡ sets old from (xs ++ ys)
behind old from n mid xs new ys many first e =
    e ∙ ap (λ (m : List ℤ). sets m (from + n) ys) first ∙ ap (λ (j : ℕ). sets (sets old from xs) (from + j) ys) (sym many)
    ∙ sym (sets-append old from xs ys)

pub stored-stands : {ps : List Part} {s : List ℕ} {i : ℕ} {old : List ℤ} {from : ℕ} {new : List ℤ} {e : ℕ} → Stored (Form ps) as_read s i old from new e → Stands (Pattern ps) s i e
stored-stands h = record { is = (h.value, h.is); stops = h.stops }

nothing-stands : (s : List ℕ) (i : ℕ) → i ≤ length s → Stands (Pattern []) s i i
nothing-stands s i l = word-pattern [] s i (At i) (exactly-none s i l)

pub chain_first : (s : List ℕ) (i : ℕ) (old : List ℤ) (from : ℕ) → i ≤ length s → Stored (Form []) as_read s i old from old i
chain_first s i old from l =
    let h = nothing-stands s i l in
    record { value = []; is = subst (Form [] []) (sym (part_none s i i (omega arith))) nothing; stops = h.stops; stored = refl }

-- bytes, or numbers, after what is read; ps is all that is read, and rest what the line has after it
module _ {ps : List Part} {s : List ℕ} {i : ℕ} {old : List ℤ} {from : ℕ} {mid : List ℤ} {a : ℕ} (v : Stored (Form ps) as_read s i old from mid a) where
  pub chain-word : {w : List ℕ} {e : ℕ} → Stands (Exactly w) s a e → Stored (Form (ps ++ bytes_then w [])) as_read s i old from mid e
  chain-word {w} {e} t =
      record {
        value = v.value;
        is = subst (λ (vs : List ℤ). Form (ps ++ bytes_then w []) vs (part s i e)) (append-nil v.value) (form-values ps (bytes_then w []) s i a e v.value [] v.stops.up t.stops.up v.is (subst (Form (bytes_then w []) []) (sym t.is) (bytes-form w)));
        stops = form-then-stops ps (bytes_then w []) s i a (stored-stands v) e (word-pattern w s a (At e) t);
        stored = v.stored;
      }

  pub chain-numbers :
      {qs : List Part} {next : ℕ} {new : List ℤ} {e : ℕ} → Stored (Form qs) as_read s a mid next new e → next ≡ from + fields_in ps
      → Stored (Form (ps ++ qs)) as_read s i old from new e
  chain-numbers {qs} {next} {new} {e} t place =
      record {
        value = v.value ++ t.value;
        is = form-values ps qs s i a e v.value t.value v.stops.up t.stops.up v.is t.is;
        stops = form-then-stops ps qs s i a (stored-stands v) e (stored-stands t);
        stored = behind old from (fields_in ps) mid v.value new t.value (form-count v.is) v.stored (t.stored ∙ ap (λ (k : ℕ). sets mid k t.value) place);
      }

  pub chain-bad : (qs rest : List Part) {p : ℕ} → Breaks (Pattern qs) s a p → Breaks (Pattern ((ps ++ qs) ++ rest)) s i p
  chain-bad qs rest {p} t = form-bad (ps ++ qs) rest s i p (form-then ps qs s i a (stored-stands v) (Bad p) t)

  pub chain-word-bad : (w : List ℕ) (rest : List Part) {p : ℕ} → Breaks (Exactly w) s a p → Breaks (Pattern ((ps ++ bytes_then w []) ++ rest)) s i p
  chain-word-bad w rest {p} t = chain-bad (bytes_then w []) rest (word-pattern w s a (Bad p) t)

-- ---- the bytes of w, and what comes after them
pub bytes-then : (w : List ℕ) (ps : List Part) → bytes_then w [] ++ ps ≡ bytes_then w ps
bytes-then [] ps = refl
bytes-then (c ∷ w) ps = ap (λ (qs : List Part). byte c ∷ qs) (bytes-then w ps)

module _ (w : List ℕ) (n : ℕ) (s : List ℕ) (i : ℕ) (old : List ℤ) (from : ℕ) where
  pub fields-no-word : (p : ℕ) → Breaks (Exactly w) s i p → StoresAt (FieldsAfter w n) as_read s i old from old (Bad p)
  fields-no-word p h =
      let k = form-bad (bytes_then w []) (numbers_then n []) s i p (word-pattern w s i (Bad p) h) in
      (refl, subst (λ (ps : List Part). Breaks (Pattern ps) s i p) (bytes-then w (numbers_then n [])) k)

  pub fields-after :
      (a : ℕ) → Stands (Exactly w) s i a → (new : List ℤ) (r : Got) → StoresAt (Fields n) as_read s a old from new r
      → StoresAt (FieldsAfter w n) as_read s i old from new r
  fields-after a h new (At e) t =
      let u = form-values (bytes_then w []) (numbers_then n []) s i a e [] t.value h.stops.up t.stops.up (subst (Form (bytes_then w []) []) (sym h.is) (bytes-form w)) t.is in
      let k = form-then-stops (bytes_then w []) (numbers_then n []) s i a (word-pattern w s i (At a) h) e (stored-stands t) in
      record {
        value = t.value;
        is = subst (λ (ps : List Part). Form ps t.value (part s i e)) (bytes-then w (numbers_then n [])) u;
        stops = subst (λ (ps : List Part). Stops (Pattern ps) s i e) (bytes-then w (numbers_then n [])) k;
        stored = t.stored;
      }
  fields-after a h new (Bad p) t =
      let k = form-then (bytes_then w []) (numbers_then n []) s i a (word-pattern w s i (At a) h) (Bad p) t.1 in
      (t.0, subst (λ (ps : List Part). Breaks (Pattern ps) s i p) (bytes-then w (numbers_then n [])) k)

-- one number and a space
pub one-stored :
    {s : List ℕ} {i : ℕ} {old : List ℤ} {from : ℕ} {new : List ℤ} {z : ℤ} {e : ℕ} → NumAt (FieldOf false) s i (Value (z, e)) → new ≡ set old from z
    → Stored (Form (spaced ∷ [])) as_read s i old from new e
one-stored {s = s} {i = i} {z = z} {e = e} f w = record { value = z ∷ []; is = f.0; stops = (field-stands false s i z e f).stops; stored = w }

-- ---- n + 1 numbers and a closing bracket, of which i are read and stand in words of the reader's own
abbrev spaces : ℕ → List Part
spaces zero = []
spaces (suc i) = spaced ∷ spaces i

spaces-more : (i : ℕ) → spaces i ++ (spaced ∷ []) ≡ spaces (i + 1)
spaces-more i = by_count i ∙ ap spaces (sym (add-one i))
  where
    by_count : (i : ℕ) → spaces i ++ (spaced ∷ []) ≡ spaces (suc i)
    by_count zero = refl
    by_count (suc i) = ap (λ (ps : List Part). spaced ∷ ps) (by_count i)

numbers-split : (i m : ℕ) → numbers_then (i + m) [] ≡ spaces i ++ numbers_then m []
numbers-split zero m = let q : 0 + m ≡ m = omega arith in ap (λ (k : ℕ). numbers_then k []) q
numbers-split (suc i) m = let q : suc i + m ≡ suc (i + m) = omega arith in ap (λ (k : ℕ). numbers_then k []) q ∙ ap (λ (ps : List Part). spaced ∷ ps) (numbers-split i m)

pub record Storing (s : List ℕ) (at n : ℕ) (own : List ℤ) (p i : ℕ) : Type 0 where
  pub most : i ≤ n
  pub is : Form (spaces i) (take i own) (part s at p)
  pub stops : Stops (Pattern (spaces i)) s at p

pub storing-first : (s : List ℕ) (at n : ℕ) (own : List ℤ) → at ≤ length s → Storing s at n own at 0
storing-first s at n own l =
    record { most = omega arith; is = subst (Form [] []) (sym (part_none s at at (omega arith))) nothing; stops = (nothing-stands s at l).stops }

module _ (s : List ℕ) (at n : ℕ) (own : List ℤ) (p i : ℕ) (h : Storing s at n own p i) where
  so_far : Stands (Pattern (spaces i)) s at p
  so_far = record { is = (take i own, h.is); stops = h.stops }

  grown : i < length own → (z : ℤ) → take i own ++ (z ∷ []) ≡ take (i + 1) (set own i z)
  grown l z = sym (ap (λ (j : ℕ). take j (set own i z)) (add-one i) ∙ take-suc-set own i z l)

  pub storing-more : i < n → i < length own → (z : ℤ) (e : ℕ) → NumAt (FieldOf false) s p (Value (z, e)) → Storing s at n (set own i z) e (i + 1)
  storing-more q l z e f =
      let k = field-stands false s p z e f in
      record {
        most = omega arith;
        is = subst (λ (vs : List ℤ). Form (spaces (i + 1)) vs (part s at e)) (grown l z) (subst (λ (ps : List Part). Form ps (take i own ++ (z ∷ [])) (part s at e)) (spaces-more i)
            (form-values (spaces i) (spaced ∷ []) s at p e (take i own) (z ∷ []) h.stops.up f.1.up h.is f.0));
        stops = subst (λ (ps : List Part). Stops (Pattern ps) s at e) (spaces-more i) (form-then-stops (spaces i) (spaced ∷ []) s at p so_far e k);
      }

  -- the numbers from here on
  all-numbers : (r : Got) (m : ℕ) → i + m ≡ n → ReadAt (Pattern (numbers_then m [])) s p r → ReadAt (Pattern (numbers_then n [])) s at r
  all-numbers r m e k =
      subst (λ (ps : List Part). ReadAt (Pattern ps) s at r) (sym (ap (λ (j : ℕ). numbers_then j []) (sym e) ∙ numbers-split i m))
      (form-then (spaces i) (numbers_then m []) s at p so_far r k)

  pub storing-stuck : i < n → (out : List ℤ) (from e : ℕ) → NumAt (FieldOf false) s p (Bad e) → StoresAt (Fields n) as_read s at out from out (Bad e)
  storing-stuck q out from e f =
      (refl, all-numbers (Bad e) (suc (n - (i + 1))) (omega arith) (form-bad (spaced ∷ []) (numbers_then (n - (i + 1)) []) s p e (field-breaks false s p e f)))

  module _ (q : n ≤ i) where
    last : i ≡ n
    last = let m = h.most in omega arith

    pub storing-cut : (out : List ℤ) (from e : ℕ) → NumAt (FieldOf true) s p (Bad e) → StoresAt (Fields n) as_read s at out from out (Bad e)
    storing-cut out from e f = (refl, all-numbers (Bad e) 0 (let m = last in omega arith) (field-breaks true s p e f))

    pub storing-done :
        n < length own → (z : ℤ) (e : ℕ) → NumAt (FieldOf true) s p (Value (z, e)) → (out : List ℤ) (from : ℕ) (new : List ℤ)
        → new ≡ sets out from (take (n + 1) (set own n z)) → StoresAt (Fields n) as_read s at out from new (At e)
    storing-done l z e f out from new w =
        let m : i ≡ n = last in
        let k = all-numbers (At e) 0 (omega arith) (field-stands true s p z e f) in
        record {
          value = take (n + 1) (set own n z);
          is = subst (λ (vs : List ℤ). Form (numbers_then n []) vs (part s at e)) (grown (omega arith) z ∙ ap (λ (j : ℕ). take (j + 1) (set own j z)) m)
              (subst (λ (ps : List Part). Form ps (take i own ++ (z ∷ [])) (part s at e)) (sym (ap (λ (j : ℕ). numbers_then j []) (let y : n ≡ i + 0 = omega arith in y) ∙ numbers-split i 0))
              (form-values (spaces i) (ended ∷ []) s at p e (take i own) (z ∷ []) h.stops.up f.1.up h.is f.0));
          stops = k.stops;
          stored = w;
        }

-- ---- the tails of record lines
-- the numbers of a tail stand in words of its reader's own, and its record's words are stored
pub tail-stored :
    (r : RecordKind) (s : List ℕ) (i : ℕ) (old : List ℤ) (from : ℕ) (new zeros own : List ℤ) (e : ℕ) → length zeros ≡ fields_in (tail_of (kind_of r))
    → new ≡ sets old from (words_for r own) → Stored (TailOf r) as_read s i zeros 0 own e → StoresAt (TailOf r) (words_for r) s i old from new (At e)
tail-stored r s i old from new zeros own e l w v =
    let f : own ≡ v.value = v.stored ∙ stored-all v.value zeros (l ∙ sym (form-count v.is)) in
    record { value = v.value; is = v.is; stops = v.stops; stored = w ∙ ap (λ (vs : List ℤ). sets old from (words_for r vs)) f }

-- ---- a record line after its bracket
pub entry-cons :
    {b : ℕ} {w : List ℕ} {C : Type 0} → Any EntryTail (b ∷ w) → ((r : RecordKind) → b ≡ letter (kind_of r) → Any (TailOf r) w → C) → C
entry-cons {b} {w} {C} (e, h) f = by-text h refl
  where
    by-text : {t : List ℕ} → LineOf (kind_of e.kind) e.fields t → t ≡ 40 ∷ b ∷ w → C
    by-text (is_byte (is_byte {t = t} g)) q =
        f e.kind (sym (heads (tails q))) (e.fields, subst (TailOf e.kind e.fields) (tails (tails q)) g)

pub entry-none : Any EntryTail [] → ⊥
entry-none (e, h) = by-text h refl
  where
    by-text : {t : List ℕ} → LineOf (kind_of e.kind) e.fields t → t ≡ 40 ∷ [] → ⊥
    by-text (is_byte (is_byte g)) q = no-cons (sym (tails q))

pub same_kind : (r q : RecordKind) → letter (kind_of r) ≡ letter (kind_of q) → r ≡ q
same_kind intra intra e = refl
same_kind intra whole e = absurd (omega arith)
same_kind intra mb e = absurd (omega arith)
same_kind whole intra e = absurd (omega arith)
same_kind whole whole e = refl
same_kind whole mb e = absurd (omega arith)
same_kind mb intra e = absurd (omega arith)
same_kind mb whole e = absurd (omega arith)
same_kind mb mb e = refl

tail-entry : (r : RecordKind) {b : ℕ} (vs : List ℤ) {w : List ℕ} → b ≡ letter (kind_of r) → TailOf r vs w → EntryTail (record { kind = r; fields = vs }) (b ∷ w)
tail-entry r vs {w} e h = subst (λ (b : ℕ). LineOf (kind_of r) vs (40 ∷ b ∷ w)) (sym e) (is_byte (is_byte h))

module _ (s : List ℕ) (i : ℕ) where
  module _ (l : i < length s) (r : RecordKind) (b : get_or s i 0 ≡ letter (kind_of r)) where
    to-entry : (w : List ℕ) → Any (TailOf r) w → Any EntryTail (get_or s i 0 ∷ w)
    to-entry w h = (record { kind = r; fields = h.0 }, tail-entry r h.0 b h.1)

    from-entry : (w : List ℕ) → Any EntryTail (get_or s i 0 ∷ w) → Any (TailOf r) w
    from-entry w h = entry-cons h (λ q e t. subst (λ (q : RecordKind). Any (TailOf q) w) (same_kind q r (sym e ∙ b)) t)

    pub record_of :
        (old : List ℤ) (from : ℕ) (new : List ℤ) (q : Got) → StoresAt (TailOf r) (words_for r) s (i + 1) old from new q
        → StoresAt EntryTail words_of s i old from new q
    record_of old from new (At e) h =
        let u : i + 1 ≤ e = h.stops.up in
        record {
          value = record { kind = r; fields = h.value };
          is = subst (EntryTail (record { kind = r; fields = h.value })) (sym (part-first s i e (omega arith) l)) (tail-entry r h.value b h.is);
          stops = stops-after (Any EntryTail) s i l e (stops_as (Any (TailOf r)) (λ (w : List ℕ). Any EntryTail (get_or s i 0 ∷ w)) s (i + 1) to-entry from-entry e h.stops);
          stored = h.stored;
        }
    record_of old from new (Bad p) h =
        (h.0, breaks-after (Any EntryTail) s i l entry-none p (breaks-as (Any (TailOf r)) (λ (w : List ℕ). Any EntryTail (get_or s i 0 ∷ w)) s (i + 1) to-entry from-entry p h.1))

  module _ (l : i ≤ length s) where
    entry-breaks : ((u : List ℕ) → i < length s → Any EntryTail (get_or s i 0 ∷ u) → ⊥) → Breaks (Any EntryTail) s i i
    entry-breaks =
        let k = form-some (tail_of (kind_of intra)) in
        bad-here (Any EntryTail) s i l entry-none
        (record { rest = letter (kind_of intra) ∷ k.rest; is = (record { kind = intra; fields = k.is.0 }, tail-entry intra k.is.0 refl k.is.1) })

    pub record-ends : length s ≤ i → Breaks (Any EntryTail) s i i
    record-ends e = entry-breaks (λ u m h. omega arith)

    pub record-bad : (get_or s i 0 ≡ 105 → ⊥) → (get_or s i 0 ≡ 119 → ⊥) → (get_or s i 0 ≡ 109 → ⊥) → Breaks (Any EntryTail) s i i
    record-bad a b c = entry-breaks (λ u m h. entry-cons h (λ r e t. by_kind r e))
      where
        by_kind : (r : RecordKind) → get_or s i 0 ≡ letter (kind_of r) → ⊥
        by_kind intra e = a e
        by_kind whole e = b e
        by_kind mb e = c e
