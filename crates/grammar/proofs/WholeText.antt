-- The readers of the whole text: head lines, record lines up to the end, and both together.
use Prim.Native.Nat.{ℕ, ◌≤◌, ◌<◌, ◌+◌, ◌*◌}
use mathlib.Core.Path.{◌≡◌, refl, sym, ◌∙◌, ap, subst}
use mathlib.Core.Logic.{⊎_elim}
use mathlib.Core.List.{List, [], ◌∷◌, ◌++◌, append_assoc, append-nil, head-eq_of_cons-eq as heads, tail-eq_of_cons-eq as tails}
use native.Mathlib.Omega.{arith}
use lib.IntN.{ℤ, pos}
use lib.ListN.{length, get_or, take, drop, length-append}
use lib.Seq.{sets, sets-eq, take_at}
use Rattle.definitions.specs.declared.Numbers.{Numbers}
use Rattle.definitions.specs.Record.{record_words}
use Rattle.definitions.specs.Text.{Note, note, Notes, none, more, Part, byte, Form, is_byte, bytes_then, numbers_then, Kind, base_line, scaled_line, at_line, full_line, letter, tail_of, LineOf, Heads, no_head, head, RecordKind, intra, whole, mb, kind_of, Entry, Records, no_record, a_note, a_record, head_numbers, Belongs, BreaksAt, words_of, base_of, text_records}
use Rattle.definitions.proofs.Parts.{stored-all, sets-append}
use Rattle.definitions.proofs.RecordLists.{joined-each}
use Rattle.grammar.specs.Found.{Got}
use Rattle.std.specs.Prelude.{Ok as At, Err as Bad}
use Rattle.grammar.specs.Readers.{part, Begins, Stops, Stands, Breaks, Any, NoteTail, Stored, StoresAt, as_read, TailOf, EntryTail, HeadTail, HeadLine, head_line, NoNote, FieldsAfter, Exactly, BreaksToEnd, LinesRead, TextIs}
use Rattle.grammar.proofs.Machine.{nums}
use Rattle.grammar.proofs.Cats.{Cat, no-cons}
use Rattle.grammar.proofs.Residue.{Seq}
use Rattle.grammar.proofs.Runs.{fields_in, form-count, lines, heads-seq, fields_of, heads-count, eight, records-cons, entry_first}
use Rattle.grammar.proofs.Words.{line-words}
use Rattle.grammar.proofs.Pieces.{lt-or-le, part_none, part_join, part-first, part-all, part-start}
use Rattle.grammar.proofs.Reading.{bad-here, stops-after, breaks-after, stops-as-here, breaks-as-here, stops_as, breaks-as, Separate, breaks-first, cut-here, then-stops, then-stands, then-breaks}
use Rattle.grammar.proofs.Alone.{End, alone, form-alone}
use Rattle.grammar.proofs.Items.{note-tail-alone}
use Rattle.grammar.proofs.Patterns.{Pattern, form-some, form-bad, bytes-then, chain-word, chain-word-bad, entry-cons, entry-none, same_kind}

-- ---- notes, by their first two bytes
note-separate : (Q : List ℕ → Type 0) → Separate NoteTail Q
note-separate Q = record { apart = λ l c y r p q k. note-tail-alone l c y p q }

-- a record line ends in one place
entry-alone : (l : List ℕ) (c : ℕ) (y : List ℕ) → Any EntryTail l → Any EntryTail (l ++ (c ∷ y)) → ⊥
entry-alone [] c y p q = entry-none p
entry-alone (b ∷ l) c y p q =
    entry-cons p (λ r e t. entry-cons q (λ k f u. form-alone (tail_of (kind_of r)) l c y t.1 (subst (λ (k : RecordKind). Any (TailOf k) (l ++ (c ∷ y))) (same_kind k r (sym f ∙ e)) u).1))

other-letter : (r : RecordKind) → 110 ≡ letter (kind_of r) → ⊥
other-letter intra e = omega arith
other-letter whole e = omega arith
other-letter mb e = omega arith

-- a note stands at p
note-stands : (s : List ℕ) (p e : ℕ) → p < length s → p + 1 < length s → get_or s p 0 ≡ 40 → get_or s (p + 1) 0 ≡ 110 → Stands NoteTail s (p + 1 + 1) e → Note (part s p e)
note-stands s p e l m a b h =
    let u : p + 1 + 1 ≤ e = h.stops.up in
    let q : part s p e ≡ 40 ∷ 110 ∷ part s (p + 1 + 1) e =
    part-first s p e (omega arith) l ∙ (cc (a, b, part-first s (p + 1) e (omega arith) m)) in
    subst Note (sym q) h.is

-- ---- head lines
head-none : (w : List ℕ) → Any (HeadLine w) [] → ⊥
head-none w (vs, h) = by-text h refl
  where
    by-notes : {n : List ℕ} (t : List ℕ) → Notes n → [] ≡ n ++ (40 ∷ t) → ⊥
    by-notes t none e = no-cons e
    by-notes t (more (note r) ns) e = no-cons e

    by-text : {u : List ℕ} → HeadLine w vs u → [] ≡ u → ⊥
    by-text (head_line {t = t} ns f) e = by-notes t ns e

head_first : (w : List ℕ) {b : ℕ} {u : List ℕ} → Any (HeadLine w) (b ∷ u) → b ≡ 40
head_first w {b} {u} (vs, h) = by-text h refl
  where
    by-notes : {n : List ℕ} (t : List ℕ) → Notes n → b ∷ u ≡ n ++ (40 ∷ t) → b ≡ 40
    by-notes t none e = heads e
    by-notes t (more (note r) ns) e = heads e

    by-text : {x : List ℕ} → HeadLine w vs x → b ∷ u ≡ x → b ≡ 40
    by-text (head_line {t = t} ns f) e = by-notes t ns e

-- after the bracket: the line itself, or a note
module _ (w u : List ℕ) {C : Type 0} (f : Any (HeadTail w) u → C) (g : (x : List ℕ) → u ≡ 110 ∷ x → Cat NoteTail (Any (HeadLine w)) x → C) where
  head-cons : Any (HeadLine w) (40 ∷ u) → C
  head-cons (vs, h) = by-text h refl
    where
      by-notes : {n : List ℕ} (t : List ℕ) → HeadTail w vs t → Notes n → 40 ∷ u ≡ n ++ (40 ∷ t) → C
      by-notes t k none e = f (vs, subst (HeadTail w vs) (sym (tails e)) k)
      by-notes t k (more {u = v} (note {t = y} r) ns) e =
          let q = tails e ∙ append_assoc (110 ∷ 111 ∷ 116 ∷ 101 ∷ (y ++ (10 ∷ []))) v (40 ∷ t) in
          g ((111 ∷ 116 ∷ 101 ∷ (y ++ (10 ∷ []))) ++ (v ++ (40 ∷ t))) q
          (record { left = 111 ∷ 116 ∷ 101 ∷ (y ++ (10 ∷ [])); right = v ++ (40 ∷ t); is = note r; then = (vs, head_line ns k); cut = refl })

      by-text : {x : List ℕ} → HeadLine w vs x → 40 ∷ u ≡ x → C
      by-text (head_line {t = t} ns k) e = by-notes t k ns e

of-note : (w : List ℕ) (vs : List ℤ) (t u : List ℕ) → Note t → HeadLine w vs u → HeadLine w vs (t ++ u)
of-note w vs t u n h = by-text h refl
  where
    by-text : {x : List ℕ} → HeadLine w vs x → u ≡ x → HeadLine w vs (t ++ u)
    by-text (head_line {n = m} {t = y} ns k) e =
        subst (HeadLine w vs) (append_assoc t m (40 ∷ y) ∙ ap (λ (x : List ℕ). t ++ x) (sym e)) (head_line (more n ns) k)

-- the bytes of a pattern that begins with w
tail-first : (w : List ℕ) (c : ℕ) (x : List ℕ) → w ≡ c ∷ x → {b : ℕ} {u : List ℕ} → Any (HeadTail w) (b ∷ u) → b ≡ c
tail-first w c x e {b} {u} (vs, h) = by-text (subst (λ (w : List ℕ). HeadTail w vs (b ∷ u)) e h) refl
  where
    by-text : {t : List ℕ} → HeadTail (c ∷ x) vs t → b ∷ u ≡ t → b ≡ c
    by-text (is_byte k) q = heads q

no-note-tail : (w : List ℕ) → NoNote w → {b : ℕ} {u : List ℕ} → Any (HeadTail w) (b ∷ u) → b ≡ 110 → ⊥
no-note-tail [] n h e = omega arith
no-note-tail (c ∷ x) n h e = n.1 (sym (tail-first (c ∷ x) c x refl h) ∙ e)

tail_none : (w : List ℕ) → NoNote w → Any (HeadTail w) [] → ⊥
tail_none [] n h = omega arith
tail_none (c ∷ x) n (vs, h) = by-text h refl
  where
    by-text : {t : List ℕ} → HeadTail (c ∷ x) vs t → [] ≡ t → ⊥
    by-text (is_byte k) q = no-cons q

head-some : (w : List ℕ) → Begins (Any (HeadLine w)) []
head-some w =
    let k = form-some (bytes_then w (numbers_then 1 (byte 10 ∷ []))) in
    record { rest = 40 ∷ k.rest; is = (k.is.0, head_line none k.is.1) }

module _ (w : List ℕ) (s : List ℕ) (p : ℕ) where
  pub head-bad : p ≤ length s → (p < length s → get_or s p 0 ≡ 40 → ⊥) → Breaks (Any (HeadLine w)) s p p
  head-bad l n = bad-here (Any (HeadLine w)) s p l (head-none w) (head-some w) (λ u m h. n m (head_first w h))

  module _ (n : NoNote w) (l : p < length s) (b : get_or s p 0 ≡ 40) where
    -- a head line after its bracket
    abbrev Opened : List ℕ → Type 0
    Opened u = Any (HeadLine w) (40 ∷ u)

    opened-none : Opened [] → ⊥
    opened-none h = head-cons w [] (tail_none w n) (λ x e k. no-cons e) h

    opened_some : Begins Opened []
    opened_some =
        let k = form-some (bytes_then w (numbers_then 1 (byte 10 ∷ []))) in
        record { rest = k.rest; is = (k.is.0, head_line none k.is.1) }

    from-open : (q : ℕ) → Breaks Opened s (p + 1) q → Breaks (Any (HeadLine w)) s p q
    from-open q h = breaks-after (Any (HeadLine w)) s p l (head-none w) q (subst (λ (x : ℕ). Breaks (λ u. Any (HeadLine w) (x ∷ u)) s (p + 1) q) (sym b) h)

    open-stops : (e : ℕ) → Stops Opened s (p + 1) e → Stops (Any (HeadLine w)) s p e
    open-stops e h = stops-after (Any (HeadLine w)) s p l e (subst (λ (x : ℕ). Stops (λ u. Any (HeadLine w) (x ∷ u)) s (p + 1) e) (sym b) h)

    pub head-cut : length s ≤ p + 1 → Breaks (Any (HeadLine w)) s p (p + 1)
    head-cut e = from-open (p + 1) (bad-here Opened s (p + 1) (omega arith) opened-none opened_some (λ u m h. omega arith))

    -- a note, and a head line after it
    to-noted : (u : List ℕ) → Cat NoteTail (Any (HeadLine w)) u → Opened (110 ∷ u)
    to-noted u h = (h.then.0, subst (λ (x : List ℕ). HeadLine w h.then.0 (40 ∷ 110 ∷ x)) (sym h.cut) (of-note w h.then.0 (40 ∷ 110 ∷ h.left) h.right h.is h.then.1))

    of-noted : (u : List ℕ) → Opened (110 ∷ u) → Cat NoteTail (Any (HeadLine w)) u
    of-noted u h = head-cons w (110 ∷ u) (λ t. absurd (no-note-tail w n t refl)) (λ x e k. subst (Cat NoteTail (Any (HeadLine w))) (sym (tails e)) k) h

    module _ (m : p + 1 < length s) where
      -- the line itself
      module _ (no : get_or s (p + 1) 0 ≡ 110 → ⊥) where
        to-open : (u : List ℕ) → Any (HeadTail w) (get_or s (p + 1) 0 ∷ u) → Opened (get_or s (p + 1) 0 ∷ u)
        to-open u h = (h.0, head_line none h.1)

        of-open : (u : List ℕ) → Opened (get_or s (p + 1) 0 ∷ u) → Any (HeadTail w) (get_or s (p + 1) 0 ∷ u)
        of-open u h = head-cons w (get_or s (p + 1) 0 ∷ u) (λ k. k) (λ x e k. absurd (no (heads e))) h

        pub head-line :
            (old : List ℤ) (from : ℕ) (new : List ℤ) (r : Got) → StoresAt (HeadTail w) as_read s (p + 1) old from new r
            → StoresAt (HeadLine w) as_read s p old from new r
        head-line old from new (At e) h =
            let u : p + 1 ≤ e = h.stops.up in
            let q : part s p e ≡ 40 ∷ part s (p + 1) e = part-first s p e (omega arith) l ∙ (cc (b)) in
            record {
              value = h.value;
              is = subst (HeadLine w h.value) (sym q) (head_line none h.is);
              stops = open-stops e (stops-as-here (Any (HeadTail w)) Opened s (p + 1) m to-open of-open (tail_none w n) opened-none opened_some e h.stops);
              stored = h.stored;
            }
        head-line old from new (Bad q) h =
            (h.0, from-open q (breaks-as-here (Any (HeadTail w)) Opened s (p + 1) m to-open of-open (tail_none w n) opened-none opened_some q h.1))

      -- a note before it
      module _ (c : get_or s (p + 1) 0 ≡ 110) (e : ℕ) (k : Stands NoteTail s (p + 1 + 1) e) where
        pub head-note :
            (old : List ℤ) (from : ℕ) (new : List ℤ) (r : Got) → StoresAt (HeadLine w) as_read s e old from new r → StoresAt (HeadLine w) as_read s p old from new r
        head-note old from new (At a) h =
            let v : p + 1 + 1 ≤ e = k.stops.up in
            let x : e ≤ a = h.stops.up in
            let t = then-stands NoteTail (Any (HeadLine w)) s (p + 1 + 1) (note-separate (Any (HeadLine w))) e k a (record { is = (h.value, h.is); stops = h.stops }) in
            record {
              value = h.value;
              is = subst (HeadLine w h.value) (sym (part_join s p e a (omega arith) x)) (of-note w h.value (part s p e) (part s e a) (note-stands s p e l m b c k) h.is);
              stops = open-stops a (stops-after Opened s (p + 1) m a (subst (λ (x : ℕ). Stops (λ u. Opened (x ∷ u)) s (p + 1 + 1) a) (sym c) (stops_as (Cat NoteTail (Any (HeadLine w))) (λ u. Opened (110 ∷ u)) s (p + 1 + 1) to-noted of-noted a t.stops)));
              stored = h.stored;
            }
        head-note old from new (Bad q) h = (
          h.0,
          from-open q (breaks-after Opened s (p + 1) m opened-none q (subst (λ (x : ℕ). Breaks (λ u. Opened (x ∷ u)) s (p + 1 + 1) q) (sym c)
              (breaks-as (Cat NoteTail (Any (HeadLine w))) (λ u. Opened (110 ∷ u)) s (p + 1 + 1) to-noted of-noted q
              (then-breaks NoteTail (Any (HeadLine w)) s (p + 1 + 1) (note-separate (Any (HeadLine w))) e k q h.1)))),
        )

      module _ (c : get_or s (p + 1) 0 ≡ 110) where
        pub head-note-bad : (q : ℕ) → Breaks NoteTail s (p + 1 + 1) q → Breaks (Any (HeadLine w)) s p q
        head-note-bad q h =
            from-open q (breaks-after Opened s (p + 1) m opened-none q (subst (λ (x : ℕ). Breaks (λ u. Opened (x ∷ u)) s (p + 1 + 1) q) (sym c)
            (breaks-as (Cat NoteTail (Any (HeadLine w))) (λ u. Opened (110 ∷ u)) s (p + 1 + 1) to-noted of-noted q
            (breaks-first NoteTail (Any (HeadLine w)) s (p + 1 + 1) (head-some w) q h))))

-- the line's two numbers, read into words of the reader's own
pub fields-bytes : (w : List ℕ) (ps : List Part) → fields_in (bytes_then w ps) ≡ fields_in ps
fields-bytes [] ps = refl
fields-bytes (c ∷ w) ps = fields-bytes w ps

head-parts : (w : List ℕ) → bytes_then w (numbers_then 1 []) ++ (byte 10 ∷ []) ≡ bytes_then w (numbers_then 1 (byte 10 ∷ []))
head-parts w =
    sym (ap (λ (ps : List Part). ps ++ (byte 10 ∷ [])) (bytes-then w (numbers_then 1 [])))
    ∙ append_assoc (bytes_then w []) (numbers_then 1 []) (byte 10 ∷ []) ∙ bytes-then w (numbers_then 1 (byte 10 ∷ []))

module _ (w s : List ℕ) (i : ℕ) where
  pub head-no-numbers : {p : ℕ} → Breaks (Any (FieldsAfter w 1)) s i p → Breaks (Any (HeadTail w)) s i p
  head-no-numbers {p} h = subst (λ (ps : List Part). Breaks (Pattern ps) s i p) (head-parts w) (form-bad (bytes_then w (numbers_then 1 [])) (byte 10 ∷ []) s i p h)

  module _ {zeros two : List ℤ} {a : ℕ} (v : Stored (FieldsAfter w 1) as_read s i zeros 0 two a) where
    pub head-no-end : {p : ℕ} → Breaks (Exactly (10 ∷ [])) s a p → Breaks (Any (HeadTail w)) s i p
    head-no-end {p} h =
        subst (λ (ps : List Part). Breaks (Pattern ps) s i p) (append-nil _ ∙ head-parts w) (chain-word-bad v (10 ∷ []) [] h)

    pub head-read : {e : ℕ} → Stands (Exactly (10 ∷ [])) s a e → Stored (HeadTail w) as_read s i zeros 0 two e
    head-read {e} h = subst (λ (ps : List Part). Stored (Form ps) as_read s i zeros 0 two e) (head-parts w) (chain-word v h)

pub head-stored :
    (w s : List ℕ) (i : ℕ) (old : List ℤ) (from : ℕ) (new zeros two : List ℤ) (e : ℕ) → length zeros ≡ 2 → new ≡ sets old from two
    → Stored (HeadTail w) as_read s i zeros 0 two e → StoresAt (HeadTail w) as_read s i old from new (At e)
head-stored w s i old from new zeros two e l g v =
    let f : two ≡ v.value = v.stored ∙ stored-all v.value zeros (l ∙ sym (form-count v.is ∙ fields-bytes w (numbers_then 1 (byte 10 ∷ [])))) in
    record { value = v.value; is = v.is; stops = v.stops; stored = g ∙ ap (sets old from) f }

-- ---- up to the end
module _ (P : List ℕ → Type 0) (s : List ℕ) (i : ℕ) where
  pub to-end-after : i < length s → (q : ℕ) → BreaksToEnd (λ w. P (get_or s i 0 ∷ w)) s (i + 1) q → BreaksToEnd P s i q
  to-end-after l q h =
      let u : i + 1 ≤ q = h.stops.up in
      record {
        none = λ x. h.none (subst P (part-first s i (length s) l l) x);
        so_far = record { rest = h.so_far.rest; is = subst (λ (w : List ℕ). P (w ++ h.so_far.rest)) (sym (part-first s i q (omega arith) l)) h.so_far.is };
        stops = stops-after P s i l q h.stops;
      }

  pub breaks-to-end : (q : ℕ) → Breaks P s i q → BreaksToEnd P s i q
  breaks-to-end q h = record { none = h.none (length s); so_far = h.so_far; stops = h.stops }

module _
    (P Q : List ℕ → Type 0)
    (s : List ℕ)
    (i : ℕ)
    (to : (u : List ℕ) → P u → Q u)
    (back : i < length s → (u : List ℕ) → Q (get_or s i 0 ∷ u) → P (get_or s i 0 ∷ u))
    (q-none : Q [] → ⊥) where
  pub to-end-as-here : (q : ℕ) → BreaksToEnd P s i q → BreaksToEnd Q s i q
  to-end-as-here q h =
      let u : i ≤ q = h.stops.up in
      let v : q ≤ length s = h.stops.within in
      record {
        none = λ x. ⊎_elim
            (λ (l : i < length s). let e = part-first s i (length s) l l in h.none (subst P (sym e) (back l _ (subst Q e x))))
            (λ (l : length s ≤ i). q-none (subst Q (part_none s i (length s) l) x))
            (lt-or-le i (length s));
        so_far = record { rest = h.so_far.rest; is = to _ h.so_far.is };
        stops = record {
          up = u;
          within = v;
          no-further = λ m b.
              let l : i < length s = omega arith in
              let e = part-first s i (q + 1) (omega arith) l in
              h.stops.no-further m (record { rest = b.rest; is = subst (λ (w : List ℕ). P (w ++ b.rest)) (sym e) (back l _ (subst (λ (w : List ℕ). Q (w ++ b.rest)) e b.is)) });
        };
      }

module _ (P Q : List ℕ → Type 0) (s : List ℕ) (i : ℕ) (sep : Separate P Q) (a : ℕ) (h : Stands P s i a) where
  pub to-end-then : (q : ℕ) → BreaksToEnd Q s a q → BreaksToEnd (Cat P Q) s i q
  to-end-then q k =
      let u : i ≤ a = h.stops.up in
      let v : a ≤ length s = h.stops.within in
      record {
        none = λ x.
            let r = cut-here P Q s i sep a h x.left x.right (part s a (length s)) x.is x.then (sym x.cut ∙ part_join s i a (length s) u v)
            (λ c y e. first c y e) in
            k.none (subst Q r x.then);
        so_far = record {
          rest = k.so_far.rest;
          is = record {
            left = part s i a;
            right = part s a q ++ k.so_far.rest;
            is = h.is;
            then = k.so_far.is;
            cut = ap (λ (w : List ℕ). w ++ k.so_far.rest) (part_join s i a q u k.stops.up) ∙ append_assoc (part s i a) (part s a q) k.so_far.rest;
          };
        };
        stops = then-stops P Q s i sep a h q k.stops;
      }
    where
      first : (c : ℕ) (y : List ℕ) → part s a (length s) ≡ c ∷ y → (a < length s) × (get_or s a 0 ≡ c)
      first c y e =
          ⊎_elim (λ (l : a < length s). (l, heads (sym (part-first s a (length s) l l) ∙ e)))
          (λ (l : length s ≤ a). no-cons (sym (part_none s a (length s) l) ∙ e))
          (lt-or-le a (length s))

-- ---- notes and record lines
abbrev Recs : List ℕ → Type 0
Recs = Any Records

recs-first : {b : ℕ} {u : List ℕ} → Recs (b ∷ u) → b ≡ 40
recs-first h = entry_first (records-cons h.1)

recs-open :
    (u : List ℕ) {C : Type 0} → ((x : List ℕ) → u ≡ 110 ∷ x → Cat NoteTail Recs x → C) → (Cat (Any EntryTail) Recs u → C) → Recs (40 ∷ u) → C
recs-open u {C} f g (es, h) = by-text h refl
  where
    by-note : {t : List ℕ} (v : List ℕ) → Recs v → Note t → 40 ∷ u ≡ t ++ v → C
    by-note v k (note {t = y} r) e =
        f _ (tails e) (record { left = 111 ∷ 116 ∷ 101 ∷ (y ++ (10 ∷ [])); right = v; is = note r; then = k; cut = refl })

    by-line : (r : RecordKind) (vs : List ℤ) {t : List ℕ} (v : List ℕ) → Recs v → LineOf (kind_of r) vs t → 40 ∷ u ≡ t ++ v → C
    by-line r vs v k (is_byte {t = t} l) e =
        g (record { left = t; right = v; is = (record { kind = r; fields = vs }, is_byte l); then = k; cut = tails e })

    by-text : {es : List Entry} {x : List ℕ} → Records es x → 40 ∷ u ≡ x → C
    by-text no_record e = no-cons (sym e)
    by-text (a_note {rs = rs} {u = v} n ns) e = by-note v (rs, ns) n e
    by-text (a_record {r = r} {vs = vs} {rs = rs} {u = v} l ns) e = by-line r vs v (rs, ns) l e

no-entry-note : {x : List ℕ} → Any EntryTail (110 ∷ x) → ⊥
no-entry-note h = entry-cons h (λ r e t. by_kind r e)
  where
    by_kind : (r : RecordKind) → 110 ≡ letter (kind_of r) → ⊥
    by_kind r e = other-letter r e

no-note-empty : {C : Type 0} → Cat NoteTail Recs [] → C
no-note-empty h = by-cut h.left h.right h.is h.cut
  where
    by-text : {t : List ℕ} {C : Type 0} → Note t → t ≡ 40 ∷ 110 ∷ [] → C
    by-text (note r) e = no-cons (sym (tails (tails e)))

    by-cut : {C : Type 0} (l r : List ℕ) → NoteTail l → [] ≡ l ++ r → C
    by-cut [] r y e = by-text y refl
    by-cut (c ∷ l) r y e = no-cons e

no-note-entry : (u : List ℕ) → Cat (Any EntryTail) Recs (110 ∷ u) → ⊥
no-note-entry u h = by-cut h.left h.right h.is h.cut
  where
    by-cut : (l r : List ℕ) → Any EntryTail l → 110 ∷ u ≡ l ++ r → ⊥
    by-cut [] r y e = entry-none y
    by-cut (c ∷ l) r y e = no-entry-note (subst (λ (x : ℕ). Any EntryTail (x ∷ l)) (sym (heads e)) y)

noted-recs : (u : List ℕ) → Cat NoteTail Recs u → Recs (40 ∷ 110 ∷ u)
noted-recs u h = (h.then.0, subst (λ (x : List ℕ). Records h.then.0 (40 ∷ 110 ∷ x)) (sym h.cut) (a_note h.is h.then.1))

entry-recs : (u : List ℕ) → Cat (Any EntryTail) Recs u → Recs (40 ∷ u)
entry-recs u h =
    (h.is.0 ∷ h.then.0, subst (λ (x : List ℕ). Records (h.is.0 ∷ h.then.0) (40 ∷ x)) (sym h.cut) (a_record h.is.1 h.then.1))

entry-separate : (Q : List ℕ → Type 0) → Separate (Any EntryTail) Q
entry-separate Q = record { apart = λ l c y r p q k. entry-alone l c y p q }

-- n record lines are read up to p, and their words stand first in words of the reader's own, if these have room for them
pub record Walked (s : List ℕ) (at p n : ℕ) (own : List ℤ) : Type 0 where
  pub done : List Entry
  pub many : n ≡ length done
  pub up : at ≤ p
  pub within : p ≤ length s
  pub few : n ≤ p
  pub good : (es : List Entry) → Records es (part s p (length s)) → Records (done ++ es) (part s at (length s))
  pub bad : (q : ℕ) → BreaksToEnd (Any Records) s p q → BreaksToEnd (Any Records) s at q
  pub words : n ≤ text_records → (length (base_of done) ≡ record_words * n) × (take (record_words * n) own ≡ base_of done)

pub walked-first : (s : List ℕ) (at : ℕ) (own : List ℤ) → at ≤ length s → Walked s at at 0 own
walked-first s at own l =
    record { done = []; many = refl; up = omega arith; within = l; few = omega arith; good = λ es h. h; bad = λ q h. h; words = λ m. (refl, refl) }

module _ (s : List ℕ) (at p n : ℕ) (own : List ℤ) (h : Walked s at p n own) where
  pub walked_end : length s ≤ p → Records h.done (part s at (length s))
  walked_end l = subst (λ (es : List Entry). Records es (part s at (length s))) (append-nil h.done) (h.good [] (subst (Records []) (sym (part_none s p (length s) l)) no_record))

  module _ (l : p < length s) where
    pub walked-bad : (get_or s p 0 ≡ 40 → ⊥) → BreaksToEnd (Any Records) s at p
    walked-bad away =
        h.bad p
        (record {
          none = λ x. away (recs-first (subst Recs (part-first s p (length s) l l) x));
          so_far = record { rest = []; is = subst (λ (w : List ℕ). Recs (w ++ [])) (sym (part_none s p p (omega arith))) ([], no_record) };
          stops = record {
            up = omega arith;
            within = omega arith;
            no-further = λ m b. away (recs-first (subst (λ (w : List ℕ). Recs (w ++ b.rest)) (part-first s p (p + 1) (omega arith) l) b.is));
          };
        })

    module _ (b : get_or s p 0 ≡ 40) where
      abbrev Open : List ℕ → Type 0
      Open u = Recs (40 ∷ u)

      recs-from-open : (q : ℕ) → BreaksToEnd Open s (p + 1) q → BreaksToEnd Recs s p q
      recs-from-open q k = to-end-after Recs s p l q (subst (λ (x : ℕ). BreaksToEnd (λ u. Recs (x ∷ u)) s (p + 1) q) (sym b) k)

      open_none : Open [] → ⊥
      open_none k = recs-open [] (λ x e c. no-cons e) (λ c. entry-left c) k
        where
          by-cut : (l r : List ℕ) → Any EntryTail l → [] ≡ l ++ r → ⊥
          by-cut [] r y e = entry-none y
          by-cut (c ∷ l) r y e = no-cons e

          entry-left : Cat (Any EntryTail) Recs [] → ⊥
          entry-left c = by-cut c.left c.right c.is c.cut

      -- a note
      module _ (m : p + 1 < length s) (c : get_or s (p + 1) 0 ≡ 110) where
        from-note : (q : ℕ) → BreaksToEnd (Cat NoteTail Recs) s (p + 1 + 1) q → BreaksToEnd Recs s p q
        from-note q k =
            recs-from-open q (to-end-after Open s (p + 1) m q (subst (λ (x : ℕ). BreaksToEnd (λ u. Open (x ∷ u)) s (p + 1 + 1) q) (sym c)
            (to-end-as-here (Cat NoteTail Recs) (λ u. Open (110 ∷ u)) s (p + 1 + 1) noted-recs (λ z u. of-noted (get_or s (p + 1 + 1) 0 ∷ u)) no-empty q k)))
          where
            of-noted : (u : List ℕ) → Open (110 ∷ u) → Cat NoteTail Recs u
            of-noted u x = recs-open (110 ∷ u) (λ y e t. subst (Cat NoteTail Recs) (sym (tails e)) t) (λ t. absurd (no-note-entry u t)) x

            no-empty : Open (110 ∷ []) → ⊥
            no-empty x = no-note-empty (of-noted [] x)

        pub walked-note-bad : (q : ℕ) → Breaks NoteTail s (p + 1 + 1) q → BreaksToEnd (Any Records) s at q
        walked-note-bad q k =
            h.bad q (from-note q (breaks-to-end (Cat NoteTail Recs) s (p + 1 + 1) q (breaks-first NoteTail Recs s (p + 1 + 1) (record { rest = []; is = ([], no_record) }) q k)))

        pub walked-note : (e : ℕ) → Stands NoteTail s (p + 1 + 1) e → Walked s at e n own
        walked-note e k =
            let u : p + 1 + 1 ≤ e = k.stops.up in
            let v : e ≤ length s = k.stops.within in
            let w : at ≤ p = h.up in
            let x : n ≤ p = h.few in
            record {
              done = h.done;
              many = h.many;
              up = omega arith;
              within = v;
              few = omega arith;
              good = λ es r. h.good es (subst (Records es) (sym (part_join s p e (length s) (omega arith) v)) (a_note (note-stands s p e l m b c k) r));
              bad = λ q r. h.bad q (from-note q (to-end-then NoteTail Recs s (p + 1 + 1) (note-separate Recs) e k q r));
              words = h.words;
            }

      -- a record line
      module _ (away : p + 1 < length s → get_or s (p + 1) 0 ≡ 110 → ⊥) where
        from-entry : (q : ℕ) → BreaksToEnd (Cat (Any EntryTail) Recs) s (p + 1) q → BreaksToEnd Recs s p q
        from-entry q k =
            recs-from-open q
            (to-end-as-here (Cat (Any EntryTail) Recs) Open s (p + 1) entry-recs
            (λ m u x. recs-open (get_or s (p + 1) 0 ∷ u) (λ y e t. absurd (away m (heads e))) (λ t. t) x) open_none q k)

        pub walked-record-bad : (q : ℕ) → Breaks (Any EntryTail) s (p + 1) q → BreaksToEnd (Any Records) s at q
        walked-record-bad q k =
            h.bad q (from-entry q (breaks-to-end (Cat (Any EntryTail) Recs) s (p + 1) q (breaks-first (Any EntryTail) Recs s (p + 1) (record { rest = []; is = ([], no_record) }) q k)))

        pub walked-record :
            (from e : ℕ) (new : List ℤ) → record_words * text_records ≤ length own → (n < text_records → from ≡ record_words * n)
            → Stored EntryTail words_of s (p + 1) own from new e → Walked s at e (n + 1) new
        walked-record from e new room place k =
            let u : p + 1 ≤ e = k.stops.up in
            let v : e ≤ length s = k.stops.within in
            let w : at ≤ p = h.up in
            let x : n ≤ p = h.few in
            let y : n ≡ length h.done = h.many in
            let one = k.value in
            let line : LineOf (kind_of one.kind) one.fields (part s p e) =
            subst (LineOf (kind_of one.kind) one.fields) (sym (part-first s p e (omega arith) l ∙ ap (λ (x : ℕ). x ∷ part s (p + 1) e) b)) k.is in
            record {
              done = h.done ++ (one ∷ []);
              many = simp length-append (omega arith);
              up = omega arith;
              within = v;
              few = omega arith;
              good = λ es r.
                  subst (λ (es : List Entry). Records es (part s at (length s))) (sym (append_assoc h.done (one ∷ []) es))
                  (h.good (one ∷ es) (subst (Records (one ∷ es)) (sym (part_join s p e (length s) (omega arith) v)) (a_record line r)));
              bad = λ q r. h.bad q (from-entry q (to-end-then (Any EntryTail) Recs s (p + 1) (entry-separate Recs) e (record { is = (one, k.is); stops = k.stops }) q r));
              words = λ m. more-words m (line-words one.kind line);
            }
          where
            more-words :
                n + 1 ≤ text_records → length (words_of k.value) ≡ record_words
                → (length (base_of (h.done ++ (k.value ∷ []))) ≡ record_words * (n + 1)) × (take (record_words * (n + 1)) new ≡ base_of (h.done ++ (k.value ∷ [])))
            more-words m len =
                let a = base_of h.done in
                let d = words_of k.value in
                let q = h.words (omega arith) in
                let z : length a ≡ record_words * n = q.0 in
                let f : from ≡ record_words * n = place (omega arith) in
                let j : base_of (h.done ++ (k.value ∷ [])) ≡ a ++ d = joined-each words_of h.done (k.value ∷ []) ∙ ap (λ (o : List ℤ). a ++ o) (append-nil d) in
                let t : length (a ++ d) ≡ record_words * (n + 1) = simp length-append (omega arith) in
                let g : take from own ≡ a = ap (λ (i : ℕ). take i own) f ∙ q.1 in
                let r = drop (from + length d) own in
                let i : new ≡ (take from own ++ d) ++ r = k.stored ∙ sets-eq d own from (omega arith) in
                let c : new ≡ (a ++ d) ++ r = i ∙ ap (λ (o : List ℤ). (o ++ d) ++ r) g in
                (ap length j ∙ t, ap (take (record_words * (n + 1))) c ∙ take_at (a ++ d) (drop (from + length d) own) (record_words * (n + 1)) t ∙ sym j)

-- ---- all of it
pub lines-kept : (s : List ℕ) (at n : ℕ) (own old : List ℤ) (p : ℕ) → Walked s at p n own → length s ≤ p → text_records < n → LinesRead s at old old n
lines-kept s at n own old p h l m =
    let y : n ≡ length h.done = h.many in
    record { entries = h.done; many = y; is = walked_end s at p n own h l; words = (λ z. absurd (omega arith), λ z. refl) }

pub lines_stored :
    (s : List ℕ) (at n : ℕ) (own old new : List ℤ) (p : ℕ) → Walked s at p n own → length s ≤ p → n ≤ text_records → length old ≡ record_words * text_records
    → new ≡ sets old 0 (take (record_words * n) own) → LinesRead s at old new n
lines_stored s at n own old new p h l m len e =
    let y : n ≡ length h.done = h.many in
    let q = h.words m in
    let z : length (base_of h.done) ≡ record_words * n = q.0 in
    record {
      entries = h.done;
      many = y;
      is = walked_end s at p n own h l;
      words = (
        λ k. e ∙ ap (sets old 0) q.1 ∙ sets-eq (base_of h.done) old 0 (omega arith)
            ∙ ap (λ (j : ℕ). base_of h.done ++ drop j old) (let t : 0 + length (base_of h.done) ≡ record_words * length h.done = omega arith in t),
        λ k. absurd (omega arith),
      );
    }

-- ---- the head lines, and the whole text
-- eight numbers, one by one
pub one_by_one :
    (v : List ℤ) → length v ≡ 8
    → get_or v 0 (pos 0) ∷ get_or v 1 (pos 0) ∷ get_or v 2 (pos 0) ∷ get_or v 3 (pos 0) ∷ get_or v 4 (pos 0) ∷ get_or v 5 (pos 0) ∷ get_or v 6 (pos 0) ∷ get_or v 7 (pos 0) ∷ [] ≡ v
one_by_one [] e = absurd (omega arith)
one_by_one (a ∷ []) e = absurd (omega arith)
one_by_one (a ∷ b ∷ []) e = absurd (omega arith)
one_by_one (a ∷ b ∷ c ∷ []) e = absurd (omega arith)
one_by_one (a ∷ b ∷ c ∷ d ∷ []) e = absurd (omega arith)
one_by_one (a ∷ b ∷ c ∷ d ∷ i ∷ []) e = absurd (omega arith)
one_by_one (a ∷ b ∷ c ∷ d ∷ i ∷ j ∷ []) e = absurd (omega arith)
one_by_one (a ∷ b ∷ c ∷ d ∷ i ∷ j ∷ k ∷ []) e = absurd (omega arith)
one_by_one (a ∷ b ∷ c ∷ d ∷ i ∷ j ∷ k ∷ l ∷ []) e = refl
one_by_one (a ∷ b ∷ c ∷ d ∷ i ∷ j ∷ k ∷ l ∷ m ∷ v) e = absurd (omega arith)

-- a line of kind k is the one that begins with w
pub record HeadKind (k : Kind) (w : List ℕ) : Type 0 where
  pub is : byte (letter k) ∷ tail_of k ≡ bytes_then w (numbers_then 1 (byte 10 ∷ []))

heads-append :
    {ks : List Kind} {vs : List ℤ} {u : List ℕ} (k : Kind) (w : List ℕ) (ws : List ℤ) (t : List ℕ) → HeadKind k w → Heads ks vs u → HeadLine w ws t
    → Heads (ks ++ (k ∷ [])) (vs ++ ws) (u ++ t)
heads-append k w ws t q no_head h = by-text h refl
  where
    by-text : {x : List ℕ} → HeadLine w ws x → t ≡ x → Heads (k ∷ []) ws t
    by-text (head_line {n = n} {t = y} ns f) e =
        let g : LineOf k ws (40 ∷ y) = is_byte (subst (λ (ps : List Part). Form ps ws y) (sym q.is) f) in
        let a : Heads (k ∷ []) (ws ++ []) (n ++ ((40 ∷ y) ++ [])) = head ns g no_head in
        let b : n ++ ((40 ∷ y) ++ []) ≡ t = ap (λ (x : List ℕ). n ++ x) (append-nil (40 ∷ y)) ∙ sym e in
        subst (Heads (k ∷ []) ws) b (subst (λ (vs : List ℤ). Heads (k ∷ []) vs (n ++ ((40 ∷ y) ++ []))) (append-nil ws) a)
heads-append k w ws t q (head {k = j} {ks = ks} {vs = vs} {ws = xs} {n = n} {t = y} {u = u} ns f g) h =
    let a = head ns f (heads-append k w ws t q g h) in
    let b : n ++ (y ++ (u ++ t)) ≡ (n ++ (y ++ u)) ++ t = sym (append_assoc n (y ++ u) t ∙ ap (λ (x : List ℕ). n ++ x) (append_assoc y u t)) in
    subst (Heads (j ∷ (ks ++ (k ∷ []))) ((vs ++ xs) ++ ws)) b
    (subst (λ (vs : List ℤ). Heads (j ∷ (ks ++ (k ∷ []))) vs (n ++ (y ++ (u ++ t)))) (sym (append_assoc vs xs ws)) a)

heads-split : (ks : List Kind) (k : Kind) (w : List ℕ) → HeadKind k w → (u : List ℕ) → Any (Heads (ks ++ (k ∷ []))) u → Cat (Any (Heads ks)) (Any (HeadLine w)) u
heads-split [] k w q u (vs, head {vs = xs} {n = n} ns (is_byte {t = t} f) no_head) =
    record {
      left = [];
      right = n ++ ((40 ∷ t) ++ []);
      is = ([], no_head);
      then = (xs, subst (HeadLine w xs) (ap (λ (x : List ℕ). n ++ x) (sym (append-nil (40 ∷ t)))) (head_line ns (subst (λ (ps : List Part). Form ps xs t) q.is f)));
      cut = refl;
    }
heads-split (j ∷ ks) k w q u (vs, head {vs = xs} {ws = ys} {n = n} {t = t} {u = v} ns f g) =
    let r = heads-split ks k w q v (ys, g) in
    record {
      left = n ++ (t ++ r.left);
      right = r.right;
      is = (xs ++ r.is.0, head ns f r.is.1);
      then = r.then;
      cut = ap (λ (x : List ℕ). n ++ (t ++ x)) r.cut ∙ sym (append_assoc n (t ++ r.left) r.right ∙ ap (λ (x : List ℕ). n ++ x) (append_assoc t r.left r.right));
    }

heads-alone : (ks : List Kind) (l : List ℕ) (c : ℕ) (y : List ℕ) → Any (Heads ks) l → Any (Heads ks) (l ++ (c ∷ y)) → ⊥
heads-alone ks l c y p q = no-cons (sym (alone l (c ∷ y) (lines ks) (nums p.0 []) (nums q.0 []) (ends p) (ends q)))
  where
    ends : {t : List ℕ} (p : Any (Heads ks) t) → Seq (lines ks) End (nums p.0 []) t
    ends {t} p = subst (λ (u : List ℕ). Seq (lines ks) End (nums p.0 []) u) (append-nil t) (heads-seq p.1 End [] [] (refl, refl))

heads-separate : (ks : List Kind) (Q : List ℕ → Type 0) → Separate (Any (Heads ks)) Q
heads-separate ks Q = record { apart = λ l c y r p q k. heads-alone ks l c y p q }

pub heads-first : (s : List ℕ) (old : List ℤ) → Stored (Heads []) as_read s 0 old 0 old 0
heads-first s old =
    let e = part_none s 0 0 (omega arith) in
    record {
      value = [];
      is = subst (Heads [] []) (sym e) no_head;
      stops = record {
        up = omega arith;
        within = omega arith;
        no-further = λ m h. no-head h.is.1 (ap (λ (w : List ℕ). w ++ h.rest) (part-first s 0 1 (omega arith) m));
      };
      stored = refl;
    }
  where
    no-head : {vs : List ℤ} {t : List ℕ} {c : ℕ} {y : List ℕ} → Heads [] vs t → t ≡ c ∷ y → ⊥
    no-head no_head e = no-cons e

module _ (ks : List Kind) (k : Kind) (w s : List ℕ) (q : HeadKind k w) where
  heads-join : (u : List ℕ) → Cat (Any (Heads ks)) (Any (HeadLine w)) u → Any (Heads (ks ++ (k ∷ []))) u
  heads-join u h =
      (h.is.0 ++ h.then.0, subst (Heads (ks ++ (k ∷ [])) (h.is.0 ++ h.then.0)) (sym h.cut) (heads-append k w h.then.0 h.right q h.is.1 h.then.1))

  -- the lines before it break
  pub heads-broken : {p : ℕ} → Breaks (Any (Heads ks)) s 0 p → Breaks (Any (Heads (ks ++ (k ∷ [])))) s 0 p
  heads-broken {p} h =
      breaks-as (Cat (Any (Heads ks)) (Any (HeadLine w))) (Any (Heads (ks ++ (k ∷ [])))) s 0 heads-join (heads-split ks k w q) p
      (breaks-first (Any (Heads ks)) (Any (HeadLine w)) s 0 (head-some w) p h)

  module _ {old mid : List ℤ} {a : ℕ} (v : Stored (Heads ks) as_read s 0 old 0 mid a) where
    before : Stands (Any (Heads ks)) s 0 a
    before = record { is = (v.value, v.is); stops = v.stops }

    pub heads-next :
        {next : ℕ} {new : List ℤ} {e : ℕ} → Stored (HeadLine w) as_read s a mid next new e → next ≡ fields_of ks → Stored (Heads (ks ++ (k ∷ []))) as_read s 0 old 0 new e
    heads-next {next} {new} {e} h place =
        let m = then-stands (Any (Heads ks)) (Any (HeadLine w)) s 0 (heads-separate ks (Any (HeadLine w))) a before e (record { is = (h.value, h.is); stops = h.stops }) in
        record {
          value = v.value ++ h.value;
          is = subst (Heads (ks ++ (k ∷ [])) (v.value ++ h.value)) (sym (part_join s 0 a e v.stops.up h.stops.up)) (heads-append k w h.value (part s a e) q v.is h.is);
          stops = stops_as (Cat (Any (Heads ks)) (Any (HeadLine w))) (Any (Heads (ks ++ (k ∷ [])))) s 0 heads-join (heads-split ks k w q) e m.stops;
          stored = h.stored ∙ ap (λ (o : List ℤ). sets o next h.value) v.stored
              ∙ ap (λ (j : ℕ). sets (sets old 0 v.value) j h.value) (let j : next ≡ 0 + length v.value = omega (arith, place, heads-count v.is) in j)
              ∙ sym (sets-append old 0 v.value h.value);
        }

    -- the line itself breaks
    pub heads-stuck : {p : ℕ} → Breaks (Any (HeadLine w)) s a p → Breaks (Any (Heads (ks ++ (k ∷ [])))) s 0 p
    heads-stuck {p} h =
        breaks-as (Cat (Any (Heads ks)) (Any (HeadLine w))) (Any (Heads (ks ++ (k ∷ [])))) s 0 heads-join (heads-split ks k w q) p
        (then-breaks (Any (Heads ks)) (Any (HeadLine w)) s 0 (heads-separate ks (Any (HeadLine w))) a before p h)

abbrev pub four_lines : List Kind
four_lines = base_line ∷ scaled_line ∷ at_line ∷ full_line ∷ []

abbrev Whole : List ℕ → Type 0
Whole = Cat (Any (Heads four_lines)) (Any Records)

belongs-whole : (t : List ℕ) → Belongs t → Whole t
belongs-whole t h =
    let x = h.text in
    record { left = x.top; right = x.bottom; is = (head_numbers h.numbers, x.heads); then = (h.entries, x.lines); cut = x.parts }

whole-belongs : (t : List ℕ) → Whole t → Belongs t
whole-belongs t h =
    let e = eight h.is.0 (heads-count h.is.1) in
    record {
      numbers = e.numbers;
      entries = h.then.0;
      text = record { top = h.left; bottom = h.right; heads = subst (λ (vs : List ℤ). Heads four_lines vs h.left) e.is h.is.1; lines = h.then.1; parts = h.cut };
    }

breaks-at : (s : List ℕ) (p : ℕ) → BreaksToEnd Whole s 0 p → BreaksAt s p
breaks-at s p h =
    let all : part s 0 (length s) ≡ s = part-all s 0 in
    record {
      breaks = λ b. h.none (subst Whole (sym all) (belongs-whole s b));
      within = h.stops.within;
      before = record { rest = h.so_far.rest; belongs = subst (λ (w : List ℕ). Belongs (w ++ h.so_far.rest)) (part-start s p) (whole-belongs _ h.so_far.is) };
      there = λ m g. h.stops.no-further m
          (record { rest = g.rest; is = subst (λ (w : List ℕ). Whole (w ++ g.rest)) (sym (part-start s (p + 1))) (belongs-whole _ g.belongs) });
    }

module _ (s : List ℕ) (old : List ℤ) where
  pub heads-bad : (p : ℕ) → Breaks (Any (Heads four_lines)) s 0 p → BreaksAt s p
  heads-bad p h =
      breaks-at s p (breaks-to-end Whole s 0 p (breaks-first (Any (Heads four_lines)) (Any Records) s 0 (record { rest = []; is = ([], no_record) }) p h))

  module _ (zeros found : List ℤ) (e : ℕ) (h : Stored (Heads four_lines) as_read s 0 zeros 0 found e) where
    pub lines-bad : (p : ℕ) → BreaksToEnd (Any Records) s e p → BreaksAt s p
    lines-bad p k =
        breaks-at s p
        (to-end-then (Any (Heads four_lines)) (Any Records) s 0 (heads-separate four_lines (Any Records)) e (record { is = (h.value, h.is); stops = h.stops }) p k)

    pub text-is :
        (n : Numbers) (count : ℕ) (new : List ℤ) → length zeros ≡ 8 → head_numbers n ≡ found → LinesRead s e old new count → TextIs s old new n count
    text-is n count new len eq k =
        let f : found ≡ h.value = h.stored ∙ stored-all h.value zeros (len ∙ sym (heads-count h.is)) in
        record {
          entries = k.entries;
          many = k.many;
          text = record {
            top = part s 0 e;
            bottom = part s e (length s);
            heads = subst (λ (vs : List ℤ). Heads four_lines vs (part s 0 e)) (sym (eq ∙ f)) h.is;
            lines = k.is;
            parts = sym (part-all s 0) ∙ part_join s 0 e (length s) h.stops.up h.stops.within;
          };
          words = k.words;
        }
