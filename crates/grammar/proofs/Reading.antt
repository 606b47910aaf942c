-- What readers promise (specs/Readers): one answer for each text, a byte at a time, and one reader after another.
use Prim.Native.Nat.{ℕ, ◌≤◌, ◌<◌, ◌+◌, ◌-◌}
use mathlib.Core.Path.{◌≡◌, refl, sym, ◌∙◌, ap, subst}
use mathlib.Core.Logic.{⊎_elim}
use mathlib.Core.List.{List, [], ◌∷◌, ◌++◌, append_assoc, append-nil, head-eq_of_cons-eq as heads}
use native.Mathlib.Omega.{arith}
use native.Mathlib.Nat.{eq-or-lt_of_le}
use lib.ListN.{length, get_or, drop}
use Rattle.grammar.specs.Found.{Got}
use Rattle.std.specs.Prelude.{Result, Ok as At, Err as Bad, IsErrAnd}
use Rattle.std.proofs.lemmas.Result.{err_from_is_err_and}
use Rattle.grammar.specs.Readers.{part, Begins, Stops, Stands, Breaks, ReadAt}
use Rattle.grammar.proofs.Cats.{Cat}
use Rattle.grammar.proofs.Pieces.{lt-or-le, Compared, same, longer, shorter, compare, part_none, part_join, part-first, part-next, begin-part, part-begin, part-rest, part-past, drop-first}

-- what is handed on by `?`: the error of the call
pub handed_on : {T E : Type 0} {r : Result T E} {p : E} → IsErrAnd r (λ (q : E). q ≡ p) → r ≡ Bad p
handed_on {r = r} h = let k = err_from_is_err_and r h in k.1 ∙ ap Bad k.2

abbrev pub Bytes : Type 1
Bytes = List ℕ → Type 0

begins-less : {P : Bytes} (w x : List ℕ) → Begins P (w ++ x) → Begins P w
begins-less {P} w x h = record { rest = x ++ h.rest; is = subst P (append_assoc w x h.rest) h.is }

pub begins-of : {P : Bytes} {w : List ℕ} → P w → Begins P w
begins-of {P} {w} h = record { rest = []; is = subst P (sym (append-nil w)) h }

-- ---- one answer for each text
module _ (P : Bytes) (s : List ℕ) (i : ℕ) where
  pub no-later : (a e : ℕ) → Stops P s i a → a < e → e ≤ length s → Begins P (part s i e) → ⊥
  no-later a e h l m b =
      let u : i ≤ a = h.up in
      h.no-further (omega arith) (begins-less (part s i (a + 1)) (part s (a + 1) e) (subst (Begins P) (part_join s i (a + 1) e (omega arith) (omega arith)) b))

  one-stop : (a e : ℕ) → Stops P s i a → Stops P s i e → Begins P (part s i a) → Begins P (part s i e) → a ≡ e
  one-stop a e h k b c =
      let l : a ≤ length s = h.within in
      let m : e ≤ length s = k.within in
      ⊎_elim (λ (q : a < e). absurd (no-later a e h q m c))
      (λ (q : e ≤ a). ⊎_elim (λ (z : e ≡ a). sym z) (λ (z : e < a). absurd (no-later e a k z l b)) (eq-or-lt_of_le q))
      (lt-or-le a e)

  -- what is read ends in one place, what breaks breaks in one place, and it is not both
  pub one_end : (a e : ℕ) → Stands P s i a → Stands P s i e → a ≡ e
  one_end a e h k = one-stop a e h.stops k.stops (begins-of h.is) (begins-of k.is)

  pub one-break : (p q : ℕ) → Breaks P s i p → Breaks P s i q → p ≡ q
  one-break p q h k = one-stop p q h.stops k.stops h.so_far k.so_far

  pub read-or-bad : (e p : ℕ) → Stands P s i e → Breaks P s i p → ⊥
  read-or-bad e p h k = k.none e h.is

  -- nothing that begins the bytes from i on is a P, where none stands there
  pub none-begins : (p : ℕ) → Breaks P s i p → (w z : List ℕ) → w ++ z ≡ drop i s → P w → ⊥
  none-begins p h w z e x = h.none (i + length w) (subst P (sym (begin-part s i w z e)) x)

-- ---- the first byte
module _ (P : Bytes) (s : List ℕ) (i : ℕ) where
  -- here already no P can go on
  pub bad-here : i ≤ length s → (P [] → ⊥) → Begins P [] → ((u : List ℕ) → i < length s → P (get_or s i 0 ∷ u) → ⊥) → Breaks P s i i
  bad-here l n b f =
      record {
        none = by_end;
        so_far = subst (Begins P) (sym (part_none s i i (omega arith))) b;
        stops = record { up = omega arith; within = l; no-further = λ m h. f h.rest m (subst (λ (w : List ℕ). P (w ++ h.rest)) (one m) h.is) };
      }
    where
      one : i < length s → part s i (i + 1) ≡ get_or s i 0 ∷ []
      one m = part-first s i (i + 1) (omega arith) m ∙ ap (λ (w : List ℕ). get_or s i 0 ∷ w) (part_none s (i + 1) (i + 1) (omega arith))

      short : (e : ℕ) → length s ≤ i → P (part s i e) → ⊥
      short e m x = n (subst P (part-past s i e m) x)

      by_end : (e : ℕ) → P (part s i e) → ⊥
      by_end e x = ⊎_elim (λ (q : i < e). ⊎_elim (λ (m : i < length s). f (part s (i + 1) e) m (subst P (part-first s i e q m) x)) (λ (m : length s ≤ i). short e m x) (lt-or-le i (length s))) (λ (q : e ≤ i). n (subst P (part_none s i e q) x)) (lt-or-le i e)

  module _ (l : i < length s) where
    -- the byte at i, and what comes after it
    pub stops-after : (e : ℕ) → Stops (λ w. P (get_or s i 0 ∷ w)) s (i + 1) e → Stops P s i e
    stops-after e h =
        let u : i + 1 ≤ e = h.up in
        record {
          up = omega arith;
          within = h.within;
          no-further = λ m b. h.no-further m (record { rest = b.rest; is = subst (λ (w : List ℕ). P (w ++ b.rest)) (part-first s i (e + 1) (omega arith) l) b.is });
        }

    pub stands_after : (e : ℕ) → Stands (λ w. P (get_or s i 0 ∷ w)) s (i + 1) e → Stands P s i e
    stands_after e h =
        let u : i + 1 ≤ e = h.stops.up in
        record { is = subst P (sym (part-first s i e (omega arith) l)) h.is; stops = stops-after e h.stops }

    pub breaks-after : (P [] → ⊥) → (p : ℕ) → Breaks (λ w. P (get_or s i 0 ∷ w)) s (i + 1) p → Breaks P s i p
    breaks-after n p h =
        let u : i + 1 ≤ p = h.stops.up in
        record {
          none = λ e x. ⊎_elim (λ (q : i < e). h.none e (subst P (part-first s i e q l) x)) (λ (q : e ≤ i). n (subst P (part_none s i e q) x)) (lt-or-le i e);
          so_far = record { rest = h.so_far.rest; is = subst (λ (w : List ℕ). P (w ++ h.so_far.rest)) (sym (part-first s i p (omega arith) l)) h.so_far.is };
          stops = stops-after p h.stops;
        }

    pub read-after : (P [] → ⊥) → (r : Got) → ReadAt (λ w. P (get_or s i 0 ∷ w)) s (i + 1) r → ReadAt P s i r
    read-after n (At e) h = stands_after e h
    read-after n (Bad p) h = breaks-after n p h

-- ---- the same things, said otherwise
module _ (P Q : Bytes) (s : List ℕ) (i : ℕ) (to : (w : List ℕ) → P w → Q w) (back : (w : List ℕ) → Q w → P w) where
  pub stops_as : (e : ℕ) → Stops P s i e → Stops Q s i e
  stops_as e h = record { up = h.up; within = h.within; no-further = λ m b. h.no-further m (record { rest = b.rest; is = back _ b.is }) }

  pub stands-as : (e : ℕ) → Stands P s i e → Stands Q s i e
  stands-as e h = record { is = to _ h.is; stops = stops_as e h.stops }

  pub breaks-as : (p : ℕ) → Breaks P s i p → Breaks Q s i p
  breaks-as p h =
      record { none = λ e x. h.none e (back _ x); so_far = record { rest = h.so_far.rest; is = to _ h.so_far.is }; stops = stops_as p h.stops }

  pub read_as : (r : Got) → ReadAt P s i r → ReadAt Q s i r
  read_as (At e) h = stands-as e h
  read_as (Bad p) h = breaks-as p h

-- the same only where they begin as the text does
module _
    (P Q : Bytes)
    (s : List ℕ)
    (i : ℕ)
    (l : i < length s)
    (to : (u : List ℕ) → P (get_or s i 0 ∷ u) → Q (get_or s i 0 ∷ u))
    (back : (u : List ℕ) → Q (get_or s i 0 ∷ u) → P (get_or s i 0 ∷ u))
    (p-none : P [] → ⊥)
    (q-none : Q [] → ⊥)
    (some : Begins Q []) where
  to_part : (e : ℕ) → P (part s i e) → Q (part s i e)
  to_part e x =
      ⊎_elim (λ (q : i < e). subst Q (sym (part-first s i e q l)) (to _ (subst P (part-first s i e q l) x))) (λ (q : e ≤ i). absurd (p-none (subst P (part_none s i e q) x))) (lt-or-le i e)

  back-part : (e : ℕ) → Q (part s i e) → P (part s i e)
  back-part e x =
      ⊎_elim (λ (q : i < e). subst P (sym (part-first s i e q l)) (back _ (subst Q (part-first s i e q l) x))) (λ (q : e ≤ i). absurd (q-none (subst Q (part_none s i e q) x))) (lt-or-le i e)

  pub stops-as-here : (e : ℕ) → Stops P s i e → Stops Q s i e
  stops-as-here e h =
      let u : i ≤ e = h.up in
      let q = part-first s i (e + 1) (omega arith) l in
      record {
        up = u;
        within = h.within;
        no-further = λ m b. h.no-further m
            (record { rest = b.rest; is = subst (λ (w : List ℕ). P (w ++ b.rest)) (sym q) (back _ (subst (λ (w : List ℕ). Q (w ++ b.rest)) q b.is)) });
      }

  begins-here : (p : ℕ) → i ≤ p → Begins P (part s i p) → Begins Q (part s i p)
  begins-here p u b =
      ⊎_elim (λ (q : i ≡ p). subst (Begins Q) (sym (part_none s i p (omega arith))) some)
      (λ (q : i < p).
      let e = part-first s i p q l in
      record { rest = b.rest; is = subst (λ (w : List ℕ). Q (w ++ b.rest)) (sym e) (to _ (subst (λ (w : List ℕ). P (w ++ b.rest)) e b.is)) })
      (eq-or-lt_of_le u)

  pub stands-as-here : (e : ℕ) → Stands P s i e → Stands Q s i e
  stands-as-here e h = record { is = to_part e h.is; stops = stops-as-here e h.stops }

  pub breaks-as-here : (p : ℕ) → Breaks P s i p → Breaks Q s i p
  breaks-as-here p h =
      record { none = λ e x. h.none e (back-part e x); so_far = begins-here p h.stops.up h.so_far; stops = stops-as-here p h.stops }

-- ---- one after another
-- where a P goes on as a longer one does, no Q can begin
pub record Separate (P Q : Bytes) : Type 0 where
  pub apart : (l : List ℕ) (c : ℕ) (y r : List ℕ) → P l → P (l ++ (c ∷ y)) → Q (c ∷ r) → ⊥

module _ (P Q : Bytes) (s : List ℕ) (i : ℕ) where
  -- P breaks
  pub breaks-first : Begins Q [] → (p : ℕ) → Breaks P s i p → Breaks (Cat P Q) s i p
  breaks-first some p h =
      record {
        none = λ e x. none-begins P s i p h x.left (x.right ++ drop (e - i) (drop i s))
            (sym (append_assoc x.left x.right _) ∙ ap (λ (w : List ℕ). w ++ drop (e - i) (drop i s)) (sym x.cut) ∙ part-begin s i e) x.is;
        so_far = record {
          rest = h.so_far.rest ++ some.rest;
          is = record { left = part s i p ++ h.so_far.rest; right = some.rest; is = h.so_far.is; then = some.is; cut = sym (append_assoc (part s i p) h.so_far.rest some.rest) };
        };
        stops = record {
          up = h.stops.up;
          within = h.stops.within;
          no-further = λ m b. by-cut m b.is.left b.is.is (compare b.is.left b.is.right (part s i (p + 1)) b.rest (sym b.is.cut));
        };
      }
    where
      by-cut : p < length s → (l : List ℕ) → P l → {r x : List ℕ} → Compared l r (part s i (p + 1)) x → ⊥
      by-cut m l y (same e f) = h.stops.no-further m (begins-of (subst P e y))
      by-cut m l y (longer c z e f) = h.stops.no-further m (record { rest = c ∷ z; is = subst P e y })
      by-cut m l y (shorter c z e f) =
          none-begins P s i p h l ((c ∷ z) ++ drop (p + 1 - i) (drop i s))
          (sym (append_assoc l (c ∷ z) _) ∙ ap (λ (w : List ℕ). w ++ drop (p + 1 - i) (drop i s)) (sym e) ∙ part-begin s i (p + 1)) y

  module _ (sep : Separate P Q) (a : ℕ) (h : Stands P s i a) where
    -- a P and a Q that agree with the text as far as the first byte after the P: that P is the one that stands there
    pub cut-here :
        (l r x : List ℕ) → P l → Q r → l ++ r ≡ part s i a ++ x → ((c : ℕ) (y : List ℕ) → x ≡ c ∷ y → (a < length s) × (get_or s a 0 ≡ c)) → r ≡ x
    cut-here l r x p q e first = by-cut (compare l r (part s i a) x e)
      where
        by-cut : Compared l r (part s i a) x → r ≡ x
        by-cut (same u v) = v
        by-cut (longer c y u v) =
            let f = first c (y ++ r) v in
            let n = part-next s i a h.stops.up f.0 in
            absurd (h.stops.no-further f.0
            (record {
              rest =
                  y;
              is = subst P (u ∙ sym (append_assoc (part s i a) (c ∷ []) y) ∙ ap (λ (w : List ℕ). w ++ y) (ap (λ (b : ℕ). part s i a ++ (b ∷ [])) (sym f.1) ∙ sym n)) p;
            }))
        by-cut (shorter c y u v) = absurd (sep.apart l c y (y ++ x) p (subst P u h.is) (subst Q v q))

    pub then-stops : (p : ℕ) → Stops Q s a p → Stops (Cat P Q) s i p
    then-stops p k =
        let u : i ≤ a = h.stops.up in
        let v : a ≤ p = k.up in
        record {
          up = omega arith;
          within = k.within;
          no-further = λ m b.
              let j = part_join s i a (p + 1) u (omega arith) in
              let g = part-first s a (p + 1) (omega arith) (omega arith) in
              let e = sym b.is.cut ∙ ap (λ (w : List ℕ). w ++ b.rest) j ∙ append_assoc (part s i a) (part s a (p + 1)) b.rest in
              let r = cut-here b.is.left b.is.right (part s a (p + 1) ++ b.rest) b.is.is b.is.then e
              (λ c y q. let am : a < length s = omega arith in (am, heads (sym (ap (λ (w : List ℕ). w ++ b.rest) g) ∙ q))) in
              k.no-further m (record { rest = b.rest; is = subst Q r b.is.then });
        }

    pub then-stands : (e : ℕ) → Stands Q s a e → Stands (Cat P Q) s i e
    then-stands e k =
        record {
          is = record { left = part s i a; right = part s a e; is = h.is; then = k.is; cut = part_join s i a e h.stops.up k.stops.up };
          stops = then-stops e k.stops;
        }

    pub then-breaks : (p : ℕ) → Breaks Q s a p → Breaks (Cat P Q) s i p
    then-breaks p k =
        record {
          none = λ e x.
              let z = drop (e - i) (drop i s) in
              let f = sym (append_assoc x.left x.right z) ∙ ap (λ (w : List ℕ). w ++ z) (sym x.cut) ∙ part-begin s i e ∙ sym (part-rest s i a h.stops.up) in
              by-cut x.left x.right z x.is x.then (compare x.left (x.right ++ z) (part s i a) (drop a s) f);
          so_far = record {
            rest = k.so_far.rest;
            is = record {
              left = part s i a;
              right = part s a p ++ k.so_far.rest;
              is = h.is;
              then = k.so_far.is;
              cut = ap (λ (w : List ℕ). w ++ k.so_far.rest) (part_join s i a p h.stops.up k.stops.up) ∙ append_assoc (part s i a) (part s a p) k.so_far.rest;
            };
          };
          stops = then-stops p k.stops;
        }
      where
        no-q : (r z : List ℕ) → Q r → r ++ z ≡ drop a s → ⊥
        no-q r z q e = none-begins Q s a p k r z e q

        by-cut : (l r z : List ℕ) → P l → Q r → Compared l (r ++ z) (part s i a) (drop a s) → ⊥
        by-cut l r z y q (same u v) = no-q r z q v
        by-cut l r z y q (longer c t u v) =
            let f = drop-first s a c _ v in
            let n = part-next s i a h.stops.up f.0 in
            h.stops.no-further f.0
            (record {
              rest =
                  t;
              is = subst P (u ∙ sym (append_assoc (part s i a) (c ∷ []) t) ∙ ap (λ (w : List ℕ). w ++ t) (ap (λ (b : ℕ). part s i a ++ (b ∷ [])) (sym f.1) ∙ sym n)) y;
            })
        by-cut l [] z y q (shorter c t u v) = no-q [] (drop a s) q refl
        by-cut l (b ∷ r) z y q (shorter c t u v) = sep.apart l b t r y (subst P (u ∙ ap (λ (x : ℕ). l ++ (x ∷ t)) (sym (heads v))) h.is) q

    pub then-read : (r : Got) → ReadAt Q s a r → ReadAt (Cat P Q) s i r
    then-read (At e) k = then-stands e k
    then-read (Bad p) k = then-breaks p k
