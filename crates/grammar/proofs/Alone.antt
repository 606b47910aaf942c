-- What closes itself ends in one place: no longer list of bytes begins with one. The machine's state says so, being what has yet to come.
use Prim.Native.Nat.{ℕ, zero, suc, ◌≤◌}
use mathlib.Core.Path.{◌≡◌, refl, sym, ◌∙◌, ap, subst}
use mathlib.Core.Logic.{inl, inr}
use mathlib.Core.List.{List, [], ◌∷◌, ◌++◌, append-nil, head-eq_of_cons-eq as heads, tail-eq_of_cons-eq as tails}
use native.Mathlib.Omega.{arith}
use lib.IntN.{ℤ}
use Rattle.definitions.specs.Text.{Letter, Digit, All, none, each, word, Plain, zero_alone, digits, Number, unsigned, negative, Rest, close, item, Listed, listed, Simple, is_word, is_number, Item, Part, ended, Form, nothing, is_ended}
use Rattle.grammar.proofs.Machine.{Sym, first, rest, Ev, nums, Delta, halt, go, emit, syms, δ}
use Rattle.grammar.proofs.Cats.{Cat, no-cons}
use Rattle.grammar.proofs.Residue.{Lang, Seq, Next}
use Rattle.grammar.proofs.Forward.{forward, form-seq, all_head, all_tail, simple-none}
use Rattle.grammar.proofs.Live.{not_none}
use Rattle.grammar.proofs.Runs.{seq-append, same-nums}
use Rattle.grammar.proofs.Reading.{Separate}

-- nothing more
abbrev pub End : Lang
End ws u = (ws ≡ []) × (u ≡ [])

pub alone : (t y : List ℕ) (k : List Sym) (ws os : List Ev) → Seq k End ws t → Seq k End os (t ++ y) → y ≡ []
alone [] y [] ws os h g = g.1
alone [] y (x ∷ k) ws os h g = absurd (not_none x (Seq k End) ws h)
alone (b ∷ t) y [] ws os h g = no-cons (sym h.1)
alone (b ∷ t) y (x ∷ k) ws os h g =
    by-step (λ j vs us. alone t y j vs us) (δ x b) (forward x (Seq k End) ws b t h) (forward x (Seq k End) os b (t ++ y) g)
  where
    by-step :
        ((j : List Sym) (vs us : List Ev) → Seq j End vs t → Seq j End us (t ++ y) → y ≡ []) → (d : Delta) → Next d (Seq k End) ws t
        → Next d (Seq k End) os (t ++ y) → y ≡ []
    by-step f halt p q = absurd p
    by-step f (go j) p q =
        f (j ++ k) ws os (subst (λ (B : Lang). B ws t) (sym (seq-append j k End)) p) (subst (λ (B : Lang). B os (t ++ y)) (sym (seq-append j k End)) q)
    by-step f (emit z j) p q =
        f (j ++ k) p.others q.others (subst (λ (B : Lang). B p.others t) (sym (seq-append j k End)) p.then)
        (subst (λ (B : Lang). B q.others (t ++ y)) (sym (seq-append j k End)) q.then)

-- and what stands in the text is the same in each reading
same-values : (t : List ℕ) (k : List Sym) (ws os : List Ev) → Seq k End ws t → Seq k End os t → ws ≡ os
same-values [] [] ws os h g = h.0 ∙ sym g.0
same-values [] (x ∷ k) ws os h g = absurd (not_none x (Seq k End) ws h)
same-values (b ∷ t) [] ws os h g = no-cons (sym h.1)
same-values (b ∷ t) (x ∷ k) ws os h g =
    by-step (λ j vs us. same-values t j vs us) (δ x b) (forward x (Seq k End) ws b t h) (forward x (Seq k End) os b t g)
  where
    by-step :
        ((j : List Sym) (vs us : List Ev) → Seq j End vs t → Seq j End us t → vs ≡ us) → (d : Delta) → Next d (Seq k End) ws t → Next d (Seq k End) os t
        → ws ≡ os
    by-step f halt p q = absurd p
    by-step f (go j) p q =
        f (j ++ k) ws os (subst (λ (B : Lang). B ws t) (sym (seq-append j k End)) p) (subst (λ (B : Lang). B os t) (sym (seq-append j k End)) q)
    by-step f (emit z j) p q =
        p.is
        ∙ ap (λ (o : List Ev). z ∷ o) (f (j ++ k) p.others q.others (subst (λ (B : Lang). B p.others t) (sym (seq-append j k End)) p.then) (subst (λ (B : Lang). B q.others t) (sym (seq-append j k End)) q.then))
        ∙ sym q.is

only : {P : List ℕ → Type 0} {t : List ℕ} → P t → Cat P (End []) t
only {t = t} p = record { left = t; right = []; is = p; then = (refl, refl); cut = sym (append-nil t) }

pub rest-alone : (d : ℕ) (t : List ℕ) (c : ℕ) (y : List ℕ) → Rest (Item d) t → Rest (Item d) (t ++ (c ∷ y)) → ⊥
rest-alone d t c y h g = no-cons (sym (alone t (c ∷ y) (rest d ∷ []) [] [] (only h) (only g)))

form-ends : (ps : List Part) {vs : List ℤ} {t : List ℕ} → Form ps vs t → Seq (syms ps) End (nums vs []) t
form-ends ps {vs} {t} h = subst (λ (u : List ℕ). Seq (syms ps) End (nums vs []) u) (append-nil t) (form-seq h End [] [] (refl, refl))

pub form-alone : (ps : List Part) (t : List ℕ) (c : ℕ) (y : List ℕ) {vs ws : List ℤ} → Form ps vs t → Form ps ws (t ++ (c ∷ y)) → ⊥
form-alone ps t c y {vs} {ws} h g = no-cons (sym (alone t (c ∷ y) (syms ps) (nums vs []) (nums ws []) (form-ends ps h) (form-ends ps g)))

-- a pattern's bytes hold its numbers, and a number's bytes are worth one number
pub one_form : (ps : List Part) (t : List ℕ) (vs ws : List ℤ) → Form ps vs t → Form ps ws t → vs ≡ ws
one_form ps t vs ws h g = (same-nums vs ws [] [] (same-values t (syms ps) (nums vs []) (nums ws []) (form-ends ps h) (form-ends ps g))).0

pub one_number : (t : List ℕ) (y z : ℤ) → Number y t → Number z t → y ≡ z
one_number t y z h g =
    let e : y ∷ [] ≡ z ∷ [] = one_form (ended ∷ []) (t ++ (41 ∷ [])) (y ∷ []) (z ∷ []) (is_ended h nothing) (is_ended g nothing) in
    heads e

-- the items of a list and its closing bracket
pub listed-cat : {P : List ℕ → Type 0} {w : List ℕ} → Listed P (40 ∷ w) → Cat P (Rest P) w
listed-cat {P} {w} h = by-text h refl
  where
    by-text : {t : List ℕ} → Listed P t → 40 ∷ w ≡ t → Cat P (Rest P) w
    by-text (listed {w = x} {t = y} p r) e = record { left = x; right = y; is = p; then = r; cut = tails e }

pub cat-listed : {P : List ℕ → Type 0} {w : List ℕ} → Cat P (Rest P) w → Listed P (40 ∷ w)
cat-listed {P} h = subst (λ (u : List ℕ). Listed P (40 ∷ u)) (sym h.cut) (listed h.is h.then)

pub listed-alone : (d : ℕ) (t : List ℕ) (c : ℕ) (y : List ℕ) → Listed (Item d) (40 ∷ t) → Listed (Item d) (40 ∷ (t ++ (c ∷ y))) → ⊥
listed-alone d t c y h g = no-cons (sym (alone t (c ∷ y) (first d ∷ []) [] [] (ends h) (ends g)))
  where
    ends : {t : List ℕ} → Listed (Item d) (40 ∷ t) → Cat (Item d) (Cat (Rest (Item d)) (End [])) t
    ends h = let k = listed-cat h in record { left = k.left; right = k.right; is = k.is; then = only k.then; cut = k.cut }

-- ---- words and numbers have neither spaces nor brackets
all_of : {P Q : ℕ → Type 0} {t : List ℕ} → ((c : ℕ) → P c → Q c) → All P t → All Q t
all_of f none = none
all_of f (each {c = c} p r) = each (f c p) (all_of f r)

abbrev Tall : ℕ → Type 0
Tall c = 42 ≤ c

plain-tall : {n : ℕ} {t : List ℕ} → Plain n t → All (λ c. 42 ≤ c) t
plain-tall zero_alone = each {c = 48} (omega arith) none
plain-tall (digits {c = c} l m a) = each {c = c} (omega arith) (all_of {P = Digit} {Q = Tall} (λ c h. omega arith) a)

pub number-tall : {z : ℤ} {t : List ℕ} → Number z t → All (λ c. 42 ≤ c) t
number-tall (unsigned l p) = plain-tall p
number-tall (negative l p) = each {c = 45} (omega arith) (plain-tall p)

pub simple-tall : {t : List ℕ} → Simple t → All (λ c. 42 ≤ c) t
simple-tall (is_word (word {c = c} l a)) = each {c = c} (omega arith) (all_of {P = Letter} {Q = Tall} (λ c h. omega arith) a)
simple-tall (is_number h) = number-tall h

pub all-at : {P : ℕ → Type 0} (l : List ℕ) (c : ℕ) (y : List ℕ) → All P (l ++ (c ∷ y)) → P c
all-at [] c y h = all_head h
all-at (b ∷ l) c y h = all-at l c y (all_tail h)

-- a closing bracket or a space
pub rest-low : {P : List ℕ → Type 0} {c : ℕ} {r : List ℕ} → Rest P (c ∷ r) → c ≤ 41
rest-low {P} {c} {r} h = by-text h refl
  where
    by-text : {t : List ℕ} → Rest P t → c ∷ r ≡ t → c ≤ 41
    by-text close e = let q : c ≡ 41 = heads e in omega arith
    by-text (item p k) e = let q : c ≡ 32 = heads e in omega arith

no-simple-start : (d : ℕ) (l : List ℕ) (c : ℕ) (y : List ℕ) → Simple l → Listed (Item d) (l ++ (c ∷ y)) → ⊥
no-simple-start d [] c y h g = simple-none h
no-simple-start d (b ∷ l) c y h g = by-text g refl
  where
    by-text : {t : List ℕ} → Listed (Item d) t → b ∷ (l ++ (c ∷ y)) ≡ t → ⊥
    by-text (listed p r) e =
        let q : 42 ≤ b = all_head (simple-tall h) in
        let k : b ≡ 40 = heads e in
        omega arith

list-start : (d : ℕ) (l : List ℕ) (c : ℕ) (y : List ℕ) → Listed (Item d) l → Listed (Item d) (l ++ (c ∷ y)) → ⊥
list-start d l c y h g = by-text h refl
  where
    by-text : {t : List ℕ} → Listed (Item d) t → l ≡ t → ⊥
    by-text (listed {w = x} {t = z} p r) e =
        listed-alone d (x ++ z) c y (listed p r) (subst (λ (u : List ℕ). Listed (Item d) (u ++ (c ∷ y))) e g)

list-simple : (d : ℕ) (l : List ℕ) (c : ℕ) (y : List ℕ) → Listed (Item d) l → Simple (l ++ (c ∷ y)) → ⊥
list-simple d l c y h g = by-text h refl
  where
    by-text : {t : List ℕ} → Listed (Item d) t → l ≡ t → ⊥
    by-text (listed {w = x} {t = z} p r) e =
        let q : 42 ≤ 40 = all_head (subst (λ (u : List ℕ). All Tall (u ++ (c ∷ y))) e (simple-tall g)) in
        omega arith

-- an item is followed by what no item goes on with
pub item-separate : (d : ℕ) → Separate (Item d) (Rest (Item d))
item-separate zero = record { apart = λ l c y r p q k. let a : 42 ≤ c = all-at l c y (simple-tall q) in let b = rest-low k in omega arith }
item-separate (suc d) = record { apart = λ l c y r p q k. by-item l c y p q (rest-low k) }
  where
    by-item : (l : List ℕ) (c : ℕ) (y : List ℕ) → Item (suc d) l → Item (suc d) (l ++ (c ∷ y)) → c ≤ 41 → ⊥
    by-item l c y (inl p) (inl q) k = let a : 42 ≤ c = all-at l c y (simple-tall q) in omega arith
    by-item l c y (inl p) (inr q) k = no-simple-start d l c y p q
    by-item l c y (inr p) (inl q) k = list-simple d l c y p q
    by-item l c y (inr p) (inr q) k = list-start d l c y p q
