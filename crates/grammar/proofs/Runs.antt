-- The machine goes by the grammar: a text is the grammar's exactly when the machine ends with nothing more asked, and a text begins
-- some text of the grammar exactly when the machine is alive after it.
use Prim.Native.Nat.{ℕ, suc, ◌+◌}
use mathlib.Core.Path.{◌≡◌, refl, sym, ◌∙◌, ap, subst}
use mathlib.Core.Bool.{Bool, true, false, cond}
use mathlib.Core.Logic.{inl, inr}
use mathlib.Core.List.{List, [], ◌∷◌, ◌++◌, append_assoc, append-nil, head-eq_of_cons-eq as heads, tail-eq_of_cons-eq as tails}
use native.Mathlib.Omega.{arith}
use lib.IntN.{ℤ}
use lib.Dec.{eqb}
use lib.ListN.{length, length-append}
use borrow.Author.Tests.{eqb-true, eq-eqb}
use Rattle.definitions.specs.Text.{Note, note, Form, is_byte, Kind, LineOf, Heads, no_head, head, RecordKind, kind_of, Entry, Records, no_record, a_note, a_record, Text, CanGoOn, head_numbers, Part, byte, spaced, ended, nothing, is_spaced, is_ended, tail_of, base_line, scaled_line, at_line, full_line}
use Rattle.definitions.specs.declared.Numbers.{Numbers}
use Rattle.grammar.proofs.Machine.{Sym, line, entry, Ev, num, rec, Delta, halt, go, emit, push, δ, step_k, Cfg, dead, live, enter, step, runs, start, Alive, nums, flat}
use Rattle.grammar.proofs.Cats.{no-cons}
use Rattle.grammar.proofs.Residue.{Lang, Gives, EntryOf, L, Seq, Next}
use Rattle.grammar.proofs.Forward.{forward, note-first}
use Rattle.grammar.proofs.Backward.{backward}
use Rattle.grammar.proofs.Live.{Sounds, SoundD, at-halt, at-go, at-emit, seq-some, not_none, sound-step}

-- with nothing more asked: notes and record lines
pub record Base (ws : List Ev) (u : List ℕ) : Type 0 where
  pub entries : List Entry
  pub is : ws ≡ flat entries
  pub lines : Records entries u

pub seq-append : (t k : List Sym) (B : Lang) → Seq (t ++ k) B ≡ Seq t (Seq k B)
seq-append [] k B = refl
seq-append (s ∷ t) k B = ap (L s) (seq-append t k B)

push-next : (d : Delta) (k : List Sym) (B : Lang) (ws : List Ev) (u : List ℕ) → Next (push d k) B ws u ≡ Next d (Seq k B) ws u
push-next halt k B ws u = refl
push-next (go t) k B ws u = ap (λ (B : Lang). B ws u) (seq-append t k B)
push-next (emit z t) k B ws u = ap (λ (B : Lang). Gives z B ws u) (seq-append t k B)

pub records-cons : {rs : List Entry} {b : ℕ} {u : List ℕ} → Records rs (b ∷ u) → EntryOf Base (flat rs) (b ∷ u)
records-cons {rs} {b} {u} h = by-text h refl
  where
    by-text : {rs : List Entry} {t : List ℕ} → Records rs t → t ≡ b ∷ u → EntryOf Base (flat rs) (b ∷ u)
    by-text no_record e = no-cons e
    by-text (a_note {rs = rs} {t = t} {u = v} n ns) e = inl (record { left = t; right = v; is = n; then = record { entries = rs; is = refl; lines = ns }; cut = sym e })
    by-text (a_record {r = r} {vs = vs} {rs = rs} {t = t} {u = v} f ns) e =
        inr (record {
          kind =
              r;
          here = t;
          after = v;
          found = vs;
          others = flat rs;
          this = f;
          gives = refl;
          then = record { entries = rs; is = refl; lines = ns };
          cut = sym e;
        })

pub entry_first : {B : Lang} {ws : List Ev} {b : ℕ} {u : List ℕ} → EntryOf B ws (b ∷ u) → b ≡ 40
entry_first (inl h) = note-first h
entry_first {b = b} {u = u} (inr h) = by_form h.this h.cut
  where
    by_form : {vs : List ℤ} {t : List ℕ} → LineOf (kind_of h.kind) vs t → b ∷ u ≡ t ++ h.after → b ≡ 40
    by_form (is_byte f) e = heads e

entry-base : {ws : List Ev} {u : List ℕ} → EntryOf Base ws u → Base ws u
entry-base (inl h) = record { entries = h.then.entries; is = h.then.is; lines = rw h.cut (a_note h.is h.then.lines) }
entry-base (inr h) =
    record {
      entries = record { kind = h.kind; fields = h.found } ∷ h.then.entries;
      is = h.gives ∙ ap (λ (o : List Ev). rec h.kind ∷ nums h.found o) h.then.is;
      lines = rw h.cut (a_record h.this h.then.lines);
    }

module _ (ws : List Ev) (b : ℕ) (u : List ℕ) where
  stack-forward : (k : List Sym) → Seq k Base ws (b ∷ u) → Next (step_k k b) Base ws u
  unfolding step_k
  stack-forward [] h =
      let c : EntryOf Base ws (b ∷ u) = rw h.is (records-cons h.lines) in
      let e = entry_first c in
      rw (eq-eqb b 40 e) (subst (λ (x : ℕ). EntryOf Base ws (x ∷ u)) e c)
  stack-forward (s ∷ k) h = rw (push-next (δ s b) k Base ws u) (forward s (Seq k Base) ws b u h)

  base_back : (t : Bool) → eqb b 40 ≡ t → Next (cond t (go (entry ∷ [])) halt) Base ws u → Base ws (b ∷ u)
  base_back true e h = rw (eqb-true b 40 e) (entry-base h)
  base_back false e h = absurd h

  stack-backward : (k : List Sym) → Sounds k → Next (step_k k b) Base ws u → Seq k Base ws (b ∷ u)
  unfolding step_k
  stack-backward [] ok h = base_back (eqb b 40) refl h
  stack-backward (s ∷ k) ok h = backward (Seq k Base) ws b u s ok.0 (rw (push-next (δ s b) k Base ws u) at h)

-- what may come after the machine's state, if the numbers are to be fin in the end
record After (g : List Ev) (k : List Sym) (fin : List Ev) (u : List ℕ) : Type 0 where
  others : List Ev
  is : fin ≡ g ++ others
  then : Seq k Base others u

abbrev M : Cfg → List Ev → List ℕ → Type 0
M dead fin u = ⊥
M (live g k) fin u = After g k fin u

abbrev Fine : Cfg → Type 0
Fine dead = Unit {0}
Fine (live g k) = Sounds k

enter-forward : (g : List Ev) (d : Delta) (fin ws : List Ev) (u : List ℕ) → fin ≡ g ++ ws → Next d Base ws u → M (enter g d) fin u
enter-forward g halt fin ws u e h = h
enter-forward g (go k) fin ws u e h = record { others = ws; is = e; then = h }
enter-forward g (emit z k) fin ws u e h = record { others = h.others; is = cc (e, h.is, append_assoc g (z ∷ []) h.others); then = h.then }

step-forward : (c : Cfg) (fin : List Ev) (b : ℕ) (u : List ℕ) → M c fin (b ∷ u) → M (step c b) fin u
unfolding step
step-forward dead fin b u h = h
step-forward (live g k) fin b u h = enter-forward g (step_k k b) fin h.others u h.is (stack-forward h.others b u k h.then)

record Entered (g : List Ev) (d : Delta) (fin : List Ev) (u : List ℕ) : Type 0 where
  others : List Ev
  is : fin ≡ g ++ others
  then : Next d Base others u

enter-backward : (g : List Ev) (d : Delta) (fin : List Ev) (u : List ℕ) → M (enter g d) fin u → Entered g d fin u
enter-backward g halt fin u h = absurd h
enter-backward g (go k) fin u h = record { others = h.others; is = h.is; then = h.then }
enter-backward g (emit z k) fin u h =
    record {
      others = z ∷ h.others;
      is = cc (h.is, append_assoc g (z ∷ []) h.others);
      then = record { others = h.others; is = refl; then = h.then };
    }

step-backward : (c : Cfg) (fin : List Ev) (b : ℕ) (u : List ℕ) → Fine c → M (step c b) fin u → M c fin (b ∷ u)
unfolding step
step-backward dead fin b u ok h = h
step-backward (live g k) fin b u ok h =
    let e = enter-backward g (step_k k b) fin u h in
    record { others = e.others; is = e.is; then = stack-backward e.others b u k ok e.then }

sounds-append : (t k : List Sym) → Sounds t → Sounds k → Sounds (t ++ k)
sounds-append [] k p q = q
sounds-append (s ∷ t) k p q = (p.0, sounds-append t k p.1 q)

fine-push : (g : List Ev) {d : Delta} (k : List Sym) → SoundD d → Sounds k → Fine (enter g (push d k))
fine-push g k at-halt h = tt
fine-push g k (at-go {k = t} p) h = sounds-append t k p h
fine-push g k (at-emit {k = t} p) h = sounds-append t k p h

fine-base : (g : List Ev) (t : Bool) → Fine (enter g (cond t (go (entry ∷ [])) halt))
fine-base g true = (tt, tt)
fine-base g false = tt

fine-step : (c : Cfg) (b : ℕ) → Fine c → Fine (step c b)
unfolding step step_k
fine-step dead b h = tt
fine-step (live g []) b h = fine-base g (eqb b 40)
fine-step (live g (s ∷ k)) b h = fine-push g k (sound-step s b) h.1

fine-runs : (t : List ℕ) (c : Cfg) → Fine c → Fine (runs c t)
unfolding runs
fine-runs [] c h = h
fine-runs (b ∷ t) c h = fine-runs t (step c b) (fine-step c b h)

runs-forward : (t : List ℕ) (c : Cfg) (fin : List Ev) (u : List ℕ) → M c fin (t ++ u) → M (runs c t) fin u
unfolding runs
runs-forward [] c fin u h = h
runs-forward (b ∷ t) c fin u h = runs-forward t (step c b) fin u (step-forward c fin b (t ++ u) h)

runs-backward : (t : List ℕ) (c : Cfg) (fin : List Ev) (u : List ℕ) → Fine c → M (runs c t) fin u → M c fin (t ++ u)
unfolding runs
runs-backward [] c fin u ok h = h
runs-backward (b ∷ t) c fin u ok h = step-backward c fin b (t ++ u) ok (runs-backward t (step c b) fin u (fine-step c b ok) h)

pub nums-append : (vs ws : List ℤ) (os : List Ev) → nums (vs ++ ws) os ≡ nums vs (nums ws os)
nums-append [] ws os = refl
nums-append (z ∷ vs) ws os = ap (λ (o : List Ev). num z ∷ o) (nums-append vs ws os)

abbrev pub lines : List Kind → List Sym
lines [] = []
lines (k ∷ ks) = line k ∷ lines ks

pub heads-seq : {ks : List Kind} {g : List ℤ} {t : List ℕ} → Heads ks g t → (B : Lang) (os : List Ev) (r : List ℕ) → B os r → Seq (lines ks) B (nums g os) (t ++ r)
heads-seq no_head B os r h = h
heads-seq (head {vs = vs} {ws = ws} {n = n} {t = t} {u = u} ns f hs) B os r h =
    record {
      before = n;
      here = t;
      after = u ++ r;
      found = vs;
      others = nums ws os;
      notes = ns;
      this = f;
      gives = nums-append vs ws os;
      then = heads-seq hs B os r h;
      cut = append_assoc n (t ++ u) r ∙ ap (λ (l : List ℕ). n ++ l) (append_assoc t u r);
    }

record Headed (ks : List Kind) (B : Lang) (ws : List Ev) (u : List ℕ) : Type 0 where
  found : List ℤ
  others : List Ev
  here : List ℕ
  after : List ℕ
  is : Heads ks found here
  gives : ws ≡ nums found others
  then : B others after
  cut : u ≡ here ++ after

seq-heads : (ks : List Kind) (B : Lang) (ws : List Ev) (u : List ℕ) → Seq (lines ks) B ws u → Headed ks B ws u
seq-heads [] B ws u h = record { found = []; others = ws; here = []; after = u; is = no_head; gives = refl; then = h; cut = refl }
seq-heads (k ∷ ks) B ws u h =
    let r = seq-heads ks B h.others h.after h.then in
    record {
      found = h.found ++ r.found;
      others = r.others;
      here = h.before ++ (h.here ++ r.here);
      after = r.after;
      is = head h.notes h.this r.is;
      gives = h.gives ∙ ap (λ (o : List Ev). nums h.found o) r.gives ∙ sym (nums-append h.found r.found r.others);
      then = r.then;
      cut =
          h.cut ∙ ap (λ (l : List ℕ). h.before ++ (h.here ++ l)) r.cut
          ∙ sym (append_assoc h.before (h.here ++ r.here) r.after ∙ ap (λ (l : List ℕ). h.before ++ l) (append_assoc h.here r.here r.after));
    }

text-after : {n : Numbers} {rs : List Entry} {t : List ℕ} → Text n rs t → M start (nums (head_numbers n) (flat rs)) t
text-after {n} {rs} h =
    record {
      others = nums (head_numbers n) (flat rs);
      is = refl;
      then = rw h.parts (heads-seq h.heads Base (flat rs) h.bottom (record { entries = rs; is = refl; lines = h.lines }));
    }

-- how many numbers stand in a pattern, and in the lines of these kinds
abbrev pub fields_in : List Part → ℕ
fields_in [] = 0
fields_in (byte c ∷ ps) = fields_in ps
fields_in (spaced ∷ ps) = suc (fields_in ps)
fields_in (ended ∷ ps) = suc (fields_in ps)

abbrev pub fields_of : List Kind → ℕ
fields_of [] = 0
fields_of (k ∷ ks) = fields_in (tail_of k) + fields_of ks

pub form-count : {ps : List Part} {vs : List ℤ} {t : List ℕ} → Form ps vs t → length vs ≡ fields_in ps
form-count nothing = refl
form-count (is_byte f) = form-count f
form-count (is_spaced n f) = ap suc (form-count f)
form-count (is_ended n f) = ap suc (form-count f)

pub heads-count : {ks : List Kind} {vs : List ℤ} {t : List ℕ} → Heads ks vs t → length vs ≡ fields_of ks
heads-count no_head = refl
heads-count (head {vs = vs} {ws = ws} n f h) = length-append vs ws ∙ (cc (form-count f, heads-count h))

-- eight numbers are the geometry's
pub record Eight (vs : List ℤ) : Type 0 where
  pub numbers : Numbers
  pub is : vs ≡ head_numbers numbers

pub eight : (vs : List ℤ) → length vs ≡ 8 → Eight vs
eight [] e = absurd (omega arith)
eight (a ∷ []) e = absurd (omega arith)
eight (a ∷ b ∷ []) e = absurd (omega arith)
eight (a ∷ b ∷ c ∷ []) e = absurd (omega arith)
eight (a ∷ b ∷ c ∷ d ∷ []) e = absurd (omega arith)
eight (a ∷ b ∷ c ∷ d ∷ i ∷ []) e = absurd (omega arith)
eight (a ∷ b ∷ c ∷ d ∷ i ∷ j ∷ []) e = absurd (omega arith)
eight (a ∷ b ∷ c ∷ d ∷ i ∷ j ∷ k ∷ []) e = absurd (omega arith)
eight (a ∷ b ∷ c ∷ d ∷ i ∷ j ∷ k ∷ l ∷ []) e =
    record {
      numbers = record { horizontal = record { base = a; scaled = c; offset = i; full = k }; vertical = record { base = b; scaled = d; offset = j; full = l } };
      is = refl;
    }
eight (a ∷ b ∷ c ∷ d ∷ i ∷ j ∷ k ∷ l ∷ m ∷ vs) e = absurd (omega arith)

after_text :
    {fin : List Ev} {t : List ℕ} {C : Type 0} → M start fin t → ((n : Numbers) (rs : List Entry) → fin ≡ nums (head_numbers n) (flat rs) → Text n rs t → C) → C
after_text {fin} {t} h k =
    let l = seq-heads (base_line ∷ scaled_line ∷ at_line ∷ full_line ∷ []) Base h.others t h.then in
    let e = eight l.found (heads-count l.is) in
    k e.numbers l.then.entries (h.is ∙ l.gives ∙ cc (e.is, l.then.is))
    (record { top = l.here; bottom = l.after; heads = rw e.is at l.is; lines = l.then.lines; parts = l.cut })

no-note-nil : {t : List ℕ} (v : List ℕ) → Note t → [] ≡ t ++ v → ⊥
no-note-nil v (note r) e = no-cons e

records-none : {rs : List Entry} → Records rs [] → flat rs ≡ []
records-none h = by-text h refl
  where
    by-note : {t : List ℕ} {C : Type 0} (v : List ℕ) → Note t → [] ≡ t ++ v → C
    by-note v n e = absurd (no-note-nil v n e)

    by_form : (r : RecordKind) {vs : List ℤ} {t : List ℕ} (v : List ℕ) → LineOf (kind_of r) vs t → [] ≡ t ++ v → ⊥
    by_form r v (is_byte f) e = no-cons e

    by-text : {rs : List Entry} {t : List ℕ} → Records rs t → [] ≡ t → flat rs ≡ []
    by-text no_record e = refl
    by-text (a_note {u = v} n ns) e = by-note v n e
    by-text (a_record {r = r} {u = v} f ns) e = absurd (by_form r v f e)

after-end : (c : Cfg) (fin : List Ev) → M c fin [] → c ≡ live fin []
after-end dead fin h = absurd h
after-end (live g []) fin h = ap (λ (g : List Ev). live g []) (sym (h.is ∙ ap (λ (o : List Ev). g ++ o) (h.then.is ∙ records-none h.then.lines) ∙ append-nil g))
after-end (live g (s ∷ k)) fin h = absurd (not_none s (Seq k Base) h.others h.then)

-- a text of the grammar ends with nothing more asked
pub text-ends : {n : Numbers} {rs : List Entry} {t : List ℕ} → Text n rs t → runs start t ≡ live (nums (head_numbers n) (flat rs)) []
text-ends {n} {rs} {t} h =
    let fin = nums (head_numbers n) (flat rs) in
    after-end (runs start t) fin (runs-forward t start fin [] (subst (λ (l : List ℕ). M start fin l) (sym (append-nil t)) (text-after h)))

fine-start : Fine start
fine-start = (tt, (tt, (tt, (tt, tt))))

-- and a text that ends so is the grammar's
ends-text :
    {fin :
    List Ev} {t : List ℕ} {C : Type 0} → runs start t ≡ live fin [] → ((n : Numbers) (rs : List Entry) → fin ≡ nums (head_numbers n) (flat rs)
    → Text n rs t → C) → C
ends-text {fin} {t} e k =
    let m : M (live fin []) fin [] = record { others = []; is = sym (append-nil fin); then = record { entries = []; is = refl; lines = no_record } } in
    let b : M start fin (t ++ []) = runs-backward t start fin [] fine-start (rw e m) in
    after_text (rw append-nil at b) k

after-alive : (c : Cfg) (fin : List Ev) (u : List ℕ) → M c fin u → Alive c
after-alive dead fin u h = h
after-alive (live g k) fin u h = tt

record Goes (c : Cfg) : Type 0 where
  fin : List Ev
  text : List ℕ
  is : M c fin text

alive-goes : (c : Cfg) → Fine c → Alive c → Goes c
alive-goes dead ok h = absurd h
alive-goes (live g k) ok h =
    let s = seq-some k ok Base (record { numbers = []; text = []; is = record { entries = []; is = refl; lines = no_record } }) in
    record { fin = g ++ s.numbers; text = s.text; is = record { others = s.numbers; is = refl; then = s.is } }

-- what begins a text of the grammar leaves the machine alive
pub goes-alive : {p : List ℕ} → CanGoOn p → Alive (runs start p)
goes-alive {p} h = after-alive (runs start p) _ h.rest (runs-forward p start _ h.rest (text-after h.belongs.text))

-- and what leaves it alive begins a text of the grammar
pub alive-can : {p : List ℕ} → Alive (runs start p) → CanGoOn p
alive-can {p} h =
    let g = alive-goes (runs start p) (fine-runs p start fine-start) h in
    after_text (runs-backward p start g.fin g.text fine-start g.is)
    (λ n rs e t. record { rest = g.text; belongs = record { numbers = n; entries = rs; text = t } })

-- ---- what the machine holds says which numbers and record lines they were
unlike : {C : Type 0} {z : ℤ} {r : RecordKind} {xs ys : List Ev} → num z ∷ xs ≡ rec r ∷ ys → C
unlike e = absurd (let z : ◌≡◌ {A = ℕ} 0 1 = cc in omega arith)

-- numbers, up to the first record line
pub same-nums : (g h : List ℤ) (rs qs : List Entry) → nums g (flat rs) ≡ nums h (flat qs) → (g ≡ h) × (flat rs ≡ flat qs)
same-nums [] [] rs qs e = (refl, e)
same-nums [] (z ∷ h) [] qs e = no-cons e
same-nums [] (z ∷ h) (r ∷ rs) qs e = unlike (sym e)
same-nums (z ∷ g) [] rs [] e = no-cons (sym e)
same-nums (z ∷ g) [] rs (q ∷ qs) e = unlike e
same-nums (z ∷ g) (y ∷ h) rs qs e =
    let t = same-nums g h rs qs (tails e) in
    let k : num z ≡ num y = heads e in
    let j : g ≡ h = t.0 in
    let i : z ≡ y = cc in
    (cc, t.1)

pub same-flat : (rs qs : List Entry) → flat rs ≡ flat qs → rs ≡ qs
same-flat [] [] e = refl
same-flat [] (q ∷ qs) e = no-cons e
same-flat (r ∷ rs) [] e = no-cons (sym e)
same-flat (r ∷ rs) (q ∷ qs) e =
    let t = same-nums r.fields q.fields rs qs (tails e) in
    let k : rec r.kind ≡ rec q.kind = heads e in
    let i : r.kind ≡ q.kind = cc in
    let j : r.fields ≡ q.fields = t.0 in
    (λ (x : 𝕀). record { kind = i x; fields = j x } ∷ same-flat rs qs t.1 x)

same_numbers : (n m : Numbers) → head_numbers n ≡ head_numbers m → n ≡ m
same_numbers n m e =
    let a : n.horizontal.base ≡ m.horizontal.base = cc in
    let b : n.vertical.base ≡ m.vertical.base = cc in
    let c : n.horizontal.scaled ≡ m.horizontal.scaled = cc in
    let d : n.vertical.scaled ≡ m.vertical.scaled = cc in
    let i : n.horizontal.offset ≡ m.horizontal.offset = cc in
    let j : n.vertical.offset ≡ m.vertical.offset = cc in
    let k : n.horizontal.full ≡ m.horizontal.full = cc in
    let l : n.vertical.full ≡ m.vertical.full = cc in
    (λ (x : 𝕀). record { horizontal = record { base = a x; scaled = c x; offset = i x; full = k x }; vertical = record { base = b x; scaled = d x; offset = j x; full = l x } })

pub ends-text-as : (n : Numbers) (rs : List Entry) {t : List ℕ} → runs start t ≡ live (nums (head_numbers n) (flat rs)) [] → Text n rs t
ends-text-as n rs {t} e =
    ends-text e
    (λ m qs q u.
    let s = same-nums (head_numbers n) (head_numbers m) rs qs q in
    let j = s.0 in
    let i : n ≡ m = same_numbers n m s.0 in
    rw (i, same-flat rs qs s.1) u)

-- a text has one reading
pub one-reading : {n m : Numbers} {rs qs : List Entry} {t : List ℕ} → Text n rs t → Text m qs t → (n ≡ m) × (rs ≡ qs)
one-reading {n} {m} {rs} {qs} a b =
    let p = text-ends a in
    let q = text-ends b in
    let e : nums (head_numbers n) (flat rs) ≡ nums (head_numbers m) (flat qs) = cc in
    let s = same-nums (head_numbers n) (head_numbers m) rs qs e in
    (same_numbers n m s.0, same-flat rs qs s.1)
