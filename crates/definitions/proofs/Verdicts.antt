-- Laws of verdicts: tests one after the other, and what a call makes of a verdict (specs/Refusals, specs/Calls). Assumes nothing.
use Prim.Native.Nat.{ℕ}
use mathlib.Core.Path.{◌≡◌, refl, sym, ap, subst, ◌∙◌}
use mathlib.Core.Bool.{Bool, true, false, not, false≢true}
use mathlib.Core.List.{List, [], ◌∷◌, ◌++◌}
use native.Mathlib.Omega.{arith}
use lib.Dec.{eqb}
use lib.IntN.{ℤ}
use borrow.Author.Tests.{eq-eqb}
use Rattle.definitions.specs.declared.Refusal.{Refusal}
use Rattle.definitions.specs.Replies.{Verdict, Accepted}
use Rattle.std.specs.Prelude.{Err as Refused}
use Rattle.definitions.specs.Basics.{pick, all_of}
use Rattle.definitions.specs.Refusals.{Test, verdict_of}
use Rattle.definitions.specs.Calls.{Outcome, by_verdict}
use Rattle.definitions.proofs.Choices.{yes, no, both_true}

-- ---- tests one after the other
-- where the whole is accepted, the first test does not apply and the rest is accepted
pub first-passed : (t : Test) (ts : List Test) → verdict_of (t ∷ ts) ≡ Accepted → (t.applies ≡ false) × (verdict_of ts ≡ Accepted)
unfolding pick
first-passed t ts = by t.applies
  where
    by : (b : Bool) → pick b (Refused t.gives) (verdict_of ts) ≡ Accepted → (b ≡ false) × (verdict_of ts ≡ Accepted)
    by true e = absurd (let z : ◌≡◌ {A = ℕ} 0 1 = cc in omega arith)
    by false e = (refl, e)

pub both-passed : (xs ys : List Test) → verdict_of (xs ++ ys) ≡ Accepted → (verdict_of xs ≡ Accepted) × (verdict_of ys ≡ Accepted)
unfolding pick
both-passed [] ys e = (refl, e)
both-passed (x ∷ xs) ys e =
    let h = first-passed x (xs ++ ys) e in
    let k = both-passed xs ys h.1 in
    (pass x.applies h.0 k.0, k.1)
  where
    pass : (b : Bool) → b ≡ false → verdict_of xs ≡ Accepted → pick b (Refused x.gives) (verdict_of xs) ≡ Accepted
    pass true p q = cc
    pass false p q = q

-- the verdict of the first tests, if it refuses, is that of the whole; else the rest's is
pub then-verdict : (xs ys : List Test) → verdict_of xs ≡ Accepted → verdict_of (xs ++ ys) ≡ verdict_of ys
unfolding pick
then-verdict [] ys e = refl
then-verdict (x ∷ xs) ys e =
    let h = first-passed x xs e in
    rw h.0 (then-verdict xs ys h.1)

pub refused-first : (xs ys : List Test) (r : Refusal) → verdict_of xs ≡ Refused r → verdict_of (xs ++ ys) ≡ Refused r
unfolding pick
refused-first [] ys r e = absurd (let z : ◌≡◌ {A = ℕ} 0 1 = cc in omega arith)
refused-first (x ∷ xs) ys r e = by x.applies (λ q. refused-first xs ys r q) e
  where
    by : (b : Bool) → (verdict_of xs ≡ Refused r → verdict_of (xs ++ ys) ≡ Refused r) → pick b (Refused x.gives) (verdict_of xs) ≡ Refused r → pick b (Refused x.gives) (verdict_of (xs ++ ys)) ≡ Refused r
    by true f p = p
    by false f p = f p

-- what holds of the refusals that the tests give holds of the verdict's
abbrev pub EachGives : (Refusal → Type 0) → List Test → Type 0
EachGives P [] = Unit
EachGives P (t ∷ ts) = P t.gives × EachGives P ts

pub given_by : (P : Refusal → Type 0) (ts : List Test) → EachGives P ts → (r : Refusal) → verdict_of ts ≡ Refused r → P r
unfolding pick
given_by P [] h r e = absurd (let z : ◌≡◌ {A = ℕ} 0 1 = cc in omega arith)
given_by P (t ∷ ts) h r e = by t.applies (given_by P ts h.1 r) e
  where
    by : (b : Bool) → (verdict_of ts ≡ Refused r → P r) → pick b (Refused t.gives) (verdict_of ts) ≡ Refused r → P r
    by true f p = let q : t.gives ≡ r = cc in subst P q h.0
    by false f p = f p

-- a refusal by a number that the first tests do not give comes of the rest
pub refused-later : (number : ℕ) (xs ys : List Test) (r : Refusal) → all_of (λ t. not (eqb t.gives.number number)) xs ≡ true → r.number ≡ number → verdict_of (xs ++ ys) ≡ Refused r
    → (verdict_of xs ≡ Accepted) × (verdict_of ys ≡ Refused r)
unfolding all_of
refused-later number [] ys r h k e = (refl, e)
refused-later number (x ∷ xs) ys r h k e =
    let both = both_true (not (eqb x.gives.number number)) (all_of (λ t. not (eqb t.gives.number number)) xs) h in
    by x.applies refl both.0 (refused-later number xs ys r both.1 k)
  where
    by : (b : Bool) → x.applies ≡ b → not (eqb x.gives.number number) ≡ true → (verdict_of (xs ++ ys) ≡ Refused r → (verdict_of xs ≡ Accepted) × (verdict_of ys ≡ Refused r))
        → (verdict_of (x ∷ xs) ≡ Accepted) × (verdict_of ys ≡ Refused r)
    by true w other later =
        let p : x.gives ≡ r = cc (sym (yes _ _ w) ∙ e) in
        absurd (false≢true (sym (ap not (eq-eqb x.gives.number number (ap (λ (q : Refusal). q.number) p ∙ k))) ∙ other))
    by false w other later = let l = later (sym (no _ _ w) ∙ e) in (no _ _ w ∙ l.0, l.1)

-- ---- a call's outcome
-- a reply that is none of a refusal comes of an accepted verdict
pub reply-accepted : {Reply : Type 0} (v : Verdict) (refused : Refusal → Reply) (words : List ℤ) (made : Outcome Reply) (reply : Reply) → ((r : Refusal) → refused r ≡ reply → ⊥)
    → (by_verdict v refused words made).reply ≡ reply → v ≡ Accepted
reply-accepted Accepted refused words made reply n e = refl
reply-accepted (Refused r) refused words made reply n e = absurd (n r e)

-- and a reply that is one of a refusal comes of a verdict that refuses
pub reply-refused : {Reply : Type 0} (v : Verdict) (refused : Refusal → Reply) (words : List ℤ) (made : Outcome Reply) (r : Refusal)
    → ((q : Refusal) → refused q ≡ refused r → q ≡ r) → (made.reply ≡ refused r → ⊥) → (by_verdict v refused words made).reply ≡ refused r → v ≡ Refused r
reply-refused Accepted refused words made r same n e = absurd (n e)
reply-refused (Refused q) refused words made r same n e = ap Refused (same q e)
