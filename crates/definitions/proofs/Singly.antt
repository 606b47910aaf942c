-- The picture call does what a one-macroblock call for each macroblock does (PictureBySingly of specs/Calls). Assumes nothing.
use Prim.Native.Nat.{ℕ, ◌+◌, ◌<◌}
use mathlib.Core.Path.{◌≡◌, refl, sym, ap, ◌∙◌}
use mathlib.Core.Bool.{Bool}
use mathlib.Core.List.{List}
use native.Mathlib.Omega.{arith}
use lib.IntN.{ℤ}
use lib.ListN.{length}
use Rattle.definitions.specs.declared.Numbers.{Numbers}
use Rattle.definitions.specs.declared.Answer.{Answer}
use Rattle.definitions.specs.declared.Answer.TheVariants.{Outside, Intra, Inherited}
use Rattle.definitions.specs.declared.Counts.{Counts}
use Rattle.definitions.specs.Replies.{MacroblockReply}
use Rattle.std.specs.Prelude.{Ok as Answered}
use Rattle.definitions.specs.Basics.{pick, how_many, up_to}
use Rattle.definitions.specs.Geometry.{axes_of}
use Rattle.definitions.specs.Record.{record_words, record_at}
use Rattle.definitions.specs.Answer.{Made}
use Rattle.definitions.specs.Calls.{Outcome, made_at, counted, no_counts, counts_of, sum_of, call_at, replies_inherited, replies_intra, replies_outside, PictureBySingly}
use Rattle.definitions.specs.Raster.{full_count}
use Rattle.definitions.proofs.Accepted.{column-within, row_within}
use Rattle.definitions.proofs.RecordLists.{first-length, record_of}
use Rattle.definitions.proofs.Counting.{counts-sum, counts-sort, as_many}
use Rattle.definitions.proofs.Demand.{Passed, passed, gives_made, made-length, counted-accepted, counted-made, picture-words, alone-accepted}

-- ---- one more of an answer's sort
more-inherited : (a : Answer) (c : Counts) → (counted a c).inherited ≡ c.inherited + pick (replies_inherited (Answered a)) 1 0
unfolding pick
more-inherited Outside c = omega arith
more-inherited (Intra n) c = omega arith
more-inherited (Inherited n s) c = refl

more-intra : (a : Answer) (c : Counts) → (counted a c).intra ≡ c.intra + pick (replies_intra (Answered a)) 1 0
unfolding pick
more-intra Outside c = omega arith
more-intra (Intra n) c = refl
more-intra (Inherited n s) c = omega arith

more-outside : (a : Answer) (c : Counts) → (counted a c).outside ≡ c.outside + pick (replies_outside (Answered a)) 1 0
unfolding pick
more-outside Outside c = refl
more-outside (Intra n) c = omega arith
more-outside (Inherited n s) c = omega arith

-- ---- the call at an address of a picture that is accepted
module _ (limit : ℕ) (n : Numbers) (base words : List ℤ) (p : Passed limit n words base) where
  abbrev total : ℕ
  total = full_count (axes_of n)

  abbrev made : ℕ → Made
  made = made_at (axes_of n) base

  pub call-gives : (a : ℕ) → a < total → (alone : List ℤ) → length alone ≡ record_words → call_at limit n base a alone ≡ record { reply = Answered (made a).answer; words = (made a).written }
  unfolding made_at
  call-gives a h alone l =
      gives_made limit n _ _ alone base (alone-accepted limit n words base _ _ (column-within n p.geometry a) (row_within n p.geometry a h) p alone l)

  -- a count is the number of calls of its sort
  count_by : (lent : ℕ → List ℤ) → ((a : ℕ) → a < total → length (lent a) ≡ record_words) → (field : Counts → ℕ) (sort : MacroblockReply → Bool) → field no_counts ≡ 0
      → ((a : Answer) (c : Counts) → field (counted a c) ≡ field c + pick (sort (Answered a)) 1 0)
      → field (counts_of (up_to total made)) ≡ how_many total (λ a. sort (call_at limit n base a (lent a)).reply)
  count_by lent l field sort none more =
      counts-sort field (λ a. sort (Answered a)) none more total made
      ∙ as_many total (λ a. sort (Answered (made a).answer)) (λ a. sort (call_at limit n base a (lent a)).reply)
      (λ a h. sym (ap (λ (o : Outcome MacroblockReply). sort o.reply) (call-gives a h (lent a) (l a h))))

pub picture-by-singly : (limit : ℕ) → PictureBySingly limit
picture-by-singly limit n base words counts lent e l =
    let g = axes_of n in
    let v = counted-accepted limit n words base counts e in
    let p = passed limit n words base v in
    let total = full_count g in
    let made = made_at g base in
    let same : counts ≡ counts_of (up_to total made) = cc (sym e ∙ counted-made limit n words base v) in
    let written = picture-words limit n words base v in
    record {
      inherited = ap (λ (c : Counts). c.inherited) same ∙ count_by limit n base words p lent l (λ c. c.inherited) replies_inherited refl more-inherited;
      intra = ap (λ (c : Counts). c.intra) same ∙ count_by limit n base words p lent l (λ c. c.intra) replies_intra refl more-intra;
      outside = ap (λ (c : Counts). c.outside) same ∙ count_by limit n base words p lent l (λ c. c.outside) replies_outside refl more-outside;
      sum = ap sum_of same ∙ counts-sum total made;
      words-length = ap length written ∙ first-length made (λ m. m.written) (made-length g base) total;
      words_same = λ a h. ap (λ (w : List ℤ). record_at w a) written ∙ (record_of made (λ m. m.written) (made-length g base) total a h ∙ sym (ap (λ (o : Outcome MacroblockReply). o.words) (call-gives limit n base words p a h (lent a) (l a h))));
    }
