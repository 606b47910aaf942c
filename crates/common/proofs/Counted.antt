-- The counts of the macroblocks made so far. Assumes nothing.
use Prim.Native.Nat.{ℕ, ◌+◌}
use mathlib.Core.Path.{◌≡◌, refl, sym, ap, ◌∙◌}
use native.Mathlib.Numerals.{add-one}
use Rattle.definitions.specs.declared.Answer.{Answer}
use Rattle.definitions.specs.declared.Answer.TheVariants.{Inherited, Intra, Outside}
use Rattle.definitions.specs.declared.Counts.{Counts}
use Rattle.common.specs.declared.counts.Sort.{Sort}
use Rattle.common.specs.declared.counts.Sort.TheVariants.{Inherited as SortInherited, Intra as SortIntra, Outside as SortOutside}
use Rattle.common.specs.Sorts.{sort_of}
use Rattle.definitions.specs.Basics.{up_to}
use Rattle.definitions.specs.Answer.{Made}
use Rattle.definitions.specs.Calls.{counted, counts_of, no_counts, sum_of}
use Rattle.definitions.proofs.Counting.{counts-more, counts-sum}

-- one more of a sort is one more of an answer that has it
abbrev more : Sort → Counts → Counts
more SortInherited c = record { inherited = c.inherited + 1; intra = c.intra; outside = c.outside }
more SortIntra c = record { inherited = c.inherited; intra = c.intra + 1; outside = c.outside }
more SortOutside c = record { inherited = c.inherited; intra = c.intra; outside = c.outside + 1 }

by-sort : (c : Counts) (a : Answer) → more (sort_of a) c ≡ counted a c
by-sort c Outside = refl
by-sort c (Intra b) = refl
by-sort c (Inherited b s) = refl

pub one_more : (c : Counts) {s : Sort} (a : Answer) → s ≡ sort_of a → more s c ≡ counted a c
one_more c a e = ap (λ (s : Sort). more s c) e ∙ by-sort c a

-- of the macroblocks up to one
module _ (f : ℕ → Made) where
  pub counts-none : no_counts ≡ counts_of (up_to 0 f)
  unfolding up_to counts_of
  counts-none = refl

  pub counts-next : (n : ℕ) (c next : Counts) (answer : Answer) → c ≡ counts_of (up_to n f) → answer ≡ (f n).answer → next ≡ counted answer c → next ≡ counts_of (up_to (n + 1) f)
  counts-next n c next answer so_far a e = e ∙ ((λ i. counted (a i) (so_far i)) ∙ (sym (counts-more n f) ∙ ap (λ (k : ℕ). counts_of (up_to k f)) (sym (add-one n))))

  pub counts-low : (n : ℕ) (c : Counts) → c ≡ counts_of (up_to n f) → sum_of c ≡ n
  counts-low n c e = ap sum_of e ∙ counts-sum n f
