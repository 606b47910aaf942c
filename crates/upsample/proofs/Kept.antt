-- The clauses of the one-macroblock call, where 1 to 7 refuse it and where they pass it. Assumes nothing.
use Prim.Native.Nat.{ℕ}
use mathlib.Core.Path.{◌≡◌, sym, ap, subst, ◌∙◌}
use mathlib.Core.List.{List}
use lib.IntN.{ℤ}
use Rattle.std.specs.Prelude.{Ok as At, Err as Wrong}
use Rattle.std.specs.Prelude.{Err as Declined}
use Rattle.definitions.specs.declared.Numbers.{Numbers}
use Rattle.definitions.specs.declared.Refusal.{Refusal}
use Rattle.definitions.specs.Replies.{MacroblockReply}
use Rattle.definitions.specs.Calls.{Outcome, macroblock_call}
use Rattle.upsample.specs.declared.site.Site.{Site}
use Rattle.upsample.specs.Promised.{SinglyPromised}
use Rattle.upsample.specs.Sited.{Callable, Placed, placing_of, site_call, site_of}
use Rattle.upsample.proofs.Promises.{singly-kept}
use Rattle.upsample.proofs.Staging.{right-place, wrong-place}

module _ (limit : ℕ) (n : Numbers) (base : List ℤ) (column row : ℤ) (words : List ℤ) where
  abbrev pub Kept : MacroblockReply → List ℤ → Type 0
  Kept reply out =
      (reply ≡ (macroblock_call limit n base column row words).reply)
      × ((out ≡ (macroblock_call limit n base column row words).words) × SinglyPromised limit n base column row words reply out)

  pub refused-kept : (r : Refusal) → placing_of n base column row words ≡ Wrong r → Kept (Declined r) words
  refused-kept r e = let h = wrong-place n base column row words limit r e in singly-kept limit n base column row words _ _ h.0 h.1

  module _ (p : Placed) (e : placing_of n base column row words ≡ At p) (s : Site) (is : s ≡ site_of p) where
    pub site-callable : Callable limit s base words
    site-callable = subst (λ (x : Site). Callable limit x base words) (sym is) (right-place n base column row words limit p e).0

    pub answered-kept : (reply : MacroblockReply) (out : List ℤ) → reply ≡ (site_call limit s base words).reply → out ≡ (site_call limit s base words).words → Kept reply out
    answered-kept reply out r w =
        let q = ap (λ (x : Site). site_call limit x base words) is ∙ (right-place n base column row words limit p e).1 in
        singly-kept limit n base column row words reply out (r ∙ ap (λ (o : Outcome MacroblockReply). o.reply) q) (w ∙ ap (λ (o : Outcome MacroblockReply). o.words) q)
