-- What next and totals hand over is as the session's laws and demand 3 say (specs/Promised). Assumes nothing.
use mathlib.Core.Path.{◌≡◌, sym, ap, ◌∙◌}
use mathlib.Core.Bool.{true, false}
use mathlib.Core.List.{List}
use lib.IntN.{ℤ, pos}
use Rattle.definitions.specs.declared.Numbers.{Numbers}
use Rattle.definitions.specs.declared.Counts.{Counts}
use Rattle.definitions.specs.Replies.{MacroblockReply}
use Rattle.definitions.specs.Geometry.{axes_of}
use Rattle.definitions.specs.Raster.{column_at, row_at}
use Rattle.definitions.specs.Record.{narrow}
use Rattle.definitions.specs.Calls.{Outcome, macroblock_call, sum_of}
use Rattle.definitions.specs.Session.{State, begun, finished, totals_of, next_call, sound}
use Rattle.definitions.proofs.Sessions.{totals-right, next-going}
use Rattle.definitions.proofs.SessionRefusals.{state-these}
use Rattle.upsample.specs.Promised.{SinglyPromised}
use Rattle.upsample.proofs.Promises.{singly-promised}
use Rattle.session.specs.declared.Session.{Session}
use Rattle.session.specs.Values.{state_of}
use Rattle.session.specs.Promised.{NextPromised, TotalsPromised}
use Rattle.session.proofs.Values.{only-values}

module _ (s : State) (h : sound s ≡ true) (base words : List ℤ) (reply : MacroblockReply) (new : List ℤ) where
  pub next-promised : reply ≡ (next_call s base words).reply → new ≡ (next_call s base words).words → NextPromised s base words reply new
  next-promised r w = record { demand3 = kept; refusals = λ x e. state-these s h base words x (sym r ∙ e) }
    where
      kept : (n : Numbers) (c : Counts) → s ≡ begun n c → finished s ≡ false
          → SinglyPromised narrow n base (pos (column_at (axes_of n) (sum_of c))) (pos (row_at (axes_of n) (sum_of c))) words reply new
      kept n c e f =
          let q : next_call s base words ≡ macroblock_call narrow n base (pos (column_at (axes_of n) (sum_of c))) (pos (row_at (axes_of n) (sum_of c))) words =
          ap (λ (t : State). next_call t base words) e ∙ next-going n c base words (sym (ap finished e) ∙ f) in
          singly-promised narrow n base _ _ words reply new (r ∙ ap (λ (o : Outcome MacroblockReply). o.reply) q) (w ∙ ap (λ (o : Outcome MacroblockReply). o.words) q)

pub totals-promised : (v : Session) (counts : Counts) → counts ≡ totals_of (state_of v) → TotalsPromised v counts
totals-promised v counts e = record {
  made = λ calls v-is. e ∙ (ap (λ (x : Session). totals_of (state_of x)) v-is ∙ only-values.counts calls);
  sum = λ calls v-is. ap sum_of (e ∙ (ap (λ (x : Session). totals_of (state_of x)) v-is ∙ only-values.counts calls)) ∙ totals-right.sum calls;
}
