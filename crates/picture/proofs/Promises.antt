-- Demand 3 of what the picture call hands over, and its counts and words by one-macroblock calls. Assumes nothing.
use Prim.Native.Nat.{ℕ}
use mathlib.Core.Path.{◌≡◌, sym, ap, subst, ◌∙◌}
use mathlib.Core.List.{List}
use lib.IntN.{ℤ, pos}
use lib.ListN.{length-replicate}
use Rattle.definitions.specs.declared.Numbers.{Numbers}
use Rattle.definitions.specs.declared.Counts.{Counts}
use Rattle.definitions.specs.declared.Refusal.{Refusal}
use Rattle.definitions.specs.Replies.{MacroblockReply, PictureReply}
use Rattle.std.specs.Prelude.{Ok as Counted, Err as NotMade}
use Rattle.definitions.specs.Geometry.{axes_of}
use Rattle.definitions.specs.Raster.{full_address}
use Rattle.definitions.specs.Record.{record_words, record_at, narrow}
use Rattle.definitions.specs.Calls.{Outcome, picture_call, AsSingly}
use Rattle.definitions.specs.Examples.{whole_case, whole_record}
use Rattle.definitions.specs.Cases.{blank, three_counts}
use Rattle.definitions.proofs.Demand.{demand3, passed, gives_made, counted-accepted, alone-accepted, case-counted}
use Rattle.definitions.proofs.Singly.{picture-by-singly}
use Rattle.definitions.proofs.Cases.{cases}
use Rattle.upsample.proofs.Staging.{Handed}
use Rattle.picture.specs.Promised.{PicturePromised, SinglyCounted}

module _ (limit : ℕ) (n : Numbers) (base words : List ℤ) where
  picture-promised : (reply : PictureReply) (out : List ℤ) → reply ≡ (picture_call limit n base words).reply → out ≡ (picture_call limit n base words).words → PicturePromised limit n base words reply out
  picture-promised (Counted counts) out r w = λ column row x y alone l.
      let p = passed limit n words base (counted-accepted limit n words base counts (sym r)) in
      let a = gives_made limit n column row alone base (alone-accepted limit n words base column row x y p alone l) in
      let answered = ap (λ (o : Outcome MacroblockReply). o.reply) a in
      let at = full_address (axes_of n) column row in
      record {
        answer = _;
        answered = answered;
        demand3 = (demand3 limit).picture n column row words alone base _ (record_at out at)
            (record { counts = counts; accepted = sym r; answered = answered; at_address = ap (λ (o : List ℤ). record_at o at) (sym w) });
      }
  picture-promised (NotMade r) out e w = case-counted limit n base words r (sym e)

  picture-singly : (reply : PictureReply) (out : List ℤ) → reply ≡ (picture_call limit n base words).reply → out ≡ (picture_call limit n base words).words → SinglyCounted limit n base reply out
  picture-singly (Counted counts) out r w = λ lent l.
      subst (λ (o : List ℤ). AsSingly limit n base counts o lent) (sym w) (picture-by-singly limit n base words counts lent (sym r) l)
  picture-singly (NotMade r) out e w = tt

  -- the call's reply and words with the promises of them: the contract's four parts
  pub picture-kept : (reply : PictureReply) (out : List ℤ) → reply ≡ (picture_call limit n base words).reply → out ≡ (picture_call limit n base words).words
      → (reply ≡ (picture_call limit n base words).reply) × ((out ≡ (picture_call limit n base words).words) × (PicturePromised limit n base words reply out × SinglyCounted limit n base reply out))
  picture-kept reply out r w = (r, (w, (picture-promised reply out r w, picture-singly reply out r w)))

  -- of what is handed over as the call says, by a reply that is it
  pub handed-kept : (reply said : PictureReply) (out : List ℤ) → reply ≡ said → Handed said out (picture_call limit n base words)
      → (reply ≡ (picture_call limit n base words).reply) × ((out ≡ (picture_call limit n base words).words) × (PicturePromised limit n base words reply out × SinglyCounted limit n base reply out))
  handed-kept reply said out e h = picture-kept reply out (e ∙ h.0) h.1

-- The promise alone shuts refusals out: in document 01's whole case none keeps it.
pub whole-counted : (r : Refusal) (out : List ℤ) → PicturePromised narrow whole_case whole_record (blank 6) (NotMade r) out → ⊥
whole-counted r out promised = promised cases.inherited.picture-case

-- and the clause of one-macroblock calls alone fixes its counts
pub whole-by-calls : (counts : Counts) (out : List ℤ) → SinglyCounted narrow whole_case whole_record (Counted counts) out → counts ≡ three_counts 4 0 2
whole-by-calls counts out singly =
    let s = singly (λ a. blank 1) (λ a h. length-replicate record_words (pos 0)) in
    let w = cases.by-calls in
    λ i. record { inherited = (s.inherited ∙ sym w.inherited) i; intra = (s.intra ∙ sym w.intra) i; outside = (s.outside ∙ sym w.outside) i }
