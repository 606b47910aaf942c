-- Words, and a record of one motion, put into a part of the words.
use Prim.Native.Nat.{ℕ, ◌+◌, ◌-◌, ◌≤◌}
use mathlib.Core.Path.{◌≡◌, sym, ap, ◌∙◌}
use mathlib.Core.List.{List, ◌++◌, append_assoc}
use native.Mathlib.Omega.{arith}
use lib.IntN.{ℤ}
use lib.ListN.{length, take, drop}
use lib.Seq.{sets, sets-eq, drop-drop}
use Rattle.definitions.specs.declared.Motion.{Motion}
use Rattle.definitions.specs.Record.{record_words, laid_out, all_one}
use Rattle.definitions.proofs.Records.{laid-length}

-- words copied into a part of others
pub copied :
    (out : List ℤ) (from : ℕ) (w part : List ℤ) (n : ℕ) → n ≡ length w → from + n ≤ length out → part ≡ w
    → take from out ++ (part ++ drop (from + n - from) (drop from out)) ≡ sets out from w
copied out from w part n len fits e =
    let k : from + n - from ≡ length w = omega arith in
    rw (k, e)
    (ap (λ (o : List ℤ). take from out ++ (w ++ o)) (drop-drop (length w) from out) ∙ sym (append_assoc (take from out) w (drop (from + length w) out))
    ∙ sym (sets-eq w out from (omega arith)))

module _ (out : List ℤ) (from : ℕ) (fits : from + record_words ≤ length out) where
  pub record-put :
      (kind : ℕ) (m : Motion) (detail : ℤ) (part : List ℤ) → part ≡ laid_out (all_one kind m detail)
      → take from out ++ (part ++ drop (from + 78 - from) (drop from out)) ≡ sets out from (laid_out (all_one kind m detail))
  record-put kind m detail part e = copied out from (laid_out (all_one kind m detail)) part 78 (sym (laid-length (all_one kind m detail))) fits e
