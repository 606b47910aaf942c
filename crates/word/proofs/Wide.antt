-- The number of a scale, and a wide word that is raised and scaled by it: each step fits, and it is the scaled word. Assumes nothing.
use Prim.Native.Nat.{ℕ, ◌+◌, ◌*◌, ◌/◌, ◌≤◌, ◌^◌}
use mathlib.Core.Path.{◌≡◌, sym, ap, subst, ◌∙◌}
use mathlib.Core.Bool.{true}
use native.Mathlib.Nat.{mul-le-mul}
use native.Mathlib.Omega.{arith}
use lib.IntN.{ℤ, pos, sub_ℕ, ◌+ℤ◌, ◌*ℤ◌}
use mir.Syntax.{w16, w32}
use mir.Val.{SFits, of_z, to_z}
use mir.Facts.{to_z-of_z}
use Rattle.definitions.specs.Inheriting.{scaled_by}
use Rattle.definitions.specs.Record.{fits, wide}
use Rattle.definitions.proofs.Differences.{sub_cases}
use Rattle.motion.specs.declared.Scale.{Scale}
use Rattle.motion.specs.Scales.{AcceptedScale, scale_in, scale_most, scaled_with}
use Rattle.motion.proofs.ByScales.{with_number}
use Rattle.motion.proofs.Parts.{number_is, part-fits}
use Rattle.word.proofs.Rounded.{by-raised, raised, word_back}

-- ---- the number
pub record Numbered (s : Scale) (n : ℕ) : Type 0 where
  pub whole : SFits w16 s.whole
  pub part : SFits w16 s.part
  pub upper : SFits w32 (s.whole *ℤ pos 65536)
  pub sum : SFits w32 (s.whole *ℤ pos 65536 +ℤ s.part)
  pub is : s.whole *ℤ pos 65536 +ℤ s.part ≡ pos n

pub numbered : (s : Scale) (a : AcceptedScale s) → Numbered s a.number
numbered s a =
    let n = a.number in
    subst (λ (t : Scale). Numbered t n) (sym a.parts) (record {
      whole = record { sfits = omega (arith, a.high) };
      part = part-fits n;
      upper = record { sfits = omega (arith, a.high) };
      sum = subst (SFits w32) (sym (number_is n)) (record { sfits = omega (arith, a.high) });
      is = number_is n;
    })

-- ---- a word, by the number
pub record Rising (n : ℕ) (v : ℤ) : Type 0 where
  pub up : ℕ
  pub sum : v +ℤ pos wide ≡ pos up
  pub low : up ≤ 2 * wide
  pub product : up * n ≤ 2 ^ 35
  pub fits : SFits w32 (sub_ℕ ((up * n + 32768) / 65536) (2 * n))
  pub is : sub_ℕ ((up * n + 32768) / 65536) (2 * n) ≡ scaled_by n v

pub rising : (n : ℕ) (v : ℤ) → n ≤ scale_most → fits wide v ≡ true → Rising n v
rising n v high e =
    let r = raised wide v e in
    let u = r.up in
    let low : u ≤ 2 * wide = omega (arith, r.most) in
    let most : u * n ≤ 2 * wide * scale_most = mul-le-mul low high in
    record {
      up = u;
      sum = r.sum;
      low = low;
      product = omega (arith, most);
      fits = sub_cases (SFits w32) ((u * n + 32768) / 65536) (2 * n) (λ l. record { sfits = omega (arith, high) }) (λ l. record { sfits = omega (arith, most) });
      is = by-raised 2 n v r;
    }

-- ---- handed over in 32 bits, and handed back
module _ (v : ℤ) (e : fits wide v ≡ true) where
  pub back : (n : ℕ) → n ≤ scale_most → (r : ℤ) → r ≡ scaled_by n (to_z w32 (of_z w32 v)) → to_z w32 (of_z w32 r) ≡ scaled_with (scale_in n) v
  back n high r is =
      let p = rising n v high e in
      ap (λ (z : ℤ). to_z w32 (of_z w32 z)) (is ∙ ap (scaled_by n) (word_back wide (omega arith) v e)) ∙ (to_z-of_z (subst (SFits w32) p.is p.fits) ∙ sym (with_number n v))
