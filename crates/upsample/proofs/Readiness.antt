-- A macroblock inside an accepted geometry: the records that it names lie in the base, and where those are well formed it can be made. Assumes nothing.
use Prim.Native.Nat.{ℕ, ◌+◌, ◌*◌, ◌≤◌, ◌<◌}
use mathlib.Core.Path.{◌≡◌, refl, sym, ap, subst, ◌∙◌}
use mathlib.Core.Bool.{true, false, ◌&&◌}
use mathlib.Core.List.{List, [], Memᴰ}
use native.Mathlib.Nat.{mul-le-mul_right}
use native.Mathlib.Omega.{arith}
use lib.IntN.{ℤ}
use lib.ListN.{length}
use Rattle.definitions.specs.declared.Axes.{Axes}
use Rattle.definitions.specs.declared.Origin.{Origin}
use Rattle.definitions.specs.Accepted.{Inside}
use Rattle.definitions.specs.Geometry.{base_size, scaled_size, c_of, inside_axis, inside, sample_of}
use Rattle.definitions.specs.BlockMap.{step_of, address_read}
use Rattle.definitions.specs.Record.{record_words, record_at, well_formed}
use Rattle.definitions.specs.Answer.{origin_at, addresses_of}
use Rattle.definitions.specs.Refusals.{addresses_read}
use Rattle.definitions.specs.Raster.{base_count}
use Rattle.definitions.proofs.Fed.{falls-low}
use Rattle.definitions.proofs.Choices.{yes, no, both_true}
use Rattle.definitions.proofs.Accepted.{across-inside, down-inside}
use Rattle.definitions.proofs.Addresses.{address-named, address_below}
use Rattle.macroblock.specs.declared.AxisRead.{AxisRead}
use Rattle.macroblock.specs.Made.{fixed_of, origin_by, read_in, read_of, MakeableInside, Ready}
use Rattle.macroblock.proofs.Paper.{origin-same}
use Rattle.macroblock.proofs.Reading.{read-says, step-rises}
use Rattle.motion.proofs.ByScales.{accepted}
use Rattle.common.specs.Bases.{BaseRight}
use Rattle.upsample.proofs.Naming.{InBase}
use Rattle.common.proofs.Sizes.{base-small}

module _ (g : Axes) (base : List ℤ) (right : BaseRight g base) (column row : ℕ) where
  abbrev hor : AxisRead
  hor = read_in (step_of g.horizontal (sample_of column))

  abbrev ver : AxisRead
  ver = read_in (step_of g.vertical (sample_of row))

  -- an address of the base
  in-base : (a : ℕ) → a < base_count g → ((a + 1) * record_words ≤ length base) × (a < 65536)
  in-base a h = (omega (arith, right.base-length, mul-le-mul_right record_words h), omega (arith, base-small g right.axes))

  module _ (e : inside g column row ≡ true) where
    across-in : Inside (base_size g.horizontal) (scaled_size g.horizontal) (c_of g.horizontal (sample_of column))
    across-in = across-inside g column row right.axes e

    down-in : Inside (base_size g.vertical) (scaled_size g.vertical) (c_of g.vertical (sample_of row))
    down-in = down-inside g column row right.axes e

    named_in : InBase base (addresses_of g (origin_at g column row))
    named_in a m = in-base a (address_below g column row across-in down-in m)

    ready : {limit : ℕ} → ((a : ℕ) → Memᴰ a (addresses_of g (origin_at g column row)) → well_formed limit (record_at base a) ≡ true) → Ready limit (fixed_of g) hor.reads ver.reads base
    unfolding address_read
    ready formed =
        let within = both_true (inside_axis g.horizontal (sample_of column)) (inside_axis g.vertical (sample_of row)) e in
        let named : (i : ℕ) → i < 16 → Memᴰ (address_read g column row i) (addresses_of g (origin_at g column row)) = address-named g column row across-in down-in in
        record {
          scales = accepted g refl right.axes;
          width = omega (arith, right.axes.horizontal.sized.base-high);
          columns = step-rises g.horizontal column right.axes.horizontal within.0;
          rows = step-rises g.vertical row right.axes.vertical within.1;
          readable = λ i h. record { low = (named_in _ (named i h)).1; fits = (named_in _ (named i h)).0; formed = formed _ (named i h) };
        }

  -- what is known of the axes' readings at a macroblock
  pub record Known (h v : AxisRead) : Type 0 where
    pub named-below : (h.inside && v.inside) ≡ true → InBase base (addresses_of g (origin_by h v))
    pub named : (h.inside && v.inside) ≡ true → addresses_read g column row ≡ addresses_of g (origin_by h v)
    pub unnamed : (h.inside && v.inside) ≡ false → addresses_read g column row ≡ []
    pub made-ready : {limit : ℕ} → (h.inside && v.inside) ≡ true → ((a : ℕ) → Memᴰ a (addresses_read g column row) → well_formed limit (record_at base a) ≡ true)
        → MakeableInside limit (fixed_of g) h v base

  known : Known (read_of g.horizontal column) (read_of g.vertical row)
  unfolding read_of addresses_read
  known =
      let across = read_of g.horizontal column in
      let down = read_of g.vertical row in
      let says : (across.inside && down.inside) ≡ inside g column row = let p = read-says g.horizontal column in let q = read-says g.vertical row in λ i. p i && q i in
      let x : inside g column row ≡ true → across ≡ hor = λ e. yes _ _ (both_true (inside_axis g.horizontal (sample_of column)) (inside_axis g.vertical (sample_of row)) e).0 in
      let y : inside g column row ≡ true → down ≡ ver = λ e. yes _ _ (both_true (inside_axis g.horizontal (sample_of column)) (inside_axis g.vertical (sample_of row)) e).1 in
      let to : (P : AxisRead → AxisRead → Type 0) → inside g column row ≡ true → P hor ver → P across down =
      λ P e p. subst (λ (s : AxisRead). P s down) (sym (x e)) (subst (P hor) (sym (y e)) p) in
      record {
        named-below = λ t.
            let e = sym says ∙ t in
            to (λ h v. InBase base (addresses_of g (origin_by h v))) e (subst (λ (o : Origin). InBase base (addresses_of g o)) (origin-same g right.axes column row base e) (named_in e));
        named = λ t.
            let e = sym says ∙ t in
            yes _ _ e ∙ (ap (addresses_of g) (origin-same g right.axes column row base e) ∙ (λ i. addresses_of g (origin_by (sym (x e) i) (sym (y e) i))));
        unnamed = λ t. no _ _ (sym says ∙ t);
        made-ready = λ {limit} t f. let e = sym says ∙ t in to (λ h v. MakeableInside limit (fixed_of g) h v base) e (record {
          ready = ready e (λ a m. f a (subst (Memᴰ a) (sym (yes _ _ e)) m));
          columns-falling = falls-low g.horizontal column right.axes.horizontal (both_true (inside_axis g.horizontal (sample_of column)) (inside_axis g.vertical (sample_of row)) e).0;
          rows-falling = falls-low g.vertical row right.axes.vertical (both_true (inside_axis g.horizontal (sample_of column)) (inside_axis g.vertical (sample_of row)) e).1;
          columns = refl;
          rows = refl;
        });
      }

  pub known_of : (h v : AxisRead) → h ≡ read_of g.horizontal column → v ≡ read_of g.vertical row → Known h v
  known_of h v p q = subst (λ (x : AxisRead). Known x v) (sym p) (subst (λ (y : AxisRead). Known (read_of g.horizontal column) y) (sym q) known)
