-- The lines of a picture, one after the other, and how long they are. Assumes nothing.
use Prim.Native.Nat.{ℕ, zero, suc, ◌+◌, ◌*◌, ◌/◌, ◌%◌, ◌≤◌, ◌<◌}
use mathlib.Core.Path.{◌≡◌, refl, sym, ap, subst, ◌∙◌}
use mathlib.Core.List.{List, [], ◌∷◌, ◌++◌, map}
use native.Mathlib.Nat.{mul-le-mul, mul_comm}
use native.Mathlib.Numerals.{add-one}
use native.Mathlib.Omega.{arith}
use lib.IntN.{ℤ}
use lib.ListN.{length, length-append}
use Rattle.std.proofs.lemmas.List.{map-id}
use Rattle.definitions.specs.declared.Axes.{Axes}
use Rattle.definitions.specs.declared.Answer.{Answer}
use Rattle.definitions.specs.declared.Counts.{Counts}
use Rattle.definitions.specs.Basics.{up_to}
use Rattle.definitions.specs.Geometry.{full_size, macroblocks}
use Rattle.definitions.specs.Answer.{Made, answer_type}
use Rattle.definitions.specs.Calls.{counted, counts_of, made_at, no_counts}
use Rattle.definitions.specs.Log.{line_of, mb_word, sync_word, answer_pieces, macroblock_line, sync_line, picture_lines, log_bytes}
use Rattle.definitions.proofs.Counting.{counts-sum}
use Rattle.definitions.proofs.Lines.{mb-short, sync-short, type-low, pieces-low}
use Rattle.definitions.proofs.Parts.{parts, parts_more}
use Rattle.definitions.specs.Accepted.{AcceptedAxes}
use Rattle.definitions.specs.Raster.{full_count}
use Rattle.definitions.specs.Record.{narrow}
use Rattle.common.specs.Bases.{BaseFormed}
use Rattle.common.proofs.Counted.{counts-next, counts-none}
use Rattle.common.proofs.Sizes.{full-small}
use Rattle.common.proofs.Located.{its-column, its-row, located}
use Rattle.macroblock.specs.declared.AxisRead.{AxisRead}
use Rattle.macroblock.specs.declared.Fixed.{Fixed}
use Rattle.macroblock.specs.Made.{Makeable, answer_by, fixed_of, made_by, read_of}
use Rattle.upsample.proofs.Addresses.{makeable, made-there}
use Rattle.log_lines.specs.Put.{Fits, Put}
use Rattle.log_lines.proofs.Putting.{put-length, put-none, put_then}

-- a macroblock's line is short enough wherever its column and row are
pub line-short : (column row : ℕ) (a : Answer) → column < 256 → row < 256 → length (line_of mb_word (column ∷ row ∷ answer_type a ∷ answer_pieces a ∷ [])) ≤ 18
line-short column row a p q = mb-short column row (answer_type a) (answer_pieces a) p q (type-low a) (let l = pieces-low a in omega arith)

-- there is room for it, and for a sync line
pub mb-room : (out : List ℕ) (at column row type pieces : ℕ) → at + 18 ≤ length out → column < 256 → row < 256 → type < 10 → pieces < 100
    → Fits out at (line_of mb_word (column ∷ row ∷ type ∷ pieces ∷ []))
mb-room out at column row type pieces room a b c d = omega (arith, mb-short column row type pieces a b c d)

pub sync-room : (out : List ℕ) (at a b c d : ℕ) → at + 31 ≤ length out → a ≤ 65536 → b ≤ 65536 → c ≤ 65536 → d ≤ 65536 → Fits out at (line_of sync_word (a ∷ b ∷ c ∷ d ∷ []))
sync-room out at a b c d room p q r s = omega (arith, sync-short a b c d p q r s)

module _ (g : Axes) (base : List ℤ) where
  abbrev line : ℕ → List ℕ
  line = macroblock_line g base

  -- the lines of the first n macroblocks
  abbrev pub first_lines : ℕ → List ℕ
  first_lines n = parts n line

  module _ (axes : AcceptedAxes g) where
    each-short : (a : ℕ) → a < full_count g → length (line a) ≤ 18
    unfolding macroblock_line
    each-short a h =
        let l = located g axes a (full_count g) refl h in
        line-short (a % macroblocks (full_size g.horizontal)) (a / macroblocks (full_size g.horizontal)) (made_at g base a).answer l.column l.row

    pub first_short : (n : ℕ) → n ≤ full_count g → length (first_lines n) ≤ 18 * n
    unfolding up_to
    first_short zero h = omega arith
    first_short (suc n) h =
        omega (arith, ap length (parts_more n line), length-append (first_lines n) (line n), first_short n (omega arith), each-short n (omega arith))

    sync-length : length (sync_line g base) ≤ 31
    unfolding sync_line
    sync-length =
        let s = counts-sum (full_count g) (made_at g base) in
        let f = full-small g axes in
        sync-short _ _ _ _ f (omega arith) (omega arith) (omega arith)

    -- every picture's lines fit
    pub picture-short : length (picture_lines g base) ≤ log_bytes
    unfolding picture_lines
    picture-short =
        omega (arith, length-append (first_lines (full_count g)) (sync_line g base), first_short (full_count g) (omega arith), sync-length, full-small g axes)

  -- ---- the buffer and the counts, of the macroblocks below an address
  pub record SoFar (out now : List ℕ) (at : ℕ) (counts : Counts) (a : ℕ) : Type 0 where
    pub lines : Put out 0 (first_lines a) now at
    pub counted : counts ≡ counts_of (up_to a (made_at g base))

  pub so_far_none : (out : List ℕ) (counts : Counts) → counts ≡ no_counts → SoFar out out 0 counts 0
  unfolding up_to
  so_far_none out counts e = record { lines = put-none out 0; counted = e ∙ counts-none (made_at g base) }

  pub so_far_at : {out now : List ℕ} {at : ℕ} {counts : Counts} (a b : ℕ) → a ≡ b → SoFar out now at counts a → SoFar out now at counts b
  so_far_at {out} {now} {at} {counts} a b e s = subst (λ (k : ℕ). SoFar out now at counts k) e s

  module _ {out now : List ℕ} {at : ℕ} {counts : Counts} (a : ℕ) (s : SoFar out now at counts a) where
    -- there is room for a line more, and for the sync line
    pub line-fits : AcceptedAxes g → a < full_count g → log_bytes ≤ length out → at + 18 ≤ length now
    line-fits axes l room =
        let e = put-length s.lines in
        let p = s.lines.after in
        omega (arith, first_short axes a (omega arith), full-small g axes)

    pub last-fits : AcceptedAxes g → a ≡ full_count g → log_bytes ≤ length out → at + 31 ≤ length now
    last-fits axes l room =
        let e = put-length s.lines in
        let p = s.lines.after in
        omega (arith, first_short axes a (omega arith), full-small g axes)

    -- one line more
    pub so_far_more : {new : List ℕ} {next : ℕ} {more : Counts} (column row : ℕ) (answer : Answer) → column < macroblocks (full_size g.horizontal) → row * macroblocks (full_size g.horizontal) + column ≡ a → answer ≡ (made_at g base a).answer
        → Put now at (line_of mb_word (column ∷ row ∷ answer_type answer ∷ answer_pieces answer ∷ [])) new next → more ≡ counted answer counts → SoFar out new next more (a + 1)
    unfolding macroblock_line
    so_far_more {new} {next} {more} column row answer l is e q m =
        let c = its-column g a column row l is in
        let r = its-row g a column row l is in
        let one : line_of mb_word (column ∷ row ∷ answer_type answer ∷ answer_pieces answer ∷ []) ≡ line a = λ i. line_of mb_word (sym c i ∷ sym r i ∷ answer_type (e i) ∷ answer_pieces (e i) ∷ []) in
        let all : first_lines a ++ line_of mb_word (column ∷ row ∷ answer_type answer ∷ answer_pieces answer ∷ []) ≡ first_lines (a + 1) =
        ap (λ (l : List ℕ). first_lines a ++ l) one ∙ (sym (parts_more a line) ∙ ap (λ (k : ℕ). first_lines k) (sym (add-one a))) in
        record { lines = subst (λ (l : List ℕ). Put out 0 l new next) all (put_then s.lines q); counted = counts-next (made_at g base) a counts more answer s.counted e m }

    -- and the sync line
    pub line-last : {new : List ℕ} {next : ℕ} (total : ℕ) → a ≡ full_count g → total ≡ full_count g
        → Put now at (line_of sync_word (total ∷ counts.inherited ∷ counts.intra ∷ counts.outside ∷ [])) new next → Put out 0 (picture_lines g base) new next
    unfolding sync_line picture_lines
    line-last {new} {next} total e t q =
        let d : counts ≡ counts_of (up_to (full_count g) (made_at g base)) = s.counted ∙ ap (λ (k : ℕ). counts_of (up_to k (made_at g base))) e in
        let all : first_lines a ++ line_of sync_word (total ∷ counts.inherited ∷ counts.intra ∷ counts.outside ∷ []) ≡ picture_lines g base =
        λ i. first_lines (e i) ++ line_of sync_word (t i ∷ (d i).inherited ∷ (d i).intra ∷ (d i).outside ∷ []) in
        subst (λ (l : List ℕ). Put out 0 l new next) all (put_then s.lines q)

-- what is made of it, in a row whose axis is read (the numbers of narrow words are the words)
module _ (g : Axes) (words : List ℤ) (formed : BaseFormed narrow g (map (λ x. x) words)) (width row column : ℕ) (w : width ≡ macroblocks (full_size g.horizontal)) (c : column < width)
    (fixed : Fixed) (e : fixed ≡ fixed_of g) (v : AxisRead) (q : v ≡ read_of g.vertical row) where
  pub ready : Makeable narrow fixed (read_of g.horizontal column) v words
  ready =
      subst (λ (b : List ℤ). Makeable narrow fixed (read_of g.horizontal column) v b) (map-id words)
      (subst (λ (f : Fixed). Makeable narrow f (read_of g.horizontal column) v (map (λ x. x) words)) (sym e) (makeable g column row (map (λ x. x) words) formed _ v refl q))

  pub answer-made : answer_by fixed (read_of g.horizontal column) v words ≡ (made_at g words (row * width + column)).answer
  unfolding made_by
  answer-made =
      let l : column < macroblocks (full_size g.horizontal) = omega (arith, w) in
      (λ i. answer_by (e i) (read_of g.horizontal column) v (sym (map-id words) i))
      ∙ (ap (λ (m : Made). m.answer) (made-there g column row (map (λ x. x) words) formed _ v refl q (row * width + column) l (ap (λ (x : ℕ). row * x + column) (sym w)))
      ∙ ap (λ (b : List ℤ). (made_at g b (row * width + column)).answer) (map-id words))
