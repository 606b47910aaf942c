-- DEMAND 3. The last declaration, demand3, is the theorem: both calls are as specs/Demand3 says, entire. Assumes nothing.
use Prim.Native.Nat.{ℕ, ◌+◌, ◌*◌, ◌/◌, ◌%◌, ◌<◌}
use mathlib.Core.Path.{◌≡◌, refl, sym, ap, subst, ◌∙◌}
use mathlib.Core.Bool.{Bool, true, false, not}
use mathlib.Core.List.Memᴰ
use mathlib.Core.List.{List, [], ◌∷◌, ◌++◌, Memᴰ}
use native.Mathlib.Nat.{div-eq_of_lt-le, mod-eq_of_lt, mul-add-mod_self_right, mul-le-mul_right}
use native.Mathlib.Omega.{arith}
use lib.Dec.{T, eqb, leb, ltb, le→leb, lt→ltb}
use lib.IntN.{ℤ, pos, negsuc, nat_abs}
use lib.ListN.{length}
use lib.Signed.{le_z, lt_z, ◌≤ℤ◌, ◌<ℤ◌}
use borrow.Author.Tests.{eq-eqb, eqb-true, le-leb, lt-ltb, ltb-true, not-false}
use Rattle.definitions.specs.declared.Axes.{Axes}
use Rattle.definitions.specs.declared.Numbers.{Numbers}
use Rattle.definitions.specs.Replies.{Verdict, Accepted}
use Rattle.definitions.specs.declared.Answer.{Answer}
use Rattle.definitions.specs.declared.Answer.TheVariants.{Outside, Intra, Inherited}
use Rattle.definitions.specs.declared.Motion.{Motion}
use Rattle.definitions.specs.declared.Origin.{Origin}
use Rattle.definitions.specs.declared.Refusal.{Refusal}
use Rattle.definitions.specs.declared.Counts.{Counts}
use Rattle.std.specs.Prelude.{Ok as Counted, Err as NotMade}
use Rattle.definitions.specs.Replies.{MacroblockReply}
use Rattle.std.specs.Prelude.{Ok as Answered, Err as Declined}
use Rattle.definitions.specs.Basics.{up_to, for_each}
use Rattle.definitions.specs.Geometry.{axes_of, full_size, macroblocks, inside}
use Rattle.definitions.specs.Record.{record_words, record_at, well_formed, first_broken}
use Rattle.definitions.specs.Answer.{basis_at, Made, answer_of, written_for, made_of, addresses_named}
use Rattle.definitions.specs.Refusals.{test, refusal, verdict_of, geometry_tests, geometry_verdict, base_test, output_test, position_test, record_tests, within_axis, addresses_read, all_addresses, AllFormed}
use Rattle.definitions.specs.Calls.{Outcome, by_verdict, macroblock_tests, macroblock_call, picture_tests, made_at, counts_of, picture_call}
use Rattle.definitions.specs.Demand3.{Demand3, AnyWords, SinglyGives, Demand3Singly, FormedWords, PictureGives, Demand3Picture, Case, SinglyCase, PictureCase, Demand3Entire}
use Rattle.definitions.specs.Raster.{base_count, full_count}
use Rattle.definitions.proofs.Choices.{yes, no, both_true, and_intro}
use Rattle.definitions.proofs.Verdicts.{first-passed, both-passed, then-verdict, reply-accepted}
use Rattle.definitions.proofs.RecordLists.{all-formed, formed-all, index-member, member-index, record_of}
use Rattle.definitions.proofs.Accepted.{accepted-axes, across-inside, down-inside}
use Rattle.definitions.proofs.Answers.{Decided, is-outside, is-intra, is-inherited, decided, made-outside}
use Rattle.definitions.proofs.Sameness.{same-made}
use Rattle.definitions.proofs.Addresses.{address-named, address_below}
use Rattle.definitions.proofs.Pieces.{covered}
use Rattle.definitions.proofs.Records.{laid-length}
use Rattle.definitions.proofs.Promises.{origin-right, detail-right, detail-written, fed-right, inherited-when, intra-when, outside-when, nothing_written, motions-written, fewest-written, split-written, said-written, columns-below, rows-below}

-- ---- bases that agree on some records
-- the records at the addresses are the same
abbrev pub Agree : List ℕ → List ℤ → List ℤ → Type 0
Agree addresses base other = (a : ℕ) → Memᴰ a addresses → record_at other a ≡ record_at base a

module _ (g : Axes) (base : List ℤ) (column row : ℕ) where
  -- a call checks the records that its answer names
  pub read_named : {answer : Answer} → Decided g base column row answer → addresses_read g column row ≡ addresses_named g answer
  unfolding addresses_read basis_at
  read_named (is-outside e) = no _ _ e
  read_named (is-intra e m) = yes _ _ e
  read_named (is-inherited e m) = yes _ _ e

-- ---- an accepted geometry, and a macroblock inside
module _ (n : Numbers) (column row : ℕ) (accepted : geometry_verdict n ≡ Accepted) where
  abbrev axes : Axes
  axes = axes_of n

  -- other records do not matter
  pub made-same : (base other : List ℤ) → Agree (addresses_named axes (answer_of axes base column row)) base other → made_of axes other column row ≡ made_of axes base column row
  unfolding basis_at
  made-same base other e = by (decided axes base column row) e
    where
      by : {answer : Answer} → Decided axes base column row answer → Agree (addresses_named axes answer) base other → made_of axes other column row ≡ made_of axes base column row
      by (is-outside i) a = made-outside axes other column row i ∙ sym (made-outside axes base column row i)
      by (is-intra i m) a = same-made axes base other column row (λ k h. a _ (address-named axes column row (across-inside axes column row (accepted-axes n accepted) i) (down-inside axes column row (accepted-axes n accepted) i) k h))
      by (is-inherited i m) a = same-made axes base other column row (λ k h. a _ (address-named axes column row (across-inside axes column row (accepted-axes n accepted) i) (down-inside axes column row (accepted-axes n accepted) i) k h))

  -- all sentences but the one on other records
  pub promised : (base : List ℤ) (Other : List ℤ → Type 0) (Gives : List ℤ → Answer → List ℤ → Type 0)
      → ((other : List ℤ) → Other other → Agree (addresses_named axes (answer_of axes base column row)) base other → Gives other (made_of axes base column row).answer (made_of axes base column row).written)
      → Demand3 axes column row base (made_of axes base column row).answer (made_of axes base column row).written Other Gives
  unfolding made_of
  promised base Other Gives same =
      let d = decided axes base column row in
      record {
        class = ap (λ (m : Origin). m.class) (origin-right axes base column row d);
        first-column = ap (λ (m : Origin). m.column) (origin-right axes base column row d);
        first-row = ap (λ (m : Origin). m.row) (origin-right axes base column row d);
        columns-inside = columns-below axes base column row (across-inside axes column row (accepted-axes n accepted)) (down-inside axes column row (accepted-axes n accepted)) d;
        rows_inside = rows-below axes base column row (across-inside axes column row (accepted-axes n accepted)) (down-inside axes column row (accepted-axes n accepted)) d;
        others = same;
        inherited = inherited-when axes base column row d;
        intra = intra-when axes base column row d;
        outside = outside-when axes base column row d;
        nothing = nothing_written axes base column row d;
        cover = λ m s e. covered s;
        one-motion = λ m s e. (fewest-written axes base column row d m s e).one;
        motions = motions-written axes base column row;
        rivals = λ m s e. (fewest-written axes base column row d m s e).more;
        says-split = split-written axes base column row;
        split-said = said-written axes base column row;
        detail = detail-right axes base column row d;
        says-detail = detail-written axes base column row _;
        fed = fed-right axes base column row d;
      }

-- ---- what is written, and when a column (row) lies in the picture
written-length : (answer : Answer) (m : List (List Motion)) → length (written_for answer m) ≡ record_words
unfolding written_for
written-length Outside m = laid-length _
written-length (Intra n) m = laid-length _
written-length (Inherited n s) m = laid-length _

pub made-length : (g : Axes) (base : List ℤ) (address : ℕ) → length (made_at g base address).written ≡ record_words
unfolding made_at made_of
made-length g base address = written-length _ _

pub within : (size k : ℕ) → k < macroblocks size → within_axis size (pos k) ≡ true
within size k h = and_intro (le-leb 0 k (omega arith)) (lt-ltb k (macroblocks size) h)

-- the same of a number that may be below 0
told : (b : Bool) → T b → b ≡ true
told true t = refl
told false t = absurd t

pub within-bounds : (size : ℕ) (x : ℤ) → pos 0 ≤ℤ x → x <ℤ pos (macroblocks size) → within_axis size x ≡ true
within-bounds size x low high = and_intro (told (le_z (pos 0) x) low.le) (told (lt_z x (pos (macroblocks size))) high.lt)

bounds-low : (x : ℕ) → pos 0 ≤ℤ pos x
bounds-low x = record { le = le→leb 0 x (omega arith) }

bounds-high : (x count : ℕ) → x < count → pos x <ℤ pos count
bounds-high x count h = record { lt = lt→ltb x count h }

pub within_low : (size : ℕ) (x : ℤ) → within_axis size x ≡ true → nat_abs x < macroblocks size
within_low size (pos k) e = ltb-true k (macroblocks size) (both_true (leb 0 k) (ltb k (macroblocks size)) e).1
within_low size (negsuc k) e = absurd (let z : ◌≡◌ {A = ℕ} 0 1 = cc in omega arith)

-- a macroblock of the picture, and 78 words lent for it
pub record AskedAt (n : Numbers) (column row : ℤ) (words : List ℤ) : Type 0 where
  pub column-within : within_axis (full_size (axes_of n).horizontal) column ≡ true
  pub row_within : within_axis (full_size (axes_of n).vertical) row ≡ true
  pub words-length : length words ≡ record_words

record Asked (n : Numbers) (column row : ℕ) (alone : List ℤ) : Type 0 where
  column-within : column < macroblocks (full_size (axes_of n).horizontal)
  row_within : row < macroblocks (full_size (axes_of n).vertical)
  alone-length : length alone ≡ record_words

-- ---- a reply is a refusal or not
answer-not-refusal : {r : Refusal} {answer : Answer} → Declined r ≡ Answered answer → ⊥
answer-not-refusal e = let z : ◌≡◌ {A = ℕ} 0 1 = cc in omega arith

counts-not-refusal : {r : Refusal} {counts : Counts} → NotMade r ≡ Counted counts → ⊥
counts-not-refusal e = let z : ◌≡◌ {A = ℕ} 0 1 = cc in omega arith

module _ (limit : ℕ) where
  -- bases that agree on the records checked pass the same tests
  tests_same : (base other : List ℤ) (addresses : List ℕ) → Agree addresses base other → record_tests limit other addresses ≡ record_tests limit base addresses
  unfolding record_tests
  tests_same base other [] e = refl
  tests_same base other (a ∷ rest) e =
      let p : record_at other a ≡ record_at base a = e a (Memᴰ.head refl) in
      let q = tests_same base other rest (λ b m. e b (Memᴰ.tail m)) in
      λ i. test (not (well_formed limit (p i))) (record { number = 8; place = a; rule = first_broken limit (p i) }) ∷ q i

  -- ---- made singly
  -- a call that answers is accepted
  pub call-accepted : (n : Numbers) (base : List ℤ) (column row : ℤ) (words : List ℤ) (answer : Answer)
      → (macroblock_call limit n base column row words).reply ≡ Answered answer → verdict_of (macroblock_tests limit n base column row words) ≡ Accepted
  unfolding macroblock_call
  call-accepted n base column row words answer e =
      reply-accepted (verdict_of (macroblock_tests limit n base column row words)) Declined words _ (Answered answer) (λ r q. answer-not-refusal q) e

  -- where a call is accepted, it gives what is made
  call-made : (n : Numbers) (column row : ℤ) (words base : List ℤ) → verdict_of (macroblock_tests limit n base column row words) ≡ Accepted
      → let made = made_of (axes_of n) base (nat_abs column) (nat_abs row) in macroblock_call limit n base column row words ≡ record { reply = Answered made.answer; words = made.written }
  unfolding macroblock_call
  call-made n column row words base v =
      let made = made_of (axes_of n) base (nat_abs column) (nat_abs row) in
      ap (λ (w : Verdict). by_verdict w Declined words (record { reply = Answered made.answer; words = made.written })) v

  pub gives_made : (n : Numbers) (column row : ℕ) (words base : List ℤ) → verdict_of (macroblock_tests limit n base (pos column) (pos row) words) ≡ Accepted
      → SinglyGives limit n column row words base (made_of (axes_of n) base column row).answer (made_of (axes_of n) base column row).written
  gives_made n column row words base v = call-made n (pos column) (pos row) words base v

  -- in a case of it, a call is accepted,
  case-accepted : (n : Numbers) (column row : ℤ) (base words : List ℤ) → SinglyCase limit n column row base words → verdict_of (macroblock_tests limit n base column row words) ≡ Accepted
  unfolding macroblock_tests
  case-accepted n column row base words case =
      let g = axes_of n in
      then-verdict (geometry_tests n) _ case.geometry
      ∙ (no _ _ (ap not (eq-eqb (length base) (record_words * base_count g) case.base-length))
      ∙ (no _ _ (ap not (eq-eqb (length words) record_words case.words-length))
      ∙ (no _ _ (ap not (and_intro (within-bounds (full_size g.horizontal) column case.column-low case.column-high) (within-bounds (full_size g.vertical) row case.row_low case.row-high)))
      ∙ formed-all limit base (addresses_read g (nat_abs column) (nat_abs row)) case.formed)))

  -- and so is not refused
  pub case-answered : (n : Numbers) (column row : ℤ) (base words : List ℤ) (r : Refusal) → (macroblock_call limit n base column row words).reply ≡ Declined r → SinglyCase limit n column row base words → ⊥
  case-answered n column row base words r e case =
      answer-not-refusal (sym e ∙ ap (λ (o : Outcome MacroblockReply). o.reply) (call-made n column row words base (case-accepted n column row base words case)))

  module _ (n : Numbers) (column row : ℕ) (words base : List ℤ) where
    abbrev single : Verdict
    single = verdict_of (macroblock_tests limit n base (pos column) (pos row) words)

    geometry-accepted : single ≡ Accepted → geometry_verdict n ≡ Accepted
    unfolding macroblock_tests
    geometry-accepted v = (both-passed (geometry_tests n) _ v).0

    -- the tests are the same on a base of the same length with the same named records
    verdict-same : (other : List ℤ) → AnyWords base other → Agree (addresses_read (axes_of n) column row) base other → verdict_of (macroblock_tests limit n other (pos column) (pos row) words) ≡ single
    unfolding macroblock_tests
    verdict-same other l e =
        let g = axes_of n in
        let b : base_test g other ≡ base_test g base = ap (λ (k : ℕ). test (not (eqb k (record_words * base_count g))) (refusal 5)) l in
        let r = tests_same base other (addresses_read g column row) e in
        λ i. verdict_of (geometry_tests n ++ (b i ∷ output_test 1 words ∷ position_test g (pos column) (pos row) ∷ r i))

    -- other records, whatever they hold, change nothing
    others_same : single ≡ Accepted → (other : List ℤ) → AnyWords base other → Agree (addresses_named (axes_of n) (answer_of (axes_of n) base column row)) base other
        → SinglyGives limit n column row words other (made_of (axes_of n) base column row).answer (made_of (axes_of n) base column row).written
    others_same v other l e =
        let g = axes_of n in
        let read = subst (λ (l : List ℕ). Agree l base other) (sym (read_named g base column row (decided g base column row))) e in
        let same = made-same n column row (geometry-accepted v) base other e in
        subst (λ (m : Made). SinglyGives limit n column row words other m.answer m.written) same
        (gives_made n column row words other (verdict-same other l read ∙ v))

  -- what is handed over is what is made
  pub singly-made : (n : Numbers) (column row : ℕ) (words base : List ℤ) (answer : Answer) (written : List ℤ) → SinglyGives limit n column row words base answer written
      → ((made_of (axes_of n) base column row).answer ≡ answer) × ((made_of (axes_of n) base column row).written ≡ written)
  singly-made n column row words base answer written e =
      let v = call-accepted n base (pos column) (pos row) words answer (ap (λ (o : Outcome MacroblockReply). o.reply) e) in
      let p = sym (gives_made n column row words base v) ∙ e in
      (cc (ap (λ (o : Outcome MacroblockReply). o.reply) p), ap (λ (o : Outcome MacroblockReply). o.words) p)

  -- Demand 3 for the one-macroblock call: whatever it hands over.
  singly : (n : Numbers) (column row : ℕ) (words base : List ℤ) (answer : Answer) (written : List ℤ)
      → SinglyGives limit n column row words base answer written → Demand3Singly limit n column row words base answer written
  singly n column row words base answer written e =
      let g = axes_of n in
      let v = call-accepted n base (pos column) (pos row) words answer (ap (λ (o : Outcome MacroblockReply). o.reply) e) in
      let made = made_of g base column row in
      let p = singly-made n column row words base answer written e in
      let a : made.answer ≡ answer = p.0 in
      let w : made.written ≡ written = p.1 in
      subst (λ (x : Answer). Demand3Singly limit n column row words base x written) a
      (subst (λ (x : List ℤ). Demand3Singly limit n column row words base made.answer x) w
      (promised n column row (geometry-accepted n column row words base v) base (AnyWords base) (SinglyGives limit n column row words) (others_same n column row words base v)))

  -- ---- made with the whole picture
  module _ (n : Numbers) (words base : List ℤ) where
    abbrev g : Axes
    g = axes_of n

    abbrev whole : Verdict
    whole = verdict_of (picture_tests limit n base words)

    -- what acceptance of a picture says
    pub record Passed : Type 0 where
      pub geometry : geometry_verdict n ≡ Accepted
      pub base-length : (base_test g base).applies ≡ false
      pub word-length : (output_test (full_count g) words).applies ≡ false
      pub formed : AllFormed limit g base

    pub passed : whole ≡ Accepted → Passed
    unfolding picture_tests
    passed v =
        let p = both-passed (geometry_tests n) (base_test g base ∷ output_test (full_count g) words ∷ record_tests limit base (all_addresses g)) v in
        let q = first-passed (base_test g base) (output_test (full_count g) words ∷ record_tests limit base (all_addresses g)) p.1 in
        let r = first-passed (output_test (full_count g) words) (record_tests limit base (all_addresses g)) q.1 in
        record { geometry = p.0; base-length = q.0; word-length = r.0; formed = λ a h. all-formed limit base (all_addresses g) r.1 a (index-member (base_count g) a h) }

    pub accepted : Passed → whole ≡ Accepted
    unfolding picture_tests
    accepted p =
        then-verdict (geometry_tests n) _ p.geometry ∙ (no _ _ p.base-length ∙ (no _ _ p.word-length
        ∙ formed-all limit base (all_addresses g) (λ a m. p.formed a (member-index (base_count g) a m))))

    pub counted-accepted : (counts : Counts) → (picture_call limit n base words).reply ≡ Counted counts → whole ≡ Accepted
    unfolding picture_call
    counted-accepted counts e = reply-accepted whole NotMade words _ (Counted counts) (λ r q. counts-not-refusal q) e

    pub counted-made : whole ≡ Accepted → (picture_call limit n base words).reply ≡ Counted (counts_of (up_to (full_count g) (made_at g base)))
    unfolding picture_call
    counted-made v =
        ap (λ (w : Verdict). (by_verdict w NotMade words (record { reply = Counted (counts_of (up_to (full_count g) (made_at g base))); words = for_each (up_to (full_count g) (made_at g base)) (λ m. m.written) })).reply) v

    pub picture-words : whole ≡ Accepted → (picture_call limit n base words).words ≡ for_each (up_to (full_count g) (made_at g base)) (λ m. m.written)
    unfolding picture_call
    picture-words v =
        ap (λ (w : Verdict). (by_verdict w NotMade words (record { reply = Counted (counts_of (up_to (full_count g) (made_at g base))); words = for_each (up_to (full_count g) (made_at g base)) (λ m. m.written) })).words) v

    -- a macroblock of the picture
    module _ (column row : ℕ) (x : column < macroblocks (full_size g.horizontal)) (y : row < macroblocks (full_size g.vertical)) where
      -- the records that its call checks are records of the base
      read_below : geometry_verdict n ≡ Accepted → (a : ℕ) → Memᴰ a (addresses_read g column row) → a < base_count g
      unfolding addresses_read
      read_below k a m = by (inside g column row) refl
        where
          by : (b : Bool) → inside g column row ≡ b → a < base_count g
          by true e = address_below g column row (across-inside g column row (accepted-axes n k) e) (down-inside g column row (accepted-axes n k) e) (subst (Memᴰ a) (yes _ _ e) m)
          by false e = absurd (Memᴰ.not-nil (subst (Memᴰ a) (no _ _ e) m))

      -- so the one-macroblock call on the same base is accepted
      pub alone-accepted : Passed → (alone : List ℤ) → length alone ≡ record_words → verdict_of (macroblock_tests limit n base (pos column) (pos row) alone) ≡ Accepted
      unfolding macroblock_tests
      alone-accepted p alone l =
          then-verdict (geometry_tests n) _ p.geometry ∙ (no _ _ p.base-length ∙ (no _ _ (ap not (eq-eqb (length alone) record_words l))
          ∙ (no _ _ (ap not (and_intro (within (full_size g.horizontal) column x) (within (full_size g.vertical) row y)))
          ∙ formed-all limit base (addresses_read g column row) (λ a m. p.formed a (read_below p.geometry a m)))))

      -- and the record at its address is what is made of it
      pub record-made : whole ≡ Accepted → record_at (picture_call limit n base words).words (row * macroblocks (full_size g.horizontal) + column) ≡ (made_of g base column row).written
      unfolding made_at
      record-made v =
          let width = macroblocks (full_size g.horizontal) in
          let address = row * width + column in
          let p : address % width ≡ column = mul-add-mod_self_right row width column ∙ mod-eq_of_lt x in
          let q : address / width ≡ row = div-eq_of_lt-le width (omega arith) (omega arith) in
          ap (λ (l : List ℤ). record_at l address) (picture-words v)
          ∙ (record_of (made_at g base) (λ m. m.written) (made-length g base) (full_count g) address (omega (arith, mul-le-mul_right width y))
          ∙ (λ i. (made_of g base (p i) (q i)).written))

  -- a macroblock whose call is accepted is one of the picture, and was lent 78 words
  pub asked-at : (n : Numbers) (base : List ℤ) (column row : ℤ) (words : List ℤ) → verdict_of (macroblock_tests limit n base column row words) ≡ Accepted → AskedAt n column row words
  unfolding macroblock_tests
  asked-at n base column row words v =
      let g = axes_of n in
      let records = record_tests limit base (addresses_read g (nat_abs column) (nat_abs row)) in
      let position = position_test g column row in
      let p = both-passed (geometry_tests n) (base_test g base ∷ output_test 1 words ∷ position ∷ records) v in
      let q = first-passed (base_test g base) (output_test 1 words ∷ position ∷ records) p.1 in
      let r = first-passed (output_test 1 words) (position ∷ records) q.1 in
      let t = first-passed position records r.1 in
      let both = both_true (within_axis (full_size g.horizontal) column) (within_axis (full_size g.vertical) row) (not-false _ t.0) in
      record { column-within = both.0; row_within = both.1; words-length = eqb-true (length words) record_words (not-false (eqb (length words) record_words) r.0) }

  asked : (n : Numbers) (column row : ℕ) (alone base : List ℤ) → verdict_of (macroblock_tests limit n base (pos column) (pos row) alone) ≡ Accepted → Asked n column row alone
  asked n column row alone base v =
      let p = asked-at n base (pos column) (pos row) alone v in
      record { column-within = within_low _ (pos column) p.column-within; row_within = within_low _ (pos row) p.row_within; alone-length = p.words-length }

  -- where a picture is accepted, it gives what is made of each macroblock
  picture-gives : (n : Numbers) (column row : ℕ) (words alone base : List ℤ) → Passed n words base → Asked n column row alone
      → PictureGives limit n column row words alone base (made_of (axes_of n) base column row).answer (made_of (axes_of n) base column row).written
  picture-gives n column row words alone base k q =
      let v = accepted n words base k in
      let c = alone-accepted n words base column row q.column-within q.row_within k alone q.alone-length in
      record {
        counts = _;
        accepted = counted-made n words base v;
        answered = ap (λ (o : Outcome MacroblockReply). o.reply) (gives_made n column row alone base c);
        at_address = record-made n words base column row q.column-within q.row_within v;
      }

  -- and so that is all that it gives
  pub picture-made : (n : Numbers) (column row : ℕ) (words alone base : List ℤ) (answer : Answer) (written : List ℤ) → PictureGives limit n column row words alone base answer written
      → ((made_of (axes_of n) base column row).answer ≡ answer) × ((made_of (axes_of n) base column row).written ≡ written)
  picture-made n column row words alone base answer written given =
      let k = passed n words base (counted-accepted n words base given.counts given.accepted) in
      let q = asked n column row alone base (call-accepted n base (pos column) (pos row) alone answer given.answered) in
      let own = picture-gives n column row words alone base k q in
      (cc (sym own.answered ∙ given.answered), sym own.at_address ∙ given.at_address)

  -- Demand 3 for the picture call: whatever stands at a macroblock's address, with the one-macroblock call's answer on the same base.
  picture : (n : Numbers) (column row : ℕ) (words alone base : List ℤ) (answer : Answer) (written : List ℤ)
      → PictureGives limit n column row words alone base answer written → Demand3Picture limit n column row words alone base answer written
  picture n column row words alone base answer written given =
      let g = axes_of n in
      let made = made_of g base column row in
      let k = passed n words base (counted-accepted n words base given.counts given.accepted) in
      let q = asked n column row alone base (call-accepted n base (pos column) (pos row) alone answer given.answered) in
      let p = picture-made n column row words alone base answer written given in
      let a : made.answer ≡ answer = p.0 in
      let w : made.written ≡ written = p.1 in
      subst (λ (z : Answer). Demand3Picture limit n column row words alone base z written) a
      (subst (λ (z : List ℤ). Demand3Picture limit n column row words alone base made.answer z) w
      (promised n column row k.geometry base (FormedWords limit g base) (PictureGives limit n column row words alone) (others k q)))
    where
      others : Passed n words base → Asked n column row alone → (other : List ℤ) → FormedWords limit (axes_of n) base other → Agree (addresses_named (axes_of n) (answer_of (axes_of n) base column row)) base other
          → PictureGives limit n column row words alone other (made_of (axes_of n) base column row).answer (made_of (axes_of n) base column row).written
      others k q other formed agree =
          let g = axes_of n in
          let b : (base_test g other).applies ≡ false = ap (λ (m : ℕ). not (eqb m (record_words * base_count g))) formed.0 ∙ k.base-length in
          let p : Passed n words other = record { geometry = k.geometry; base-length = b; word-length = k.word-length; formed = formed.1 } in
          subst (λ (m : Made). PictureGives limit n column row words alone other m.answer m.written) (made-same n column row k.geometry base other agree)
          (picture-gives n column row words alone other p q)

  -- ---- the cases
  case-passed : (n : Numbers) (base words : List ℤ) → PictureCase limit n base words → Passed n words base
  case-passed n base words case = record {
    geometry = case.geometry;
    base-length = ap not (eq-eqb (length base) (record_words * base_count (axes_of n)) case.base-length);
    word-length = ap not (eq-eqb (length words) (record_words * full_count (axes_of n)) case.words-length);
    formed = case.formed;
  }

  -- in a case of it, a picture is not refused
  pub case-counted : (n : Numbers) (base words : List ℤ) (r : Refusal) → (picture_call limit n base words).reply ≡ NotMade r → PictureCase limit n base words → ⊥
  case-counted n base words r e case = counts-not-refusal (sym e ∙ counted-made n words base (accepted n words base (case-passed n base words case)))

  -- a case of the demand is one of both calls
  case-singly : (n : Numbers) (column row : ℕ) (base words : List ℤ) → Case limit n column row base → length words ≡ record_words → SinglyCase limit n (pos column) (pos row) base words
  case-singly n column row base words case l = record {
    geometry = case.geometry;
    base-length = case.base-length;
    words-length = l;
    column-low = bounds-low column;
    column-high = bounds-high column _ case.column-within;
    row_low = bounds-low row;
    row-high = bounds-high row _ case.row_within;
    formed = λ a m. case.formed a (read_below n words base column row case.column-within case.row_within case.geometry a m);
  }

  case-picture : (n : Numbers) (column row : ℕ) (base words : List ℤ) → Case limit n column row base → length words ≡ record_words * full_count (axes_of n) → PictureCase limit n base words
  case-picture n column row base words case l = record { geometry = case.geometry; base-length = case.base-length; words-length = l; formed = case.formed }

  -- ---- entire
  pub demand3 : Demand3Entire limit
  demand3 = record {
    singly = singly;
    singly-given = λ n column row words base case. (_, _, gives_made n column row words base (case-accepted n (pos column) (pos row) base words case));
    picture = picture;
    picture-given = λ n column row words alone base case x y l. (_, _, picture-gives n column row words alone base (case-passed n base words case) (record { column-within = x; row_within = y; alone-length = l }));
    case-singly = case-singly;
    case-picture = case-picture;
  }
