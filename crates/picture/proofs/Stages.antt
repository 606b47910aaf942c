-- The refusals of the picture call where they apply, in their order, and the picture: the call of document 01. Assumes nothing.
use Prim.Native.Nat.{ℕ, ◌*◌}
use mathlib.Core.Path.{◌≡◌, sym, ap, subst, ◌∙◌}
use mathlib.Core.Bool.{true, false, not}
use mathlib.Core.List.{List, ◌∷◌, ◌++◌, map}
use native.Mathlib.Omega.{arith}
use lib.IntN.{ℤ}
use lib.ListN.{length}
use lib.Dec.{eqb}
use borrow.Author.Tests.{eq-eqb}
use Rattle.std.proofs.lemmas.List.{length-map}
use Rattle.definitions.specs.declared.Axes.{Axes}
use Rattle.definitions.specs.declared.Counts.{Counts}
use Rattle.definitions.specs.declared.Numbers.{Numbers}
use Rattle.definitions.specs.declared.Refusal.{Refusal}
use Rattle.definitions.specs.Replies.{PictureReply, Verdict, Accepted}
use Rattle.std.specs.Prelude.{Ok as Counted, Err as Refused}
use Rattle.definitions.specs.Basics.{up_to, for_each}
use Rattle.definitions.specs.Geometry.{axes_of}
use Rattle.definitions.specs.Record.{record_words}
use Rattle.definitions.specs.Answer.{Made}
use Rattle.definitions.specs.Refusals.{Test, refusal, verdict_of, geometry_tests, geometry_verdict, base_test, output_test, record_tests, all_addresses}
use Rattle.definitions.specs.Calls.{Outcome, by_verdict, made_at, counts_of, picture_tests, picture_call}
use Rattle.definitions.specs.Raster.{base_count, full_count}
use Rattle.definitions.proofs.Choices.{yes, no}
use Rattle.definitions.proofs.Verdicts.{then-verdict, refused-first}
use Rattle.upsample.proofs.Staging.{Handed, handed}

-- lengths that differ
wrong : (k n : ℕ) → (k ≡ n → ⊥) → eqb k n ≡ false
wrong k n h = grind arith

module _ {A : Type 0} (value : A → ℤ) (limit : ℕ) (n : Numbers) (base words : List A) where
  abbrev g : Axes
  g = axes_of n

  abbrev call : Outcome PictureReply
  call = picture_call limit n (map value base) (map value words)

  abbrev records : List Test
  records = record_tests limit (map value base) (all_addresses g)

  abbrev made : List Made
  made = up_to (full_count g) (made_at g (map value base))

  -- a refusal leaves what was lent
  refused-call : (r : Refusal) → verdict_of (geometry_tests n ++ (base_test g (map value base) ∷ output_test (full_count g) (map value words) ∷ records)) ≡ Refused r
      → Handed (Refused r) (map value words) call
  unfolding picture_call picture_tests
  refused-call r e = handed _ _ _ (ap (λ (u : Verdict). by_verdict u Refused (map value words) (record { reply = Counted (counts_of made); words = for_each made (λ m. m.written) })) e)

  -- 1 to 4
  pub at_geometry : (r : Refusal) → geometry_verdict n ≡ Refused r → Handed (Refused r) (map value words) call
  at_geometry r e = refused-call r (refused-first (geometry_tests n) _ r e)

  module _ (accepted : geometry_verdict n ≡ Accepted) where
    -- 5
    pub at_base : (length base ≡ record_words * base_count g → ⊥) → (r : Refusal) → r ≡ refusal 5 → Handed (Refused r) (map value words) call
    at_base h r e =
        let w : eqb (length (map value base)) (record_words * base_count g) ≡ false = rw (length-map base value) (wrong _ _ h) in
        refused-call r (then-verdict (geometry_tests n) _ accepted ∙ (yes _ _ (ap not w) ∙ ap Refused (sym e)))

    module _ (b : length base ≡ record_words * base_count g) where
      base-right : eqb (length (map value base)) (record_words * base_count g) ≡ true
      base-right = eq-eqb _ _ (length-map base value ∙ b)

      -- 6
      pub at_output : (length words ≡ record_words * full_count g → ⊥) → (r : Refusal) → r ≡ refusal 6 → Handed (Refused r) (map value words) call
      at_output h r e =
          let w : eqb (length (map value words)) (record_words * full_count g) ≡ false = rw (length-map words value) (wrong _ _ h) in
          refused-call r (then-verdict (geometry_tests n) _ accepted ∙ (no _ _ (ap not base-right) ∙ (yes _ _ (ap not w) ∙ ap Refused (sym e))))

      module _ (o : length words ≡ record_words * full_count g) where
        lengths-passed : verdict_of (geometry_tests n ++ (base_test g (map value base) ∷ output_test (full_count g) (map value words) ∷ records)) ≡ verdict_of records
        lengths-passed =
            let w : eqb (length (map value words)) (record_words * full_count g) ≡ true = eq-eqb _ _ (length-map words value ∙ o) in
            then-verdict (geometry_tests n) _ accepted ∙ (no _ _ (ap not base-right) ∙ no _ _ (ap not w))

        -- 8
        pub at_record : (r : Refusal) → verdict_of records ≡ Refused r → Handed (Refused r) (map value words) call
        at_record r e = refused-call r (lengths-passed ∙ e)

        -- the picture
        pub all_right : verdict_of records ≡ Accepted → (counts : Counts) (out : List ℤ) → counts ≡ counts_of made → out ≡ for_each made (λ m. m.written)
            → Handed (Counted counts) out call
        unfolding picture_call picture_tests
        all_right e counts out c w =
            handed _ _ _ (ap (λ (u : Verdict). by_verdict u Refused (map value words) (record { reply = Counted (counts_of made); words = for_each made (λ m. m.written) })) (lengths-passed ∙ e)
            ∙ (λ i. record { reply = Counted (sym c i); words = sym w i }))

    -- ---- the same, by what the calls were given: axes that are those of the numbers, and words that are the base's
    module _ (a : Axes) (e : a ≡ g) where
      pub base-wrong : (length base ≡ record_words * base_count a → ⊥) → (r : Refusal) → r ≡ refusal 5 → Handed (Refused r) (map value words) call
      base-wrong h = at_base (subst (λ (x : Axes). length base ≡ record_words * base_count x → ⊥) e h)

      module _ (b : length base ≡ record_words * base_count a) (k : ℕ) (count : k ≡ full_count a) where
        long : length base ≡ record_words * base_count g
        long = subst (λ (x : Axes). length base ≡ record_words * base_count x) e b

        lent : record_words * k ≡ record_words * full_count g
        lent = ap (λ (x : ℕ). record_words * x) (count ∙ ap full_count e)

        pub output-wrong : (length words ≡ record_words * k → ⊥) → (r : Refusal) → r ≡ refusal 6 → Handed (Refused r) (map value words) call
        output-wrong h = at_output long (λ l. h (l ∙ sym lent))

        module _ (o : length words ≡ record_words * k) (c : Axes) (d : c ≡ a) (held : List A) (w : held ≡ base) where
          judged-is : verdict_of (record_tests limit (map value held) (all_addresses c)) ≡ verdict_of records
          judged-is i = verdict_of (record_tests limit (map value (w i)) (all_addresses ((d ∙ e) i)))

          pub record-wrong : (r : Refusal) → verdict_of (record_tests limit (map value held) (all_addresses c)) ≡ Refused r → Handed (Refused r) (map value words) call
          record-wrong r j = at_record long (o ∙ lent) r (sym judged-is ∙ j)

          module _ (f : Axes) (p : f ≡ c) (formed : List A) (q : formed ≡ held) where
            pub output-formed : length words ≡ record_words * full_count f
            output-formed = o ∙ (lent ∙ ap (λ (x : Axes). record_words * full_count x) (sym (p ∙ (d ∙ e))))

            pub picture-made : verdict_of (record_tests limit (map value held) (all_addresses c)) ≡ Accepted → (counts : Counts) (out : List ℤ)
                → counts ≡ counts_of (up_to (full_count f) (made_at f (map value formed))) → out ≡ for_each (up_to (full_count f) (made_at f (map value formed))) (λ m. m.written)
                → Handed (Counted counts) out call
            picture-made j counts out n-is w-is =
                let same : up_to (full_count f) (made_at f (map value formed)) ≡ made = λ i. up_to (full_count ((p ∙ (d ∙ e)) i)) (made_at ((p ∙ (d ∙ e)) i) (map value ((q ∙ w) i))) in
                all_right long (o ∙ lent) (sym judged-is ∙ j) counts out (n-is ∙ ap counts_of same) (w-is ∙ ap (λ (ms : List Made). for_each ms (λ m. m.written)) same)
