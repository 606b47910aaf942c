-- The C functions of one macroblock and the picture: a call's contract, at the numbers that C hands over. Assumes nothing.
use Prim.Native.Nat.{ℕ}
use mathlib.Core.Path.{◌≡◌, sym, ap, subst, ◌∙◌}
use mathlib.Core.List.{List, map}
use Rattle.std.proofs.lemmas.List.{map-id}
use lib.IntN.{ℤ}
use Rattle.definitions.specs.declared.Numbers.{Numbers}
use Rattle.definitions.specs.Replies.{MacroblockReply}
use Rattle.definitions.specs.Calls.{Outcome, macroblock_call}
use Rattle.upsample.specs.Promised.{SinglyPromised}
use Rattle.spiewomir.specs.declared.MacroblockResult.{MacroblockResult}
use Rattle.spiewomir.specs.Results.{macroblock_result}
use Rattle.spiewomir.specs.Demands.{MacroblockGiven}

-- of what equals what the call was handed
promised-at : (limit : ℕ) {m n : Numbers} {x y column row : ℤ} {low base before words after new : List ℤ} (reply : MacroblockReply) → m ≡ n → x ≡ column → y ≡ row → low ≡ base → before ≡ words → after ≡ new
    → SinglyPromised limit m low x y before reply after → SinglyPromised limit n base column row words reply new
promised-at limit reply g p q b w a d = subst (λ (T : Type 0). T) (λ i. SinglyPromised limit (g i) (b i) (p i) (q i) (w i) reply (a i)) d

-- at both widths words are their own numbers
pub macroblock-kept : (limit : ℕ) {m n : Numbers} {x y column row : ℤ} → m ≡ n → x ≡ column → y ≡ row → (base words : List ℤ) {reply : MacroblockReply} {new : List ℤ} {result : MacroblockResult}
    → reply ≡ (macroblock_call limit m (map (λ z. z) base) x y (map (λ z. z) words)).reply → map (λ z. z) new ≡ (macroblock_call limit m (map (λ z. z) base) x y (map (λ z. z) words)).words
    → SinglyPromised limit m (map (λ z. z) base) x y (map (λ z. z) words) reply (map (λ z. z) new) → result ≡ macroblock_result reply
    → (result ≡ macroblock_result (macroblock_call limit n base column row words).reply) × ((new ≡ (macroblock_call limit n base column row words).words) × MacroblockGiven limit n base column row words result new)
macroblock-kept limit {m} {n} {x} {y} {column} {row} g p q base words {reply} {new} {result} r w d is =
    let same : macroblock_call limit m (map (λ z. z) base) x y (map (λ z. z) words) ≡ macroblock_call limit n base column row words =
    λ i. macroblock_call limit (g i) (map-id base i) (p i) (q i) (map-id words i) in
    let e = r ∙ ap (λ (o : Outcome MacroblockReply). o.reply) same in
    let given : MacroblockGiven limit n base column row words result new = record { reply = reply; answer = e; demand3 = promised-at limit reply g p q (map-id base) (map-id words) (map-id new) d; is = is } in
    (is ∙ ap macroblock_result e, (sym (map-id new) ∙ (w ∙ ap (λ (o : Outcome MacroblockReply). o.words) same), given))
