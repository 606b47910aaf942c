-- One macroblock, the picture (each at the limit of its width) and a session's next, as the C interface hands them over: the numbers of the call's reply, with demand 3 of it.
use Rattle.std.specs.Prelude.{ℕ, ◌≡◌, List, ℤ}
use Rattle.definitions.specs.declared.Numbers.{Numbers}
use Rattle.definitions.specs.Replies.{MacroblockReply, PictureReply}
use Rattle.definitions.specs.Calls.{macroblock_call, picture_call}
use Rattle.definitions.specs.Session.{next_call}
use Rattle.upsample.specs.Promised.{SinglyPromised}
use Rattle.picture.specs.Promised.{PicturePromised, SinglyCounted}
use Rattle.spiewomir.specs.declared.MacroblockResult.{MacroblockResult}
use Rattle.spiewomir.specs.declared.PictureResult.{PictureResult}
use Rattle.session.specs.Promised.{NextPromised}
use Rattle.session.specs.Values.{state_of}
use Rattle.spiewomir.specs.declared.SessionNumbers.{SessionNumbers}
use Rattle.spiewomir.specs.declared.AdvancedResult.{AdvancedResult}
use Rattle.spiewomir.specs.Results.{macroblock_result, picture_result}
use Rattle.spiewomir.specs.Sessions.{session_from_c}

pub record MacroblockGiven (limit : ℕ) (n : Numbers) (base : List ℤ) (column row : ℤ) (words : List ℤ) (result : MacroblockResult) (new : List ℤ) : Type 0 where
  pub reply : MacroblockReply
  pub answer : reply ≡ (macroblock_call limit n base column row words).reply
  pub demand3 : SinglyPromised limit n base column row words reply new
  pub is : result ≡ macroblock_result reply

pub record PictureGiven (limit : ℕ) (n : Numbers) (base words : List ℤ) (result : PictureResult) (new : List ℤ) : Type 0 where
  pub reply : PictureReply
  pub answer : reply ≡ (picture_call limit n base words).reply
  pub demand3 : PicturePromised limit n base words reply new
  pub singly : SinglyCounted limit n base reply new
  pub is : result ≡ picture_result reply

-- Next, of the session that the numbers stand for. (What session it hands back: the clause result of its contract.)
pub record NextGiven (s : SessionNumbers) (base words : List ℤ) (result : AdvancedResult) (new : List ℤ) : Type 0 where
  pub reply : MacroblockReply
  pub answer : reply ≡ (next_call (state_of (session_from_c s)) base words).reply
  pub demand3 : NextPromised (state_of (session_from_c s)) base words reply new
  pub is : result.macroblock ≡ macroblock_result reply
