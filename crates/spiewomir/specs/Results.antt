-- What the C interface hands over, by document 01's numbers.
use Rattle.std.specs.Prelude.{ℕ, List, [], ◌∷◌, get_or}
use Rattle.definitions.specs.declared.Numbers.{Numbers}
use Rattle.definitions.specs.declared.Class.{Class}
use Rattle.definitions.specs.declared.Class.TheVariants.{Corner, Vert, Hori, Center}
use Rattle.definitions.specs.declared.Answer.{Answer}
use Rattle.definitions.specs.declared.Answer.TheVariants.{Outside, Intra, Inherited}
use Rattle.definitions.specs.Replies.{MacroblockReply}
use Rattle.std.specs.Prelude.{Ok as Answered, Err as Declined}
use Rattle.definitions.specs.Replies.{PictureReply}
use Rattle.std.specs.Prelude.{Ok as Counted, Err as NotMade}
use Rattle.definitions.specs.Answer.{answer_type, answer_origin, answer_detail, answer_fed, sub_types}
use Rattle.spiewomir.specs.declared.GeometryNumbers.{GeometryNumbers}
use Rattle.spiewomir.specs.declared.MacroblockResult.{MacroblockResult}
use Rattle.spiewomir.specs.declared.PictureResult.{PictureResult}

abbrev pub numbers_from_c : GeometryNumbers → Numbers
numbers_from_c g = record {
  horizontal = record { base = g.bw; scaled = g.sw; offset = g.x; full = g.fw };
  vertical = record { base = g.bh; scaled = g.sh; offset = g.y; full = g.fh };
}

-- the header's numbers of the classes: document 01 gives them none
abbrev pub class_number : Class → ℕ
class_number Corner = 0
class_number Vert = 1
class_number Hori = 2
class_number Center = 3

-- the sub-types that an answer has, 0 unless it is inherited with an 8×8 split
abbrev pub answer_sub_types : Answer → List ℕ
answer_sub_types Outside = 0 ∷ 0 ∷ 0 ∷ 0 ∷ []
answer_sub_types (Intra b) = 0 ∷ 0 ∷ 0 ∷ 0 ∷ []
answer_sub_types (Inherited b s) = sub_types s

-- refusal 0 stands for none
abbrev pub answer_result : Answer → MacroblockResult
answer_result a = record {
  refusal = 0;
  place = 0;
  rule = 0;
  kind = answer_type a;
  sub0 = get_or (answer_sub_types a) 0 0;
  sub1 = get_or (answer_sub_types a) 1 0;
  sub2 = get_or (answer_sub_types a) 2 0;
  sub3 = get_or (answer_sub_types a) 3 0;
  class = class_number (answer_origin a).class;
  column = (answer_origin a).column;
  row = (answer_origin a).row;
  detail = answer_detail a;
  first = (answer_fed a).first;
  right = (answer_fed a).right;
  below = (answer_fed a).below;
  diagonal = (answer_fed a).diagonal;
}

abbrev pub macroblock_result : MacroblockReply → MacroblockResult
macroblock_result (Answered a) = answer_result a
macroblock_result (Declined r) = record { refusal = r.number; place = r.place; rule = r.rule; kind = 0; sub0 = 0; sub1 = 0; sub2 = 0; sub3 = 0; class = 0; column = 0; row = 0; detail = 0; first = 0; right = 0; below = 0; diagonal = 0 }

abbrev pub picture_result : PictureReply → PictureResult
picture_result (Counted c) = record { refusal = 0; place = 0; rule = 0; inherited = c.inherited; intra = c.intra; outside = c.outside }
picture_result (NotMade r) = record { refusal = r.number; place = r.place; rule = r.rule; inherited = 0; intra = 0; outside = 0 }
