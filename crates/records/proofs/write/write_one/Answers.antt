use Rattle.std.proofs.Common.{◌≡◌, map, refl, ap, ◌∙◌, arith, rules, w16, w32}
use Rattle.std.proofs.lemmas.Int.{to_z-of_z, to_z_pos}
use Rattle.std.proofs.lemmas.List.{length-map}
use Rattle.definitions.specs.Record.{all_one, laid_out}
use Rattle.motion.specs.ByValue.{motion_in}
use Rattle.records.proofs.Filled.{filled-detail, filled-references, filled-sub-type, filled-type, filled-vectors}
use Rattle.records.proofs.write.write_one.Goals as goal

pub loop-w-init : goal.loop-w-init
loop-w-init g c =
    filled-type _ _ _ (map g.W.Word.value c.args.out.now) _ _
    (rw length-map c.requires.0) c.put.ensures (to_z_pos w32 c.args.kind (omega (arith, c.ranges.kind)))

pub loop-w-preserved : goal.loop-w-preserved
loop-w-preserved g c =
    filled-sub-type _ _ _ (map g.W.Word.value c.loop-w.out) _ _ c.loop-w.w c.loop-w.invariant c.put-in-loop-w.ensures c.loop-w.auto.w c.loop-w-test.true refl

pub loop-q-init : goal.loop-q-init
loop-q-init g c = let e : c.loop-w.w ≡ 5 = omega (arith, c.loop-w-test.false, c.loop-w.auto.w-end) in rw (← e) c.loop-w.invariant

pub loop-q-preserved : goal.loop-q-preserved
loop-q-preserved g c =
    filled-references _ _ _ (map g.W.Word.value c.loop-q.out) _ _ _ _ c.loop-q.q c.loop-q.invariant c.loop-q-test.true c.put-in-loop-q.ensures c.put-in-loop-q-2.ensures
    (to_z-of_z w32 _ (search rules)) (to_z-of_z w32 _ (search rules))

pub loop-b-preserved : goal.loop-b-preserved
loop-b-preserved g c =
    filled-vectors _ _ _ (map g.W.Word.value c.loop-b.out) _ _ _ _ _ _ _ _ c.loop-b.b c.loop-b.invariant c.loop-b-test.true
    c.put-in-loop-b.ensures c.put-in-loop-b-2.ensures c.put-in-loop-b-3.ensures c.put-in-loop-b-4.ensures
    (to_z-of_z w32 _ (search rules)) (to_z-of_z w32 _ (search rules)) (to_z-of_z w32 _ (search rules)) (to_z-of_z w32 _ (search rules))

pub returns : goal.returns
returns g c =
    filled-detail _ _ _ (map g.W.Word.value c.loop-b.out) _ _ c.loop-b.b c.loop-b.invariant c.put-2.ensures (omega (arith, c.loop-b-test.false, c.loop-b.auto.b-end))
    (to_z-of_z w32 _ (search rules))
    ∙ ap (λ d. laid_out (all_one c.args.kind (motion_in c.args.m) d)) (to_z-of_z w16 c.args.detail c.ranges.detail)
