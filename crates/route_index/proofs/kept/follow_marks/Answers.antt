use Rattle.std.proofs.Common.{ℕ, List, refl, sym, ◌∙◌, arith}
use Rattle.std.proofs.lemmas.Bool.{or_parts}
use Rattle.std.proofs.lemmas.List.Sums.{sum_by-take-le}
use Rattle.view_types.specs.declared.mark.Mark.{Mark}
use Rattle.mark_rules.proofs.Counts.{sum_steps, sum_stops}
use Rattle.route_index.specs.Placed.{names_route}
use Rattle.route_index.proofs.Followed.{all_up, none_less, one_less, twice, two_if}
use Rattle.route_index.proofs.kept.follow_marks.Goals as goal

abbrev two_if_named : List ℕ → Mark → ℕ
two_if_named ns mark = two_if (names_route ns mark)

pub loop-mark-init : goal.loop-mark-init
loop-mark-init g c =
    let server = c.args.server.now in
    record {
      rows = none_less server.store.now.objects server.key.now c.args.changed.now c.args.rows.now.items;
      same = λ e. refl;
      steps = omega arith;
    }

pub loop-mark-preserved : goal.loop-mark-preserved
loop-mark-preserved g c =
    let server = c.args.server.now in
    record {
      rows = one_less server.store.now.objects server.key.now c.args.changed.now c.loop-mark.mark-index c.mark-item.result c.args.rows.now.items c.loop-mark.rows.items c.follow_mark.new.rows.items
          c.loop-mark-test.true c.mark-item.is c.loop-mark.invariant.rows c.in_ok-differs_now.ensures.rows;
      same = λ e.
          let parts = or_parts _ _ (sym c.either-differs.ensures ∙ e) in
          c.in_ok-differs_now.ensures.same parts.1 ∙ c.loop-mark.invariant.same parts.0;
      steps = sum_steps (two_if_named server.key.now.ns) c.args.changed.now c.loop-mark.mark-index c.mark-item.result c.args.steps.now c.loop-mark.steps c.follow_mark.new.steps
          c.loop-mark-test.true c.mark-item.is c.loop-mark.invariant.steps c.follow_mark.ensures.steps;
    }

pub returns-clause-rows : goal.returns-clause-rows
returns-clause-rows g c =
    let server = c.args.server.now in
    all_up server.store.now.objects server.key.now c.args.changed.now c.loop-mark.mark-index c.args.rows.now.items c.loop-mark.rows.items c.loop-mark-test.false c.loop-mark.invariant.rows

pub returns-clause-steps : goal.returns-clause-steps
returns-clause-steps g c =
    let ns = c.args.server.now.key.now.ns in
    let whole = sum_by-take-le (two_if_named ns) c.args.changed.now c.loop-mark.mark-index in
    let two = twice (names_route ns) c.args.changed.now in
    let so_far = c.loop-mark.invariant.steps in
    omega (arith, whole, two, so_far)

pub returns-in_err-differs_now-clause-steps : goal.returns-in_err-differs_now-clause-steps
returns-in_err-differs_now-clause-steps g c =
    let ns = c.args.server.now.key.now.ns in
    let two = twice (names_route ns) c.args.changed.now in
    let whole = sum_stops (two_if_named ns) c.args.changed.now c.loop-mark.mark-index c.mark-item.result c.args.steps.now c.loop-mark.steps c.follow_mark.new.steps
    c.loop-mark-test.true c.mark-item.is c.loop-mark.invariant.steps c.follow_mark.ensures.steps in
    omega (arith, two, whole)
