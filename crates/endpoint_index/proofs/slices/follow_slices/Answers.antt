use Rattle.std.proofs.Common.{◌++◌, [], ◌∷◌, List, sym, ap, subst, take, ◌∙◌, arith}
use Rattle.std.specs.List.{sum_by}
use Rattle.std.specs.Option.{option_copied}
use Rattle.std.proofs.lemmas.List.{take_all, take_more}
use Rattle.mesh_base.specs.declared.key.ObjKey.{ObjKey}
use Rattle.view_types.specs.declared.endpoint.EndpointRow.{EndpointRow}
use Rattle.view_types.specs.declared.mark.Mark.{Mark}
use Rattle.view_rules.specs.Endpoints.{first_rows}
use Rattle.mark_rules.proofs.Counts.{sum_steps, sum_stops}
use Rattle.endpoint_rows.specs.Kept.{rows_of}
use Rattle.slice_marks.proofs.Reading.{others_then}
use Rattle.slice_marks.specs.Marked.{OthersStay, marks_at}
use Rattle.endpoint_index.specs.Given.{given_at, pods_at, steps_of}
use Rattle.endpoint_index.proofs.Filling.{ArePut, one_more}
use Rattle.endpoint_index.proofs.slices.follow_slices.Goals as goal

pub loop-at-preserved : goal.loop-at-preserved
loop-at-preserved g c =
    let held = c.args.source.now.from.now.store.now.objects in
    let key = c.args.source.now.key.now in
    let given : ObjKey → List EndpointRow = λ k. first_rows (given_at c.args.source.now.from.now.config.now held key (option_copied c.args.source.now.port.name) k) in
    let touched = c.args.touched.now in
    let i = c.loop-at.at-index in
    let at = c.at-item.result in
    let more = take_more touched i at c.loop-at-test.true ∙ ap (λ k. take i touched ++ k ∷ []) (sym c.at-item.is) in
    record {
      keeps = λ keeps. c.in_ok-more.ensures.keeps (c.loop-at.invariant.keeps keeps);
      rows = subst (λ done. ArePut given (rows_of c.args.kept.now.rows.slices.by_slice) done (rows_of c.follow_slice.new.kept.rows.slices.by_slice)) (sym more)
          (one_more given (rows_of c.args.kept.now.rows.slices.by_slice) (take i touched) at _ _ c.loop-at.invariant.rows c.in_ok-more.ensures.rows);
      view = c.in_ok-more.ensures.view ∙ c.loop-at.invariant.view;
      agree = λ agree. c.in_ok-more.ensures.agree (c.loop-at.invariant.agree agree);
      pods = subst (λ done. ArePut (pods_at held key) (marks_at c.args.kept.now.read.by_slice) done (marks_at c.follow_slice.new.kept.read.by_slice)) (sym more)
          (one_more (pods_at held key) (marks_at c.args.kept.now.read.by_slice) (take i touched) at _ _ c.loop-at.invariant.pods c.in_ok-more.ensures.pods);
      moved = subst (λ (marks : List Mark). OthersStay marks c.args.kept.now.read.by_mark c.follow_slice.new.kept.read.by_mark) (sym c.in_ok-append.ensures)
          (others_then c.loop-at.moved c.in_ok-more.more c.args.kept.now.read.by_mark c.loop-at.kept.read.by_mark c.follow_slice.new.kept.read.by_mark c.loop-at.invariant.moved c.in_ok-more.ensures.moved);
      steps = sum_steps (steps_of held key) touched i at c.args.steps.now c.loop-at.steps c.follow_slice.new.steps c.loop-at-test.true c.at-item.is c.loop-at.invariant.steps c.follow_slice.ensures.steps;
    }

pub returns-clause-keeps : goal.returns-clause-keeps
returns-clause-keeps g c = c.loop-at.invariant.keeps

pub returns-clause-rows : goal.returns-clause-rows
returns-clause-rows g c =
    let held = c.args.source.now.from.now.store.now.objects in
    let key = c.args.source.now.key.now in
    let given : ObjKey → List EndpointRow = λ k. first_rows (given_at c.args.source.now.from.now.config.now held key (option_copied c.args.source.now.port.name) k) in
    subst (λ done. ArePut given (rows_of c.args.kept.now.rows.slices.by_slice) done (rows_of c.loop-at.kept.rows.slices.by_slice)) (take_all c.loop-at.at-index c.args.touched.now c.loop-at-test.false) c.loop-at.invariant.rows

pub returns-clause-agree : goal.returns-clause-agree
returns-clause-agree g c = c.loop-at.invariant.agree

pub returns-clause-pods : goal.returns-clause-pods
returns-clause-pods g c =
    let held = c.args.source.now.from.now.store.now.objects in
    let key = c.args.source.now.key.now in
    subst (λ done. ArePut (pods_at held key) (marks_at c.args.kept.now.read.by_slice) done (marks_at c.loop-at.kept.read.by_slice)) (take_all c.loop-at.at-index c.args.touched.now c.loop-at-test.false) c.loop-at.invariant.pods

pub returns-clause-moved : goal.returns-clause-moved
returns-clause-moved g c = c.loop-at.invariant.moved

pub returns-clause-steps : goal.returns-clause-steps
returns-clause-steps g c =
    let held = c.args.source.now.from.now.store.now.objects in
    let key = c.args.source.now.key.now in
    let so_far = c.loop-at.invariant.steps in
    let all = ap (sum_by (steps_of held key)) (take_all c.loop-at.at-index c.args.touched.now c.loop-at-test.false) in
    omega (arith, so_far, all)

pub returns-in_err-more-clause-steps : goal.returns-in_err-more-clause-steps
returns-in_err-more-clause-steps g c =
    let held = c.args.source.now.from.now.store.now.objects in
    let key = c.args.source.now.key.now in
    sum_stops (steps_of held key) c.args.touched.now c.loop-at.at-index c.at-item.result c.args.steps.now c.loop-at.steps c.follow_slice.new.steps c.loop-at-test.true c.at-item.is c.loop-at.invariant.steps c.follow_slice.ensures.steps

pub returns-in_err-append-clause-steps : goal.returns-in_err-append-clause-steps
returns-in_err-append-clause-steps g c =
    let held = c.args.source.now.from.now.store.now.objects in
    let key = c.args.source.now.key.now in
    sum_stops (steps_of held key) c.args.touched.now c.loop-at.at-index c.at-item.result c.args.steps.now c.loop-at.steps c.follow_slice.new.steps c.loop-at-test.true c.at-item.is c.loop-at.invariant.steps c.follow_slice.ensures.steps
