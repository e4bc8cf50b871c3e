use Rattle.std.proofs.Common.{Bool, List, ap, subst, ◌∙◌}
use Rattle.std.specs.Option.{option_copied}
use Rattle.mesh_base.specs.declared.key.ObjKey.{ObjKey}
use Rattle.view_types.specs.declared.endpoint.EndpointRow.{EndpointRow}
use Rattle.view_types.specs.declared.endpoint.EndpointView.{EndpointView}
use Rattle.view_rules.specs.Endpoints.{first_rows}
use Rattle.endpoint_rows.specs.Before.{TellsBefore}
use Rattle.endpoint_rows.specs.Kept.{rows_of}
use Rattle.endpoint_rows.specs.declared.slices.Slices.{Slices}
use Rattle.slice_marks.specs.Marked.{marks_at}
use Rattle.endpoint_index.specs.Given.{given_at, pods_at}
use Rattle.endpoint_index.proofs.Filling.{all_put, rows_are}
use Rattle.endpoint_index.proofs.slices.bring_up.Goals as goal

pub returns-clause-stands : goal.returns-clause-stands
returns-clause-stands g c = λ keeps agree up.
    let config = c.args.source.now.from.now.config.now in
    let held = c.args.source.now.from.now.store.now.objects in
    let key = c.args.source.now.key.now in
    let name = option_copied c.args.source.now.port.name in
    let touched = c.args.touched.now in
    let given : ObjKey → List EndpointRow = λ k. first_rows (given_at config held key name k) in
    let mid = c.follow_slices.new.kept in
    let kept = c.in_ok-moved.ensures.keeps keeps in
    let rows = all_put given (rows_of c.args.kept.now.rows.slices.by_slice) touched (rows_of mid.rows.slices.by_slice) c.in_ok-moved.ensures.rows (λ k lacks. (up k lacks).rows) in
    let pods = all_put (pods_at held key) (marks_at c.args.kept.now.read.by_slice) touched (marks_at mid.read.by_slice) c.in_ok-moved.ensures.pods (λ k lacks. (up k lacks).pods) in
    let made : Bool → List EndpointRow → EndpointView = λ exists rows. record { exists = exists; rows = rows } in
    let view = c.in_ok-moved.ensures.view in
    record {
      keeps = c.in_ok-settle.ensures.keeps kept;
      view = c.in_ok-settle.ensures.view kept ∙ (λ i. made ((view i).exists) (rows_are config held key c.slices_make_the_service.ensures name mid.rows.slices kept.agree rows i));
      agree = c.in_ok-moved.ensures.agree agree;
      each = λ k. record {
        rows = ap (λ (s : Slices). rows_of s.by_slice k) c.settle.ensures.slices ∙ rows k;
        pods = pods k;
      };
    }

pub returns-clause-notes : goal.returns-clause-notes
returns-clause-notes g c = λ keeps.
    subst (λ (view : EndpointView). TellsBefore view.rows c.settle.new.self.view.rows c.settle.new.self.notes) c.in_ok-moved.ensures.view
    (c.in_ok-settle.ensures.notes (c.in_ok-moved.ensures.keeps keeps))
