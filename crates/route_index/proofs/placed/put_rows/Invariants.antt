use Rattle.std.proofs.Common.{◌≡◌}
use Rattle.view_rules.specs.ByKey.{put_all}
use Rattle.view_rules.specs.Routes.{route_cmp}
use Rattle.route_index.specs.Placed.{Rise, by_place, row_place}
use Rattle.route_index.proofs.placed.put_rows.Given as goal

-- with the routes that are left all are put
abbrev pub invariant-loop-row : goal.invariant-loop-row
invariant-loop-row l = record {
  put : Rise l.initial.rows.items → put_all route_cmp row_place l.row-iterator.rest.items (by_place l.rows.items) ≡ put_all route_cmp row_place l.fn.added.items (by_place l.initial.rows.items);
  rise : Rise l.initial.rows.items → Rise l.rows.items;
}
