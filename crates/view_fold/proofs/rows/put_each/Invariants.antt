use Rattle.std.proofs.Common.{◌≡◌, ◌+◌, ◌≤◌, length}
use Rattle.std.specs.Vec.{vec_capacity, vec_len}
use Rattle.mesh_base.specs.Keyed.{IsKeyed}
use Rattle.view_rules.specs.ByKey.{map_of, put_all}
use Rattle.view_fold.proofs.rows.put_each.Given as goal

-- with the rows that are left all are put, and there is room for them
abbrev pub invariant-loop-row : goal.invariant-loop-row
invariant-loop-row g l = record {
  put : put_all g.T.KeyedRow.cmp g.T.KeyedRow.key_of l.row-iterator.rest.items (map_of g.T.KeyedRow.cmp g.T.KeyedRow.key_of l.rows.items)
      ≡ put_all g.T.KeyedRow.cmp g.T.KeyedRow.key_of l.fn.added.items (map_of g.T.KeyedRow.cmp g.T.KeyedRow.key_of l.initial.rows.items);
  keyed : IsKeyed g.T.KeyedRow.cmp g.T.KeyedRow.key_of (λ row. row) l.rows.items;
  room : vec_len l.rows + length l.row-iterator.rest.items ≤ vec_capacity l.rows;
}
