use Rattle.std.proofs.Common.{◌≡◌, take}
use Rattle.mesh_base.specs.Keyed.{IsKeyed}
use Rattle.view_rules.specs.ByKey.{map_of, take_all}
use Rattle.view_fold.proofs.rows.take_each.Given as goal

-- the keys so far are taken out
abbrev pub invariant-loop-key : goal.invariant-loop-key
invariant-loop-key g l = record {
  taken : map_of g.T.KeyedRow.cmp g.T.KeyedRow.key_of l.rows.items ≡ take_all g.T.KeyedRow.cmp g.T.KeyedRow.key_of (take l.key-index l.keys) (map_of g.T.KeyedRow.cmp g.T.KeyedRow.key_of l.initial.rows.items);
  keyed : IsKeyed g.T.KeyedRow.cmp g.T.KeyedRow.key_of (λ row. row) l.rows.items;
}
