use Rattle.std.proofs.Common.{◌≡◌, ◌+◌, ◌++◌, length}
use Rattle.mesh_base.specs.Keyed.{IsKeyed}
use Rattle.view_rules.specs.ByKey.{changed_from, gone_keys}
use Rattle.view_diff.proofs.merge.find_changes.Given as goal

-- with what the rest of the rows gives, what is found is all
abbrev pub invariant-loop-found : goal.invariant-loop-found
invariant-loop-found g l = record {
  changed : l.found.changed ++ changed_from g.T.KeyedRow.same l.olds l.news ≡ changed_from g.T.KeyedRow.same l.old l.new;
  gone : l.found.gone ++ gone_keys g.T.KeyedRow.cmp g.T.KeyedRow.key_of l.olds l.news ≡ gone_keys g.T.KeyedRow.cmp g.T.KeyedRow.key_of l.old l.new;
  old_keyed : IsKeyed g.T.KeyedRow.cmp g.T.KeyedRow.key_of (λ row. row) l.olds;
  new_keyed : IsKeyed g.T.KeyedRow.cmp g.T.KeyedRow.key_of (λ row. row) l.news;
}

abbrev pub decreases-loop-found : goal.decreases-loop-found
decreases-loop-found g l = length l.olds + length l.news
