use Rattle.std.proofs.Common.{◌≡◌, ◌&&◌, ◌||◌, subst}
use Rattle.key_lists.specs.Keys.{is_key, key_at}
use Rattle.mesh_base.specs.declared.key.ObjKey.{ObjKey}
use Rattle.view_rules.specs.Batch.{has_pair}
use Rattle.view_rules.specs.Endpoints.{pair_cmp}
use Rattle.endpoint_rows.specs.Kept.{Pair}
use Rattle.endpoint_rows.proofs.Agreeing.{put_agree}
use Rattle.endpoint_rows.proofs.Orders.{both_ok}
use Rattle.endpoint_rows.proofs.slices.Slices.put.Goals as goal

pub returns-clause-agree : goal.returns-clause-agree
returns-clause-agree c = λ agree empty.
    both_ok c.put_rows.result c.put_rows.ensures.ordered c.put_rows.ensures.put (λ ordered put.
    put_agree c.args.self.now _ agree ordered c.args.key c.args.rows empty put
    (subst (λ rows. (p : Pair) (k : ObjKey) → key_at pair_cmp c.put_keys.new.by p k ≡ ((has_pair rows p && is_key k c.args.key) || key_at pair_cmp c.args.self.now.by_pair p k))
    c.as_slice.ensures.value c.in_ok-put_keys.ensures))
