use Rattle.std.proofs.Common.{◌≡◌, ◌&&◌, not, subst, ◌∙◌}
use Rattle.key_lists.specs.Keys.{is_key, key_at}
use Rattle.mesh_base.specs.declared.key.ObjKey.{ObjKey}
use Rattle.view_rules.specs.Batch.{has_pair}
use Rattle.view_rules.specs.Endpoints.{pair_cmp}
use Rattle.endpoint_rows.specs.Kept.{Pair}
use Rattle.endpoint_rows.proofs.Agreeing.{taken_agree}
use Rattle.endpoint_rows.proofs.slices.Slices.take.Goals as goal

pub returns-clause-agree : goal.returns-clause-agree
returns-clause-agree c = λ agree.
    taken_agree c.args.self.now _ agree c.take_rows-rows.ensures.ordered c.args.key.now c.take_rows-rows.ensures.taken
    (subst (λ rows. (p : Pair) (k : ObjKey) → key_at pair_cmp c.take_keys.new.by p k ≡ (not (has_pair rows p && is_key k c.args.key.now) && key_at pair_cmp c.args.self.now.by_pair p k))
    (c.as_slice.ensures.value ∙ c.take_rows-rows.ensures.rows) c.take_keys.ensures)
