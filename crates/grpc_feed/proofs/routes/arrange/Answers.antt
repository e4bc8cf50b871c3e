use Rattle.std.proofs.Common.{rules}
use Rattle.std.specs.Ordering.{is_lt}
use Rattle.std.proofs.lemmas.List.Sorted.{ranks_by, answers_always}
use Rattle.mesh_base.specs.KeyOrder.{key_cmp}
use Rattle.mesh_base.proofs.KeyOrder.{keys_total}
use Rattle.view_types.specs.Objects.{key_of}
use Rattle.object_store.proofs.Arranged.{arranged, apart-moved}
use Rattle.grpc_feed.proofs.routes.arrange.Goals as goal

pub returns-clause-sorted : goal.returns-clause-sorted
returns-clause-sorted c =
    let moved = rw c.into_vec-items.ensures at c.sort_unstable_by.ensures.permutation in
    arranged _
    (c.sort_unstable_by.ensures.sorted (λ x y. is_lt (key_cmp (key_of x) (key_of y))) (ranks_by keys_total key_of) (answers_always _ _ _ (λ f a r g called. search rules)))
    (apart-moved _ _ moved c.requires)
