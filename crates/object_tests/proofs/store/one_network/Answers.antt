use Rattle.std.proofs.Common.{◌≡◌, [], ◌∷◌}
use Rattle.std.specs.List.{IsDistinct}
use Rattle.std.proofs.lemmas.List.Elements.{All-cons, All-nil}
use Rattle.mesh_base.specs.declared.key.Kind.{Kind}
use Rattle.view_types.specs.declared.object.Object.{Object}
use Rattle.view_types.specs.Objects.{kind_of, IsListOf}
use Rattle.object_tests.proofs.store.one_network.Goals as goal

alone : (kind : Kind) (o : Object) → kind_of o ≡ kind → IsListOf kind (o ∷ [])
unfolding IsDistinct
alone kind o of = record {
  each = All-cons (λ o. kind_of o ≡ kind) o [] of (All-nil (λ o. kind_of o ≡ kind));
  apart = (tt, tt);
}

pub returns : goal.returns
returns c = rw (c.in_ok-add.ensures.ok, c.new-items.ensures) (alone _ _ c.in_ok-network.ensures)
