-- A step of the merge of the rows of two views.
use Rattle.std.specs.Prelude.{◌≡◌, ◌+◌, ◌<◌, ◌++◌, Bool, List, length}
use Rattle.std.specs.declared.cmp.Ordering.{Ordering}
use Rattle.mesh_base.specs.Keyed.{IsKeyed}
use Rattle.view_rules.specs.ByKey.{changed_from, gone_keys}
use Rattle.view_diff.specs.declared.merge.Changes.{Changes}

-- what was found, together with what the remaining rows give, is the same before and after the step
pub record Passes {X K : Type 0} (R : K → K → Ordering) (key : X → K) (same : X → X → Bool) (olds news olds' news' : List X) (found found' : Changes X K) : Type 0 where
  pub changed : found'.changed ++ changed_from same olds' news' ≡ found.changed ++ changed_from same olds news
  pub gone : found'.gone ++ gone_keys R key olds' news' ≡ found.gone ++ gone_keys R key olds news
  pub old_keyed : IsKeyed R key (λ row. row) olds'
  pub new_keyed : IsKeyed R key (λ row. row) news'
  pub fewer : length olds' + length news' < length olds + length news
