-- Lists of subscription ids.
use Rattle.std.specs.Prelude.{ℕ, Bool, List, nat_eq}
use Rattle.std.specs.List.{list_any}
use Rattle.std.specs.Ordering.{nat_cmp}
use Rattle.std.specs.declared.cmp.Ordering.{Ordering}
use Rattle.mesh_base.specs.Keyed.{IsKeyed}
use Rattle.mesh_base.specs.declared.sub_id.SubId.{SubId}

-- the order of ids by their numbers
abbrev pub id_cmp : SubId → SubId → Ordering
id_cmp a b = nat_cmp a.0 b.0

-- the ids are in strictly ascending order
abbrev pub Rises : List SubId → Type 0
Rises ids = IsKeyed id_cmp (λ id. id) (λ id. id) ids

-- the id is in the list
abbrev pub is_among : ℕ → List SubId → Bool
is_among id ids = list_any (λ other. nat_eq id other.0) ids
