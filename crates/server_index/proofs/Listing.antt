-- The list of what a change concerns, mark by mark.
use Rattle.std.proofs.Common.{◌≡◌, ℕ, ◌+◌, ◌<◌, ◌≤◌, ◌||◌, List, length, take, get_or, sym, ap, ◌∙◌}
use Rattle.std.proofs.lemmas.List.{take_all}
use Rattle.std.proofs.lemmas.List.Folds.{list_any_more}
use Rattle.std.specs.List.{list_any}
use Rattle.view_types.specs.Objects.{ObjectMap}
use Rattle.view_types.specs.declared.mark.Mark.{Mark}
use Rattle.server_index.specs.Concerned.{AreListed, is_concerned, stirs}
use Rattle.server_index.specs.declared.concerns.Concern.{Concern}
use Rattle.server_index.specs.declared.name_filter.NameFilter.{NameFilter}

module _ (held : ObjectMap) (changed : List Mark) where
  pub one_mark_more : (i : ℕ) (mark : Mark) (old new : List Concern) → i < length changed → mark ≡ get_or changed i mark → AreListed held (take i changed) old
      → ((names values : NameFilter) → list_any (is_concerned names values) new ≡ (list_any (is_concerned names values) old || stirs held names values mark)) → AreListed held (take (i + 1) changed) new
  one_mark_more i mark old new lt at so_far one names values =
      one names values
      ∙ (λ j. so_far names values j || stirs held names values (at j))
      ∙ sym (list_any_more (stirs held names values) changed i mark lt)

  pub all_listed : (i : ℕ) (listed : List Concern) → length changed ≤ i → AreListed held (take i changed) listed → AreListed held changed listed
  all_listed i listed le so_far names values = so_far names values ∙ ap (list_any (stirs held names values)) (take_all i changed le)
