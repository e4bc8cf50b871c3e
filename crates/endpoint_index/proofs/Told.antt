-- What is noted of a change, key by key.
use Rattle.std.proofs.Common.{◌≡◌, Bool, true, false, cond, List, [], Option, Some, None, refl, sym, subst}
use Rattle.std.specs.Cmp.{IsTotalOrder}
use Rattle.std.specs.Prelude.{option_map}
use Rattle.std.proofs.lemmas.Cmp.{nat_cmp_total, nat_list_cmp_total, on_total, then_total}
use Rattle.mark_rules.specs.Changes.{Leads}
use Rattle.mark_rules.specs.contracts.keys.EndpointKeyOrd as key_order
use Rattle.mark_rules.specs.declared.keys.EndpointKey.{EndpointKey}
use Rattle.view_types.specs.Objects.{ObjectMap}
use Rattle.view_types.specs.declared.config.Config.{Config}
use Rattle.view_types.specs.declared.endpoint.EndpointRow.{EndpointRow}
use Rattle.view_types.specs.declared.mark.Mark.{Mark}
use Rattle.endpoint_rows.proofs.Showing.{untold}
use Rattle.endpoint_rows.specs.Before.{TellsBefore}
use Rattle.row_table.specs.TableRows.{RowAfter, StandsAt, kept_in}
use Rattle.row_table.specs.declared.key_numbers.UsedKey.{UsedKey}
use Rattle.row_table.specs.declared.table_rows.KeptRow.{KeptRow}
use Rattle.row_table.proofs.Puts.{none_is_not_some}
use Rattle.endpoint_index.specs.Standing.{Stands, Tells}
use Rattle.endpoint_index.specs.Still.{view_in}
use Rattle.endpoint_index.specs.Told.{notes_in, rows_shown}
use Rattle.endpoint_index.specs.declared.kept.KeptEndpoints.{KeptEndpoints}

pub endpoint_keys_total : IsTotalOrder key_order.TheImpl.cmp-value.it
endpoint_keys_total =
    then_total (on_total (λ (key : EndpointKey). key.name) nat_list_cmp_total)
    (then_total (on_total (λ (key : EndpointKey). key.ns) nat_list_cmp_total) (on_total (λ (key : EndpointKey). key.port) nat_cmp_total))

module _ (config : Config) (changed : List Mark) (held after : ObjectMap) (key : EndpointKey) where
  abbrev shown : Option (KeptRow EndpointKey KeptEndpoints) → List EndpointRow
  shown row = rows_shown (option_map (λ r. view_in r.kept) row)

  -- the notes of a row that followed the change, and none of one that stayed
  told : (some : Bool) (used : Option UsedKey) (old new : Option (KeptRow EndpointKey KeptEndpoints)) → RowAfter (Stands config) Tells changed after some key old new → StandsAt (Stands config) held key used old → Leads changed held after
      → TellsBefore (shown old) (shown new) (cond some (notes_in (kept_in new)) [])
  told false used old new same stands leads = subst (λ (row : Option (KeptRow EndpointKey KeptEndpoints)). TellsBefore (shown old) (shown row) []) (sym same) (untold (shown old))
  told true used None None follows stands leads = untold []
  told true used None (Some n) follows stands leads = absurd follows
  told true used (Some o) None follows stands leads = absurd follows
  told true None (Some o) (Some n) follows stands leads = none_is_not_some (Some o) o stands refl
  told true (Some u) (Some o) (Some n) follows stands leads = (follows.kept held stands.2 leads).1

  pub told_if : (some touched : Bool) → touched ≡ some → (used : Option UsedKey) (old new : Option (KeptRow EndpointKey KeptEndpoints)) → RowAfter (Stands config) Tells changed after some key old new
      → StandsAt (Stands config) held key used old → Leads changed held after → TellsBefore (shown old) (shown new) (cond touched (notes_in (kept_in new)) [])
  told_if some touched is used old new follows stands leads =
      subst (λ (b : Bool). TellsBefore (shown old) (shown new) (cond b (notes_in (kept_in new)) [])) (sym is) (told some used old new follows stands leads)
