-- What is seen by folding is in order.
use Rattle.std.proofs.Common.{◌≡◌, cond, List, [], ◌∷◌, map, Option, Some, None, refl, sym, ap, ◌∙◌}
use Rattle.std.specs.FinMap.{empty, get-empty, same_map, values}
use Rattle.std.specs.List.{list_any}
use Rattle.std.specs.List.Sorted.{IsStrictlySortedBy}
use Rattle.view_rules.proofs.AuthzKeys.{authz_exact, authz_total}
use Rattle.view_rules.proofs.KeptOnce.{keys_rise}
use Rattle.view_rules.proofs.KeyMaps as maps
use Rattle.view_rules.proofs.Orderly.{none_is_orderly}
use Rattle.view_rules.proofs.Pairs.{pairs_exact, pairs_total}
use Rattle.view_rules.proofs.RowMaps.{Pair, IsOwn, IsRising, own_rows, rows_shown, values_rise}
use Rattle.view_rules.specs.AuthzOrder.{RowsRise, authz_key}
use Rattle.view_rules.specs.Batch.{same_pair}
use Rattle.view_rules.specs.Endpoints.{pair_cmp, pair_of}
use Rattle.view_rules.specs.Fold.{IsOrderly, IsOrderlyIfShown, RowMap, authz_of, folded_onto, put_authz, put_rows, row_map, seen, seen_port, shown_after, take_authz, take_out, with_authz}
use Rattle.view_types.specs.declared.endpoint.EndpointRow.{EndpointRow}
use Rattle.view_types.specs.declared.message.Message.{Message}
use Rattle.view_types.specs.declared.message.Message.TheVariants.{Add, Remove, NoEndpoints, Profile as WholeProfile, Server as WholeServer, Outbound as WholeOutbound, Whole, AuthzPut, AuthzGone}
use Rattle.view_types.specs.declared.server_view.ServerView.{ServerView}
use Rattle.view_types.specs.declared.view.View.{View}
use Rattle.view_types.specs.declared.view.View.TheVariants.{Endpoints, Profile, Server, Outbound, ServerRows}
use Rattle.view_fold.specs.Laws.{FoldsAreOrderly}
use Rattle.view_fold.proofs.Folded.{AuthzRises, put_keeps, sorted_rises, take_keeps, edited_rises}

-- ---- endpoints

rise : (xs : List EndpointRow) → IsRising xs → IsStrictlySortedBy pair_cmp (map pair_of xs)
rise = keys_rise pairs_total pairs_exact pair_of

map_rises : (m : RowMap) → IsOwn m → IsStrictlySortedBy pair_cmp (map pair_of (values m))
map_rises m own = rise (values m) (values_rise m own)

none_left : (ps : List Pair) (rows : List EndpointRow) → rows ≡ [] → values (take_out ps (row_map rows)) ≡ []
none_left ps rows none =
    ap (λ xs. values (take_out ps (row_map xs))) none
    ∙ ap values (same_map pairs_total pairs_exact (take_out ps empty) empty
    (λ q. maps.taken pairs_total pairs_exact pair_of ps empty q ∙ ap (cond (list_any (same_pair q) ps) None) (get-empty pair_cmp q) ∙ maps.either_none pairs_total pairs_exact pair_of (list_any (same_pair q) ps) ∙ sym (get-empty pair_cmp q)))
    ∙ rows_shown [] tt

seen_is : (shown : Option View) → IsOrderlyIfShown shown → IsOrderly (seen shown)
seen_is None is = none_is_orderly
seen_is (Some (Endpoints view)) is = is
seen_is (Some (Profile view)) is = none_is_orderly
seen_is (Some (Server view)) is = none_is_orderly
seen_is (Some (Outbound view)) is = none_is_orderly
seen_is (Some (ServerRows view)) is = none_is_orderly

-- ---- authorizations

authz_rise : (view : ServerView) → AuthzRises view → RowsRise (authz_of view)
authz_rise view = keys_rise authz_total authz_exact authz_key (authz_of view)

-- ---- messages

pub one_more : (shown : Option View) (message : Message) → IsOrderlyIfShown shown → IsOrderlyIfShown (Some (shown_after shown message))
one_more shown (Add rows) is = record {
  rise = map_rises (put_rows rows (row_map (seen shown).rows)) (maps.own_put pairs_total pairs_exact pair_of rows (row_map (seen shown).rows) (own_rows (seen shown).rows));
  absent = λ e. cc;
}
one_more shown (Remove ps) is = record {
  rise = map_rises (take_out ps (row_map (seen shown).rows)) (maps.own_taken pairs_total pairs_exact pair_of ps (row_map (seen shown).rows) (own_rows (seen shown).rows));
  absent = λ e. none_left ps (seen shown).rows ((seen_is shown is).absent e);
}
one_more shown (NoEndpoints exists) is = record { rise = rise [] tt; absent = λ e. refl }
one_more shown (WholeProfile view) is = tt
one_more shown (WholeServer view) is = tt
one_more shown (WholeOutbound view) is = tt
one_more shown (Whole view) is = authz_rise (with_authz (λ authz. authz) view) (sorted_rises view)
one_more shown (AuthzPut rows) is = authz_rise (with_authz (put_authz rows) (seen_port shown)) (edited_rises (put_authz rows) (put_keeps rows) (seen_port shown))
one_more shown (AuthzGone keys) is = authz_rise (with_authz (take_authz keys) (seen_port shown)) (edited_rises (take_authz keys) (take_keeps keys) (seen_port shown))

folded_is : (shown : Option View) (messages : List Message) → IsOrderlyIfShown shown → IsOrderlyIfShown (folded_onto shown messages)
folded_is shown [] is = is
folded_is shown (m ∷ ms) is = folded_is (Some (shown_after shown m)) ms (one_more shown m is)

pub folds_are_orderly : FoldsAreOrderly
folds_are_orderly messages = folded_is None messages tt
