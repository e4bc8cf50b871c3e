-- Folding the messages of a port gives its new view, whatever was shown before.
use Rattle.std.proofs.Common.{◌≡◌, ℕ, ◌≤◌, Bool, true, false, List, Option, Some, None, if◌then◌else◌, refl, sym, ap, ◌∙◌}
use Rattle.std.specs.FinMap.{values}
use Rattle.view_types.specs.declared.message.Message.TheVariants.{Whole, AuthzPut, AuthzGone}
use Rattle.view_types.specs.declared.server_view.AuthzRow.{AuthzRow}
use Rattle.view_types.specs.declared.server_view.ServerRow.{ServerRow}
use Rattle.view_types.specs.declared.server_view.ServerView.{ServerView}
use Rattle.view_types.specs.declared.server_view.ServerView.TheVariants.{Absent, Present}
use Rattle.view_types.specs.declared.view.View.{View}
use Rattle.view_types.specs.declared.view.View.TheVariants.{Endpoints, Profile, Server, Outbound, ServerRows}
use Rattle.view_rules.specs.AuthzOrder.{AuthzKey, RowsRise, authz_cmp, authz_key}
use Rattle.view_rules.specs.Batch.{messages_to_authz, port_batch, port_in, whole_batch}
use Rattle.view_rules.specs.ByKey.{changed_from, gone_keys}
use Rattle.view_rules.specs.Fold.{AuthzMap, IsOrderlyIfShown, authz_map, authz_of, folded_onto, put_authz, shown_after, take_authz, with_authz}
use Rattle.view_rules.specs.SamePolicies.{same_authz, same_server, same_server_row}
use Rattle.view_rules.proofs.AuthzKeys.{authz_exact, authz_total}
use Rattle.view_rules.proofs.KeyMaps as maps
use Rattle.view_rules.proofs.KeyMaps.{own_rows, rises, rows_shown, shown}
use Rattle.view_rules.proofs.SamePolicies.{authz_decides, server_decides, server_row_decides}
use Rattle.batch_laws.proofs.Folding.{folds_rows}
use Rattle.batch_laws.proofs.PiecesFold.{messages_shown}
use Rattle.batch_laws.proofs.WholeFolds.{whole_folds}

-- ---- authorizations alone

abbrev IsRising : List AuthzRow → Type 0
IsRising = maps.IsRising authz_total authz_exact authz_key

abbrev with_rows : ServerRow → List AuthzRow → ServerRow
with_rows row authz = record row { authz = authz }

module _ (row : ServerRow) where
  abbrev showing : Bool → AuthzMap → Option View
  showing before m = Some (ServerRows (Present (with_rows row (values m))))

  put_one : (before : Bool) (m : AuthzMap) (rows : List AuthzRow) → maps.IsOwn authz_total authz_exact authz_key m → Some (shown_after (showing before m) (AuthzPut rows)) ≡ showing true (put_authz rows m)
  put_one before m rows own = ap (λ n. showing true (put_authz rows n)) (shown authz_total authz_exact authz_key m own)

  take_one : (before : Bool) (m : AuthzMap) (keys : List AuthzKey) → maps.IsOwn authz_total authz_exact authz_key m → Some (shown_after (showing before m) (AuthzGone keys)) ≡ showing before (take_authz keys m)
  take_one before m keys own = ap (λ n. showing before (take_authz keys n)) (shown authz_total authz_exact authz_key m own)

  authz_fold : (size : ℕ) (new : List AuthzRow) → 1 ≤ size → IsRising row.authz → IsRising new
      → folded_onto (Some (ServerRows (Present row))) (messages_to_authz size row.authz new) ≡ Some (ServerRows (Present (with_rows row new)))
  authz_fold size new one rising rising' =
      let changed = changed_from same_authz row.authz new in
      let gone = gone_keys authz_cmp authz_key row.authz new in
      ap (λ authz. folded_onto (Some (ServerRows (Present (with_rows row authz)))) (messages_to_authz size row.authz new)) (sym (rows_shown authz_total authz_exact authz_key row.authz rising))
      ∙ messages_shown authz_total authz_exact authz_key showing AuthzPut AuthzGone put_one take_one true size changed gone (authz_map row.authz) one (own_rows authz_total authz_exact authz_key row.authz)
      ∙ ap (λ m. Some (ServerRows (Present (with_rows row (values m))))) (folds_rows authz_total authz_exact authz_key same_authz authz_decides row.authz new rising rising')
      ∙ ap (λ authz. Some (ServerRows (Present (with_rows row authz)))) (rows_shown authz_total authz_exact authz_key new rising')

-- ---- the view whole

-- rows in order stay as they are
in_order : (view : ServerView) → RowsRise (authz_of view) → with_authz (λ authz. authz) view ≡ view
in_order Absent is = refl
in_order (Present row) is = ap (λ authz. Present (with_rows row authz)) (rows_shown authz_total authz_exact authz_key row.authz (rises authz_total authz_exact authz_key row.authz is))

port_was : (old : Option View) (v : ServerView) → port_in old ≡ Some v → old ≡ Some (ServerRows v)
port_was (Some (ServerRows w)) v e = let same : w ≡ v = cc e in ap (λ v. Some (ServerRows v)) same
port_was _ v e = absurd (cc e)

whole_fold : (old : Option View) (new : ServerView) → RowsRise (authz_of new) → folded_onto old (whole_batch same_server Whole (port_in old) new) ≡ Some (ServerRows new)
whole_fold old new is = whole_folds ServerRows same_server Whole server_decides new (λ shown. ap ServerRows (in_order new is)) old (port_in old) (port_was old)

-- ---- either

module _ (size : ℕ) (one : 1 ≤ size) where
  -- an old view and a new one that are both there
  both_fold : (old new : ServerRow) → RowsRise old.authz → RowsRise new.authz
      → folded_onto (Some (ServerRows (Present old))) (port_batch size (Some (Present old)) (Present new)) ≡ Some (ServerRows (Present new))
  both_fold old new is_old is =
      elim (same_server_row (with_rows old new.authz) new) as (λ b. same_server_row (with_rows old new.authz) new ≡ b
      → folded_onto (Some (ServerRows (Present old))) (if b then messages_to_authz size old.authz new.authz else whole_batch same_server Whole (Some (Present old)) (Present new)) ≡ Some (ServerRows (Present new))) [
        | true ↦ λ t.
            authz_fold old size new.authz one (rises authz_total authz_exact authz_key old.authz is_old) (rises authz_total authz_exact authz_key new.authz is)
            ∙ ap (λ row. Some (ServerRows (Present row))) ((server_row_decides (with_rows old new.authz) new).0 t)
        | false ↦ λ t. whole_fold (Some (ServerRows (Present old))) (Present new) is
      ] refl

  pub port_fold : (old : Option View) (new : ServerView) → IsOrderlyIfShown old → RowsRise (authz_of new) → folded_onto old (port_batch size (port_in old) new) ≡ Some (ServerRows new)
  port_fold (Some (ServerRows (Present before))) (Present row) is_old is = both_fold before row is_old is
  port_fold (Some (ServerRows (Present before))) Absent is_old is = whole_fold (Some (ServerRows (Present before))) Absent is
  port_fold (Some (ServerRows Absent)) new is_old is = whole_fold (Some (ServerRows Absent)) new is
  port_fold (Some (Endpoints view)) new is_old is = whole_fold (Some (Endpoints view)) new is
  port_fold (Some (Profile view)) new is_old is = whole_fold (Some (Profile view)) new is
  port_fold (Some (Server view)) new is_old is = whole_fold (Some (Server view)) new is
  port_fold (Some (Outbound view)) new is_old is = whole_fold (Some (Outbound view)) new is
  port_fold None new is_old is = whole_fold None new is
