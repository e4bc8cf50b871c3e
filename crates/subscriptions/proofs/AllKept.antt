-- The views that are kept are those of the live subscriptions with such queries, after each call.
use Rattle.std.proofs.Common.{◌≡◌, ℕ, true, not, cond, nat_eq, [], Option, Some, None, refl, sym, ap, ◌∙◌}
use Rattle.std.specs.Prelude.{option_map}
use Rattle.std.specs.Option.{is_some}
use Rattle.mesh_base.specs.declared.sub_id.SubId.{SubId}
use Rattle.view_types.specs.Objects.{ObjectMap}
use Rattle.view_types.specs.declared.config.Config.{Config}
use Rattle.view_types.specs.declared.query.Query.{Query}
use Rattle.view_types.specs.declared.view.View.{View}
use Rattle.view_rules.specs.Views.{as_asked, view_of}
use Rattle.mark_rules.specs.declared.keys.EndpointKey.{EndpointKey}
use Rattle.row_views.specs.Ids.{Keeps, SetsAt}
use Rattle.row_views.specs.Queries.{ShowsSame, view_at}
use Rattle.subscriptions.specs.Live.{Covers, PutsAt, endpoint_key, kept_at, showing, sub_at}
use Rattle.subscriptions.specs.Standing.{AreKept, new_sub}
use Rattle.subscriptions.specs.declared.roster.Roster.{Roster}
use Rattle.subscriptions.proofs.Asked.{asked_put, asked_still}

-- a query that asks for no endpoints is kept
pub kept_where : (kept : Query → Option Query) → Covers kept → (query : Query) → endpoint_key query ≡ None → is_some (kept query) ≡ true
kept_where kept covers query other = covers query ∙ ap (λ (key : Option EndpointKey). not (is_some key)) other

module _ (kept_query : Query → Option Query) where
  pub none_kept : (queries : ℕ → Option Query) (all : Roster) → all.subs ≡ [] → ((id : ℕ) → queries id ≡ None) → AreKept kept_query queries all
  none_kept queries all no_subs none id = none id ∙ sym (ap (kept_at kept_query id) no_subs)

  module _ (queries then : ℕ → Option Query) (old new : Roster) (kept : AreKept kept_query queries old) where
    pub added_kept : (id : SubId) (query : Query) → PutsAt id.0 (Some (new_sub id query)) old.subs new.subs → SetsAt id.0 (kept_query query) queries then → AreKept kept_query then new
    added_kept id query at sets n =
        sets n ∙ ap (λ (q : Option Query). cond (nat_eq n id.0) (kept_query query) q) (kept n) ∙ sym (asked_put kept_query id.0 (Some (new_sub id query)) old.subs new.subs at n)

    pub ended_kept : (id : ℕ) → PutsAt id None old.subs new.subs → SetsAt id None queries then → AreKept kept_query then new
    ended_kept id at sets n = sets n ∙ ap (λ (q : Option Query). cond (nat_eq n id) None q) (kept n) ∙ sym (asked_put kept_query id None old.subs new.subs at n)

    pub shown_kept : (id : ℕ) (view : View) → PutsAt id (option_map (showing view) (sub_at id old.subs)) old.subs new.subs → Keeps queries then → AreKept kept_query then new
    shown_kept id view at keeps n = keeps n ∙ kept n ∙ sym (asked_still kept_query id view old.subs new.subs at n)

    pub still_kept : new.subs ≡ old.subs → Keeps queries then → AreKept kept_query then new
    still_kept same keeps n = keeps n ∙ kept n ∙ ap (kept_at kept_query n) (sym same)

  -- ---- the view that is kept of a query, told as it asks, is its own

  module _ (covers : Covers kept_query) (same : ShowsSame kept_query) (config : Config) (held : ObjectMap) where
    pub kept_view : (query : Query) → endpoint_key query ≡ None → option_map (as_asked query) (view_at config held (kept_query query)) ≡ Some (view_of config held query)
    kept_view query other = by (kept_query query) refl
      where
        by : (kept : Option Query) → kept_query query ≡ kept → option_map (as_asked query) (view_at config held kept) ≡ Some (view_of config held query)
        by None is = absurd (cc (sym (ap is_some is) ∙ kept_where kept_query covers query other))
        by (Some asked) is = ap Some (same query asked is config held).0
