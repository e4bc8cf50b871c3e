-- What an event leads to, once those are due whose views or streams it touches.
use Rattle.std.proofs.Common.{◌≡◌, ◌||◌, ℕ, Bool, true, false, List, Option, Some, None, refl, sym, ap, ◌∙◌, subst}
use Rattle.std.specs.Prelude.{flat_map, option_and_then, option_map}
use Rattle.std.specs.Option.{is_some}
use Rattle.std.proofs.Math.Bool.{or-false, or_self}
use Rattle.std.proofs.lemmas.List.{append-nil}
use Rattle.view_types.specs.Objects.{ObjectMap}
use Rattle.view_types.specs.declared.config.Config.{Config}
use Rattle.view_types.specs.declared.endpoint.EndpointView.{EndpointView}
use Rattle.view_types.specs.declared.mark.Mark.{Mark}
use Rattle.view_types.specs.declared.query.Query.{Query}
use Rattle.view_types.specs.declared.query.Query.TheVariants.{Get, Profile, Port, Traffic, PortRows}
use Rattle.mark_graph.specs.RowMarks.{has_row}
use Rattle.mark_rules.specs.Laws.{EndpointsStay}
use Rattle.mark_rules.specs.Marks.{meets}
use Rattle.mark_rules.specs.Reads.{endpoint_reads, query_reads, reads}
use Rattle.mark_rules.specs.Rows.{endpoint_row}
use Rattle.mark_rules.specs.declared.keys.EndpointKey.{EndpointKey}
use Rattle.mark_rules.specs.declared.keys.RowKey.{RowKey}
use Rattle.mark_rules.proofs.MarkTests.{neither_first, neither_second}
use Rattle.endpoint_streams.specs.Streams.{is_met}
use Rattle.row_views.specs.Ids.{Keeps}
use Rattle.row_views.specs.Queries.{ShowsSame, reads_one}
use Rattle.watch_events.specs.declared.event.Event.{Event}
use Rattle.event_laws.specs.Laws.{UntouchedQueriesStay}
use Rattle.feed_history.specs.Due.{is_touched, marks_of_event}
use Rattle.feed_history.specs.Events.{objects_after}
use Rattle.subscriptions.specs.DueIds.{is_among}
use Rattle.subscriptions.specs.Live.{Covers, LiveSubscription, endpoint_key, kept_at, key_at, query_at, sub_at}
use Rattle.subscriptions.specs.Standing.{AreLive, AreStreamed, IsAfter, MakesDue, Stands}
use Rattle.subscriptions.specs.declared.roster.Roster.{Roster}
use Rattle.subscriptions.proofs.AllKept.{kept_where}

abbrev query_in : Option LiveSubscription → Option Query
query_in found = option_map (λ (sub : LiveSubscription). sub.query) found

-- ---- who is told of a change

-- a query of endpoints reads what these do
streamed_reads : (config : Config) (held : ObjectMap) (q : Query) (key : EndpointKey) → endpoint_key q ≡ Some key → query_reads config held q ≡ endpoint_reads held key
streamed_reads config held (Get ns name port ctx) key is =
    let same : record { ns = ns; name = name; port = port } ≡ key = cc is in
    append-nil (endpoint_reads held (record { ns = ns; name = name; port = port })) ∙ ap (endpoint_reads held) same
streamed_reads config held (Profile target ctx) key is = absurd (cc is)
streamed_reads config held (Port ns pod port) key is = absurd (cc is)
streamed_reads config held (Traffic target) key is = absurd (cc is)
streamed_reads config held (PortRows ns pod port) key is = absurd (cc is)

module _ (kept_query : Query → Option Query) (covers : Covers kept_query) (same : ShowsSame kept_query) (config : Config) (before : ObjectMap) (changed : List Mark) where
  -- a query has a view that is kept or a stream, and each of these reads what the query does
  told : (q : Query) → (reads_one config before changed (kept_query q) || is_met before changed (endpoint_key q)) ≡ meets (query_reads config before q) changed
  told q = by (kept_query q) (endpoint_key q) refl refl
    where
      as_kept : (asked : Query) → kept_query q ≡ Some asked → meets (query_reads config before asked) changed ≡ meets (query_reads config before q) changed
      as_kept asked is = ap (λ (keys : List RowKey). meets (flat_map (reads config before) keys) changed) (same q asked is config before).1

      as_streamed : (key : EndpointKey) → endpoint_key q ≡ Some key → meets (endpoint_reads before key) changed ≡ meets (query_reads config before q) changed
      as_streamed key asks = ap (λ (reads : List Mark). meets reads changed) (sym (streamed_reads config before q key asks))

      by : (kept : Option Query) (key : Option EndpointKey) → kept_query q ≡ kept → endpoint_key q ≡ key → (reads_one config before changed kept || is_met before changed key) ≡ meets (query_reads config before q) changed
      by (Some asked) None is other = or-false (meets (query_reads config before asked) changed) ∙ as_kept asked is
      by (Some asked) (Some key) is asks = (λ i. as_kept asked is i || as_streamed key asks i) ∙ or_self (meets (query_reads config before q) changed)
      by None (Some key) is asks = as_streamed key asks
      by None None is other = absurd (cc (sym (ap is_some is) ∙ kept_where kept_query covers q other))

  told_in : (found : Option LiveSubscription) → (reads_one config before changed (option_and_then kept_query (query_in found)) || is_met before changed (option_and_then endpoint_key (query_in found)))
      ≡ reads_one config before changed (query_in found)
  told_in None = refl
  told_in (Some sub) = told sub.query

-- ---- those that are told are live

module _ (config : Config) (before : ObjectMap) (changed : List Mark) (old : Roster) (ids : List ℕ) where
  pub viewed_live : (kept_query : Query → Option Query) → ((n : ℕ) → has_row n ids ≡ reads_one config before changed (kept_at kept_query n old.subs)) → AreLive ids old
  viewed_live kept_query read n has = by (sub_at n old.subs) (sym (read n) ∙ has)
    where
      by : (found : Option LiveSubscription) → reads_one config before changed (option_and_then kept_query (query_in found)) ≡ true → is_some found ≡ true
      by None reads = reads
      by (Some sub) reads = refl

  pub streamed_live : ((n : ℕ) → has_row n ids ≡ is_met before changed (key_at n old.subs)) → AreLive ids old
  streamed_live touched n has = by (sub_at n old.subs) (sym (touched n) ∙ has)
    where
      by : (found : Option LiveSubscription) → is_met before changed (option_and_then endpoint_key (query_in found)) ≡ true → is_some found ≡ true
      by None meets = meets
      by (Some sub) meets = refl

-- ---- what stands after an event

-- those are due that an event touches, and the others were shown their views and endpoints over the objects after it
pub record IsFollowed (config : Config) (before : ObjectMap) (event : Event) (keys : ℕ → Option EndpointKey) (shown : ℕ → Option EndpointView) (old new : Roster) : Type 0 where
  pub due : (n : ℕ) → is_among n new.due ≡ (is_touched config before event (query_at n old.subs) || is_among n old.due)
  pub live : Stands config (objects_after before event) new
  pub streamed : AreStreamed config (objects_after before event) keys shown new

module _ (stay : EndpointsStay) (untouched : UntouchedQueriesStay) (kept_query : Query → Option Query) (covers : Covers kept_query) (same : ShowsSame kept_query)
    (config : Config) (before held : ObjectMap) (marks : List Mark) (event : Event) (is : IsAfter before held marks event) (old new : Roster) (standing : Stands config before old)
    (keys then_keys : ℕ → Option EndpointKey) (shown then_shown : ℕ → Option EndpointView) (st : AreStreamed config before keys shown old) (keeps : Keeps keys then_keys) (stays : Keeps shown then_shown)
    (viewed streamed : List ℕ) (read : (n : ℕ) → has_row n viewed ≡ reads_one config before marks (kept_at kept_query n old.subs)) (touched : (n : ℕ) → has_row n streamed ≡ is_met before marks (keys n))
    (made : MakesDue (λ n. has_row n viewed || has_row n streamed) old new) (subs : new.subs ≡ old.subs) where
  abbrev changed : List Mark
  changed = marks_of_event before event

  -- who is due
  by_reads : (n : ℕ) → (has_row n viewed || has_row n streamed) ≡ (reads_one config before changed (kept_at kept_query n old.subs) || is_met before changed (key_at n old.subs))
  by_reads n = (λ i. (read n ∙ ap (λ (ms : List Mark). reads_one config before ms (kept_at kept_query n old.subs)) is.is_marked) i || (touched n ∙ (λ j. is_met before (is.is_marked j) (st.opened n j))) i)

  as_touched : (query : Option Query) → reads_one config before changed query ≡ is_touched config before event query
  as_touched None = refl
  as_touched (Some q) = refl

  all_due : (n : ℕ) → is_among n new.due ≡ (is_touched config before event (query_at n old.subs) || is_among n old.due)
  all_due n =
      made.each n
      ∙ ap (λ (b : Bool). b || is_among n old.due)
      (by_reads n ∙ told_in kept_query covers same config before changed (sub_at n old.subs) ∙ as_touched (query_at n old.subs))

  -- what is shown to those that aren't
  calm : (n : ℕ) (sub : LiveSubscription) → sub_at n old.subs ≡ Some sub → is_among n new.due ≡ false → (is_touched config before event (Some sub.query) || is_among n old.due) ≡ false
  calm n sub found undue = sym (all_due n ∙ ap (λ (one : Option LiveSubscription). is_touched config before event (query_in one) || is_among n old.due) found) ∙ undue

  still_live : (n : ℕ) (found : Option LiveSubscription) → sub_at n old.subs ≡ found → (is_touched config before event (query_in found) || is_among n old.due) ≡ true → is_some found ≡ true
  still_live n None here due = ap is_some (sym here) ∙ standing.live n due
  still_live n (Some sub) here due = refl

  still_stands : Stands config (objects_after before event) new
  still_stands = record {
    live = λ n among. ap (λ now. is_some (sub_at n now)) subs ∙ still_live n (sub_at n old.subs) refl (sym (all_due n) ∙ among);
    current = λ n sub there other undue.
        let found : sub_at n old.subs ≡ Some sub = ap (sub_at n) (sym subs) ∙ there in
        let neither = calm n sub found undue in
        standing.current n sub found other (neither_second _ _ neither)
        ∙ ap Some (sym (untouched config before is.leads.at_keys is.lawful event is.right sub.query (neither_first _ _ neither)).view);
  }

  missed : (query : Option Query) (key : EndpointKey) → option_and_then endpoint_key query ≡ Some key → is_touched config before event query ≡ false → meets (endpoint_reads before key) changed ≡ false
  missed None key asks misses = absurd (cc asks)
  missed (Some q) key asks misses = ap (λ (reads : List Mark). meets reads changed) (sym (streamed_reads config before q key asks)) ∙ misses

  current_is : (n : ℕ) (key : EndpointKey) → key_at n old.subs ≡ Some key → (is_touched config before event (query_at n old.subs) || is_among n old.due) ≡ false → then_shown n ≡ Some (endpoint_row config held key)
  current_is n key asked undue =
      let misses : meets (endpoint_reads before key) marks ≡ false = ap (meets (endpoint_reads before key)) is.is_marked ∙ missed (query_at n old.subs) key asked (neither_first _ _ undue) in
      stays n ∙ st.current n key asked (neither_second _ _ undue) ∙ ap Some (sym (stay config key marks before held is.leads misses).0)

  all_streamed : AreStreamed config (objects_after before event) then_keys then_shown new
  all_streamed = subst (λ (now : ObjectMap). AreStreamed config now then_keys then_shown new) is.objects (record {
    opened = λ n. keeps n ∙ st.opened n ∙ ap (key_at n) (sym subs);
    current = λ n key there undue. current_is n key (ap (key_at n) (sym subs) ∙ there) (sym (all_due n) ∙ undue);
  })

  pub followed : IsFollowed config before event then_keys then_shown old new
  followed = record { due = all_due; live = still_stands; streamed = all_streamed }
