-- What holds of all that the subscriber of an id was sent.
--
-- Also for a command that hands on the messages of a replay's frames.
use Rattle.std.proofs.Common.{◌≡◌, ℕ, ◌≤◌, ◌⊎◌, ◌≢◌, Bool, true, false, cond, eqb, List, [], ◌∷◌, ◌++◌, length, map, Option, Some, None, Ok, Err, refl, sym, ap, ◌∙◌, subst, append-nil, inl, inr}
use Rattle.std.specs.Prelude.{◌==◌, nat_lt, Result, if◌then◌else◌}
use Rattle.std.specs.List.{AllByRecursion}
use Rattle.std.proofs.lemmas.Bool.{ltb-false}
use Rattle.std.proofs.lemmas.Bool.Decides.{eqb_tells}
use Rattle.proxy_proto.specs.Messages.{canonical}
use Rattle.proxy_proto.specs.Sendable.{method_of}
use Rattle.request_sim.specs.declared.fault.SimFault.{SimFault}
use Rattle.mesh_base.specs.declared.limits.Limits.{Limits}
use Rattle.view_rules.specs.Batch.{authz_before, batch, changed_rows, differ_in_authz, endpoints_in, gone_pairs, in_pieces, is_news, messages_of, messages_to, messages_to_authz, outbound_in, port_batch, port_in, profile_in, rows_before, server_in, whole_batch}
use Rattle.view_rules.specs.AuthzOrder.{AuthzKey, authz_cmp, authz_key}
use Rattle.view_rules.specs.ByKey.{changed_from, gone_keys}
use Rattle.view_rules.specs.Endpoints.{endpoints}
use Rattle.view_rules.specs.Fold.{authz_of}
use Rattle.view_rules.specs.Inbound.{inbound}
use Rattle.view_rules.specs.Outbound.{outbound}
use Rattle.view_rules.specs.Profiles.{profile}
use Rattle.view_rules.specs.Same.{same_option, same_profile}
use Rattle.view_rules.specs.SamePolicies.{same_authz, same_outbound, same_server}
use Rattle.view_rules.specs.Views.{view_before, view_of}
use Rattle.view_types.specs.Objects.{ObjectMap}
use Rattle.view_types.specs.declared.config.Config.{Config}
use Rattle.view_types.specs.declared.endpoint.EndpointRow.{EndpointRow}
use Rattle.view_types.specs.declared.endpoint.EndpointView.{EndpointView}
use Rattle.view_types.specs.declared.message.Message.{Message}
use Rattle.view_types.specs.declared.message.Message.TheVariants.{Add, Remove, NoEndpoints, Profile as WholeProfile, Server as WholeServer, Outbound as WholeOutbound, Whole, AuthzPut, AuthzGone}
use Rattle.view_types.specs.declared.query.Query.{Query}
use Rattle.view_types.specs.declared.query.Query.TheVariants as queries
use Rattle.view_types.specs.declared.server_view.AuthzRow.{AuthzRow}
use Rattle.view_types.specs.declared.server_view.ServerView.{ServerView}
use Rattle.view_types.specs.declared.view.View.{View}
use Rattle.watch_events.specs.declared.line.Line.{Line}
use Rattle.watch_events.specs.declared.line.Line.TheVariants as lines
use Rattle.feed_history.specs.Drains.{too_long}
use Rattle.feed_history.specs.History.{Asked, State, after, after_line, asked_at, id_of, messages_due, reading_after, refusal_after, refusal_of, told_now, too_long_for}
use Rattle.feed_history.specs.Ids.{ended, in_place, unless_refused}
use Rattle.feed_history.specs.Marks.{MarkedRow}
use Rattle.feed_history.specs.Program.{Program}
use Rattle.feed_history.specs.Deliveries.{sent_by, sent_if_live, sent_in_all, sent_now, sent_to, sent_unless}
use Rattle.feed_history.specs.declared.refusal.Refusal.{Refusal}
use Rattle.feed_history.proofs.Lists.{all_if, all_joined, all_made}
use Rattle.feed_history.proofs.AscendingIds.{IsAbove, found_new, none_above, still_above}
use Rattle.feed_history.proofs.EntriesById.{ended_keeps, found_in_place, gone, then_at}
use Rattle.history_laws.proofs.Lives.{IsOrdered, above_last, ordered}
use Rattle.history_laws.proofs.Told.{told_keeps, was_told}
use Rattle.output_laws.specs.Agreement.{method_for}

pub all_parts : {X : Type 0} (P : X → Type 0) (xs ys : List X) → AllByRecursion P (xs ++ ys) → AllByRecursion P xs × AllByRecursion P ys
all_parts P [] ys all = (tt, all)
all_parts P (x ∷ xs) ys all = let more = all_parts P xs ys all.1 in ((all.0, more.0), more.1)

-- ---- whatever every drain sends

module _ (program : Program) (P : Message → Type 0) (each : (past : List MarkedRow) (id : ℕ) → AllByRecursion P (sent_now program (after program past) id)) where
  by_row : (past : List MarkedRow) (id : ℕ) (refusal : Option Refusal) (line : Result Line Refusal) → AllByRecursion P (sent_by program (after program past) refusal line id)
  by_row past id (Some refusal) line = tt
  by_row past id None (Err fault) = tt
  by_row past id None (Ok lines.Blank) = tt
  by_row past id None (Ok (lines.Event event)) = tt
  by_row past id None (Ok (lines.Subscribe asked query)) = tt
  by_row past id None (Ok (lines.Cancel asked)) = tt
  by_row past id None (Ok (lines.Simulate request)) = tt
  by_row past id None (Ok lines.Stop) = tt
  by_row past id None (Ok (lines.Drain asked)) = all_if P (asked.0 == id) (sent_now program (after program past) id) (each past id)

  all_to : (past : List MarkedRow) (id : ℕ) → AllByRecursion P (sent_to program past id)
  all_to [] id = tt
  all_to (row ∷ past) id = all_joined P (sent_to program past id) (sent_by program (after program past) (refusal_after program past row) (reading_after program past row) id) (all_to past id)
      (by_row past id (refusal_after program past row) (reading_after program past row))

  pub all_sent : (past : List MarkedRow) (id : ℕ) → AllByRecursion P (sent_in_all program past id)
  all_sent past id = all_joined P (sent_to program past id) (sent_now program (after program past) id) (all_to past id) (each past id)

-- ---- lengths

abbrev pub IsShort : ℕ → Message → Type 0
IsShort limit message = length (canonical message) ≤ limit

none_long : (limit : ℕ) (messages : List Message) → too_long limit messages ≡ None → AllByRecursion (IsShort limit) messages
none_long limit [] none = tt
none_long limit (m ∷ ms) none = elim (nat_lt limit (length (canonical m)))
    as (λ b. nat_lt limit (length (canonical m)) ≡ b → cond b (Some (length (canonical m))) (too_long limit ms) ≡ None → AllByRecursion (IsShort limit) (m ∷ ms)) [
      | true ↦ λ is none. absurd (cc none)
      | false ↦ λ is none. (ltb-false limit (length (canonical m)) is, none_long limit ms none)
    ] refl none

pub drains_are_short : (program : Program) (now : State) (id : ℕ) → AllByRecursion (IsShort program.limits.message) (sent_now program now id)
drains_are_short program now id = by_found (asked_at id now.subs)
  where
    by_length : (asked : Asked) (bytes : Option ℕ) → too_long_for program now.objects asked ≡ bytes → AllByRecursion (IsShort program.limits.message) (sent_unless bytes (messages_due program now.objects asked))
    by_length asked None short = none_long program.limits.message (messages_due program now.objects asked) short
    by_length asked (Some n) short = tt

    by_found : (found : Option Asked) → AllByRecursion (IsShort program.limits.message) (sent_if_live program now.objects found)
    by_found None = tt
    by_found (Some asked) = by_length asked (too_long_for program now.objects asked) refl

-- ---- methods

-- a message that answers the method of a query
abbrev pub Answers : Query → Message → Type 0
Answers query message = method_of message ≡ method_for query

whole_answers : {X : Type 0} (same : X → X → Bool) (message : X → Message) (old : Option X) (new : X) (P : Message → Type 0) → P (message new) → AllByRecursion P (whole_batch same message old new)
whole_answers same message old new P good = if_new (same_option same old (Some new))
  where
    if_new : (shown : Bool) → AllByRecursion P (cond shown [] (message new ∷ []))
    if_new true = tt
    if_new false = (good, tt)

-- rows are put by one kind of message, and keys are gone by another
pieces_answer : {X K : Type 0} (P : Message → Type 0) (put : List X → Message) (gone : List K → Message) → ((rows : List X) → P (put rows)) → ((keys : List K) → P (gone keys))
    → (size : ℕ) (rows : List X) (keys : List K) → AllByRecursion P (messages_of put gone size rows keys)
pieces_answer P put gone puts go size rows keys =
    all_joined P (map put (in_pieces size rows)) (map gone (in_pieces size keys)) (all_made P put puts (in_pieces size rows)) (all_made P gone go (in_pieces size keys))

port_answers : (P : Message → Type 0) → ((view : ServerView) → P (Whole view)) → ((rows : List AuthzRow) → P (AuthzPut rows)) → ((keys : List AuthzKey) → P (AuthzGone keys))
    → (size : ℕ) (old : Option ServerView) (new : ServerView) → AllByRecursion P (port_batch size old new)
port_answers P whole put gone size old new = if_authz (differ_in_authz old new)
  where
    if_authz : (b : Bool) → AllByRecursion P (if b then messages_to_authz size (authz_before old) (authz_of new) else whole_batch same_server Whole old new)
    if_authz true = pieces_answer P AuthzPut AuthzGone put gone size (changed_from same_authz (authz_before old) (authz_of new)) (gone_keys authz_cmp authz_key (authz_before old) (authz_of new))
    if_authz false = whole_answers same_server Whole old new P (whole new)

batch_answers : (config : Config) (held : ObjectMap) (query : Query) (limits : Limits) (old : Option View) → AllByRecursion (Answers query) (batch old (view_of config held query) limits)
batch_answers config held (queries.Profile target ctx) limits old = whole_answers same_profile WholeProfile (profile_in old) (profile config held target ctx.ns) (Answers (queries.Profile target ctx)) refl
batch_answers config held (queries.Port ns pod port) limits old = whole_answers same_server WholeServer (server_in old) (inbound config held ns pod port) (Answers (queries.Port ns pod port)) refl
batch_answers config held (queries.Traffic target) limits old = whole_answers same_outbound WholeOutbound (outbound_in old) (outbound config held target) (Answers (queries.Traffic target)) refl
batch_answers config held (queries.PortRows ns pod port) limits old =
    port_answers (Answers (queries.PortRows ns pod port)) (λ view. refl) (λ rows. refl) (λ keys. refl) limits.frame_addrs (port_in old) (inbound config held ns pod port)
batch_answers config held (queries.Get ns name port ctx) limits old = by_rows (endpoints_in old) (endpoints config held ns name port).exists (endpoints config held ns name port).rows
  where
    by_rows : (old : Option EndpointView) (exists : Bool) (rows : List EndpointRow) → AllByRecursion (Answers (queries.Get ns name port ctx)) (messages_to limits.frame_addrs old exists rows)
    by_rows old exists [] = all_if (Answers (queries.Get ns name port ctx)) (is_news old exists) (NoEndpoints exists ∷ []) (refl, tt)
    by_rows old exists (r ∷ rs) =
        pieces_answer (Answers (queries.Get ns name port ctx)) Add Remove (λ rows. refl) (λ pairs. refl) limits.frame_addrs (changed_rows (rows_before old) (r ∷ rs)) (gone_pairs (rows_before old) (r ∷ rs))

module _ (program : Program) where
  -- what is sent to a live subscription answers its query
  abbrev SentAnswers : List Asked → ℕ → List Message → Type 0
  SentAnswers subs id sent = (asked : Asked) → asked_at id subs ≡ Some asked → AllByRecursion (Answers asked.query) sent

  sent_answers : (now : State) (id : ℕ) → SentAnswers now.subs id (sent_now program now id)
  sent_answers now id asked found = subst (λ (one : Option Asked). AllByRecursion (Answers asked.query) (sent_if_live program now.objects one)) (sym found) (by_length (too_long_for program now.objects asked))
    where
      by_length : (bytes : Option ℕ) → AllByRecursion (Answers asked.query) (sent_unless bytes (messages_due program now.objects asked))
      by_length None = batch_answers program.config now.objects asked.query program.limits (view_before program.config asked.query asked.told)
      by_length (Some n) = tt

  -- and nothing was sent to an id that wasn't accepted yet
  record IsAnswered (now : State) (id : ℕ) (sent : List Message) : Type 0 where
    answers : SentAnswers now.subs id sent
    unsent : IsAbove now.last id → sent ≡ []

  still : (now : State) (id : ℕ) (sent : List Message) → IsAnswered now id sent → IsAnswered now id (sent ++ [])
  still now id sent so_far = subst (IsAnswered now id) (sym (append-nil sent)) so_far

  module _ (now : State) (id : ℕ) (sent : List Message) (in_order : IsOrdered now) (so_far : IsAnswered now id sent) where
    subscribed : (new : Asked) → IsAbove now.last new.id.0 → IsAnswered (record { objects = now.objects; subs = now.subs ++ new ∷ []; last = Some new.id.0 }) id sent
    subscribed new above = record {
      answers = λ asked found. by_id asked (eqb_tells new.id.0 id) (sym (found_new id_of now.last now.subs in_order id new above) ∙ found);
      unsent = λ lt. so_far.unsent (still_above now.last new.id.0 id above lt);
    }
      where
        by_id : (asked : Asked) → ((eqb new.id.0 id ≡ true) × (new.id.0 ≡ id)) ⊎ ((eqb new.id.0 id ≡ false) × (new.id.0 ≢ id)) → cond (eqb new.id.0 id) (Some new) (asked_at id now.subs) ≡ Some asked
            → AllByRecursion (Answers asked.query) sent
        by_id asked (inl same) is = subst (AllByRecursion (Answers asked.query)) (sym (so_far.unsent (subst (IsAbove now.last) same.1 above))) tt
        by_id asked (inr apart) is = so_far.answers asked (rw apart.0 at is)

    cancelled : (gone_id : ℕ) → IsAnswered (record now { subs = in_place id_of gone_id ended now.subs }) id sent
    cancelled gone_id = record {
      answers = λ asked found. by_id asked (eqb gone_id id) (sym (found_in_place id_of id gone_id ended (ended_keeps id_of) now.subs in_order.ascend) ∙ found);
      unsent = so_far.unsent;
    }
      where
        by_id : (asked : Asked) (b : Bool) → cond b (then_at ended (asked_at id now.subs)) (asked_at id now.subs) ≡ Some asked → AllByRecursion (Answers asked.query) sent
        by_id asked true is = absurd (gone (asked_at id now.subs) asked is)
        by_id asked false is = so_far.answers asked is

    drained : (from : ℕ) → IsAnswered (record now { subs = in_place id_of from (told_now program now.objects) now.subs }) id (sent ++ (if from == id then sent_now program now id else []))
    drained from = record {
      answers = λ asked found. by_id asked (eqb from id) (sym (found_in_place id_of id from (told_now program now.objects) (told_keeps program now.objects) now.subs in_order.ascend) ∙ found);
      unsent = λ lt. ap (λ (before : List Message). before ++ (if from == id then sent_now program now id else [])) (so_far.unsent lt) ∙ none_sent (eqb from id) lt;
    }
      where
        none_sent : (b : Bool) → IsAbove now.last id → cond b (sent_now program now id) [] ≡ []
        none_sent true lt = ap (sent_if_live program now.objects) (none_above id_of now.last now.subs in_order id lt)
        none_sent false lt = refl

        by_id : (asked : Asked) (b : Bool) → cond b (then_at (told_now program now.objects) (asked_at id now.subs)) (asked_at id now.subs) ≡ Some asked
            → AllByRecursion (Answers asked.query) (sent ++ cond b (sent_now program now id) [])
        by_id asked true is =
            let drain = was_told program now.objects (asked_at id now.subs) asked is in
            subst (λ (one : Asked). AllByRecursion (Answers one.query) (sent ++ sent_now program now id)) (sym drain.left_is)
            (all_joined (Answers drain.sub.query) sent (sent_now program now id) (so_far.answers drain.sub drain.there) (sent_answers now id drain.sub drain.there))
        by_id asked false is = subst (AllByRecursion (Answers asked.query)) (sym (append-nil sent)) (so_far.answers asked is)

  step : (now : State) (met : Option SimFault) (line : Result Line Refusal) (refusal : Option Refusal) (id : ℕ) (sent : List Message) → refusal_of program now met line ≡ refusal → IsOrdered now → IsAnswered now id sent
      → IsAnswered (unless_refused refusal now (after_line program now line)) id (sent ++ sent_by program now refusal line id)
  step now met line (Some refusal) id sent is in_order so_far = still now id sent so_far
  step now met (Err fault) None id sent is in_order so_far = still now id sent so_far
  step now met (Ok lines.Blank) None id sent is in_order so_far = still now id sent so_far
  step now met (Ok (lines.Simulate request)) None id sent is in_order so_far = still now id sent so_far
  step now met (Ok lines.Stop) None id sent is in_order so_far = still now id sent so_far
  step now met (Ok (lines.Event event)) None id sent is in_order so_far =
      still (after_line program now (Ok (lines.Event event))) id sent (record { answers = so_far.answers; unsent = so_far.unsent })
  step now met (Ok (lines.Subscribe asked query)) None id sent is in_order so_far =
      let new : Asked = record { id = asked; query = query; told = None } in
      still (after_line program now (Ok (lines.Subscribe asked query))) id sent (subscribed now id sent in_order so_far new (above_last program now met asked query is))
  step now met (Ok (lines.Cancel asked)) None id sent is in_order so_far = still (after_line program now (Ok (lines.Cancel asked))) id sent (cancelled now id sent in_order so_far asked.0)
  step now met (Ok (lines.Drain asked)) None id sent is in_order so_far = drained now id sent in_order so_far asked.0

  all_answered : (past : List MarkedRow) (id : ℕ) → IsAnswered (after program past) id (sent_to program past id)
  all_answered [] id = record { answers = λ asked found. absurd (cc found); unsent = λ above. refl }
  all_answered (row ∷ past) id = step (after program past) row.1 (reading_after program past row) (refusal_after program past row) id (sent_to program past id) refl (ordered program past) (all_answered past id)

  -- all that a live subscriber was sent answers its query
  pub all_answer : (past : List MarkedRow) (id : ℕ) (asked : Asked) → asked_at id (after program past).subs ≡ Some asked → AllByRecursion (Answers asked.query) (sent_in_all program past id)
  all_answer past id asked found =
      let now = after program past in
      all_joined (Answers asked.query) (sent_to program past id) (sent_now program now id) ((all_answered past id).answers asked found) (sent_answers now id asked found)
