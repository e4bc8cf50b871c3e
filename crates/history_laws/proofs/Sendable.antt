-- What is sent of lawful objects is sendable: the rows of their endpoints, and their other views.
--
-- The laws on batches of any rows and on lengths are also for a command that has its views from
-- elsewhere than from objects, and sends the batches between them.
use Rattle.std.proofs.Common.{◌≡◌, ℕ, zero, suc, ◌<◌, ◌≤◌, ◌^◌, Bool, true, false, cond, List, [], ◌∷◌, length, map, take, drop, Option, Some, None, refl, sym, ap, subst, arith, lit<}
use Rattle.std.specs.Prelude.{Ok, codes, nat_lt, not, option_map}
use Rattle.std.specs.List.{AllByRecursion}
use lib.Utf8.{encode}
use Rattle.std.specs.Str.{chars, is_utf8}
use Rattle.std.proofs.lemmas.Bool.{ltb-false}
use Rattle.std.proofs.lemmas.Str.{IsUtf8-from_is_utf8}
use Rattle.view_rules.specs.AuthzOrder.{authz_cmp, authz_key}
use Rattle.view_rules.specs.Batch.{authz_before, batch, changed_rows, differ_in_authz, gone_pairs, has_pair, has_row, in_pieces, is_news, messages_to, messages_to_authz, outbound_in, pieces_up_to, port_batch, profile_in, rows_before, server_in, whole_batch}
use Rattle.view_rules.specs.ByKey.{changed_from, gone_keys, has_key, has_same}
use Rattle.view_rules.specs.Fold.{authz_of}
use Rattle.view_rules.specs.Views.{view_before, view_of}
use Rattle.view_rules.specs.Endpoints.{endpoints, pair_of}
use Rattle.view_types.specs.Defaults.{usual_config}
use Rattle.view_types.specs.Objects.{ObjectMap}
use Rattle.view_types.specs.declared.endpoint.EndpointRow.{EndpointRow}
use Rattle.view_types.specs.declared.endpoint.EndpointView.{EndpointView}
use Rattle.view_types.specs.declared.message.Message.{Message}
use Rattle.view_types.specs.declared.message.Message.TheVariants.{Add, Remove, NoEndpoints, Profile as WholeProfile, Server as WholeServer, Outbound as WholeOutbound, Whole, AuthzPut, AuthzGone}
use Rattle.view_types.specs.declared.query.Query.{Query}
use Rattle.view_types.specs.declared.server_view.AuthzRow.{AuthzRow}
use Rattle.view_types.specs.declared.server_view.ServerView.{ServerView}
use Rattle.view_types.specs.declared.server_view.ServerView.TheVariants.{Absent, Present}
use Rattle.view_types.specs.declared.query.Query.TheVariants as queries
use Rattle.proxy_proto.specs.Messages.{canonical}
use Rattle.proxy_proto.specs.MessageReading.{message_of}
use Rattle.proxy_proto.specs.Sendable.{AreSendableParts, IsSendable, IsSendableAuthz, IsSendableAuthzKey, IsSendablePair, IsSendableRow, IsSendableServer, method_of}
use Rattle.message_laws.proofs.Round.{message_back}
use Rattle.feed_history.specs.Drains.{too_long}
use Rattle.feed_history.specs.History.{Asked, State, after, asked_at, messages_due, too_long_for}
use Rattle.feed_history.specs.Lawful.{AreLawfulHeld, HeldAreLawful, QueriesAreLawful}
use Rattle.feed_history.specs.Marks.{MarkedRow}
use Rattle.feed_history.specs.Program.{Program}
use Rattle.feed_history.specs.Sendable.{HasLimit, IsLawfulConfig, MessagesAreSendable, MessagesReadBack}
use Rattle.feed_history.specs.Deliveries.{sent_if_live, sent_now, sent_unless}
use Rattle.feed_history.specs.LastDrain.{last_drain}
use Rattle.feed_history.proofs.Lists.{all_if, all_joined, all_kept, all_left, all_mapped, all_taken, all_weaker}
use Rattle.history_laws.proofs.LastDrain.{told_at_last_drain}
use Rattle.view_rules.specs.Profiles.{profile}
use Rattle.view_rules.specs.Inbound.{inbound}
use Rattle.view_rules.specs.Outbound.{outbound}
use Rattle.view_rules.specs.Same.{same_option, same_profile}
use Rattle.view_rules.specs.SamePolicies.{same_authz, same_outbound, same_server}
use Rattle.watch_events.specs.Lawful.{IsLawfulQuery}
use Rattle.history_laws.proofs.SendableInbound.{inbound_is_sendable}
use Rattle.history_laws.proofs.SendableOutbound.{outbound_is_sendable}
use Rattle.history_laws.proofs.SendableProfiles.{profile_is_sendable}
use Rattle.history_laws.proofs.SendableRows.{shown_are_sendable}

-- ---- messages

-- a message that isn't too long can be sent
abbrev pub IsSendableIf : Message → Type 0
IsSendableIf message = length (canonical message) < 2 ^ 64 → IsSendable message

-- so can each message of some pieces of items that can
module _ {X : Type 0} (message : List X → Message) (Is : X → Type 0) (parts : (xs : List X) → AllByRecursion Is xs → AreSendableParts (message xs)) where
  up_to_are_sendable : (n size : ℕ) (xs : List X) → AllByRecursion Is xs → AllByRecursion IsSendableIf (map message (pieces_up_to n size xs))
  up_to_are_sendable zero size xs good = tt
  up_to_are_sendable (suc n) size [] good = tt
  up_to_are_sendable (suc n) size (x ∷ xs) good = (
    λ short. record { parts = parts (take size (x ∷ xs)) (all_taken Is size (x ∷ xs) good); short = short },
    up_to_are_sendable n size (drop size (x ∷ xs)) (all_left Is size (x ∷ xs) good),
  )

  pieces_are_sendable : (size : ℕ) (xs : List X) → AllByRecursion Is xs → AllByRecursion IsSendableIf (map message (in_pieces size xs))
  pieces_are_sendable size xs good = up_to_are_sendable (length xs) size xs good

pairs_are_sendable : (rows : List EndpointRow) → AllByRecursion IsSendableRow rows → AllByRecursion IsSendablePair (map pair_of rows)
pairs_are_sendable rows good = all_mapped IsSendableRow IsSendablePair pair_of (λ row good. record { ip = good.ip; port = good.port }) rows good

pub batch_is_sendable : (size : ℕ) (old : Option EndpointView) (exists : Bool) (rows : List EndpointRow) → AllByRecursion IsSendableRow (rows_before old) → AllByRecursion IsSendableRow rows
    → AllByRecursion IsSendableIf (messages_to size old exists rows)
batch_is_sendable size old exists [] old_good good = all_if IsSendableIf (is_news old exists) (NoEndpoints exists ∷ []) (λ short. record { parts = tt; short = short }, tt)
batch_is_sendable size old exists (r ∷ rs) old_good good =
    let changed = changed_rows (rows_before old) (r ∷ rs) in
    let gone = gone_pairs (rows_before old) (r ∷ rs) in
    all_joined IsSendableIf (map Add (in_pieces size changed)) (map Remove (in_pieces size gone))
    (pieces_are_sendable Add IsSendableRow (λ rows good. good) size changed (all_kept IsSendableRow (λ row. not (has_row (rows_before old) row)) (r ∷ rs) good))
    (pieces_are_sendable Remove IsSendablePair (λ pairs good. good) size gone (all_kept IsSendablePair (λ pair. not (has_pair (r ∷ rs) pair)) (map pair_of (rows_before old)) (pairs_are_sendable (rows_before old) old_good)))

pub whole_is_sendable : {X : Type 0} (same : X → X → Bool) (message : X → Message) (old : Option X) (new : X) → AreSendableParts (message new) → AllByRecursion IsSendableIf (whole_batch same message old new)
whole_is_sendable same message old new good = if_new (same_option same old (Some new))
  where
    if_new : (shown : Bool) → AllByRecursion IsSendableIf (cond shown [] (message new ∷ []))
    if_new true = tt
    if_new false = (λ short. record { parts = good; short = short }, tt)

-- ---- inbound views by rows

authz_are_sendable : (view : ServerView) → IsSendableServer view → AllByRecursion IsSendableAuthz (authz_of view)
authz_are_sendable Absent good = tt
authz_are_sendable (Present row) good = good.authz

keys_are_sendable : (rows : List AuthzRow) → AllByRecursion IsSendableAuthz rows → AllByRecursion IsSendableAuthzKey (map authz_key rows)
keys_are_sendable rows good = all_mapped IsSendableAuthz IsSendableAuthzKey authz_key (λ row good. good.name) rows good

pub port_is_sendable : (size : ℕ) (old : Option ServerView) (new : ServerView) → AllByRecursion IsSendableAuthz (authz_before old) → IsSendableServer new → AllByRecursion IsSendableIf (port_batch size old new)
port_is_sendable size old new old_good good = if_alone (differ_in_authz old new)
  where
    if_alone : (alone : Bool) → AllByRecursion IsSendableIf (cond alone (messages_to_authz size (authz_before old) (authz_of new)) (whole_batch same_server Whole old new))
    if_alone true =
        let changed = changed_from same_authz (authz_before old) (authz_of new) in
        let gone = gone_keys authz_cmp authz_key (authz_before old) (authz_of new) in
        all_joined IsSendableIf (map AuthzPut (in_pieces size changed)) (map AuthzGone (in_pieces size gone))
        (pieces_are_sendable AuthzPut IsSendableAuthz (λ rows good. good) size changed (all_kept IsSendableAuthz (λ row. not (has_same same_authz (authz_before old) row)) (authz_of new) (authz_are_sendable new good)))
        (pieces_are_sendable AuthzGone IsSendableAuthzKey (λ keys good. good) size gone
        (all_kept IsSendableAuthzKey (λ key. not (has_key authz_cmp authz_key (authz_of new) key)) (map authz_key (authz_before old)) (keys_are_sendable (authz_before old) old_good)))
    if_alone false = whole_is_sendable same_server Whole old new good

-- ---- lengths

-- none is too long
abbrev pub AreShort : List Message → Type 0
AreShort messages = AllByRecursion (λ (message : Message). length (canonical message) < 2 ^ 64) messages

pub are_short : (limit : ℕ) → limit < 2 ^ 32 → (messages : List Message) → too_long limit messages ≡ None → AreShort messages
are_short limit small [] none = tt
are_short limit small (m ∷ ms) none = elim (nat_lt limit (length (canonical m))) as (λ b. nat_lt limit (length (canonical m)) ≡ b → cond b (Some (length (canonical m))) (too_long limit ms) ≡ None → AreShort (m ∷ ms)) [
  | true ↦ λ is none. absurd (cc none)
  | false ↦ λ is none. (let le : length (canonical m) ≤ limit = ltb-false limit (length (canonical m)) is in within (length (canonical m)) le, are_short limit small ms none)
] refl none
  where
    within : (n : ℕ) → n ≤ limit → n < 2 ^ 64
    within n le = let bound : 2 ^ 32 < 2 ^ 64 = lit< tt in omega (arith, le, small, bound)

pub sendable_if_short : (messages : List Message) → AreShort messages → AllByRecursion IsSendableIf messages → AllByRecursion IsSendable messages
sendable_if_short [] short good = tt
sendable_if_short (m ∷ ms) short good = (good.0 short.0, sendable_if_short ms short.1 good.1)

-- ---- the history

-- all that was held when it was told is lawful
abbrev IsLawfulTold : Option ObjectMap → Type 0
IsLawfulTold None = Unit {0}
IsLawfulTold (Some held) = AreLawfulHeld held

module _ (program : Program) (lawful : HeldAreLawful program) (asked_lawful : QueriesAreLawful program) (usual : IsLawfulConfig program.config) where
  told_is_lawful : (past : List MarkedRow) (id : ℕ) (asked : Asked) → asked_at id (after program past).subs ≡ Some asked → IsLawfulTold asked.told
  told_is_lawful past id asked found = subst IsLawfulTold (sym (told_at_last_drain program past id asked found)) (at_drain (last_drain program past id))
    where
      at_drain : (last : Option (List MarkedRow)) → IsLawfulTold (option_map (λ rows. (after program rows).objects) last)
      at_drain None = tt
      at_drain (Some rows) = lawful rows

  due_are_sendable : (held : ObjectMap) → AreLawfulHeld held → (asked : Asked) → IsLawfulQuery asked.query → IsLawfulTold asked.told → AllByRecursion IsSendableIf (messages_due program held asked)
  due_are_sendable held now asked query told = by_query asked.query query asked.told told
    where
      by_query : (query : Query) → IsLawfulQuery query → (told : Option ObjectMap) → IsLawfulTold told
          → AllByRecursion IsSendableIf (batch (view_before program.config query told) (view_of program.config held query) program.limits)
      by_query (queries.Get ns name port ctx) lawful None told = batch_is_sendable program.limits.frame_addrs None _ _ tt (shown_are_sendable program.config usual held now ns name port)
      by_query (queries.Get ns name port ctx) lawful (Some before) told =
          batch_is_sendable program.limits.frame_addrs (Some (endpoints program.config before ns name port)) _ _
          (shown_are_sendable program.config usual before told ns name port) (shown_are_sendable program.config usual held now ns name port)
      by_query (queries.Profile target ctx) lawful before told =
          whole_is_sendable same_profile WholeProfile (profile_in (view_before program.config (queries.Profile target ctx) before)) (profile program.config held target ctx.ns)
          (profile_is_sendable program.config usual held now ctx.ns target lawful)
      by_query (queries.Port ns pod port) lawful before told =
          whole_is_sendable same_server WholeServer (server_in (view_before program.config (queries.Port ns pod port) before)) (inbound program.config held ns pod port)
          (inbound_is_sendable program.config usual held now ns pod port)
      by_query (queries.Traffic target) lawful before told =
          whole_is_sendable same_outbound WholeOutbound (outbound_in (view_before program.config (queries.Traffic target) before)) (outbound program.config held target)
          (outbound_is_sendable held now program.config usual target lawful)
      by_query (queries.PortRows ns pod port) lawful None told =
          port_is_sendable program.limits.frame_addrs None (inbound program.config held ns pod port) tt (inbound_is_sendable program.config usual held now ns pod port)
      by_query (queries.PortRows ns pod port) lawful (Some before) told =
          port_is_sendable program.limits.frame_addrs (Some (inbound program.config before ns pod port)) (inbound program.config held ns pod port)
          (authz_are_sendable (inbound program.config before ns pod port) (inbound_is_sendable program.config usual before told ns pod port))
          (inbound_is_sendable program.config usual held now ns pod port)

  sent_are_sendable : HasLimit program → (past : List MarkedRow) (id : ℕ) → AllByRecursion IsSendable (sent_now program (after program past) id)
  sent_are_sendable small past id = by_found (asked_at id now.subs) refl
    where
      now : State
      now = after program past

      by_length : (asked : Asked) → IsLawfulQuery asked.query → IsLawfulTold asked.told → (bytes : Option ℕ) → too_long_for program now.objects asked ≡ bytes → AllByRecursion IsSendable (sent_unless bytes (messages_due program now.objects asked))
      by_length asked query told None short =
          let due = messages_due program now.objects asked in sendable_if_short due (are_short program.limits.message small due short) (due_are_sendable now.objects (lawful past) asked query told)
      by_length asked query told (Some bytes) short = tt

      by_found : (found : Option Asked) → asked_at id now.subs ≡ found → AllByRecursion IsSendable (sent_if_live program now.objects found)
      by_found None is = tt
      by_found (Some asked) is = by_length asked (asked_lawful past id asked.query (ap (option_map (λ (a : Asked). a.query)) is)) (told_is_lawful past id asked is) (too_long_for program now.objects asked) refl

pub messages_are_sendable : (program : Program) → HeldAreLawful program → QueriesAreLawful program → MessagesAreSendable program
messages_are_sendable program lawful asked usual small past id = sent_are_sendable program lawful asked usual small past id

pub messages_read_back : (program : Program) → HeldAreLawful program → QueriesAreLawful program → MessagesReadBack program
messages_read_back program lawful asked usual small past id =
    all_weaker IsSendable (λ (message : Message). message_of (method_of message) (canonical message) ≡ Ok message) (λ message sendable. message_back message sendable) (sent_now program (after program past) id) (messages_are_sendable program lawful asked usual small past id)

pub usual_is_lawful : IsLawfulConfig usual_config
unfolding is_utf8 chars encode
usual_is_lawful =
    let domain = IsUtf8-from_is_utf8 (codes "cluster.local") refl in
    record { cluster_domain = domain; control_ns = IsUtf8-from_is_utf8 (codes "linkerd") refl; trust_domain = domain }
