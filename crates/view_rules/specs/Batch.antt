-- The messages that bring a subscriber from an old view, or from none, to a new one.
use Rattle.std.specs.Prelude.{◌||◌, ◌==◌, ℕ, zero, suc, Bool, true, false, not, List, [], ◌∷◌, ◌++◌, length, map, take, drop, Option, Some, None, if◌then◌else◌}
use Rattle.std.specs.Bool.{beq}
use Rattle.std.specs.Ordering.{eq_by_cmp}
use Rattle.mesh_base.specs.declared.limits.Limits.{Limits}
use Rattle.net_cidr.specs.declared.ip.Ip.{Ip}
use Rattle.view_types.specs.declared.endpoint.EndpointRow.{EndpointRow}
use Rattle.view_types.specs.declared.endpoint.EndpointView.{EndpointView}
use Rattle.view_types.specs.declared.message.Message.{Message}
use Rattle.view_types.specs.declared.message.Message.TheVariants.{Add, Remove, NoEndpoints, Profile as WholeProfile, Server as WholeServer, Outbound as WholeOutbound, Whole, AuthzPut, AuthzGone}
use Rattle.view_types.specs.declared.outbound.OutboundView.{OutboundView}
use Rattle.view_types.specs.declared.outbound.ProfileView.{ProfileView}
use Rattle.view_types.specs.declared.server_view.AuthzRow.{AuthzRow}
use Rattle.view_types.specs.declared.server_view.ServerView.{ServerView}
use Rattle.view_types.specs.declared.server_view.ServerView.TheVariants.{Present}
use Rattle.view_types.specs.declared.view.View.{View}
use Rattle.view_types.specs.declared.view.View.TheVariants.{Endpoints, Profile, Server, Outbound, ServerRows}
use Rattle.view_rules.specs.AuthzOrder.{authz_cmp, authz_key}
use Rattle.view_rules.specs.ByKey.{changed_from, gone_keys, has_key, has_same}
use Rattle.view_rules.specs.Endpoints.{pair_cmp, pair_of}
use Rattle.view_rules.specs.Fold.{IsOrderly, authz_of}
use Rattle.view_rules.specs.Same.{same_option, same_profile, same_row}
use Rattle.view_rules.specs.SamePolicies.{same_authz, same_outbound, same_server, same_server_row}

-- ---- pieces

-- at most this many pieces, each of the size but the last, which may be smaller
abbrev pub pieces_up_to : {X : Type 0} → ℕ → ℕ → List X → List (List X)
pieces_up_to zero size xs = []
pieces_up_to (suc n) size [] = []
pieces_up_to (suc n) size (x ∷ xs) = take size (x ∷ xs) ∷ pieces_up_to n size (drop size (x ∷ xs))

-- all items, in pieces of the size, which is at least 1
abbrev pub in_pieces : {X : Type 0} → ℕ → List X → List (List X)
in_pieces size xs = pieces_up_to (length xs) size xs

-- ---- what a view has that the previous one has not

abbrev pub same_pair : Ip × ℕ → Ip × ℕ → Bool
same_pair = eq_by_cmp pair_cmp

abbrev pub has_row : List EndpointRow → EndpointRow → Bool
has_row = has_same same_row

abbrev pub has_pair : List EndpointRow → Ip × ℕ → Bool
has_pair = has_key pair_cmp pair_of

-- the rows that are new or have changed
abbrev pub changed_rows : List EndpointRow → List EndpointRow → List EndpointRow
changed_rows = changed_from same_row

-- the addresses that no longer have a row
abbrev pub gone_pairs : List EndpointRow → List EndpointRow → List (Ip × ℕ)
gone_pairs = gone_keys pair_cmp pair_of

-- the old view, if any, is in order
abbrev pub IsOrderlyBefore : Option EndpointView → Type 0
IsOrderlyBefore None = Unit {0}
IsOrderlyBefore (Some old) = IsOrderly old

-- ---- the batch

abbrev pub rows_before : Option EndpointView → List EndpointRow
rows_before None = []
rows_before (Some old) = old.rows

-- whether the subscriber has to be sent that there are no rows
abbrev pub is_news : Option EndpointView → Bool → Bool
is_news None exists = true
is_news (Some old) exists = not (beq old.exists exists) || not (length old.rows == 0)

-- The message of a view without rows is only whether the Service exists.
abbrev pub messages_to_none : Option EndpointView → Bool → List Message
messages_to_none old exists = if is_news old exists then NoEndpoints exists ∷ [] else []

-- first rows, then keys, each in messages of the size
abbrev pub messages_of : {X K : Type 0} → (List X → Message) → (List K → Message) → ℕ → List X → List K → List Message
messages_of put gone size rows keys = map put (in_pieces size rows) ++ map gone (in_pieces size keys)

-- first the new and changed rows, then the removed addresses
abbrev pub messages_to_rows : ℕ → List EndpointRow → List EndpointRow → List Message
messages_to_rows size old new = messages_of Add Remove size (changed_rows old new) (gone_pairs old new)

abbrev pub messages_to : ℕ → Option EndpointView → Bool → List EndpointRow → List Message
messages_to size old exists [] = messages_to_none old exists
messages_to size old exists (r ∷ rs) = messages_to_rows size (rows_before old) (r ∷ rs)

abbrev pub endpoint_batch : Option EndpointView → EndpointView → Limits → List Message
endpoint_batch old new limits = messages_to limits.frame_addrs old new.exists new.rows

-- a view that is sent whole, unless it is the same as the last one
abbrev pub whole_batch : {X : Type 0} → (X → X → Bool) → (X → Message) → Option X → X → List Message
whole_batch same message old new = if same_option same old (Some new) then [] else message new ∷ []

-- ---- inbound views by rows

-- both views are present, and they differ in the Server's own authorizations alone
abbrev pub differ_in_authz : Option ServerView → ServerView → Bool
differ_in_authz (Some (Present old)) (Present new) = same_server_row (record old { authz = new.authz }) new
differ_in_authz _ _ = false

abbrev pub authz_before : Option ServerView → List AuthzRow
authz_before None = []
authz_before (Some old) = authz_of old

-- first the new and changed authorizations, then the kinds and names of those removed
abbrev pub messages_to_authz : ℕ → List AuthzRow → List AuthzRow → List Message
messages_to_authz size old new = messages_of AuthzPut AuthzGone size (changed_from same_authz old new) (gone_keys authz_cmp authz_key old new)

-- what differs in the authorizations, if nothing else differs; otherwise the whole view
abbrev pub port_batch : ℕ → Option ServerView → ServerView → List Message
port_batch size old new = if differ_in_authz old new then messages_to_authz size (authz_before old) (authz_of new) else whole_batch same_server Whole old new

-- ---- views

-- the endpoints in a view, if it has any
abbrev pub endpoints_in : Option View → Option EndpointView
endpoints_in (Some (Endpoints view)) = Some view
endpoints_in _ = None

-- the profile in a view, if it has one
abbrev pub profile_in : Option View → Option ProfileView
profile_in (Some (Profile view)) = Some view
profile_in _ = None

-- the inbound view in a view, if it is one
abbrev pub server_in : Option View → Option ServerView
server_in (Some (Server view)) = Some view
server_in _ = None

-- the outbound view in a view, if it is one
abbrev pub outbound_in : Option View → Option OutboundView
outbound_in (Some (Outbound view)) = Some view
outbound_in _ = None

-- the inbound view sent by rows, if a view is one
abbrev pub port_in : Option View → Option ServerView
port_in (Some (ServerRows view)) = Some view
port_in _ = None

-- from the old view of a query, or from none, to the new one
abbrev pub batch : Option View → View → Limits → List Message
batch old (Endpoints new) limits = endpoint_batch (endpoints_in old) new limits
batch old (Profile new) limits = whole_batch same_profile WholeProfile (profile_in old) new
batch old (Server new) limits = whole_batch same_server WholeServer (server_in old) new
batch old (Outbound new) limits = whole_batch same_outbound WholeOutbound (outbound_in old) new
batch old (ServerRows new) limits = port_batch limits.frame_addrs (port_in old) new
