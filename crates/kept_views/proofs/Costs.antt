-- What is looked up as three parts follow a change: the rows of each part are of other kinds than those of the others.
use Rattle.std.proofs.Common.{◌≡◌, inl, inr, ℕ, Bool, true, false, List, Option, Some, None, refl, sym, ap}
use Rattle.std.specs.BTreeMap.{BTreeMap}
use Rattle.std.specs.List.{Contains}
use Rattle.std.specs.Option.{option_or}
use Rattle.std.specs.Prelude.{option_map}
use Rattle.view_types.specs.Objects.{ObjectMap}
use Rattle.view_types.specs.declared.config.Config.{Config}
use Rattle.view_types.specs.declared.mark.Mark.{Mark}
use Rattle.view_types.specs.declared.query.Query.{Query}
use Rattle.view_types.specs.declared.query.Target.{Target}
use Rattle.mark_rules.specs.Rows.{rows}
use Rattle.mark_rules.specs.declared.keys.ProfileKey.{ProfileKey}
use Rattle.mark_rules.specs.declared.keys.RowKey.{RowKey}
use Rattle.mark_rules.specs.declared.keys.RowKey.TheVariants as row
use Rattle.mark_rules.specs.declared.keys.ServerKey.{ServerKey}
use Rattle.row_views.specs.Costs.{FollowedRows}
use Rattle.row_views.specs.Ids.{key_at}
use Rattle.row_views.specs.Queries.{rows_at}
use Rattle.row_views.proofs.Costs.{joined_rows}
use Rattle.row_views.proofs.InUse.{none_there, only_there}
use Rattle.key_views.specs.ProfileQueries as profiles
use Rattle.inbound_views.specs.InUse.{is_of_port, port_rows_are}
use Rattle.inbound_views.specs.PortRows as ports
use Rattle.key_views.specs.OutboundQueries as outbound
use Rattle.kept_views.specs.InUse.{in_either, in_first, in_second}
use Rattle.kept_views.specs.Parts.{AreApart, PartsStand, first_of}

-- ---- the kinds of rows

abbrev is_profile : RowKey → Bool
is_profile (row.Profile key) = true
is_profile _ = false

module _ (config : Config) where
  -- the rows of the queries of ids are of a kind, or are not
  abbrev RowsAre : (RowKey → Bool) → Bool → (ℕ → Option Query) → Type 0
  RowsAre test answer queries = (held : ObjectMap) (id : ℕ) (key : RowKey) → Contains (rows_at config held (queries id)) key → test key ≡ answer

  of_keys : {Key : Type 0} (query_for : Key → Query) (test : RowKey → Bool) (answer : Bool) → ((held : ObjectMap) (k : Key) (key : RowKey) → Contains (rows config held (query_for k)) key → test key ≡ answer) → (by_id : BTreeMap ℕ Key)
      → RowsAre test answer (λ id. option_map query_for (key_at by_id id))
  of_keys {Key} query_for test answer each by_id held id key = by (key_at by_id id)
    where
      by : (asked : Option Key) → Contains (rows_at config held (option_map query_for asked)) key → test key ≡ answer
      by None of = absurd (none_there of)
      by (Some k) of = each held k key of

  -- ---- two parts

  module _ (asked others : ℕ → Option Query) where
    abbrev either : ℕ → Option Query
    either id = option_or (asked id) (others id)

    either_are : (test : RowKey → Bool) (answer : Bool) → RowsAre test answer asked → RowsAre test answer others → RowsAre test answer either
    either_are test answer these those held id key of = elim (in_either config held key (asked id) (others id) of) [
      | inl first ↦ these held id key first
      | inr second ↦ those held id key second
    ]

    either_follow : AreApart asked others → (test : RowKey → Bool) → RowsAre test true asked → RowsAre test false others → (changed : List Mark) (before after : ObjectMap) (old mid new : ℕ) → FollowedRows config changed before after asked old mid
        → FollowedRows config changed before after others mid new → FollowedRows config changed before after either old new
    either_follow apart test these those =
        joined_rows config either asked others test (λ held id key of. (these held id key of, in_first config held key (asked id) (others id) of))
        (λ held id key of. (those held id key of, in_second config held key (asked id) (others id) (apart id) of)) (λ held id key of. in_either config held key (asked id) (others id) of)

  -- ---- three parts

  module _ (of_profiles : BTreeMap ℕ ProfileKey) (of_ports : BTreeMap ℕ ServerKey) (of_outbound : BTreeMap ℕ Target) where
    abbrev profile_at : ℕ → Option Query
    profile_at id = option_map profiles.query_for (key_at of_profiles id)

    abbrev port_at : ℕ → Option Query
    port_at id = option_map ports.query_for (key_at of_ports id)

    abbrev outbound_at : ℕ → Option Query
    outbound_at id = option_map outbound.query_for (key_at of_outbound id)

    others_follow : AreApart port_at outbound_at → (changed : List Mark) (before after : ObjectMap) (old mid new : ℕ) → FollowedRows config changed before after port_at old mid → FollowedRows config changed before after outbound_at mid new
        → FollowedRows config changed before after (either port_at outbound_at) old new
    others_follow apart =
        either_follow port_at outbound_at apart is_of_port (of_keys ports.query_for is_of_port true (λ held port. port_rows_are config held port (λ key. is_of_port key ≡ true) (λ key. refl) (λ key. refl) (λ key. refl)) of_ports)
        (of_keys outbound.query_for is_of_port false (λ held target key of. ap is_of_port (sym (only_there of))) of_outbound)

    pub parts_follow : {Profiles Ports Outbound : Type 0} → PartsStand Profiles Ports Outbound profile_at port_at outbound_at → (changed : List Mark) (before after : ObjectMap) (old next mid new : ℕ) → FollowedRows config changed before after profile_at old next
        → FollowedRows config changed before after port_at next mid → FollowedRows config changed before after outbound_at mid new → FollowedRows config changed before after (λ id. first_of (profile_at id) (port_at id) (outbound_at id)) old new
    parts_follow stand changed before after old next mid new first second third =
        either_follow profile_at (either port_at outbound_at) stand.profiles_apart is_profile (of_keys profiles.query_for is_profile true (λ held key own of. ap is_profile (sym (only_there of))) of_profiles)
        (either_are port_at outbound_at is_profile false (of_keys ports.query_for is_profile false (λ held port. port_rows_are config held port (λ key. is_profile key ≡ false) (λ key. refl) (λ key. refl) (λ key. refl)) of_ports)
        (of_keys outbound.query_for is_profile false (λ held target key of. ap is_profile (sym (only_there of))) of_outbound))
        changed before after old next new first (others_follow stand.ports_apart changed before after next mid new second third)
