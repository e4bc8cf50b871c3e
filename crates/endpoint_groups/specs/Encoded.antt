-- The kept encoding of a group is that of its messages.
use Rattle.std.specs.Prelude.{◌≡◌, ℕ, List, Option, Some, IfSome}
use Rattle.view_types.specs.declared.endpoint.EndpointView.{EndpointView}
use Rattle.endpoint_groups.specs.declared.group.Group.{Group}
use Rattle.endpoint_groups.specs.Members.{encoding_at, shown_at}

-- Each kept encoding of a group is that of the messages from the endpoints that it was last shown, if any, to the current ones.
-- `encode` is None if the messages cannot be encoded.
abbrev pub AreEncoded : {F : Type 0} → (Option EndpointView → Option F) → EndpointView → List (Group F) → Type 0
AreEncoded encode now groups = (n : ℕ) → IfSome (encoding_at groups n) (λ encoding. encode (shown_at groups n now) ≡ Some encoding)
