-- Facts of streams that stand for something, of which it isn't said how they do.
use Rattle.std.proofs.Common.{◌≡◌, ℕ, List, Option, Some, Result, Ok, Err, subst, sym}
use Rattle.std.proofs.Math.Logic.{∥∥₁_elim}
use Rattle.std.specs.Coded.{Coded, Coded-set, Unit-prop, codes}
use Rattle.feed_history.specs.Drains.{IsOrMemory}
use Rattle.feed_history.specs.contracts.refusal.HubFault as the_fault
use Rattle.feed_history.specs.declared.refusal.HubFault.{HubFault}
use Rattle.feed_history.specs.declared.refusal.HubFault.TheVariants.{Memory, Full, TooManySubs, IdOrder, NoSuchId, Oversize}
use Rattle.mark_rules.specs.Rows.{endpoint_row}
use Rattle.mark_rules.specs.declared.keys.EndpointKey.{EndpointKey}
use Rattle.view_rules.specs.Fold.{IsOrderly}
use Rattle.view_rules.specs.Laws.{EndpointsAreOrderly}
use Rattle.view_types.specs.Objects.{ObjectMap}
use Rattle.view_types.specs.declared.config.Config.{Config}
use Rattle.view_types.specs.contracts.endpoint.EndpointView as the_view
use Rattle.view_types.specs.declared.endpoint.EndpointView.{EndpointView}
use Rattle.shared_endpoints.specs.Standing.{HasOneUser}
use Rattle.shared_endpoints.specs.declared.shared.SharedEndpoints.{SharedEndpoints}

pub same_views : {A : Type 0} (a b : Option EndpointView) → ∥ A ∥₁ → (A → a ≡ b) → a ≡ b
same_views a b t f = let coded : Coded (Option EndpointView) = hlevel (codes, the_view.the_row.coded) in ∥∥₁_elim t (Coded-set coded a b) f

abbrev Frames : Type 0
Frames = Result (List (List ℕ)) HubFault

same_frames : (a b : Frames) → IsProp (a ≡ b)
same_frames a b = let coded : Coded Frames = hlevel (codes, the_fault.the_row.coded) in Coded-set coded a b

pub same_results : {A : Type 0} (a b : Frames) → ∥ A ∥₁ → (A → a ≡ b) → a ≡ b
same_results a b t f = ∥∥₁_elim t (same_frames a b) f

or_memory : (expected result : Frames) → IsProp (IsOrMemory expected result)
or_memory expected (Ok value) = same_frames (Ok value) expected
or_memory expected (Err Memory) = Unit-prop
or_memory expected (Err (Full held)) = same_frames (Err (Full held)) expected
or_memory expected (Err (TooManySubs live)) = same_frames (Err (TooManySubs live)) expected
or_memory expected (Err (IdOrder last)) = same_frames (Err (IdOrder last)) expected
or_memory expected (Err (NoSuchId id)) = same_frames (Err (NoSuchId id)) expected
or_memory expected (Err (Oversize bytes)) = same_frames (Err (Oversize bytes)) expected

pub frames_or_memory : {A : Type 0} (expected result : Frames) → ∥ A ∥₁ → (A → IsOrMemory expected result) → IsOrMemory expected result
frames_or_memory expected result t f = ∥∥₁_elim t (or_memory expected result) f

pub one_user_prop : (s : SharedEndpoints) (key : EndpointKey) → IsProp (HasOneUser s key)
one_user_prop s key = hlevel (codes)

-- the endpoints now are in order, where they are those of a key
pub orderly_now : (orderly : EndpointsAreOrderly) (now : EndpointView) (config : Config) (held : ObjectMap) (key : EndpointKey) → Some now ≡ Some (endpoint_row config held key) → IsOrderly now
orderly_now orderly now config held key is =
    let same : now ≡ endpoint_row config held key = cc is in
    subst IsOrderly (sym same) (orderly config held key.ns key.name key.port)
