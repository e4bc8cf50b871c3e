-- What a line comes to, from what its event comes to or why it doesn't read.
use Rattle.std.proofs.Common.{◌≡◌, ◌≢◌, ℕ, Option, Some, None, refl, sym, ap, ◌∙◌, subst}
use Rattle.std.specs.Prelude.{IfOk, OnOk, Result, Ok, Err, option_map}
use Rattle.mesh_base.specs.declared.limits.Limits.{Limits}
use Rattle.mesh_base.specs.declared.memory.Memory.{Memory}
use Rattle.object_store.specs.Held.{Held}
use Rattle.view_types.specs.Objects.{ObjectMap}
use Rattle.view_types.specs.declared.config.Config.{Config}
use Rattle.watch_events.specs.Given.{Fails}
use Rattle.watch_events.specs.declared.event.Event.{Event}
use Rattle.watch_events.specs.declared.line.Line.{Line}
use Rattle.watch_events.specs.declared.line.Line.TheVariants as lines
use Rattle.watch_events.specs.declared.line.LineFault.{LineFault}
use Rattle.watch_events.specs.declared.line.LineFault.TheVariants as faults
use Rattle.feed_history.specs.Events.{event_refusal, objects_after}
use Rattle.feed_history.specs.History.{State, after_line}
use Rattle.feed_history.specs.Ids.{unless_refused}
use Rattle.feed_history.specs.declared.refusal.HubFault.{HubFault}
use Rattle.feed_history.specs.declared.refusal.Refusal.{Refusal}
use Rattle.feed_history.specs.declared.refusal.Refusal.TheVariants as refusals
use Rattle.diagnosis.specs.Diagnosed.{diagnosis_of}
use Rattle.diagnosis.specs.Stand.{Applies, Takes}

-- ---- a line that reads

module _ (config : Config) (limits : Limits) where
  led : (fault : Option HubFault) (now : State) (event : Event)
      → unless_refused fault now.objects (objects_after now.objects event) ≡ (unless_refused (option_map refusals.Hub fault) now (after_line (diagnosis_of config limits) now (Ok (lines.Event event)))).objects
  led None now event = refl
  led (Some fault) now event = refl

  pub event_taken : (event : Event) (fault : Option HubFault) (old new : Held) → Applies event old new fault → Takes config limits (Ok (lines.Event event)) (option_map refusals.Hub fault) old new
  event_taken event fault old new applies = λ now holds.
      let fault_is : fault ≡ event_refusal limits.objects now.objects event =
      applies.fault_is ∙ ap (λ (limit : ℕ). event_refusal limit old.objects event) holds.limit ∙ ap (λ (objects : ObjectMap). event_refusal limits.objects objects event) holds.objects in record {
        refusal_is = ap (option_map refusals.Hub) fault_is;
        holds = record {
          objects = applies.objects ∙ ap (λ (objects : ObjectMap). unless_refused fault objects (objects_after objects event)) holds.objects ∙ led fault now event;
          limit = applies.limit ∙ holds.limit;
        };
      }

-- ---- a line that doesn't read

read_is : (fault : LineFault) (read : Result Line LineFault) → fault ≢ faults.Memory → Fails fault read → read ≡ Err fault
read_is faults.Memory read told fails = absurd (told refl)
read_is faults.TooLong read told fails = fails
read_is faults.NotJson read told fails = fails
read_is faults.NoForm read told fails = fails
read_is faults.UnknownType read told fails = fails
read_is faults.ErrorEvent read told fails = fails
read_is faults.UnknownKind read told fails = fails
read_is (faults.Object fault) read told fails = fails
read_is (faults.RepeatedItem place) read told fails = fails
read_is (faults.BadQuery path) read told fails = fails

module _ (config : Config) (fault : LineFault) (read : Result Line LineFault) (held : Held) where
  refused : (limits : Limits) (refusal : Option Refusal) → refusal ≡ Some (refusals.Line fault) → read ≡ Err fault → Takes config limits read refusal held held
  refused limits refusal refuses is =
      subst (λ (line : Result Line LineFault). Takes config limits line refusal held held) (sym is)
      (subst (λ (r : Option Refusal). Takes config limits (Err fault) r held held) (sym refuses) (λ now holds. record { refusal_is = refl; holds = holds }))

  pub unread_taken : (result : Result (Option Refusal) Memory) → IfOk result (λ refusal. refusal ≡ Some (refusals.Line fault)) → OnOk result (fault ≢ faults.Memory) → Fails fault read
      → IfOk result (λ refusal. (limits : Limits) → Takes config limits read refusal held held)
  unread_taken (Ok refusal) refuses told fails = λ limits. refused limits refusal refuses (read_is fault read told fails)
  unread_taken (Err memory) refuses told fails = tt
