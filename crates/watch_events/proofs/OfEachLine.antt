-- What holds of each line that was read, from what holds of the lines of each form.
use Rattle.std.proofs.Common.{◌≡◌, ℕ, Bool, true, false, List, Option, Some, None, Result, Ok, if◌then◌else◌}
use Rattle.mesh_base.specs.declared.key.Kind.{Kind}
use Rattle.mesh_base.specs.declared.key.ObjKey.{ObjKey}
use Rattle.serde_json.specs.Data.{Data}
use Rattle.mesh_text.specs.Json.{json_of}
use Rattle.k8s_meta.specs.Lists.{each}
use Rattle.k8s_meta.specs.Scalars.{number}
use Rattle.k8s_meta.specs.Spots.{Spot, ◌·◌}
use Rattle.k8s_meta.specs.Words.{required}
use Rattle.k8s_meta.specs.declared.key.Key.TheVariants as keys
use Rattle.view_types.specs.declared.config.Config.{Config}
use Rattle.view_types.specs.declared.object.Object.{Object}
use Rattle.view_types.specs.declared.query.Method.{Method}
use Rattle.view_types.specs.declared.query.Query.{Query}
use Rattle.view_types.specs.declared.request.Request.{Request}
use Rattle.watch_events.specs.Controls.{cancellation_of, control_as, drain_of, query_of, simulation_of, subscription_of}
use Rattle.watch_events.specs.Lines.{is_blank, json_by, line_as, line_at, line_spot, text_line}
use Rattle.watch_events.specs.ListLines.{repeated}
use Rattle.watch_events.specs.Objects.{object_at}
use Rattle.watch_events.specs.Simulations.{request_at}
use Rattle.watch_events.specs.Tables.{plain}
use Rattle.watch_events.specs.declared.control.ControlWord.{ControlWord}
use Rattle.watch_events.specs.declared.control.ControlWord.TheVariants as words
use Rattle.watch_events.specs.declared.event.Event.TheVariants as events
use Rattle.watch_events.specs.declared.line.Line.{Line}
use Rattle.watch_events.specs.declared.line.Line.TheVariants as lines
use Rattle.watch_events.specs.declared.line.LineFault.{LineFault}
use Rattle.watch_events.proofs.OfEachForm.{OfEachForm, end, form_has, query_read, step}

-- The property holds of the lines of each form, whatever their parts were read from.
pub record OfEachLine (config : Config) (P : Line → Type 0) : Type 0 where
  pub blank : P lines.Blank
  pub stop : P lines.Stop
  pub cancel : (id : ℕ) → P (lines.Cancel (record { 0 = id }))
  pub drain : (id : ℕ) → P (lines.Drain (record { 0 = id }))
  pub subscribe : (s q : Spot) (id : ℕ) (method : Method) (query : Query) → required (number 0 4294967295) s ≡ Ok id → query_of config method q ≡ Ok query → P (lines.Subscribe (record { 0 = id }) query)
  pub simulate : (s : Spot) (request : Request) → request_at s ≡ Ok request → P (lines.Simulate request)
  pub bookmark : P (lines.Event events.Bookmark)
  pub delete : (key : ObjKey) → P (lines.Event (events.Delete key))
  pub set : (s : Spot) (kind : Kind) (object : Object) → object_at kind s ≡ Ok object → P (lines.Event (events.Set object))
  pub relist : (s : Spot) (kind : Kind) (items : List Object) → each (object_at kind) s ≡ Ok items → repeated plain items ≡ None → P (lines.Event (events.Relist kind items))

module _ (config : Config) (P : Line → Type 0) (of : OfEachLine config P) where
  abbrev Has : Result Line LineFault → Type 0
  Has read = (line : Line) → read ≡ Ok line → P line

  subscription_has : (s : Spot) → Has (subscription_of config s)
  unfolding subscription_of
  subscription_has s =
      step P _ _ (λ id id_is. step P _ _ (λ q _. step P _ _ (λ method _. step P _ _ (λ query is. end P (lines.Subscribe (record { 0 = id }) query) (of.subscribe (s · keys.Id) q id method query (query_read _ id id_is) is)))))

  cancellation_has : (s : Spot) → Has (cancellation_of s)
  unfolding cancellation_of
  cancellation_has s = step P _ _ (λ id _. end P (lines.Cancel (record { 0 = id })) (of.cancel id))

  drain_has : (s : Spot) → Has (drain_of s)
  unfolding drain_of
  drain_has s = step P _ _ (λ id _. end P (lines.Drain (record { 0 = id })) (of.drain id))

  simulation_has : (s : Spot) → Has (simulation_of s)
  unfolding simulation_of
  simulation_has s = step P _ _ (λ request is. end P (lines.Simulate request) (of.simulate s request (query_read _ request is)))

  control_has : (word : Option ControlWord) (s : Spot) → Has (control_as config word s)
  control_has None s line e = absurd cc
  control_has (Some words.Subscribe) s line e = subscription_has s line e
  control_has (Some words.Cancel) s line e = cancellation_has s line e
  control_has (Some words.Drain) s line e = drain_has s line e
  control_has (Some words.Simulate) s line e = simulation_has s line e
  control_has (Some words.Stop) s line e = end P lines.Stop of.stop line e

  -- the lines of each form have it, at any spot
  forms_have : (s : Spot) → OfEachForm plain (λ form. Has (line_as config s form))
  forms_have s = record {
    set = λ o kind object is. end P (lines.Event (events.Set object)) (of.set o kind object is);
    delete = λ o kind key _. end P (lines.Event (events.Delete key)) (of.delete key);
    relist = λ o kind items are once. end P (lines.Event (events.Relist kind items)) (of.relist o kind items are once);
    bookmark = end P (lines.Event events.Bookmark) of.bookmark;
    control = control_has _ s;
  }

  line_has : (s : Spot) → Has (line_at config s)
  unfolding line_at
  line_has s = step P _ _ (form_has plain (λ form. Has (line_as config s form)) (forms_have s) s)

  json_has : (value : Option Data) → Has (json_by (line_at config) value)
  json_has None line e = absurd cc
  json_has (Some value) line e = line_has (line_spot value) line e

  pub text_has : (bytes : List ℕ) → Has (text_line config bytes)
  unfolding text_line
  text_has bytes line e = cases (is_blank bytes) e
    where
      cases : (b : Bool) → (if b then Ok lines.Blank else json_by (line_at config) (json_of bytes)) ≡ Ok line → P line
      cases true e = end P lines.Blank of.blank line e
      cases false e = json_has (json_of bytes) line e
