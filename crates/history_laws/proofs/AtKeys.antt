-- What is held stands at its own key, whatever was read.
use Rattle.std.proofs.Common.{◌≡◌, true, false, cond, not, List, [], ◌∷◌, Option, Some, None, refl, sym, ap, ◌∙◌}
use Rattle.std.specs.Prelude.{Result, Ok, Err}
use Rattle.std.specs.FinMap.{get, get-empty, get-insert, get-remove, get-retain_keys, insert, remove, retain_keys}
use Rattle.std.specs.Ordering.{eq_by_cmp}
use Rattle.mesh_base.specs.KeyOrder.{key_cmp}
use Rattle.mesh_base.proofs.KeyOrder.{keys_exact, keys_total}
use Rattle.mesh_base.specs.declared.key.Kind.{Kind}
use Rattle.mesh_base.specs.declared.key.ObjKey.{ObjKey}
use Rattle.view_types.specs.Objects.{AtKeys, ObjectMap, key_of}
use Rattle.view_types.specs.declared.object.Object.{Object}
use Rattle.view_rules.proofs.Entries.{equal}
use Rattle.object_store.specs.Relisted.{is_of, put_all}
use Rattle.watch_events.specs.declared.event.Event.{Event}
use Rattle.watch_events.specs.declared.event.Event.TheVariants.{Set, Delete, Relist, Bookmark}
use Rattle.watch_events.specs.declared.line.Line.{Line}
use Rattle.watch_events.specs.declared.line.Line.TheVariants as lines
use Rattle.feed_history.specs.Events.{objects_after}
use Rattle.feed_history.specs.History.{State, after, after_line, reading_after, refusal_after}
use Rattle.feed_history.specs.Ids.{unless_refused}
use Rattle.feed_history.specs.Lawful.{HeldAtKeys}
use Rattle.feed_history.specs.Program.{Program}
use Rattle.feed_history.specs.declared.refusal.Refusal.{Refusal}

-- ---- events

set_at : (held : ObjectMap) → AtKeys held → (o : Object) → AtKeys (insert held (key_of o) o)
set_at held at_keys o key object is =
    elim (eq_by_cmp key_cmp key (key_of o)) as (λ b. eq_by_cmp key_cmp key (key_of o) ≡ b → cond b (Some o) (get held key) ≡ Some object → key_of object ≡ key) [
      | true ↦ λ tied e. let same : o ≡ object = cc e in ap key_of (sym same) ∙ sym (keys_exact key (key_of o) (equal _ tied))
      | false ↦ λ tied e. at_keys key object e
    ] refl (sym (get-insert keys_total held (key_of o) o key) ∙ is)

taken_at : (held : ObjectMap) → AtKeys held → (taken : ObjKey) → AtKeys (remove held taken)
taken_at held at_keys taken key object is =
    elim (eq_by_cmp key_cmp key taken) as (λ b. cond b None (get held key) ≡ Some object → key_of object ≡ key) [
      | true ↦ λ e. absurd (cc e)
      | false ↦ λ e. at_keys key object e
    ] (sym (get-remove keys_total held taken key) ∙ is)

others_at : (held : ObjectMap) → AtKeys held → (kind : Kind) → AtKeys (retain_keys held (λ k. not (is_of kind k)))
others_at held at_keys kind key object is =
    elim (not (is_of kind key)) as (λ b. cond b (get held key) None ≡ Some object → key_of object ≡ key) [
      | true ↦ λ e. at_keys key object e
      | false ↦ λ e. absurd (cc e)
    ] (sym (get-retain_keys held (λ k. not (is_of kind k)) key (λ j tied. ap (λ k. not (is_of kind k)) (sym (keys_exact key j tied)))) ∙ is)

items_at : (held : ObjectMap) → AtKeys held → (items : List Object) → AtKeys (put_all items held)
items_at held at_keys [] = at_keys
items_at held at_keys (o ∷ os) = set_at (put_all os held) (items_at held at_keys os) o

event_at : (held : ObjectMap) → AtKeys held → (event : Event) → AtKeys (objects_after held event)
event_at held at_keys (Set o) = set_at held at_keys o
event_at held at_keys (Delete key) = taken_at held at_keys key
event_at held at_keys (Relist kind items) = items_at (retain_keys held (λ k. not (is_of kind k))) (others_at held at_keys kind) items
event_at held at_keys Bookmark = at_keys

-- ---- rows

line_at : (program : Program) (now : State) → AtKeys now.objects → (line : Result Line Refusal) → AtKeys (after_line program now line).objects
line_at program now at_keys (Err fault) = at_keys
line_at program now at_keys (Ok lines.Blank) = at_keys
line_at program now at_keys (Ok (lines.Event event)) = event_at now.objects at_keys event
line_at program now at_keys (Ok (lines.Subscribe id query)) = at_keys
line_at program now at_keys (Ok (lines.Cancel id)) = at_keys
line_at program now at_keys (Ok (lines.Drain id)) = at_keys
line_at program now at_keys (Ok (lines.Simulate request)) = at_keys
line_at program now at_keys (Ok lines.Stop) = at_keys

row_at : (refusal : Option Refusal) (now then : State) → AtKeys now.objects → AtKeys then.objects → AtKeys (unless_refused refusal now then).objects
row_at None now then before at_keys = at_keys
row_at (Some refusal) now then before at_keys = before

pub held_at_keys : (program : Program) → HeldAtKeys program
held_at_keys program [] key object is = absurd (cc (sym (get-empty key_cmp key) ∙ is))
held_at_keys program (row ∷ past) key object is =
    row_at (refusal_after program past row) (after program past) (after_line program (after program past) (reading_after program past row)) (held_at_keys program past)
    (line_at program (after program past) (held_at_keys program past) (reading_after program past row)) key object is
