-- One row more: what is held at a key is what the row tells, or what was held before.
use Rattle.std.proofs.Common.{◌≡◌, Bool, true, false, [], ◌∷◌, Option, Some, None, IfOk, refl, ap, ◌∙◌, cond}
use Rattle.std.specs.Prelude.{Result, Ok, Err}
use Rattle.std.specs.Ordering.{eq_by_cmp}
use Rattle.std.specs.FinMap.{get, get-insert, get-remove}
use Rattle.mesh_base.specs.KeyOrder.{key_cmp}
use Rattle.mesh_base.proofs.KeyOrder.{keys_total}
use Rattle.mesh_base.specs.declared.key.ObjKey.{ObjKey}
use Rattle.view_types.specs.declared.object.Object.{Object}
use Rattle.view_types.specs.Objects.{AtKeys, ObjectMap, key_of}
use Rattle.object_store.specs.Relisted.{is_of, item_at}
use Rattle.object_store.proofs.PutAll as put_all
use Rattle.watch_events.specs.Lawful.{IsLawfulLine}
use Rattle.watch_events.specs.declared.event.Event.TheVariants.{Set, Delete, Relist, Bookmark}
use Rattle.watch_events.specs.declared.line.Line.{Line}
use Rattle.watch_events.specs.declared.line.Line.TheVariants as lines
use Rattle.feed_history.specs.declared.refusal.Refusal.{Refusal}
use Rattle.feed_history.specs.History.{State, after, after_line, reading_after, refusal_after, step}
use Rattle.feed_history.specs.Ids.{unless_refused}
use Rattle.feed_history.specs.Lawful.{AreLawfulHeld, ReadsLawfully}
use Rattle.feed_history.specs.LookBack.{told_by, last_told, RefusedChangesNothing}
use Rattle.feed_history.specs.Marks.{MarkedRow}
use Rattle.feed_history.specs.Program.{Program, reading}

chosen : (b : Bool) (told before : Option Object) → cond b told before ≡ last_told None (cond b (Some told) None) before
chosen true told before = refl
chosen false told before = refl

abbrev pub AreLawful : Result Line Refusal → Type 0
AreLawful line = IfOk line IsLawfulLine

pub told_step : (program : Program) (now : State) (line : Result Line Refusal) (refusal : Option Refusal) (key : ObjKey) → AreLawful line
    → get (unless_refused refusal now (after_line program now line)).objects key ≡ last_told refusal (told_by line key) (get now.objects key)
told_step program now line (Some refusal) key lawful = refl
told_step program now (Err refusal) None key lawful = refl
told_step program now (Ok lines.Blank) None key lawful = refl
told_step program now (Ok (lines.Subscribe id query)) None key lawful = refl
told_step program now (Ok (lines.Cancel id)) None key lawful = refl
told_step program now (Ok (lines.Drain id)) None key lawful = refl
told_step program now (Ok (lines.Simulate request)) None key lawful = refl
told_step program now (Ok lines.Stop) None key lawful = refl
told_step program now (Ok (lines.Event Bookmark)) None key lawful = refl
told_step program now (Ok (lines.Event (Relist kind items))) None key lawful = put_all.relisted_by_key now.objects kind items lawful.0 key ∙ chosen (is_of kind key) (item_at key items) (get now.objects key)
told_step program now (Ok (lines.Event (Set object))) None key lawful = get-insert keys_total now.objects (key_of object) object key ∙ chosen (eq_by_cmp key_cmp key (key_of object)) (Some object) (get now.objects key)
told_step program now (Ok (lines.Event (Delete gone))) None key lawful = get-remove keys_total now.objects gone key ∙ chosen (eq_by_cmp key_cmp key gone) None (get now.objects key)

-- a row that is read over lawful objects is read lawfully
pub read_lawful : (program : Program) → ReadsLawfully program → (held : ObjectMap) → AreLawfulHeld held → AtKeys held → (row : MarkedRow) → AreLawful (reading program held row)
read_lawful program reads held lawful at_keys row = by_value (reading program held row) refl
  where
    by_value : (line : Result Line Refusal) → reading program held row ≡ line → AreLawful line
    by_value (Ok line) is = reads held lawful at_keys row.0 line is
    by_value (Err refusal) is = tt

pub refused_changes_nothing : (program : Program) → RefusedChangesNothing program
refused_changes_nothing program past row refusal is [] = ap (λ (r : Option Refusal). unless_refused r (after program past) (after_line program (after program past) (reading_after program past row))) is
refused_changes_nothing program past row refusal is (last ∷ later) = ap (λ (now : State). step program now last) (refused_changes_nothing program past row refusal is later)
