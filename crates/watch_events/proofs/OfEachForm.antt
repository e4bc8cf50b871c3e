-- What holds of each form of a line that was read, from what holds of what its parts were read from.
use Rattle.std.proofs.Common.{◌≡◌, ℕ, Bool, true, false, List, Option, Some, None, Result, Ok, Err, if◌then◌else◌, refl, ap, subst, option_and_then}
use Rattle.k8s_meta.specs.Lists.{each}
use Rattle.k8s_meta.specs.Spots.{Spot, ◌·◌, is_absent}
use Rattle.k8s_meta.specs.Words.{string_in}
use Rattle.k8s_meta.specs.declared.fault.ReadFault.{ReadFault}
use Rattle.k8s_meta.specs.declared.key.Key.TheVariants as keys
use Rattle.watch_events.specs.Events.{delete_of, event_as, event_of, set_of}
use Rattle.watch_events.specs.Forms.{form_of, list_as}
use Rattle.watch_events.specs.ListLines.{item_kind, list_of, repeated, unless_repeated}
use Rattle.watch_events.specs.Reading.{of_object, of_query, ◌>>=◌, then}
use Rattle.watch_events.specs.Tables.{Table}
use Rattle.watch_events.specs.declared.event_type.EventType.{EventType}
use Rattle.watch_events.specs.declared.event_type.EventType.TheVariants.{Added, Modified, Deleted, Bookmark, Error}
use Rattle.watch_events.specs.declared.form.Form.{Form}
use Rattle.watch_events.specs.declared.form.Form.TheVariants as forms
use Rattle.watch_events.specs.declared.line.LineFault.{LineFault}

-- ---- steps of a line

abbrev line_given : {A : Type 0} → A → Result A LineFault
line_given x = Ok x

same_line : {A : Type 0} (x y : A) → line_given x ≡ line_given y → x ≡ y
same_line x y e = cc

pub step : {A B : Type 0} (P : B → Type 0) (r : Result A LineFault) (f : A → Result B LineFault) → ((x : A) → r ≡ Ok x → (y : B) → f x ≡ Ok y → P y) → (y : B) → (r >>= f) ≡ Ok y → P y
unfolding then
step P (Ok x) f go y e = go x refl y e
step P (Err w) f go y e = absurd cc

pub end : {A : Type 0} (P : A → Type 0) (x : A) → P x → (y : A) → line_given x ≡ line_given y → P y
end P x p y e = subst P (same_line x y e) p

object_read : {A : Type 0} (r : Result A ReadFault) (x : A) → of_object r ≡ Ok x → r ≡ Ok x
object_read (Ok y) x e = ap Ok (same_line y x e)
object_read (Err fault) x e = absurd cc

pub query_read : {A : Type 0} (r : Result A ReadFault) (x : A) → of_query r ≡ Ok x → r ≡ Ok x
query_read (Ok y) x e = ap Ok (same_line y x e)
query_read (Err fault) x e = absurd cc

-- ---- forms, by a table of kinds

module _ {C M K : Type 0} (table : Table C M K) (P : Form C M K → Type 0) where
  -- The property holds of each form, whatever its parts were read from.
  pub record OfEachForm : Type 0 where
    pub set : (s : Spot) (kind : C) (object : M) → table.object kind s ≡ Ok object → P (forms.Set kind object)
    pub delete : (s : Spot) (kind : C) (key : K) → table.removed kind s ≡ Ok key → P (forms.Delete kind key)
    pub relist : (s : Spot) (kind : C) (items : List M) → each (table.object kind) s ≡ Ok items → repeated table items ≡ None → P (forms.Relist kind items)
    pub bookmark : P forms.Bookmark
    pub control : P forms.Control

  abbrev Has : Result (Form C M K) LineFault → Type 0
  Has read = (form : Form C M K) → read ≡ Ok form → P form

  module _ (of : OfEachForm) where
    set_has : (s : Spot) → Has (set_of table s)
    unfolding set_of
    set_has s = step P _ _ (λ o _. step P _ _ (λ kind _. step P _ _ (λ x is. end P (forms.Set kind x) (of.set o kind x (object_read _ x is)))))

    delete_has : (s : Spot) → Has (delete_of table s)
    unfolding delete_of
    delete_has s = step P _ _ (λ o _. step P _ _ (λ kind _. step P _ _ (λ key is. end P (forms.Delete kind key) (of.delete o kind key (object_read _ key is)))))

    event_has : (kind : Option EventType) (s : Spot) → Has (event_as table kind s)
    event_has None s form e = absurd cc
    event_has (Some Added) s form e = set_has s form e
    event_has (Some Modified) s form e = set_has s form e
    event_has (Some Deleted) s form e = delete_has s form e
    event_has (Some Bookmark) s form e = end P forms.Bookmark of.bookmark form e
    event_has (Some Error) s form e = absurd cc

    relist_has : (s : Spot) (kind : C) (items : List M) → each (table.object kind) s ≡ Ok items → (place : Option ℕ) → repeated table items ≡ place → Has (unless_repeated kind items place)
    relist_has s kind items are None once form e = end P (forms.Relist kind items) (of.relist s kind items are once) form e
    relist_has s kind items are (Some n) once form e = absurd cc

    list_has : (name : List ℕ) (s : Spot) → Has (list_of table name s)
    unfolding list_of
    list_has name s = step P _ _ (λ kind _. step P _ _ (λ items are. relist_has (s · keys.Items) kind items (object_read _ items are) (repeated table items) refl))

    list_as_has : (name : Option (List ℕ)) (s : Spot) → Has (list_as table name s)
    list_as_has None s form e = absurd cc
    list_as_has (Some name) s form e = list_has name s form e

    pub form_has : (s : Spot) → Has (form_of table s)
    unfolding form_of
    form_has s form e = cases (is_absent (s · keys.Control)) (is_absent (s · keys.Type)) e
      where
        list : Result (Form C M K) LineFault
        list = list_as table (option_and_then item_kind (string_in (s · keys.Kind).value)) s

        cases : (a b : Bool) → (if a then (if b then list else event_of table s) else Ok forms.Control) ≡ Ok form → P form
        cases true true e = list_as_has _ s form e
        cases true false e = event_has _ s form e
        cases false b e = end P forms.Control of.control form e
