-- Each line that was read is lawful, where the objects are.
use Rattle.std.proofs.Common.{◌≡◌, List, [], ◌∷◌, map, Some, None, Result, Ok, Err, IfOk}
use Rattle.std.specs.Cmp.{eq_by_cmp_equiv}
use Rattle.std.specs.List.{AllByRecursion}
use Rattle.std.specs.Ordering.{eq_by_cmp}
use Rattle.std.proofs.lemmas.List.Elements.{All-from_recursion}
use Rattle.line_run.specs.Rows.{Row, row_of}
use Rattle.mesh_base.specs.KeyOrder.{key_cmp}
use Rattle.mesh_base.specs.declared.key.Kind.{Kind}
use Rattle.mesh_base.proofs.KeyOrder.{keys_total}
use Rattle.k8s_meta.proofs.GivenLists.{each_gives}
use Rattle.view_types.specs.Lawful.{IsLawful}
use Rattle.view_types.specs.Objects.{IsListOf, key_of, kind_of}
use Rattle.view_types.specs.declared.config.Config.{Config}
use Rattle.view_types.specs.declared.object.Object.{Object}
use Rattle.watch_events.specs.Given.{Gives}
use Rattle.watch_events.specs.Lawful.{IsLawfulLine, IsLawfulOf, LinesAreLawful, ObjectsAreLawful, TextsAreLawful}
use Rattle.watch_events.specs.Lines.{row_says, text_line}
use Rattle.watch_events.specs.ListLines.{repeated}
use Rattle.watch_events.specs.Objects.{object_at}
use Rattle.watch_events.specs.Tables.{plain}
use Rattle.watch_events.specs.declared.line.Line.{Line}
use Rattle.watch_events.specs.declared.line.LineFault.{LineFault}
use Rattle.watch_events.proofs.Apart.{apart_unless_repeated}
use Rattle.watch_events.proofs.OfEachLine.{OfEachLine, text_has}
use Rattle.watch_events.proofs.Simulations.{request_gives}
use Rattle.watch_events.proofs.Targets.{query_gives}

firsts : {A : Type 0} (P Q : A → Type 0) (xs : List A) → AllByRecursion (λ x. P x × Q x) xs → AllByRecursion P xs
firsts P Q [] all = tt
firsts P Q (x ∷ xs) all = (all.0.0, firsts P Q xs all.1)

seconds : {A : Type 0} (P Q : A → Type 0) (xs : List A) → AllByRecursion (λ x. P x × Q x) xs → AllByRecursion Q xs
seconds P Q [] all = tt
seconds P Q (x ∷ xs) all = (all.0.1, seconds P Q xs all.1)

list_is : (kind : Kind) (items : List Object) → AllByRecursion (IsLawfulOf kind) items → repeated plain items ≡ None → IsListOf kind items × AllByRecursion IsLawful items
list_is kind items all once = (
  record {
    each = All-from_recursion (λ (o : Object). kind_of o ≡ kind) items (seconds IsLawful (λ (o : Object). kind_of o ≡ kind) items all);
    apart = apart_unless_repeated (eq_by_cmp key_cmp) (eq_by_cmp_equiv keys_total) (map key_of items) once;
  },
  firsts IsLawful (λ (o : Object). kind_of o ≡ kind) items all,
)

module _ (lawful : ObjectsAreLawful) where
  of_each_line : (config : Config) → OfEachLine config IsLawfulLine
  of_each_line config = record {
    blank = tt;
    stop = tt;
    cancel = λ id. tt;
    drain = λ id. tt;
    subscribe = λ s q id method query _ is. query_gives config method q query is;
    simulate = request_gives;
    bookmark = tt;
    delete = λ key. tt;
    set = λ s kind object is. (lawful kind s object is).0;
    relist = λ s kind items are once. list_is kind items (each_gives (IsLawfulOf kind) (object_at kind) (lawful kind) s items are) once;
  }

  pub text_gives : TextsAreLawful
  text_gives config = text_has config IsLawfulLine (of_each_line config)

row_gives : TextsAreLawful → (config : Config) (row : Row) (line : Line) → row_says (text_line config) row ≡ Ok line → IsLawfulLine line
row_gives texts config None line e = absurd cc
row_gives texts config (Some bytes) line e = texts config bytes line e

pub line_gives : ObjectsAreLawful → LinesAreLawful
line_gives lawful config limits bytes = row_gives (text_gives lawful) config (row_of limits.line bytes)

-- what a reader of rows returned is lawful
pub row_read : TextsAreLawful → (config : Config) (row : Row) (r : Result Line LineFault) → Gives r (row_says (text_line config) row) → IfOk r IsLawfulLine
row_read texts config row (Ok line) is = row_gives texts config row line is
row_read texts config row (Err fault) is = tt
