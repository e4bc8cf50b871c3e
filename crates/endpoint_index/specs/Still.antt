-- What is stored for endpoints that read no mark of a change stands after it.
use Rattle.std.proofs.Common.{◌≡◌, ℕ, Bool, true, false, not, cond, ◌||◌, List, [], Option, Some, None, refl, sym, ap, subst, ◌∙◌, append-nil}
use Rattle.std.specs.FinMap.{get, values}
use Rattle.std.specs.List.{flat_map}
use Rattle.std.specs.Option.{is_some, option_and_then, option_to_list}
use Rattle.mesh_base.proofs.KeyOrder.{keys_total}
use Rattle.mesh_base.specs.declared.key.ObjKey.{ObjKey}
use Rattle.view_types.specs.Objects.{ObjectMap}
use Rattle.view_types.specs.declared.config.Config.{Config}
use Rattle.view_types.specs.declared.endpoint.EndpointRow.{EndpointRow}
use Rattle.view_types.specs.declared.endpoint.EndpointView.{EndpointView}
use Rattle.view_types.specs.declared.mark.Mark.{Mark}
use Rattle.view_types.specs.declared.mark.Mark.TheVariants.{Obj, SlicesOf}
use Rattle.view_types.specs.declared.object.Object.{Object}
use Rattle.view_types.specs.declared.service.Service.{Service}
use Rattle.view_types.specs.declared.slice.Slice.{Slice}
use Rattle.view_rules.proofs.Among.{Among, among_found}
use Rattle.view_rules.proofs.Entries.{stands}
use Rattle.view_rules.specs.Endpoints.{RowFor, endpoints_from, first_rows, no_endpoints, port_name, rows_from, service_held, service_key, slice_in, slice_rows, slices_held}
use Rattle.view_rules.specs.Laws.{name_of_port}
use Rattle.view_rules.specs.PodRows.{row_for}
use Rattle.mark_rules.proofs.Endpoints.{endpoints_stay, service_stays, slice_stays}
use Rattle.mark_rules.proofs.MarkTests.{misses_each, misses_left, misses_one, neither_first, neither_second}
use Rattle.mark_rules.proofs.SortsOfMarks.{slice_has}
use Rattle.mark_rules.specs.Changes.{Leads, if_marked}
use Rattle.mark_rules.specs.Marks.{has_mark, marks_of, meets}
use Rattle.mark_rules.specs.Reads.{endpoint_reads, pods_of}
use Rattle.mark_rules.specs.Rows.{endpoint_row}
use Rattle.mark_rules.specs.declared.keys.EndpointKey.{EndpointKey}
use Rattle.endpoint_rows.specs.Laws.{rows_in}
use Rattle.row_table.specs.IndexRows.{KeptShows, KeptStays}
use Rattle.endpoint_index.specs.Given.{given_at, has_endpoints, pods_at, slice_at}
use Rattle.endpoint_index.specs.Naming.{all_read}
use Rattle.endpoint_index.specs.Standing.{Stands, marks_in}
use Rattle.endpoint_index.specs.declared.kept.KeptEndpoints.{KeptEndpoints}

any_first : (b : Bool) → (b || false) ≡ b
any_first true = refl
any_first false = refl

-- ---- a slice of the Service has the mark of its slices

module _ (key : EndpointKey) where
  abbrev own : Mark
  own = SlicesOf key.ns key.name

  pub marked : (o : Object) (s : Slice) → slice_in key.ns key.name o ≡ Some s → has_mark (marks_of o) own ≡ true
  marked o s e = sym (any_first (has_mark (marks_of o) own)) ∙ slice_has key.ns key.name o (ap is_some e)

  not_in : (o : Object) → has_mark (marks_of o) own ≡ false → (found : Option Slice) → slice_in key.ns key.name o ≡ found → found ≡ None
  not_in o lacks None e = refl
  not_in o lacks (Some s) e = absurd (let no : true ≡ false = sym (marked o s e) ∙ lacks in cc no)

  through_mark : (found : Option Object) → option_and_then (slice_in key.ns key.name) found ≡ option_and_then (slice_in key.ns key.name) (if_marked own found)
  through_mark None = refl
  through_mark (Some o) =
      elim (has_mark (marks_of o) own) as (λ b. has_mark (marks_of o) own ≡ b → slice_in key.ns key.name o ≡ option_and_then (slice_in key.ns key.name) (cond b (Some o) None)) [
        | true ↦ λ t. refl
        | false ↦ λ t. not_in o t (slice_in key.ns key.name o) refl
      ] refl

-- ---- a slice is unchanged, and so are its rows

module _ {changed : List Mark} {before after : ObjectMap} (leads : Leads changed before after) (key : EndpointKey) where
  slices_stay : has_mark changed (SlicesOf key.ns key.name) ≡ false → (k : ObjKey) → slice_at before key k ≡ slice_at after key k
  slices_stay misses k = through_mark key (get before k) ∙ ap (option_and_then (slice_in key.ns key.name)) (leads.same (SlicesOf key.ns key.name) k misses) ∙ sym (through_mark key (get after k))

  in_stays : (config : Config) (name : List ℕ) (found : Option Slice) → meets (flat_map pods_of (option_to_list found)) changed ≡ false
      → rows_in (slice_rows (row_for config before) name) found ≡ rows_in (slice_rows (row_for config after) name) found
  in_stays config name None misses = refl
  in_stays config name (Some s) misses = slice_stays leads config name s (misses_left changed (pods_of s) [] misses)

  pub given_stays : (config : Config) (name : Option (List ℕ)) (k : ObjKey) → slice_at before key k ≡ slice_at after key k → meets (pods_at before key k) changed ≡ false
      → given_at config before key name k ≡ given_at config after key name k
  given_stays config None k same misses = refl
  given_stays config (Some name) k same misses = in_stays config name (slice_at before key k) misses ∙ ap (rows_in (slice_rows (row_for config after) name)) same

  among : (k : ObjKey) (s : Slice) (found : Option Object) → get before k ≡ found → option_and_then (slice_in key.ns key.name) found ≡ Some s → Among s (slices_held before key.ns key.name)
  among k s None is e = absurd (cc e)
  among k s (Some o) is e = among_found (slice_in key.ns key.name) (values before) o s (stands keys_total before k o is) e

  are_read : (k : ObjKey) (found : Option Slice) → slice_at before key k ≡ found → meets (flat_map pods_of (slices_held before key.ns key.name)) changed ≡ false
      → meets (flat_map pods_of (option_to_list found)) changed ≡ false
  are_read k None is misses = refl
  are_read k (Some s) is misses =
      subst (λ (marks : List Mark). meets marks changed ≡ false) (sym (append-nil (pods_of s)))
      (misses_each changed pods_of (slices_held before key.ns key.name) s (among k s (get before k) refl is) misses)

-- ---- the view by the name of the port

abbrev one : Bool → List EndpointRow → EndpointView
one exists rows = record { exists = exists; rows = rows }

as_named : (row : RowFor) (slices : List Slice) (port : ℕ) (service : Option Service) → one (has_endpoints service) (rows_from row slices (name_of_port port service)) ≡ endpoints_from row slices port service
as_named row slices port None = refl
as_named row slices port (Some s) = by s.external
  where
    by : (b : Bool) → one (not b) (rows_from row slices (cond b None (port_name port s.ports))) ≡ cond b no_endpoints (one true (rows_from row slices (port_name port s.ports)))
    by true = refl
    by false = refl

module _ (config : Config) (held : ObjectMap) (key : EndpointKey) (name : Option (List ℕ)) (is : name ≡ name_of_port key.port (service_held held key.ns key.name)) where
  pub row_named : one (has_endpoints (service_held held key.ns key.name)) (rows_from (row_for config held) (slices_held held key.ns key.name) name) ≡ endpoint_row config held key
  row_named =
      ap (λ name. one (has_endpoints (service_held held key.ns key.name)) (rows_from (row_for config held) (slices_held held key.ns key.name) name)) is
      ∙ as_named (row_for config held) (slices_held held key.ns key.name) key.port (service_held held key.ns key.name)

pub stands_still : (config : Config) → KeptStays (record { row_of = endpoint_row config; reads = endpoint_reads }) (Stands config)
stands_still config key kept changed before after leads misses well =
    let stays = endpoints_stay config key changed before after leads misses in
    let others = neither_second _ _ misses in
    let service = service_stays leads key.ns key.name (misses_one changed (Obj (service_key key.ns key.name)) (neither_first _ _ misses)) in
    let slices = slices_stay leads key (neither_first _ _ others) in
    let named = well.name ∙ ap (name_of_port key.port) service in
    record {
      slices = record {
        keeps = well.slices.keeps;
        view = well.slices.view ∙ row_named config before key kept.name well.name ∙ sym stays.0 ∙ sym (row_named config after key kept.name named);
        agree = well.slices.agree;
        each = λ k. record {
          rows = (well.slices.each k).rows
              ∙ ap first_rows (given_stays leads key config kept.name k (slices k) (are_read leads key k (slice_at before key k) refl (neither_second _ _ others)));
          pods = (well.slices.each k).pods ∙ ap (λ found. flat_map pods_of (option_to_list found)) (slices k);
        };
      };
      name = named;
      own = well.own;
    }

abbrev pub view_in : KeptEndpoints → EndpointView
view_in kept = kept.slices.rows.view

-- what is stored determines the view and its marks
pub stands_show : (config : Config) → KeptShows (record { row_of = endpoint_row config; reads = endpoint_reads }) (Stands config) view_in marks_in
stands_show config held key kept well = record { is_filter = well.slices.view ∙ row_named config held key kept.name well.name; are_read = all_read held key kept well.own well.slices.agree (λ k. (well.slices.each k).pods) }
