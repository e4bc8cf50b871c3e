use Rattle.std.proofs.Common.{◌≡◌, List, sym, ap, subst, ◌∙◌}
use Rattle.std.specs.List.{filter_map}
use Rattle.std.specs.List.Sorted.{IsStrictlySortedBy}
use Rattle.view_rules.specs.Endpoints.{pair_cmp}
use Rattle.view_types.specs.declared.endpoint.EndpointRow.{EndpointRow}
use Rattle.view_types.specs.declared.endpoint.EndpointView.{EndpointView}
use Rattle.endpoint_rows.specs.Before.{note_of}
use Rattle.endpoint_rows.specs.Kept.{ReplacesAll, Rises, Shows, all_rows}
use Rattle.endpoint_rows.proofs.Showing.{AreInOrder, all_shown, once, once_rises, once_sorted, replaced_as, settled_shows, tells}
use Rattle.endpoint_rows.proofs.rows.EndpointRows.settle.Goals as goal

pub invariant_of-self-2-clause-by_address : goal.invariant_of-self-2-clause-by_address
invariant_of-self-2-clause-by_address c =
    let s = c.args.self.now in
    let once_is : c.as_slice.result.now ≡ once s.touched = c.as_slice.ensures ∙ c.in_ok-touched.ensures ∙ ap once c.replace-touched.ensures.value in
    c.in_ok-self.ensures.by_address (subst (IsStrictlySortedBy pair_cmp) (sym once_is) (once_sorted s.touched))

pub returns-clause-keeps : goal.returns-clause-keeps
returns-clause-keeps c = λ keeps.
    let s = c.args.self.now in
    let all = all_rows s.slices.by_slice in
    let once_is : c.as_slice.result.now ≡ once s.touched = c.as_slice.ensures ∙ c.in_ok-touched.ensures ∙ ap once c.replace-touched.ensures.value in
    let old_is : c.of-rows.result ≡ s.view.rows = c.of-rows.ensures ∙ c.replace.ensures.value in
    let rises = subst Rises (sym old_is) keeps.shows.rise in
    let replaced : ReplacesAll (once s.touched) all s.view.rows c.into_list.result = replaced_as s.touched _ all s.view.rows _ _ _ once_is old_is c.into_list.ensures.value (c.in_ok-self.ensures.rows keeps.agree rises) in
    record {
      agree = keeps.agree;
      shows = subst (λ touched. Shows touched all c.into_list.result) (sym (c.replace-touched.ensures.after ∙ c.new.ensures))
          (settled_shows s.touched all s.view.rows c.into_list.result keeps.shows replaced);
    }

pub returns-clause-view : goal.returns-clause-view
returns-clause-view c = λ keeps.
    let s = c.args.self.now in
    let all = all_rows s.slices.by_slice in
    let once_is : c.as_slice.result.now ≡ once s.touched = c.as_slice.ensures ∙ c.in_ok-touched.ensures ∙ ap once c.replace-touched.ensures.value in
    let old_is : c.of-rows.result ≡ s.view.rows = c.of-rows.ensures ∙ c.replace.ensures.value in
    let rises = subst Rises (sym old_is) keeps.shows.rise in
    let replaced : ReplacesAll (once s.touched) all s.view.rows c.into_list.result = replaced_as s.touched _ all s.view.rows _ _ _ once_is old_is c.into_list.ensures.value (c.in_ok-self.ensures.rows keeps.agree rises) in
    let view : List EndpointRow → EndpointView = λ rows. record { exists = s.view.exists; rows = rows } in
    ap view (all_shown s.touched all s.view.rows c.into_list.result keeps.shows replaced)

pub returns-clause-notes : goal.returns-clause-notes
returns-clause-notes c = λ keeps.
    let s = c.args.self.now in
    let all = all_rows s.slices.by_slice in
    let once_is : c.as_slice.result.now ≡ once s.touched = c.as_slice.ensures ∙ c.in_ok-touched.ensures ∙ ap once c.replace-touched.ensures.value in
    let old_is : c.of-rows.result ≡ s.view.rows = c.of-rows.ensures ∙ c.replace.ensures.value in
    let rises = subst Rises (sym old_is) keeps.shows.rise in
    let replaced : ReplacesAll (once s.touched) all s.view.rows c.into_list.result = replaced_as s.touched _ all s.view.rows _ _ _ once_is old_is c.into_list.ensures.value (c.in_ok-self.ensures.rows keeps.agree rises) in
    tells s.touched all s.view.rows c.into_list.result c.in_ok-self.field-0 keeps.shows replaced
    (c.in_ok-self.ensures.notes keeps.agree rises (subst AreInOrder (sym once_is) (once_rises s.touched)) ∙ (λ i. filter_map (note_of (old_is i) all) (once_is i)))
