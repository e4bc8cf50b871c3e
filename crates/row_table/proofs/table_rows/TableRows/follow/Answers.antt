use Rattle.std.proofs.Common.{◌≡◌, ◌≤◌, ◌+◌, ◌++◌, ◌∷◌, [], false, List, Option, get_or, take, sym, ap, subst, ◌∙◌, refl, arith}
use Rattle.std.specs.List.{IsDistinct, sum_by}
use Rattle.std.specs.List.Sorted.{IsStrictlySortedBy}
use Rattle.std.specs.Option.{option_to_list}
use Rattle.std.specs.Ordering.{eq_by_cmp, nat_cmp}
use Rattle.std.proofs.lemmas.List.{take_all, take_more}
use Rattle.std.proofs.lemmas.List.Sums.{sum_by-append}
use Rattle.view_types.specs.declared.mark.Mark.{Mark}
use Rattle.mark_graph.specs.RowMarks.{has_row}
use Rattle.mark_rules.specs.Reads.{cost}
use Rattle.row_table.specs.IndexRows.{AreMet, DifferAmong, has_key}
use Rattle.row_table.specs.KeyNumbers.{number_at}
use Rattle.row_table.specs.TableRows.{Follow, is_among, kept_at, key_in, keys_of, marks_of, row_at, shown_in}
use Rattle.row_table.specs.declared.table_rows.KeptRow.{KeptRow}
use Rattle.row_table.proofs.Differing.{differ_none}
use Rattle.row_table.proofs.Followed.{added_apart, all_met, among_start, among_step, follow_more, found_all, fresh_at, once_more}
use Rattle.row_table.proofs.Gathered.{one_more}
use Rattle.row_table.proofs.Keys.{distinct_none}
use Rattle.row_table.proofs.table_rows.TableRows.follow.Goals as goal

pub loop-number-init : goal.loop-number-init
loop-number-init g c =
    let cmp = g.F.Key.Ord.cmp in
    let total = g.met.F.Key.Ord.total in
    let exact = g.met.F.RowRule.exact in
    let self = c.args.self.now in
    let by = c.args.by.now in
    rw c.new.ensures (record {
      used = refl;
      keys = λ n. refl;
      tied = record {
        rows_of = c.requires.tied.rows_of;
        numbers = c.requires.tied.numbers;
        watch = c.in_ok-numbers.ensures.watch c.requires.tied.watch;
      };
      notes = c.no_notes-notes.ensures by.after.store.now.objects by.after.change.now;
      rows = λ k. refl;
      among = among_start cmp total exact g.F.RowRule.marks_in self.used self.rows self.watched c.requires.tied;
      differ = differ_none cmp (λ k. shown_in g.F.RowRule.row_in (row_at cmp self.used self.rows k));
      once = distinct_none cmp total exact;
      steps = omega arith;
    })

pub loop-number-preserved : goal.loop-number-preserved
loop-number-preserved g c =
    let cmp = g.F.Key.Ord.cmp in
    let total = g.met.F.Key.Ord.total in
    let exact = g.met.F.RowRule.exact in
    let marks_in = g.F.RowRule.marks_in in
    let self = c.args.self.now in
    let by = c.args.by.now in
    let so_far = c.loop-number.invariant in
    let items = c.as_slice-number-items.result.now in
    let i = c.loop-number.number-index in
    let n = get_or items i 0 in
    let found = keys_of self.rows (take i items) in
    let new = keys_of self.rows (take (i + 1) items) in
    let added = option_to_list (key_in (kept_at self.rows n)) in
    let f = λ (key : g.row.F-Key.Denot). cost by.after.store.now.objects ((g.F.RowRule.filter by.rule.now).reads by.after.store.now.objects key) in
    let start = row_at cmp self.used self.rows in
    let middle = row_at cmp c.loop-number.self.used c.loop-number.self.rows in
    let end = row_at cmp c.follow_number.new.self.used c.follow_number.new.self.rows in
    let shown = λ (rows : g.row.F-Key.Denot → Option (KeptRow g.row.F-Key.Denot g.row.F-Kept.Denot)) (k : g.row.F-Key.Denot). shown_in g.F.RowRule.row_in (rows k) in
    let Followed = λ (keys : List g.row.F-Key.Denot). Follow (g.F.RowRule.keeps by.rule.now) g.F.RowRule.tells by.after.change.now.marks by.after.store.now.objects (has_key cmp keys) middle end in
    let All = λ (keys : List g.row.F-Key.Denot). Follow (g.F.RowRule.keeps by.rule.now) g.F.RowRule.tells by.after.change.now.marks by.after.store.now.objects (has_key cmp keys) start end in
    let same : option_to_list (key_in (kept_at c.loop-number.self.rows n)) ≡ added = ap option_to_list (so_far.keys n) in
    let is : new ≡ found ++ added = one_more (λ n. key_in (kept_at self.rows n)) items i 0 c.loop-number-test.true in
    let rise : IsStrictlySortedBy nat_cmp items = subst (IsStrictlySortedBy nat_cmp) (sym c.as_slice-number-items.ensures) c.in_ok-numbers.ensures.in_order in
    let fresh : has_row n (take i items) ≡ false = fresh_at items rise i c.loop-number-test.true in
    let taken : take (i + 1) items ≡ take i items ++ n ∷ [] = take_more items i 0 c.loop-number-test.true in
    let sums : sum_by f new ≡ sum_by f found + sum_by f added = ap (sum_by f) is ∙ sum_by-append f found added in
    let before = so_far.steps in
    let more = subst (λ (keys : List g.row.F-Key.Denot). c.follow_number.new.steps ≤ c.loop-number.steps + sum_by f keys) same c.in_ok-follow_number.ensures.steps in
    record {
      used = c.follow_number.ensures.used ∙ so_far.used;
      keys = λ i. c.in_ok-follow_number.ensures.same i ∙ so_far.keys i;
      tied = c.in_ok-follow_number.ensures.tied;
      notes = c.in_ok-follow_number.ensures.notes;
      rows = subst All (sym is)
          (follow_more cmp total exact (g.F.RowRule.keeps by.rule.now) g.F.RowRule.tells by.after.change.now.marks by.after.store.now.objects found added start middle end so_far.rows
          (subst Followed same c.in_ok-follow_number.ensures.rows)
          (added_apart cmp total exact marks_in self.used self.rows self.watched c.requires.tied n (take i items) found so_far.among fresh));
      among = λ k. ap (λ keys. has_key cmp keys k) is
          ∙ among_step cmp total exact marks_in self.used self.rows self.watched c.requires.tied n (take i items) found so_far.among k
          ∙ ap (λ numbers. is_among numbers (number_at cmp self.used k)) (sym taken);
      differ = subst (λ (keys : List g.row.F-Key.Denot). DifferAmong cmp keys c.follow_number.new.self.differing (shown start) (shown end)) (ap (λ more. found ++ more) same ∙ sym is)
          (c.in_ok-follow_number.ensures.differ (shown start) found so_far.differ);
      once = subst (IsDistinct (eq_by_cmp cmp)) (sym is) (once_more cmp total exact marks_in self.used self.rows self.watched c.requires.tied n (take i items) found so_far.among fresh so_far.once);
      steps = omega (arith, sums, before, more);
    }

pub returns-clause-keys : goal.returns-clause-keys
returns-clause-keys g c =
    let cmp = g.F.Key.Ord.cmp in
    let total = g.met.F.Key.Ord.total in
    let exact = g.met.F.RowRule.exact in
    let marks_in = g.F.RowRule.marks_in in
    let self = c.args.self.now in
    let so_far = c.loop-number.invariant in
    let items = c.as_slice-number-items.result.now in
    let i = c.loop-number.number-index in
    let all : take i items ≡ items = take_all i items c.loop-number-test.false in
    let numbers = c.as_slice-number-items.ensures in
    let same = found_all self.rows c.loop-number.self.rows so_far.keys (take i items) c.in_ok-numbers.numbers (all ∙ numbers) in
    subst (λ (keys : List g.row.F-Key.Denot). AreMet cmp c.args.by.now.after.change.now.marks (λ k. marks_of marks_in (row_at cmp self.used self.rows k)) keys) same
    (subst (λ (changed : List Mark). AreMet cmp changed (λ k. marks_of marks_in (row_at cmp self.used self.rows k)) (keys_of self.rows (take i items))) c.as_slice.ensures
    (all_met cmp total exact marks_in self.used self.rows self.watched c.requires.tied c.as_slice.result.now items (keys_of self.rows (take i items))
    (λ n. ap (has_row n) numbers ∙ c.in_ok-numbers.ensures.due c.requires.tied.watch n)
    (λ k. so_far.among k ∙ ap (λ numbers. is_among numbers (number_at cmp self.used k)) all)
    so_far.once))

pub returns-clause-rows : goal.returns-clause-rows
returns-clause-rows g c =
    let cmp = g.F.Key.Ord.cmp in
    let self = c.args.self.now in
    let by = c.args.by.now in
    let so_far = c.loop-number.invariant in
    let items = c.as_slice-number-items.result.now in
    let i = c.loop-number.number-index in
    let same = found_all self.rows c.loop-number.self.rows so_far.keys (take i items) c.in_ok-numbers.numbers (take_all i items c.loop-number-test.false ∙ c.as_slice-number-items.ensures) in
    subst (λ (keys : List g.row.F-Key.Denot). Follow (g.F.RowRule.keeps by.rule.now) g.F.RowRule.tells by.after.change.now.marks by.after.store.now.objects (has_key cmp keys) (row_at cmp self.used self.rows) (row_at cmp c.loop-number.self.used c.loop-number.self.rows)) same so_far.rows

pub returns-clause-differ : goal.returns-clause-differ
returns-clause-differ g c =
    let cmp = g.F.Key.Ord.cmp in
    let self = c.args.self.now in
    let now = c.loop-number.self in
    let so_far = c.loop-number.invariant in
    let items = c.as_slice-number-items.result.now in
    let i = c.loop-number.number-index in
    let same = found_all self.rows now.rows so_far.keys (take i items) c.in_ok-numbers.numbers (take_all i items c.loop-number-test.false ∙ c.as_slice-number-items.ensures) in
    subst (λ (keys : List g.row.F-Key.Denot). DifferAmong cmp keys now.differing (λ k. shown_in g.F.RowRule.row_in (row_at cmp self.used self.rows k)) (λ k. shown_in g.F.RowRule.row_in (row_at cmp now.used now.rows k))) same so_far.differ

pub returns-clause-met : goal.returns-clause-met
returns-clause-met g c = λ k n number.
    let cmp = g.F.Key.Ord.cmp in
    let self = c.args.self.now in
    let so_far = c.loop-number.invariant in
    let items = c.as_slice-number-items.result.now in
    let i = c.loop-number.number-index in
    let all : take i items ≡ items = take_all i items c.loop-number-test.false in
    let same = found_all self.rows c.loop-number.self.rows so_far.keys (take i items) c.in_ok-numbers.numbers (all ∙ c.as_slice-number-items.ensures) in
    ap (has_row n) (sym c.as_slice-number-items.ensures ∙ sym all) ∙ ap (is_among (take i items)) (sym number) ∙ sym (so_far.among k) ∙ ap (λ keys. has_key cmp keys k) same

pub returns-clause-steps : goal.returns-clause-steps
returns-clause-steps g c =
    let self = c.args.self.now in
    let by = c.args.by.now in
    let so_far = c.loop-number.invariant in
    let items = c.as_slice-number-items.result.now in
    let i = c.loop-number.number-index in
    let same = found_all self.rows c.loop-number.self.rows so_far.keys (take i items) c.in_ok-numbers.numbers (take_all i items c.loop-number-test.false ∙ c.as_slice-number-items.ensures) in
    subst (λ (keys : List g.row.F-Key.Denot). c.loop-number.steps ≤ c.args.steps.now + sum_by (λ key. cost by.after.store.now.objects ((g.F.RowRule.filter by.rule.now).reads by.after.store.now.objects key)) keys) same so_far.steps
