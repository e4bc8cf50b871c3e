use Rattle.std.proofs.Common.{◌≡◌, ◌∷◌, ◌++◌, ◌&&◌, [], false, List, Some, IsSome, refl, sym, ap, subst}
use Rattle.std.specs.Option.{option_to_list}
use Rattle.std.specs.Ordering.{eq_by_cmp, nat_cmp}
use Rattle.slab.specs.Slab.{with_value}
use Rattle.slab.proofs.SlabLemmas.{Updates-with_value}
use Rattle.row_table.specs.IndexRows.{DifferAmong, has_key}
use Rattle.row_table.specs.KeyNumbers.{PutsAt}
use Rattle.row_table.specs.TableRows.{Follow, kept_at, key_in, row_at, shown_in}
use Rattle.row_table.specs.declared.table_rows.KeptRow.{KeptRow}
use Rattle.row_table.proofs.Differing.{differ_more, shown_put}
use Rattle.row_table.proofs.Followed.{follow_put}
use Rattle.row_table.proofs.Puts.{updated}
use Rattle.row_table.proofs.Tied.{keys_stay, row_put, row_there, tied_followed}
use Rattle.row_table.proofs.Users.{ok_then}
use Rattle.row_table.proofs.table_rows.TableRows.follow_number.Goals as goal

pub returns-in_ok-rewatch-in-Some-clause-tied : goal.returns-in_ok-rewatch-in-Some-clause-tied
returns-in_ok-rewatch-in-Some-clause-tied g c =
    let cmp = g.F.Key.Ord.cmp in
    let self = c.args.self.now in
    let n = c.args.number in
    let before = c.in-Some.row.now in
    let after : KeptRow g.row.F-Key.Denot g.row.F-Kept.Denot = record { key = before.key; kept = c.follow.new.kept } in
    let new = with_value self.rows n after in
    let there : kept_at self.rows n ≡ Some before = sym c.in-Some.ensures.value in
    let put : PutsAt nat_cmp n (Some after) (kept_at self.rows) (kept_at new) =
    updated n (Some after) self.rows new (Updates-with_value self.rows n after (subst IsSome c.in-Some.ensures.value refl)) in
    ok_then c.note_differing.result c.note_differing.ensures (λ noted.
    tied_followed cmp g.met.F.Key.Ord.total g.met.F.RowRule.exact g.F.RowRule.marks_in self.used self.rows new self.watched c.rewatch.new.self n before after c.requires.tied there refl put
    (c.in_ok-rewatch-in-Some.ensures (g.F.RowRule.marks_in before.kept) c.in_ok-followed-in-Some.ensures.marks))

pub returns-in_ok-rewatch-in-Some-clause-same : goal.returns-in_ok-rewatch-in-Some-clause-same
returns-in_ok-rewatch-in-Some-clause-same g c =
    let cmp = g.F.Key.Ord.cmp in
    let self = c.args.self.now in
    let n = c.args.number in
    let before = c.in-Some.row.now in
    let after : KeptRow g.row.F-Key.Denot g.row.F-Kept.Denot = record { key = before.key; kept = c.follow.new.kept } in
    let new = with_value self.rows n after in
    let there : kept_at self.rows n ≡ Some before = sym c.in-Some.ensures.value in
    let put : PutsAt nat_cmp n (Some after) (kept_at self.rows) (kept_at new) =
    updated n (Some after) self.rows new (Updates-with_value self.rows n after (subst IsSome c.in-Some.ensures.value refl)) in
    ok_then c.note_differing.result c.note_differing.ensures (λ noted.
    keys_stay cmp g.met.F.Key.Ord.total g.met.F.RowRule.exact g.F.RowRule.marks_in self.used self.rows new self.watched c.rewatch.new.self n before after c.requires.tied there refl put)

pub returns-in_ok-rewatch-in-Some-clause-rows : goal.returns-in_ok-rewatch-in-Some-clause-rows
returns-in_ok-rewatch-in-Some-clause-rows g c =
    let cmp = g.F.Key.Ord.cmp in
    let total = g.met.F.Key.Ord.total in
    let exact = g.met.F.RowRule.exact in
    let marks_in = g.F.RowRule.marks_in in
    let by = c.args.by.now in
    let self = c.args.self.now in
    let n = c.args.number in
    let before = c.in-Some.row.now in
    let after : KeptRow g.row.F-Key.Denot g.row.F-Kept.Denot = record { key = before.key; kept = c.follow.new.kept } in
    let new = with_value self.rows n after in
    let there : kept_at self.rows n ≡ Some before = sym c.in-Some.ensures.value in
    let put : PutsAt nat_cmp n (Some after) (kept_at self.rows) (kept_at new) =
    updated n (Some after) self.rows new (Updates-with_value self.rows n after (subst IsSome c.in-Some.ensures.value refl)) in
    let start = row_at cmp self.used self.rows in
    let end = row_at cmp self.used new in
    ok_then c.note_differing.result c.note_differing.ensures (λ noted.
    subst (λ (keys : List g.row.F-Key.Denot). Follow (g.F.RowRule.keeps by.rule.now) g.F.RowRule.tells by.after.change.now.marks by.after.store.now.objects (has_key cmp keys) start end) (ap (λ row. option_to_list (key_in row)) (sym there))
    (follow_put cmp total exact (g.F.RowRule.keeps by.rule.now) g.F.RowRule.tells by.after.change.now.marks by.after.store.now.objects before.key before after start end
    (row_there cmp total exact marks_in self.used self.rows new self.watched c.rewatch.new.self n before after c.requires.tied there refl put)
    (row_put cmp total exact marks_in self.used self.rows new self.watched c.rewatch.new.self n before after c.requires.tied there refl put)
    refl (λ held keeps leads. (c.in_ok-followed-in-Some.ensures.kept held keeps leads, c.in_ok-followed-in-Some.ensures.tells held keeps leads))))

pub returns-in_ok-rewatch-in-Some-clause-differ : goal.returns-in_ok-rewatch-in-Some-clause-differ
returns-in_ok-rewatch-in-Some-clause-differ g c =
    let cmp = g.F.Key.Ord.cmp in
    let total = g.met.F.Key.Ord.total in
    let exact = g.met.F.RowRule.exact in
    let marks_in = g.F.RowRule.marks_in in
    let row_in = g.F.RowRule.row_in in
    let self = c.args.self.now in
    let n = c.args.number in
    let before = c.in-Some.row.now in
    let after : KeptRow g.row.F-Key.Denot g.row.F-Kept.Denot = record { key = before.key; kept = c.follow.new.kept } in
    let new = with_value self.rows n after in
    let there : kept_at self.rows n ≡ Some before = sym c.in-Some.ensures.value in
    let put : PutsAt nat_cmp n (Some after) (kept_at self.rows) (kept_at new) =
    updated n (Some after) self.rows new (Updates-with_value self.rows n after (subst IsSome c.in-Some.ensures.value refl)) in
    let start = row_at cmp self.used self.rows in
    let end = row_at cmp self.used new in
    let shown = λ (k : g.row.F-Key.Denot). shown_in row_in (end k) in
    let key = before.key in
    let differs = c.in_ok-followed-in-Some.followed.differs in
    let stays : (k : g.row.F-Key.Denot) → (differs && eq_by_cmp cmp k key) ≡ false → shown_in row_in (end k) ≡ shown_in row_in (start k) =
    shown_put cmp total exact row_in key before after start end
    (row_put cmp total exact marks_in self.used self.rows new self.watched c.rewatch.new.self n before after c.requires.tied there refl put)
    (row_there cmp total exact marks_in self.used self.rows new self.watched c.rewatch.new.self n before after c.requires.tied there refl put)
    differs c.in_ok-followed-in-Some.ensures.row in
    ok_then c.note_differing.result c.note_differing.ensures (λ noted first found so_far.
    subst (λ (keys : List g.row.F-Key.Denot). DifferAmong cmp keys c.note_differing.new.differing first shown) (ap (λ row. found ++ option_to_list (key_in row)) (sym there))
    (subst (λ (keys : List g.row.F-Key.Denot). DifferAmong cmp (found ++ key ∷ []) keys first shown) (sym noted)
    (differ_more cmp key differs found self.differing first (λ k. shown_in row_in (start k)) shown stays so_far)))
