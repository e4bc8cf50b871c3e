use Rattle.std.proofs.Common.{◌≡◌, ◌<◌, refl, Bool, true, false, length, not, sym, ap, ◌∙◌, cond, rules}
use Rattle.std.specs.BTreeSet.{contains}
use Rattle.watch_events.proofs.Apart.{found, goes_on, same_symm}
use Rattle.watch_events.proofs.list.repeated.Goals as goal

held : (b added : Bool) → added ≡ not b → added ≡ false → b ≡ true
held true added e h = refl
held false added e h = let bad : true ≡ false = sym e ∙ h in cc

new : (b added : Bool) → added ≡ not b → added ≡ true → b ≡ false
new true added e h = let bad : false ≡ true = sym e ∙ h in cc
new false added e h = refl

pub returns-then-not-branch : goal.returns-then-not-branch
returns-then-not-branch g c =
    let lt : c.loop-place.place < length c.args.items.now = search rules in
    let table = g.T.KindTable.table c.args.table.now in
    let symm = same_symm g.T.Key.Ord.cmp g.met.T.Key.Ord.total table.same (g.met.T.KindTable.same_keys c.args.table.now) in
    let was = contains g.T.Key.Ord.cmp c.loop-place.seen in
    found table.same symm table.key c.args.items.now c.loop-place.place c.index-items-place.result lt c.index-items-place.is was c.loop-place.invariant
    (ap was (sym c.in_ok-key.ensures) ∙ held (was c.in_ok-key.field-0) c.in_ok-insert.field-0 c.in_ok-insert.ensures.added c.if-not-branch.true)

pub loop-place-preserved : goal.loop-place-preserved
loop-place-preserved g c =
    let lt : c.loop-place.place < length c.args.items.now = search rules in
    let table = g.T.KindTable.table c.args.table.now in
    let tells = g.met.T.KindTable.same_keys c.args.table.now in
    let symm = same_symm g.T.Key.Ord.cmp g.met.T.Key.Ord.total table.same tells in
    let was = contains g.T.Key.Ord.cmp c.loop-place.seen in
    goes_on table.same symm table.key c.args.items.now c.loop-place.place c.index-items-place.result lt c.index-items-place.is was c.loop-place.invariant
    (contains g.T.Key.Ord.cmp c.insert.new.self) (ap was (sym c.in_ok-key.ensures) ∙ new (was c.in_ok-key.field-0) c.in_ok-insert.field-0 c.in_ok-insert.ensures.added c.if-not-branch.false)
    (λ q. c.in_ok-insert.ensures.updates.0 q ∙ ap (λ (b : Bool). cond b true (was q)) (tells c.in_ok-key.field-0 q)
    ∙ ap (λ (k : g.row.T-Key.Denot). cond (table.same k q) true (was q)) c.in_ok-key.ensures)
