use Rattle.std.proofs.Common.{List, subst, sym}
use Rattle.endpoint_index.specs.Told.{notes_at}
use Rattle.view_diff.specs.Earlier.{Stood}
use Rattle.shared_endpoints.specs.Sharing.{Changed}
use Rattle.shared_endpoints.proofs.ByKey.{changed_at, not_changed, ok_then}
use Rattle.shared_endpoints.proofs.by_key.change_at.Goals as goal

pub returns-in-Some-clause-changed : goal.returns-in-Some-clause-changed
returns-in-Some-clause-changed c =
    let new = c.change_streams.new.streams in
    ok_then c.change_streams.result c.change_streams.ensures.changed (λ changed.
    changed_at c.args.key.now c.in-Some.streams.now new c.args.by_key.now (c.get_mut.follows.lender new) (sym c.in-Some.ensures.value) (c.get_mut.follows.holds new) (notes_at c.args.index.now)
    (subst (λ (before : List Stood). Changed before c.in-Some.streams.now new) c.before-in-Some.ensures.notes changed))

pub returns-in-None-clause-changed : goal.returns-in-None-clause-changed
returns-in-None-clause-changed c =
    not_changed c.args.key.now c.args.by_key.now c.get_mut.follows.lender-at-none (sym c.in-None.ensures.value) c.get_mut.follows.holds-at-none (notes_at c.args.index.now)
