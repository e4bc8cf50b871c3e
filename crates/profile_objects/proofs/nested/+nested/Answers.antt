use Rattle.std.proofs.lemmas.Result.{err_from_is_err_and}
use Rattle.k8s_meta.specs.Spots.{seen}
use Rattle.k8s_meta.proofs.Loop.{starts, goes_on, ends, is_done}
use Rattle.k8s_meta.specs.declared.key.Key.TheVariants as keys
use Rattle.profile_objects.specs.Matches.{match_of}
use Rattle.profile_objects.proofs.Depths.{member_falls, negated_falls, item_falls, list_falls, only_falls}
use Rattle.profile_objects.proofs.nested.+nested.Goals as goal

pub items_of-match_here-requires : goal.items_of-match_here-requires
items_of-match_here-requires g t c = λ κs lives. (item_falls c.args.list.now c.loop-i.i c.index-list-i.result (seen c.args.place.now).at (seen c.item.result) t c.decreases c.loop-i-test.true c.index-list-i.is c.item.ensures, lives)

pub items_of-returns-in_err-item : goal.items_of-returns-in_err-item
items_of-returns-in_err-item g t c =
    let p = err_from_is_err_and c.from_residual.result c.from_residual.ensures.1 in
    rw (p.1, p.2) (ends (match_of (g.K.MatchKind.kind c.args.kind.now)) (seen c.args.place.now).at c.loop-i.found c.loop-i.i c.args.list.now c.index-list-i.result (seen c.item.result) c.in_err-item.field-0.0 c.loop-i-test.true c.index-list-i.is c.item.ensures c.in_err-item.ensures c.loop-i.invariant)

pub items_of-loop-i-init : goal.items_of-loop-i-init
items_of-loop-i-init g t c = rw c.new-found.ensures (starts (match_of (g.K.MatchKind.kind c.args.kind.now)) (seen c.args.place.now).at c.args.list.now)

pub items_of-loop-i-preserved : goal.items_of-loop-i-preserved
items_of-loop-i-preserved g t c =
    rw c.in_ok-add.ensures.ok (goes_on (match_of (g.K.MatchKind.kind c.args.kind.now)) (seen c.args.place.now).at c.loop-i.found c.loop-i.i c.args.list.now c.index-list-i.result (seen c.item.result) c.in_ok-item.item c.loop-i-test.true c.index-list-i.is c.item.ensures c.in_ok-item.ensures c.loop-i.invariant)

pub items_of-returns : goal.items_of-returns
items_of-returns g t c = is_done (match_of (g.K.MatchKind.kind c.args.kind.now)) (seen c.args.place.now).at c.loop-i.found c.loop-i.i c.args.list.now c.loop-i-test.false c.loop-i.invariant

pub match_here-list_here-requires : goal.match_here-list_here-requires
match_here-list_here-requires g t c = λ κs lives. (member_falls (seen c.args.place.now) _ (seen c.member.result) keys.All t c.decreases c.in_ok-object.ensures c.member.ensures, lives)

pub match_here-list_here-requires-2 : goal.match_here-list_here-requires-2
match_here-list_here-requires-2 g t c = λ κs lives. (member_falls (seen c.args.place.now) _ (seen c.member-2.result) keys.Any t c.decreases c.in_ok-object.ensures c.member-2.ensures, lives)

pub match_here-negated_here-requires : goal.match_here-negated_here-requires
match_here-negated_here-requires g t c = λ κs lives. (negated_falls (seen c.args.place.now) _ (seen c.member-3.result) keys.Not t c.decreases c.in_ok-object.ensures c.member-3.ensures, lives)

pub list_here-items_of-requires : goal.list_here-items_of-requires
list_here-items_of-requires g t c = λ κs lives. (list_falls (seen c.args.place.now) c.in_ok-list.list.now t c.decreases c.in_ok-list.ensures, lives)

pub negated_here-match_here-requires : goal.negated_here-match_here-requires
negated_here-match_here-requires g t c = λ κs lives. (only_falls (seen c.args.place.now) (seen c.in_ok-negated.negated) t c.decreases c.in_ok-negated.ensures, lives)
