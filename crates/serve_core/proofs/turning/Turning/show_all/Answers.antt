use Rattle.std.proofs.Common.{◌+◌, drop, refl, ap, ◌∙◌}
use Rattle.std.proofs.lemmas.List.{drop_all}
use Rattle.std.proofs.lemmas.Result.{err_from_is_err_and}
use Rattle.serve_core.specs.declared.turning.Turning.{Turning}
use Rattle.serve_core.proofs.CallSteps.{new_closes, no_new}
use Rattle.serve_core.proofs.ShownEvents.{next_event, show_begins, show_cut, show_ends, show_goes_on}
use Rattle.serve_core.proofs.turning.Turning.show_all.Goals as goal

pub loop-event-init : goal.loop-event-init
loop-event-init g c = record {
  calls = no_new g.N.Links c.args.links.now;
  shows = show_begins c.args.events.now (drop 0 c.args.events.now) (g.N.Links.trace c.args.links.now) c.args.self.now refl;
  same = refl;
}

pub loop-event-preserved : goal.loop-event-preserved
loop-event-preserved g c =
    let T = g.N.Links.trace in
    let before = c.loop-event.invariant in
    let i = c.loop-event.event-index in
    let shown = c.args.events.now in
    let new = c.show.new.self in
    record {
      calls = new_closes g.N.Links c.args.links.now c.loop-event.links c.show.new.links before.calls c.show.ensures.calls;
      shows = show_goes_on shown (drop i shown) (T c.args.links.now) c.args.self.now (T c.loop-event.links) c.loop-event.self before.shows _ (drop (i + 1) shown) (T c.show.new.links) new
          (next_event shown i _ c.loop-event-test.true) c.in_ok-show.ensures.shows;
      same = c.in_ok-show.ensures.same ∙ ap (λ (t : Turning). record t { kept = new.kept }) before.same;
    }

pub returns-in_err-show-clause-shows : goal.returns-in_err-show-clause-shows
returns-in_err-show-clause-shows g c =
    let T = g.N.Links.trace in
    let before = c.loop-event.invariant in
    let i = c.loop-event.event-index in
    let shown = c.args.events.now in
    let p = err_from_is_err_and c.from_residual.result c.from_residual.ensures.1 in
    rw p.1 (show_cut shown (drop i shown) (T c.args.links.now) c.args.self.now (T c.loop-event.links) c.loop-event.self before.shows _ (drop (i + 1) shown) p.0 (T c.show.new.links) c.show.new.self
    (next_event shown i _ c.loop-event-test.true) c.in_err-show.ensures.shows)

pub returns-clause-shows : goal.returns-clause-shows
returns-clause-shows g c =
    let T = g.N.Links.trace in
    let i = c.loop-event.event-index in
    let shown = c.args.events.now in
    show_ends shown (drop i shown) (T c.args.links.now) c.args.self.now (T c.loop-event.links) c.loop-event.self c.loop-event.invariant.shows (drop_all i shown c.loop-event-test.false)

pub returns-clause-same : goal.returns-clause-same
returns-clause-same g c = c.loop-event.invariant.same
