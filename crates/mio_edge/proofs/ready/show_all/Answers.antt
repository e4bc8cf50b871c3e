use Rattle.std.proofs.Common.{◌≡◌, ◌+◌, ◌*◌, ◌≤◌, suc, length, vec_len, ap, sym, append_assoc, ◌++◌, ◌∙◌, arith}
use Rattle.std.specs.Slice.Iter.{iter_rest}
use Rattle.mio.specs.Events.{items}
use Rattle.mio_edge.specs.Shown.{shown_of}
use Rattle.mio_edge.proofs.ready.show_all.Goals as goal

pub loop-event-preserved : goal.loop-event-preserved
loop-event-preserved c =
    let step : length (iter_rest c.loop-event.event-iterator) ≡ suc (length (iter_rest c.next.new.self)) = ap length c.in-Some.ensures.steps in
    let len = c.loop-event.invariant.0 in
    let more = c.show.ensures.len in
    let fits : vec_len c.show.new.shown + 2 * length (iter_rest c.next.new.self) ≤ vec_len c.args.shown.now + 2 * length (items c.args.ready.now) = omega arith in
    let shown = ap (λ xs. xs ++ shown_of (iter_rest c.next.new.self)) c.show.ensures.items ∙ append_assoc c.loop-event.shown.items _ _ ∙ ap (λ xs. c.loop-event.shown.items ++ shown_of xs) (sym c.in-Some.ensures.steps) ∙ c.loop-event.invariant.3 in
    (fits, c.show.ensures.capacity ∙ c.loop-event.invariant.1, λ first last h. c.show.ensures.numbered first last (c.loop-event.invariant.2 first last h), shown)
