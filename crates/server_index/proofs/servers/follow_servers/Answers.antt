use Rattle.std.proofs.Common.{ℕ, List, cond, refl, sym, ◌∙◌, arith}
use Rattle.std.proofs.lemmas.Bool.{or_parts}
use Rattle.std.proofs.lemmas.List.Sums.{sum_by-take-le}
use Rattle.view_types.specs.declared.mark.Mark.TheVariants.{Obj}
use Rattle.view_types.specs.declared.mark.Mark.{Mark}
use Rattle.mark_rules.proofs.Counts.{sum_steps, sum_stops}
use Rattle.mark_rules.specs.Marks.{same_mark}
use Rattle.server_index.specs.Matches.{names_server}
use Rattle.server_index.proofs.Names.{all_up, none_less, one_less}
use Rattle.server_index.proofs.servers.follow_servers.Goals as goal

abbrev one_if_named : List ℕ → Mark → ℕ
one_if_named ns mark = cond (names_server ns mark) 1 0

pub loop-mark-init : goal.loop-mark-init
loop-mark-init g c =
    let port = c.args.port.now in
    record {
      servers = none_less port.from.now.store.now.objects port.key.now port.pod.now (λ k mark. same_mark (Obj k) mark) c.args.changed.now c.args.servers.now;
      same = λ e. refl;
      notes = c.requires;
      steps = omega arith;
    }

pub loop-mark-preserved : goal.loop-mark-preserved
loop-mark-preserved g c =
    let port = c.args.port.now in
    record {
      servers = one_less port.from.now.store.now.objects port.key.now port.pod.now (λ k mark. same_mark (Obj k) mark) c.args.changed.now c.loop-mark.mark-index c.mark-item.result c.args.servers.now c.loop-mark.servers c.follow_mark.new.servers
          c.loop-mark-test.true c.mark-item.is c.loop-mark.invariant.servers c.in_ok-differs_now.ensures.servers;
      same = λ e.
          let parts = or_parts _ _ (sym c.either-differs.ensures ∙ e) in
          c.in_ok-differs_now.ensures.same parts.1 ∙ c.loop-mark.invariant.same parts.0;
      notes = c.in_ok-differs_now.ensures.notes;
      steps = sum_steps (one_if_named port.key.now.ns) c.args.changed.now c.loop-mark.mark-index c.mark-item.result c.args.steps.now c.loop-mark.steps c.follow_mark.new.steps
          c.loop-mark-test.true c.mark-item.is c.loop-mark.invariant.steps c.follow_mark.ensures.steps;
    }

pub returns-clause-servers : goal.returns-clause-servers
returns-clause-servers g c =
    let port = c.args.port.now in
    all_up port.from.now.store.now.objects port.key.now port.pod.now (λ k mark. same_mark (Obj k) mark) c.args.changed.now c.loop-mark.mark-index c.args.servers.now c.loop-mark.servers c.loop-mark-test.false c.loop-mark.invariant.servers

pub returns-clause-steps : goal.returns-clause-steps
returns-clause-steps g c =
    let whole = sum_by-take-le (one_if_named c.args.port.now.key.now.ns) c.args.changed.now c.loop-mark.mark-index in
    let so_far = c.loop-mark.invariant.steps in
    omega (arith, whole, so_far)

pub returns-in_err-differs_now-clause-steps : goal.returns-in_err-differs_now-clause-steps
returns-in_err-differs_now-clause-steps g c =
    sum_stops (one_if_named c.args.port.now.key.now.ns) c.args.changed.now c.loop-mark.mark-index c.mark-item.result c.args.steps.now c.loop-mark.steps c.follow_mark.new.steps
    c.loop-mark-test.true c.mark-item.is c.loop-mark.invariant.steps c.follow_mark.ensures.steps
