use Rattle.std.proofs.Common.{rules, sym, subst}
use Rattle.mem_links.specs.OpenNumbers.{Shows, numbers_of}
use Rattle.mem_links.proofs.OpenTraces.{shows_too}
use Rattle.mem_links.proofs.play.Play.show.Goals as goal

pub loop-step-preserved-in-Some-take_step : goal.loop-step-preserved-in-Some-take_step
loop-step-preserved-in-Some-take_step c =
    let last = c.args.self.now.last in
    let numbers = numbers_of c.args.self.now.links.items in
    record {
      few = search rules;
      grows = search rules;
      told = search rules;
      told_len = search rules;
      room = search rules;
      told_room = search rules;
      links = search rules;
      may_fail = search rules;
      shows = subst (λ shown. Shows last numbers shown c.take_step.new.self.last (numbers_of c.take_step.new.self.links.items)) (sym c.push.ensures.events) (shows_too _ _ _ _ _ _ _ _ c.loop-step.invariant.shows c.in-Some-take_step.ensures.shows);
    }
